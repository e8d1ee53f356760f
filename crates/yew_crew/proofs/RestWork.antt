-- What the caller walked of what was left belongs to the first worker's log: what the passes left and what the mail seats left are told apart, and each held value is later than all that worker noted.
use Rattle.std.proofs.Common.{◌≡◌, ℕ, List, ◌++◌, ◌∙◌, sym, ap, append-nil, arith}
use Rattle.std.proofs.lemmas.List.{map-append}
use Rattle.yew_best.specs.Seats.{SeatView}
use Rattle.yew_laws.specs.Bag.{SameBag}
use Rattle.yew_laws.specs.SearchTree.{SearchTree, below}
use Rattle.yew_laws.specs.declared.problem.Task.{Task}
use Rattle.yew_laws.proofs.Bags.{same-is, same-sym, same-trans, same-flat_map}
use Rattle.yew_log.specs.Notes.{Note}
use Rattle.yew_stack.specs.Splits.{paths_of}
use Rattle.yew_walk.specs.LogViews.{LogView}
use Rattle.yew_walk.specs.declared.hand.Hand.{Hand}
use Rattle.yew_crew.specs.Groups.{Group, taken, IsBalanced}
use Rattle.yew_crew.specs.Resting.{IsRested}
use Rattle.yew_crew.specs.Stations.{searched}
use Rattle.yew_crew.specs.declared.coord.Coord.{Coord}
use Rattle.yew_crew.specs.declared.coord.Coord.TheVariants.{Depth}
use Rattle.yew_crew.proofs.LaterWalks.{IsKnown, all-later}
use Rattle.yew_crew.proofs.RestEnds.{IsRestWork}
use Rattle.yew_crew.proofs.WalkedParts.{same-length}

-- the tasks of a group, told apart in another way
abbrev pub retold : {N S : Type 0} → Group N S → List (List ℕ) → List (List ℕ) → Group N S
retold g took got = record g { took = took; got = got }

module _ {N S : Type 0} (t : SearchTree N) (gap : ℕ) (join : S → S → S) (none : S) (of : N → ℕ → S) where
  pub rebalanced : (g : Group N S) (took got : List (List ℕ)) → SameBag (took ++ got) (taken g) → IsBalanced t gap join none of g → IsBalanced t gap join none of (retold g took got)
  rebalanced g took got same b = record {
    covered = same-trans b.covered (same-sym (same-flat_map (below t) same));
    walked = record { weighs = λ h. (let a = b.walked.weighs h in let c = same.weighs h in omega arith) };
    worths = b.worths;
    bounds = b.bounds;
    permitted = b.permitted;
    inner = b.inner;
    made_are = b.made_are;
    ended_are = b.ended_are ∙ sym (same-length same);
    offered_are = b.offered_are;
    read_are = b.read_are;
    nodes = b.nodes;
    visited_are = b.visited_are;
    sum_is = b.sum_is;
  }

module _ {N S R : Type 0} (t : SearchTree N) (join : S → S → S) (none : S) (of : N → ℕ → S) (seen : R → LogView) (coord : Coord) (gap : ℕ) where
  abbrev pub rest-work : (own : List Note) (pool mail left : List (Task N)) (seat seat' : SeatView) (hand hand' : Hand S) (log log' : R) → left ≡ pool ++ mail → IsKnown own seat
      → IsRested (searched t join none of seen (Depth 0) gap) (paths_of left) seat hand log seat' hand' log' → IsRestWork (searched t join none of seen coord gap) own hand log hand' log'
  rest-work own pool mail left seat seat' hand hand' log log' left_is known r =
      let g = r.group in
      let all : SameBag (paths_of pool ++ paths_of mail) (taken g) =
      same-trans (same-is (sym (map-append (λ (x : Task N). x.path.numbers) pool mail) ∙ ap paths_of (sym left_is)))
      (same-trans (same-sym r.took_is) (same-is (sym (append-nil g.took) ∙ ap (λ l. g.took ++ l) (sym r.got_none)))) in
      record {
        group = retold g (paths_of pool) (paths_of mail);
        segments = r.segments;
        balanced = rebalanced t gap join none of g (paths_of pool) (paths_of mail) all r.balanced;
        walks = r.walks;
        visits_are = r.visits_are;
        cuts_are = r.cuts_are;
        tasks_are = same-trans r.tasks_are (same-sym all);
        sent_none = r.sent_none;
        put_none = r.put_none;
        given_none = r.given_none;
        later = all-later own t gap r.segments seat seat' known r.goes;
        log_is = r.log_is;
        best_is = r.best_is;
        sum_is = r.sum_is;
      }
