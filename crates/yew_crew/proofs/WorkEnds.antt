-- A worker that came to its end has a lawful log, which its group and its hand belong to.
use Rattle.std.proofs.Common.{◌≡◌, ℕ, false, List, [], ◌++◌, ◌∙◌, refl, sym, ap, subst, arith, inl, append-nil}
use Rattle.std.specs.Prelude.{IfSome}
use Rattle.std.proofs.lemmas.List.Sums.{sum_by-append}
use Rattle.yew_laws.specs.Bag.{SameBag}
use Rattle.yew_laws.specs.Fold.{IsTally}
use Rattle.yew_laws.specs.SearchTree.{SearchTree}
use Rattle.yew_laws.proofs.Bags.{same-is, same-sym, same-trans}
use Rattle.yew_log.specs.HeldValues.{plain, IsJudged}
use Rattle.yew_log.specs.Lawful.{HasShape, key_kind_of}
use Rattle.yew_log.specs.Notes.{Note, sent_paths, spawned_paths, handed_paths}
use Rattle.yew_log.specs.Segment.{Segment, entries}
use Rattle.yew_log.specs.Totals.{no_totals, totals_after}
use Rattle.yew_log.proofs.Walks.{AreSmall}
use Rattle.yew_walk.specs.LogViews.{LogView, log_after}
use Rattle.yew_walk.specs.Hands.{best_after}
use Rattle.yew_walk.specs.declared.keying.Keying.TheVariants.{Plain}
use Rattle.yew_walk.proofs.PlainRuns.{log_after-told, log_after-number, log_after-totals, small-none, fresh-told}
use Rattle.yew_crew.specs.CrewSearch.{IsLogOf}
use Rattle.yew_crew.specs.Groups.{Group}
use Rattle.yew_crew.specs.Reports.{IsDone, IsAlone}
use Rattle.yew_crew.specs.Stations.{Searched, skeleton_of}
use Rattle.yew_crew.specs.declared.coord.Coord.{Coord}
use Rattle.yew_crew.specs.declared.coord.Coord.TheVariants.{Depth, Budget, Steal}
use Rattle.yew_crew.specs.declared.station.Station.{Station}
use Rattle.yew_walk.proofs.BestFinds.{not_holding}
use Rattle.yew_crew.proofs.CrewWork.{group-fits}
use Rattle.yew_crew.proofs.Finished.{Finish, IsFinished}
use Rattle.yew_crew.proofs.SegmentSums.{taken-segments}
use Rattle.yew_crew.proofs.WalkedParts.{sent-dealt}

-- a crew reads plain worths
pub plain-kind : (coord : Coord) → key_kind_of (skeleton_of coord) ≡ plain
plain-kind (Depth depth) = refl
plain-kind (Budget every) = refl
plain-kind (Steal chunk) = refl

module _ {N : Type 0} (t : SearchTree N) where
  -- a crew's logs may have any segments
  pub any-shape : (coord : Coord) (workers number : ℕ) (segments : List Segment) → HasShape t (skeleton_of coord) workers number segments
  any-shape (Depth depth) workers number segments = tt
  any-shape (Budget every) workers number segments = tt
  any-shape (Steal chunk) workers number segments = tt

-- a log that was new has these entries
pub new-log : (number : ℕ) (before after : LogView) (notes : List Note) → IfSome before.told (λ ns. ns ≡ []) → before.totals ≡ no_totals
    → before.number ≡ number → after ≡ log_after before notes → IsLogOf number notes after
new-log number before after notes told totals number_is is = record {
  told = fresh-told before.told after.told notes told (ap (λ (l : LogView). l.told) is ∙ log_after-told before notes);
  totals_are = ap (λ (l : LogView). l.totals) is ∙ (log_after-totals before notes (subst AreSmall (sym totals) small-none) ∙ ap (λ u. totals_after u notes) totals);
  number_is = ap (λ (l : LogView). l.number) is ∙ (log_after-number before notes ∙ number_is);
}

-- the Spawned and the Handed entries are all that is sent
pub sent-parts : (notes : List Note) (put given : List (List ℕ)) → SameBag put (spawned_paths notes) → SameBag given (handed_paths notes)
    → SameBag (sent_paths notes) (put ++ given)
sent-parts notes put given a b = record { weighs = λ h. (let d = sent-dealt h notes in let e = sum_by-append h put given in let f = a.weighs h in let g = b.weighs h in omega arith) }

-- what a worker has done, noted and found
abbrev pub finish : {N S R : Type 0} → Group N S → List Segment → Station N S R → Finish S R N
finish group segments after = record { group = group; notes = entries segments; hand = after.hand; log = after.log }

module _ {N S R : Type 0} (s : Searched S R N) (workers : ℕ) {fits : S → Type 0} (tally : IsTally fits s.join s.none) (of_fits : (n : N) (depth : ℕ) → fits (s.of n depth)) where
  -- a worker that found no open task, for whom nothing was walked afterwards
  pub done-finished : (number : ℕ) (before after : Station N S R) → (done : IsDone s before after) → before.hand.sum ≡ s.none → before.hand.holds ≡ false
      → IfSome (s.seen before.log).told (λ ns. ns ≡ []) → (s.seen before.log).totals ≡ no_totals → (s.seen before.log).number ≡ number → (workers ≡ 1 → IsAlone before)
      → IsFinished s workers number (finish done.work.group done.segments.segments after)
  done-finished number before after done sum_none holds_none told totals number_is alone =
      let g = done.work.group in
      let segs = done.segments in
      record {
        visits_are = segs.visits_are;
        cuts_are = segs.cuts_are;
        taken_are = same-trans (same-is (taken-segments s.tree segs.segments segs.walks.each)) (same-sym segs.tasks_are);
        sent_are = sent-parts (entries segs.segments) g.put g.given segs.spawned_are segs.handed_are;
        lawful = record {
          segments = segs.segments;
          cut_up = refl;
          each = segs.walks.each;
          groups = record { own = segs.segments; rest = []; own_first = sym (append-nil segs.segments); groups = segs.walks.groups; rest_segments = tt; may_rest = inl refl; shape = any-shape s.tree s.coord workers number segs.segments };
          held_rises = segs.walks.held_rises;
          due = subst (λ kind. IsJudged s.tree s.gap kind (entries segs.segments)) (sym (plain-kind s.coord)) segs.walks.due;
          alone = λ e. segs.alone (alone e);
        };
        log_is = new-log number (s.seen before.log) (s.seen after.log) (entries segs.segments) told totals number_is segs.log_is;
        best_is = done.hand.best_is ∙ ap (λ i. best_after Plain i g.visits) (not_holding before.hand holds_none);
        sum_is = done.work.sum_is ∙ (ap (λ x. s.join x g.sum) sum_none ∙ tally.unit g.sum (group-fits s tally of_fits g done.work.balanced));
      }
