-- The visits and the cuts of one worker of an ordered search: in which task each lies, in which order, and by which words they were decided.
use Rattle.std.proofs.Common.{◌≡◌, ℕ, ◌<◌, ◌≤◌, ⊎_elim, Option, Some, None, List, [], ◌∷◌, ◌++◌, map, refl, ap, ap₂, sym, subst, ◌∙◌, append_assoc, append-nil, arith}
use Rattle.std.specs.Prelude.{IsSome, slice_get}
use Rattle.std.specs.List.{AllByRecursion, Contains, flat_map}
use Rattle.std.proofs.lemmas.List.{map-append}
use Rattle.std.proofs.lemmas.List.Concat.{flat_map-append}
use Rattle.yew_best.specs.Seats.{SeatView}
use Rattle.yew_laws.specs.Incumbent.{Incumbent}
use Rattle.yew_laws.specs.SearchTree.{SearchTree, at_path, bound_at, below}
use Rattle.yew_laws.specs.Tree.{IsRanked}
use Rattle.yew_laws.proofs.Bags.{same-part}
use Rattle.yew_laws.proofs.Below.{AtOrBelow, below-unfolds}
use Rattle.yew_laws.proofs.Members.{AllByRecursion-append, AllByRecursion-weaker, Contains-head, Contains-tail}
use Rattle.yew_laws.proofs.PathTests.{is_path-same, is_path-is}
use Rattle.yew_laws.proofs.Weights.{part-all}
use Rattle.yew_laws.specs.Order.{is_path}
use Rattle.yew_log.specs.Notes.{Judgement, visits, cuts, visit_in, cut_in, paths, visited_paths, cut_paths, sent_paths}
use Rattle.yew_log.specs.Segment.{Segment, entries, entries_in, IsSegment}
use Rattle.yew_walk.specs.declared.keying.Keying.{Keying}
use Rattle.yew_walk.specs.declared.keying.Keying.TheVariants.{Ranked}
use Rattle.yew_walk.specs.Hands.{best_after}
use Rattle.yew_walk.specs.Seats.{SeatGoes}
use Rattle.yew_walk.specs.WorkerLogs.{KeyedSegment, segments_of, SeatGoesOn}
use Rattle.yew_ranked.specs.RankedSearch.{RankedJudgement, key_of_judgement, plain_judgement, ItemsInOrder, ranked_answer}
use Rattle.yew_ranked.specs.Tasks.{Numbered, tasks_of_tree}
use Rattle.yew_ranked.specs.Stations.{best_along, AreRising, IsTaskWalk, AreTaskWalks}
use Rattle.yew_ranked.proofs.BrokenFronts.{all-front}
use Rattle.yew_ranked.proofs.FirstBestVisits.{at-node, node-sound, cut-inside}
use Rattle.yew_ranked.proofs.GatheredAnswers.{answer-walk, answer-append}
use Rattle.yew_ranked.proofs.HeardOthers.{all-back}
use Rattle.yew_ranked.proofs.RankedWalks.{all-at, IsCause, of_base, of_visit, of_heard, contains-either, contains-of, offered-more, offered-behind, in_order-append}
use Rattle.yew_ranked.proofs.RankedWalks.{ranked_visits, ranked_cuts, visits-plain, cuts-plain, visits-item, goes-in, visits-offered, words-read, cuts-permitted, visits-in_order, cuts-caused}
use Rattle.yew_ranked.proofs.TaskRanks.{ranks-rise}

-- what holds of mapped members
pub all-unmap : {X Y : Type 0} (P : Y → Type 0) (f : X → Y) (xs : List X) → AllByRecursion P (map f xs) → AllByRecursion (λ x. P (f x)) xs
all-unmap P f [] a = tt
all-unmap P f (x ∷ xs) a = (a.0, all-unmap P f xs a.1)

pub all-both : {X : Type 0} (P Q R : X → Type 0) → ((x : X) → P x → Q x → R x) → (xs : List X) → AllByRecursion P xs → AllByRecursion Q xs → AllByRecursion R xs
all-both P Q R f [] a b = tt
all-both P Q R f (x ∷ xs) a b = (f x a.0 b.0, all-both P Q R f xs a.1 b.1)

module _ {N : Type 0} (t : SearchTree N) (depth : ℕ) where
  -- a visit or a cut lies in the task at one of these places
  pub record IsAtPlaces (places : List ℕ) (j : RankedJudgement) : Type 0 where
    pub place : ℕ
    pub among : Contains places place
    pub task : Numbered
    pub there : slice_get (tasks_of_tree t depth) place ≡ Some task
    pub item_is : j.item ≡ task.rank
    pub at : AtOrBelow task.path j.path

  pub places-more : (place : ℕ) (places : List ℕ) (j : RankedJudgement) → IsAtPlaces places j → IsAtPlaces (place ∷ places) j
  places-more place places j i = record { place = i.place; among = Contains-tail place places i.place i.among; task = i.task; there = i.there; item_is = i.item_is; at = i.at }

  -- the seat along the walk of a task
  abbrev pub by_rank : (task : Numbered) (walk : KeyedSegment) (old new : SeatView) → IsTaskWalk t task walk → SeatGoes t walk.keying old (entries_in walk.segment) new → SeatGoes t (Ranked task.rank) old (entries_in walk.segment) new
  by_rank task walk old new is g = subst (λ (k : Keying). SeatGoes t k old (entries_in walk.segment) new) is.keys g

  -- the visits and the cuts of all walks of a worker, in order
  abbrev pub on_visits : (places : List ℕ) (walks : List KeyedSegment) (first now : SeatView) → AreTaskWalks t (tasks_of_tree t depth) places walks → SeatGoesOn t first walks now → List RankedJudgement
  on_visits [] [] first now are goes = []
  on_visits [] (w ∷ ws) first now are goes = absurd are
  on_visits (p ∷ ps) [] first now are goes = absurd are
  on_visits (p ∷ ps) (w ∷ ws) first now are goes =
      ranked_visits t are.0.0.rank first goes.0 (entries_in w.segment) (by_rank are.0.0 w first goes.0 are.0.2 goes.1) ++ on_visits ps ws goes.0 now are.1 goes.2

  abbrev pub on_cuts : (places : List ℕ) (walks : List KeyedSegment) (first now : SeatView) → AreTaskWalks t (tasks_of_tree t depth) places walks → SeatGoesOn t first walks now → List RankedJudgement
  on_cuts [] [] first now are goes = []
  on_cuts [] (w ∷ ws) first now are goes = absurd are
  on_cuts (p ∷ ps) [] first now are goes = absurd are
  on_cuts (p ∷ ps) (w ∷ ws) first now are goes =
      ranked_cuts t are.0.0.rank first goes.0 (entries_in w.segment) (by_rank are.0.0 w first goes.0 are.0.2 goes.1) ++ on_cuts ps ws goes.0 now are.1 goes.2

  -- as the log has them
  pub on_visits-plain : (places : List ℕ) (walks : List KeyedSegment) (first now : SeatView) (are : AreTaskWalks t (tasks_of_tree t depth) places walks) (goes : SeatGoesOn t first walks now)
      → map plain_judgement (on_visits places walks first now are goes) ≡ visits (entries (segments_of walks))
  on_visits-plain [] [] first now are goes = refl
  on_visits-plain [] (w ∷ ws) first now are goes = absurd are
  on_visits-plain (p ∷ ps) [] first now are goes = absurd are
  on_visits-plain (p ∷ ps) (w ∷ ws) first now are goes =
      let g = by_rank are.0.0 w first goes.0 are.0.2 goes.1 in
      map-append plain_judgement (ranked_visits t are.0.0.rank first goes.0 (entries_in w.segment) g) (on_visits ps ws goes.0 now are.1 goes.2)
      ∙ (ap₂ (λ (a b : List Judgement). a ++ b) (visits-plain t are.0.0.rank first goes.0 (entries_in w.segment) g) (on_visits-plain ps ws goes.0 now are.1 goes.2)
      ∙ sym (flat_map-append visit_in (entries_in w.segment) (entries (segments_of ws))))

  pub on_cuts-plain : (places : List ℕ) (walks : List KeyedSegment) (first now : SeatView) (are : AreTaskWalks t (tasks_of_tree t depth) places walks) (goes : SeatGoesOn t first walks now)
      → map plain_judgement (on_cuts places walks first now are goes) ≡ cuts (entries (segments_of walks))
  on_cuts-plain [] [] first now are goes = refl
  on_cuts-plain [] (w ∷ ws) first now are goes = absurd are
  on_cuts-plain (p ∷ ps) [] first now are goes = absurd are
  on_cuts-plain (p ∷ ps) (w ∷ ws) first now are goes =
      let g = by_rank are.0.0 w first goes.0 are.0.2 goes.1 in
      map-append plain_judgement (ranked_cuts t are.0.0.rank first goes.0 (entries_in w.segment) g) (on_cuts ps ws goes.0 now are.1 goes.2)
      ∙ (ap₂ (λ (a b : List Judgement). a ++ b) (cuts-plain t are.0.0.rank first goes.0 (entries_in w.segment) g) (on_cuts-plain ps ws goes.0 now are.1 goes.2)
      ∙ sym (flat_map-append cut_in (entries_in w.segment) (entries (segments_of ws))))

  -- what the seat knew before is still there
  pub goes_on-in : (walks : List KeyedSegment) (places : List ℕ) (first now : SeatView) → AreTaskWalks t (tasks_of_tree t depth) places walks → SeatGoesOn t first walks now
      → ((x : ℕ) → Contains first.read x → Contains now.read x) × ((x : ℕ) → Contains first.heard x → Contains now.heard x)
  goes_on-in [] [] first now are goes = subst (λ (s : SeatView). ((x : ℕ) → Contains first.read x → Contains s.read x) × ((x : ℕ) → Contains first.heard x → Contains s.heard x)) (sym goes) ((λ x c. c), (λ x c. c))
  goes_on-in (w ∷ ws) [] first now are goes = absurd are
  goes_on-in [] (p ∷ ps) first now are goes = absurd are
  goes_on-in (w ∷ ws) (p ∷ ps) first now are goes =
      let one = goes-in t are.0.0.rank first goes.0 (entries_in w.segment) (by_rank are.0.0 w first goes.0 are.0.2 goes.1) in
      let more = goes_on-in ws ps goes.0 now are.1 goes.2 in ((λ x c. more.0 x (one.read x c)), (λ x c. more.1 x (one.heard x c)))

  -- the seat has offered the keys of its visits
  pub on_visits-offered : (places : List ℕ) (walks : List KeyedSegment) (first now : SeatView) (are : AreTaskWalks t (tasks_of_tree t depth) places walks) (goes : SeatGoesOn t first walks now)
      → now.offered ≡ first.offered ++ map key_of_judgement (on_visits places walks first now are goes)
  on_visits-offered [] [] first now are goes = ap (λ (s : SeatView). s.offered) goes ∙ sym (append-nil first.offered)
  on_visits-offered [] (w ∷ ws) first now are goes = absurd are
  on_visits-offered (p ∷ ps) [] first now are goes = absurd are
  on_visits-offered (p ∷ ps) (w ∷ ws) first now are goes =
      let g = by_rank are.0.0 w first goes.0 are.0.2 goes.1 in
      let vs = ranked_visits t are.0.0.rank first goes.0 (entries_in w.segment) g in
      let more = on_visits ps ws goes.0 now are.1 goes.2 in
      on_visits-offered ps ws goes.0 now are.1 goes.2
      ∙ (ap (λ l. l ++ map key_of_judgement more) (visits-offered t are.0.0.rank first goes.0 (entries_in w.segment) g)
      ∙ (append_assoc first.offered (map key_of_judgement vs) (map key_of_judgement more) ∙ ap (λ l. first.offered ++ l) (sym (map-append key_of_judgement vs more))))

  -- the words of all visits and cuts were read
  abbrev AreRead : SeatView → List RankedJudgement → Type 0
  AreRead seat js = AllByRecursion (λ (j : RankedJudgement). Contains seat.read j.word) js

  pub on-read : (places : List ℕ) (walks : List KeyedSegment) (first now : SeatView) (are : AreTaskWalks t (tasks_of_tree t depth) places walks) (goes : SeatGoesOn t first walks now)
      → AreRead now (on_visits places walks first now are goes) × AreRead now (on_cuts places walks first now are goes)
  on-read [] [] first now are goes = (tt, tt)
  on-read [] (w ∷ ws) first now are goes = absurd are
  on-read (p ∷ ps) [] first now are goes = absurd are
  on-read (p ∷ ps) (w ∷ ws) first now are goes =
      let g = by_rank are.0.0 w first goes.0 are.0.2 goes.1 in
      let vs = ranked_visits t are.0.0.rank first goes.0 (entries_in w.segment) g in
      let cs = ranked_cuts t are.0.0.rank first goes.0 (entries_in w.segment) g in
      let one = words-read t are.0.0.rank first goes.0 (entries_in w.segment) g in
      let more = on-read ps ws goes.0 now are.1 goes.2 in
      let later = goes_on-in ws ps goes.0 now are.1 goes.2 in (
        AllByRecursion-append (λ (j : RankedJudgement). Contains now.read j.word) vs (on_visits ps ws goes.0 now are.1 goes.2)
            (AllByRecursion-weaker (λ (j : RankedJudgement). Contains goes.0.read j.word) (λ (j : RankedJudgement). Contains now.read j.word) (λ j c. later.0 j.word c) vs one.0) more.0,
        AllByRecursion-append (λ (j : RankedJudgement). Contains now.read j.word) cs (on_cuts ps ws goes.0 now are.1 goes.2)
            (AllByRecursion-weaker (λ (j : RankedJudgement). Contains goes.0.read j.word) (λ (j : RankedJudgement). Contains now.read j.word) (λ j c. later.0 j.word c) cs one.1) more.1,
      )

  -- each cut was permitted by its word
  pub on_cuts-permitted : (places : List ℕ) (walks : List KeyedSegment) (first now : SeatView) (are : AreTaskWalks t (tasks_of_tree t depth) places walks) (goes : SeatGoesOn t first walks now)
      → AllByRecursion (λ (c : RankedJudgement). key_of_judgement c ≤ c.word) (on_cuts places walks first now are goes)
  on_cuts-permitted [] [] first now are goes = tt
  on_cuts-permitted [] (w ∷ ws) first now are goes = absurd are
  on_cuts-permitted (p ∷ ps) [] first now are goes = absurd are
  on_cuts-permitted (p ∷ ps) (w ∷ ws) first now are goes =
      let g = by_rank are.0.0 w first goes.0 are.0.2 goes.1 in
      let cs = ranked_cuts t are.0.0.rank first goes.0 (entries_in w.segment) g in
      AllByRecursion-append (λ (c : RankedJudgement). key_of_judgement c ≤ c.word) cs (on_cuts ps ws goes.0 now are.1 goes.2)
      (AllByRecursion-weaker (λ (c : RankedJudgement). (c.item ≡ are.0.0.rank) × (key_of_judgement c ≤ c.word)) (λ (c : RankedJudgement). key_of_judgement c ≤ c.word)
      (λ c x. x.1) cs (cuts-permitted t are.0.0.rank first goes.0 (entries_in w.segment) g))
      (on_cuts-permitted ps ws goes.0 now are.1 goes.2)

  -- the best visit along the walks is the answer of the visits
  pub on-answer : (incumbent : Incumbent) (places : List ℕ) (walks : List KeyedSegment) (first now : SeatView) (are : AreTaskWalks t (tasks_of_tree t depth) places walks) (goes : SeatGoesOn t first walks now)
      → ranked_answer incumbent (on_visits places walks first now are goes) ≡ best_along incumbent walks
  on-answer incumbent [] [] first now are goes = refl
  on-answer incumbent [] (w ∷ ws) first now are goes = absurd are
  on-answer incumbent (p ∷ ps) [] first now are goes = absurd are
  on-answer incumbent (p ∷ ps) (w ∷ ws) first now are goes =
      let rank = are.0.0.rank in
      let g = by_rank are.0.0 w first goes.0 are.0.2 goes.1 in
      let vs = ranked_visits t rank first goes.0 (entries_in w.segment) g in
      let one : ranked_answer incumbent vs ≡ best_after w.keying incumbent (visits w.segment.body) =
      answer-walk rank incumbent vs (visits-item t rank first goes.0 (entries_in w.segment) g)
      ∙ (ap (λ js. best_after (Ranked rank) incumbent js) (visits-plain t rank first goes.0 (entries_in w.segment) g) ∙ ap (λ (k : Keying). best_after k incumbent (visits w.segment.body)) (sym are.0.2.keys)) in
      answer-append incumbent vs (on_visits ps ws goes.0 now are.1 goes.2)
      ∙ (ap (λ i. ranked_answer i (on_visits ps ws goes.0 now are.1 goes.2)) one ∙ on-answer (best_after w.keying incumbent (visits w.segment.body)) ps ws goes.0 now are.1 goes.2)

  module _ {sound : N → Type 0} (ranked : IsRanked sound t.children t.rank) (root : sound t.root) where
    -- a member of the paths at and below a path
    below-head : (P : List ℕ → Type 0) (cs : List Judgement) (more : List (List ℕ)) → AllByRecursion (λ (c : Judgement). bound_at t c.path ≡ Some c.value) cs
        → AllByRecursion P (flat_map (below t) (paths cs ++ more)) → AllByRecursion P (paths cs)
    below-head P [] more bounds a = tt
    below-head P (c ∷ cs) more bounds a =
        let at = at-node (at_path t c.path) t.bound c.value bounds.0 in
        let first = all-front P (below t c.path) (flat_map (below t) (paths cs ++ more)) a in
        let unfolds = below-unfolds t ranked c.path at.node at.is (node-sound t ranked root c.path at.node at.is) in
        ((subst (AllByRecursion P) unfolds first).0, below-head P cs more bounds.1 (all-back P (below t c.path) (flat_map (below t) (paths cs ++ more)) a))

    there-node : (o : Option N) → IsSome o → (n : N) × (o ≡ Some n)
    there-node None s = absurd (let no : IsSome {T = N} None → ⊥ = λ x. cc in no s)
    there-node (Some n) s = (n, refl)

    -- the visits and the cuts of a segment lie at or below its task
    segment-inside : (s : Segment) → IsSegment t s → IsSome (at_path t s.task) → AllByRecursion (AtOrBelow s.task) (visited_paths s.body) × AllByRecursion (AtOrBelow s.task) (cut_paths s.body)
    segment-inside s is there =
        let n = there-node (at_path t s.task) there in
        let all = part-all is_path is_path-same is_path-is (AtOrBelow s.task) (same-part is.all_covered) (cut-inside t ranked root s.task n.0 n.1) in (
          all-front (AtOrBelow s.task) (visited_paths s.body) (flat_map (below t) (cut_paths s.body ++ sent_paths s.body)) all,
          below-head (AtOrBelow s.task) (cuts s.body) (sent_paths s.body) is.valued.bounds (all-back (AtOrBelow s.task) (visited_paths s.body) (flat_map (below t) (cut_paths s.body ++ sent_paths s.body)) all),
        )

    -- each visit and each cut lies in the task at its place
    inside-at : (p : ℕ) (ps : List ℕ) (task : Numbered) (walk : KeyedSegment) → slice_get (tasks_of_tree t depth) p ≡ Some task → IsTaskWalk t task walk → (js : List RankedJudgement)
        → AllByRecursion (λ (j : RankedJudgement). j.item ≡ task.rank) js → AllByRecursion (AtOrBelow walk.segment.task) (paths (map plain_judgement js)) → AllByRecursion (IsAtPlaces (p ∷ ps)) js
    inside-at p ps task walk there is [] items inside = tt
    inside-at p ps task walk there is (j ∷ js) items inside =
        (record { place = p; among = Contains-head p ps; task = task; there = there; item_is = items.0; at = subst (λ (q : List ℕ). AtOrBelow q j.path) is.task_is inside.0 }, inside-at p ps task walk there is js items.1 inside.1)

    pub on-places : (places : List ℕ) (walks : List KeyedSegment) (first now : SeatView) (are : AreTaskWalks t (tasks_of_tree t depth) places walks) (goes : SeatGoesOn t first walks now)
        → AllByRecursion (IsAtPlaces places) (on_visits places walks first now are goes) × AllByRecursion (IsAtPlaces places) (on_cuts places walks first now are goes)
    on-places [] [] first now are goes = (tt, tt)
    on-places [] (w ∷ ws) first now are goes = absurd are
    on-places (p ∷ ps) [] first now are goes = absurd are
    on-places (p ∷ ps) (w ∷ ws) first now are goes =
        let rank = are.0.0.rank in
        let g = by_rank are.0.0 w first goes.0 are.0.2 goes.1 in
        let vs = ranked_visits t rank first goes.0 (entries_in w.segment) g in
        let cs = ranked_cuts t rank first goes.0 (entries_in w.segment) g in
        let inside = segment-inside w.segment are.0.2.is_segment are.0.2.is_broken.in_tree.0 in
        let more = on-places ps ws goes.0 now are.1 goes.2 in (
          AllByRecursion-append (IsAtPlaces (p ∷ ps)) vs (on_visits ps ws goes.0 now are.1 goes.2)
              (inside-at p ps are.0.0 w are.0.1 are.0.2 vs (visits-item t rank first goes.0 (entries_in w.segment) g)
              (subst (λ js. AllByRecursion (AtOrBelow w.segment.task) (paths js)) (sym (visits-plain t rank first goes.0 (entries_in w.segment) g)) inside.0))
              (AllByRecursion-weaker (IsAtPlaces ps) (IsAtPlaces (p ∷ ps)) (places-more p ps) (on_visits ps ws goes.0 now are.1 goes.2) more.0),
          AllByRecursion-append (IsAtPlaces (p ∷ ps)) cs (on_cuts ps ws goes.0 now are.1 goes.2)
              (inside-at p ps are.0.0 w are.0.1 are.0.2 cs
              (AllByRecursion-weaker (λ (c : RankedJudgement). (c.item ≡ rank) × (key_of_judgement c ≤ c.word)) (λ (c : RankedJudgement). c.item ≡ rank) (λ c x. x.0) cs (cuts-permitted t rank first goes.0 (entries_in w.segment) g))
              (subst (λ js. AllByRecursion (AtOrBelow w.segment.task) (paths js)) (sym (cuts-plain t rank first goes.0 (entries_in w.segment) g)) inside.1))
              (AllByRecursion-weaker (IsAtPlaces ps) (IsAtPlaces (p ∷ ps)) (places-more p ps) (on_cuts ps ws goes.0 now are.1 goes.2) more.1),
        )

    -- a judgement at later places is of another item
    later-item : (p : ℕ) (ps : List ℕ) (task : Numbered) → slice_get (tasks_of_tree t depth) p ≡ Some task → AllByRecursion (λ q. p < q) ps → (j : RankedJudgement) → IsAtPlaces ps j → task.rank < j.item
    later-item p ps task there rising j i =
        let less = all-at (λ q. p < q) ps i.place rising i.among in
        let r = ranks-rise t depth p i.place task i.task there i.there less in
        let e = i.item_is in omega (arith, r, e)

    -- the visits of a worker are in order
    pub on-order : (places : List ℕ) (walks : List KeyedSegment) (first now : SeatView) (are : AreTaskWalks t (tasks_of_tree t depth) places walks) (goes : SeatGoesOn t first walks now)
        → AreRising places → ItemsInOrder (on_visits places walks first now are goes)
    on-order [] [] first now are goes rising = tt
    on-order [] (w ∷ ws) first now are goes rising = absurd are
    on-order (p ∷ ps) [] first now are goes rising = absurd are
    on-order (p ∷ ps) (w ∷ ws) first now are goes rising =
        let rank = are.0.0.rank in
        let g = by_rank are.0.0 w first goes.0 are.0.2 goes.1 in
        let vs = ranked_visits t rank first goes.0 (entries_in w.segment) g in
        let more = on_visits ps ws goes.0 now are.1 goes.2 in
        in_order-append vs more (visits-in_order t rank first goes.0 (entries_in w.segment) g are.0.2.is_segment.rises) (on-order ps ws goes.0 now are.1 goes.2 rising.1)
        (AllByRecursion-weaker (λ (v : RankedJudgement). v.item ≡ rank) (λ (v : RankedJudgement). AllByRecursion (λ (u : RankedJudgement). v.item ≡ u.item → ⊥) more)
        (λ v e. AllByRecursion-weaker (IsAtPlaces ps) (λ (u : RankedJudgement). v.item ≡ u.item → ⊥)
        (λ u i same. let l = later-item p ps are.0.0 are.0.1 rising.0 u i in omega (arith, l, e, same)) more (on-places ps ws goes.0 now are.1 goes.2).0)
        vs (visits-item t rank first goes.0 (entries_in w.segment) g))

    -- the cause of each cut
    pub on-causes : (places : List ℕ) (walks : List KeyedSegment) (first now : SeatView) (are : AreTaskWalks t (tasks_of_tree t depth) places walks) (goes : SeatGoesOn t first walks now)
        → AreRising places → AllByRecursion (IsCause first.offered (on_visits places walks first now are goes) now.heard) (on_cuts places walks first now are goes)
    on-causes [] [] first now are goes rising = tt
    on-causes [] (w ∷ ws) first now are goes rising = absurd are
    on-causes (p ∷ ps) [] first now are goes rising = absurd are
    on-causes (p ∷ ps) (w ∷ ws) first now are goes rising =
        let rank = are.0.0.rank in
        let mid = goes.0 in
        let g = by_rank are.0.0 w first mid are.0.2 goes.1 in
        let vs = ranked_visits t rank first mid (entries_in w.segment) g in
        let cs = ranked_cuts t rank first mid (entries_in w.segment) g in
        let more = on_visits ps ws mid now are.1 goes.2 in
        let later = on_cuts ps ws mid now are.1 goes.2 in
        AllByRecursion-append (IsCause first.offered (vs ++ more) now.heard) cs later
        (AllByRecursion-weaker (IsCause first.offered vs mid.heard) (IsCause first.offered (vs ++ more) now.heard) (first-cause first.offered vs more mid.heard now.heard (goes_on-in ws ps mid now are.1 goes.2).1) cs
        (cuts-caused t rank first mid (entries_in w.segment) g are.0.2.is_segment.rises))
        (all-both (IsAtPlaces ps) (IsCause mid.offered more now.heard) (IsCause first.offered (vs ++ more) now.heard)
        (λ c i cause. later-cause first.offered mid.offered vs more now.heard rank (visits-item t rank first mid (entries_in w.segment) g)
        (visits-offered t rank first mid (entries_in w.segment) g) c (later-item p ps are.0.0 are.0.1 rising.0 c i) cause)
        later (on-places ps ws mid now are.1 goes.2).1 (on-causes ps ws mid now are.1 goes.2 rising.1))
      where
        first-cause : (base : List ℕ) (vs more : List RankedJudgement) (heard heard' : List ℕ) → ((x : ℕ) → Contains heard x → Contains heard' x) → (c : RankedJudgement) → IsCause base vs heard c → IsCause base (vs ++ more) heard' c
        first-cause base vs more heard heard' keeps c (of_base x) = of_base x
        first-cause base vs more heard heard' keeps c (of_visit o) = of_visit (offered-more vs more c o)
        first-cause base vs more heard heard' keeps c (of_heard x) = of_heard (keeps c.word x)

        later-cause : (base mid : List ℕ) (vs more : List RankedJudgement) (heard : List ℕ) (rank : ℕ) → AllByRecursion (λ (v : RankedJudgement). v.item ≡ rank) vs → mid ≡ base ++ map key_of_judgement vs
            → (c : RankedJudgement) → rank < c.item → IsCause mid more heard c → IsCause base (vs ++ more) heard c
        later-cause base mid vs more heard rank items is c less (of_base x) = ⊎_elim
            (λ (y : Contains base c.word). of_base y)
            (λ (y : Contains (map key_of_judgement vs) c.word).
            let u = contains-of key_of_judgement vs c.word y in
            of_visit (offered-more vs more c record { visit = u.0; among = u.1; word_is = sym u.2; earlier = λ e. absurd (let i = all-at (λ (v : RankedJudgement). v.item ≡ rank) vs u.0 items u.1 in omega (arith, i, e, less)) }))
            (contains-either base (map key_of_judgement vs) c.word (subst (λ l. Contains l c.word) is x))
        later-cause base mid vs more heard rank items is c less (of_visit o) = of_visit (offered-behind vs more c o)
        later-cause base mid vs more heard rank items is c less (of_heard x) = of_heard x
