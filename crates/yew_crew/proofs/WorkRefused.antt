-- What a worker has done whose walk was refused: its whole segments, and one that was broken off.
use Rattle.std.proofs.Common.{◌≡◌, ℕ, ◌∙◌, List, [], ◌∷◌, ◌++◌, ◌⊎◌, inl, inr, map, refl, sym, ap, subst, append-nil}
use Rattle.std.specs.List.{AllByRecursion}
use Rattle.yew_best.specs.Seats.{SeatView, has_read}
use Rattle.yew_laws.specs.SearchTree.{SearchTree}
use Rattle.yew_laws.proofs.Members.{AllByRecursion-append, AllByRecursion-weaker}
use Rattle.yew_log.specs.HeldValues.{plain, HeldRises, HeldIsMaximum, IsJudged}
use Rattle.yew_log.specs.Lawful.{IsBrokenLog, IsBrokenWalk}
use Rattle.yew_log.specs.Notes.{Note, taken, visited, cut, spawned, handed, ended}
use Rattle.yew_log.specs.Places.{AtEach}
use Rattle.yew_log.specs.Segment.{Segment, segment, entries, entries_in, IsSegment, IsBroken, Begins}
use Rattle.yew_walk.specs.declared.keying.Keying.TheVariants.{Gap}
use Rattle.yew_walk.specs.Seats.{SeatGoes, has_offered}
use Rattle.yew_walk.specs.WorkerLogs.{SeatGoesOn}
use Rattle.yew_walk.proofs.WorkerLogs.{walks-rise, walks-judged, walks-exact, goes_on-push}
use Rattle.yew_crew.specs.Working.{gap_walk, IsWalkSegment}
use Rattle.yew_crew.specs.Stations.{Searched}
use Rattle.yew_crew.proofs.WorkDone.{gap-segments, gap-rise, gap-each, all-gap, each-segment}
use Rattle.yew_crew.proofs.WorkSteps.{entries-push}
use Rattle.yew_crew.proofs.WorkStopped.{whole-bodies}

map-push : {X Y : Type 0} (f : X → Y) (xs : List X) (x : X) → map f (xs ++ x ∷ []) ≡ map f xs ++ f x ∷ []
map-push f [] x = refl
map-push f (y ∷ ys) x = ap (λ l. f y ∷ l) (map-push f ys x)

module _ {N : Type 0} (t : SearchTree N) (gap : ℕ) where
  -- a seat along the first of some entries
  pub goes-front : (a c : SeatView) (xs ys : List Note) → SeatGoes t (Gap gap) a (xs ++ ys) c → (b : SeatView) × SeatGoes t (Gap gap) a xs b
  goes-front a c [] ys g = (a, refl)
  goes-front a c (visited p w h ∷ xs) ys g = let r = goes-front (has_offered (has_read a g.0) w) c xs ys g.2 in (r.0, (g.0, g.1, r.1))
  goes-front a c (cut p b h ∷ xs) ys g = let r = goes-front (has_read a g.0) c xs ys g.2 in (r.0, (g.0, g.1, r.1))
  goes-front a c (taken p ∷ xs) ys g = goes-front a c xs ys g
  goes-front a c (spawned p ∷ xs) ys g = goes-front a c xs ys g
  goes-front a c (handed p ∷ xs) ys g = goes-front a c xs ys g
  goes-front a c (ended p ∷ xs) ys g = goes-front a c xs ys g

  bodies-then : (before segments : List Segment) (last : Segment) → AllByRecursion (IsSegment t) segments → AtEach (λ b s a. s.body ≡ [] → a ≡ []) before (segments ++ last ∷ [])
  bodies-then before [] last a = ((λ _. refl), tt)
  bodies-then before (s ∷ ss) last a = ((λ none. absurd (subst (Begins s.task) none a.0.begins)), bodies-then (before ++ s ∷ []) ss last a.1)

  -- what a worker's log and its seat say together
  pub record IsBrokenWork (first now : SeatView) (notes : List Note) : Type 0 where
    pub keeps : IsBrokenLog t gap plain notes
    pub alone : first.offered ≡ [] → first.share ≡ first.best.seats → HeldIsMaximum notes

  module _ {S R : Type 0} (s : Searched S R N) (tree_is : s.tree ≡ t) (gap_is : s.gap ≡ gap) where
    wholes : (segments : List Segment) → AllByRecursion (IsWalkSegment s) segments → AllByRecursion (IsSegment t) segments
    wholes segments a = subst (λ tree. AllByRecursion (IsSegment tree) segments) tree_is (each-segment s segments a)

    brokens : (segments : List Segment) → AllByRecursion (IsWalkSegment s) segments → AllByRecursion (IsBroken t) segments
    brokens segments a = subst (λ tree. AllByRecursion (IsBroken tree) segments) tree_is (AllByRecursion-weaker (IsWalkSegment s) (IsBroken s.tree) (λ x p. p.is_broken) segments a)

    judged : (segments : List Segment) → AllByRecursion (IsWalkSegment s) segments → AllByRecursion (λ x. IsJudged t gap plain (entries_in x)) segments
    judged segments a =
        subst (λ g. AllByRecursion (λ x. IsJudged t g plain (entries_in x)) segments) gap_is
        (subst (λ tree. AllByRecursion (λ x. IsJudged tree s.gap plain (entries_in x)) segments) tree_is
        (AllByRecursion-weaker (IsWalkSegment s) (λ x. IsJudged s.tree s.gap plain (entries_in x)) (λ x p. p.judged) segments a))

    -- whole segments, and one that was broken off
    with-last : (first mid now : SeatView) (segments : List Segment) (last : Segment) → AllByRecursion (IsWalkSegment s) segments → SeatGoesOn t first (map (gap_walk gap) segments) mid → SeatGoes t (Gap gap) mid (entries_in last) now
        → IsBroken t last → HeldRises (entries_in last) → IsJudged t gap plain (entries_in last) → IsBrokenWork first now (entries segments ++ entries_in last)
    with-last first mid now segments last walks goes more broken rises due =
        let all = segments ++ last ∷ [] in
        let is = gap-segments gap all in
        let keys = gap-rise gap all in
        let on : SeatGoesOn t first (map (gap_walk gap) all) now = subst (λ l. SeatGoesOn t first l now) (sym (map-push (gap_walk gap) segments last))
        (goes_on-push t (map (gap_walk gap) segments) first mid now (gap_walk gap last) goes more) in
        let each_rises : AllByRecursion (λ x. HeldRises (entries_in x)) all = AllByRecursion-append _ segments (last ∷ []) (AllByRecursion-weaker (IsWalkSegment s) (λ x. HeldRises (entries_in x)) (λ x p. p.rises) segments walks) (rises, tt) in
        let each_due : AllByRecursion (λ x. IsJudged t gap plain (entries_in x)) all = AllByRecursion-append _ segments (last ∷ []) (judged segments walks) (due, tt) in
        let as_entries : entries all ≡ entries segments ++ entries_in last = entries-push segments last in
        record {
          keeps = record {
            segments = all;
            cut_up = sym as_entries;
            each = AllByRecursion-append (IsBroken t) segments (last ∷ []) (brokens segments walks) (broken, tt);
            only_last = bodies-then [] segments last (wholes segments walks);
            held_rises = subst HeldRises as_entries (subst (λ l. HeldRises (entries l)) is (walks-rise t (map (gap_walk gap) all) first now on keys (all-gap gap (λ x. HeldRises (entries_in x)) all each_rises)));
            due = subst (IsJudged t gap plain) as_entries (subst (λ l. IsJudged t gap plain (entries l)) is
                (walks-judged t gap plain (map (gap_walk gap) all) first now (gap-each gap all) on keys (all-gap gap (λ x. IsJudged t gap plain (entries_in x)) all each_due)));
          };
          alone = λ none whole. subst HeldIsMaximum as_entries (subst (λ l. HeldIsMaximum (entries l)) is (walks-exact t (map (gap_walk gap) all) first now on keys none whole));
        }

    -- whole segments alone
    pub without-last : (first now : SeatView) (segments : List Segment) → AllByRecursion (IsWalkSegment s) segments → SeatGoesOn t first (map (gap_walk gap) segments) now → IsBrokenWork first now (entries segments)
    without-last first now segments walks on =
        let is = gap-segments gap segments in
        let keys = gap-rise gap segments in
        record {
          keeps = record {
            segments = segments;
            cut_up = refl;
            each = brokens segments walks;
            only_last = whole-bodies t [] segments (wholes segments walks);
            held_rises = subst (λ l. HeldRises (entries l)) is (walks-rise t (map (gap_walk gap) segments) first now on keys
                (all-gap gap (λ x. HeldRises (entries_in x)) segments (AllByRecursion-weaker (IsWalkSegment s) (λ x. HeldRises (entries_in x)) (λ x p. p.rises) segments walks)));
            due = subst (λ l. IsJudged t gap plain (entries l)) is
                (walks-judged t gap plain (map (gap_walk gap) segments) first now (gap-each gap segments) on keys (all-gap gap (λ x. IsJudged t gap plain (entries_in x)) segments (judged segments walks)));
          };
          alone = λ none whole. subst (λ l. HeldIsMaximum (entries l)) is (walks-exact t (map (gap_walk gap) segments) first now on keys none whole);
        }

    -- whole segments, and what was noted of one more task before the walk was refused
    pub broken-work : (task : List ℕ) (first mid now : SeatView) (segments : List Segment) (notes : List Note) → AllByRecursion (IsWalkSegment s) segments
        → SeatGoesOn t first (map (gap_walk gap) segments) mid → SeatGoes t (Gap gap) mid notes now → IsBrokenWalk t gap plain task notes
        → (last : SeatView) × IsBrokenWork first last (entries segments ++ notes)
    broken-work task first mid now segments notes walks goes more b = by b.of_task
      where
        by : (b.keeps.segments ≡ []) ⊎ ((body : List Note) × (b.keeps.segments ≡ segment task body ∷ [])) → (last : SeatView) × IsBrokenWork first last (entries segments ++ notes)
        by (inl none) =
            let empty : notes ≡ [] = b.keeps.cut_up ∙ ap entries none in
            (mid, subst (IsBrokenWork first mid) (sym (append-nil (entries segments)) ∙ ap (λ l. entries segments ++ l) (sym empty)) (without-last first mid segments walks goes))
        by (inr one) =
            let last = segment task one.0 in
            let is : notes ≡ entries_in last = b.keeps.cut_up ∙ (ap entries one.1 ∙ append-nil (entries_in last)) in (
              now,
              subst (λ l. IsBrokenWork first now (entries segments ++ l)) (sym is) (with-last first mid now segments last walks goes (subst (λ l. SeatGoes t (Gap gap) mid l now) is more)
                  (subst (AllByRecursion (IsBroken t)) one.1 b.keeps.each).0 (subst HeldRises is b.keeps.held_rises) (subst (IsJudged t gap plain) is b.keeps.due)),
            )
