-- Why a crew's audit was full: a worker's log had no room for its next entry.
use Rattle.std.proofs.Common.{◌≡◌, ℕ, ◌≤◌, List, [], ◌∷◌, ◌++◌, ◌∙◌, Option, Some, length, refl, sym, ap, subst, arith, append_assoc}
use Rattle.std.specs.Prelude.{IfSome, IsSome}
use Rattle.std.specs.List.{AllByRecursion}
use Rattle.std.proofs.lemmas.List.{map-append}
use Rattle.std.proofs.lemmas.List.Sums.{sum_by-append}
use Rattle.std.proofs.lemmas.List.Concat.{flat_map-append}
use Rattle.yew_laws.specs.Bag.{PartOfBag}
use Rattle.yew_laws.specs.Order.{only, occurs}
use Rattle.yew_laws.specs.SearchTree.{SearchTree, at_path}
use Rattle.yew_laws.proofs.Bags.{part-trans, part-left}
use Rattle.yew_log.specs.Groups.{sequential}
use Rattle.yew_log.specs.HeldValues.{plain, HeldIsMaximum}
use Rattle.yew_log.specs.Lawful.{IsBrokenLog}
use Rattle.yew_log.specs.Notes.{Note, Judgement, path_of, path_numbers, judgements, judgement_in, paths, taken_in, sent_in, ended_in, taken_paths, sent_paths, ended_paths}
use Rattle.yew_log.specs.Places.{AtEach}
use Rattle.yew_log.specs.Segment.{Segment, entries, entries_in, IsBroken, AreOfTree, OneOfAKind, IsOnce}
use Rattle.yew_walk.specs.LogViews.{LogView, log_after}
use Rattle.yew_walk.specs.Scenes.{IsCause}
use Rattle.yew_walk.specs.declared.fault.SearchFault.{SearchFault}
use Rattle.yew_walk.specs.declared.fault.SearchFault.TheVariants.{Memory, AuditFull, TooManyTasks}
use Rattle.yew_walk.proofs.PlainRuns.{log_after-told, log_after-number, fresh-told}
use Rattle.yew_laws.proofs.Members.{AllByRecursion-append}
use Rattle.yew_crew.specs.CrewSearch.{IsCrewFault}
use Rattle.yew_crew.specs.Reports.{IsPartWork, IsFaulty, IsAlone}
use Rattle.yew_crew.specs.Stations.{Searched, skeleton_of}
use Rattle.yew_crew.specs.declared.coord.Coord.{Coord}
use Rattle.yew_crew.specs.declared.coord.Coord.TheVariants.{Depth, Budget, Steal}
use Rattle.yew_crew.specs.declared.station.Station.{Station}
use Rattle.yew_crew.proofs.OnceOnly.{Doing, IsDoing}
use Rattle.yew_crew.proofs.WorkEnds.{plain-kind}

-- a crew is no sequential search
not-sequential : {X : Type 0} (coord : Coord) → skeleton_of coord ≡ sequential → X
not-sequential (Depth depth) e = absurd (cc)
not-sequential (Budget every) e = absurd (cc)
not-sequential (Steal chunk) e = absurd (cc)

-- the front of a list keeps its facts
all-front : {X : Type 0} (P : X → Type 0) (xs ys : List X) → AllByRecursion P (xs ++ ys) → AllByRecursion P xs
all-front P [] ys a = tt
all-front P (x ∷ xs) ys a = (a.0, all-front P xs ys a.1)

each-front : {X : Type 0} (P : List X → X → Type 0) (before xs ys : List X) → AtEach (λ b x a. P b x) before (xs ++ ys) → AtEach (λ b x a. P b x) before xs
each-front P before [] ys a = tt
each-front P before (x ∷ xs) ys a = (a.0, each-front P (before ++ x ∷ []) xs ys a.1)

once-front : (ps qs rs : List (List ℕ)) → ps ≡ qs ++ rs → IsOnce ps → IsOnce qs
once-front ps qs rs e once path = let a = ap (occurs path) e in let b = sum_by-append (only path) qs rs in let c = once path in omega arith

kinds-front : (xs ys : List Note) → OneOfAKind (xs ++ ys) → OneOfAKind xs
kinds-front xs ys one = record {
  taken_once = once-front _ (taken_paths xs) (taken_paths ys) (flat_map-append taken_in xs ys) one.taken_once;
  judged_once = once-front _ (paths (judgements xs)) (paths (judgements ys)) (ap paths (flat_map-append judgement_in xs ys) ∙ map-append (λ (j : Judgement). j.path) (judgements xs) (judgements ys)) one.judged_once;
  sent_once = once-front _ (sent_paths xs) (sent_paths ys) (flat_map-append sent_in xs ys) one.sent_once;
  ended_once = once-front _ (ended_paths xs) (ended_paths ys) (flat_map-append ended_in xs ys) one.ended_once;
}

-- the entries of broken segments are of the tree
broken-in_tree : {N : Type 0} (t : SearchTree N) (segments : List Segment) → AllByRecursion (IsBroken t) segments → AreOfTree t (entries segments)
broken-in_tree t [] each = tt
broken-in_tree t (x ∷ xs) each = AllByRecursion-append (λ note. IsSome (at_path t (path_of note))) (entries_in x) (entries xs) each.0.in_tree (broken-in_tree t xs each.1)

-- a log that was new and tells its entries tells just these
told-all : (before after : LogView) (notes told : List Note) → IfSome before.told (λ ns. ns ≡ []) → after ≡ log_after before notes
    → after.told ≡ Some told → told ≡ notes
told-all before after notes told new is e =
    subst (λ (o : Option (List Note)). IfSome o (λ ns. ns ≡ notes)) e (fresh-told before.told after.told notes new (ap (λ (l : LogView). l.told) is ∙ log_after-told before notes))

module _ {N : Type 0} (t : SearchTree N) (gap : ℕ) (coord : Coord) (workers number : ℕ) (tells : Type 0) (before after : LogView) (notes : List Note) where
  -- a worker's log, which was new and had these entries, had no room for its next entry, or memory ran out
  pub full-audit : (fault : SearchFault) (ahead : List Note) → IsCause fault after ahead
      → IfSome before.told (λ ns. ns ≡ []) → before.number ≡ number → 1 ≤ number → number ≤ workers → after ≡ log_after before notes
      → IsBrokenLog t gap plain notes → IsBrokenLog t gap plain (notes ++ ahead) → (workers ≡ 1 → HeldIsMaximum (notes ++ ahead))
      → (IsSome after.told → tells) → OneOfAKind (notes ++ ahead) → IsCrewFault t gap (skeleton_of coord) workers tells fault
  full-audit Memory ahead cause new number_is low high is keeps keeps_ahead alone telling one = tt
  full-audit (TooManyTasks n) ahead cause new number_is low high is keeps keeps_ahead alone telling one = absurd cause
  full-audit (AuditFull worker es ns) [] cause new number_is low high is keeps keeps_ahead alone telling one = absurd cause
  full-audit (AuditFull worker es ns) (next ∷ more) cause new number_is low high is keeps keeps_ahead alone telling one =
      let full = cause.1 in
      let same = told-all before after notes full.notes new is full.are_told in
      let own : worker ≡ number = cause.0 ∙ (ap (λ (l : LogView). l.number) is ∙ (log_after-number before notes ∙ number_is)) in
      let front : notes ++ next ∷ more ≡ (notes ++ next ∷ []) ++ more = sym (append_assoc notes (next ∷ []) more) in
      let in_tree = broken-in_tree t keeps_ahead.segments keeps_ahead.each in
      let tree : AreOfTree t (notes ++ next ∷ more) = subst (AreOfTree t) (sym keeps_ahead.cut_up) in_tree in (
        telling (subst IsSome (sym full.are_told) refl),
        (
          omega arith,
          omega arith,
          record {
            notes = notes;
            next = next;
            full = record {
              notes = notes;
              are_told = refl;
              entries_are = full.entries_are ∙ ap length same;
              numbers_are = full.numbers_are ∙ ap path_numbers same;
              within = full.within;
              past = full.past;
            };
            in_tree = all-front (λ note. IsSome (at_path t (path_of note))) (notes ++ next ∷ []) more (subst (AreOfTree t) front tree);
            one_of_a_kind = kinds-front (notes ++ next ∷ []) more (subst OneOfAKind front one);
            keeps = subst (λ kind. IsBrokenLog t gap kind notes) (sym (plain-kind coord)) keeps;
            alone = λ e. each-front _ [] notes (next ∷ more) (alone e);
            sequential_next = λ e. not-sequential coord e;
          },
        ),
      )

module _ {N S R : Type 0} (s : Searched S R N) (before after : Station N S R) where
  -- what a worker did that came to no end of its own
  abbrev pub doing_of : (ahead : List Note) → IsPartWork s ahead before after → Doing
  doing_of ahead part = record { notes = part.notes ++ ahead; took = part.took ++ part.got; sent = part.put ++ part.given }

  pub part-doing : (ahead : List Note) (part : IsPartWork s ahead before after) → IsDoing s.tree (doing_of ahead part)
  part-doing ahead part = record {
    segments = part.keeps_ahead.segments;
    cut_up = part.keeps_ahead.cut_up;
    each = part.keeps_ahead.each;
    taken_are = part.taken_are;
    sent_are = part-trans part.sent_are (subst (λ (ps : List (List ℕ)). PartOfBag (sent_paths part.notes) ps) (sym (flat_map-append sent_in part.notes ahead)) (part-left (sent_paths part.notes) (sent_paths ahead)));
  }

  -- a fault of this worker is one of the crew
  pub faulty-crew : (workers number : ℕ) (tells : Type 0) (fault : SearchFault) (faulty : IsFaulty s fault before after)
      → IfSome (s.seen before.log).told (λ ns. ns ≡ []) → (s.seen before.log).number ≡ number → 1 ≤ number → number ≤ workers
      → (workers ≡ 1 → IsAlone before) → (IsSome (s.seen after.log).told → tells)
      → OneOfAKind (faulty.part.notes ++ faulty.ahead) → IsCrewFault s.tree s.gap (skeleton_of s.coord) workers tells fault
  faulty-crew workers number tells fault faulty new number_is low high alone telling one =
      let part = faulty.part in
      full-audit s.tree s.gap s.coord workers number tells (s.seen before.log) (s.seen after.log) part.notes fault faulty.ahead faulty.cause
      new number_is low high part.log_is part.keeps part.keeps_ahead (λ e. part.alone (alone e)) telling one
