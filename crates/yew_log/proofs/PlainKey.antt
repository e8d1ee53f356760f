-- Under the plain key rule 8 on earlier visits follows from rule 7 and from the held value; rule 9 gives rule 7.
use Rattle.std.proofs.Common.{◌≢◌, ℕ, ◌<◌, ◌≤◌, List, [], ◌∷◌, ◌++◌, max, Option, Some, None, sym, subst, arith}
use Rattle.std.specs.Prelude.{IfSome}
use Rattle.std.specs.List.{AllByRecursion}
use Rattle.yew_laws.proofs.Members.{AllByRecursion-append, AllByRecursion-weaker}
use Rattle.yew_log.specs.Places.{AtEach}
use Rattle.yew_laws.specs.SearchTree.{SearchTree, bound_at}
use Rattle.yew_log.specs.Notes.{Note, taken, visited, cut, spawned, handed, ended, Judgement, judgement, values, held_values, visits, cuts, judgements, judgement_in, visit_in, maximum}
use Rattle.yew_log.specs.Attained.{limit}
use Rattle.yew_log.specs.HeldValues.{plain, IsLater, HeldRises, IsDue, IsJudged}
use Rattle.yew_log.specs.SeqLog.{visited_worth}
use Rattle.yew_log.proofs.Growth.{limit-grows, held_values-append}
use Rattle.yew_log.proofs.SeqLaws.{Exact, worth-append}

module _ {N : Type 0} (t : SearchTree N) (gap : ℕ) where
  lower : (o : Option ℕ) (w h : ℕ) → w ≤ h → IfSome o (λ b. limit gap h < b) → IfSome o (λ b. limit gap w < b)
  lower None w h le f = tt
  lower (Some b) w h le f = let g = limit-grows gap w h le in omega (arith, f, g)

  over_all : (v : Judgement) (us : List Judgement) → IfSome (bound_at t v.path) (λ b. limit gap v.held < b) → AllByRecursion (λ w. w ≤ v.held) (values us) → AllByRecursion (λ (u : Judgement). Unit {0} → IfSome (bound_at t v.path) (λ b. limit gap u.value < b)) us
  over_all v [] f a = tt
  over_all v (u ∷ us) f a = ((λ k. lower (bound_at t v.path) u.value v.held a.0 f), over_all v us f a.1)

  due-from_held : (before : List Note) (v : Judgement) → IfSome (bound_at t v.path) (λ b. limit gap v.held < b) → IsLater before v → IsDue t gap plain before v
  due-from_held before v f later = record { over_worths = over_all v (visits before) f later.of_worths; over_held = f }

  dues : (before notes : List Note) → AtEach (λ b n a. AllByRecursion (IsLater b) (judgement_in n)) before notes → AllByRecursion (λ v. v.path ≢ [] → IfSome (bound_at t v.path) (λ b. limit gap v.held < b)) (visits notes) → AtEach (λ b n a. AllByRecursion (λ v. v.path ≢ [] → IsDue t gap plain b v) (visit_in n)) before notes
  dues before [] l f = tt
  dues before (visited p w h ∷ ns) l f = (((λ ne. due-from_held before (judgement p w h) (f.0 ne) l.0.0), tt), dues (before ++ visited p w h ∷ []) ns l.1 f.1)
  dues before (cut p w h ∷ ns) l f = (tt, dues (before ++ cut p w h ∷ []) ns l.1 f)
  dues before (taken p ∷ ns) l f = (tt, dues (before ++ taken p ∷ []) ns l.1 f)
  dues before (spawned p ∷ ns) l f = (tt, dues (before ++ spawned p ∷ []) ns l.1 f)
  dues before (handed p ∷ ns) l f = (tt, dues (before ++ handed p ∷ []) ns l.1 f)
  dues before (ended p ∷ ns) l f = (tt, dues (before ++ ended p ∷ []) ns l.1 f)

  -- rule 8 under the plain key, by the held values alone
  pub IsJudged-plain : (notes : List Note) → HeldRises notes → AllByRecursion (λ v. v.path ≢ [] → IfSome (bound_at t v.path) (λ b. limit gap v.held < b)) (visits notes) → AllByRecursion (λ c. c.path ≢ []) (cuts notes) → AllByRecursion (λ c. c.value ≤ limit gap c.held) (cuts notes) → IsJudged t gap plain notes
  IsJudged-plain notes rises f below permitted = record { visits_due = dues [] notes rises f; cuts_below = below; cuts_permitted = permitted }

all-at_most : (ns : List ℕ) → AllByRecursion (λ n. n ≤ maximum ns) ns
all-at_most [] = tt
all-at_most (n ∷ ns) = (omega arith, AllByRecursion-weaker (λ k. k ≤ maximum ns) (λ k. k ≤ max n (maximum ns)) (λ k le. omega (arith, le)) ns (all-at_most ns))

-- the held values so far are at most the greatest worth so far
abbrev AtMostWorth : List Note → Type 0
AtMostWorth before = AllByRecursion (λ h. h ≤ visited_worth before) (held_values (judgements before))

at_most-push : (before : List Note) (note : Note) → AtMostWorth before → AllByRecursion (λ h. h ≤ visited_worth before) (held_values (judgement_in note)) → AtMostWorth (before ++ note ∷ [])
at_most-push before note a b =
    let grows = worth-append before (note ∷ []) in
    subst (AllByRecursion (λ h. h ≤ visited_worth (before ++ note ∷ []))) (sym (held_values-append before (note ∷ [])))
    (AllByRecursion-append (λ h. h ≤ visited_worth (before ++ note ∷ [])) (held_values (judgements before)) (held_values (judgements (note ∷ [])))
    (AllByRecursion-weaker (λ h. h ≤ visited_worth before) (λ h. h ≤ visited_worth (before ++ note ∷ [])) (λ h le. omega (arith, le, grows)) (held_values (judgements before)) a)
    (one note b))
  where
    one : (n : Note) → AllByRecursion (λ h. h ≤ visited_worth before) (held_values (judgement_in n)) → AllByRecursion (λ h. h ≤ visited_worth (before ++ note ∷ [])) (held_values (judgements (n ∷ [])))
    one (visited p w h) c = let g = worth-append before (note ∷ []) in (omega (arith, c.0, g), tt)
    one (cut p w h) c = let g = worth-append before (note ∷ []) in (omega (arith, c.0, g), tt)
    one (taken p) c = tt
    one (spawned p) c = tt
    one (handed p) c = tt
    one (ended p) c = tt

later : (before : List Note) (j : Judgement) → AtMostWorth before → Exact before j → IsLater before j
later before j a e = record {
  of_helds = AllByRecursion-weaker (λ h. h ≤ visited_worth before) (λ h. h ≤ j.held) (λ h le. omega (arith, le, e)) (held_values (judgements before)) a;
  of_worths = AllByRecursion-weaker (λ w. w ≤ visited_worth before) (λ w. w ≤ j.held) (λ w le. omega (arith, le, e)) (values (visits before)) (all-at_most (values (visits before)));
}

-- rule 9 gives rule 7
pub rises-from_exact : (before notes : List Note) → AtMostWorth before → AtEach (λ b n a. AllByRecursion (Exact b) (judgement_in n)) before notes → AtEach (λ b n a. AllByRecursion (IsLater b) (judgement_in n)) before notes
rises-from_exact before [] a e = tt
rises-from_exact before (visited p w h ∷ ns) a e = ((later before (judgement p w h) a e.0.0, tt), rises-from_exact (before ++ visited p w h ∷ []) ns (at_most-push before (visited p w h) a (omega (arith, e.0.0), tt)) e.1)
rises-from_exact before (cut p w h ∷ ns) a e = ((later before (judgement p w h) a e.0.0, tt), rises-from_exact (before ++ cut p w h ∷ []) ns (at_most-push before (cut p w h) a (omega (arith, e.0.0), tt)) e.1)
rises-from_exact before (taken p ∷ ns) a e = (tt, rises-from_exact (before ++ taken p ∷ []) ns (at_most-push before (taken p) a tt) e.1)
rises-from_exact before (spawned p ∷ ns) a e = (tt, rises-from_exact (before ++ spawned p ∷ []) ns (at_most-push before (spawned p) a tt) e.1)
rises-from_exact before (handed p ∷ ns) a e = (tt, rises-from_exact (before ++ handed p ∷ []) ns (at_most-push before (handed p) a tt) e.1)
rises-from_exact before (ended p ∷ ns) a e = (tt, rises-from_exact (before ++ ended p ∷ []) ns (at_most-push before (ended p) a tt) e.1)
