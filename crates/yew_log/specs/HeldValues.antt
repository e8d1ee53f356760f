-- The held values of a log: what was read of the incumbent before each visit and each cut.
use Rattle.std.specs.Prelude.{◌≡◌, ◌≢◌, ℕ, ◌<◌, ◌≤◌, List, [], IsTrue, IfSome}
use Rattle.std.specs.List.{AllByRecursion}
use Rattle.yew_laws.specs.Order.{comes_before}
use Rattle.yew_laws.specs.SearchTree.{SearchTree, bound_at}
use Rattle.yew_log.specs.Notes.{Note, Judgement, visits, cuts, judgements, values, held_values, maximum, visit_in}
use Rattle.yew_log.specs.Places.{AtEach}
use Rattle.yew_log.specs.Attained.{limit}
use Rattle.yew_log.specs.Segment.{EachJudged}

-- by which rule a word is read: as a worth, or as a worth with the number of its item
pub data KeyKind : Type 0 where
  plain : KeyKind
  ranked : KeyKind

-- the held value is at least each one before it, and at least the worth of each visit before it
pub record IsLater (before : List Note) (j : Judgement) : Type 0 where
  pub of_helds : AllByRecursion (λ h. h ≤ j.held) (held_values (judgements before))
  pub of_worths : AllByRecursion (λ w. w ≤ j.held) (values (visits before))

-- rule 7: held values never fall, and each is at least the worth of every earlier visit
abbrev pub HeldRises : List Note → Type 0
HeldRises notes = EachJudged IsLater notes

-- rule 9: each held value is the greatest worth of the earlier visits
abbrev pub HeldIsMaximum : List Note → Type 0
HeldIsMaximum notes = EachJudged (λ before j. j.held ≡ maximum (values (visits before))) notes

-- under the ranked key only visits of earlier paths count
abbrev pub CountsFor : KeyKind → Judgement → Judgement → Type 0
CountsFor plain earlier j = Unit {0}
CountsFor ranked earlier j = IsTrue (comes_before earlier.path j.path)

-- a bound that is not cut at this held value
abbrev pub IsUncut : KeyKind → ℕ → ℕ → ℕ → Type 0
IsUncut plain gap held bound = limit gap held < bound
IsUncut ranked gap held bound = held ≤ bound

module _ {N : Type 0} (t : SearchTree N) (gap : ℕ) (keyed : KeyKind) where
  -- a visit had to be made: its bound is above what the earlier visits and the held value permit to cut
  pub record IsDue (before : List Note) (v : Judgement) : Type 0 where
    pub over_worths : AllByRecursion (λ u. CountsFor keyed u v → IfSome (bound_at t v.path) (λ b. limit gap u.value < b)) (visits before)
    pub over_held : IfSome (bound_at t v.path) (IsUncut keyed gap v.held)

  -- rule 8: each visit but the root's had to be made, and each cut is no root's and is permitted by its held value
  pub record IsJudged (notes : List Note) : Type 0 where
    pub visits_due : AtEach (λ before note after. AllByRecursion (λ v. v.path ≢ [] → IsDue before v) (visit_in note)) [] notes
    pub cuts_below : AllByRecursion (λ c. c.path ≢ []) (cuts notes)
    pub cuts_permitted : AllByRecursion (λ c. c.value ≤ limit gap c.held) (cuts notes)
