-- What a seat has read and offered before is known to all that is read with it later.
use Rattle.std.proofs.Common.{◌≡◌, ℕ, ◌≤◌, List, [], ◌∷◌, ◌++◌, map, sym, subst}
use Rattle.std.specs.List.{AllByRecursion, Contains}
use Rattle.std.proofs.lemmas.List.Concat.{flat_map-append}
use Rattle.std.proofs.lemmas.List.Elements.{All-contains, Contains-append_left}
use Rattle.yew_best.specs.Seats.{SeatView, has_read}
use Rattle.yew_laws.specs.SearchTree.{SearchTree}
use Rattle.yew_laws.proofs.Members.{AllByRecursion-append, AllByRecursion-weaker}
use Rattle.yew_log.specs.HeldValues.{IsLater}
use Rattle.yew_log.specs.Notes.{Note, taken, visited, cut, spawned, handed, ended, Judgement, judgement_in, judgements, visits, values, held_values}
use Rattle.yew_log.specs.Segment.{Segment, entries, entries_in}
use Rattle.yew_walk.specs.declared.keying.Keying.TheVariants.{Gap}
use Rattle.yew_walk.specs.Seats.{SeatGoes, IsRead, has_offered}
use Rattle.yew_walk.specs.WorkerLogs.{SeatGoesOn}
use Rattle.yew_crew.specs.Working.{gap_walk}

-- the seat has read each held value of these entries and offered the worth of each visit
pub record IsKnown (own : List Note) (seat : SeatView) : Type 0 where
  pub helds : AllByRecursion (Contains seat.read) (held_values (judgements own))
  pub worths : AllByRecursion (Contains seat.offered) (values (visits own))

module _ (own : List Note) where
  known-read : (seat : SeatView) (word : ℕ) → IsKnown own seat → IsKnown own (has_read seat word)
  known-read seat word k = record {
    helds = AllByRecursion-weaker (Contains seat.read) (Contains (seat.read ++ word ∷ [])) (λ x c. Contains-append_left seat.read (word ∷ []) x c) (held_values (judgements own)) k.helds;
    worths = k.worths;
  }

  known-offered : (seat : SeatView) (key : ℕ) → IsKnown own seat → IsKnown own (has_offered seat key)
  known-offered seat key k = record {
    helds = k.helds;
    worths = AllByRecursion-weaker (Contains seat.offered) (Contains (seat.offered ++ key ∷ [])) (λ x c. Contains-append_left seat.offered (key ∷ []) x c) (values (visits own)) k.worths;
  }

  later-one : (seat : SeatView) (word : ℕ) (j : Judgement) → IsKnown own seat → IsRead seat word → j.held ≡ word → IsLater own j
  later-one seat word j k read is = record {
    of_helds = AllByRecursion-weaker (Contains seat.read) (λ h. h ≤ j.held) (λ h c. subst (λ w. h ≤ w) (sym is) (All-contains (λ x. x ≤ word) seat.read h read.at_least_read c)) (held_values (judgements own)) k.helds;
    of_worths = AllByRecursion-weaker (Contains seat.offered) (λ h. h ≤ j.held) (λ h c. subst (λ w. h ≤ w) (sym is) (All-contains (λ x. x ≤ word) seat.offered h read.at_least_offered c)) (values (visits own)) k.worths;
  }

  module _ {N : Type 0} (t : SearchTree N) (gap : ℕ) where
    -- what a seat knows along entries, and that they are later
    pub record GoesLater (notes : List Note) (seat : SeatView) : Type 0 where
      pub later : AllByRecursion (IsLater own) (judgements notes)
      pub known : IsKnown own seat

    pub goes-later : (a b : SeatView) (notes : List Note) → IsKnown own a → SeatGoes t (Gap gap) a notes b → GoesLater notes b
    goes-later a b [] k g = record { later = tt; known = subst (IsKnown own) (sym g) k }
    goes-later a b (visited p w h ∷ ns) k g =
        let rest = goes-later (has_offered (has_read a g.0) w) b ns (known-offered (has_read a g.0) w (known-read a g.0 k)) g.2 in
        record { later = (later-one a g.0 (record { path = p; value = w; held = h }) k g.1.is_read g.1.held_is, rest.later); known = rest.known }
    goes-later a b (cut p v h ∷ ns) k g =
        let rest = goes-later (has_read a g.0) b ns (known-read a g.0 k) g.2 in
        record { later = (later-one a g.0 (record { path = p; value = v; held = h }) k g.1.is_read g.1.held_is, rest.later); known = rest.known }
    goes-later a b (taken p ∷ ns) k g = let rest = goes-later a b ns k g in record { later = rest.later; known = rest.known }
    goes-later a b (spawned p ∷ ns) k g = let rest = goes-later a b ns k g in record { later = rest.later; known = rest.known }
    goes-later a b (handed p ∷ ns) k g = let rest = goes-later a b ns k g in record { later = rest.later; known = rest.known }
    goes-later a b (ended p ∷ ns) k g = let rest = goes-later a b ns k g in record { later = rest.later; known = rest.known }

    -- all walks of one seat are later than what it knew before
    pub all-later : (segments : List Segment) (a b : SeatView) → IsKnown own a → SeatGoesOn t a (map (gap_walk gap) segments) b → AllByRecursion (IsLater own) (judgements (entries segments))
    all-later [] a b k g = tt
    all-later (x ∷ xs) a b k g =
        let here = goes-later a g.0 (entries_in x) k g.1 in
        subst (AllByRecursion (IsLater own)) (sym (flat_map-append judgement_in (entries_in x) (entries xs)))
        (AllByRecursion-append (IsLater own) (judgements (entries_in x)) (judgements (entries xs)) here.later (all-later xs g.0 b here.known g.2))
