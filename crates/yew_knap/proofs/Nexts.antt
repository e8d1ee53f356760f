-- One step of a generator of children.
use Rattle.std.proofs.Common.{◌≡◌, ℕ, ◌+◌, ◌<◌, ◌≤◌, ◌∙◌, Bool, true, false, ◌&&◌, ◌==◌, List, [], ◌∷◌, length, drop, nat_le, if◌then◌else◌, refl, ap, sym, subst, inl, inr, arith}
use Rattle.std.specs.List.{AllByRecursion}
use Rattle.std.proofs.lemmas.Bool.{and_from, cases_eq, le-leb, lt-leb}
use Rattle.std.proofs.lemmas.Bool.Decides.{nat_tests}
use Rattle.std.proofs.lemmas.List.{drop_more, drop_all}
use Rattle.yew_knap.specs.declared.nodes.KnapKids.{KnapKids}
use Rattle.yew_knap.specs.declared.copies.ItemCopy.{ItemCopy}
use Rattle.yew_knap.specs.Instance.{Instance}
use Rattle.yew_knap.specs.Nodes.{item_of, added, is_next, with_one_more, remaining_of, IsNode}
use Rattle.yew_knap.specs.Copies.{searched_copies}
use Rattle.yew_knap.specs.CopyLaws.{IsChain, Follows, searched_copies-chain, chain-drop}
use Rattle.yew_knap.specs.NodeLaws.{rest_after}
use Rattle.yew_knap.specs.Places.{next_item}

pub is_next-at : (place : ℕ) (copy : ItemCopy) → is_next place place copy ≡ true
is_next-at place copy = grind (arith, nat_tests)

pub is_next-first : (begin place : ℕ) (copy : ItemCopy) → copy.turn ≡ 0 → is_next begin place copy ≡ true
is_next-first begin place copy e = grind (arith, nat_tests)

is_next-not : (begin place : ℕ) (copy : ItemCopy) → begin < place → (copy.turn == 0) ≡ false → is_next begin place copy ≡ false
is_next-not begin place copy l e = grind (arith, nat_tests)

is_next-behind : (begin other place : ℕ) (copy : ItemCopy) → begin < place → other < place → is_next begin place copy ≡ is_next other place copy
is_next-behind begin other place copy l m = grind (arith, nat_tests)

neither : (b : Bool) → (b && false) ≡ false
neither true = refl
neither false = refl

module _ (instance : Instance) (kids : KnapKids) (order : List ItemCopy) (place : ℕ) (within : place < length order) where
  with_one_more-fits : is_next kids.next place (item_of order place) ≡ true → (item_of order place).weight ≤ kids.room → with_one_more instance kids place (drop place order) ≡ added instance kids place (item_of order place) ∷ with_one_more instance kids (place + 1) (drop (place + 1) order)
  with_one_more-fits free fits =
      ap (with_one_more instance kids place) (drop_more order place (record { profit = 0; weight = 0; item = 0; turn = 0; index = 0 }) within)
      ∙ ap (λ b. if b then added instance kids place (item_of order place) ∷ with_one_more instance kids (place + 1) (drop (place + 1) order) else with_one_more instance kids (place + 1) (drop (place + 1) order)) (and_from (is_next kids.next place (item_of order place)) (nat_le (item_of order place).weight kids.room) free (le-leb (item_of order place).weight kids.room fits))

  pub with_one_more-skips : kids.room < (item_of order place).weight → with_one_more instance kids place (drop place order) ≡ with_one_more instance kids (place + 1) (drop (place + 1) order)
  with_one_more-skips heavy =
      ap (with_one_more instance kids place) (drop_more order place (record { profit = 0; weight = 0; item = 0; turn = 0; index = 0 }) within)
      ∙ ap (λ b. if b then added instance kids place (item_of order place) ∷ with_one_more instance kids (place + 1) (drop (place + 1) order) else with_one_more instance kids (place + 1) (drop (place + 1) order)) (ap (λ b. is_next kids.next place (item_of order place) && b) (lt-leb (item_of order place).weight kids.room heavy) ∙ neither (is_next kids.next place (item_of order place)))

-- the same generator, standing elsewhere
abbrev pub moved_to : KnapKids → ℕ → ℕ → KnapKids
moved_to kids next breaking = record { profit = kids.profit; room = kids.room; next = next; breaking = breaking; chosen = kids.chosen }

-- behind where two generators of one set begin they give the same
with_one_more-behind : (instance : Instance) (kids : KnapKids) (next breaking place : ℕ) (items : List ItemCopy) → kids.next < place → next < place → with_one_more instance kids place items ≡ with_one_more instance (moved_to kids next breaking) place items
with_one_more-behind instance kids next breaking place [] l m = refl
with_one_more-behind instance kids next breaking place (item ∷ items) l m =
    ap (λ b. if b && nat_le item.weight kids.room then added instance kids place item ∷ with_one_more instance kids (place + 1) items else with_one_more instance kids (place + 1) items) (is_next-behind kids.next next place item l m)
    ∙ ap (λ nodes. if is_next next place item && nat_le item.weight kids.room then added instance kids place item ∷ nodes else nodes) (with_one_more-behind instance kids next breaking (place + 1) items (omega (arith, l)) (omega (arith, m)))

module _ (instance : Instance) (kids : KnapKids) (breaking : ℕ) where
  -- behind where a generator begins it goes on at the first copy of the next item
  pub goes_on : (items : List ItemCopy) (place : ℕ) → drop place (searched_copies instance) ≡ items → kids.next < place → with_one_more instance kids place items ≡ remaining_of instance (moved_to kids (next_item place items) breaking)
  goes_on [] place at l = ap (with_one_more instance (moved_to kids place breaking) place) (sym at)
  goes_on (item ∷ items) place at l =
      elim (item.turn == 0) as (λ b. (item.turn == 0) ≡ b → with_one_more instance kids place (item ∷ items) ≡ remaining_of instance (moved_to kids (if b then place else next_item (place + 1) items) breaking)) [
        | true ↦ λ e.
            let first : item.turn ≡ 0 = is_zero item.turn e in
            ap (λ b. if b && nat_le item.weight kids.room then added instance kids place item ∷ with_one_more instance kids (place + 1) items else with_one_more instance kids (place + 1) items) (is_next-first kids.next place item first ∙ sym (is_next-at place item))
            ∙ ap (λ nodes. if is_next place place item && nat_le item.weight kids.room then added instance kids place item ∷ nodes else nodes) (with_one_more-behind instance kids place breaking (place + 1) items (omega (arith, l)) (omega arith))
            ∙ ap (with_one_more instance (moved_to kids place breaking) place) (sym at)
        | false ↦ λ e.
            ap (λ b. if b && nat_le item.weight kids.room then added instance kids place item ∷ with_one_more instance kids (place + 1) items else with_one_more instance kids (place + 1) items) (is_next-not kids.next place item l e)
            ∙ goes_on items (place + 1) (rest_after instance place item items at) (omega (arith, l))
      ]
      refl
    where
      is_zero : (n : ℕ) → (n == 0) ≡ true → n ≡ 0
      is_zero n e = grind (arith, nat_tests)

-- what a generator that looks at a place has still to give, and that a copy there that fits may be the next one
pub record StandsAt (instance : Instance) (kids : KnapKids) (place : ℕ) : Type 0 where
  pub rest : with_one_more instance kids place (drop place (searched_copies instance)) ≡ remaining_of instance kids
  pub free : place < length (searched_copies instance) → (item_of (searched_copies instance) place).weight ≤ kids.room → is_next kids.next place (item_of (searched_copies instance) place) ≡ true

pub stands-first : (instance : Instance) (kids : KnapKids) → StandsAt instance kids kids.next
stands-first instance kids = record { rest = refl; free = λ l fits. is_next-at kids.next (item_of (searched_copies instance) kids.next) }

module _ (instance : Instance) (kids : KnapKids) (place : ℕ) (stands : StandsAt instance kids place) where
  abbrev order : List ItemCopy
  order = searched_copies instance

  module _ (within : place < length (searched_copies instance)) where
    -- a copy that does not fit is passed over: where the one behind it is of the same item, that does not fit either
    pub passes : kids.room < (item_of (searched_copies instance) place).weight → StandsAt instance kids (place + 1)
    passes heavy = record {
      rest = sym (with_one_more-skips instance kids order place within heavy) ∙ stands.rest;
      free = λ l fits.
          let here = drop_more order place (record { profit = 0; weight = 0; item = 0; turn = 0; index = 0 }) within in
          let next = drop_more order (place + 1) (record { profit = 0; weight = 0; item = 0; turn = 0; index = 0 }) l in
          let chain : IsChain (item_of order place ∷ item_of order (place + 1) ∷ drop (place + 1 + 1) order) =
          subst IsChain (here ∙ ap (λ copies. item_of order place ∷ copies) next) (chain-drop place order (searched_copies-chain instance))
          in
          let follows : Follows (item_of order place) (item_of order (place + 1)) = chain.0 in
          elim (cases_eq (item_of order (place + 1)).turn 0) [
            | inl first ↦ is_next-first kids.next (place + 1) (item_of order (place + 1)) first
            | inr more ↦ let weight = (follows more).1 in absurd (omega (arith, weight, fits, heavy))
          ];
    }

    module _ (from : kids.next ≤ place) (fits : (item_of (searched_copies instance) place).weight ≤ kids.room) where
      pub gives : (breaking : ℕ) → remaining_of instance kids ≡ added instance kids place (item_of (searched_copies instance) place) ∷ remaining_of instance (moved_to kids (next_item (place + 1) (drop (place + 1) (searched_copies instance))) breaking)
      gives breaking =
          sym stands.rest
          ∙ with_one_more-fits instance kids order place within (stands.free within fits) fits
          ∙ ap (λ nodes. added instance kids place (item_of order place) ∷ nodes) (goes_on instance kids breaking (drop (place + 1) order) (place + 1) refl (omega (arith, from)))

      pub child : AllByRecursion (IsNode instance) (remaining_of instance kids) → IsNode instance (added instance kids place (item_of (searched_copies instance) place))
      child sound = (subst (AllByRecursion (IsNode instance)) (gives 0) sound).0

  pub none_left : with_one_more instance kids place (drop place (searched_copies instance)) ≡ [] → remaining_of instance kids ≡ []
  none_left none = sym stands.rest ∙ none

  pub nothing_left : length (searched_copies instance) ≤ place → remaining_of instance kids ≡ []
  nothing_left past = sym stands.rest ∙ ap (with_one_more instance kids place) (drop_all place order past)

-- behind the last copy nothing is left
pub nothing_behind : (instance : Instance) (kids : KnapKids) → with_one_more instance kids (length (searched_copies instance)) (drop (length (searched_copies instance)) (searched_copies instance)) ≡ []
nothing_behind instance kids =
    ap (with_one_more instance kids (length (searched_copies instance))) (drop_all (length (searched_copies instance)) (searched_copies instance) (omega arith))
