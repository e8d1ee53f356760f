-- The slots are emptied one after another.
use Rattle.std.proofs.Common.{◌≡◌, ℕ, ◌+◌, ◌<◌, ◌∙◌, Bool, true, false, List, [], ◌∷◌, ◌++◌, take, get_or, set, refl, sym, ap, subst, arith, zero, suc}
use Rattle.std.specs.Global.{Vec}
use Rattle.std.proofs.lemmas.List.{append-nil, take_more, flat_map_more, get_or-set_other}
use mathlib.Core.Option.{some, some-injective}
use native.Mathlib.Decide.{ℕ_discrete}
use lib.ListN.{get_elem?}
use Rattle.std.specs.Mem.Slots.Ownership.{Filled}
use Rattle.yew_laws.proofs.Views.{within}
use Rattle.yew_mail.specs.Closing.{tasks_in, IsEmptying}

-- a member that is read is the one that is found
read_is : {X : Type 0} (xs : List X) (i : ℕ) (x : X) → get_elem? xs i ≡ some x → get_or xs i x ≡ x
read_is [] i x e = refl
read_is (y ∷ ys) zero x e = some-injective y x e
read_is (y ∷ ys) (suc i) x e = read_is ys i x e

module _ {T : Type 0} where
  pub empty_begins : (slots : List (Vec T)) (before after : List T) (lasts : Bool) → after ≡ before → IsEmptying slots before 0 lasts after
  empty_begins slots before after lasts same = record { count = 0; appended = same ∙ sym (append-nil before); all = λ _. refl }

  -- what the next slot had was appended, or was not, since memory ran out here or before
  pub empty_more : (slots : List (Vec T)) (before after last : List T) (i : ℕ) (slot : Vec T) (lasts now : Bool) → IsEmptying slots before i lasts after
      → get_elem? slots i ≡ some slot
      → (now ≡ true → (lasts ≡ true) × (last ≡ after ++ slot.items)) → (now ≡ false → last ≡ after) → IsEmptying slots before (i + 1) now last
  empty_more slots before after last i slot lasts true so_far here appended dropped =
      let all = so_far.all (appended refl).0 in
      record {
        count = i + 1;
        appended = (appended refl).1 ∙ ap (λ l. l ++ slot.items) (so_far.appended ∙ ap (λ n. before ++ tasks_in (take n slots)) all)
            ∙ flat_map_more (λ (s : Vec T). s.items) before (take i slots) slot
            ∙ ap (λ (s : Vec T). before ++ tasks_in (take i slots ++ s ∷ [])) (sym (read_is slots i slot here))
            ∙ ap (λ l. before ++ tasks_in l) (sym (take_more slots i slot (within slots i slot here)));
        all = λ _. refl;
      }
  empty_more slots before after last i slot lasts false so_far here appended dropped =
      record { count = so_far.count; appended = dropped refl ∙ so_far.appended; all = λ lasted. absurd (false_true lasted) }
    where
      false_true : false ≡ true → ⊥
      false_true e = cc

taken_here : (flags : List Bool) (i : ℕ) → get_or (set flags i false) i false ≡ false
taken_here [] i = refl
taken_here (f ∷ flags) zero = refl
taken_here (f ∷ flags) (suc i) = taken_here flags i

-- once a slot is taken, those behind it still have their values
pub stay_full : (flags after : List Bool) (i last : ℕ) → after ≡ set flags i false → Filled flags i last → Filled after (i + 1) last
stay_full flags after i last is full k low high =
    ap (λ l. get_or l k false) is ∙ get_or-set_other flags i k false false (λ e. omega (arith, e, low)) ∙ full k (omega (arith, low)) high

-- and it is taken, as those before it
pub all_taken : (flags after : List Bool) (i : ℕ) → after ≡ set flags i false → ((k : ℕ) → k < i → get_or flags k false ≡ false) → (k : ℕ) → k < i + 1
    → get_or after k false ≡ false
all_taken flags after i is before k low = ap (λ l. get_or l k false) is ∙ here (ℕ_discrete k i)
  where
    here : Dec (k ≡ i) → get_or (set flags i false) k false ≡ false
    here (yes same) = subst (λ j. get_or (set flags i false) j false ≡ false) (sym same) (taken_here flags i)
    here (no ne) = get_or-set_other flags i k false false (λ e. ne e) ∙ before k (omega (arith, low, ne))
