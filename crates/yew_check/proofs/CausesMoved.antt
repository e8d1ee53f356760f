-- The causes of visits and cuts, where the worths were sorted.
use Rattle.std.proofs.Common.{ℕ, zero, suc, ◌+◌, ◌<◌, List, [], ◌∷◌, map, length, take, get_or, sym, ap, subst, ◌∙◌, arith, inl, inr}
use Rattle.std.specs.List.{AllByRecursion}
use Rattle.std.specs.List.Sorted.{IsPermutation}
use Rattle.std.proofs.lemmas.List.{map-append, take_more}
use Rattle.std.proofs.lemmas.List.Sorted.{Contains-permutation, IsPermutation-sym}
use Rattle.yew_laws.proofs.Members.{AllByRecursion-append}
use Rattle.yew_check.specs.Marks.{Mark, IsCaused}

-- the worths in another order are the same causes
pub caused-moves : (gap : ℕ) (xs ys : List ℕ) → IsPermutation xs ys → (m : Mark) → IsCaused gap xs m → IsCaused gap ys m
caused-moves gap xs ys p m h = record {
  permitted = h.permitted;
  attained = elim h.attained [ inl z ↦ inl z | inr c ↦ inr (Contains-permutation xs ys m.held p c) ];
}

pub caused-back : (gap : ℕ) (xs ys : List ℕ) → IsPermutation xs ys → (m : Mark) → IsCaused gap ys m → IsCaused gap xs m
caused-back gap xs ys p m h = caused-moves gap ys xs (IsPermutation-sym xs ys p) m h

pub all-at : {X : Type 0} (f : X → Mark) (P : Mark → Type 0) (xs : List X) (i : ℕ) (d : X) → i < length xs → AllByRecursion P (map f xs) → P (f (get_or xs i d))
all-at f P [] i d less a = absurd (omega arith)
all-at f P (x ∷ xs) zero d less a = a.0
all-at f P (x ∷ xs) (suc i) d less a = all-at f P xs i d (omega arith) a.1

pub all-more : {X : Type 0} (f : X → Mark) (P : Mark → Type 0) (xs : List X) (i : ℕ) (d : X) → i < length xs → AllByRecursion P (map f (take i xs)) → P (f (get_or xs i d)) → AllByRecursion P (map f (take (i + 1) xs))
all-more f P xs i d less a h =
    let parts = ap (map f) (take_more xs i d less) ∙ map-append f (take i xs) (get_or xs i d ∷ []) in
    subst (AllByRecursion P) (sym parts) (AllByRecursion-append P (map f (take i xs)) (f (get_or xs i d) ∷ []) a (h, tt))
