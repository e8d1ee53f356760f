-- A text that is cut at the first of a byte.
use Rattle.std.proofs.Common.{◌≡◌, ◌≢◌, ℕ, List, [], ◌∷◌, ◌++◌, refl}
use Rattle.std.specs.List.{AllByRecursion}

-- the first such member is at one place only
pub cut-unique : {X : Type 0} (c : X) (xs ys us vs : List X) → AllByRecursion (λ b. b ≢ c) xs → AllByRecursion (λ b. b ≢ c) us → xs ++ c ∷ ys ≡ us ++ c ∷ vs → (xs ≡ us) × (ys ≡ vs)
cut-unique c [] ys [] vs a b e = (refl, cc)
cut-unique c [] ys (u ∷ us) vs a b e = absurd (b.0 (cc))
cut-unique c (x ∷ xs) ys [] vs a b e = absurd (a.0 (cc))
cut-unique c (x ∷ xs) ys (u ∷ us) vs a b e =
    let rest : xs ++ c ∷ ys ≡ us ++ c ∷ vs = cc in
    let first : x ≡ u = cc in
    let r = cut-unique c xs ys us vs a.1 b.1 rest in
    let whole : x ∷ xs ≡ u ∷ us = cc in
    (whole, r.1)

-- a text that has the byte has it somewhere
pub cut-has : (c : ℕ) (xs ys : List ℕ) → AllByRecursion (λ b. b ≢ c) (xs ++ c ∷ ys) → ⊥
cut-has c [] ys a = a.0 refl
cut-has c (x ∷ xs) ys a = cut-has c xs ys a.1

pub all-append : (P : ℕ → Type 0) (xs ys : List ℕ) → AllByRecursion P xs → AllByRecursion P ys → AllByRecursion P (xs ++ ys)
all-append P [] ys a b = b
all-append P (x ∷ xs) ys a b = (a.0, all-append P xs ys a.1 b)
