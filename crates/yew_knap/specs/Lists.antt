-- Sums over lists, and what holds of each element.
use Rattle.std.specs.Prelude.{◌≡◌, ℕ, ◌+◌, ◌≤◌, List, [], ◌∷◌, sum_by, take, refl}
use Rattle.std.specs.List.{AllByRecursion}
use Rattle.std.proofs.Common.{zero, suc, arith}
use Rattle.std.proofs.lemmas.List.Sums.{sum_by-cons}

module _ {X : Type 0} where
  pub AllByRecursion-all : (P : X → Type 0) → ((x : X) → P x) → (xs : List X) → AllByRecursion P xs
  AllByRecursion-all P all [] = tt
  AllByRecursion-all P all (x ∷ xs) = (all x, AllByRecursion-all P all xs)

  pub AllByRecursion-take : (P : X → Type 0) (k : ℕ) (xs : List X) → AllByRecursion P xs → AllByRecursion P (take k xs)
  AllByRecursion-take P zero xs a = tt
  AllByRecursion-take P (suc k) [] a = tt
  AllByRecursion-take P (suc k) (x ∷ xs) a = (a.0, AllByRecursion-take P k xs a.1)

  pub sum_by-agree : (f g : X → ℕ) (xs : List X) → AllByRecursion (λ x. f x ≡ g x) xs → sum_by f xs ≡ sum_by g xs
  sum_by-agree f g [] a = refl
  sum_by-agree f g (x ∷ xs) a =
      let e = sum_by-cons f x xs in let d = sum_by-cons g x xs in let r = sum_by-agree f g xs a.1 in omega (arith, e, d, r, a.0)

  pub sum_by-below : (f g : X → ℕ) (xs : List X) → AllByRecursion (λ x. f x ≤ g x) xs → sum_by f xs ≤ sum_by g xs
  sum_by-below f g [] a = omega arith
  sum_by-below f g (x ∷ xs) a =
      let e = sum_by-cons f x xs in let d = sum_by-cons g x xs in let r = sum_by-below f g xs a.1 in omega (arith, e, d, r, a.0)

  pub sum_by-none : (f : X → ℕ) (xs : List X) → AllByRecursion (λ x. f x ≡ 0) xs → sum_by f xs ≡ 0
  sum_by-none f [] a = refl
  sum_by-none f (x ∷ xs) a = let e = sum_by-cons f x xs in let r = sum_by-none f xs a.1 in omega (arith, e, r, a.0)

  pub sum_by-plus : (f g : X → ℕ) (xs : List X) → sum_by (λ x. f x + g x) xs ≡ sum_by f xs + sum_by g xs
  sum_by-plus f g [] = refl
  sum_by-plus f g (x ∷ xs) =
      let s = sum_by-cons (λ y. f y + g y) x xs in let e = sum_by-cons f x xs in let d = sum_by-cons g x xs in let r = sum_by-plus f g xs in omega (arith, s, e, d, r)
