-- Members of bags, by the weight of one member.
use Rattle.std.proofs.Common.{◌≡◌, ℕ, ◌<◌, List, [], ◌∷◌, Bool, true, false, cond, refl, ap, sym, subst, arith}
use Rattle.std.specs.List.{AllByRecursion, Contains, sum_by}
use Rattle.std.proofs.lemmas.List.Sums.{sum_by-cons, get_or-le-sum_by}
use Rattle.yew_laws.proofs.Members.{Contains-head, Contains-tail, AllByRecursion-weaker}
use Rattle.yew_laws.specs.Bag.{PartOfBag}

module _ {X : Type 0} (eq : X → X → Bool) (same : (x : X) → eq x x ≡ true) (is : (x y : X) → eq x y ≡ true → x ≡ y) where
  -- 1 at this member, and 0 elsewhere
  abbrev weight_at : X → X → ℕ
  weight_at x y = cond (eq x y) 1 0

  -- a fact of each member, at one that has a weight
  pub all-weighs : (P : X → Type 0) (xs : List X) (x : X) → AllByRecursion P xs → 0 < sum_by (weight_at x) xs → P x
  all-weighs P [] x a more = absurd (omega arith)
  all-weighs P (y ∷ ys) x a more =
      let w = sum_by-cons (weight_at x) y ys in
      elim (eq x y) as (λ b. eq x y ≡ b → P x) [
        | true ↦ λ e. subst P (sym (is x y e)) a.0
        | false ↦ λ e. let none : ◌≡◌ {A = ℕ} (weight_at x y) 0 = ap (λ b. cond b 1 0) e in all-weighs P ys x a.1 (omega (arith, w, none, more))
      ]
      refl

  pub contains-weighs : (xs : List X) (x : X) → 0 < sum_by (weight_at x) xs → Contains xs x
  contains-weighs [] x more = absurd (omega arith)
  contains-weighs (y ∷ ys) x more =
      let w = sum_by-cons (weight_at x) y ys in
      elim (eq x y) as (λ b. eq x y ≡ b → Contains (y ∷ ys) x) [
        | true ↦ λ e. subst (Contains (y ∷ ys)) (sym (is x y e)) (Contains-head y ys)
        | false ↦ λ e. let none : ◌≡◌ {A = ℕ} (weight_at x y) 0 = ap (λ b. cond b 1 0) e in Contains-tail y ys x (contains-weighs ys x (omega (arith, w, none, more)))
      ]
      refl

  pub contains-has_weight : (xs : List X) (x : X) → Contains xs x → 0 < sum_by (weight_at x) xs
  contains-has_weight xs x c =
      let itself : ◌≡◌ {A = ℕ} (weight_at x x) 1 = ap (λ b. cond b 1 0) (same x) in
      let le = get_or-le-sum_by (weight_at x) xs c.0 x c.1 in
      let here = ap (weight_at x) c.2 in
      omega (arith, le, here, itself)

  -- each member of a list has a weight in it
  pub all-have_weight : (xs : List X) → AllByRecursion (λ x. 0 < sum_by (weight_at x) xs) xs
  all-have_weight [] = tt
  all-have_weight (x ∷ xs) =
      let itself : ◌≡◌ {A = ℕ} (weight_at x x) 1 = ap (λ b. cond b 1 0) (same x) in
      let w = sum_by-cons (weight_at x) x xs in (
        omega (arith, itself, w),
        AllByRecursion-weaker (λ y. 0 < sum_by (weight_at y) xs) (λ y. 0 < sum_by (weight_at y) (x ∷ xs)) (λ y m. let v = sum_by-cons (weight_at y) x xs in omega (arith, v, m)) xs (all-have_weight xs),
      )

  -- what holds of each member of a bag holds of each member of a part of it
  pub part-all : (P : X → Type 0) {xs ys : List X} → PartOfBag ys xs → AllByRecursion P xs → AllByRecursion P ys
  part-all P {xs} {ys} part a =
      AllByRecursion-weaker (λ y. 0 < sum_by (weight_at y) ys) P (λ y m. let le = part.weighs (weight_at y) in all-weighs P xs y a (omega (arith, le, m))) ys (all-have_weight ys)

  -- all members of a list are in it
  pub all-contained : (xs : List X) → AllByRecursion (Contains xs) xs
  all-contained xs = AllByRecursion-weaker (λ x. 0 < sum_by (weight_at x) xs) (Contains xs) (λ x m. contains-weighs xs x m) xs (all-have_weight xs)

  -- a member of a list is a member of each bag of which the list is part
  pub part-contains : {xs ys : List X} → PartOfBag ys xs → AllByRecursion (Contains xs) ys
  part-contains {xs} {ys} part = part-all (Contains xs) part (all-contained xs)
