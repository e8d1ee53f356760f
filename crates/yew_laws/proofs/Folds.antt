-- The fold of a bag does not depend on the order of its members.
use Rattle.std.proofs.Common.{◌≡◌, ℕ, ◌<◌, Bool, true, false, cond, List, [], ◌∷◌, ◌++◌, refl, ap, sym, ◌∙◌, arith}
use Rattle.std.specs.List.{sum_by}
use Rattle.std.proofs.lemmas.List.Sums.{sum_by-cons, sum_by-append}
use Rattle.yew_laws.specs.Bag.{SameBag}
use Rattle.yew_laws.specs.Fold.{fold_of, IsTally}

-- a list in which an element occurs, split there
record IsSplit {X : Type 0} (xs : List X) (x : X) : Type 0 where
  pub before : List X
  pub after : List X
  pub is : xs ≡ before ++ x ∷ after

none-left : {X : Type 0} (ys : List X) → SameBag [] ys → ys ≡ []
none-left [] bag = refl
none-left {X} (y ∷ ys) bag =
    let one = bag.weighs (λ _. 1) in let more = sum_by-cons (λ (_ : X). 1) y ys in absurd (omega arith)

module _ {S : Type 0} {fits : S → Type 0} {join : S → S → S} {none : S} (tally : IsTally fits join none) where
  module _ {X : Type 0} (of : X → S) (of_fits : (x : X) → fits (of x)) where
    pub fold-fits : (xs : List X) → fits (fold_of join none of xs)
    fold-fits [] = tally.none_fits
    fold-fits (x ∷ xs) = tally.join_fits (of x) (fold_of join none of xs) (of_fits x) (fold-fits xs)

    pub fold-append : (xs ys : List X) → fold_of join none of (xs ++ ys) ≡ join (fold_of join none of xs) (fold_of join none of ys)
    fold-append [] ys = sym (tally.unit (fold_of join none of ys) (fold-fits ys))
    fold-append (x ∷ xs) ys =
        ap (join (of x)) (fold-append xs ys)
        ∙ sym (tally.assoc (of x) (fold_of join none of xs) (fold_of join none of ys) (of_fits x) (fold-fits xs) (fold-fits ys))

    fold-middle : (before : List X) (x : X) (after : List X) → fold_of join none of (before ++ x ∷ after) ≡ join (of x) (fold_of join none of (before ++ after))
    fold-middle [] x after = refl
    fold-middle (y ∷ ys) x after =
        let rest = fold_of join none of (ys ++ after) in
        ap (join (of y)) (fold-middle ys x after)
        ∙ sym (tally.assoc (of y) (of x) rest (of_fits y) (of_fits x) (fold-fits (ys ++ after)))
        ∙ ap (λ s. join s rest) (tally.comm (of y) (of x) (of_fits y) (of_fits x))
        ∙ tally.assoc (of x) (of y) rest (of_fits x) (of_fits y) (fold-fits (ys ++ after))

    module _ (same : X → X → Bool) (finds : (x : X) → same x x ≡ true) (tells : (x y : X) → same x y ≡ true → x ≡ y) where
      abbrev here : X → X → ℕ
      here x y = cond (same x y) 1 0

      split : (x : X) (xs : List X) → 0 < sum_by (here x) xs → IsSplit xs x
      split x [] above = absurd (omega arith)
      split x (y ∷ ys) above =
          elim (same x y) as (λ b. same x y ≡ b → IsSplit (y ∷ ys) x) [
            | true ↦ λ e. record { before = []; after = ys; is = ap (λ z. z ∷ ys) (sym (tells x y e)) }
            | false ↦ λ e.
                let none : ◌≡◌ {A = ℕ} (here x y) 0 = ap (λ b. cond b 1 0) e in
                let weighs = sum_by-cons (here x) y ys in
                let later = split x ys (omega arith) in
                record { before = y ∷ later.before; after = later.after; is = ap (λ zs. y ∷ zs) later.is }
          ]
          refl

      -- the same bag has the same fold
      pub fold-SameBag : (xs ys : List X) → SameBag xs ys → fold_of join none of xs ≡ fold_of join none of ys
      fold-SameBag [] ys bag = ap (fold_of join none of) (sym (none-left ys bag))
      fold-SameBag (x ∷ xs) ys bag =
          let one : ◌≡◌ {A = ℕ} (here x x) 1 = ap (λ b. cond b 1 0) (finds x) in
          let weighs = sum_by-cons (here x) x xs in
          let equal = bag.weighs (here x) in
          let there = split x ys (omega arith) in
          let fewer : SameBag xs (there.before ++ there.after) = record {
            weighs = λ h.
                let a = bag.weighs h in
                let b = sum_by-cons h x xs in
                let c = ap (sum_by h) there.is in
                let d = sum_by-append h there.before (x ∷ there.after) in
                let e = sum_by-cons h x there.after in
                let f = sum_by-append h there.before there.after in
                omega arith;
          }
          in
          ap (join (of x)) (fold-SameBag xs (there.before ++ there.after) fewer)
          ∙ sym (fold-middle there.before x there.after)
          ∙ ap (fold_of join none of) (sym there.is)
