-- The laws of bags: joining, cancelling, mapping, and what a bag of paths is by counts.
use Rattle.std.proofs.Common.{◌≡◌, ◌≢◌, ℕ, ◌+◌, ◌<◌, List, [], ◌∷◌, ◌++◌, map, true, false, cond, refl, ap, sym, ◌∙◌, arith}
use Rattle.std.specs.List.{AllByRecursion, flat_map, sum_by}
use Rattle.std.specs.List.Sorted.{IsPermutation}
use Rattle.std.proofs.lemmas.List.Sums.{sum_by-append, sum_by-cons}
use Rattle.std.proofs.lemmas.List.Sorted.{sum_by-IsPermutation}
use Rattle.yew_laws.specs.Bag.{SameBag, PartOfBag}
use Rattle.yew_laws.specs.Order.{is_path, only, occurs}
use Rattle.yew_laws.proofs.PathTests.{is_path-same, is_path-is}

pub sum_by-map : {X Y : Type 0} (h : Y → ℕ) (f : X → Y) (xs : List X) → sum_by h (map f xs) ≡ sum_by (λ x. h (f x)) xs
sum_by-map h f [] = refl
sum_by-map h f (x ∷ xs) =
    sum_by-cons h (f x) (map f xs) ∙ ap (λ n. h (f x) + n) (sum_by-map h f xs) ∙ sym (sum_by-cons (λ y. h (f y)) x xs)

pub sum_by-flat_map : {X Y : Type 0} (h : Y → ℕ) (f : X → List Y) (xs : List X) → sum_by h (flat_map f xs) ≡ sum_by (λ x. sum_by h (f x)) xs
sum_by-flat_map h f [] = refl
sum_by-flat_map h f (x ∷ xs) =
    sum_by-append h (f x) (flat_map f xs) ∙ ap (λ n. sum_by h (f x) + n) (sum_by-flat_map h f xs) ∙ sym (sum_by-cons (λ y. sum_by h (f y)) x xs)

module _ {X : Type 0} where
  pub same-refl : (xs : List X) → SameBag xs xs
  same-refl xs = record { weighs = λ h. refl }

  pub same-sym : {xs ys : List X} → SameBag xs ys → SameBag ys xs
  same-sym s = record { weighs = λ h. sym (s.weighs h) }

  pub same-trans : {xs ys zs : List X} → SameBag xs ys → SameBag ys zs → SameBag xs zs
  same-trans s r = record { weighs = λ h. s.weighs h ∙ r.weighs h }

  pub same-is : {xs ys : List X} → xs ≡ ys → SameBag xs ys
  same-is e = record { weighs = λ h. ap (sum_by h) e }

  -- joining
  pub same-append : {xs ys us vs : List X} → SameBag xs ys → SameBag us vs → SameBag (xs ++ us) (ys ++ vs)
  same-append {xs} {ys} {us} {vs} s r = record {
    weighs = λ h.
        let a = sum_by-append h xs us in let b = sum_by-append h ys vs in let c = s.weighs h in let d = r.weighs h in omega arith;
  }

  pub same-cons : (x : X) {xs ys : List X} → SameBag xs ys → SameBag (x ∷ xs) (x ∷ ys)
  same-cons x {xs} {ys} s = record {
    weighs = λ h.
        let a = sum_by-cons h x xs in let b = sum_by-cons h x ys in let c = s.weighs h in omega arith;
  }

  pub append-swaps : (xs ys : List X) → SameBag (xs ++ ys) (ys ++ xs)
  append-swaps xs ys = record { weighs = λ h. let a = sum_by-append h xs ys in let b = sum_by-append h ys xs in omega arith }

  -- cancelling: what stands on both sides goes away
  pub same-cancel : (xs ys us vs : List X) → SameBag xs ys → SameBag (xs ++ us) (ys ++ vs) → SameBag us vs
  same-cancel xs ys us vs s r = record {
    weighs = λ h.
        let a = sum_by-append h xs us in let b = sum_by-append h ys vs in let c = s.weighs h in let d = r.weighs h in omega arith;
  }

  pub append-cancels : (xs ys zs : List X) → SameBag (xs ++ zs) (ys ++ zs) → SameBag xs ys
  append-cancels xs ys zs same = record {
    weighs = λ h. let a = sum_by-append h xs zs in let b = sum_by-append h ys zs in let c = same.weighs h in omega arith;
  }

  pub same-part : {xs ys : List X} → SameBag xs ys → PartOfBag xs ys
  same-part s = record { weighs = λ h. let e = s.weighs h in omega arith }

  pub part-trans : {xs ys zs : List X} → PartOfBag xs ys → PartOfBag ys zs → PartOfBag xs zs
  part-trans s r = record { weighs = λ h. let a = s.weighs h in let b = r.weighs h in omega arith }

  pub part-append : {xs ys us vs : List X} → PartOfBag xs ys → PartOfBag us vs → PartOfBag (xs ++ us) (ys ++ vs)
  part-append {xs} {ys} {us} {vs} s r = record {
    weighs = λ h.
        let a = sum_by-append h xs us in let b = sum_by-append h ys vs in let c = s.weighs h in let d = r.weighs h in omega arith;
  }

  -- a part of a joined list
  pub part-left : (xs us : List X) → PartOfBag xs (xs ++ us)
  part-left xs us = record { weighs = λ h. let a = sum_by-append h xs us in omega arith }

  -- a permutation is the same bag
  pub same-permutation : (xs ys : List X) → IsPermutation xs ys → SameBag xs ys
  same-permutation xs ys p = record { weighs = λ h. sym (sum_by-IsPermutation h xs ys p) }

module _ {X Y : Type 0} where
  pub same-map : (f : X → Y) {xs ys : List X} → SameBag xs ys → SameBag (map f xs) (map f ys)
  same-map f {xs} {ys} s = record { weighs = λ h. sum_by-map h f xs ∙ s.weighs (λ x. h (f x)) ∙ sym (sum_by-map h f ys) }

  -- below of a joined list is the joined below, and the same for the same bag
  pub same-flat_map : (f : X → List Y) {xs ys : List X} → SameBag xs ys → SameBag (flat_map f xs) (flat_map f ys)
  same-flat_map f {xs} {ys} s = record { weighs = λ h. sum_by-flat_map h f xs ∙ s.weighs (λ x. sum_by h (f x)) ∙ sym (sum_by-flat_map h f ys) }

  pub part-flat_map : (f : X → List Y) {xs ys : List X} → PartOfBag xs ys → PartOfBag (flat_map f xs) (flat_map f ys)
  part-flat_map f {xs} {ys} s = record {
    weighs = λ h.
        let a = sum_by-flat_map h f xs in let b = sum_by-flat_map h f ys in let c = s.weighs (λ x. sum_by h (f x)) in omega arith;
  }

pub only-itself : (path : List ℕ) → only path path ≡ 1
only-itself path = ap (λ b. cond b 1 0) (is_path-same path)

pub only-other : (path p : List ℕ) → p ≢ path → only path p ≡ 0
only-other path p ne =
    elim (is_path path p) as (λ b. is_path path p ≡ b → ◌≡◌ {A = ℕ} (cond b 1 0) 0) [ true ↦ λ e. absurd (ne (sym (is_path-is path p e))) | false ↦ λ e. refl ] refl

pub none-weighs : (path : List ℕ) (ps : List (List ℕ)) → AllByRecursion (λ p. p ≢ path) ps → sum_by (only path) ps ≡ 0
none-weighs path [] a = refl
none-weighs path (p ∷ ps) a =
    let here = only-other path p a.0 in
    let rest = none-weighs path ps a.1 in
    sum_by-cons (only path) p ps ∙ omega arith

-- a list that has the path, taken apart there
pub record IsTakenOut (path : List ℕ) (ps : List (List ℕ)) : Type 0 where
  pub front : List (List ℕ)
  pub back : List (List ℕ)
  pub is : ps ≡ front ++ path ∷ back

occurs-takes_out : (path : List ℕ) (ps : List (List ℕ)) → 0 < occurs path ps → IsTakenOut path ps
occurs-takes_out path [] more = absurd (omega arith)
occurs-takes_out path (p ∷ ps) more =
    elim (is_path path p) as (λ b. is_path path p ≡ b → IsTakenOut path (p ∷ ps)) [
      | true ↦ λ e. record { front = []; back = ps; is = ap (λ q. q ∷ ps) (sym (is_path-is path p e)) }
      | false ↦ λ e.
          let here : ◌≡◌ {A = ℕ} (only path p) 0 = ap (λ b. cond b 1 0) e in
          let weighs = sum_by-cons (only path) p ps in
          let rest = occurs-takes_out path ps (omega arith) in
          record { front = p ∷ rest.front; back = rest.back; is = ap (λ qs. p ∷ qs) rest.is }
    ]
    refl

same_weight : (h : List ℕ → ℕ) (ps qs : List (List ℕ)) → ((path : List ℕ) → occurs path ps ≡ occurs path qs) → sum_by h ps ≡ sum_by h qs
same_weight h [] [] e = refl
same_weight h [] (q ∷ qs) e =
    let k = e q in let w = sum_by-cons (only q) q qs in let i : ◌≡◌ {A = ℕ} (only q q) 1 = ap (λ b. cond b 1 0) (is_path-same q) in absurd (omega arith)
same_weight h (p ∷ ps) qs e =
    let i : ◌≡◌ {A = ℕ} (only p p) 1 = ap (λ b. cond b 1 0) (is_path-same p) in
    let k = e p in
    let w = sum_by-cons (only p) p ps in
    let out = occurs-takes_out p qs (omega arith) in
    let rest = same_weight h ps (out.front ++ out.back) (λ path.
    let a = e path in
    let b = sum_by-cons (only path) p ps in
    let c = ap (sum_by (only path)) out.is in
    let d = sum_by-append (only path) out.front (p ∷ out.back) in
    let f = sum_by-cons (only path) p out.back in
    let g = sum_by-append (only path) out.front out.back in
    omega arith) in
    let a = sum_by-cons h p ps in
    let c = ap (sum_by h) out.is in
    let d = sum_by-append h out.front (p ∷ out.back) in
    let f = sum_by-cons h p out.back in
    let g = sum_by-append h out.front out.back in
    omega arith

-- lists of paths in which each path occurs equally often are the same bag
pub same-occurs : (ps qs : List (List ℕ)) → ((path : List ℕ) → occurs path ps ≡ occurs path qs) → SameBag ps qs
same-occurs ps qs e = record { weighs = λ h. same_weight h ps qs e }
