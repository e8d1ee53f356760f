-- One element of a mapped list, read and written.
use Rattle.std.proofs.Common.{◌≡◌, ℕ, suc, ◌+◌, ◌-◌, ◌<◌, List, [], ◌∷◌, ◌++◌, map, length, get_or, set, take, drop, Some, None, OnErr, Result, Ok, Err, Option, MatchOption, Bool, false, ◌==◌, Vec, Global, vec_len, refl, ap, sym, subst, ◌∙◌, arith}
use Rattle.std.specs.List.{AllByRecursion}
use Rattle.std.proofs.lemmas.Bool.Decides.{nat_tests}
use Rattle.std.proofs.lemmas.List.{get_or-map, length-map, length-set, map-set, set-get_or, take_more, take_more_set, take_all, same_from_push, map_push, set_split}
use Rattle.std.proofs.Math.Seq.{split_at}
use Rattle.yew_laws.proofs.Members.{AllByRecursion-append}
use Rattle.std.proofs.lemmas.List.Elements.{All-from_recursion}

pub OnErr-always : {T E : Type 0} (r : Result T E) (P : Type 0) → P → OnErr r P
OnErr-always (Ok x) P p = tt
OnErr-always (Err e) P p = p

module _ {X Y : Type 0} (f : X → Y) (xs : List X) (i : ℕ) (within : i < length xs) (x : X) (at : x ≡ get_or xs i x) where
  -- what holds of each element holds of the one that was read
  pub place-All : (P : Y → Type 0) → AllByRecursion P (map f xs) → P (f x)
  place-All P all =
      let read : get_or (map f xs) i (f x) ≡ f x = get_or-map f xs i x (f x) within ∙ ap f (sym at) in
      subst P read (All-from_recursion P (map f xs) all i (f x) (omega (arith, within, length-map xs f)))

  -- an element that is written as it was leaves the list
  pub place-same : (y : X) → f y ≡ f x → map f (set xs i y) ≡ map f xs
  place-same y e =
      map-set f xs i y ∙ ap (set (map f xs) i) e ∙ sym (map-set f xs i x) ∙ ap (λ z. map f (set xs i z)) at ∙ ap (map f) (set-get_or xs i x)

  module _ (seen : List Y) (same : map f xs ≡ seen) where
    at_place : i < length seen
    at_place = omega (arith, within, length-map xs f, ap length same)

    -- the list around an element, and the same list after a write there
    pub place-splits : seen ≡ take i seen ++ f x ∷ drop (suc i) seen
    place-splits =
        let read : get_or seen i (f x) ≡ f x = ap (λ ys. get_or ys i (f x)) (sym same) ∙ get_or-map f xs i x (f x) within ∙ ap f (sym at) in
        split_at seen i (f x) at_place ∙ ap (λ y. take i seen ++ y ∷ drop (suc i) seen) read

    pub place-set_splits : (y : X) → map f (set xs i y) ≡ take i seen ++ f y ∷ drop (suc i) seen
    place-set_splits y = map-set f xs i y ∙ ap (λ ys. set ys i (f y)) same ∙ set_split seen i (f y) at_place

    -- what holds of each element before it and of itself
    pub place-so_far : (P : Y → Type 0) → AllByRecursion P (take i seen) → P (f x) → AllByRecursion P (take (i + 1) seen)
    place-so_far P before here =
        let read : get_or seen i (f x) ≡ f x = ap (λ ys. get_or ys i (f x)) (sym same) ∙ get_or-map f xs i x (f x) within ∙ ap f (sym at) in
        subst (AllByRecursion P) (sym (take_more seen i (f x) at_place ∙ ap (λ y. take i seen ++ y ∷ []) read))
        (AllByRecursion-append P (take i seen) (f x ∷ []) before (here, tt))

module _ {X Y : Type 0} (f : X → Y) (xs : List X) (i : ℕ) (last : i + 1 ≡ length xs) where
  -- the last element and those before it
  pub map-last : (x : X) → x ≡ get_or xs i x → map f xs ≡ map f (take i xs) ++ f x ∷ []
  map-last x at =
      let within : i < length xs = omega arith in
      let whole : xs ≡ take i xs ++ x ∷ [] = sym (take_all (i + 1) xs (omega arith)) ∙ take_more xs i x within ∙ ap (λ y. take i xs ++ y ∷ []) (sym at) in
      ap (map f) whole ∙ map_push f (take i xs) x

  pub map-set_last : (y : X) → map f (set xs i y) ≡ map f (take i xs) ++ f y ∷ []
  map-set_last y =
      let within : i < length xs = omega arith in
      let whole : set xs i y ≡ take i xs ++ y ∷ [] = sym (take_all (i + 1) (set xs i y) (omega (arith, length-set xs i y))) ∙ take_more_set xs i y within in
      ap (map f) whole ∙ map_push f (take i xs) y

positive : (n : ℕ) → (n == 0) ≡ false → 0 < n
positive n e = grind (arith, nat_tests)

-- the place of the last element of a vector that is not empty
pub last-place : {X : Type 0} (kept : Vec X Global) (len : ℕ) (is_empty : Bool) → len ≡ vec_len kept → is_empty ≡ (vec_len kept == 0) → is_empty ≡ false → (len - 1) + 1 ≡ length kept.items
last-place kept len is_empty l e filled =
    let some : 0 < vec_len kept = positive (vec_len kept) (sym e ∙ filled) in
    omega (arith, kept.ok.0)

pub at_none : {X : Type 0} (o : Option X) (P : Type 0) (Q : X → Type 0) → ((x : X) → o ≡ Some x → ⊥) → MatchOption o P Q → P
at_none None P Q absent h = h
at_none (Some x) P Q absent h = absurd (absent x refl)

-- what is popped after a write to the last place is what was written
pub set_last-parts : {X : Type 0} (xs : List X) (i : ℕ) → i + 1 ≡ length xs → (y : X) (rest : List X) (popped : X) → set xs i y ≡ rest ++ popped ∷ [] → popped ≡ y
set_last-parts xs i last y rest popped e =
    let within : i < length xs = omega arith in
    let whole : take i xs ++ y ∷ [] ≡ rest ++ popped ∷ [] = sym (take_more_set xs i y within) ∙ take_all (i + 1) (set xs i y) (omega (arith, length-set xs i y)) ∙ e in
    sym ((same_from_push (take i xs) rest y popped whole).1)
