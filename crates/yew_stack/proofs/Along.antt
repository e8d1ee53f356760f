-- The levels along a path, one by one.
use Rattle.std.proofs.Common.{◌≡◌, ℕ, zero, suc, ◌+◌, ◌≤◌, ◌<◌, List, [], ◌∷◌, ◌++◌, length, get_or, set, take, refl, ap, ap₂, ◌∙◌, arith}
use Rattle.yew_stack.specs.Levels.{LevelValue, LevelView, level_of}
use Rattle.yew_stack.specs.Descents.{RungValue, level_at, levels_along}

-- a level of the node at a path, where the generators have these nodes to come
abbrev pub seen_at : {N K : Type 0} → (K → List N) → List ℕ → RungValue K → LevelView N
seen_at remaining path rung = level_of remaining (level_at path rung)

-- the front of a list, with something behind it, keeps that front
pub take-front : {X : Type 0} (n : ℕ) (xs ys : List X) → n ≤ length xs → take n (take n xs ++ ys) ≡ take n xs
take-front zero xs ys within = refl
take-front (suc n) [] ys within = absurd (omega (arith, within))
take-front (suc n) (x ∷ xs) ys within = ap (λ zs. x ∷ zs) (take-front n xs ys (omega (arith, within)))

pub take-twice : {X : Type 0} (n : ℕ) (xs : List X) → take n (take n xs) ≡ take n xs
take-twice zero xs = refl
take-twice (suc n) [] = refl
take-twice (suc n) (x ∷ xs) = ap (λ zs. x ∷ zs) (take-twice n xs)

-- lists with the same front have the same shorter fronts
pub take-shorter : {X : Type 0} (m n : ℕ) (xs ys : List X) → m ≤ n → take n xs ≡ take n ys → take m xs ≡ take m ys
take-shorter zero n xs ys less same = refl
take-shorter (suc m) zero xs ys less same = absurd (omega (arith, less))
take-shorter (suc m) (suc n) [] [] less same = refl
take-shorter (suc m) (suc n) [] (y ∷ ys) less same = absurd (omega (arith, ap length same))
take-shorter (suc m) (suc n) (x ∷ xs) [] less same = absurd (omega (arith, ap length same))
take-shorter (suc m) (suc n) (x ∷ xs) (y ∷ ys) less same = grind (arith, same, take-shorter m n xs ys)

pub take-length : {X : Type 0} (n : ℕ) (xs : List X) → n ≤ length xs → length (take n xs) ≡ n
take-length zero xs within = refl
take-length (suc n) [] within = absurd (omega (arith, within))
take-length (suc n) (x ∷ xs) within = ap suc (take-length n xs (omega (arith, within)))

-- an element that is there, whatever stands for one that is not
pub get_or-any : {X : Type 0} (xs : List X) (i : ℕ) (a b : X) → i < length xs → get_or xs i a ≡ get_or xs i b
get_or-any [] i a b within = absurd (omega (arith, within))
get_or-any (x ∷ xs) zero a b within = refl
get_or-any (x ∷ xs) (suc i) a b within = get_or-any xs i a b (omega (arith, within))

-- a write behind a front leaves it
pub take-set : {X : Type 0} (xs : List X) (i : ℕ) (x : X) → take i (set xs i x) ≡ take i xs
take-set [] i x = refl
take-set (y ∷ ys) zero x = refl
take-set (y ∷ ys) (suc i) x = ap (λ zs. y ∷ zs) (take-set ys i x)

module _ {K : Type 0} where
  pub along-length : (path : List ℕ) (depth : ℕ) (rungs : List (RungValue K)) → length (levels_along path depth rungs) ≡ length rungs
  along-length path depth [] = refl
  along-length path depth (rung ∷ upper) = ap suc (along-length path (depth + 1) upper)

  pub along-push : (path : List ℕ) (depth : ℕ) (rungs : List (RungValue K)) (rung : RungValue K) → levels_along path depth (rungs ++ rung ∷ []) ≡ levels_along path depth rungs ++ level_at (take (depth + length rungs) path) rung ∷ []
  along-push path depth [] rung = let same : depth ≡ depth + 0 = omega arith in ap (λ d. level_at (take d path) rung ∷ []) same
  along-push path depth (r ∷ upper) rung =
      let same : depth + 1 + length upper ≡ depth + suc (length upper) = omega arith in
      ap (λ ls. level_at (take depth path) r ∷ ls) (along-push path (depth + 1) upper rung ∙ ap (λ d. levels_along path (depth + 1) upper ++ level_at (take d path) rung ∷ []) same)

  -- paths with the same front have the same levels on it
  pub along-same : (path other : List ℕ) (last depth : ℕ) (rungs : List (RungValue K)) → take last path ≡ take last other → depth + length rungs ≤ last + 1 → levels_along path depth rungs ≡ levels_along other depth rungs
  along-same path other last depth [] same within = refl
  along-same path other last depth (rung ∷ upper) same within =
      ap₂ (λ (p : List ℕ) (ls : List (LevelValue K)). level_at p rung ∷ ls)
      (take-shorter depth last path other (omega (arith, within)) same)
      (along-same path other last (depth + 1) upper same (omega (arith, within)))

  pub along-get : (path : List ℕ) (depth : ℕ) (rungs : List (RungValue K)) (i : ℕ) (rung : RungValue K) → i < length rungs → rung ≡ get_or rungs i rung → level_at (take (depth + i) path) rung ≡ get_or (levels_along path depth rungs) i (level_at (take (depth + i) path) rung)
  along-get path depth [] i rung within at = absurd (omega (arith, within))
  along-get path depth (r ∷ upper) zero rung within at =
      let same : depth + 0 ≡ depth = omega arith in
      ap₂ (λ (d : ℕ) (x : RungValue K). level_at (take d path) x) same at
  along-get path depth (r ∷ upper) (suc i) rung within at =
      let same : depth + suc i ≡ depth + 1 + i = omega arith in
      rw same (along-get path (depth + 1) upper i rung (omega (arith, within)) at)

  pub along-set : (path : List ℕ) (depth : ℕ) (rungs : List (RungValue K)) (i : ℕ) (rung : RungValue K) → levels_along path depth (set rungs i rung) ≡ set (levels_along path depth rungs) i (level_at (take (depth + i) path) rung)
  along-set path depth [] i rung = refl
  along-set path depth (r ∷ upper) zero rung = let same : depth ≡ depth + 0 = omega arith in ap (λ d. level_at (take d path) rung ∷ levels_along path (depth + 1) upper) same
  along-set path depth (r ∷ upper) (suc i) rung =
      let same : depth + 1 + i ≡ depth + suc i = omega arith in
      ap (λ ls. level_at (take depth path) r ∷ ls) (along-set path (depth + 1) upper i rung ∙ ap (λ d. set (levels_along path (depth + 1) upper) i (level_at (take d path) rung)) same)

  pub along-take : (path : List ℕ) (depth n : ℕ) (rungs : List (RungValue K)) → levels_along path depth (take n rungs) ≡ take n (levels_along path depth rungs)
  along-take path depth zero rungs = refl
  along-take path depth (suc n) [] = refl
  along-take path depth (suc n) (rung ∷ upper) = ap (λ ls. level_at (take depth path) rung ∷ ls) (along-take path (depth + 1) n upper)
