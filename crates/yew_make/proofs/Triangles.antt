-- The rows of a triangle, one after another, and the places of its pairs.
use Rattle.std.proofs.Common.{◌≡◌, ℕ, zero, suc, ◌+◌, ◌-◌, ◌*◌, ◌/◌, ◌<◌, ◌≤◌, List, [], ◌∷◌, ◌++◌, map, refl, sym, ap, subst, ◌∙◌, arith}
use Rattle.std.specs.List.{range_with_len}
use Rattle.std.specs.Prelude.{flat_map}
use Rattle.std.proofs.lemmas.Grind.{flat_map-append}
use Rattle.std.proofs.lemmas.Simd.{map-map}
use Rattle.std.proofs.lemmas.List.{append-nil, map-append}
use Rattle.std.proofs.lemmas.List.FromFn.{map-range_with_len_more}
use Rattle.yew_make.specs.Draws.{state_after, weights_from}
use Rattle.yew_knap.specs.Rows.{row_line, row_lines}
use Rattle.yew_make.specs.Pairs.{pairs_of, pairs_before, pair_place, place_of, AreInOrder}
use Rattle.yew_make.specs.Tours.{triangle_row}
use Rattle.yew_make.proofs.Generator.{state_after-add, weights_from-after}
use Rattle.yew_make.proofs.Ranges.{range_with_len-more, range_with_len-append}
use Rattle.yew_make.proofs.RowSteps.{row_lines-more}

pub pairs_before-none : (size : ℕ) → pairs_before size 0 ≡ 0
unfolding pairs_before
pairs_before-none size = refl

pub pairs_before-more : (size u : ℕ) → pairs_before size (suc u) ≡ pairs_before size u + (size - suc u)
unfolding pairs_before
pairs_before-more size u = refl

-- the row of the words that come next
row_is : (state size u now : ℕ) → now ≡ state_after state (pairs_before size u) → weights_from now 0 (size - 1 - u) ≡ triangle_row state size u
row_is state size u now e =
    let start : pairs_before size u + 0 ≡ pairs_before size u = omega arith in
    let count : size - 1 - u ≡ size - suc u = omega arith in
    ap (λ (s : ℕ). weights_from s 0 (size - 1 - u)) e
    ∙ weights_from-after state (pairs_before size u) 0 (size - 1 - u)
    ∙ ap (λ (k : ℕ). weights_from state k (size - 1 - u)) start
    ∙ ap (weights_from state (pairs_before size u)) count

-- one more line of the triangle
pub triangle-more : (state size u now : ℕ) (old out new : List ℕ) → now ≡ state_after state (pairs_before size u) → out ≡ old ++ row_lines (map (triangle_row state size) (range_with_len 0 u)) → new ≡ out ++ row_line (weights_from now 0 (size - 1 - u)) → new ≡ old ++ row_lines (map (triangle_row state size) (range_with_len 0 (u + 1)))
triangle-more state size u now old out new at before is =
    is
    ∙ ap (λ (t : List ℕ). t ++ row_line (weights_from now 0 (size - 1 - u))) before
    ∙ ap (λ (row : List ℕ). (old ++ row_lines (map (triangle_row state size) (range_with_len 0 u))) ++ row_line row) (row_is state size u now at)
    ∙ row_lines-more old (map (triangle_row state size) (range_with_len 0 u)) (triangle_row state size u)
    ∙ ap (λ (rows : List (List ℕ)). old ++ row_lines rows) (sym (map-range_with_len_more (triangle_row state size) 0 u u (omega arith)))

pub triangle-state : (state size u now after : ℕ) → now ≡ state_after state (pairs_before size u) → after ≡ state_after now (size - 1 - u) → after ≡ state_after state (pairs_before size (u + 1))
triangle-state state size u now after at is =
    let one_more : u + 1 ≡ suc u = omega arith in
    let row = pairs_before-more size u in
    let place : pairs_before size u + (size - 1 - u) ≡ pairs_before size (suc u) = omega (arith, row) in
    is
    ∙ ap (λ (s : ℕ). state_after s (size - 1 - u)) at
    ∙ state_after-add state (pairs_before size u) (size - 1 - u)
    ∙ ap (state_after state) place
    ∙ ap (λ (k : ℕ). state_after state (pairs_before size k)) (sym one_more)

-- the pairs before a row, in one product
twice : (p u m size : ℕ) → 2 * p ≡ u * (m + 1) → m + u + 2 ≡ 2 * size → suc u ≤ size → 2 * (p + (size - suc u)) ≡ suc u * m
twice p u m size h e l = omega arith

pub pairs_before-twice : (size u : ℕ) → u ≤ size → 2 * pairs_before size u ≡ u * (2 * size - u - 1)
pairs_before-twice size zero l = let e = pairs_before-none size in omega (arith, e)
pairs_before-twice size (suc u) l =
    let m = 2 * size - suc u - 1 in
    let row = pairs_before-more size u in
    let above : 2 * size - u - 1 ≡ m + 1 = omega arith in
    let before : 2 * pairs_before size u ≡ u * (2 * size - u - 1) = pairs_before-twice size u (omega arith) in
    let here : 2 * pairs_before size u ≡ u * (m + 1) = before ∙ ap (λ (k : ℕ). u * k) above in
    ap (λ (k : ℕ). 2 * k) row ∙ twice (pairs_before size u) u m size here (omega arith) l

pub pairs_before-is : (size u : ℕ) → u ≤ size → u * (2 * size - u - 1) / 2 ≡ pairs_before size u
pairs_before-is size u l = let h = pairs_before-twice size u l in omega (arith, h)

pub pairs_before-all : (size : ℕ) → size * (size - 1) / 2 ≡ pairs_before size size
pairs_before-all size =
    let e : size - 1 ≡ 2 * size - size - 1 = omega arith in
    ap (λ (k : ℕ). size * k / 2) e ∙ pairs_before-is size size (omega arith)

-- a later row has no fewer pairs before it
pairs_before-le : (size u k : ℕ) → pairs_before size u ≤ pairs_before size (u + k)
pairs_before-le size u zero = let e : u + 0 ≡ u = omega arith in subst (λ (n : ℕ). pairs_before size u ≤ pairs_before size n) (sym e) (omega arith)
pairs_before-le size u (suc k) =
    let h = pairs_before-le size u k in
    let row = pairs_before-more size (u + k) in
    let e : u + suc k ≡ suc (u + k) = omega arith in
    subst (λ (n : ℕ). pairs_before size u ≤ pairs_before size n) (sym e) (omega (arith, h, row))

-- each pair is kept
pub pair_place-lt : (size u v : ℕ) → u < v → v < size → pair_place size u v < pairs_before size size
pair_place-lt size u v order within =
    let row = pairs_before-more size u in
    let last : suc u + (size - suc u) ≡ size = omega arith in
    let later : pairs_before size (suc u) ≤ pairs_before size size = subst (λ (n : ℕ). pairs_before size (suc u) ≤ pairs_before size n) last (pairs_before-le size (suc u) (size - suc u)) in
    omega (arith, row, later)

-- ---- the places of the pairs are in order

places-of_range : (before u a n : ℕ) → u < a → map (λ v. before + (v - suc u)) (range_with_len a n) ≡ range_with_len (before + (a - suc u)) n
places-of_range before u a zero l = refl
places-of_range before u a (suc n) l =
    let e : before + (a + 1 - suc u) ≡ before + (a - suc u) + 1 = omega arith in
    ap (λ (ks : List ℕ). (before + (a - suc u)) ∷ ks) (places-of_range before u (a + 1) n (omega arith) ∙ ap (λ (k : ℕ). range_with_len k n) e)

places-row : (size u : ℕ) → map (place_of size) (pairs_of size u) ≡ range_with_len (pairs_before size u) (size - suc u)
places-row size u =
    let start : pairs_before size u + (u + 1 - suc u) ≡ pairs_before size u = omega arith in
    let count : size - (u + 1) ≡ size - suc u = omega arith in
    map-map (place_of size) (λ (v : ℕ). (u, v)) (range_with_len (u + 1) (size - (u + 1)))
    ∙ places-of_range (pairs_before size u) u (u + 1) (size - (u + 1)) (omega arith)
    ∙ ap (λ (k : ℕ). range_with_len k (size - (u + 1))) start
    ∙ ap (range_with_len (pairs_before size u)) count

places-rows : (size u : ℕ) → map (place_of size) (flat_map (pairs_of size) (range_with_len 0 u)) ≡ range_with_len 0 (pairs_before size u)
places-rows size zero = ap (range_with_len 0) (sym (pairs_before-none size))
places-rows size (suc u) =
    let e : suc u ≡ u + 1 = omega arith in
    let start : 0 + pairs_before size u ≡ pairs_before size u = omega arith in
    let before = flat_map (pairs_of size) (range_with_len 0 u) in
    ap (λ (k : ℕ). map (place_of size) (flat_map (pairs_of size) (range_with_len 0 k))) e
    ∙ ap (λ (l : List ℕ). map (place_of size) (flat_map (pairs_of size) l)) (range_with_len-more 0 u u (omega arith))
    ∙ ap (map (place_of size)) (flat_map-append (pairs_of size) (range_with_len 0 u) (u ∷ []))
    ∙ map-append (place_of size) before (pairs_of size u ++ [])
    ∙ ap (λ (l : List (ℕ × ℕ)). map (place_of size) before ++ map (place_of size) l) (append-nil (pairs_of size u))
    ∙ ap (λ (l : List ℕ). l ++ map (place_of size) (pairs_of size u)) (places-rows size u)
    ∙ ap (λ (l : List ℕ). range_with_len 0 (pairs_before size u) ++ l) (places-row size u)
    ∙ ap (λ (k : ℕ). range_with_len 0 (pairs_before size u) ++ range_with_len k (size - suc u)) (sym start)
    ∙ sym (range_with_len-append 0 (pairs_before size u) (size - suc u))
    ∙ ap (range_with_len 0) (sym (pairs_before-more size u))

pub pairs_in_order : (size : ℕ) → AreInOrder size
pairs_in_order size = places-rows size size ∙ ap (range_with_len 0) (sym (pairs_before-all size))
