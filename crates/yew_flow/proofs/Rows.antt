-- Rows of numbers that are set anew machine by machine, and sums and lists that grow by one.
use Rattle.std.proofs.Common.{◌≡◌, ℕ, zero, suc, max, ◌+◌, ◌-◌, ◌<◌, ◌≤◌, List, [], ◌∷◌, ◌++◌, length, drop, map, get_or, slice_set, append_assoc, ap, sym, ◌∙◌, arith}
use Rattle.std.specs.Prelude.{flat_map}
use Rattle.std.specs.List.{range_with_len, sum_by}
use Rattle.std.proofs.Math.Seq.{set-append_seam}
use Rattle.std.proofs.lemmas.List.{append-nil, drop_more, map_push}
use Rattle.std.proofs.lemmas.List.FromFn.{length-map-range_with_len}
use Rattle.std.proofs.lemmas.List.Sums.{sum_by_push}
use Rattle.yew_flow.specs.Instance.{Instance, time_on}
use Rattle.yew_flow.specs.Lists.{range-append}
use Rattle.yew_flow.specs.Nodes.{done_on}

-- a row whose first places are set
abbrev pub front : (ℕ → ℕ) → List ℕ → ℕ → List ℕ
front f row p = map f (range_with_len 1 p) ++ drop p row

-- one more number of a range
pub range-more : (a n : ℕ) → range_with_len a (n + 1) ≡ range_with_len a n ++ (a + n) ∷ []
range-more a n = range-append a n 1

pub front-step : (f : ℕ → ℕ) (row : List ℕ) (p v : ℕ) → p < length row → v ≡ f (1 + p) → slice_set (front f row p) p v ≡ front f row (p + 1)
front-step f row p v within is =
    let done = map f (range_with_len 1 p) in
    let long : length done ≡ p = length-map-range_with_len f 1 p in
    ap (λ ys. slice_set (done ++ ys) p v) (drop_more row p 0 within)
    ∙ ap (λ k. slice_set (done ++ get_or row p 0 ∷ drop (p + 1) row) k v) (sym long)
    ∙ set-append_seam done (get_or row p 0) (drop (p + 1) row) v
    ∙ ap (λ w. done ++ w ∷ drop (p + 1) row) is
    ∙ sym (append_assoc done (f (1 + p) ∷ []) (drop (p + 1) row))
    ∙ ap (λ xs. xs ++ drop (p + 1) row) (sym (ap (map f) (range-more 1 p) ∙ map_push f (range_with_len 1 p) (1 + p)))

-- the same where machines are counted from 1
pub front-machine : (f : ℕ → ℕ) (row set : List ℕ) (machine v : ℕ) → 1 ≤ machine → machine ≤ length row → set ≡ front f row (machine - 1) → v ≡ f machine → slice_set set (machine - 1) v ≡ front f row (machine + 1 - 1)
front-machine f row set machine v some few is value =
    let here : 1 + (machine - 1) ≡ machine = omega (arith, some) in
    let next : machine - 1 + 1 ≡ machine + 1 - 1 = omega (arith, some) in
    ap (λ xs. slice_set xs (machine - 1) v) is
    ∙ front-step f row (machine - 1) v (omega (arith, some, few)) (value ∙ ap f (sym here))
    ∙ ap (front f row) next

-- one more summand
pub sum-more : (f : ℕ → ℕ) (a k : ℕ) → a ≤ k → sum_by f (range_with_len a (k + 1 - a)) ≡ sum_by f (range_with_len a (k - a)) + f k
sum-more f a k l =
    let long : k + 1 - a ≡ k - a + 1 = omega (arith, l) in
    let last : a + (k - a) ≡ k = omega (arith, l) in
    ap (λ n. sum_by f (range_with_len a n)) long
    ∙ ap (sum_by f) (range-more a (k - a))
    ∙ sum_by_push f (range_with_len a (k - a)) (a + (k - a))
    ∙ ap (λ j. sum_by f (range_with_len a (k - a)) + f j) last

-- when a job is done on a machine, by the machine before
pub done-at : (instance : Instance) (ends : List ℕ) (job machine : ℕ) → 1 ≤ machine → done_on instance ends job machine ≡ max (get_or ends (machine - 1) 0) (done_on instance ends job (machine - 1)) + time_on instance job machine
done-at instance ends job zero some = absurd (omega (arith, some))
done-at instance ends job (suc j) some =
    let place : j ≡ suc j - 1 = omega arith in
    ap (λ k. max (get_or ends k 0) (done_on instance ends job k) + time_on instance job (suc j)) place

-- one more row
pub rows-more : (f : ℕ → List ℕ) (k : ℕ) → 1 ≤ k → flat_map f (range_with_len 1 (k + 1 - 1)) ≡ flat_map f (range_with_len 1 (k - 1)) ++ f k
rows-more f k some =
    let long : k + 1 - 1 ≡ k - 1 + 1 = omega (arith, some) in
    let last : 1 + (k - 1) ≡ k = omega (arith, some) in
    ap (λ n. flat_map f (range_with_len 1 n)) long
    ∙ ap (flat_map f) (range-more 1 (k - 1))
    ∙ rows-push (range_with_len 1 (k - 1)) (1 + (k - 1))
    ∙ ap (λ j. flat_map f (range_with_len 1 (k - 1)) ++ f j) last
  where
    rows-push : (xs : List ℕ) (y : ℕ) → flat_map f (xs ++ y ∷ []) ≡ flat_map f xs ++ f y
    rows-push [] y = append-nil (f y)
    rows-push (x ∷ xs) y = ap (λ ys. f x ++ ys) (rows-push xs y) ∙ sym (append_assoc (f x) (flat_map f xs) (f y))
