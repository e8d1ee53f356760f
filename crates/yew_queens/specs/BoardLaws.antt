-- The facts of the tree of placements.
use Rattle.std.proofs.Common.{◌≡◌, ℕ, zero, suc, ap, ◌+◌, ◌<◌, ◌≤◌, ◌^◌, Bool, true, false, cond, ◌==◌, List, [], ◌∷◌, ◌++◌, length, map, nat_lt, if◌then◌else◌, refl, arith, length-append}
use Rattle.std.specs.List.{AllByRecursion, filter, range_with_len}
use Rattle.std.proofs.lemmas.Bool.Decides.{nat_tests}
use Rattle.yew_laws.specs.Tree.{IsRanked, IsBounded}
use Rattle.yew_queens.specs.BoardTree.{is_free, children_of, rows_left, worth_of}

abbrev pub HasRoom : ℕ → List ℕ → Type 0
HasRoom size columns = length columns ≤ size

-- what holds with any column added holds of all children
extended-all : (P : List ℕ → Type 0) (columns ns : List ℕ) (test : ℕ → Bool) → ((c : ℕ) → P (columns ++ c ∷ [])) → AllByRecursion P (map (λ c. columns ++ c ∷ []) (filter test ns))
extended-all P columns [] test each = tt
extended-all P columns (n ∷ ns) test each =
    elim (test n) as (λ b. AllByRecursion P (map (λ c. columns ++ c ∷ []) (cond b (n ∷ filter test ns) (filter test ns))))
    [ true ↦ (each n, extended-all P columns ns test each) | false ↦ extended-all P columns ns test each ]

children-all : (P : List ℕ → Type 0) (size : ℕ) (columns : List ℕ) → (length columns < size → (c : ℕ) → P (columns ++ c ∷ [])) → AllByRecursion P (children_of size columns)
children-all P size columns each =
    elim (nat_lt (length columns) size)
    as (λ b. nat_lt (length columns) size ≡ b → AllByRecursion P (if b then map (λ c. columns ++ c ∷ []) (filter (is_free columns) (range_with_len 0 size)) else [])) [
      | true ↦ λ is. extended-all P columns (range_with_len 0 size) (is_free columns) (each (grind (arith, nat_tests)))
      | false ↦ λ is. tt
    ]
    refl

one-longer : (columns : List ℕ) (c : ℕ) → length (columns ++ c ∷ []) ≡ length columns + 1
one-longer columns c = length-append columns (c ∷ [])

pub board-ranked : (size : ℕ) → IsRanked (HasRoom size) (children_of size) (rows_left size)
board-ranked size = record {
  stays_sound = λ columns s. children-all (HasRoom size) size columns (λ room c. let longer = one-longer columns c in omega arith);
  rank_falls = λ columns s. children-all (λ child. rows_left size child < rows_left size columns) size columns (λ room c. let longer = one-longer columns c in omega arith);
}

worth-small : (size : ℕ) (columns : List ℕ) → worth_of size columns ≤ 1
worth-small size columns = elim (length columns == size) as (λ b. (if b then 1 else 0) ≤ 1) [ true ↦ omega arith | false ↦ omega arith ]

pub board-bounded : (size : ℕ) → IsBounded (HasRoom size) (children_of size) (worth_of size) (λ _. 1)
board-bounded size = record {
  bounds = λ columns below path s at. worth-small size below;
  fits = λ columns s. omega arith;
}

length-filtered : (columns ns : List ℕ) (test : ℕ → Bool) → length (map (λ c. columns ++ c ∷ []) (filter test ns)) ≤ length ns
length-filtered columns [] test = omega arith
length-filtered columns (n ∷ ns) test =
    let rest = length-filtered columns ns test in
    elim (test n) as (λ b. length (map (λ c. columns ++ c ∷ []) (cond b (n ∷ filter test ns) (filter test ns))) ≤ suc (length ns))
    [ true ↦ omega arith | false ↦ omega arith ]

length-range : (a n : ℕ) → length (range_with_len a n) ≡ n
length-range a zero = refl
length-range a (suc n) = ap suc (length-range (a + 1) n)

pub board-countable : (size : ℕ) → size ≤ 65535 → (columns : List ℕ) → HasRoom size columns → length (children_of size columns) + 1 < 2 ^ 32
board-countable size few columns s =
    let most = length-filtered columns (range_with_len 0 size) (is_free columns) in
    let all = length-range 0 size in
    elim (nat_lt (length columns) size)
    as (λ b. length (if b then map (λ c. columns ++ c ∷ []) (filter (is_free columns) (range_with_len 0 size)) else []) + 1 < 2 ^ 32)
    [ true ↦ omega arith | false ↦ omega arith ]

pub board-root_rank : (size : ℕ) → size ≤ 65535 → rows_left size [] ≤ 65535
board-root_rank size few = omega arith
