-- Rows as they grow.
use Rattle.std.proofs.Common.{◌≡◌, ℕ, zero, suc, ◌+◌, ◌≤◌, List, [], ◌∷◌, ◌++◌, decimal, sym, ap, ◌∙◌, arith}
use Rattle.std.proofs.lemmas.List.{append-nil, flat_map_more}
use Rattle.std.proofs.lemmas.List.FromFn.{map-range_with_len_more}
use Rattle.yew_lines.specs.Spelling.{spaced}
use Rattle.yew_make.specs.Draws.{state_after, word_of, weight_of, weight_from, weights_from}
use Rattle.yew_knap.specs.Rows.{spaced_apart, row_line, row_lines}
use Rattle.yew_make.proofs.Generator.{state_after-none}

-- the first number of a row, and one more
pub weights_from-one : (state : ℕ) → spaced_apart (weights_from state 0 1) ≡ decimal (weight_of (word_of state))
weights_from-one state =
    append-nil (decimal (weight_from state 0))
    ∙ ap (λ (s : ℕ). decimal (weight_of (word_of s))) (state_after-none state)

spaced_apart-more : (n : ℕ) (ns : List ℕ) (m : ℕ) → spaced_apart ((n ∷ ns) ++ m ∷ []) ≡ spaced_apart (n ∷ ns) ++ spaced m
spaced_apart-more n ns m = sym (flat_map_more spaced (decimal n) ns m)

-- a row of weights with one more, where the state before it is known
pub weights_from-more : (state k now : ℕ) → 1 ≤ k → now ≡ state_after state k → spaced_apart (weights_from state 0 (k + 1)) ≡ spaced_apart (weights_from state 0 k) ++ spaced (weight_of (word_of now))
weights_from-more state zero now some e = absurd (omega arith)
weights_from-more state (suc k) now some e =
    ap spaced_apart (map-range_with_len_more (weight_from state) 0 (suc k) (suc k) (omega arith))
    ∙ spaced_apart-more (weight_from state 0) (weights_from state (0 + 1) k) (weight_from state (suc k))
    ∙ ap (λ (s : ℕ). spaced_apart (weights_from state 0 (suc k)) ++ spaced (weight_of (word_of s))) (sym e)

-- one more line
pub row_lines-more : (out : List ℕ) (rows : List (List ℕ)) (row : List ℕ) → (out ++ row_lines rows) ++ row_line row ≡ out ++ row_lines (rows ++ row ∷ [])
row_lines-more out rows row = flat_map_more row_line out rows row
