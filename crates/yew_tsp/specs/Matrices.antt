-- The matrix of a file of tours: its words, which numbers it has in each format, and the weights that these are.
use Rattle.std.specs.Prelude.{ℕ, ◌+◌, ◌-◌, ◌*◌, ◌/◌, Bool, true, ◌&&◌, List, [], ◌∷◌, length, map, flat_map, sum_by, zip, Option, Some, None, unwrap_or, nat_lt, ◌==◌, bytes_eq, codes, if◌then◌else◌}
use Rattle.std.specs.List.{list_any, before_first, range_with_len}
use Rattle.yew_text.specs.Words.{Line, TextWord, words_in}
use Rattle.yew_text.specs.Grammar.{DueEnd, due_number, Shape}
use Rattle.yew_tsp.specs.declared.header.Format.{Format}
use Rattle.yew_tsp.specs.declared.header.Format.TheVariants.{FullMatrix, UpperRow, LowerRow, UpperDiagRow, LowerDiagRow}

-- the words that end the matrix
abbrev pub ends_matrix : List ℕ → Bool
ends_matrix text = list_any (λ ending. bytes_eq ending text) (codes "EOF" ∷ codes "EOF:" ∷ codes "DISPLAY_DATA_SECTION" ∷ codes "DISPLAY_DATA_SECTION:" ∷ [])

abbrev pub is_ending : TextWord → Bool
is_ending word = ends_matrix word.text

-- the words up to the first of those, and its line or the line of the end
abbrev pub before_ending : List TextWord → List TextWord
before_ending words = before_first is_ending words

abbrev pub ending_line : ℕ → List TextWord → ℕ
ending_line end [] = end
ending_line end (word ∷ words) = if is_ending word then word.line else ending_line end words

-- the words of the matrix in these lines, and the line where it ends
abbrev pub matrix_words : List Line → List TextWord
matrix_words lines = before_ending (flat_map words_in lines)

abbrev pub matrix_end : ℕ → List Line → ℕ
matrix_end end lines = ending_line end (flat_map words_in lines)

-- the first column of a row, and how many columns the file has of it; rows and columns are counted from 1 to n
abbrev pub first_column : Format → ℕ → ℕ
first_column FullMatrix i = 1
first_column UpperRow i = i + 1
first_column LowerRow i = 1
first_column UpperDiagRow i = i
first_column LowerDiagRow i = 1

abbrev pub row_length : Format → ℕ → ℕ → ℕ
row_length FullMatrix n i = n
row_length UpperRow n i = n - i
row_length LowerRow n i = i - 1
row_length UpperDiagRow n i = n + 1 - i
row_length LowerDiagRow n i = i

-- how many numbers stand before those of a row
abbrev pub row_start : Format → ℕ → ℕ → ℕ
row_start format n i = sum_by (row_length format n) (range_with_len 1 (i - 1))

-- whether the file has the place of two different cities, and not only that of their mirror
abbrev pub has_place : Format → ℕ → ℕ → Bool
has_place FullMatrix i j = true
has_place UpperRow i j = nat_lt i j
has_place LowerRow i j = nat_lt j i
has_place UpperDiagRow i j = nat_lt i j
has_place LowerDiagRow i j = nat_lt j i

-- the places of the numbers, row by row
abbrev pub places : Format → ℕ → List (ℕ × ℕ)
places format n = flat_map (λ i. map (λ j. (i, j)) (range_with_len (first_column format i) (row_length format n i))) (range_with_len 1 n)

-- how many these are
abbrev pub matrix_count : Format → ℕ → ℕ
matrix_count FullMatrix n = n * n
matrix_count UpperRow n = n * (n - 1) / 2
matrix_count LowerRow n = n * (n - 1) / 2
matrix_count UpperDiagRow n = n * (n + 1) / 2
matrix_count LowerDiagRow n = n * (n + 1) / 2

abbrev pub matrix_shape : Format → ℕ → Shape
matrix_shape format n numbers = if nat_lt (length numbers) (matrix_count format n) then due_number else DueEnd

-- the number at a place, where the file has it
abbrev pub number_at : List ((ℕ × ℕ) × ℕ) → ℕ → ℕ → Option ℕ
number_at [] i j = None
number_at (entry ∷ entries) i j = if entry.0.0 == i && entry.0.1 == j then Some entry.1 else number_at entries i j

-- the weight from i to j: 0 on the diagonal, and where a triangle lacks it that from j to i
abbrev pub weight_from : List ((ℕ × ℕ) × ℕ) → ℕ → ℕ → ℕ
weight_from entries i j = if i == j then 0 else unwrap_or (number_at entries i j) (unwrap_or (number_at entries j i) 0)

-- the weights of n cities, row by row
abbrev pub weights_of : Format → ℕ → List ℕ → List ℕ
weights_of format n numbers = flat_map (λ i. map (λ j. weight_from (zip (places format n) numbers) i j) (range_with_len 1 n)) (range_with_len 1 n)
