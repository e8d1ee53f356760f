-- The specification part of a made tour file, as it is read.
use Rattle.std.proofs.Common.{◌≡◌, ℕ, zero, suc, ◌+◌, ◌-◌, ◌<◌, ◌≤◌, Bool, true, false, cond, List, [], ◌∷◌, ◌++◌, length, map, drop, get_or, decimal, codes, refl, sym, ap, subst, ◌∙◌, arith, append_assoc, inl}
use Rattle.std.specs.Prelude.{not, IsFalse}
use Rattle.std.specs.List.{AllByRecursion, list_all, prefix_len, suffix_len}
use Rattle.std.proofs.lemmas.List.{take_all}
use Rattle.std.proofs.lemmas.List.Sums.{suffix_len_is}
use Rattle.std.proofs.lemmas.Bool.{and_parts}
use Rattle.yew_lines.specs.Spelling.{line}
use Rattle.yew_text.specs.Words.{is_white, is_newline, lines_from}
use Rattle.yew_text.specs.Numbers.{value_of, greatest}
use Rattle.yew_text.specs.Fields.{trim, trim_end, FieldAt, TextField, fields_from}
use Rattle.yew_text.specs.Laws.{HasNoWhite, HasNoNewline}
use Rattle.yew_text.proofs.Splitting.{digits_black, none_newline}
use Rattle.yew_text.proofs.FieldLines.{field_laws}
use Rattle.yew_tsp.specs.declared.header.Format.TheVariants.{UpperRow}
use Rattle.yew_tsp.specs.declared.header.Key.TheVariants.{Name, DataType, Dimension, WeightType, WeightFormat}
use Rattle.yew_tsp.specs.Files.{Says}
use Rattle.yew_tsp.specs.Headers.{AreEntries, Header, HasHeader}
use Rattle.yew_tsp.specs.Keys.{is_number}
use Rattle.yew_make.specs.Tours.{tour_head}
use Rattle.yew_knap.proofs.NumberWords.{digits_of}

-- ---- its fields

abbrev field : List ℕ → List ℕ → ℕ → TextField
field key value line = record { key = key; value = value; colon = true; line = line }

abbrev head_fields : ℕ → List TextField
head_fields size =
    field (codes "NAME") (codes "made") 1
    ∷ field (codes "TYPE") (codes "TSP") 2
    ∷ field (codes "DIMENSION") (decimal size) 3
    ∷ field (codes "EDGE_WEIGHT_TYPE") (codes "EXPLICIT") 4
    ∷ field (codes "EDGE_WEIGHT_FORMAT") (codes "UPPER_ROW") 5
    ∷ []

-- the line behind which the matrix begins
abbrev section_field : TextField
section_field = record { key = codes "EDGE_WEIGHT_SECTION"; value = []; colon = false; line = 6 }

-- the header of a text with these bytes behind the specification part
abbrev pub made_header : ℕ → List ℕ → Header
made_header size matrix = record { given = head_fields size; section = record { field = section_field; behind = lines_from 7 matrix } }

-- ---- its lines

all-at : {X : Type 0} (P : X → Type 0) (xs : List X) (k : ℕ) (d : X) → AllByRecursion P xs → k < length xs → P (get_or xs k d)
all-at P [] k d a l = absurd (omega arith)
all-at P (x ∷ xs) zero d a l = a.0
all-at P (x ∷ xs) (suc k) d a l = all-at P xs k d a.1 (omega arith)

all-append : {X : Type 0} (P : X → Type 0) (xs ys : List X) → AllByRecursion P xs → AllByRecursion P ys → AllByRecursion P (xs ++ ys)
all-append P [] ys a b = b
all-append P (x ∷ xs) ys a b = (a.0, all-append P xs ys a.1 b)

-- a word is not trimmed
trim_end-word : (text : List ℕ) → 0 < length text → HasNoWhite text → trim_end text ≡ text
trim_end-word text some out =
    let last = all-at (λ b. IsFalse (is_white b)) text (length text - 1) 0 out (omega arith) in
    let none = suffix_len_is is_white text (length text) 0 (omega arith) (λ k l m. absurd (omega arith)) (λ _. last) in
    take_all (length text - suffix_len is_white text) text (omega (arith, none))

trim-word : (b : ℕ) (bs : List ℕ) → HasNoWhite (b ∷ bs) → trim (32 ∷ b ∷ bs) ≡ b ∷ bs
trim-word b bs out =
    ap (λ (t : Bool). trim_end (drop (1 + cond t (1 + prefix_len is_white bs) 0) (32 ∷ b ∷ bs))) out.0
    ∙ trim_end-word (b ∷ bs) (omega arith) out

black_digits : (n : ℕ) → n ≤ greatest → HasNoWhite (decimal n)
black_digits n small = let d = digits_of n small in subst HasNoWhite (sym d.is) (digits_black (d.first ∷ d.others) d.digits)

trim-number : (n : ℕ) → n ≤ greatest → trim (32 ∷ decimal n) ≡ decimal n
trim-number n small =
    let d = digits_of n small in
    ap (λ (ds : List ℕ). trim (32 ∷ ds)) d.is ∙ trim-word d.first d.others (digits_black (d.first ∷ d.others) d.digits) ∙ sym d.is

-- what has no line feed, by a test
not_newline : (b : ℕ) → not (is_newline b) ≡ true → IsFalse (is_newline b)
not_newline b = elim (is_newline b) as (λ t. not t ≡ true → IsFalse t) [ true ↦ λ h. absurd (cc) | false ↦ λ h. refl ]

one_line : (text : List ℕ) → list_all (λ b. not (is_newline b)) text ≡ true → HasNoNewline text
one_line [] h = tt
one_line (b ∷ bs) h = let p = and_parts (not (is_newline b)) (list_all (λ c. not (is_newline c)) bs) h in (not_newline b p.0, one_line bs p.1)

-- the text, line by line
regroup : (d b c e f m : List ℕ) → (d ++ b ++ c ++ e ++ f) ++ m ≡ d ++ (b ++ (c ++ (e ++ (f ++ m))))
regroup d b c e f m = simp append_assoc refl

sixth : List ℕ → List ℕ
sixth matrix = codes "EDGE_WEIGHT_SECTION" ++ 10 ∷ matrix

fifth : List ℕ → List ℕ
fifth matrix = codes "EDGE_WEIGHT_FORMAT: UPPER_ROW" ++ 10 ∷ sixth matrix

fourth : List ℕ → List ℕ
fourth matrix = codes "EDGE_WEIGHT_TYPE: EXPLICIT" ++ 10 ∷ fifth matrix

third : ℕ → List ℕ → List ℕ
third size matrix = (codes "DIMENSION: " ++ decimal size) ++ 10 ∷ fourth matrix

second : ℕ → List ℕ → List ℕ
second size matrix = codes "TYPE: TSP" ++ 10 ∷ third size matrix

first : ℕ → List ℕ → List ℕ
first size matrix = codes "NAME: made" ++ 10 ∷ second size matrix

lines_are : (size : ℕ) (matrix : List ℕ) → tour_head size ++ matrix ≡ first size matrix
unfolding first second third fourth fifth sixth
lines_are size matrix =
    ap (λ (t : List ℕ). codes "NAME: made\nTYPE: TSP\nDIMENSION: " ++ t)
    (regroup (decimal size) (10 ∷ []) (line (codes "EDGE_WEIGHT_TYPE: EXPLICIT")) (line (codes "EDGE_WEIGHT_FORMAT: UPPER_ROW")) (line (codes "EDGE_WEIGHT_SECTION")) matrix)

entry : TextField → ℕ → List ℕ → FieldAt
entry f n rest = record { field = f; behind = lines_from n rest }

first_field : (size : ℕ) (matrix : List ℕ) → fields_from 1 (first size matrix) ≡ entry (field (codes "NAME") (codes "made") 1) 2 (second size matrix) ∷ fields_from 2 (second size matrix)
unfolding first entry
first_field size matrix = field_laws.line 1 (codes "NAME: made") (second size matrix) (one_line (codes "NAME: made") refl) refl

second_field : (size : ℕ) (matrix : List ℕ) → fields_from 2 (second size matrix) ≡ entry (field (codes "TYPE") (codes "TSP") 2) 3 (third size matrix) ∷ fields_from 3 (third size matrix)
unfolding second entry
second_field size matrix = field_laws.line 2 (codes "TYPE: TSP") (third size matrix) (one_line (codes "TYPE: TSP") refl) refl

third_field : (size : ℕ) (matrix : List ℕ) → size ≤ greatest → fields_from 3 (third size matrix) ≡ entry (field (codes "DIMENSION") (decimal size) 3) 4 (fourth matrix) ∷ fields_from 4 (fourth matrix)
unfolding third entry
third_field size matrix small =
    field_laws.line 3 (codes "DIMENSION: " ++ decimal size) (fourth matrix)
    (all-append (λ b. IsFalse (is_newline b)) (codes "DIMENSION: ") (decimal size) (one_line (codes "DIMENSION: ") refl) (none_newline (decimal size) (black_digits size small)))
    refl
    ∙ ap (λ (value : List ℕ). let at : FieldAt = record { field = field (codes "DIMENSION") value 3; behind = lines_from 4 (fourth matrix) } in at ∷ fields_from 4 (fourth matrix)) (trim-number size small)

fourth_field : (matrix : List ℕ) → fields_from 4 (fourth matrix) ≡ entry (field (codes "EDGE_WEIGHT_TYPE") (codes "EXPLICIT") 4) 5 (fifth matrix) ∷ fields_from 5 (fifth matrix)
unfolding fourth entry
fourth_field matrix = field_laws.line 4 (codes "EDGE_WEIGHT_TYPE: EXPLICIT") (fifth matrix) (one_line (codes "EDGE_WEIGHT_TYPE: EXPLICIT") refl) refl

fifth_field : (matrix : List ℕ) → fields_from 5 (fifth matrix) ≡ entry (field (codes "EDGE_WEIGHT_FORMAT") (codes "UPPER_ROW") 5) 6 (sixth matrix) ∷ fields_from 6 (sixth matrix)
unfolding fifth entry
fifth_field matrix = field_laws.line 5 (codes "EDGE_WEIGHT_FORMAT: UPPER_ROW") (sixth matrix) (one_line (codes "EDGE_WEIGHT_FORMAT: UPPER_ROW") refl) refl

sixth_field : (matrix : List ℕ) → fields_from 6 (sixth matrix) ≡ entry section_field 7 matrix ∷ fields_from 7 matrix
unfolding sixth entry
sixth_field matrix = field_laws.line 6 (codes "EDGE_WEIGHT_SECTION") matrix (one_line (codes "EDGE_WEIGHT_SECTION") refl) refl

head_entries : ℕ → List ℕ → List FieldAt
head_entries size matrix =
    entry (field (codes "NAME") (codes "made") 1) 2 (second size matrix)
    ∷ entry (field (codes "TYPE") (codes "TSP") 2) 3 (third size matrix)
    ∷ entry (field (codes "DIMENSION") (decimal size) 3) 4 (fourth matrix)
    ∷ entry (field (codes "EDGE_WEIGHT_TYPE") (codes "EXPLICIT") 4) 5 (fifth matrix)
    ∷ entry (field (codes "EDGE_WEIGHT_FORMAT") (codes "UPPER_ROW") 5) 6 (sixth matrix)
    ∷ []

fields_are : (size : ℕ) (matrix : List ℕ) → size ≤ greatest → fields_from 1 (tour_head size ++ matrix) ≡ head_entries size matrix ++ entry section_field 7 matrix ∷ fields_from 7 matrix
unfolding head_entries
fields_are size matrix small =
    let one = entry (field (codes "NAME") (codes "made") 1) 2 (second size matrix) in
    let two = entry (field (codes "TYPE") (codes "TSP") 2) 3 (third size matrix) in
    let three = entry (field (codes "DIMENSION") (decimal size) 3) 4 (fourth matrix) in
    let four = entry (field (codes "EDGE_WEIGHT_TYPE") (codes "EXPLICIT") 4) 5 (fifth matrix) in
    let five = entry (field (codes "EDGE_WEIGHT_FORMAT") (codes "UPPER_ROW") 5) 6 (sixth matrix) in
    ap (fields_from 1) (lines_are size matrix)
    ∙ first_field size matrix
    ∙ ap (λ (l : List FieldAt). one ∷ l) (second_field size matrix)
    ∙ ap (λ (l : List FieldAt). one ∷ two ∷ l) (third_field size matrix small)
    ∙ ap (λ (l : List FieldAt). one ∷ two ∷ three ∷ l) (fourth_field matrix)
    ∙ ap (λ (l : List FieldAt). one ∷ two ∷ three ∷ four ∷ l) (fifth_field matrix)
    ∙ ap (λ (l : List FieldAt). one ∷ two ∷ three ∷ four ∷ five ∷ l) (sixth_field matrix)

entries_are : (size : ℕ) (matrix : List ℕ) → map (λ at. at.field) (head_entries size matrix) ≡ head_fields size
unfolding head_entries entry
entries_are size matrix = refl

section_entry : (matrix : List ℕ) → entry section_field 7 matrix ≡ record { field = section_field; behind = lines_from 7 matrix }
unfolding entry
section_entry matrix = refl

-- ---- its header

-- the number of cities, read again
record IsDimension (size : ℕ) : Type 0 where
  digits : is_number (decimal size) ≡ true
  value : size ≡ value_of (decimal size)

dimension_of : (size : ℕ) → size ≤ greatest → IsDimension size
dimension_of size small =
    let d = digits_of size small in
    record {
      digits = ap (λ (ds : List ℕ). is_number ds) d.is ∙ d.digits;
      value = d.value ∙ ap (λ (ds : List ℕ). value_of ds) (sym d.is);
    }

entries : (size : ℕ) → 2 ≤ size → size ≤ greatest → AreEntries [] (head_fields size)
entries size several small =
    let d = dimension_of size small in
    let value = d.value in (
      record { key = Name; key_is = refl; colon = refl; new = refl; accepted = tt },
      (
        record { key = DataType; key_is = refl; colon = refl; new = refl; accepted = inl refl },
        (
          record { key = Dimension; key_is = refl; colon = refl; new = refl; accepted = (d.digits, omega (arith, value), omega (arith, value)) },
          (
            record { key = WeightType; key_is = refl; colon = refl; new = refl; accepted = refl },
            (record { key = WeightFormat; key_is = refl; colon = refl; new = refl; accepted = (UpperRow, refl) }, tt),
          ),
        ),
      ),
    )

pub made_header-has : (size : ℕ) (matrix : List ℕ) → 2 ≤ size → size ≤ greatest → HasHeader (tour_head size ++ matrix) (made_header size matrix)
made_header-has size matrix several small = record {
  before = head_entries size matrix;
  more = fields_from 7 matrix;
  fields_are = fields_are size matrix small ∙ ap (λ (at : FieldAt). head_entries size matrix ++ at ∷ fields_from 7 matrix) (section_entry matrix);
  given_are = sym (entries_are size matrix);
  entries = entries size several small;
  is_section = record { key_is = refl; no_value = refl; has_required = (refl, (refl, (refl, (refl, tt)))) };
}

pub made_header-says : (size : ℕ) (matrix : List ℕ) → size ≤ greatest → Says (made_header size matrix).given size UpperRow
made_header-says size matrix small = record { cities_are = (dimension_of size small).value; format_is = refl }
