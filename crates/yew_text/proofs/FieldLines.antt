-- The fields of a text by its first bytes.
use Rattle.std.proofs.Common.{◌≡◌, ℕ, suc, ◌+◌, Bool, cond, List, [], ◌∷◌, ◌++◌, drop, refl, sym, ap, ◌∙◌, arith, inl, inr}
use Rattle.std.specs.Prelude.{◌&&◌, IsTrue, IsFalse, flat_map}
use Rattle.std.specs.List.{list_all, slice_split, onto_first, prefix_len}
use Rattle.std.proofs.lemmas.Bool.{cases_Bool}
use Rattle.std.proofs.lemmas.List.{append-nil}
use Rattle.std.proofs.lemmas.List.Splits.{slice_split-cons_no}
use Rattle.yew_text.specs.Words.{is_white, is_newline, Line, TextWord, numbered, lines_from, words_in}
use Rattle.yew_text.specs.Fields.{trim_start, field_at, field_of, FieldAt, fields_in, fields_from}
use Rattle.yew_text.specs.Laws.{HasNoNewline, FieldLaws}
use Rattle.yew_text.proofs.Splitting.{has_first, onto, words_in-blank, words_in-black}

abbrev line_of : ℕ → List ℕ → Line
line_of n text = record { number = n; text = text }

abbrev field_before : ℕ → List ℕ → List Line → FieldAt
field_before n text behind = record { field = field_at n text; behind = behind }

-- white space in front of a line is no part of its field
trim_start-cons : (b : ℕ) (text : List ℕ) → IsTrue (is_white b) → trim_start (b ∷ text) ≡ trim_start text
trim_start-cons b text h = ap (λ (t : Bool). drop (cond t (1 + prefix_len is_white text) 0) (b ∷ text)) h ∙ ap (λ (k : ℕ). drop k (b ∷ text)) (let e : 1 + prefix_len is_white text ≡ suc (prefix_len is_white text) = omega arith in e)

fields-white_line : (n b : ℕ) (text : List ℕ) (lines : List Line) → IsTrue (is_white b) → fields_in (line_of n (b ∷ text) ∷ lines) ≡ fields_in (line_of n text ∷ lines)
fields-white_line n b text lines h =
    ap (λ (t : Bool). cond (t && list_all is_white text) (fields_in lines) (field_before n (trim_start (b ∷ text)) lines ∷ fields_in lines)) h
    ∙ ap (λ (front : List ℕ). cond (list_all is_white text) (fields_in lines) (field_before n front lines ∷ fields_in lines)) (trim_start-cons b text h)

white : (n b : ℕ) (bytes : List ℕ) → IsTrue (is_white b) → IsFalse (is_newline b) → fields_from n (b ∷ bytes) ≡ fields_from n bytes
white n b bytes h k =
    let f = has_first is_newline bytes in
    ap (λ (xs : List (List ℕ)). fields_in (numbered n xs)) (slice_split-cons_no is_newline b bytes k ∙ ap (onto_first b) f.is)
    ∙ fields-white_line n b f.first (numbered (n + 1) f.others) h
    ∙ ap (λ (xs : List (List ℕ)). fields_in (numbered n xs)) (sym f.is)

-- a line at the front of a text
pub lines_from-line : (n : ℕ) (text rest : List ℕ) → HasNoNewline text → lines_from n (text ++ 10 ∷ rest) ≡ line_of n text ∷ lines_from (n + 1) rest
lines_from-line n text rest out =
    ap (numbered n) (onto is_newline text (10 ∷ rest) [] (slice_split is_newline rest) out refl)
    ∙ ap (λ (t : List ℕ). line_of n t ∷ lines_from (n + 1) rest) (append-nil text)

pub lines_from-last : (n : ℕ) (text : List ℕ) → HasNoNewline text → lines_from n text ≡ line_of n text ∷ []
lines_from-last n text out =
    ap (lines_from n) (sym (append-nil text))
    ∙ ap (numbered n) (onto is_newline text [] [] [] out refl)
    ∙ ap (λ (t : List ℕ). line_of n t ∷ []) (append-nil text)

-- a line that is not blank is a field
fields_in-field : (n : ℕ) (text : List ℕ) (lines : List Line) → IsFalse (list_all is_white text) → fields_in (line_of n text ∷ lines) ≡ record { field = field_of (line_of n text); behind = lines } ∷ fields_in lines
fields_in-field n text lines h = ap (λ (t : Bool). cond t (fields_in lines) (record { field = field_of (line_of n text); behind = lines } ∷ fields_in lines)) h

-- lines without a field have no word, and lines without a word have no field
no_fields : (lines : List Line) → fields_in lines ≡ [] → flat_map words_in lines ≡ []
no_fields [] h = refl
no_fields (line ∷ lines) h = elim (cases_Bool (list_all is_white line.text)) [
  | inl blank ↦ rw (words_in-blank line.number line.text blank) (no_fields lines (rw blank at h))
  | inr black ↦ absurd (let e : record { field = field_of line; behind = lines } ∷ fields_in lines ≡ [] = rw black at h in cc)
]

no_words : (lines : List Line) → flat_map words_in lines ≡ [] → fields_in lines ≡ []
no_words [] h = refl
no_words (line ∷ lines) h = elim (cases_Bool (list_all is_white line.text)) [
  | inl blank ↦ rw blank (no_words lines (rw (words_in-blank line.number line.text blank) at h))
  | inr black ↦ absurd (words_in-black line.number line.text black (front_nil (words_in line) (flat_map words_in lines) h))
]
  where
    front_nil : (xs ys : List TextWord) → xs ++ ys ≡ [] → xs ≡ []
    front_nil [] ys e = refl
    front_nil (x ∷ xs) ys e = absurd (cc)

pub field_laws : FieldLaws
field_laws = record {
  none = λ n. refl;
  newline = λ n bytes. refl;
  white = white;
  line = λ n text rest out h. ap fields_in (lines_from-line n text rest out) ∙ fields_in-field n text (lines_from (n + 1) rest) h;
  last = λ n text out h. ap fields_in (lines_from-last n text out) ∙ fields_in-field n text [] h;
  no_fields = λ n bytes. no_fields (lines_from n bytes);
  no_words = λ n bytes. no_words (lines_from n bytes);
}
