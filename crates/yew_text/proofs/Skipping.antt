-- White space in front of a text, byte by byte.
use Rattle.std.proofs.Common.{◌≡◌, ℕ, suc, ◌+◌, ◌<◌, ◌≤◌, Bool, cond, List, [], ◌∷◌, length, take, drop, get_or, refl, ap, ◌∙◌, arith, sym, inl, inr, drop-cons}
use Rattle.std.specs.Prelude.{IsTrue, IsFalse, count_by}
use Rattle.std.specs.List.{prefix_len}
use Rattle.std.proofs.lemmas.Bool.{cases_Bool, eqb-true}
use Rattle.std.proofs.lemmas.List.{take_more}
use Rattle.std.proofs.lemmas.List.Sums.{sum_by-append, prefix_len-drop_all, prefix_len-drop_no}
use mir.Val.{bool_byte}
use Rattle.yew_text.specs.Words.{is_white, is_newline, words_from}
use Rattle.yew_text.specs.Fields.{fields_from}
use Rattle.yew_text.specs.Position.{Position, IsPosition, position_in, bytes_left, words_left, fields_left}
use Rattle.yew_text.specs.Reading.{SkipsWhite}
use Rattle.yew_text.proofs.Splitting.{word_laws}
use Rattle.yew_text.proofs.FieldLines.{field_laws}

-- how far a byte moves the line
abbrev pub lines_in : ℕ → ℕ
lines_in b = bool_byte (is_newline b)

-- a byte of white space in front
words_from-white : (n b : ℕ) (bytes : List ℕ) → IsTrue (is_white b) → words_from n (b ∷ bytes) ≡ words_from (n + lines_in b) bytes
words_from-white n b bytes h = elim (cases_Bool (is_newline b)) [
  | inl is ↦ let e : b ≡ 10 = eqb-true b 10 is in ap (λ (x : ℕ). words_from n (x ∷ bytes)) e ∙ word_laws.newline n bytes ∙ ap (λ (t : Bool). words_from (n + bool_byte t) bytes) (sym is)
  | inr is_not ↦ word_laws.white n b bytes h is_not ∙ ap (λ (m : ℕ). words_from m bytes) (let e : n ≡ n + 0 = omega arith in e) ∙ ap (λ (t : Bool). words_from (n + bool_byte t) bytes) (sym is_not)
]

fields_from-white : (n b : ℕ) (bytes : List ℕ) → IsTrue (is_white b) → fields_from n (b ∷ bytes) ≡ fields_from (n + lines_in b) bytes
fields_from-white n b bytes h = elim (cases_Bool (is_newline b)) [
  | inl is ↦ let e : b ≡ 10 = eqb-true b 10 is in ap (λ (x : ℕ). fields_from n (x ∷ bytes)) e ∙ field_laws.newline n bytes ∙ ap (λ (t : Bool). fields_from (n + bool_byte t) bytes) (sym is)
  | inr is_not ↦ field_laws.white n b bytes h is_not ∙ ap (λ (m : ℕ). fields_from m bytes) (let e : n ≡ n + 0 = omega arith in e) ∙ ap (λ (t : Bool). fields_from (n + bool_byte t) bytes) (sym is_not)
]

-- The white space between two positions was passed over, and more may follow.
pub record Skipping (old at : Position) : Type 0 where
  pub reached : IsPosition at
  pub place : at.place + prefix_len is_white (bytes_left at) ≡ old.place + prefix_len is_white (bytes_left old)
  pub words : words_left old ≡ words_left at
  pub fields : fields_left old ≡ fields_left at

pub skipping_none : (at : Position) → IsPosition at → Skipping at at
skipping_none at reached = record { reached = reached; place = refl; words = refl; fields = refl }

module _ (bytes : List ℕ) (place line : ℕ) (within : place < length bytes) where
  cut : drop place bytes ≡ get_or bytes place 0 ∷ drop (place + 1) bytes
  cut = drop-cons bytes place 0 within ∙ ap (λ (k : ℕ). get_or bytes place 0 ∷ drop k bytes) (let e : suc place ≡ place + 1 = omega arith in e)

  -- the position behind any byte
  pub next_position : IsPosition (position_in bytes place line) → IsPosition (position_in bytes (place + 1) (line + lines_in (get_or bytes place 0)))
  next_position at =
      let b = get_or bytes place 0 in
      let counted : count_by is_newline (take (place + 1) bytes) ≡ count_by is_newline (take place bytes) + count_by is_newline (b ∷ []) =
      ap (count_by is_newline) (take_more bytes place 0 within) ∙ sum_by-append (λ x. cond (is_newline x) 1 0) (take place bytes) (b ∷ []) in
      let one : count_by is_newline (b ∷ []) ≡ lines_in b = elim (cases_Bool (is_newline b)) [ inl h ↦ rw h refl | inr h ↦ rw h refl ] in
      let was : line ≡ 1 + count_by is_newline (take place bytes) = at.line_is in
      record { within = omega arith; line_is = omega arith }

  -- one byte further
  pub skipping_more : (old : Position) → Skipping old (position_in bytes place line) → IsTrue (is_white (get_or bytes place 0)) → Skipping old (position_in bytes (place + 1) (line + lines_in (get_or bytes place 0)))
  skipping_more old s white =
      let b = get_or bytes place 0 in
      let rest = drop (place + 1) bytes in
      let front : prefix_len is_white (drop place bytes) ≡ 1 + prefix_len is_white rest = ap (prefix_len is_white) cut ∙ ap (λ (t : Bool). cond t (1 + prefix_len is_white rest) 0) white in
      let was : place + prefix_len is_white (drop place bytes) ≡ old.place + prefix_len is_white (bytes_left old) = s.place in
      let more : place + 1 + prefix_len is_white rest ≡ old.place + prefix_len is_white (bytes_left old) = omega arith in
      record {
        reached = next_position s.reached;
        place = more;
        words = s.words ∙ ap (words_from line) cut ∙ words_from-white line b rest white;
        fields = s.fields ∙ ap (fields_from line) cut ∙ fields_from-white line b rest white;
      }

-- where no more follows, all was passed over
skipped : (old at : Position) → Skipping old at → prefix_len is_white (bytes_left at) ≡ 0 → SkipsWhite old at
skipped old at s none =
    let was : at.place + prefix_len is_white (bytes_left at) ≡ old.place + prefix_len is_white (bytes_left old) = s.place in
    record { reached = s.reached; place = omega arith; words = s.words; fields = s.fields }

pub skipped_all : (old at : Position) → Skipping old at → length at.bytes ≤ at.place → SkipsWhite old at
skipped_all old at s past = skipped old at s (prefix_len-drop_all is_white at.bytes at.place past)

pub skipped_to : (old at : Position) → Skipping old at → at.place < length at.bytes → IsFalse (is_white (get_or at.bytes at.place 0)) → SkipsWhite old at
skipped_to old at s within stops = skipped old at s (prefix_len-drop_no is_white at.bytes at.place 0 within stops)
