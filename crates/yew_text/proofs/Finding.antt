-- The next word and the next field, by how much stands in front.
use Rattle.std.proofs.Common.{◌≡◌, ℕ, suc, ◌+◌, ◌-◌, ◌<◌, ◌≤◌, Bool, not, cond, List, [], ◌∷◌, ◌++◌, length, take, drop, get_or, refl, sym, ap, subst, ◌∙◌, arith, inl, inr, one-add, drop-cons}
use Rattle.std.specs.Prelude.{IsTrue, IsFalse, count_by}
use Rattle.std.specs.List.{AllByRecursion, prefix_len, list_all}
use Rattle.std.proofs.lemmas.Bool.{cases_Bool, not-true, not-false, eqb-true}
use mir.Val.{bool_byte}
use Rattle.std.proofs.lemmas.List.{append-nil, take-append-drop, drop-drop, length-drop, length-take-le}
use Rattle.std.proofs.lemmas.List.Sums.{sum_by-cons, sum_by-append, prefix_len-le-length}
use Rattle.std.proofs.Math.Seq.{take-length, take-add}
use Rattle.yew_text.specs.Words.{is_white, is_newline, Line, lines_from, words_from, numbered}
use Rattle.yew_text.specs.Fields.{trim_start, TextField, field_at, field_of, fields_from}
use Rattle.yew_text.specs.Position.{Position, IsPosition, position_in, lines_left}
use Rattle.yew_text.specs.Reading.{in_word, in_line, FindsWord, FindsField, AreBehind, SkipsWhite}
use Rattle.yew_text.specs.Laws.{EndsWord, HasNoNewline}
use Rattle.yew_text.proofs.Splitting.{has_first, newline_white, none_newline, word_laws}
use Rattle.yew_text.proofs.FieldLines.{field_laws}
use Rattle.yew_text.proofs.Skipping.{lines_in, next_position}

-- ---- what passes a test in front, and what stops it

abbrev Each : (ℕ → Bool) → List ℕ → Type 0
Each p = AllByRecursion (λ b. IsTrue (p b))

abbrev Stops : (ℕ → Bool) → List ℕ → Type 0
Stops p [] = Unit {0}
Stops p (b ∷ bs) = IsFalse (p b)

front_passes : (p : ℕ → Bool) (xs : List ℕ) → Each p (take (prefix_len p xs) xs)
front_passes p [] = tt
front_passes p (x ∷ xs) = elim (cases_Bool (p x)) [ inl h ↦ rw (h, one-add) (h, front_passes p xs) | inr h ↦ rw h tt ]

rest_stops : (p : ℕ → Bool) (xs : List ℕ) → Stops p (drop (prefix_len p xs) xs)
rest_stops p [] = tt
rest_stops p (x ∷ xs) = elim (cases_Bool (p x)) [ inl h ↦ rw (h, one-add) (rest_stops p xs) | inr h ↦ rw h h ]

count-cons : (p : ℕ → Bool) (x : ℕ) (xs : List ℕ) → count_by p (x ∷ xs) ≡ cond (p x) 1 0 + count_by p xs
count-cons p x xs = sum_by-cons (λ b. cond (p b) 1 0) x xs

no_newlines : (text : List ℕ) → HasNoNewline text → count_by is_newline text ≡ 0
no_newlines [] h = refl
no_newlines (b ∷ text) h = count-cons is_newline b text ∙ ap (λ (t : Bool). cond t 1 0 + count_by is_newline text) h.0 ∙ (let e : 0 + count_by is_newline text ≡ 0 = omega (arith, no_newlines text h.1) in e)

passes_not : (p : ℕ → Bool) (text : List ℕ) → Each (λ b. not (p b)) text → AllByRecursion (λ b. IsFalse (p b)) text
passes_not p [] h = tt
passes_not p (b ∷ text) h = (not-true (p b) h.0, passes_not p text h.1)

ends_of : (rest : List ℕ) → Stops in_word rest → EndsWord rest
ends_of [] h = tt
ends_of (b ∷ rest) h = not-false (is_white b) h

-- a word in front
word_first : (n : ℕ) (text rest : List ℕ) → 0 < length text → Each in_word text → Stops in_word rest → words_from n (text ++ rest) ≡ record { text = text; line = n } ∷ words_from n rest
word_first n [] rest some each stops = absurd (omega arith)
word_first n (b ∷ text) rest some each stops = word_laws.word n b text rest (passes_not is_white (b ∷ text) each) (ends_of rest stops)

-- a part up to the end, as a slice has it
pub tail_is : (n : ℕ) (xs : List ℕ) → take (length xs - n) (drop n xs) ≡ drop n xs
tail_is n xs = ap (λ (k : ℕ). take k (drop n xs)) (sym (length-drop n xs)) ∙ take-length (drop n xs)

-- a part whose first byte passes a test is not empty
some_passes : (p : ℕ → Bool) (xs : List ℕ) → 0 < length xs → Stops (λ b. not (p b)) xs → 0 < prefix_len p xs
some_passes p [] some stops = absurd (omega arith)
some_passes p (x ∷ xs) some stops = rw (not-false (p x) stops) (omega arith)

-- a text that begins with no white space is not blank, and has none to trim in front
module _ (b : ℕ) (text : List ℕ) (black : IsFalse (is_white b)) where
  not_blank : IsFalse (list_all is_white (b ∷ text))
  not_blank = rw black refl

  trimmed : trim_start (b ∷ text) ≡ b ∷ text
  trimmed = rw black refl

nil_of : (xs : List ℕ) → length xs ≡ 0 → xs ≡ []
nil_of [] none = refl
nil_of (x ∷ xs) none = absurd (omega arith)

-- the lines that are left are at least one
behind_by : (at : Position) (lines : List Line) → lines_left at ≡ lines → (line : Line) (others : List Line) → lines ≡ line ∷ others → AreBehind lines at
behind_by at [] e line others some = absurd (cc)
behind_by at (l ∷ ls) e line others some = e

-- ---- behind the white space

module _ (bytes : List ℕ) (place line start n : ℕ) (skips : SkipsWhite (position_in bytes place line) (position_in bytes start n)) (some : start < length bytes) (rest : List ℕ) (rest_is : rest ≡ drop start bytes) where
  rest_len : length rest ≡ length bytes - start
  rest_len = ap length rest_is ∙ length-drop start bytes

  black_first : Stops is_white rest
  black_first =
      let k = prefix_len is_white (drop place bytes) in
      let e : start ≡ place + k = skips.place in
      subst (Stops is_white) (drop-drop k place bytes ∙ ap (λ (m : ℕ). drop m bytes) (sym e) ∙ sym rest_is) (rest_stops is_white (drop place bytes))

  -- the position behind a part that has no line feed
  module _ (len : ℕ) (short : len ≤ length rest) (out : HasNoNewline (take len rest)) where
    pub reached_behind : IsPosition (position_in bytes (start + len) n)
    reached_behind =
        let was : n ≡ 1 + count_by is_newline (take start bytes) = skips.reached.line_is in
        let parts : take (start + len) bytes ≡ take start bytes ++ take len rest = take-add start len bytes ∙ ap (λ (xs : List ℕ). take start bytes ++ take len xs) (sym rest_is) in
        let count : count_by is_newline (take (start + len) bytes) ≡ count_by is_newline (take start bytes) + count_by is_newline (take len rest) =
        ap (count_by is_newline) parts ∙ sum_by-append (λ b. cond (is_newline b) 1 0) (take start bytes) (take len rest) in
        let none : count_by is_newline (take len rest) ≡ 0 = no_newlines (take len rest) out in
        record { within = omega (arith, rest_len); line_is = omega arith }

    behind_is : drop len rest ≡ drop (start + len) bytes
    behind_is = ap (drop len) rest_is ∙ drop-drop len start bytes

  -- the next word
  module _ (len : ℕ) (len_is : len ≡ prefix_len in_word rest) where
    short : len ≤ length rest
    short = let l : prefix_len in_word rest ≤ length rest = prefix_len-le-length in_word rest in omega arith

    text_length : length (take len rest) ≡ len
    text_length = length-take-le len rest short

    text_passes : Each in_word (take len rest)
    text_passes = subst (λ (k : ℕ). Each in_word (take k rest)) (sym len_is) (front_passes in_word rest)

    out : HasNoNewline (take len rest)
    out = none_newline (take len rest) (passes_not is_white (take len rest) text_passes)

    not_empty : 0 < len
    not_empty = let h : 0 < prefix_len in_word rest = some_passes in_word rest (omega (arith, rest_len)) (double rest black_first) in omega arith
      where
        double : (xs : List ℕ) → Stops is_white xs → Stops (λ b. not (in_word b)) xs
        double [] h = tt
        double (x ∷ xs) h = rw h refl

    pub word_found : FindsWord (position_in bytes place line) (record { text = take len rest; line = n }) (start + len)
    word_found =
        let first : words_from n rest ≡ record { text = take len rest; line = n } ∷ words_from n (drop (start + len) bytes) =
        ap (words_from n) (sym (take-append-drop len rest))
        ∙ word_first n (take len rest) (drop len rest) (omega (arith, text_length, not_empty)) text_passes (subst (λ (k : ℕ). Stops in_word (drop k rest)) (sym len_is) (rest_stops in_word rest))
        ∙ ap (λ (bs : List ℕ). record { text = take len rest; line = n } ∷ words_from n bs) (behind_is len short out) in
        let e : start ≡ place + prefix_len is_white (drop place bytes) = skips.place in
        record {
          reached = reached_behind len short out;
          passed = record {
            words = skips.words ∙ ap (words_from n) (sym rest_is) ∙ first;
            line = refl;
            place = let f : start + len ≡ place + prefix_len is_white (drop place bytes) + length (take len rest) = omega (arith, text_length) in f;
          };
        }

  -- the next field
  module _ (len : ℕ) (len_is : len ≡ prefix_len in_line rest) where
    line_short : len ≤ length rest
    line_short = let l : prefix_len in_line rest ≤ length rest = prefix_len-le-length in_line rest in omega arith

    line_out : HasNoNewline (take len rest)
    line_out = passes_not is_newline (take len rest) (subst (λ (k : ℕ). Each in_line (take k rest)) (sym len_is) (front_passes in_line rest))

    -- the line begins with a byte that is no white space
    record Begins (text : List ℕ) : Type 0 where
      not_blank : IsFalse (list_all is_white text)
      trimmed : trim_start text ≡ text

    begins_by : (xs : List ℕ) (k : ℕ) → 0 < length xs → Stops is_white xs → k ≡ prefix_len in_line xs → Begins (take k xs)
    begins_by [] k some stops e = absurd (omega arith)
    begins_by (x ∷ xs) k some stops e =
        let line_byte : IsTrue (in_line x) = rw (newline_white x stops) refl in
        let front : k ≡ suc (prefix_len in_line xs) = e ∙ ap (λ (t : Bool). cond t (1 + prefix_len in_line xs) 0) line_byte ∙ one-add (prefix_len in_line xs) in
        subst (λ (m : ℕ). Begins (take m (x ∷ xs))) (sym front) (record { not_blank = not_blank x (take (prefix_len in_line xs) xs) stops; trimmed = trimmed x (take (prefix_len in_line xs) xs) stops })

    begins : Begins (take len rest)
    begins = begins_by rest len (omega (arith, rest_len)) black_first len_is

    field_is : field_of (record { number = n; text = take len rest }) ≡ field_at n (take len rest)
    field_is = ap (field_at n) begins.trimmed

    -- the line is the last, with no line feed
    pub field_found_last : start + len ≡ length bytes → FindsField (position_in bytes place line) (field_at n (take len rest)) (position_in bytes (start + len) n)
    field_found_last end =
        let text = take len rest in
        let none : drop (start + len) bytes ≡ [] = nil_of (drop (start + len) bytes) (omega (arith, length-drop (start + len) bytes)) in
        let whole : rest ≡ text = sym (take-append-drop len rest) ∙ ap (λ (xs : List ℕ). text ++ xs) (behind_is len line_short line_out ∙ none) ∙ append-nil text in
        record {
          reached = reached_behind len line_short line_out;
          passed = record {
            behind = [];
            fields = skips.fields ∙ ap (fields_from n) (sym rest_is ∙ whole) ∙ field_laws.last n text line_out begins.not_blank ∙ ap (λ (f : TextField). record { field = f; behind = [] } ∷ []) field_is;
            lines = none;
            fields_are = ap (fields_from n) none;
            words_are = ap (words_from n) none;
          };
        }

    -- a line feed follows the line
    pub field_found : start + len < length bytes → FindsField (position_in bytes place line) (field_at n (take len rest)) (position_in bytes (start + len + 1) (n + 1))
    field_found more =
        let text = take len rest in
        let end = start + len in
        let b = get_or bytes end 0 in
        let tail = drop (end + 1) bytes in
        let cut : drop end bytes ≡ b ∷ tail = drop-cons bytes end 0 more ∙ ap (λ (k : ℕ). b ∷ drop k bytes) (let e : suc end ≡ end + 1 = omega arith in e) in
        let stops : IsFalse (in_line b) = subst (Stops in_line) (behind_is len line_short line_out ∙ cut) (subst (λ (k : ℕ). Stops in_line (drop k rest)) (sym len_is) (rest_stops in_line rest)) in
        let feed : IsTrue (is_newline b) = not-false (is_newline b) stops in
        let is : b ≡ 10 = eqb-true b 10 feed in
        let whole : rest ≡ text ++ 10 ∷ tail = sym (take-append-drop len rest) ∙ ap (λ (xs : List ℕ). text ++ xs) (behind_is len line_short line_out ∙ cut ∙ ap (λ (x : ℕ). x ∷ tail) is) in
        let one : n + lines_in b ≡ n + 1 = ap (λ (t : Bool). n + bool_byte t) feed in
        let split = has_first is_newline tail in
        record {
          reached = subst (λ (m : ℕ). IsPosition (position_in bytes (end + 1) m)) one (next_position bytes end n more (reached_behind len line_short line_out));
          passed = record {
            behind = lines_from (n + 1) tail;
            fields = skips.fields ∙ ap (fields_from n) (sym rest_is ∙ whole) ∙ field_laws.line n text tail line_out begins.not_blank ∙ ap (λ (f : TextField). record { field = f; behind = lines_from (n + 1) tail } ∷ fields_from (n + 1) tail) field_is;
            lines = behind_by (position_in bytes (end + 1) (n + 1)) (lines_from (n + 1) tail) refl (record { number = n + 1; text = split.first }) (numbered (n + 1 + 1) split.others) (ap (numbered (n + 1)) split.is);
            fields_are = refl;
            words_are = refl;
          };
        }
