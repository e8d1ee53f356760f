-- One reading of a cursor is one step of the reading of a file that is a list of numbers.
use Rattle.std.proofs.Common.{◌≡◌, ℕ, suc, ◌<◌, ◌≤◌, leb, List, [], ◌∷◌, ◌++◌, Result, Ok, Err, refl, sym, ap, subst, ◌∙◌, arith, inl, inr}
use Rattle.std.specs.Prelude.{IsTrue}
use Rattle.std.proofs.lemmas.Bool.{cases_Bool, le-ltb, leb-true, leb-false}
use Rattle.yew_text.specs.declared.text.TextKind.TheVariants.{TooBig, EndsEarly, Surplus}
use Rattle.yew_text.specs.declared.text.TextFault.{TextFault}
use Rattle.yew_text.specs.Words.{TextWord, words_of, end_line}
use Rattle.yew_text.specs.Numbers.{is_digits, value_of, greatest, IsNumber, Fault, number_in, first_number}
use Rattle.yew_text.specs.Position.{Position, start_of, words_left, SameText}
use Rattle.yew_text.specs.Reading.{text_fault, TakesNumber, IsSurplus}
use Rattle.yew_text.specs.Grammar.{Due, DueBelow, DueEnd, due_number, Shape, IsBounded, HasOffence, IsWhole, Says, read_end, read_word, read_on, read_from, reading}
use Rattle.yew_text.proofs.Readings.{number_taken, read_says}

-- the answer that is this fault
abbrev pub refusal : Fault → Result (List ℕ) Fault
refusal fault = Err fault

-- ---- words

-- a word that was read as a number is this number
pub number_is : (word : TextWord) (n : ℕ) → number_in word ≡ Ok n → IsNumber word n
number_is word n is = elim (cases_Bool (is_digits word.text)) [
  | inl digits ↦ elim (cases_Bool (leb (value_of word.text) greatest)) [
    | inl fits ↦ let e : Ok (value_of word.text) ≡ Ok n = rw (digits, fits) at is in let v : value_of word.text ≡ n = cc in let l : value_of word.text ≤ greatest = leb-true _ _ fits in record { digits = digits; value = sym v; fits = omega arith }
    | inr large ↦ absurd (let e : Err (record { kind = TooBig; line = word.line }) ≡ Ok n = rw (digits, large) at is in cc)
  ]
  | inr not_digits ↦ absurd (let e = rw not_digits at is in cc)
]

-- a word that is no number offends where a number is due
word_refused : (word : TextWord) (f : Fault) (limit : ℕ) → limit ≤ suc greatest → number_in word ≡ Err f → read_word (DueBelow limit) word ≡ Err f
word_refused word f limit bound is = elim (cases_Bool (is_digits word.text)) [
  | inl digits ↦ elim (cases_Bool (leb (value_of word.text) greatest)) [
    | inl fits ↦ absurd (let e : Ok (value_of word.text) ≡ Err f = rw (digits, fits) at is in cc)
    | inr large ↦ let l : greatest < value_of word.text = leb-false _ _ large in rw (digits, le-ltb (value_of word.text) limit (omega arith)) (rw (digits, large) at is)
  ]
  | inr not_digits ↦ rw not_digits (rw not_digits at is)
]

-- ---- the words that are left, with any line as that of the end

module _ (shape : Shape) (end : ℕ) (numbers : List ℕ) where
  read_step : (due : Due) (word : TextWord) (more : List TextWord) (r : Result ℕ Fault) → shape numbers ≡ due → read_word due word ≡ r → read_from shape end numbers (word ∷ more) ≡ read_on r (λ n. read_from shape end (numbers ++ n ∷ []) more)
  unfolding read_from
  read_step due word more r e is = ap (λ (d : Due). read_on (read_word d word) (λ n. read_from shape end (numbers ++ n ∷ []) more)) e ∙ ap (λ (r : Result ℕ Fault). read_on r (λ n. read_from shape end (numbers ++ n ∷ []) more)) is

  read_last : (due : Due) → shape numbers ≡ due → read_from shape end numbers [] ≡ read_end end due numbers
  unfolding read_from
  read_last due e = ap (λ (d : Due). read_end end d numbers) e

  module _ (limit : ℕ) (due : shape numbers ≡ DueBelow limit) where
    -- a number below the limit was read: the reading goes on behind it
    pub read_next : (words more : List TextWord) (word : TextWord) (n : ℕ) → first_number end words ≡ Ok n → words ≡ word ∷ more → n < limit → read_from shape end numbers words ≡ read_from shape end (numbers ++ n ∷ []) more
    read_next words more word n is are below =
        let e : number_in word ≡ Ok n = ap (first_number end) (sym are) ∙ is in
        ap (read_from shape end numbers) are ∙ read_step (DueBelow limit) word more (Ok n) due (number_taken (DueBelow limit) word n (number_is word n e) below)

    -- a number was read that is not below the limit: it is too big
    pub read_past : (words more : List TextWord) (word : TextWord) (n : ℕ) → first_number end words ≡ Ok n → words ≡ word ∷ more → limit ≤ n → read_from shape end numbers words ≡ refusal (record { kind = TooBig; line = word.line })
    read_past words more word n is are past =
        let e : number_in word ≡ Ok n = ap (first_number end) (sym are) ∙ is in
        let number = number_is word n e in
        let value : n ≡ value_of word.text = number.value in
        let digits : IsTrue (is_digits word.text) = number.digits in
        let refused : read_word (DueBelow limit) word ≡ Err (record { kind = TooBig; line = word.line }) = rw (digits, le-ltb (value_of word.text) limit (omega arith)) refl in
        ap (read_from shape end numbers) are ∙ read_step (DueBelow limit) word more (Err (record { kind = TooBig; line = word.line })) due refused

    -- a fault was met: it is the fault of the reading
    pub read_fault : (words : List TextWord) (f : Fault) → limit ≤ suc greatest → first_number end words ≡ Err f → read_from shape end numbers words ≡ refusal f
    read_fault [] f bound is = read_last (DueBelow limit) due ∙ (let e : record { kind = EndsEarly; line = end } ≡ f = cc in ap refusal e)
    read_fault (word ∷ words) f bound is = read_step (DueBelow limit) word words (Err f) due (word_refused word f limit bound is)

  module _ (whole : shape numbers ≡ DueEnd) where
    -- no word is left: the numbers are the file
    pub read_whole : (words : List TextWord) → words ≡ [] → ◌≡◌ {A = Result (List ℕ) Fault} (read_from shape end numbers words) (Ok numbers)
    read_whole words none = ap (read_from shape end numbers) none ∙ read_last DueEnd whole

    -- a word is left: it is a surplus
    pub read_surplus : (words more : List TextWord) (word : TextWord) → words ≡ word ∷ more → read_from shape end numbers words ≡ refusal (record { kind = Surplus; line = word.line })
    read_surplus words more word are = ap (read_from shape end numbers) are ∙ read_step DueEnd word more (Err (record { kind = Surplus; line = word.line })) whole refl

-- ---- the same of a cursor

-- a reading from the start is one of the file
pub reading_start : (shape : Shape) (bytes : List ℕ) → reading shape [] (start_of bytes) ≡ read_from shape (end_line bytes) [] (words_of bytes)
reading_start shape bytes = refl

pub reading_is_whole : (shape : Shape) (bytes numbers : List ℕ) → IsBounded shape → reading shape [] (start_of bytes) ≡ Ok numbers → IsWhole shape (words_of bytes) numbers
reading_is_whole shape bytes numbers bounds e = subst (Says shape (end_line bytes) (words_of bytes)) e (read_says shape (end_line bytes) bounds (words_of bytes))

pub reading_is_offence : (shape : Shape) (bytes : List ℕ) (f : TextFault) → IsBounded shape → reading shape [] (start_of bytes) ≡ refusal (text_fault f) → HasOffence shape (end_line bytes) (words_of bytes) f.kind f.line
reading_is_offence shape bytes f bounds e = subst (Says shape (end_line bytes) (words_of bytes)) e (read_says shape (end_line bytes) bounds (words_of bytes))

module _ (shape : Shape) (numbers : List ℕ) (old new : Position) where
  module _ (limit : ℕ) (due : shape numbers ≡ DueBelow limit) where
    pub reading_below : (n : ℕ) → TakesNumber old (Ok n) new → SameText old new → n < limit → reading shape numbers old ≡ reading shape (numbers ++ n ∷ []) new
    reading_below n takes same below =
        read_next shape (end_line old.bytes) numbers limit due (words_left old) (words_left new) takes.taken.0 n takes.gives takes.taken.1.words below
        ∙ ap (λ (bytes : List ℕ). read_from shape (end_line bytes) (numbers ++ n ∷ []) (words_left new)) same

    -- the line is that of the cursor behind the number
    pub reading_past : (n : ℕ) → TakesNumber old (Ok n) new → limit ≤ n → reading shape numbers old ≡ refusal (record { kind = TooBig; line = new.line })
    reading_past n takes past =
        read_past shape (end_line old.bytes) numbers limit due (words_left old) (words_left new) takes.taken.0 n takes.gives takes.taken.1.words past
        ∙ ap (λ (l : ℕ). refusal (record { kind = TooBig; line = l })) (sym takes.taken.1.line)

    pub reading_fault_below : (f : TextFault) → limit ≤ suc greatest → TakesNumber old (Err f) new → reading shape numbers old ≡ refusal (text_fault f)
    reading_fault_below f bound takes = read_fault shape (end_line old.bytes) numbers limit due (words_left old) (text_fault f) bound takes.gives

  module _ (due : shape numbers ≡ due_number) where
    pub reading_next : (n : ℕ) → TakesNumber old (Ok n) new → SameText old new → reading shape numbers old ≡ reading shape (numbers ++ n ∷ []) new
    reading_next n takes same =
        let is : number_in takes.taken.0 ≡ Ok n = ap (first_number (end_line old.bytes)) (sym takes.taken.1.words) ∙ takes.gives in
        let fits : n ≤ greatest = (number_is takes.taken.0 n is).fits in
        reading_below (suc greatest) due n takes same (omega arith)

    pub reading_fault : (f : TextFault) → TakesNumber old (Err f) new → reading shape numbers old ≡ refusal (text_fault f)
    reading_fault f takes = reading_fault_below (suc greatest) due f (omega arith) takes

module _ (shape : Shape) (numbers : List ℕ) (at : Position) (whole : shape numbers ≡ DueEnd) where
  pub reading_whole : words_left at ≡ [] → ◌≡◌ {A = Result (List ℕ) Fault} (reading shape numbers at) (Ok numbers)
  reading_whole none = read_whole shape (end_line at.bytes) numbers whole (words_left at) none

  pub reading_surplus : (f : TextFault) → IsSurplus at f → reading shape numbers at ≡ refusal (text_fault f)
  reading_surplus f s = read_surplus shape (end_line at.bytes) numbers whole (words_left at) s.more s.word s.words ∙ ap refusal (sym s.fault_is)
