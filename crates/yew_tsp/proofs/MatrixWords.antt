-- The words of the matrix, one after another.
use Rattle.std.proofs.Common.{◌≡◌, ℕ, suc, ◌+◌, ◌≤◌, true, false, cond, not, List, [], ◌∷◌, ◌++◌, take, Result, Ok, Err, refl, sym, ap, ◌∙◌, arith, inl, inr}
use Rattle.std.specs.Prelude.{bytes_eq, codes}
use Rattle.std.specs.List.{position_or_len}
use Rattle.std.proofs.lemmas.Bool.{cases_Bool, true≢false}
use Rattle.yew_text.specs.declared.text.TextFault.{TextFault}
use Rattle.yew_text.specs.declared.text.TextKind.TheVariants.{EndsEarly, Surplus}
use Rattle.yew_text.specs.Grammar.{DueEnd, due_number, Shape, read_from}
use Rattle.yew_text.specs.Numbers.{is_digits, greatest, number_in, first_number, Fault}
use Rattle.yew_text.specs.Position.{Position, words_left, SameText}
use Rattle.yew_text.specs.Reading.{text_fault, TakesNumber, PassesWord}
use Rattle.yew_text.specs.Words.{TextWord, end_line}
use Rattle.yew_text.proofs.Steps.{number_is, read_next, read_fault, read_whole, read_surplus}
use Rattle.yew_tsp.specs.Matrices.{ends_matrix, is_ending, before_ending, ending_line}
use Rattle.yew_tsp.specs.Reading.{TakesMatrixNumber, IsMatrixSurplus, matrix_reading}
use Rattle.yew_tsp.proofs.KeyValues.{same_word}

-- ---- words that end the matrix

no_digits : (ending text : List ℕ) → is_digits ending ≡ false → is_digits text ≡ true → bytes_eq ending text ≡ false
no_digits ending text e d =
    elim (cases_Bool (bytes_eq ending text)) [
      | inl same ↦ absurd (true≢false (sym d ∙ ap is_digits (sym (same_word ending text same)) ∙ e))
      | inr other ↦ other
    ]

-- no number ends it
digits-stay : (text : List ℕ) → is_digits text ≡ true → ends_matrix text ≡ false
digits-stay text d =
    rw (no_digits (codes "EOF") text refl d, no_digits (codes "EOF:") text refl d, no_digits (codes "DISPLAY_DATA_SECTION") text refl d, no_digits (codes "DISPLAY_DATA_SECTION:") text refl d) refl

module _ (word : TextWord) (more : List TextWord) where
  pub before_ending-stays : is_ending word ≡ false → before_ending (word ∷ more) ≡ word ∷ before_ending more
  before_ending-stays e =
      let one : 1 + position_or_len is_ending more ≡ suc (position_or_len is_ending more) = omega arith in
      ap (λ b. take (cond (not b) (1 + position_or_len is_ending more) 0) (word ∷ more)) e ∙ ap (λ k. take k (word ∷ more)) one

  pub before_ending-ends : is_ending word ≡ true → before_ending (word ∷ more) ≡ []
  before_ending-ends e = ap (λ b. take (cond (not b) (1 + position_or_len is_ending more) 0) (word ∷ more)) e

  pub ending_line-stays : (end : ℕ) → is_ending word ≡ false → ending_line end (word ∷ more) ≡ ending_line end more
  ending_line-stays end e = ap (λ b. cond b word.line (ending_line end more)) e

  pub ending_line-ends : (end : ℕ) → is_ending word ≡ true → ending_line end (word ∷ more) ≡ word.line
  ending_line-ends end e = ap (λ b. cond b word.line (ending_line end more)) e

abbrev first_due : ℕ → List TextWord → Result ℕ Fault
first_due end words = first_number (ending_line end words) (before_ending words)

-- ---- one number of a cursor

module _ (old new : Position) where
  pub matrix-taken : (n : ℕ) → TakesNumber old (Ok n) new → TakesMatrixNumber old (Ok n) new
  matrix-taken n takes =
      let word = takes.taken.0 in
      let words = takes.taken.1.words in
      let is : number_in word ≡ Ok n = ap (first_number (end_line old.bytes)) (sym words) ∙ takes.gives in
      let stays : is_ending word ≡ false = digits-stay word.text (number_is word n is).digits in
      record {
        gives =
            ap (first_due (end_line old.bytes)) words
            ∙ ap (first_number (ending_line (end_line old.bytes) (word ∷ words_left new))) (before_ending-stays word (words_left new) stays)
            ∙ is;
        taken = (word, words, stays);
      }

  -- a fault of a word that does not end the matrix
  pub matrix-refused : (f : TextFault) (at : Position) → TakesNumber old (Err f) new → (word : TextWord) → PassesWord old word at → is_ending word ≡ false → TakesMatrixNumber old (Err f) at
  matrix-refused f at takes word passes stays = record {
    gives =
        ap (first_due (end_line old.bytes)) passes.words
        ∙ ap (first_number (ending_line (end_line old.bytes) (word ∷ words_left at))) (before_ending-stays word (words_left at) stays)
        ∙ sym (ap (first_number (end_line old.bytes)) passes.words)
        ∙ takes.gives;
    taken = tt;
  }

  pub matrix-ends_early : (f : TextFault) (at : Position) (word : TextWord) → PassesWord old word at → is_ending word ≡ true → text_fault f ≡ record { kind = EndsEarly; line = word.line } → TakesMatrixNumber old (Err f) at
  matrix-ends_early f at word passes ends is = record {
    gives =
        ap (first_due (end_line old.bytes)) passes.words
        ∙ ap (first_number (ending_line (end_line old.bytes) (word ∷ words_left at))) (before_ending-ends word (words_left at) ends)
        ∙ ap (λ l. early l) (ending_line-ends word (words_left at) (end_line old.bytes) ends)
        ∙ ap refuse (sym is);
    taken = tt;
  }
    where
      early : ℕ → Result ℕ Fault
      early l = Err (record { kind = EndsEarly; line = l })

      refuse : Fault → Result ℕ Fault
      refuse f = Err f

  -- no word is left
  pub matrix-none : (f : TextFault) (at : Position) → TakesNumber old (Err f) new → words_left old ≡ [] → TakesMatrixNumber old (Err f) at
  matrix-none f at takes none = record {
    gives = ap (first_due (end_line old.bytes)) none ∙ sym (ap (first_number (end_line old.bytes)) none) ∙ takes.gives;
    taken = tt;
  }

-- ---- the reading

module _ (shape : Shape) (numbers : List ℕ) (old new : Position) where
  module _ (due : shape numbers ≡ due_number) where
    pub matrix-next : (n : ℕ) → TakesMatrixNumber old (Ok n) new → SameText old new → matrix_reading shape numbers old ≡ matrix_reading shape (numbers ++ n ∷ []) new
    matrix-next n takes same =
        let word = takes.taken.0 in
        let words = takes.taken.1 in
        let stays = takes.taken.2 in
        let due_words : before_ending (words_left old) ≡ word ∷ before_ending (words_left new) = ap before_ending words ∙ before_ending-stays word (words_left new) stays in
        let is : number_in word ≡ Ok n = ap (first_number (ending_line (end_line old.bytes) (words_left old))) (sym due_words) ∙ takes.gives in
        let fits : n ≤ greatest = (number_is word n is).fits in
        read_next shape (ending_line (end_line old.bytes) (words_left old)) numbers (suc greatest) due (before_ending (words_left old)) (before_ending (words_left new)) word n takes.gives due_words (omega (arith, fits))
        ∙ ap (λ l. read_from shape l (numbers ++ n ∷ []) (before_ending (words_left new)))
        (ap (ending_line (end_line old.bytes)) words ∙ ending_line-stays word (words_left new) (end_line old.bytes) stays ∙ ap (λ bytes. ending_line (end_line bytes) (words_left new)) same)

    pub matrix-fault : (f : TextFault) → TakesMatrixNumber old (Err f) new → ◌≡◌ {A = Result (List ℕ) Fault} (matrix_reading shape numbers old) (Err (text_fault f))
    matrix-fault f takes = read_fault shape (ending_line (end_line old.bytes) (words_left old)) numbers (suc greatest) due (before_ending (words_left old)) (text_fault f) (omega arith) takes.gives

module _ (shape : Shape) (numbers : List ℕ) (at : Position) (whole : shape numbers ≡ DueEnd) where
  pub matrix-whole : before_ending (words_left at) ≡ [] → ◌≡◌ {A = Result (List ℕ) Fault} (matrix_reading shape numbers at) (Ok numbers)
  matrix-whole none = read_whole shape (ending_line (end_line at.bytes) (words_left at)) numbers whole (before_ending (words_left at)) none

  pub matrix-surplus : (f : TextFault) → IsMatrixSurplus at f → ◌≡◌ {A = Result (List ℕ) Fault} (matrix_reading shape numbers at) (Err (text_fault f))
  matrix-surplus f s =
      read_surplus shape (ending_line (end_line at.bytes) (words_left at)) numbers whole (before_ending (words_left at)) s.more s.word s.words
      ∙ ap refuse (sym s.fault_is)
    where
      refuse : Fault → Result (List ℕ) Fault
      refuse f = Err f

pub surplus-word : (at new : Position) (word : TextWord) → PassesWord at word new → is_ending word ≡ false → (f : TextFault) → text_fault f ≡ record { kind = Surplus; line = word.line } → IsMatrixSurplus at f
surplus-word at new word passes stays f is = record {
  word = word;
  more = before_ending (words_left new);
  words = ap before_ending passes.words ∙ before_ending-stays word (words_left new) stays;
  fault_is = is;
}
