-- The words and the fields of a text by its first bytes.
use Rattle.std.specs.Prelude.{◌≡◌, ℕ, ◌+◌, List, [], ◌∷◌, ◌++◌, length, IsTrue, IsFalse}
use Rattle.std.specs.List.{AllByRecursion, list_all}
use Rattle.yew_text.specs.Words.{is_white, is_newline, words_from, lines_from, end_line}
use Rattle.yew_text.specs.Fields.{field_of, fields_from}

-- behind a word the text ends, or white space follows
abbrev pub EndsWord : List ℕ → Type 0
EndsWord [] = Unit {0}
EndsWord (b ∷ bs) = IsTrue (is_white b)

-- no byte is white space, or a line feed
abbrev pub HasNoWhite : List ℕ → Type 0
HasNoWhite = AllByRecursion (λ b. IsFalse (is_white b))

abbrev pub HasNoNewline : List ℕ → Type 0
HasNoNewline = AllByRecursion (λ b. IsFalse (is_newline b))

pub record WordLaws : Type 0 where
  pub none : (n : ℕ) → words_from n [] ≡ []
  pub newline : (n : ℕ) (bytes : List ℕ) → words_from n (10 ∷ bytes) ≡ words_from (n + 1) bytes
  pub white : (n b : ℕ) (bytes : List ℕ) → IsTrue (is_white b) → IsFalse (is_newline b) → words_from n (b ∷ bytes) ≡ words_from n bytes
  pub word : (n b : ℕ) (text rest : List ℕ) → HasNoWhite (b ∷ text) → EndsWord rest → words_from n (b ∷ text ++ rest) ≡ record { text = b ∷ text; line = n } ∷ words_from n rest
  pub last_line : (bytes : List ℕ) → length (lines_from 1 bytes) ≡ end_line bytes

pub record FieldLaws : Type 0 where
  pub none : (n : ℕ) → fields_from n [] ≡ []
  pub newline : (n : ℕ) (bytes : List ℕ) → fields_from n (10 ∷ bytes) ≡ fields_from (n + 1) bytes
  pub white : (n b : ℕ) (bytes : List ℕ) → IsTrue (is_white b) → IsFalse (is_newline b) → fields_from n (b ∷ bytes) ≡ fields_from n bytes
  pub line : (n : ℕ) (text rest : List ℕ) → HasNoNewline text → IsFalse (list_all is_white text) → fields_from n (text ++ 10 ∷ rest) ≡ record { field = field_of (record { number = n; text = text }); behind = lines_from (n + 1) rest } ∷ fields_from (n + 1) rest
  pub last : (n : ℕ) (text : List ℕ) → HasNoNewline text → IsFalse (list_all is_white text) → fields_from n text ≡ record { field = field_of (record { number = n; text = text }); behind = [] } ∷ []
  pub no_fields : (n : ℕ) (bytes : List ℕ) → fields_from n bytes ≡ [] → words_from n bytes ≡ []
  pub no_words : (n : ℕ) (bytes : List ℕ) → words_from n bytes ≡ [] → fields_from n bytes ≡ []
