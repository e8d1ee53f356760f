-- The words of keys and formats, and the values that a key may have.
use Rattle.std.proofs.Common.{◌≡◌, ◌≢◌, ℕ, ◌<◌, Bool, true, false, cond, ltb, leb, List, [], ◌∷◌, Option, Some, None, refl, sym, ap, subst, ◌∙◌, arith, inl, inr}
use Rattle.std.specs.Prelude.{bytes_eq, codes}
use Rattle.std.proofs.lemmas.Bool.{cases_Bool, both_ways, ltb-true, ltb-false, lt-ltb, le-ltb, leb-true, leb-false, le-leb, lt-leb}
use Rattle.std.proofs.lemmas.Slice.Eq.{bytes_eq-Decides}
use Rattle.yew_text.specs.declared.text.TextKind.{TextKind}
use Rattle.yew_text.specs.declared.text.TextKind.TheVariants.{NotNumber, TooBig, BadLine}
use Rattle.yew_text.specs.Numbers.{value_of, greatest}
use Rattle.yew_tsp.specs.declared.header.Key.{Key}
use Rattle.yew_tsp.specs.declared.header.Key.TheVariants.{Name, Comment, DataType, Dimension, WeightType, WeightFormat, DisplayType, CoordType}
use Rattle.yew_tsp.specs.declared.header.Format.{Format}
use Rattle.yew_tsp.specs.declared.header.Format.TheVariants.{FullMatrix, UpperRow, LowerRow, UpperDiagRow, LowerDiagRow}
use Rattle.yew_tsp.specs.FileReading.{format_fault, dimension_fault, value_fault}
use Rattle.yew_tsp.specs.Keys.{key_word, section_word, format_word, first_word, is_number, IsAccepted, IsBadValue, every_key, every_format, named}

-- ---- words

pub same_word : (v w : List ℕ) → bytes_eq v w ≡ true → v ≡ w
same_word v w e = (bytes_eq-Decides v w).0 e

pub other_word : (v w : List ℕ) → bytes_eq v w ≡ false → v ≢ w
other_word v w e h = both_ways (bytes_eq v w) e ((bytes_eq-Decides v w).1 h)

pub own_word : (v w : List ℕ) → w ≡ v → bytes_eq v w ≡ true
own_word v w e = (bytes_eq-Decides v w).1 (sym e)

pub differs : (v w : List ℕ) → w ≢ v → bytes_eq v w ≡ false
differs v w h = elim (cases_Bool (bytes_eq v w)) [ inl e ↦ absurd (h (sym (same_word v w e))) | inr e ↦ e ]

pub none_some : {A : Type 0} (x : A) → ◌≡◌ {A = Option A} None (Some x) → ⊥
none_some x e = cc

pub named_is : {A : Type 0} (word_of : A → List ℕ) (xs : List A) (w : List ℕ) (a : A) → named word_of xs w ≡ Some a → w ≡ word_of a
named_is word_of [] w a e = absurd (none_some a e)
named_is word_of (x ∷ xs) w a e =
    elim (cases_Bool (bytes_eq (word_of x) w)) [
      | inl h ↦ let k : x ≡ a = let f = subst (λ (b : Bool). cond b (Some x) (named word_of xs w) ≡ Some a) h e in cc in sym (same_word (word_of x) w h) ∙ ap word_of k
      | inr h ↦ named_is word_of xs w a (subst (λ (b : Bool). cond b (Some x) (named word_of xs w) ≡ Some a) h e)
    ]

pub named_none : {A : Type 0} (word_of : A → List ℕ) (xs : List A) (w : List ℕ) (a : A) → named word_of xs (word_of a) ≡ Some a → named word_of xs w ≡ None → w ≢ word_of a
named_none word_of xs w a own e h = none_some a (sym e ∙ ap (named word_of xs) h ∙ own)

pub unnamed : {A : Type 0} (word_of : A → List ℕ) (xs : List A) (w : List ℕ) → ((a : A) → w ≢ word_of a) → named word_of xs w ≡ None
unnamed {A = A} word_of xs w h = none_of (named word_of xs w) (λ a e. h a (named_is word_of xs w a e))
  where
    none_of : (o : Option A) → ((a : A) → o ≢ Some a) → o ≡ None
    none_of None k = refl
    none_of (Some a) k = absurd (k a refl)

pub named_key : (k : Key) → named key_word every_key (key_word k) ≡ Some k
named_key Name = refl
named_key Comment = refl
named_key DataType = refl
named_key Dimension = refl
named_key WeightType = refl
named_key WeightFormat = refl
named_key DisplayType = refl
named_key CoordType = refl

pub named_format : (f : Format) → named format_word every_format (format_word f) ≡ Some f
named_format FullMatrix = refl
named_format UpperRow = refl
named_format LowerRow = refl
named_format UpperDiagRow = refl
named_format LowerDiagRow = refl

pub some_is : {A : Type 0} (x y : A) → ◌≡◌ {A = Option A} (Some x) (Some y) → x ≡ y
some_is x y e = cc

pub same_format : (a b : Format) → format_word a ≡ format_word b → a ≡ b
same_format a b e = some_is a b (sym (named_format a) ∙ ap (named format_word every_format) e ∙ named_format b)

pub same_key : (a b : Key) → key_word a ≡ key_word b → a ≡ b
same_key a b e = some_is a b (sym (named_key a) ∙ ap (named key_word every_key) e ∙ named_key b)

pub not_eof : (k : Key) → bytes_eq (codes "EOF") (key_word k) ≡ false
not_eof Name = refl
not_eof Comment = refl
not_eof DataType = refl
not_eof Dimension = refl
not_eof WeightType = refl
not_eof WeightFormat = refl
not_eof DisplayType = refl
not_eof CoordType = refl

pub not_section : (k : Key) → bytes_eq section_word (key_word k) ≡ false
not_section Name = refl
not_section Comment = refl
not_section DataType = refl
not_section Dimension = refl
not_section WeightType = refl
not_section WeightFormat = refl
not_section DisplayType = refl
not_section CoordType = refl

-- ---- values

abbrev pub ValueSays : Key → List ℕ → Option TextKind → Type 0
ValueSays key value None = IsAccepted key value
ValueSays key value (Some kind) = IsBadValue key value kind

pub type_says : (value : List ℕ) → ValueSays DataType value (value_fault DataType value)
type_says value =
    elim (cases_Bool (bytes_eq (codes "TSP") (first_word value))) [
      | inl one ↦ rw one (inl (sym (same_word (codes "TSP") (first_word value) one)))
      | inr not_one ↦ elim (cases_Bool (bytes_eq (codes "ATSP") (first_word value))) [
        | inl two ↦ rw (not_one, two) (inr (sym (same_word (codes "ATSP") (first_word value) two)))
        | inr not_two ↦ rw (not_one, not_two) (λ e. other_word (codes "TSP") (first_word value) not_one (sym e), λ e. other_word (codes "ATSP") (first_word value) not_two (sym e))
      ]
    ]

pub dimension_says : (value : List ℕ) → ValueSays Dimension value (dimension_fault value)
dimension_says value =
    elim (cases_Bool (is_number value)) [
      | inl number ↦ elim (cases_Bool (leb (value_of value) greatest)) [
        | inl fits ↦ elim (cases_Bool (ltb (value_of value) 2)) [
          | inl small ↦ rw (number, fits, small) (number, ltb-true _ _ small)
          | inr large ↦ rw (number, fits, large) (number, ltb-false _ _ large, leb-true _ _ fits)
        ]
        | inr too_big ↦ rw (number, too_big) (number, leb-false _ _ too_big)
      ]
      | inr not_number ↦ rw not_number not_number
    ]

pub weight_type_says : (value : List ℕ) → ValueSays WeightType value (value_fault WeightType value)
weight_type_says value = elim (cases_Bool (bytes_eq (codes "EXPLICIT") value)) [ inl h ↦ rw h (sym (same_word (codes "EXPLICIT") value h)) | inr h ↦ rw h (λ e. other_word (codes "EXPLICIT") value h (sym e)) ]

pub format_says : (value : List ℕ) (o : Option Format) → named format_word every_format value ≡ o → ValueSays WeightFormat value (format_fault o)
format_says value (Some format) e = (format, named_is format_word every_format value format e)
format_says value None e = λ format. named_none format_word every_format value format (named_format format) e

pub value_says : (key : Key) (value : List ℕ) → ValueSays key value (value_fault key value)
value_says Name value = tt
value_says Comment value = tt
value_says DataType value = type_says value
value_says Dimension value = dimension_says value
value_says WeightType value = weight_type_says value
value_says WeightFormat value = format_says value (named format_word every_format value) refl
value_says DisplayType value = tt
value_says CoordType value = tt

pub accepted_passes : (key : Key) (value : List ℕ) → IsAccepted key value → value_fault key value ≡ None
accepted_passes Name value h = refl
accepted_passes Comment value h = refl
accepted_passes DataType value (inl e) = rw (own_word (codes "TSP") (first_word value) e) refl
accepted_passes DataType value (inr e) = rw (differs (codes "TSP") (first_word value) (λ f. not_tsp (sym e ∙ f)), own_word (codes "ATSP") (first_word value) e) refl
  where
    not_tsp : codes "ATSP" ≢ codes "TSP"
    not_tsp e = cc
accepted_passes Dimension value h = rw (h.0, le-leb (value_of value) greatest h.2, le-ltb (value_of value) 2 h.1) refl
accepted_passes WeightType value h = rw (own_word (codes "EXPLICIT") value h) refl
accepted_passes WeightFormat value h = ap format_fault (ap (named format_word every_format) h.1 ∙ named_format h.0)
accepted_passes DisplayType value h = refl
accepted_passes CoordType value h = refl

pub bad_fails : (key : Key) (value : List ℕ) (kind : TextKind) → IsBadValue key value kind → value_fault key value ≡ Some kind
bad_fails DataType value BadLine h = rw (differs (codes "TSP") (first_word value) h.0, differs (codes "ATSP") (first_word value) h.1) refl
bad_fails Dimension value NotNumber h = rw h refl
bad_fails Dimension value TooBig h = rw (h.0, lt-leb (value_of value) greatest h.1) refl
bad_fails Dimension value BadLine h = rw (h.0, le-leb (value_of value) greatest (let l : value_of value < 2 = h.1 in omega arith), lt-ltb (value_of value) 2 h.1) refl
bad_fails WeightType value BadLine h = rw (differs (codes "EXPLICIT") value h) refl
bad_fails WeightFormat value BadLine h = ap format_fault (unnamed format_word every_format value h)
bad_fails _ value _ h = absurd h
