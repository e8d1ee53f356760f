-- What is kept of one more line of the specification part.
use Rattle.std.proofs.Common.{◌≡◌, ◌≢◌, ℕ, ◌<◌, Bool, true, false, cond, ◌||◌, ◌==◌, List, [], ◌∷◌, ◌++◌, length, Option, Some, None, MatchOption, slice_index_or, slice_set, refl, sym, ap, subst, ◌∙◌, arith, inl, inr}
use Rattle.std.specs.Prelude.{bytes_eq}
use Rattle.std.proofs.lemmas.Bool.{cases_eq, true≢false}
use Rattle.std.proofs.lemmas.Bool.Decides.{nat_tests}
use Rattle.std.proofs.lemmas.List.{length-set, get_or-set_same, get_or-set_other}
use Rattle.yew_text.specs.declared.text.TextKind.TheVariants.{BadLine}
use Rattle.yew_text.specs.Fields.{TextField}
use Rattle.yew_text.specs.Numbers.{value_of}
use Rattle.yew_tsp.specs.declared.header.Key.{Key}
use Rattle.yew_tsp.specs.declared.header.Key.TheVariants.{Name, Comment, DataType, Dimension, WeightType, WeightFormat, DisplayType, CoordType}
use Rattle.yew_tsp.specs.declared.header.Format.{Format}
use Rattle.yew_tsp.specs.declared.header.Given.{Given}
use Rattle.yew_tsp.specs.FileReading.{format_fault, value_fault, judge_value, judge_key, Entry, Offends}
use Rattle.yew_tsp.specs.Keys.{key_word, format_word, has_key, is_given, value_at, is_repeated, every_format, named}
use Rattle.yew_tsp.specs.Reading.{index_of, kept_cities, kept_format, KeepsValue, AreGiven}
use Rattle.yew_tsp.proofs.KeyValues.{own_word}

index-small : (key : Key) → index_of key < 8
index-small Name = omega arith
index-small Comment = omega arith
index-small DataType = omega arith
index-small Dimension = omega arith
index-small WeightType = omega arith
index-small WeightFormat = omega arith
index-small DisplayType = omega arith
index-small CoordType = omega arith

-- keys are told apart by their words and by their places alike
same-index : (a b : Key) → bytes_eq (key_word a) (key_word b) ≡ (index_of a == index_of b)
same-index Name Name = refl
same-index Name Comment = refl
same-index Name DataType = refl
same-index Name Dimension = refl
same-index Name WeightType = refl
same-index Name WeightFormat = refl
same-index Name DisplayType = refl
same-index Name CoordType = refl
same-index Comment Name = refl
same-index Comment Comment = refl
same-index Comment DataType = refl
same-index Comment Dimension = refl
same-index Comment WeightType = refl
same-index Comment WeightFormat = refl
same-index Comment DisplayType = refl
same-index Comment CoordType = refl
same-index DataType Name = refl
same-index DataType Comment = refl
same-index DataType DataType = refl
same-index DataType Dimension = refl
same-index DataType WeightType = refl
same-index DataType WeightFormat = refl
same-index DataType DisplayType = refl
same-index DataType CoordType = refl
same-index Dimension Name = refl
same-index Dimension Comment = refl
same-index Dimension DataType = refl
same-index Dimension Dimension = refl
same-index Dimension WeightType = refl
same-index Dimension WeightFormat = refl
same-index Dimension DisplayType = refl
same-index Dimension CoordType = refl
same-index WeightType Name = refl
same-index WeightType Comment = refl
same-index WeightType DataType = refl
same-index WeightType Dimension = refl
same-index WeightType WeightType = refl
same-index WeightType WeightFormat = refl
same-index WeightType DisplayType = refl
same-index WeightType CoordType = refl
same-index WeightFormat Name = refl
same-index WeightFormat Comment = refl
same-index WeightFormat DataType = refl
same-index WeightFormat Dimension = refl
same-index WeightFormat WeightType = refl
same-index WeightFormat WeightFormat = refl
same-index WeightFormat DisplayType = refl
same-index WeightFormat CoordType = refl
same-index DisplayType Name = refl
same-index DisplayType Comment = refl
same-index DisplayType DataType = refl
same-index DisplayType Dimension = refl
same-index DisplayType WeightType = refl
same-index DisplayType WeightFormat = refl
same-index DisplayType DisplayType = refl
same-index DisplayType CoordType = refl
same-index CoordType Name = refl
same-index CoordType Comment = refl
same-index CoordType DataType = refl
same-index CoordType Dimension = refl
same-index CoordType WeightType = refl
same-index CoordType WeightFormat = refl
same-index CoordType DisplayType = refl
same-index CoordType CoordType = refl

is_given-push : (given : List TextField) (field : TextField) (key : Key) → is_given (given ++ field ∷ []) key ≡ (is_given given key || has_key key field)
is_given-push [] field key = last (has_key key field)
  where
    last : (b : Bool) → cond b true false ≡ b
    last true = refl
    last false = refl
is_given-push (first ∷ given) field key =
    ap (λ b. cond (has_key key first) true b) (is_given-push given field key) ∙ front (has_key key first) (is_given given key) (has_key key field)
  where
    front : (a b d : Bool) → cond a true (b || d) ≡ (cond a true b || d)
    front true b d = refl
    front false b d = refl

-- a value that was given stays
value_at-old : (given : List TextField) (field : TextField) (key : Key) → is_given given key ≡ true → value_at (given ++ field ∷ []) key ≡ value_at given key
value_at-old [] field key h = absurd (true≢false (sym h))
value_at-old (first ∷ given) field key h =
    elim (has_key key first) as (λ b. cond b true (is_given given key) ≡ true → cond b first.value (value_at (given ++ field ∷ []) key) ≡ cond b first.value (value_at given key)) [
      | true ↦ λ e. refl
      | false ↦ λ e. value_at-old given field key e
    ]
    h

-- and a new one comes
value_at-new : (given : List TextField) (field : TextField) (key : Key) → is_given given key ≡ false → has_key key field ≡ true → value_at (given ++ field ∷ []) key ≡ field.value
value_at-new [] field key h own = ap (λ b. cond b field.value []) own
value_at-new (first ∷ given) field key h own =
    elim (has_key key first) as (λ b. cond b true (is_given given key) ≡ false → cond b first.value (value_at (given ++ field ∷ []) key) ≡ field.value) [
      | true ↦ λ e. absurd (true≢false e)
      | false ↦ λ e. value_at-new given field key e own
    ]
    h

module _ (given : List TextField) (field : TextField) (key : Key) (key_is : field.key ≡ key_word key) where
  has_key-same : (k : Key) → has_key k field ≡ (index_of k == index_of key)
  has_key-same k = ap (bytes_eq (key_word k)) key_is ∙ same-index k key

  none_or : (a b : Bool) → b ≡ false → (a || b) ≡ a
  none_or true b e = refl
  none_or false b e = e

  or_own : (a b : Bool) → b ≡ true → (a || b) ≡ true
  or_own true b e = refl
  or_own false b e = e

  -- where the line has another key, what was given of a key stays
  stays : (k : Key) → (index_of k == index_of key) ≡ false → is_given (given ++ field ∷ []) k ≡ is_given given k
  stays k e = is_given-push given field k ∙ none_or (is_given given k) (has_key k field) (has_key-same k ∙ e)

  comes : (k : Key) → (index_of k == index_of key) ≡ true → is_given (given ++ field ∷ []) k ≡ true
  comes k e = is_given-push given field k ∙ or_own (is_given given k) (has_key k field) (has_key-same k ∙ e)

  keeps-dimension : (old : Option ℕ) → (index_of Dimension == index_of key) ≡ false → MatchOption old (is_given given Dimension ≡ false) (λ n. (is_given given Dimension ≡ true) × (n ≡ value_of (value_at given Dimension))) → MatchOption old (is_given (given ++ field ∷ []) Dimension ≡ false) (λ n. (is_given (given ++ field ∷ []) Dimension ≡ true) × (n ≡ value_of (value_at (given ++ field ∷ []) Dimension)))
  keeps-dimension None e h = stays Dimension e ∙ h
  keeps-dimension (Some n) e h = (stays Dimension e ∙ h.0, h.1 ∙ ap value_of (sym (value_at-old given field Dimension h.0)))

  keeps-format : (old : Option Format) → (index_of WeightFormat == index_of key) ≡ false → MatchOption old (is_given given WeightFormat ≡ false) (λ f. (is_given given WeightFormat ≡ true) × (named format_word every_format (value_at given WeightFormat) ≡ Some f)) → MatchOption old (is_given (given ++ field ∷ []) WeightFormat ≡ false) (λ f. (is_given (given ++ field ∷ []) WeightFormat ≡ true) × (named format_word every_format (value_at (given ++ field ∷ []) WeightFormat) ≡ Some f))
  keeps-format None e h = stays WeightFormat e ∙ h
  keeps-format (Some f) e h = (stays WeightFormat e ∙ h.0, ap (named format_word every_format) (value_at-old given field WeightFormat h.0) ∙ h.1)

-- the number of cities behind one more line
kept-dimension : (given : List TextField) (field : TextField) (key : Key) → field.key ≡ key_word key → is_repeated given key ≡ false → (old : Option ℕ) → MatchOption old (is_given given Dimension ≡ false) (λ n. (is_given given Dimension ≡ true) × (n ≡ value_of (value_at given Dimension))) → MatchOption (kept_cities old key field.value) (is_given (given ++ field ∷ []) Dimension ≡ false) (λ n. (is_given (given ++ field ∷ []) Dimension ≡ true) × (n ≡ value_of (value_at (given ++ field ∷ []) Dimension)))
kept-dimension given field Name is new old h = keeps-dimension given field Name is old refl h
kept-dimension given field Comment is new old h = keeps-dimension given field Comment is old refl h
kept-dimension given field DataType is new old h = keeps-dimension given field DataType is old refl h
kept-dimension given field Dimension is new old h = (comes given field Dimension is Dimension refl, ap value_of (sym (value_at-new given field Dimension new (own_word (key_word Dimension) field.key is))))
kept-dimension given field WeightType is new old h = keeps-dimension given field WeightType is old refl h
kept-dimension given field WeightFormat is new old h = keeps-dimension given field WeightFormat is old refl h
kept-dimension given field DisplayType is new old h = keeps-dimension given field DisplayType is old refl h
kept-dimension given field CoordType is new old h = keeps-dimension given field CoordType is old refl h

-- a format that is accepted is there
accepted_format : (given : List TextField) (field : TextField) → (o : Option Format) → named format_word every_format field.value ≡ o → format_fault o ≡ None → is_given (given ++ field ∷ []) WeightFormat ≡ true → value_at (given ++ field ∷ []) WeightFormat ≡ field.value → MatchOption o (is_given (given ++ field ∷ []) WeightFormat ≡ false) (λ f. (is_given (given ++ field ∷ []) WeightFormat ≡ true) × (named format_word every_format (value_at (given ++ field ∷ []) WeightFormat) ≡ Some f))
accepted_format given field None e accepted there is = absurd (let h : format_fault None ≡ None = accepted in cc)
accepted_format given field (Some f) e accepted there is = (there, ap (named format_word every_format) is ∙ e)

kept-format : (given : List TextField) (field : TextField) (key : Key) → field.key ≡ key_word key → is_repeated given key ≡ false → value_fault key field.value ≡ None → (old : Option Format) → MatchOption old (is_given given WeightFormat ≡ false) (λ f. (is_given given WeightFormat ≡ true) × (named format_word every_format (value_at given WeightFormat) ≡ Some f)) → MatchOption (kept_format old key field.value) (is_given (given ++ field ∷ []) WeightFormat ≡ false) (λ f. (is_given (given ++ field ∷ []) WeightFormat ≡ true) × (named format_word every_format (value_at (given ++ field ∷ []) WeightFormat) ≡ Some f))
kept-format given field Name is new accepted old h = keeps-format given field Name is old refl h
kept-format given field Comment is new accepted old h = keeps-format given field Comment is old refl h
kept-format given field DataType is new accepted old h = keeps-format given field DataType is old refl h
kept-format given field Dimension is new accepted old h = keeps-format given field Dimension is old refl h
kept-format given field WeightType is new accepted old h = keeps-format given field WeightType is old refl h
kept-format given field WeightFormat is new accepted old h =
    accepted_format given field (named format_word every_format field.value) refl accepted (comes given field WeightFormat is WeightFormat refl) (value_at-new given field WeightFormat new (own_word (key_word WeightFormat) field.key is))
kept-format given field DisplayType is new accepted old h = keeps-format given field DisplayType is old refl h
kept-format given field CoordType is new accepted old h = keeps-format given field CoordType is old refl h

-- a line of a key with an accepted value
pub record IsKeyed (given : List TextField) (field : TextField) (key : Key) : Type 0 where
  pub colon : field.colon ≡ true
  pub new : is_repeated given key ≡ false
  pub accepted : value_fault key field.value ≡ None

module _ (given : List TextField) (field : TextField) (key : Key) (key_is : field.key ≡ key_word key) where
  kept-each : (keys : List Bool) → length keys ≡ 8 → ((k : Key) → slice_index_or keys (index_of k) false ≡ is_given given k) → (k : Key) → slice_index_or (slice_set keys (index_of key) true) (index_of k) false ≡ is_given (given ++ field ∷ []) k
  kept-each keys long each k =
      elim (cases_eq (index_of k) (index_of key)) [
        | inl same ↦
            ap (λ i. slice_index_or (slice_set keys (index_of key) true) i false) same
            ∙ get_or-set_same keys (index_of key) true false (let small = index-small key in omega (arith, small, long))
            ∙ sym (comes given field key key_is k (equals (index_of k) (index_of key) same))
        | inr other ↦
            get_or-set_other keys (index_of key) (index_of k) true false other
            ∙ each k
            ∙ sym (stays given field key key_is k (differs (index_of k) (index_of key) other))
      ]
    where
      equals : (a b : ℕ) → a ≡ b → (a == b) ≡ true
      equals a b e = grind (arith, nat_tests)

      differs : (a b : ℕ) → a ≢ b → (a == b) ≡ false
      differs a b e = grind (arith, nat_tests)

  -- one more entry is kept
  pub entry-kept : (old mid : Given) → AreGiven given old → is_repeated given key ≡ false → KeepsValue old key field.value mid → AreGiven (given ++ field ∷ []) (record mid { keys = slice_set mid.keys (index_of key) true })
  entry-kept old mid are new keeps =
      let same = keeps.same_keys in
      let long = are.long in
      record {
        long = length-set mid.keys (index_of key) true ∙ ap length same ∙ long;
        each = kept-each mid.keys (ap length same ∙ long) (λ k. ap (λ ks. slice_index_or ks (index_of k) false) same ∙ are.each k);
        dimension =
            let P : Option ℕ → Type 0 = λ o. MatchOption o (is_given (given ++ field ∷ []) Dimension ≡ false) (λ n. (is_given (given ++ field ∷ []) Dimension ≡ true) × (n ≡ value_of (value_at (given ++ field ∷ []) Dimension))) in
            subst P (sym keeps.cities_are) (kept-dimension given field key key_is new old.cities are.dimension);
        weight_format =
            let P : Option Format → Type 0 = λ o. MatchOption o (is_given (given ++ field ∷ []) WeightFormat ≡ false) (λ f. (is_given (given ++ field ∷ []) WeightFormat ≡ true) × (named format_word every_format (value_at (given ++ field ∷ []) WeightFormat) ≡ Some f)) in
            subst P (sym keeps.format_is) (kept-format given field key key_is new keeps.accepted old.format are.weight_format);
      }

  -- and it was one
  pub entry-judged : IsKeyed given field key → judge_key given field (Some key) ≡ Entry
  entry-judged k =
      ap (λ b. cond b (cond (is_repeated given key) (Offends BadLine) (judge_value (value_fault key field.value))) (Offends BadLine)) k.colon
      ∙ ap (λ b. cond b (Offends BadLine) (judge_value (value_fault key field.value))) k.new
      ∙ ap judge_value k.accepted
