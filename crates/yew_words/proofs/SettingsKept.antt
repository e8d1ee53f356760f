-- What is kept of the options that were given.
use Rattle.std.proofs.Common.{◌≡◌, ◌≢◌, ℕ, ◌<◌, ◌≤◌, ◌*◌, ◌^◌, Bool, true, false, cond, List, [], ◌∷◌, ◌++◌, length, Option, Some, None, refl, sym, ap, subst}
use Rattle.std.proofs.Common.{◌∙◌, get_or, arith, inl, inr}
use Rattle.std.specs.Prelude.{IsTrue, IsFalse, not, is_some, option_map, slice_set, slice_get, flat_map}
use Rattle.std.specs.List.{list_any, AllByRecursion}
use Rattle.std.specs.List.{IsDistinct}
use Rattle.std.proofs.Math.Dec.{eqb}
use Rattle.std.proofs.lemmas.Bool.{cases_Bool, ne_eqb, eqb-true, or_cases, and_parts}
use Rattle.std.proofs.lemmas.Option.{none-some}
use Rattle.std.proofs.Math.Path.{fun_ext}
use Rattle.std.proofs.lemmas.List.{get_or-set_same, get_or-set_other, length-append}
use Rattle.std.proofs.lemmas.Map.Steps.{length-le_from_distinct_below}
use Rattle.yew_words.specs.declared.table.Head.{Head}
use Rattle.yew_words.specs.declared.table.OptionName.{OptionName}
use Rattle.yew_words.specs.declared.table.OptionName.TheVariants as options
use Rattle.yew_words.specs.declared.table.Takes.{Takes}
use Rattle.yew_words.specs.declared.table.Takes.TheVariants.{Nothing, OneOrAll, Number}
use Rattle.yew_words.specs.declared.value.Value.{Value}
use Rattle.yew_words.specs.declared.settings.Settings.{Settings}
use Rattle.yew_words.specs.Word.{Word, number_of}
use Rattle.yew_words.specs.Table.{option_row, option_word, takes, suits}
use Rattle.yew_words.specs.Plans.{Setting, setting_words, IsValue, value_said, is_named, setting_of, is_given, values_of, number_said, AreBehind, AreSettings}
use Rattle.yew_words.specs.Table.{every_option}
use Rattle.yew_words.specs.Kept.{index_of, kept_at, is_kept, Keeps, AreKept, IsNarrow}
use Rattle.yew_words.proofs.OneNameAWord.{same_word, own_word, other_word, same_name}
use Rattle.yew_words.proofs.SettingsInOrder.{first_differs, rest_differs, is_given-own, later_new}

some_is : {A : Type 0} (x y : A) → Some x ≡ Some y → x ≡ y
some_is x y e = cc

-- ---- places of options

option_at : (name : OptionName) → slice_get every_option (index_of name) ≡ Some name
option_at options.Workers = refl
option_at _ = refl

pub same_index : (a b : OptionName) → index_of a ≡ index_of b → a ≡ b
same_index a b e = some_is a b (sym (option_at a) ∙ ap (λ (i : ℕ). slice_get every_option i) e ∙ option_at b)

pub index_below : (name : OptionName) → index_of name < length every_option
index_below options.Workers = omega arith
index_below _ = omega arith

-- ---- what was given is kept

is_some-option_map : {A B : Type 0} (f : A → B) (o : Option A) → is_some (option_map f o) ≡ is_some o
is_some-option_map f None = refl
is_some-option_map f (Some a) = refl

-- the options that are kept are those that were given
pub kept_given : (head : Head) (settings : Settings) (given : List Setting) → Keeps head settings given → is_kept settings ≡ is_given given
kept_given head settings given keeps =
    fun_ext (λ name. ap (λ (o : Option Value). is_some o) (keeps name)
    ∙ is_some-option_map (λ (s : Setting). value_said (takes head s.name) s.value) (setting_of name given))

-- a setting that is found has the name, is for these first words and has its value
pub found : (head : Head) (name : OptionName) (before given : List Setting) (s : Setting) → setting_of name given ≡ Some s → AreBehind head before given
    → (name ≡ s.name) × IsValue (takes head s.name) s.value × IsTrue (suits head s.name)
found head name before [] s e are = absurd (none-some s e)
found head name before (t ∷ given) s e are =
    elim (cases_Bool (is_named name t)) [
      | inl h ↦ let is : t ≡ s = some_is t s (subst (λ (b : Bool). cond b (Some t) (setting_of name given) ≡ Some s) h e) in
          let suited : IsTrue (suits head t.name) = (and_parts (suits head t.name)
          (not (list_any (is_given before) (option_row t.name).excluded_by)) are.0.is_for_head).0 in
          subst (λ (u : Setting). (name ≡ u.name) × IsValue (takes head u.name) u.value × IsTrue (suits head u.name)) is
          (same_name name t.name (same_word (option_word name) (option_word t.name) h), are.0.is_value, suited)
      | inr h ↦ found head name (before ++ t ∷ []) given s (subst (λ (b : Bool). cond b (Some t) (setting_of name given) ≡ Some s) h e) are.1
    ]

narrow_said : (t : Takes) (value : Option Word) (n : ℕ) → IsNarrow t → IsValue t value → number_said (Some (value_said t value)) ≡ Some n → n < 2 ^ 32
narrow_said Nothing None n narrow is e = absurd (none-some n e)
narrow_said Nothing (Some word) n narrow is e = absurd is
narrow_said OneOrAll None n narrow is e = absurd is
narrow_said OneOrAll (Some word) n narrow is e = absurd (none-some n e)
narrow_said (Number low high) None n narrow is e = absurd is
narrow_said (Number low high) (Some word) n narrow is e = let number_is : number_of word ≡ n = some_is (number_of word) n e in
    omega (arith, is.2, narrow, number_is)

-- a number fits 32 bits where its range does
pub narrow_kept : (head : Head) (settings : Settings) → AreKept head settings → (name : OptionName) → IsNarrow (takes head name) → (n : ℕ)
    → number_said (kept_at settings name) ≡ Some n → n < 2 ^ 32
narrow_kept head settings kept name narrow n e = at (setting_of name kept.given) refl (ap number_said (sym (kept.keeps name)) ∙ e)
  where
    at : (o : Option Setting) → setting_of name kept.given ≡ o → number_said (option_map (λ (s : Setting). value_said (takes head s.name) s.value) o) ≡ Some n
        → n < 2 ^ 32
    at None q h = absurd (none-some n h)
    at (Some s) q h = let f = found head name [] kept.given s q kept.are_settings in
        narrow_said (takes head s.name) s.value n (subst (λ (n : OptionName). IsNarrow (takes head n)) f.0 narrow) f.1 h

-- ---- one more is kept

setting_of-push_own : (given : List Setting) (s : Setting) → IsFalse (is_given given s.name) → setting_of s.name (given ++ s ∷ []) ≡ Some s
setting_of-push_own [] s new = rw (own_word (option_word s.name)) refl
setting_of-push_own (t ∷ given) s new = rw (first_differs t given s.name new) (setting_of-push_own given s (rest_differs t given s.name new))

setting_of-push_other : (name : OptionName) (given : List Setting) (s : Setting) → IsFalse (is_named name s)
    → setting_of name (given ++ s ∷ []) ≡ setting_of name given
setting_of-push_other name [] s other = rw other refl
setting_of-push_other name (t ∷ given) s other = elim (cases_Bool (is_named name t))
    [ inl h ↦ rw h refl | inr h ↦ rw h (setting_of-push_other name given s other) ]

pub Keeps-push : (head : Head) (old new : Settings) (given : List Setting) (s : Setting) → Keeps head old given → IsFalse (is_given given s.name)
    → length old.values ≡ length every_option → new.values ≡ slice_set old.values (index_of s.name) (Some (value_said (takes head s.name) s.value))
    → Keeps head new (given ++ s ∷ [])
Keeps-push head old new given s keeps fresh count set name =
    elim (cases_Bool (is_named name s)) [
      | inl h ↦ subst (λ (n : OptionName). kept_at new n ≡ values_of head (given ++ s ∷ []) n)
          (sym (same_name name s.name (same_word (option_word name) (option_word s.name) h))) own
      | inr h ↦ other h
    ]
  where
    own : kept_at new s.name ≡ values_of head (given ++ s ∷ []) s.name
    own = ap (λ (vs : List (Option Value)). get_or vs (index_of s.name) None) set
        ∙ get_or-set_same old.values (index_of s.name) (Some (value_said (takes head s.name) s.value)) None (omega (arith, index_below s.name))
        ∙ ap (option_map (λ (t : Setting). value_said (takes head t.name) t.value)) (sym (setting_of-push_own given s fresh))

    apart : IsFalse (is_named name s) → index_of name ≢ index_of s.name
    apart h e = other_word (option_word name) (option_word s.name) h (ap option_word (same_index name s.name e))

    other : IsFalse (is_named name s) → kept_at new name ≡ values_of head (given ++ s ∷ []) name
    other h = ap (λ (vs : List (Option Value)). get_or vs (index_of name) None) set
        ∙ get_or-set_other old.values (index_of s.name) (index_of name) (Some (value_said (takes head s.name) s.value)) None (apart h) ∙ keeps name
        ∙ ap (option_map (λ (t : Setting). value_said (takes head t.name) t.value)) (sym (setting_of-push_other name given s h))

-- ---- how many there can be

abbrev indexes : List Setting → List ℕ
indexes [] = []
indexes (s ∷ given) = index_of s.name ∷ indexes given

apart_from : (s : Setting) (given : List Setting) → IsFalse (is_given given s.name) → AllByRecursion (λ i. eqb (index_of s.name) i ≡ false) (indexes given)
apart_from s [] new = tt
apart_from s (t ∷ given) new = (
  ne_eqb (index_of s.name) (index_of t.name)
      (λ e. other_word (option_word s.name) (option_word t.name) (first_differs t given s.name new) (ap option_word (same_index s.name t.name e))),
  apart_from s given (rest_differs t given s.name new),
)

distinct : (head : Head) (before given : List Setting) → AreBehind head before given → IsDistinct eqb (indexes given)
unfolding IsDistinct
distinct head before [] are = tt
distinct head before (s ∷ given) are = (
  apart_from s given (later_new head (before ++ s ∷ []) given are.1 s.name (is_given-own before s)),
  distinct head (before ++ s ∷ []) given are.1,
)

below : (given : List Setting) (i : ℕ) → list_any (eqb i) (indexes given) ≡ true → i < length every_option
below [] i e = absurd (let f : false ≡ true = e in cc)
below (s ∷ given) i e = elim (or_cases (eqb i (index_of s.name)) (list_any (eqb i) (indexes given)) e)
    [ inl here ↦ omega (arith, index_below s.name, eqb-true i (index_of s.name) here) | inr later ↦ below given i later ]

length-indexes : (given : List Setting) → length (indexes given) ≡ length given
length-indexes [] = refl
length-indexes (s ∷ given) = omega (arith, length-indexes given)

-- each option stands at most once
few : (head : Head) (given : List Setting) → AreSettings head given → length given ≤ length every_option
few head given are = omega (
  arith,
  length-indexes given,
  length-le_from_distinct_below (indexes given) (length every_option) (distinct head [] given are)
      (below given),
)

length-setting_words : (s : Setting) → length (setting_words s) ≤ 2
length-setting_words s = of s.value
  where
    of : (value : Option Word) → length (setting_words (record { name = s.name; value = value })) ≤ 2
    of None = omega arith
    of (Some word) = omega arith

length-settings : (given : List Setting) → length (flat_map setting_words given) ≤ 2 * length given
length-settings [] = omega arith
length-settings (s ∷ given) = omega (arith, length-append (setting_words s) (flat_map setting_words given), length-setting_words s, length-settings given)

-- so their words are few
pub few_words : (head : Head) (given : List Setting) → AreSettings head given → length (flat_map setting_words given) ≤ 2 * length every_option
few_words head given are = omega (arith, few head given are, length-settings given)
