-- How a reader keeps the options that were given: a place for each, with its value.
use Rattle.std.specs.Prelude.{◌≡◌, ◌≢◌, ℕ, suc, ◌<◌, ◌^◌, Bool, List, [], ◌∷◌, ◌++◌, length, flat_map, Option, Some, None, IsTrue, IsFalse, is_some}
use Rattle.std.specs.Prelude.{unwrap_or, position, slice_index_or, bytes_eq, codes, nat_le, ◌&&◌, if◌then◌else◌}
use Rattle.std.specs.Option.{option_to_list}
use Rattle.yew_words.specs.declared.plan.UsageKind.{UsageKind}
use Rattle.yew_words.specs.declared.plan.UsageKind.TheVariants.{Missing, Unknown, Repeated, NotNumber, OutOfRange, NotHere}
use Rattle.yew_words.specs.declared.table.Head.{Head}
use Rattle.yew_words.specs.declared.table.OptionName.{OptionName}
use Rattle.yew_words.specs.declared.table.Takes.{Takes}
use Rattle.yew_words.specs.declared.table.Takes.TheVariants as takings
use Rattle.yew_words.specs.declared.value.Value.{Value}
use Rattle.yew_words.specs.declared.settings.Settings.{Settings}
use Rattle.yew_words.specs.Word.{Word, is_number, number_of}
use Rattle.yew_words.specs.Table.{option_word, every_option, takes, is_for}
use Rattle.yew_words.specs.Plans.{Setting, setting_words, IsValue, value_said, values_of, is_given, AreSettings, AreFiles, HasRequired}
use Rattle.yew_words.specs.Offences.{DueOption, words_before, IsBadValue, Offending}

-- the fault of a word where this is due
abbrev pub value_fault : Takes → Word → Option UsageKind
value_fault takings.Nothing word = None
value_fault takings.OneOrAll word = if bytes_eq (codes "one") word then None else (if bytes_eq (codes "all") word then None else Some Unknown)
value_fault (takings.Number low high) word = if is_number word then
    (if nat_le low (number_of word) && nat_le (number_of word) high then None else Some OutOfRange) else Some NotNumber

-- the place of an option: where the table has its word
abbrev pub index_of : OptionName → ℕ
index_of name = unwrap_or (position (λ other. bytes_eq (option_word other) (option_word name)) every_option) 0

-- what is kept at an option's place
abbrev pub kept_at : Settings → OptionName → Option Value
kept_at settings name = slice_index_or settings.values (index_of name) None

-- which options are kept
abbrev pub is_kept : Settings → OptionName → Bool
is_kept settings name = is_some (kept_at settings name)

-- The values of these settings are what is kept.
abbrev pub Keeps : Head → Settings → List Setting → Type 0
Keeps head settings given = (name : OptionName) → kept_at settings name ≡ values_of head given name

-- What is kept are the settings of a command line with these first words.
pub record AreKept (head : Head) (settings : Settings) : Type 0 where
  pub given : List Setting
  pub are_settings : AreSettings head given
  pub keeps : Keeps head settings given

-- a value that 32 bits can hold
abbrev pub IsNarrow : Takes → Type 0
IsNarrow (takings.Number low high) = high < 2 ^ 32
IsNarrow _ = Unit {0}

-- The word names an option that is for these first words and was not given before.
pub record NamesOption (head : Head) (settings : Settings) (word : Word) (name : OptionName) : Type 0 where
  pub word_is : word ≡ option_word name
  pub is_for_head : IsTrue (is_for head (is_kept settings) name)
  pub is_new : IsFalse (is_kept settings name)

-- The word may not stand where an option's name is due.
abbrev pub RefusesName : Head → Settings → Word → UsageKind → Type 0
RefusesName head settings word Unknown = (name : OptionName) → word ≢ option_word name
RefusesName head settings word NotHere = (name : OptionName) × (word ≡ option_word name) × IsFalse (is_for head (is_kept settings) name)
RefusesName head settings word Repeated = (name : OptionName) × (word ≡ option_word name) × IsTrue (is_for head (is_kept settings) name)
    × IsTrue (is_kept settings name)
RefusesName head settings word _ = ⊥

-- The words begin with the value that is due, or nothing is due.
pub record TakesValue (taking : Takes) (words : List Word) (value : Value) (rest : List Word) : Type 0 where
  pub word : Option Word
  pub is_value : IsValue taking word
  pub words_are : words ≡ option_to_list word ++ rest
  pub value_is : value ≡ value_said taking word

-- A value is due and the words begin with none.
abbrev pub RefusesValue : Takes → List Word → UsageKind → Type 0
RefusesValue taking [] kind = (kind ≡ Missing) × (taking ≢ takings.Nothing)
RefusesValue taking (word ∷ words) kind = IsBadValue taking word kind

-- Behind these settings the words go on with this one more.
pub record GoesOn (head : Head) (given : List Setting) (words : List Word) (name : OptionName) (value : Value) (rest : List Word) : Type 0 where
  pub setting : Setting
  pub are_settings : AreSettings head (given ++ setting ∷ [])
  pub words_are : words ≡ setting_words setting ++ rest
  pub is_new : IsFalse (is_given given setting.name)
  pub name_is : name ≡ setting.name
  pub value_is : value ≡ value_said (takes head setting.name) setting.value

-- The words begin with an option that may stand behind those that are kept.
abbrev pub TakesSetting : Head → Settings → List Word → OptionName → Value → List Word → Type 0
TakesSetting head settings words name value rest = (given : List Setting) → AreSettings head given → Keeps head settings given
    → GoesOn head given words name value rest

-- The words, the first of them at the place `at`, begin with an option that may not stand behind those that are kept.
abbrev pub RefusesSetting : Head → Settings → ℕ → List Word → ℕ → UsageKind → Type 0
RefusesSetting head settings at words place kind = (files : List Word) (given : List Setting) → AreFiles head files → AreSettings head given
    → Keeps head settings given
    → at ≡ suc (length (words_before (DueOption head files given))) → Offending (words_before (DueOption head files given) ++ words) place kind

-- The words are options in order, none that is required is absent, and they are what is kept.
pub record ReadsSettings (head : Head) (words : List Word) (settings : Settings) : Type 0 where
  pub given : List Setting
  pub words_are : words ≡ flat_map setting_words given
  pub are_settings : AreSettings head given
  pub has_required : HasRequired head given
  pub keeps : Keeps head settings given
