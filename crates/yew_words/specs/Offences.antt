-- The first offending word.
use Rattle.std.specs.Prelude.{◌≡◌, ◌≢◌, ℕ, suc, ◌<◌, ◌⊎◌, List, [], ◌∷◌, ◌++◌, length, flat_map, IsTrue, IsFalse, codes}
use Rattle.std.specs.List.{AllByRecursion}
use Rattle.yew_words.specs.declared.plan.Made.{Made}
use Rattle.yew_words.specs.declared.plan.UsageKind.{UsageKind}
use Rattle.yew_words.specs.declared.plan.UsageKind.TheVariants.{Missing, Unknown, NotFile, Repeated, NotNumber, OutOfRange, NotHere}
use Rattle.yew_words.specs.Word.{Word, is_file_name, is_number, number_of}
use Rattle.yew_words.specs.declared.table.Problem.{Problem}
use Rattle.yew_words.specs.declared.table.Coordination.{Coordination}
use Rattle.yew_words.specs.declared.table.Head.{Head}
use Rattle.yew_words.specs.declared.table.OptionName.{OptionName}
use Rattle.yew_words.specs.declared.table.Takes.{Takes}
use Rattle.yew_words.specs.declared.table.Takes.TheVariants.{Nothing, OneOrAll, Number}
use Rattle.yew_words.specs.Table.{problem_word, coordination_word, made_word, head_words, file_count, option_word, takes, is_for}
use Rattle.yew_words.specs.Plans.{Setting, setting_words, is_given, AreSettings, AreFiles, HasRequired}

-- what is to stand next: a job, a skeleton, what is made, a file's name, an option's name or the end, an option's value
pub data Due : Type 0 where
  DueJob : Due
  DueSkeleton : Problem → Due
  DueMade : Due
  DueFile : Head → List Word → Due
  DueOption : Head → List Word → List Setting → Due
  DueValue : Head → List Word → List Setting → OptionName → Due

-- the words before that place
abbrev pub words_before : Due → List Word
words_before DueJob = []
words_before (DueSkeleton problem) = problem_word problem ∷ []
words_before DueMade = codes "make" ∷ []
words_before (DueFile head files) = head_words head ++ files
words_before (DueOption head files given) = head_words head ++ files ++ flat_map setting_words given
words_before (DueValue head files given name) = head_words head ++ files ++ flat_map setting_words given ++ option_word name ∷ []

-- these words are in order, and this is due after them
abbrev pub IsDue : Due → Type 0
IsDue DueJob = Unit {0}
IsDue (DueSkeleton problem) = Unit {0}
IsDue DueMade = Unit {0}
IsDue (DueFile head files) = (length files < file_count head) × AllByRecursion (λ word. IsTrue (is_file_name word)) files
IsDue (DueOption head files given) = AreFiles head files × AreSettings head given
IsDue (DueValue head files given name) = AreFiles head files × AreSettings head given × IsTrue (is_for head (is_given given) name)
    × IsFalse (is_given given name) × (takes head name ≢ Nothing)

-- a word that is not what is due, and the kind of its fault
abbrev pub IsBadValue : Takes → Word → UsageKind → Type 0
IsBadValue OneOrAll word Unknown = (word ≢ codes "one") × (word ≢ codes "all")
IsBadValue (Number low high) word NotNumber = IsFalse (is_number word)
IsBadValue (Number low high) word OutOfRange = IsTrue (is_number word) × ((number_of word < low) ⊎ (high < number_of word))
IsBadValue _ word _ = ⊥

abbrev pub IsOffence : Due → Word → UsageKind → Type 0
IsOffence DueJob word Unknown = ((problem : Problem) → word ≢ problem_word problem) × (word ≢ codes "make")
IsOffence (DueSkeleton problem) word Unknown = (coordination : Coordination) → word ≢ coordination_word coordination
IsOffence DueMade word Unknown = (kind : Made) → word ≢ made_word kind
IsOffence (DueFile head files) word NotFile = IsFalse (is_file_name word)
IsOffence (DueOption head files given) word Unknown = (name : OptionName) → word ≢ option_word name
IsOffence (DueOption head files given) word NotHere = (name : OptionName) × (word ≡ option_word name) × IsFalse (is_for head (is_given given) name)
IsOffence (DueOption head files given) word Repeated = (name : OptionName) × (word ≡ option_word name) × IsTrue (is_for head (is_given given) name)
    × IsTrue (is_given given name)
IsOffence (DueValue head files given name) word kind = IsBadValue (takes head name) word kind
IsOffence _ word _ = ⊥

-- where the words may not end
abbrev pub MayNotEnd : Due → Type 0
MayNotEnd (DueOption head files given) = ¬ HasRequired head given
MayNotEnd _ = Unit {0}

-- The rest begins with an offending word, or is empty where a word must stand.
abbrev pub IsRefused : Due → List Word → UsageKind → Type 0
IsRefused due [] kind = (kind ≡ Missing) × MayNotEnd due
IsRefused due (word ∷ words) kind = IsOffence due word kind

-- The words before this place are in order, and at it is the offence. Places are counted from 1.
pub record Offending (words : List Word) (place : ℕ) (kind : UsageKind) : Type 0 where
  pub due : Due
  pub rest : List Word
  pub is_due : IsDue due
  pub words_are : words ≡ words_before due ++ rest
  pub place_is : place ≡ suc (length (words_before due))
  pub is_refused : IsRefused due rest kind
