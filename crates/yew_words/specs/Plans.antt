-- Which words have which plan.
use Rattle.std.specs.Prelude.{◌≡◌, ℕ, ◌≤◌, Bool, ◌⊎◌, List, [], ◌∷◌, ◌++◌, length, flat_map, Option, Some, None, IsTrue, IsFalse, false, is_some, unwrap_or}
use Rattle.std.specs.Prelude.{option_map, codes, bytes_eq, if◌then◌else◌}
use Rattle.std.specs.List.{AllByRecursion}
use Rattle.std.specs.Option.{option_to_list}
use Rattle.yew_words.specs.declared.plan.Job.{Job}
use Rattle.yew_words.specs.declared.plan.Plan.{Plan}
use Rattle.yew_words.specs.declared.plan.Skeleton.{Skeleton}
use Rattle.yew_words.specs.declared.plan.Skeleton.TheVariants as skeletons
use Rattle.yew_words.specs.Word.{Word, texts, is_file_name, is_number, number_of}
use Rattle.yew_words.specs.declared.table.Head.{Head}
use Rattle.yew_words.specs.declared.table.OptionName.{OptionName}
use Rattle.yew_words.specs.declared.table.Takes.{Takes}
use Rattle.yew_words.specs.declared.table.Coordination.TheVariants as coordinations
use Rattle.yew_words.specs.declared.table.OptionName.TheVariants as options
use Rattle.yew_words.specs.declared.table.Head.TheVariants.{Search, Make}
use Rattle.yew_words.specs.declared.table.Takes.TheVariants.{Nothing, OneOrAll, Number}
use Rattle.yew_words.specs.declared.value.Value.{Value}
use Rattle.yew_words.specs.declared.value.Value.TheVariants as values
use Rattle.yew_words.specs.Table.{head_words, file_count, job_of, option_word, takes, suits, is_for, required}

-- a plan, without where its files' names lie in memory
pub record Planned : Type 0 where
  pub job : Job
  pub skeleton : Skeleton
  pub files : List Word
  pub workers : ℕ
  pub target : Option ℕ
  pub gap : Option ℕ
  pub genus : ℕ
  pub near : Bool
  pub span : Bool
  pub audit : Bool
  pub report : Bool
  pub seed : ℕ
  pub size : ℕ
  pub solve : Bool

abbrev pub planned : Plan → Planned
planned plan = record {
  job = plan.job;
  skeleton = plan.skeleton;
  files = texts plan.files.now;
  workers = plan.workers;
  target = plan.target;
  gap = plan.gap;
  genus = plan.genus;
  near = plan.near;
  span = plan.span;
  audit = plan.audit;
  report = plan.report;
  seed = plan.seed;
  size = plan.size;
  solve = plan.solve;
}

-- an option that was given, with its value's word where it has one
pub record Setting : Type 0 where
  pub name : OptionName
  pub value : Option Word

abbrev pub setting_words : Setting → List Word
setting_words s = option_word s.name ∷ option_to_list s.value

-- the word that stands behind a name
abbrev pub IsValue : Takes → Option Word → Type 0
IsValue Nothing None = Unit {0}
IsValue Nothing (Some word) = ⊥
IsValue OneOrAll None = ⊥
IsValue OneOrAll (Some word) = (word ≡ codes "one") ⊎ (word ≡ codes "all")
IsValue (Number low high) None = ⊥
IsValue (Number low high) (Some word) = IsTrue (is_number word) × (low ≤ number_of word) × (number_of word ≤ high)

-- the value that it says
abbrev pub value_said : Takes → Option Word → Value
value_said OneOrAll (Some word) = values.OneOrAll (bytes_eq word (codes "all"))
value_said (Number low high) (Some word) = values.Number (number_of word)
value_said _ _ = values.Nothing

-- two names are one where their words are
abbrev pub is_named : OptionName → Setting → Bool
is_named name s = bytes_eq (option_word name) (option_word s.name)

-- the setting of an option, where it was given
abbrev pub setting_of : OptionName → List Setting → Option Setting
setting_of name [] = None
setting_of name (s ∷ given) = if is_named name s then Some s else setting_of name given

abbrev pub is_given : List Setting → OptionName → Bool
is_given given name = is_some (setting_of name given)

-- the values of the options, each where it was given
abbrev pub Values : Type 0
Values = OptionName → Option Value

abbrev pub values_of : Head → List Setting → Values
values_of head given name = option_map (λ s. value_said (takes head s.name) s.value) (setting_of name given)

abbrev pub has_value : Values → OptionName → Bool
has_value said name = is_some (said name)

-- the number that was given with an option
abbrev pub number_said : Option Value → Option ℕ
number_said (Some (values.Number number)) = Some number
number_said _ = None

abbrev pub number_or : Values → OptionName → ℕ → ℕ
number_or said name absent = unwrap_or (number_said (said name)) absent

-- whether it was the word `all`
abbrev pub all_said : Option Value → Bool
all_said (Some (values.OneOrAll all)) = all
all_said _ = false

-- A setting behind these is for the first words, has its value, and was not given before.
pub record MayFollow (head : Head) (before : List Setting) (s : Setting) : Type 0 where
  pub is_for_head : IsTrue (is_for head (is_given before) s.name)
  pub is_value : IsValue (takes head s.name) s.value
  pub is_new : IsFalse (is_given before s.name)

-- each setting may stand behind those before it
abbrev pub AreBehind : Head → List Setting → List Setting → Type 0
AreBehind head before [] = Unit {0}
AreBehind head before (s ∷ given) = MayFollow head before s × AreBehind head (before ++ s ∷ []) given

abbrev pub AreSettings : Head → List Setting → Type 0
AreSettings head given = AreBehind head [] given

-- the files' names, as many as the job has
pub record AreFiles (head : Head) (files : List Word) : Type 0 where
  pub count : length files ≡ file_count head
  pub names : AllByRecursion (λ word. IsTrue (is_file_name word)) files

-- no option that is required is absent
abbrev pub HasRequired : Head → List Setting → Type 0
HasRequired head given = AllByRecursion (λ name. IsTrue (is_given given name)) (required head (is_given given))

-- the skeleton with its number: a depth that is absent is 2, a budget 1000, a chunk `one`
abbrev pub skeleton_of : Head → Values → Skeleton
skeleton_of (Search problem coordinations.Sequential) said = skeletons.Sequential
skeleton_of (Search problem coordinations.Depth) said = skeletons.Depth (number_or said options.Depth 2)
skeleton_of (Search problem coordinations.Budget) said = skeletons.Budget (number_or said options.Budget 1000)
skeleton_of (Search problem coordinations.Steal) said = skeletons.Steal (all_said (said options.Chunk))
skeleton_of (Search problem coordinations.Ordered) said = skeletons.Ordered (number_or said options.Depth 2)
skeleton_of (Make kind) said = skeletons.Sequential

-- the number of workers: 4 where it is absent, and 1 where the words do not concern it
abbrev pub workers_of : Head → Values → ℕ
workers_of head said = if suits head options.Workers then number_or said options.Workers 4 else 1

-- the plan of first words, files and values. A field that none of them concerns is empty, None, 0 or false
abbrev pub plan_of : Head → List Word → Values → Planned
plan_of head files said = record {
  job = job_of head;
  skeleton = skeleton_of head said;
  files = files;
  workers = workers_of head said;
  target = number_said (said options.Target);
  gap = number_said (said options.Gap);
  genus = number_or said options.Genus 0;
  near = has_value said options.Near;
  span = has_value said options.Span;
  audit = has_value said options.Audit;
  report = has_value said options.Report;
  seed = number_or said options.Seed 0;
  size = number_or said options.Size 0;
  solve = has_value said options.Solve;
}

-- The words are the first two, the files' names, and options in any order, each at most once; and this is their plan.
pub record PlanOf (words : List Word) (plan : Planned) : Type 0 where
  pub head : Head
  pub files : List Word
  pub settings : List Setting
  pub words_are : words ≡ head_words head ++ files ++ flat_map setting_words settings
  pub are_files : AreFiles head files
  pub are_settings : AreSettings head settings
  pub has_required : HasRequired head settings
  pub plan_is : plan ≡ plan_of head files (values_of head settings)
