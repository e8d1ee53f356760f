-- The same grammar as a function on the words, one word at a time.
use Rattle.std.specs.Prelude.{ℕ, suc, List, [], ◌∷◌, ◌++◌, length, Option, Some, None, Result, Ok, Err, nat_lt, bytes_eq, codes, if◌then◌else◌}
use Rattle.std.specs.List.{list_all}
use Rattle.yew_words.specs.declared.plan.Made.{Made}
use Rattle.yew_words.specs.declared.plan.UsageKind.{UsageKind}
use Rattle.yew_words.specs.declared.plan.UsageKind.TheVariants.{Missing, Unknown, NotFile, Repeated, NotHere}
use Rattle.yew_words.specs.Word.{Word, is_file_name}
use Rattle.yew_words.specs.declared.table.Problem.{Problem}
use Rattle.yew_words.specs.declared.table.Coordination.{Coordination}
use Rattle.yew_words.specs.declared.table.Head.{Head}
use Rattle.yew_words.specs.declared.table.OptionName.{OptionName}
use Rattle.yew_words.specs.declared.table.Takes.{Takes}
use Rattle.yew_words.specs.declared.table.Head.TheVariants.{Search, Make}
use Rattle.yew_words.specs.declared.table.Takes.TheVariants.{Nothing, OneOrAll, Number}
use Rattle.yew_words.specs.Table.{problem_word, coordination_word, made_word, file_count, option_word, takes, is_for, required, named, every_problem}
use Rattle.yew_words.specs.Table.{every_coordination, every_made, every_option}
use Rattle.yew_words.specs.Kept.{value_fault}
use Rattle.yew_words.specs.Plans.{Planned, Setting, is_given, values_of, plan_of}
use Rattle.yew_words.specs.Offences.{Due, DueJob, DueSkeleton, DueMade, DueFile, DueOption, DueValue}

-- what is due behind so many files
abbrev pub due_files : Head → List Word → Due
due_files head files = if nat_lt (length files) (file_count head) then DueFile head files else DueOption head files []

abbrev pub after_problem : Option Problem → Word → Result Due UsageKind
after_problem (Some problem) word = Ok (DueSkeleton problem)
after_problem None word = if bytes_eq (codes "make") word then Ok DueMade else Err Unknown

abbrev pub after_coordination : Problem → Option Coordination → Result Due UsageKind
after_coordination problem (Some coordination) = Ok (due_files (Search problem coordination) [])
after_coordination problem None = Err Unknown

abbrev pub after_made : Option Made → Result Due UsageKind
after_made (Some kind) = Ok (due_files (Make kind) [])
after_made None = Err Unknown

abbrev pub after_name : Head → List Word → List Setting → OptionName → Takes → Due
after_name head files given name Nothing = DueOption head files (given ++ record { name = name; value = None } ∷ [])
after_name head files given name OneOrAll = DueValue head files given name
after_name head files given name (Number low high) = DueValue head files given name

abbrev pub after_option : Head → List Word → List Setting → Option OptionName → Result Due UsageKind
after_option head files given None = Err Unknown
after_option head files given (Some name) = if is_for head (is_given given) name then
    (if is_given given name then Err Repeated else Ok (after_name head files given name (takes head name))) else Err NotHere

abbrev pub after_value : Head → List Word → List Setting → OptionName → Word → Option UsageKind → Result Due UsageKind
after_value head files given name word None = Ok (DueOption head files (given ++ record { name = name; value = Some word } ∷ []))
after_value head files given name word (Some kind) = Err kind

-- what is due after a word, or the word's fault
abbrev pub after : Due → Word → Result Due UsageKind
after DueJob word = after_problem (named problem_word every_problem word) word
after (DueSkeleton problem) word = after_coordination problem (named coordination_word every_coordination word)
after DueMade word = after_made (named made_word every_made word)
after (DueFile head files) word = if is_file_name word then Ok (due_files head (files ++ word ∷ [])) else Err NotFile
after (DueOption head files given) word = after_option head files given (named option_word every_option word)
after (DueValue head files given name) word = after_value head files given name word (value_fault (takes head name) word)

-- the plan where the words end here, or what is missing
abbrev pub at_end : Due → Result Planned UsageKind
at_end (DueOption head files given) = if list_all (is_given given) (required head (is_given given)) then Ok
    (plan_of head files (values_of head given)) else Err Missing
at_end _ = Err Missing

-- the first offending word: its place and its kind
pub record Fault : Type 0 where
  pub place : ℕ
  pub kind : UsageKind

abbrev pub ended : ℕ → Result Planned UsageKind → Result Planned Fault
ended place (Ok plan) = Ok plan
ended place (Err kind) = Err (record { place = place; kind = kind })

-- a word's fault, or what the rest gives
abbrev pub go_on : ℕ → Result Due UsageKind → (Due → Result Planned Fault) → Result Planned Fault
go_on place (Ok next) rest = rest next
go_on place (Err kind) rest = Err (record { place = place; kind = kind })

-- The plan of the words from this place on, or the first offending one.
unfoldable pub judge_from : Due → ℕ → List Word → Result Planned Fault
judge_from due place [] = ended place (at_end due)
judge_from due place (word ∷ words) = go_on place (after due word) (λ next. judge_from next (suc place) words)

abbrev pub judge : List Word → Result Planned Fault
judge words = judge_from DueJob 1 words
