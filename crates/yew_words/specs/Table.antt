-- The words that the grammar knows, as the rows of two tables: the options, and the jobs.
use Rattle.std.specs.Prelude.{ℕ, Bool, true, false, not, ◌&&◌, List, [], ◌∷◌, Option, find, bytes_eq, codes, if◌then◌else◌}
use Rattle.std.specs.List.{list_any}
use Rattle.yew_words.specs.declared.plan.Job.{Job}
use Rattle.yew_words.specs.declared.plan.Job.TheVariants as jobs
use Rattle.yew_words.specs.declared.plan.Made.{Made}
use Rattle.yew_words.specs.declared.plan.Made.TheVariants as made
use Rattle.yew_words.specs.declared.table.Problem.{Problem}
use Rattle.yew_words.specs.declared.table.Problem.TheVariants as problems
use Rattle.yew_words.specs.declared.table.Coordination.{Coordination}
use Rattle.yew_words.specs.declared.table.Coordination.TheVariants as coordinations
use Rattle.yew_words.specs.declared.table.Head.{Head}
use Rattle.yew_words.specs.declared.table.Head.TheVariants.{Search, Make}
use Rattle.yew_words.specs.declared.table.OptionName.{OptionName}
use Rattle.yew_words.specs.declared.table.OptionName.TheVariants as options
use Rattle.yew_words.specs.declared.table.Takes.{Takes}
use Rattle.yew_words.specs.declared.table.Takes.TheVariants.{Nothing, OneOrAll, Number}
use Rattle.yew_words.specs.Word.{Word}

-- which options were given so far
abbrev pub Given : Type 0
Given = OptionName → Bool

-- ---- the options

-- A row: the option's word; what follows it, which is nothing, `one` or `all`, or a number from the first to the second;
-- the first words that it is for; and the options that must not have been given before it.
pub record OptionRow : Type 0 where
  pub word : Word
  pub follows : Head → Takes
  pub suits : Head → Bool
  pub excluded_by : List OptionName

abbrev pub of_search : Head → Bool
of_search (Search problem coordination) = true
of_search (Make kind) = false

abbrev pub of_make : Head → Bool
of_make (Search problem coordination) = false
of_make (Make kind) = true

abbrev pub has_workers : Head → Bool
has_workers (Search problem coordinations.Sequential) = false
has_workers (Search problem coordination) = true
has_workers (Make kind) = false

abbrev pub has_depth : Head → Bool
has_depth (Search problem coordinations.Depth) = true
has_depth (Search problem coordinations.Ordered) = true
has_depth _ = false

abbrev pub has_budget : Head → Bool
has_budget (Search problem coordinations.Budget) = true
has_budget _ = false

abbrev pub has_chunk : Head → Bool
has_chunk (Search problem coordinations.Steal) = true
has_chunk _ = false

abbrev pub has_target : Head → Bool
has_target (Search problems.Knapsack coordination) = true
has_target _ = false

abbrev pub has_gap : Head → Bool
has_gap (Search problem coordinations.Ordered) = false
has_gap (Search problems.Knapsack coordination) = true
has_gap (Search problems.Tsp coordination) = true
has_gap (Search problems.Flow coordination) = true
has_gap _ = false

abbrev pub has_genus : Head → Bool
has_genus (Search problems.Semigroups coordination) = true
has_genus _ = false

abbrev pub has_near : Head → Bool
has_near (Search problems.Tsp coordination) = true
has_near _ = false

abbrev pub has_span : Head → Bool
has_span (Search problems.Tsp coordination) = true
has_span _ = false

abbrev pub has_solve : Head → Bool
has_solve (Make made.Knapsack) = true
has_solve (Make made.Tsp) = true
has_solve _ = false

-- the sizes of what can be made
abbrev pub sizes : Head → Takes
sizes (Make made.Knapsack) = Number 1 256
sizes (Make made.Tsp) = Number 2 60
sizes (Make made.Lad) = Number 0 1024
sizes (Search problem coordination) = Nothing

abbrev pub option_row : OptionName → OptionRow
option_row options.Workers = record { word = codes "--workers"; follows = λ head. Number 1 64; suits = has_workers; excluded_by = [] }
option_row options.Depth = record { word = codes "--depth"; follows = λ head. Number 1 255; suits = has_depth; excluded_by = [] }
option_row options.Budget = record { word = codes "--budget"; follows = λ head. Number 1 4294967295; suits = has_budget; excluded_by = [] }
option_row options.Chunk = record { word = codes "--chunk"; follows = λ head. OneOrAll; suits = has_chunk; excluded_by = [] }
option_row options.Target = record { word = codes "--target"; follows = λ head. Number 0 1099511627774; suits = has_target; excluded_by = options.Gap ∷ [] }
option_row options.Gap = record { word = codes "--gap"; follows = λ head. Number 0 1099511627774; suits = has_gap; excluded_by = options.Target ∷ [] }
option_row options.Genus = record { word = codes "--genus"; follows = λ head. Number 0 40; suits = has_genus; excluded_by = [] }
option_row options.Near = record { word = codes "--near"; follows = λ head. Nothing; suits = has_near; excluded_by = [] }
option_row options.Span = record { word = codes "--span"; follows = λ head. Nothing; suits = has_span; excluded_by = [] }
option_row options.Report = record { word = codes "--report"; follows = λ head. Nothing; suits = of_search; excluded_by = [] }
option_row options.Audit = record { word = codes "--audit"; follows = λ head. Nothing; suits = of_search; excluded_by = [] }
option_row options.Seed = record { word = codes "--seed"; follows = λ head. Number 0 18446744073709551615; suits = of_make; excluded_by = [] }
option_row options.Size = record { word = codes "--size"; follows = sizes; suits = of_make; excluded_by = [] }
option_row options.Solve = record { word = codes "--solve"; follows = λ head. Nothing; suits = has_solve; excluded_by = [] }

-- each of them
abbrev pub every_option : List OptionName
every_option =
    options.Workers ∷ options.Depth ∷ options.Budget ∷ options.Chunk ∷ options.Target ∷ options.Gap ∷ options.Genus
    ∷ options.Near ∷ options.Span ∷ options.Report ∷ options.Audit ∷ options.Seed ∷ options.Size ∷ options.Solve ∷ []

abbrev pub option_word : OptionName → Word
option_word name = (option_row name).word

abbrev pub takes : Head → OptionName → Takes
takes head name = (option_row name).follows head

-- whether an option is for these first words
abbrev pub suits : Head → OptionName → Bool
suits head name = (option_row name).suits head

-- whether it may stand behind these options, of which none excludes it
abbrev pub is_for : Head → Given → OptionName → Bool
is_for head given name = suits head name && not (list_any given (option_row name).excluded_by)

-- ---- the jobs

-- A row: the job's word, how many file names follow, the options that may not be absent, the options of which one stands
-- in for these, and the job of the plan.
pub record JobRow : Type 0 where
  pub word : Word
  pub files : ℕ
  pub needs : List OptionName
  pub instead : List OptionName
  pub job : Job

-- the problems that are searched, by their first word
abbrev pub problem_row : Problem → JobRow
problem_row problems.Knapsack = record { word = codes "knapsack"; files = 1; needs = []; instead = []; job = jobs.Knapsack }
problem_row problems.Tsp = record { word = codes "tsp"; files = 1; needs = []; instead = []; job = jobs.Tsp }
problem_row problems.Subgraph = record { word = codes "subgraph"; files = 2; needs = []; instead = []; job = jobs.Subgraph }
problem_row problems.Semigroups = record { word = codes "semigroups"; files = 0; needs = options.Genus ∷ []; instead = []; job = jobs.Semigroups }
problem_row problems.Flow = record { word = codes "flow"; files = 1; needs = []; instead = []; job = jobs.Flow }

-- what is made, by the word behind `make`
abbrev pub made_row : Made → JobRow
made_row made.Knapsack = record { word = codes "knapsack"; files = 0; needs = options.Seed ∷ options.Size ∷ []; instead = []; job = jobs.Make made.Knapsack }
made_row made.Tsp = record { word = codes "tsp"; files = 0; needs = options.Seed ∷ options.Size ∷ []; instead = []; job = jobs.Make made.Tsp }
made_row made.Lad = record { word = codes "lad"; files = 0; needs = options.Seed ∷ options.Size ∷ []; instead = []; job = jobs.Make made.Lad }

abbrev pub job_row : Head → JobRow
job_row (Search problem coordination) = problem_row problem
job_row (Make kind) = made_row kind

-- each of a kind
abbrev pub every_problem : List Problem
every_problem = problems.Knapsack ∷ problems.Tsp ∷ problems.Subgraph ∷ problems.Semigroups ∷ problems.Flow ∷ []

abbrev pub every_made : List Made
every_made = made.Knapsack ∷ made.Tsp ∷ made.Lad ∷ []

abbrev pub every_coordination : List Coordination
every_coordination = coordinations.Sequential ∷ coordinations.Depth ∷ coordinations.Budget ∷ coordinations.Steal ∷ coordinations.Ordered ∷ []

abbrev pub problem_word : Problem → Word
problem_word problem = (problem_row problem).word

abbrev pub made_word : Made → Word
made_word kind = (made_row kind).word

-- the second word of a search
abbrev pub coordination_word : Coordination → Word
coordination_word coordinations.Sequential = codes "sequential"
coordination_word coordinations.Depth = codes "depth"
coordination_word coordinations.Budget = codes "budget"
coordination_word coordinations.Steal = codes "steal"
coordination_word coordinations.Ordered = codes "ordered"

-- the first two words: a problem with a skeleton, or `make` with what is made
abbrev pub head_words : Head → List Word
head_words (Search problem coordination) = problem_word problem ∷ coordination_word coordination ∷ []
head_words (Make kind) = codes "make" ∷ made_word kind ∷ []

abbrev pub file_count : Head → ℕ
file_count head = (job_row head).files

abbrev pub job_of : Head → Job
job_of head = (job_row head).job

-- the options that may not be absent where these are given
abbrev pub required : Head → Given → List OptionName
required head given = if list_any given (job_row head).instead then [] else (job_row head).needs

-- the one of these that a word names
abbrev pub named : {A : Type 0} → (A → Word) → List A → Word → Option A
named word_of names word = find (λ name. bytes_eq (word_of name) word) names
