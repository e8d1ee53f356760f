-- The ranges of a plan's fields: those of the options that they come from, by the table.
use Rattle.std.specs.Prelude.{◌≡◌, ℕ, zero, suc, ◌≤◌, Bool, true, false, length, Option, Some, None, IfSome}
use Rattle.yew_words.specs.declared.plan.Job.{Job}
use Rattle.yew_words.specs.declared.plan.Job.TheVariants as jobs
use Rattle.yew_words.specs.declared.plan.Skeleton.{Skeleton}
use Rattle.yew_words.specs.declared.plan.Skeleton.TheVariants as skeletons
use Rattle.yew_words.specs.declared.table.Problem.TheVariants as problems
use Rattle.yew_words.specs.declared.table.Coordination.{Coordination}
use Rattle.yew_words.specs.declared.table.Coordination.TheVariants as coordinations
use Rattle.yew_words.specs.declared.table.Head.{Head}
use Rattle.yew_words.specs.declared.table.Head.TheVariants.{Search, Make}
use Rattle.yew_words.specs.declared.table.OptionName.{OptionName}
use Rattle.yew_words.specs.declared.table.OptionName.TheVariants as options
use Rattle.yew_words.specs.declared.table.Takes.{Takes}
use Rattle.yew_words.specs.declared.table.Takes.TheVariants.{Nothing, OneOrAll, Number}
use Rattle.yew_words.specs.Table.{takes, suits, file_count}
use Rattle.yew_words.specs.Plans.{Planned}

-- ---- the first words of a job and a skeleton

abbrev pub coordination_of : Skeleton → Coordination
coordination_of skeletons.Sequential = coordinations.Sequential
coordination_of (skeletons.Depth depth) = coordinations.Depth
coordination_of (skeletons.Budget budget) = coordinations.Budget
coordination_of (skeletons.Steal all) = coordinations.Steal
coordination_of (skeletons.Ordered depth) = coordinations.Ordered

abbrev pub head_of : Job → Coordination → Head
head_of jobs.Knapsack coordination = Search problems.Knapsack coordination
head_of jobs.Tsp coordination = Search problems.Tsp coordination
head_of jobs.Subgraph coordination = Search problems.Subgraph coordination
head_of jobs.Semigroups coordination = Search problems.Semigroups coordination
head_of jobs.Flow coordination = Search problems.Flow coordination
head_of (jobs.Make kind) coordination = Make kind

-- ---- a field that comes from an option

-- the number is in this range, both ends included; none is below 0
abbrev pub IsFromTo : ℕ → ℕ → ℕ → Type 0
IsFromTo zero high n = n ≤ high
IsFromTo (suc low) high n = (suc low ≤ n) × (n ≤ high)

-- the number is one that may follow
abbrev pub IsTaken : Takes → ℕ → Type 0
IsTaken (Number low high) n = IsFromTo low high n
IsTaken OneOrAll n = ⊥
IsTaken Nothing n = ⊥

-- the first where the test holds, and else the second
abbrev pub OneOf : Bool → Type 0 → Type 0 → Type 0
OneOf true First Second = First
OneOf false First Second = Second

-- a number: one that may follow the option where it is for these first words, and else this one
abbrev pub HasRange : Head → OptionName → ℕ → ℕ → Type 0
HasRange head name absent n = OneOf (suits head name) (IsTaken (takes head name) n) (n ≡ absent)

-- a number that may be absent
abbrev pub HasOptionalRange : Head → OptionName → Option ℕ → Type 0
HasOptionalRange head name given = OneOf (suits head name) (IfSome given (IsTaken (takes head name))) (given ≡ None)

-- the number of a skeleton
abbrev pub HasSkeletonRange : Head → Skeleton → Type 0
HasSkeletonRange head skeletons.Sequential = Unit {0}
HasSkeletonRange head (skeletons.Depth depth) = HasRange head options.Depth 0 depth
HasSkeletonRange head (skeletons.Budget budget) = HasRange head options.Budget 0 budget
HasSkeletonRange head (skeletons.Steal all) = Unit {0}
HasSkeletonRange head (skeletons.Ordered depth) = HasRange head options.Depth 0 depth

-- ---- the fields

-- the size of what is made
abbrev pub HasSizeRange : Job → ℕ → Type 0
HasSizeRange job size = HasRange (head_of job coordinations.Sequential) options.Size 0 size

-- how many files a job has
abbrev pub file_count_of : Job → ℕ
file_count_of job = file_count (head_of job coordinations.Sequential)

-- the first words of a plan
abbrev pub head_of_plan : Planned → Head
head_of_plan plan = head_of plan.job (coordination_of plan.skeleton)

-- what is made is made by no skeleton
abbrev pub HasSkeletonOf : Job → Skeleton → Type 0
HasSkeletonOf (jobs.Make kind) skeleton = skeleton ≡ skeletons.Sequential
HasSkeletonOf _ skeleton = Unit {0}

-- Each field is in its range, and beside a gap there is no target.
pub record IsWithin (plan : Planned) : Type 0 where
  pub of_job : HasSkeletonOf plan.job plan.skeleton
  pub skeleton : HasSkeletonRange (head_of_plan plan) plan.skeleton
  pub workers : HasRange (head_of_plan plan) options.Workers 1 plan.workers
  pub target : HasOptionalRange (head_of_plan plan) options.Target plan.target
  pub gap : HasOptionalRange (head_of_plan plan) options.Gap plan.gap
  pub no_target : (gap : ℕ) → plan.gap ≡ Some gap → plan.target ≡ None
  pub genus : HasRange (head_of_plan plan) options.Genus 0 plan.genus
  pub size : HasSizeRange plan.job plan.size
  pub files : length plan.files ≡ file_count_of plan.job
