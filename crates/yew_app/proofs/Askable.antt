-- What a plan asks of a search is what words can ask.
use Rattle.std.proofs.Common.{◌≡◌, ◌≤◌, ℕ, arith}
use Rattle.yew_words.specs.declared.plan.Job.{Job}
use Rattle.yew_words.specs.declared.plan.Job.TheVariants as jobs
use Rattle.yew_words.specs.declared.plan.Skeleton.{Skeleton}
use Rattle.yew_words.specs.declared.plan.Skeleton.TheVariants as skeletons
use Rattle.yew_words.specs.declared.table.Head.TheVariants.{Search}
use Rattle.yew_words.specs.declared.table.Problem.{Problem}
use Rattle.yew_words.specs.declared.table.Problem.TheVariants as problems
use Rattle.yew_words.specs.declared.table.OptionName.TheVariants as options
use Rattle.yew_words.specs.Plans.{Planned}
use Rattle.yew_words.specs.Ranges.{coordination_of, head_of, HasRange, HasSkeletonRange, HasSkeletonOf, IsWithin}
use Rattle.yew_app.specs.Asks.{IsSequential, HasBudget, HasDepth, IsAskable}
use Rattle.yew_app.specs.Runs.{asked_of}

record Ranges (skeleton : Skeleton) (workers : ℕ) : Type 0 where
  pub some : 1 ≤ workers
  pub few : workers ≤ 64
  pub alone : IsSequential skeleton → workers ≡ 1
  pub budget : HasBudget skeleton
  pub depth : HasDepth skeleton

searching : (problem : Problem) (skeleton : Skeleton) (workers : ℕ) → HasSkeletonRange (Search problem (coordination_of skeleton)) skeleton → HasRange (Search problem (coordination_of skeleton)) options.Workers 1 workers → Ranges skeleton workers
searching problem skeletons.Sequential workers number range = record { some = omega (arith, range); few = omega (arith, range); alone = λ is. range; budget = tt; depth = tt }
searching problem (skeletons.Depth depth) workers number range = record { some = range.0; few = range.1; alone = λ is. absurd (cc); budget = tt; depth = tt }
searching problem (skeletons.Budget budget) workers number range = record { some = range.0; few = range.1; alone = λ is. absurd (cc); budget = number.0; depth = tt }
searching problem (skeletons.Steal all) workers number range = record { some = range.0; few = range.1; alone = λ is. absurd (cc); budget = tt; depth = tt }
searching problem (skeletons.Ordered depth) workers number range = record { some = range.0; few = range.1; alone = λ is. absurd (cc); budget = tt; depth = number }

-- what is made is made by no skeleton
making : (skeleton : Skeleton) (workers : ℕ) → skeleton ≡ skeletons.Sequential → workers ≡ 1 → Ranges skeleton workers
making skeletons.Sequential workers is range = record { some = omega (arith, range); few = omega (arith, range); alone = λ _. range; budget = tt; depth = tt }
making (skeletons.Depth depth) workers is range = absurd (cc)
making (skeletons.Budget budget) workers is range = absurd (cc)
making (skeletons.Steal all) workers is range = absurd (cc)
making (skeletons.Ordered depth) workers is range = absurd (cc)

of-job : (job : Job) (skeleton : Skeleton) (workers : ℕ) → HasSkeletonOf job skeleton → HasSkeletonRange (head_of job (coordination_of skeleton)) skeleton → HasRange (head_of job (coordination_of skeleton)) options.Workers 1 workers → Ranges skeleton workers
of-job jobs.Knapsack skeleton workers of_job number range = searching problems.Knapsack skeleton workers number range
of-job jobs.Tsp skeleton workers of_job number range = searching problems.Tsp skeleton workers number range
of-job jobs.Subgraph skeleton workers of_job number range = searching problems.Subgraph skeleton workers number range
of-job jobs.Semigroups skeleton workers of_job number range = searching problems.Semigroups skeleton workers number range
of-job jobs.Flow skeleton workers of_job number range = searching problems.Flow skeleton workers number range
of-job (jobs.Make kind) skeleton workers of_job number range = making skeleton workers of_job range

pub within-askable : (plan : Planned) → IsWithin plan → IsAskable (asked_of plan)
within-askable plan within =
    let r = of-job plan.job plan.skeleton plan.workers within.of_job within.skeleton within.workers in
    record { some = r.some; few = r.few; alone = r.alone; budget = r.budget; depth = r.depth }
