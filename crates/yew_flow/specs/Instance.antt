-- What a permutation flow shop is about.
use Rattle.std.specs.Prelude.{◌≡◌, ℕ, ◌+◌, ◌-◌, ◌*◌, ◌<◌, ◌≤◌, ◌^◌, List, length, slice_index}
use Rattle.std.specs.List.{AllByRecursion}

-- the number of jobs and of machines, each numbered from 1, and the time of each job on each machine, job by job
pub record Instance : Type 0 where
  pub jobs : ℕ
  pub machines : ℕ
  pub times : List ℕ

-- the time that a job takes on a machine
abbrev pub time_on : Instance → ℕ → ℕ → ℕ
time_on instance job machine = slice_index instance.times ((job - 1) * instance.machines + (machine - 1))

-- an instance all of whose numbers are within their limits
pub record IsWithinLimits (instance : Instance) : Type 0 where
  pub some_jobs : 1 ≤ instance.jobs
  pub few_jobs : instance.jobs ≤ 64
  pub some_machines : 1 ≤ instance.machines
  pub few_machines : instance.machines ≤ 32
  pub whole : length instance.times ≡ instance.jobs * instance.machines
  pub short : AllByRecursion (λ time. time < 2 ^ 20) instance.times
