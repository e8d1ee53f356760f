-- The least makespan of a permutation flow shop.
use Rattle.std.specs.Prelude.{ℕ, ◌+◌, Bool, ◌&&◌, List, length, max, slice_index, ◌==◌}
use Rattle.std.proofs.Common.{zero, suc}
use Rattle.yew_laws.specs.Optimum.{IsLeast}
use Rattle.yew_laws.specs.Sets.{are_different, are_within}
use Rattle.yew_flow.specs.Instance.{Instance, time_on}

-- a list of all jobs, each once
abbrev pub is_order : Instance → List ℕ → Bool
is_order instance jobs = (length jobs == instance.jobs) && (are_within 1 instance.jobs jobs && are_different jobs)

-- when the k-th job of a list is done on machine j: 0 where k or j is 0. A job is begun on a machine as soon as the job
-- before it is done there and it is itself done on the machine before
abbrev pub completion : Instance → List ℕ → ℕ → ℕ → ℕ
completion instance jobs zero j = 0
completion instance jobs (suc k) zero = 0
completion instance jobs (suc k) (suc j) = max (completion instance jobs k (suc j)) (completion instance jobs (suc k) j) + time_on instance (slice_index jobs k) (suc j)

-- when the last job of an order is done on the last machine
abbrev pub makespan : Instance → List ℕ → ℕ
makespan instance jobs = completion instance jobs instance.jobs instance.machines

-- the least makespan of all orders
abbrev pub IsLeastMakespan : Instance → ℕ → Type 0
IsLeastMakespan instance least = IsLeast (is_order instance) (makespan instance) least
