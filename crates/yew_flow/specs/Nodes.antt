-- The tree of the lists of different jobs.
use Rattle.std.specs.Prelude.{◌≡◌, ℕ, ◌+◌, ◌-◌, ◌^◌, true, not, List, [], ◌∷◌, ◌++◌, length, take, drop, map, filter, flat_map, sum_by, min, max, replicate, slice_index, slice_set, ◌==◌, ◌/◌, ◌%◌, ◌*◌, bit_and, nat_le, nat_lt, if◌then◌else◌}
use Rattle.std.proofs.Common.{zero, suc}
use Rattle.std.specs.Int.{bit_not, w64}
use Rattle.std.specs.List.{range_with_len}
use Rattle.yew_laws.specs.Sets.{contains, are_different, are_within}
use Rattle.yew_flow.specs.declared.nodes.FlowNode.{FlowNode}
use Rattle.yew_flow.specs.declared.nodes.FlowKids.{FlowKids}
use Rattle.yew_flow.specs.Bits.{bits_of}
use Rattle.yew_flow.specs.Instance.{Instance, IsWithinLimits, time_on}
use Rattle.yew_flow.specs.Orders.{completion, makespan}

-- ---- lists of jobs

-- the numbers of all jobs and of all machines
abbrev pub all_jobs : Instance → List ℕ
all_jobs instance = range_with_len 1 instance.jobs

abbrev pub all_machines : Instance → List ℕ
all_machines instance = range_with_len 1 instance.machines

-- the jobs that are not in a list, rising
abbrev pub absent_from : Instance → List ℕ → List ℕ
absent_from instance jobs = filter (λ job. not (contains jobs job)) (all_jobs instance)

-- when the last job of a list is done on a machine
abbrev pub completed : Instance → List ℕ → ℕ → ℕ
completed instance jobs machine = completion instance jobs (length jobs) machine

-- the sum of the times on a machine of these jobs
abbrev pub time_of_all : Instance → List ℕ → ℕ → ℕ
time_of_all instance jobs machine = sum_by (λ job. time_on instance job machine) jobs

-- how long a job takes on the machines after one
abbrev pub later_time : Instance → ℕ → ℕ → ℕ
later_time instance machine job = sum_by (time_on instance job) (range_with_len (machine + 1) (instance.machines - machine))

-- what stands at a place of a table of these, in rows of 64 places for each machine
abbrev pub later_entry : Instance → ℕ → ℕ
later_entry instance place = if nat_le (place % 64 + 1) instance.jobs then later_time instance (place / 64 + 1) (place % 64 + 1) else 0

-- the table of all machines
abbrev pub later_table : Instance → List ℕ
later_table instance = map (later_entry instance) (range_with_len 0 (64 * instance.machines))

-- what a place has in the row of a machine of such a table. The place of a job is its number less 1
abbrev pub later_in : List ℕ → ℕ → ℕ → ℕ
later_in later machine place = slice_index later ((machine - 1) * 64 + place % 64)

-- a place put in front of the first one that has more
abbrev pub put_in : (ℕ → ℕ) → ℕ → List ℕ → List ℕ
put_in value x [] = x ∷ []
put_in value x (y ∷ ys) = if nat_lt (value x) (value y) then x ∷ y ∷ ys else y ∷ put_in value x ys

-- some places put in one after another
abbrev pub all_put_in : (ℕ → ℕ) → List ℕ → List ℕ → List ℕ
all_put_in value order [] = order
all_put_in value order (x ∷ xs) = all_put_in value (put_in value x order) xs

-- the places of so many jobs by what they have in the row of a machine
abbrev pub places_by : List ℕ → ℕ → ℕ → List ℕ
places_by later jobs machine = all_put_in (later_in later machine) [] (range_with_len 0 jobs)

-- those of all machines
abbrev pub places_table : Instance → List ℕ
places_table instance = flat_map (places_by (later_table instance) instance.jobs) (all_machines instance)

-- the least of a number and of some more
abbrev pub least_with : ℕ → List ℕ → ℕ
least_with x [] = x
least_with x (y ∷ ys) = min x (least_with y ys)

-- the least of some numbers, and 0 where there are none
abbrev pub least_of : List ℕ → ℕ
least_of [] = 0
least_of (x ∷ xs) = least_with x xs

-- the greatest of some numbers
abbrev pub greatest_of : List ℕ → ℕ
greatest_of [] = 0
greatest_of (x ∷ xs) = max x (greatest_of xs)

-- No order that begins with a list is done earlier, as far as one machine tells: it is free again when the list is done
-- there; then come the absent jobs, and after the last of these its times on the later machines
abbrev pub lower_on : Instance → List ℕ → ℕ → ℕ
lower_on instance jobs machine =
    completed instance jobs machine + time_of_all instance (absent_from instance jobs) machine + least_of (map (later_time instance machine) (absent_from instance jobs))

-- the greatest of these over all machines
abbrev pub lower_of : Instance → List ℕ → ℕ
lower_of instance jobs = greatest_of (map (lower_on instance jobs) (all_machines instance))

-- ---- nodes

-- the jobs of a node's list, in order
abbrev pub jobs_of : FlowNode → List ℕ
jobs_of node = take node.placed node.jobs

-- the jobs whose bits are set in a word: bit 0 is that of job 1
abbrev pub jobs_in : ℕ → List ℕ
jobs_in word = map (λ place. place + 1) (bits_of word)

-- a word without one of its bits
abbrev pub cleared : ℕ → ℕ → ℕ
cleared word place = bit_and word (bit_not w64 (1 * 2 ^ place % 2 ^ 64))

-- a row of numbers whose first ones, those of the machines, are these
abbrev pub with_machines : Instance → List ℕ → (ℕ → ℕ) → List ℕ
with_machines instance row number = map number (all_machines instance) ++ drop instance.machines row

-- no job, where the absent ones, which are all, take these times on the machines
abbrev pub start_at : ℕ → List ℕ → FlowNode
start_at jobs rest = record { jobs = replicate 64 0; placed = 0; absent = 2 ^ jobs - 1; ends = replicate 32 0; rest = rest }

abbrev pub root_of : Instance → FlowNode
root_of instance = start_at instance.jobs (with_machines instance (replicate 32 0) (time_of_all instance (all_jobs instance)))

-- when a job is done on a machine, where the machines are free at these times
abbrev pub done_on : Instance → List ℕ → ℕ → ℕ → ℕ
done_on instance ends job zero = 0
done_on instance ends job (suc j) = max (slice_index ends j) (done_on instance ends job j) + time_on instance job (suc j)

-- the numbers of the machines behind one more job
abbrev pub ends_behind : Instance → List ℕ → ℕ → List ℕ
ends_behind instance ends job = with_machines instance ends (done_on instance ends job)

abbrev pub rest_without : Instance → List ℕ → ℕ → List ℕ
rest_without instance rest job = with_machines instance rest (λ machine. slice_index rest (machine - 1) - time_on instance job machine)

-- a list with one more job at its end
abbrev pub appended : Instance → FlowNode → ℕ → FlowNode
appended instance node job = record {
  jobs = slice_set node.jobs node.placed job;
  placed = node.placed + 1;
  absent = cleared node.absent (job - 1);
  ends = ends_behind instance node.ends job;
  rest = rest_without instance node.rest job;
}

-- the lists with one more job, by rising number of that job
abbrev pub children_of : Instance → FlowNode → List FlowNode
children_of instance node = map (appended instance node) (absent_from instance (jobs_of node))

-- those that a generator has still to give
abbrev pub remaining_of : Instance → FlowKids → List FlowNode
remaining_of instance kids = map (appended instance kids.parent) (jobs_in kids.left)

-- the number of jobs that are not in the list
abbrev pub rank_of : Instance → FlowNode → ℕ
rank_of instance node = length (absent_from instance (jobs_of node))

-- 2^37 less the makespan where the list has all jobs, and 0 elsewhere
abbrev pub worth_of : Instance → FlowNode → ℕ
worth_of instance node = if length (jobs_of node) == instance.jobs then 2 ^ 37 - makespan instance (jobs_of node) else 0

abbrev pub bound_of : Instance → FlowNode → ℕ
bound_of instance node = 2 ^ 37 - lower_of instance (jobs_of node)

-- different jobs, and the node's numbers are those of its list
pub record IsNode (instance : Instance) (node : FlowNode) : Type 0 where
  pub limits : IsWithinLimits instance
  pub size : length node.jobs ≡ 64
  pub ends_size : length node.ends ≡ 32
  pub rest_size : length node.rest ≡ 32
  pub count : length (absent_from instance (jobs_of node)) + node.placed ≡ instance.jobs
  pub within : are_within 1 instance.jobs (jobs_of node) ≡ true
  pub different : are_different (jobs_of node) ≡ true
  pub absent_is : jobs_in node.absent ≡ absent_from instance (jobs_of node)
  pub ends_are : take instance.machines node.ends ≡ map (completed instance (jobs_of node)) (all_machines instance)
  pub rest_are : take instance.machines node.rest ≡ map (time_of_all instance (absent_from instance (jobs_of node))) (all_machines instance)
