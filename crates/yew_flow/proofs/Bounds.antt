-- What the numbers of a node tell of its bound and its worth.
use Rattle.std.proofs.Common.{◌≡◌, ℕ, suc, ◌+◌, ◌-◌, ◌*◌, ◌≤◌, max, List, [], ◌∷◌, ◌++◌, length, map, slice_index, ap, sym, subst, ◌∙◌, arith}
use Rattle.std.specs.List.{AllByRecursion, range_with_len}
use Rattle.std.proofs.lemmas.List.{map_push}
use Rattle.yew_laws.proofs.Members.{AllByRecursion-weaker}
use Rattle.yew_flow.specs.declared.nodes.FlowNode.{FlowNode}
use Rattle.yew_flow.specs.BoundLaws.{jobs-count, lower_on-small}
use Rattle.yew_flow.specs.CompletionLaws.{row-at}
use Rattle.yew_flow.specs.Instance.{Instance}
use Rattle.yew_flow.specs.NodeLaws.{IsFree, absent-free}
use Rattle.yew_flow.specs.Nodes.{absent_from, completed, time_of_all, later_time, least_of, greatest_of, lower_on, jobs_of, jobs_in, IsNode}
use Rattle.yew_flow.specs.Orders.{completion, makespan}
use Rattle.yew_flow.proofs.Rows.{range-more}

greatest-push : (xs : List ℕ) (y : ℕ) → greatest_of (xs ++ y ∷ []) ≡ max y (greatest_of xs)
greatest-push [] y = omega arith
greatest-push (x ∷ xs) y = let rest = greatest-push xs y in omega (arith, rest)

-- one machine more
pub greatest-more : (f : ℕ → ℕ) (machine : ℕ) → 1 ≤ machine → max (f machine) (greatest_of (map f (range_with_len 1 (machine - 1)))) ≡ greatest_of (map f (range_with_len 1 (machine + 1 - 1)))
greatest-more f machine some =
    let last : 1 + (machine - 1) ≡ machine = omega (arith, some) in
    let long : machine - 1 + 1 ≡ machine + 1 - 1 = omega (arith, some) in
    sym
    (ap (λ n. greatest_of (map f (range_with_len 1 n))) (sym long)
    ∙ ap (λ xs. greatest_of (map f xs)) (range-more 1 (machine - 1))
    ∙ ap greatest_of (map_push f (range_with_len 1 (machine - 1)) (1 + (machine - 1)))
    ∙ greatest-push (map f (range_with_len 1 (machine - 1))) (f (1 + (machine - 1)))
    ∙ ap (λ j. max (f j) (greatest_of (map f (range_with_len 1 (machine - 1))))) last)

module _ (instance : Instance) (node : FlowNode) (sound : IsNode instance node) where
  -- the jobs of the word are jobs
  pub absent-within : AllByRecursion (λ job. (1 ≤ job) × (job ≤ instance.jobs)) (jobs_in node.absent)
  absent-within =
      subst (AllByRecursion (λ job. (1 ≤ job) × (job ≤ instance.jobs))) (sym sound.absent_is)
      (AllByRecursion-weaker (IsFree instance (jobs_of node)) (λ job. (1 ≤ job) × (job ≤ instance.jobs)) (λ job free. (free.from, free.to)) (absent_from instance (jobs_of node)) (absent-free instance (jobs_of node)))

  module _ (machine : ℕ) (some : 1 ≤ machine) (few : machine ≤ instance.machines) where
    here : suc (machine - 1) ≡ machine
    here = omega (arith, some)

    pub end-is : slice_index node.ends (machine - 1) ≡ completed instance (jobs_of node) machine
    end-is = row-at instance node.ends (completed instance (jobs_of node)) (machine - 1) sound.ends_are (omega (arith, some, few)) ∙ ap (completed instance (jobs_of node)) here

    pub rest-is : slice_index node.rest (machine - 1) ≡ time_of_all instance (absent_from instance (jobs_of node)) machine
    rest-is = row-at instance node.rest (time_of_all instance (absent_from instance (jobs_of node))) (machine - 1) sound.rest_are (omega (arith, some, few)) ∙ ap (time_of_all instance (absent_from instance (jobs_of node))) here

    pub later-is : least_of (map (later_time instance machine) (jobs_in node.absent)) ≡ least_of (map (later_time instance machine) (absent_from instance (jobs_of node)))
    later-is = ap (λ jobs. least_of (map (later_time instance machine) jobs)) sound.absent_is

    pub on-small : lower_on instance (jobs_of node) machine ≤ 96 * 1048575
    on-small = lower_on-small instance sound.limits (jobs_of node) machine few (jobs-count instance node sound)

  -- the makespan of a list of all jobs
  pub span-is : length (jobs_of node) ≡ instance.jobs → slice_index node.ends (instance.machines - 1) ≡ makespan instance (jobs_of node)
  span-is all = end-is instance.machines sound.limits.some_machines (omega arith) ∙ ap (λ n. completion instance (jobs_of node) n instance.machines) all
