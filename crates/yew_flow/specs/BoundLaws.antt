-- The bound of a node: no order that begins with its list is done earlier.
use Rattle.std.specs.Prelude.{◌≡◌, ◌≢◌, ℕ, ◌+◌, ◌-◌, ◌*◌, ◌<◌, ◌≤◌, ◌^◌, true, false, min, max, ◌==◌, List, [], ◌∷◌, ◌++◌, length, map, sum_by, refl, if◌then◌else◌}
use Rattle.std.specs.List.{AllByRecursion, range_with_len}
use Rattle.std.proofs.Common.{zero, suc, ap, sym, subst, ◌∙◌, arith, inl, inr, get_or}
use Rattle.std.proofs.lemmas.List.{nil_from_length}
use Rattle.std.proofs.lemmas.Bool.{cases_eq}
use Rattle.std.proofs.lemmas.Bool.Decides.{nat_tests}
use Rattle.std.proofs.lemmas.List.Sums.{sum_by-cons}
use Rattle.yew_laws.specs.Tree.{IsBounded}
use Rattle.yew_laws.proofs.Bounds.{IsBounded-from_steps}
use Rattle.yew_laws.proofs.Members.{AllByRecursion-weaker}
use Rattle.yew_flow.specs.declared.nodes.FlowNode.{FlowNode}
use Rattle.yew_flow.specs.CompletionLaws.{completion-rises, completed-push, last-rises}
use Rattle.yew_flow.specs.Instance.{Instance, IsWithinLimits, time_on}
use Rattle.yew_flow.specs.Lists.{filter-all, is_other, length-range, range-all, member-all}
use Rattle.yew_flow.specs.NodeLaws.{IsFree, free-listed, absent-push, time-less, length-jobs, jobs-appended, IsAppended, children-appended, orders-ranked}
use Rattle.yew_flow.specs.Nodes.{all_machines, absent_from, completed, time_of_all, later_time, least_with, least_of, greatest_of, lower_on, lower_of, jobs_of, children_of, worth_of, bound_of, IsNode}
use Rattle.yew_flow.specs.Orders.{completion, makespan}

-- ---- the least and the greatest of some numbers

record LeastOfAll (f : ℕ → ℕ) (a : ℕ) (xs : List ℕ) : Type 0 where
  own : least_with a (map f xs) ≤ a
  others : AllByRecursion (λ x. least_with a (map f xs) ≤ f x) xs

least_with-all : (f : ℕ → ℕ) (a : ℕ) (xs : List ℕ) → LeastOfAll f a xs
least_with-all f a [] = record { own = omega arith; others = tt }
least_with-all f a (x ∷ xs) =
    let rest = least_with-all f (f x) xs in
    let own = rest.own in
    let least = least_with (f x) (map f xs) in
    let low : min a least ≤ least = omega arith in
    record {
      own = omega arith;
      others = (omega (arith, own, low), AllByRecursion-weaker (λ y. least ≤ f y) (λ y. min a least ≤ f y) (λ y l. omega (arith, l, low)) xs rest.others);
    }

-- the least is at most each
pub least-all : (f : ℕ → ℕ) (xs : List ℕ) → AllByRecursion (λ x. least_of (map f xs) ≤ f x) xs
least-all f [] = tt
least-all f (x ∷ xs) = let l = least_with-all f (f x) xs in (l.own, l.others)

-- what is at most each of some is at most their least
pub least_with-above : (f : ℕ → ℕ) (b a : ℕ) (xs : List ℕ) → b ≤ a → AllByRecursion (λ x. b ≤ f x) xs → b ≤ least_with a (map f xs)
least_with-above f b a [] l h = l
least_with-above f b a (x ∷ xs) l h = let rest = least_with-above f b (f x) xs h.0 h.1 in omega (arith, l, rest)

-- the greatest is at least each, and at most what each is
pub greatest-all : (f : ℕ → ℕ) (xs : List ℕ) → AllByRecursion (λ x. f x ≤ greatest_of (map f xs)) xs
greatest-all f [] = tt
greatest-all f (x ∷ xs) =
    let g = greatest_of (map f xs) in
    let top : g ≤ max (f x) g = omega arith in
    (omega arith, AllByRecursion-weaker (λ y. f y ≤ g) (λ y. f y ≤ max (f x) g) (λ y l. omega (arith, l, top)) xs (greatest-all f xs))

pub greatest-below : (f : ℕ → ℕ) (b : ℕ) (xs : List ℕ) → AllByRecursion (λ x. f x ≤ b) xs → greatest_of (map f xs) ≤ b
greatest-below f b [] h = omega arith
greatest-below f b (x ∷ xs) h = let own = h.0 in let rest = greatest-below f b xs h.1 in omega (arith, own, rest)

range-at : (P : ℕ → Type 0) (a n k : ℕ) → AllByRecursion P (range_with_len a n) → a ≤ k → k < a + n → P k
range-at P a zero k h l m = absurd (omega (arith, l, m))
range-at P a (suc n) k h l m =
    elim (cases_eq a k) [
      | inl same ↦ subst P same h.0
      | inr other ↦ range-at P (a + 1) n k h.1 (omega (arith, l, other)) (omega (arith, m))
    ]

-- ---- numbers are small

get_or-small : (m : ℕ) (ws : List ℕ) (k : ℕ) → 0 < m → AllByRecursion (λ w. w < m) ws → get_or ws k 0 < m
get_or-small m [] k p a = p
get_or-small m (w ∷ ws) zero p a = a.0
get_or-small m (w ∷ ws) (suc k) p a = get_or-small m ws k p a.1

pub sum-small : (f : ℕ → ℕ) → ((x : ℕ) → f x ≤ 1048575) → (xs : List ℕ) → sum_by f xs ≤ length xs * 1048575
sum-small f h [] = omega arith
sum-small f h (x ∷ xs) = let cons = sum_by-cons f x xs in let rest = sum-small f h xs in let one = h x in omega (arith, cons, rest, one)

module _ (instance : Instance) (limits : IsWithinLimits instance) where
  pub time-small : (job machine : ℕ) → time_on instance job machine ≤ 1048575
  time-small job machine = let small = get_or-small (2 ^ 20) instance.times ((job - 1) * instance.machines + (machine - 1)) (omega arith) limits.short in omega (arith, small)

  pub completion-small : (xs : List ℕ) (k j : ℕ) → completion instance xs k j ≤ (k + j) * 1048575
  completion-small xs zero j = omega arith
  completion-small xs (suc k) zero = omega arith
  completion-small xs (suc k) (suc j) =
      let above = completion-small xs k (suc j) in
      let before = completion-small xs (suc k) j in
      let time = time-small (get_or xs k 0) (suc j) in
      omega (arith, above, before, time)

  pub later-small : (machine job : ℕ) → later_time instance machine job ≤ (instance.machines - machine) * 1048575
  later-small machine job =
      let sum = sum-small (time_on instance job) (time-small job) (range_with_len (machine + 1) (instance.machines - machine)) in
      let long = ap (λ k. k * 1048575) (length-range (machine + 1) (instance.machines - machine)) in
      omega (arith, sum, long)

  least-small : (machine : ℕ) (xs : List ℕ) → least_of (map (later_time instance machine) xs) ≤ (instance.machines - machine) * 1048575
  least-small machine [] = omega arith
  least-small machine (x ∷ xs) = let l = (least-all (later_time instance machine) (x ∷ xs)).0 in let one = later-small machine x in omega (arith, l, one)

  pub lower_on-small : (xs : List ℕ) (machine : ℕ) → machine ≤ instance.machines → length (absent_from instance xs) + length xs ≡ instance.jobs → lower_on instance xs machine ≤ 96 * 1048575
  lower_on-small xs machine within count =
      let done = completion-small xs (length xs) machine in
      let times = sum-small (λ job. time_on instance job machine) (λ job. time-small job machine) (absent_from instance xs) in
      let later = least-small machine (absent_from instance xs) in
      let few = limits.few_jobs in
      let few_machines = limits.few_machines in
      omega (arith, done, times, later, few, few_machines, within, count)

-- ---- one more job

module _ (instance : Instance) (xs : List ℕ) (job : ℕ) (free : IsFree instance xs job) where
  abbrev all : List ℕ
  all = xs ++ job ∷ []

  -- a machine that is free when the list is done there takes the job next
  job-done : (j : ℕ) → completed instance xs (suc j) + time_on instance job (suc j) ≤ completed instance all (suc j)
  job-done j = let e = completed-push instance xs job j in omega (arith, e)

  -- a machine tells at most what one tells behind one more job: the same one where jobs are left, and else the last one
  machine-rises : (j : ℕ) → j < instance.machines → (left : List ℕ) → absent_from instance all ≡ left → lower_on instance xs (suc j) ≤ lower_of instance all
  machine-rises j l [] e =
      let less = time-less instance xs job free (suc j) in
      let none : time_of_all instance (absent_from instance all) (suc j) ≡ 0 = ap (λ cs. time_of_all instance cs (suc j)) e in
      let f = later_time instance (suc j) in
      let absent = absent_from instance xs in
      let least = member-all (λ c. least_of (map f absent) ≤ f c) absent job (least-all f absent) (free-listed instance xs job free) in
      let done = job-done j in
      let last : suc j + (instance.machines - suc j) ≡ instance.machines = omega (arith, l) in
      let rises : completed instance all (suc j) + later_time instance (suc j) job ≤ completed instance all instance.machines =
      subst (λ k. completed instance all (suc j) + later_time instance (suc j) job ≤ completed instance all k) last (last-rises instance xs job (suc j) (instance.machines - suc j)) in
      let top : lower_on instance all instance.machines ≤ lower_of instance all =
      range-at (λ k. lower_on instance all k ≤ lower_of instance all) 1 instance.machines instance.machines (greatest-all (lower_on instance all) (all_machines instance)) (omega (arith, l)) (omega arith) in
      omega (arith, less, none, least, done, rises, top)
  machine-rises j l (d ∷ ds) e =
      let f = later_time instance (suc j) in
      let before = least_of (map f (absent_from instance xs)) in
      let less = time-less instance xs job free (suc j) in
      let kept : AllByRecursion (λ c. before ≤ f c) (d ∷ ds) =
      subst (AllByRecursion (λ c. before ≤ f c)) (sym (absent-push instance xs job) ∙ e) (filter-all (λ c. before ≤ f c) (is_other job) (absent_from instance xs) (least-all f (absent_from instance xs))) in
      let least : before ≤ least_of (map f (d ∷ ds)) = least_with-above f before (f d) ds kept.0 kept.1 in
      let same : least_of (map f (absent_from instance all)) ≡ least_of (map f (d ∷ ds)) = ap (λ cs. least_of (map f cs)) e in
      let done = job-done j in
      let top : lower_on instance all (suc j) ≤ lower_of instance all =
      range-at (λ k. lower_on instance all k ≤ lower_of instance all) 1 instance.machines (suc j) (greatest-all (lower_on instance all) (all_machines instance)) (omega arith) (omega (arith, l)) in
      omega (arith, less, least, same, done, top)

  pub lower-rises : lower_of instance xs ≤ lower_of instance all
  lower-rises = greatest-below (lower_on instance xs) (lower_of instance all) (all_machines instance) (range-all (λ k. lower_on instance xs k ≤ lower_of instance all) 1 instance.machines at)
    where
      at : (k : ℕ) → 1 ≤ k → k < 1 + instance.machines → lower_on instance xs k ≤ lower_of instance all
      at zero l m = absurd (omega (arith, l))
      at (suc j) l m = machine-rises j (omega (arith, m)) (absent_from instance all) refl

-- ---- nodes

module _ (instance : Instance) (node : FlowNode) (sound : IsNode instance node) where
  pub jobs-count : length (absent_from instance (jobs_of node)) + length (jobs_of node) ≡ instance.jobs
  jobs-count = let count = sound.count in let long = length-jobs instance node sound in omega (arith, count, long)

  pub lower-small : lower_of instance (jobs_of node) ≤ 96 * 1048575
  lower-small =
      greatest-below (lower_on instance (jobs_of node)) (96 * 1048575) (all_machines instance)
      (range-all (λ k. lower_on instance (jobs_of node) k ≤ 96 * 1048575) 1 instance.machines (λ k l m. lower_on-small instance sound.limits (jobs_of node) k (omega (arith, m)) jobs-count))

  pub span-small : makespan instance (jobs_of node) < 2 ^ 37
  span-small =
      let small = completion-small instance sound.limits (jobs_of node) instance.jobs instance.machines in
      let few = sound.limits.few_jobs in
      let few_machines = sound.limits.few_machines in
      omega (arith, small, few, few_machines)

  pub worth-whole : length (jobs_of node) ≡ instance.jobs → worth_of instance node ≡ 2 ^ 37 - makespan instance (jobs_of node)
  worth-whole all = ap (λ b. if b then 2 ^ 37 - makespan instance (jobs_of node) else 0) (same (length (jobs_of node)) all)
    where
      same : (k : ℕ) → k ≡ instance.jobs → (k == instance.jobs) ≡ true
      same k e = grind (arith, nat_tests)

  pub worth-part : length (jobs_of node) ≢ instance.jobs → worth_of instance node ≡ 0
  worth-part part = ap (λ b. if b then 2 ^ 37 - makespan instance (jobs_of node) else 0) (other (length (jobs_of node)) part)
    where
      other : (k : ℕ) → k ≢ instance.jobs → (k == instance.jobs) ≡ false
      other k e = grind (arith, nat_tests)

  -- no machine tells more of a whole order than its makespan
  whole-lower : length (jobs_of node) ≡ instance.jobs → lower_of instance (jobs_of node) ≤ makespan instance (jobs_of node)
  whole-lower all =
      greatest-below (lower_on instance (jobs_of node)) (makespan instance (jobs_of node)) (all_machines instance)
      (range-all (λ k. lower_on instance (jobs_of node) k ≤ makespan instance (jobs_of node)) 1 instance.machines at)
    where
      none : absent_from instance (jobs_of node) ≡ []
      none = nil_from_length (absent_from instance (jobs_of node)) (let count = jobs-count in omega (arith, count, all))

      at : (k : ℕ) → 1 ≤ k → k < 1 + instance.machines → lower_on instance (jobs_of node) k ≤ makespan instance (jobs_of node)
      at k l m =
          let times : time_of_all instance (absent_from instance (jobs_of node)) k ≡ 0 = ap (λ cs. time_of_all instance cs k) none in
          let later : least_of (map (later_time instance k) (absent_from instance (jobs_of node))) ≡ 0 = ap (λ cs. least_of (map (later_time instance k) cs)) none in
          let last : k + (instance.machines - k) ≡ instance.machines = omega (arith, m) in
          let rises : completed instance (jobs_of node) k ≤ completed instance (jobs_of node) instance.machines =
          subst (λ i. completed instance (jobs_of node) k ≤ completed instance (jobs_of node) i) last (completion-rises instance (jobs_of node) (length (jobs_of node)) k (instance.machines - k)) in
          let span : completed instance (jobs_of node) instance.machines ≡ makespan instance (jobs_of node) = ap (λ n. completion instance (jobs_of node) n instance.machines) all in
          omega (arith, times, later, rises, span)

  own-bounded : worth_of instance node ≤ bound_of instance node
  own-bounded =
      elim (cases_eq (length (jobs_of node)) instance.jobs) [
        | inl all ↦ let worth = worth-whole all in let lower = whole-lower all in omega (arith, worth, lower)
        | inr part ↦ let worth = worth-part part in omega (arith, worth)
      ]

  bound-falls : AllByRecursion (λ c. bound_of instance c ≤ bound_of instance node) (children_of instance node)
  bound-falls =
      AllByRecursion-weaker (IsAppended instance node) (λ c. bound_of instance c ≤ bound_of instance node)
      (λ c a.
      let rises = lower-rises instance (jobs_of node) a.job a.free in
      let same = ap (lower_of instance) (ap jobs_of a.is ∙ jobs-appended instance node sound a.job a.free) in
      omega (arith, rises, same))
      (children_of instance node) (children-appended instance node)

-- no list at or below a node is worth more than the node's bound, and every bound is below 2 ^ 40
pub orders-bounded : (instance : Instance) → IsBounded (IsNode instance) (children_of instance) (worth_of instance) (bound_of instance)
orders-bounded instance = IsBounded-from_steps (orders-ranked instance) (own-bounded instance) (bound-falls instance) (λ node sound. omega arith)
