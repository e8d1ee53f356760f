-- The children of a node are nodes, of less rank.
use Rattle.std.specs.Prelude.{◌≡◌, ◌≢◌, ℕ, ◌+◌, ◌-◌, ◌<◌, ◌≤◌, ◌^◌, Bool, true, false, not, ◌&&◌, ◌||◌, ◌==◌, List, [], ◌∷◌, ◌++◌, length, take, map, filter, slice_index, replicate, refl}
use Rattle.std.specs.Int.{bit_at, w64}
use Rattle.std.specs.List.{AllByRecursion, range_with_len}
use Rattle.std.proofs.Common.{zero, suc, cond, ap, sym, subst, ◌∙◌, arith}
use Rattle.std.proofs.lemmas.Bool.Decides.{nat_tests}
use Rattle.std.proofs.lemmas.List.{length-set, take_more_set, length-take-le, length-map}
use Rattle.std.proofs.lemmas.Nat.Bits.{bit_at_clear_same, bit_at_clear_other, bit_at_mask_inside, bit_at_mask_below, bit_at_mask_above}
use Rattle.yew_laws.specs.Sets.{contains, are_different, are_within}
use Rattle.yew_laws.specs.Tree.{IsRanked}
use Rattle.yew_laws.proofs.Members.{AllByRecursion-weaker, AllByRecursion-map}
use Rattle.yew_flow.specs.declared.nodes.FlowNode.{FlowNode}
use Rattle.yew_flow.specs.Bits.{bits_of}
use Rattle.yew_flow.specs.CompletionLaws.{machines-agree, row-at, row-front, row-size, done-completed}
use Rattle.yew_flow.specs.Instance.{Instance, IsWithinLimits, time_on}
use Rattle.yew_flow.specs.Lists.{filter-all, filter-passes, filter-agree, filter-every, filter-filter, filter-range, filter-different, filter-contains, length-range, range-all, contains-push, is_other, length-without, sum_by-without, different-push, within-push}
use Rattle.yew_flow.specs.Nodes.{all_jobs, all_machines, absent_from, completed, time_of_all, jobs_of, jobs_in, cleared, root_of, done_on, appended, children_of, rank_of, IsNode}

-- ---- words

bit_test : (b : ℕ) → b ≡ 1 → (b == 1) ≡ true
bit_test b e = grind (arith, nat_tests)

no_bit_test : (b : ℕ) → b ≡ 0 → (b == 1) ≡ false
no_bit_test b e = grind (arith, nat_tests)

-- a word without a bit has the other bits
pub bits_of-cleared : (word place : ℕ) → place < 64 → bits_of (cleared word place) ≡ filter (is_other place) (bits_of word)
unfolding bits_of
bits_of-cleared word place within =
    filter-agree (λ x. bit_at (cleared word place) x == 1) (λ x. (bit_at word x == 1) && is_other place x) (range_with_len 0 64)
    (range-all (λ x. (bit_at (cleared word place) x == 1) ≡ ((bit_at word x == 1) && is_other place x)) 0 64 one)
    ∙ sym (filter-filter (λ x. bit_at word x == 1) (is_other place) (range_with_len 0 64))
  where
    gone : (b x : ℕ) → x ≡ place → b ≡ 0 → (d : Bool) → (b == 1) ≡ (d && is_other place x)
    gone b x e z d = grind (arith, nat_tests)

    kept : (b d x : ℕ) → x ≢ place → b ≡ d → (b == 1) ≡ ((d == 1) && is_other place x)
    kept b d x e z = grind (arith, nat_tests)

    one : (x : ℕ) → 0 ≤ x → x < 0 + 64 → (bit_at (cleared word place) x == 1) ≡ ((bit_at word x == 1) && is_other place x)
    one x low high =
        elim (x == place) as (λ b. (x == place) ≡ b → (bit_at (cleared word place) x == 1) ≡ ((bit_at word x == 1) && is_other place x)) [
          | true ↦ λ e.
              let same : x ≡ place = grind (arith, nat_tests) in
              gone (bit_at (cleared word place) x) x same (ap (bit_at (cleared word place)) same ∙ bit_at_clear_same w64 word place within) (bit_at word x == 1)
          | false ↦ λ e.
              let other : x ≢ place = grind (arith, nat_tests) in
              kept (bit_at (cleared word place) x) (bit_at word x) x other (bit_at_clear_other w64 word place within x (omega arith) other)
        ]
        refl

-- the bits of a mask are a range
bits_of-mask : (low n : ℕ) → low + n ≤ 64 → bits_of (2 ^ (low + n) - 2 ^ low) ≡ range_with_len low n
unfolding bits_of
bits_of-mask low n fits =
    let mask = 2 ^ (low + n) - 2 ^ low in
    let p : ℕ → Bool = λ x. bit_at mask x == 1 in
    let long : 64 ≡ low + (n + (64 - (low + n))) = omega arith in
    let none : 0 + low ≡ low = omega arith in
    ap (λ k. filter p (range_with_len 0 k)) long
    ∙ filter-range p 0 low n (64 - (low + n))
    (λ k l m. no_bit_test (bit_at mask k) (bit_at_mask_below low (low + n) k (omega arith)))
    (λ k l. no_bit_test (bit_at mask k) (bit_at_mask_above low (low + n) k (omega arith)))
    ∙ ap (λ k. filter p (range_with_len k n)) none
    ∙ filter-every p (range_with_len low n) (range-all (λ x. p x ≡ true) low n (λ k l m. bit_test (bit_at mask k) (bit_at_mask_inside low (low + n) k l m)))

filter-map : (p : ℕ → Bool) (f : ℕ → ℕ) (xs : List ℕ) → filter p (map f xs) ≡ map f (filter (λ x. p (f x)) xs)
filter-map p f [] = refl
filter-map p f (x ∷ xs) =
    elim (p (f x)) as (λ b. cond b (f x ∷ filter p (map f xs)) (filter p (map f xs)) ≡ map f (cond b (x ∷ filter (λ y. p (f y)) xs) (filter (λ y. p (f y)) xs))) [
      | true ↦ ap (λ ys. f x ∷ ys) (filter-map p f xs)
      | false ↦ filter-map p f xs
    ]

pub all-of : (P : ℕ → Type 0) (xs : List ℕ) → ((x : ℕ) → P x) → AllByRecursion P xs
all-of P [] h = tt
all-of P (x ∷ xs) h = (h x, all-of P xs h)

-- the jobs of a word without the bit of one
pub jobs_in-cleared : (word job : ℕ) → 1 ≤ job → job ≤ 64 → jobs_in (cleared word (job - 1)) ≡ filter (is_other job) (jobs_in word)
jobs_in-cleared word job low high =
    ap (map (λ place. place + 1)) (bits_of-cleared word (job - 1) (omega (arith, low, high)))
    ∙ ap (map (λ place. place + 1)) (filter-agree (is_other (job - 1)) (λ place. is_other job (place + 1)) (bits_of word) (all-of (λ place. is_other (job - 1) place ≡ is_other job (place + 1)) (bits_of word) same))
    ∙ sym (filter-map (is_other job) (λ place. place + 1) (bits_of word))
  where
    same : (place : ℕ) → is_other (job - 1) place ≡ is_other job (place + 1)
    same place = grind (arith, nat_tests)

map-next-range : (a n : ℕ) → map (λ place. place + 1) (range_with_len a n) ≡ range_with_len (a + 1) n
map-next-range a zero = refl
map-next-range a (suc n) = ap (λ ys. (a + 1) ∷ ys) (map-next-range (a + 1) n)

-- the jobs of a mask are all jobs
jobs_in-mask : (n : ℕ) → n ≤ 64 → jobs_in (2 ^ n - 1) ≡ range_with_len 1 n
jobs_in-mask n few =
    let e : 0 + n ≡ n = omega arith in
    ap (λ k. jobs_in (2 ^ k - 1)) (sym e)
    ∙ ap (map (λ place. place + 1)) (bits_of-mask 0 n (omega (arith, few)))
    ∙ map-next-range 0 n

-- ---- one more job

-- a job that is not in a list
pub record IsFree (instance : Instance) (jobs : List ℕ) (job : ℕ) : Type 0 where
  pub from : 1 ≤ job
  pub to : job ≤ instance.jobs
  pub new : contains jobs job ≡ false

flips : (b : Bool) → not b ≡ true → b ≡ false
flips b e = grind (arith, nat_tests)

flips_back : (b : Bool) → b ≡ false → not b ≡ true
flips_back b e = grind (arith, nat_tests)

module _ (instance : Instance) (jobs : List ℕ) where
  -- each job that is not in the list is free
  pub absent-free : AllByRecursion (IsFree instance jobs) (absent_from instance jobs)
  absent-free =
      join (absent_from instance jobs)
      (filter-all (λ c. (1 ≤ c) × (c ≤ instance.jobs)) (λ job. not (contains jobs job)) (all_jobs instance) (range-all (λ c. (1 ≤ c) × (c ≤ instance.jobs)) 1 instance.jobs (λ k l m. (l, omega (arith, m)))))
      (filter-passes (λ job. not (contains jobs job)) (all_jobs instance))
    where
      join : (ds : List ℕ) → AllByRecursion (λ c. (1 ≤ c) × (c ≤ instance.jobs)) ds → AllByRecursion (λ job. not (contains jobs job) ≡ true) ds → AllByRecursion (IsFree instance jobs) ds
      join [] x y = tt
      join (d ∷ ds) x y = (record { from = x.0.0; to = x.0.1; new = flips (contains jobs d) y.0 }, join ds x.1 y.1)

  pub free-listed : (job : ℕ) → IsFree instance jobs job → contains (absent_from instance jobs) job ≡ true
  free-listed job free =
      let from = free.from in let to = free.to in
      filter-contains (λ c. not (contains jobs c)) 1 instance.jobs job from (omega (arith, to)) (flips_back (contains jobs job) free.new)

  pub absent-different : are_different (absent_from instance jobs) ≡ true
  absent-different = filter-different (λ job. not (contains jobs job)) 1 instance.jobs

  pub absent-push : (job : ℕ) → absent_from instance (jobs ++ job ∷ []) ≡ filter (is_other job) (absent_from instance jobs)
  absent-push job =
      filter-agree (λ c. not (contains (jobs ++ job ∷ []) c)) (λ c. not (contains jobs c) && is_other job c) (all_jobs instance)
      (range-all (λ c. not (contains (jobs ++ job ∷ []) c) ≡ (not (contains jobs c) && is_other job c)) 1 instance.jobs
      (λ c l m. ap not (contains-push jobs job c) ∙ de_morgan (contains jobs c) (job == c)))
      ∙ sym (filter-filter (λ c. not (contains jobs c)) (is_other job) (all_jobs instance))
    where
      de_morgan : (a b : Bool) → not (a || b) ≡ (not a && not b)
      de_morgan true b = refl
      de_morgan false b = refl

  module _ (job : ℕ) (free : IsFree instance jobs job) where
    pub absent-less : length (absent_from instance (jobs ++ job ∷ [])) + 1 ≡ length (absent_from instance jobs)
    absent-less =
        let less = length-without job (absent_from instance jobs) absent-different (free-listed job free) in
        let same = ap length (absent-push job) in
        omega (arith, less, same)

    pub time-less : (machine : ℕ) → time_of_all instance (absent_from instance jobs) machine ≡ time_on instance job machine + time_of_all instance (absent_from instance (jobs ++ job ∷ [])) machine
    time-less machine =
        sum_by-without (λ c. time_on instance c machine) job (absent_from instance jobs) absent-different (free-listed job free)
        ∙ ap (λ cs. time_on instance job machine + time_of_all instance cs machine) (sym (absent-push job))

module _ (instance : Instance) (node : FlowNode) (sound : IsNode instance node) where
  pub length-jobs : length (jobs_of node) ≡ node.placed
  length-jobs =
      let size = sound.size in let count = sound.count in let few = sound.limits.few_jobs in
      length-take-le node.placed node.jobs (omega (arith, size, count, few))

  module _ (job : ℕ) (free : IsFree instance (jobs_of node) job) where
    abbrev longer : FlowNode
    longer = appended instance node job

    abbrev before : List ℕ
    before = jobs_of node

    few_placed : node.placed < length node.jobs
    few_placed =
        let size = sound.size in let count = sound.count in let few = sound.limits.few_jobs in let less = absent-less instance before job free in
        omega (arith, size, count, few, less)

    pub jobs-appended : jobs_of longer ≡ before ++ job ∷ []
    jobs-appended = take_more_set node.jobs node.placed job few_placed

    row_fits : (row : List ℕ) → length row ≡ 32 → instance.machines ≤ length row
    row_fits row e = let few = sound.limits.few_machines in omega (arith, e, few)

    rest-agrees : (machine : ℕ) → machine < instance.machines → slice_index node.rest (suc machine - 1) - time_on instance job (suc machine) ≡ time_of_all instance (absent_from instance (jobs_of longer)) (suc machine)
    rest-agrees machine l =
        let place : suc machine - 1 ≡ machine = omega arith in
        let own : slice_index node.rest (suc machine - 1) ≡ time_of_all instance (absent_from instance before) (suc machine) =
        ap (slice_index node.rest) place ∙ row-at instance node.rest (time_of_all instance (absent_from instance before)) machine sound.rest_are l in
        let less = time-less instance before job free (suc machine) in
        let same = ap (λ xs. time_of_all instance (absent_from instance xs) (suc machine)) jobs-appended in
        omega (arith, own, less, same)

    -- the list with the job is a node
    pub child-sound : IsNode instance longer
    child-sound = record {
      limits = sound.limits;
      size = length-set node.jobs node.placed job ∙ sound.size;
      ends_size = row-size instance node.ends (done_on instance node.ends job) (row_fits node.ends sound.ends_size) ∙ sound.ends_size;
      rest_size = row-size instance node.rest (λ machine. slice_index node.rest (machine - 1) - time_on instance job machine) (row_fits node.rest sound.rest_size) ∙ sound.rest_size;
      count =
          let less = absent-less instance before job free in
          let same = ap (λ xs. length (absent_from instance xs)) jobs-appended in
          let count = sound.count in
          omega (arith, less, same, count);
      within = subst (λ xs. are_within 1 instance.jobs xs ≡ true) (sym jobs-appended) (within-push 1 instance.jobs before job sound.within free.from free.to);
      different = subst (λ xs. are_different xs ≡ true) (sym jobs-appended) (different-push before job sound.different free.new);
      absent_is =
          let to = free.to in let few = sound.limits.few_jobs in
          jobs_in-cleared node.absent job free.from (omega (arith, to, few))
          ∙ ap (filter (is_other job)) sound.absent_is
          ∙ sym (absent-push instance before job)
          ∙ ap (absent_from instance) (sym jobs-appended);
      ends_are =
          row-front instance node.ends (done_on instance node.ends job)
          ∙ machines-agree instance (done_on instance node.ends job) (completed instance (before ++ job ∷ [])) (λ j l. done-completed instance before node.ends job (suc j) sound.ends_are (omega (arith, l)))
          ∙ ap (λ xs. map (completed instance xs) (all_machines instance)) (sym jobs-appended);
      rest_are =
          row-front instance node.rest (λ machine. slice_index node.rest (machine - 1) - time_on instance job machine)
          ∙ machines-agree instance (λ machine. slice_index node.rest (machine - 1) - time_on instance job machine) (time_of_all instance (absent_from instance (jobs_of longer))) rest-agrees;
    }

-- a node that adds a job to another node's list
pub record IsAppended (instance : Instance) (node child : FlowNode) : Type 0 where
  pub job : ℕ
  pub free : IsFree instance (jobs_of node) job
  pub is : child ≡ appended instance node job

module _ (instance : Instance) where
  pub children-appended : (node : FlowNode) → AllByRecursion (IsAppended instance node) (children_of instance node)
  children-appended node =
      AllByRecursion-map (IsAppended instance node) (appended instance node) (absent_from instance (jobs_of node))
      (AllByRecursion-weaker (IsFree instance (jobs_of node)) (λ job. IsAppended instance node (appended instance node job))
      (λ job free. record { job = job; free = free; is = refl })
      (absent_from instance (jobs_of node)) (absent-free instance (jobs_of node)))

  pub appended-sound : (node child : FlowNode) → IsNode instance node → IsAppended instance node child → IsNode instance child
  appended-sound node child sound a = subst (IsNode instance) (sym a.is) (child-sound instance node sound a.job a.free)

  appended-rank : (node child : FlowNode) → IsNode instance node → IsAppended instance node child → rank_of instance child < rank_of instance node
  appended-rank node child sound a =
      let own = sound.count in
      let its = (child-sound instance node sound a.job a.free).count in
      subst (λ c. rank_of instance c < rank_of instance node) (sym a.is) (omega (arith, own, its))

  -- the children of a node are nodes, and of less rank
  pub orders-ranked : IsRanked (IsNode instance) (children_of instance) (rank_of instance)
  orders-ranked = record {
    stays_sound = λ node sound. AllByRecursion-weaker (IsAppended instance node) (IsNode instance) (λ child a. appended-sound node child sound a) (children_of instance node) (children-appended node);
    rank_falls = λ node sound. AllByRecursion-weaker (IsAppended instance node) (λ child. rank_of instance child < rank_of instance node) (λ child a. appended-rank node child sound a) (children_of instance node) (children-appended node);
  }

  pub root_rank-small : IsNode instance (root_of instance) → rank_of instance (root_of instance) ≤ 65535
  root_rank-small sound = let count = sound.count in let few = sound.limits.few_jobs in omega (arith, count, few)

  -- a node has few children
  pub children-few : (node : FlowNode) → IsNode instance node → length (children_of instance node) + 1 < 2 ^ 32
  children-few node sound =
      let count = sound.count in let few = sound.limits.few_jobs in
      let same = length-map (absent_from instance (jobs_of node)) (appended instance node) in
      omega (arith, count, few, same)

  -- at the root all jobs are absent
  pub absent-root : absent_from instance [] ≡ all_jobs instance
  absent-root = filter-every (λ job. not (contains [] job)) (all_jobs instance) (range-all (λ job. not (contains [] job) ≡ true) 1 instance.jobs (λ k l m. refl))

  zeros : (a m k : ℕ) → m ≤ k → take {A = ℕ} m (replicate k 0) ≡ map (λ machine. 0) (range_with_len a m)
  zeros a zero k l = refl
  zeros a (suc m) zero l = absurd (omega (arith, l))
  zeros a (suc m) (suc k) l = ap (λ xs. 0 ∷ xs) (zeros (a + 1) m k (omega (arith, l)))

  -- no job is a node
  pub root-sound : IsWithinLimits instance → IsNode instance (root_of instance)
  root-sound limits =
      let few = limits.few_jobs in
      let few_machines = limits.few_machines in
      record {
        limits = limits;
        size = refl;
        ends_size = refl;
        rest_size = row-size instance (replicate 32 0) (time_of_all instance (all_jobs instance)) few_machines;
        count = let e = ap length absent-root in let n = length-range 1 instance.jobs in omega (arith, e, n);
        within = refl;
        different = refl;
        absent_is = jobs_in-mask instance.jobs few ∙ sym absent-root;
        ends_are = zeros 1 instance.machines 32 few_machines;
        rest_are =
            row-front instance (replicate 32 0) (time_of_all instance (all_jobs instance))
            ∙ ap (λ cs. map (time_of_all instance cs) (all_machines instance)) (sym absent-root);
      }
