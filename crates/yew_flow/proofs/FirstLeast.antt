-- The first of the absent jobs by their times on the later machines has the least.
use Rattle.std.proofs.Common.{◌≡◌, ℕ, zero, suc, ◌+◌, ◌-◌, ◌*◌, ◌%◌, ◌<◌, ◌≤◌, Bool, true, false, ◌||◌, ◌==◌, List, [], ◌∷◌, length, map, Some, None, slice_index, refl, ap, sym, ◌∙◌, arith, inl, inr}
use Rattle.std.specs.Int.{bit_at}
use Rattle.std.specs.List.{AllByRecursion, find, range_with_len}
use Rattle.std.proofs.lemmas.Bool.{cases_eq, true≢false}
use Rattle.std.proofs.lemmas.Bool.Decides.{nat_tests}
use Rattle.std.proofs.lemmas.List.FromFn.{get_or-map-range_with_len}
use Rattle.yew_laws.specs.Sets.{contains}
use Rattle.yew_laws.proofs.Members.{AllByRecursion-map, AllByRecursion-both, AllByRecursion-weaker}
use Rattle.yew_flow.specs.Bits.{bits_of}
use Rattle.yew_flow.specs.BoundLaws.{least-all, least_with-above}
use Rattle.yew_flow.specs.Instance.{Instance, IsWithinLimits}
use Rattle.yew_flow.specs.Lists.{filter-passes, filter-contains, length-range, range-all, member-all}
use Rattle.yew_flow.specs.Nodes.{later_time, later_entry, later_table, later_in, places_by, places_table, least_of, jobs_in}
use Rattle.yew_flow.proofs.LaterTable.{later-step}
use Rattle.yew_flow.proofs.RankedPlaces.{contains-all_put_in, length-all_put_in, all_put_in-all, all_put_in-rises, find-least, find-passes, find-all, find-none, rows-length}

-- the bit of a place is set
abbrev pub is_absent : ℕ → ℕ → Bool
is_absent absent place = bit_at absent (place % 64) == 1

range-contains : (a n x : ℕ) → a ≤ x → x < a + n → contains (range_with_len a n) x ≡ true
range-contains a zero x l m = absurd (omega (arith, l, m))
range-contains a (suc n) x l m =
    elim (cases_eq a x) [
      | inl same ↦ front (a == x) (contains (range_with_len (a + 1) n) x) (equal a x same)
      | inr other ↦ behind (a == x) (contains (range_with_len (a + 1) n) x) (range-contains (a + 1) n x (omega (arith, l, other)) (omega (arith, m)))
    ]
  where
    equal : (b y : ℕ) → b ≡ y → (b == y) ≡ true
    equal b y e = grind (arith, nat_tests)

    front : (b d : Bool) → b ≡ true → (b || d) ≡ true
    front true d e = refl
    front false d e = absurd (true≢false (sym e))

    behind : (b d : Bool) → d ≡ true → (b || d) ≡ true
    behind true d e = refl
    behind false d e = e

-- the bits that are set
bits-set : (word : ℕ) → AllByRecursion (λ q. (bit_at word q == 1) ≡ true) (bits_of word)
unfolding bits_of
bits-set word = filter-passes (λ x. bit_at word x == 1) (range_with_len 0 64)

bits-have : (word q : ℕ) → q < 64 → (bit_at word q == 1) ≡ true → contains (bits_of word) q ≡ true
unfolding bits_of
bits-have word q l e = filter-contains (λ x. bit_at word x == 1) 0 64 q (omega arith) (omega (arith, l)) e

map-contains : (q : ℕ) (qs : List ℕ) → contains qs q ≡ true → contains (map (λ place. place + 1) qs) (q + 1) ≡ true
map-contains q [] h = h
map-contains q (x ∷ qs) h = step (x == q) (x + 1 == q + 1) (contains qs q) (contains (map (λ place. place + 1) qs) (q + 1)) (same x) (map-contains q qs) h
  where
    same : (y : ℕ) → (y + 1 == q + 1) ≡ (y == q)
    same y = grind (arith, nat_tests)

    step : (a b c d : Bool) → b ≡ a → (c ≡ true → d ≡ true) → (a || c) ≡ true → (b || d) ≡ true
    step true b c d e rest k = ap (λ z. z || d) e
    step false b c d e rest k = ap (λ z. z || d) e ∙ rest k

unmapped : (P : ℕ → Type 0) (qs : List ℕ) → AllByRecursion P (map (λ place. place + 1) qs) → AllByRecursion (λ q. P (q + 1)) qs
unmapped P [] a = tt
unmapped P (q ∷ qs) a = (a.0, unmapped P qs a.1)

least_of-above : (f : ℕ → ℕ) (b y : ℕ) (xs : List ℕ) → contains xs y ≡ true → AllByRecursion (λ x. b ≤ f x) xs → b ≤ least_of (map f xs)
least_of-above f b y [] h a = absurd (true≢false (sym h))
least_of-above f b y (x ∷ xs) h a = least_with-above f b (f x) xs a.0 a.1

module _ (instance : Instance) (limits : IsWithinLimits instance) (machine : ℕ) (some : 1 ≤ machine) (few : machine ≤ instance.machines) where
  abbrev value : ℕ → ℕ
  value = later_in (later_table instance) machine

  abbrev row : List ℕ
  row = places_by (later_table instance) instance.jobs machine

  small : (place : ℕ) → place < instance.jobs → place % 64 ≡ place
  small place l = let most = limits.few_jobs in omega (arith, l, most)

  value-is : (place : ℕ) → place < instance.jobs → value place ≡ later_time instance machine (place + 1)
  value-is place l =
      let most = limits.few_jobs in
      let at = (machine - 1) * 64 + place in
      let within : at < 64 * instance.machines = omega (arith, few, some, l, most) in
      let own : 0 + at ≡ at = omega arith in
      let number : place ≡ place + 1 - 1 = omega arith in
      ap (λ p. slice_index (later_table instance) ((machine - 1) * 64 + p)) (small place l)
      ∙ get_or-map-range_with_len (later_entry instance) 0 (64 * instance.machines) at at 0 within own
      ∙ ap (λ p. later_entry instance ((machine - 1) * 64 + p)) number
      ∙ later-step instance machine (place + 1) some (omega arith) (omega (arith, l)) most

  row-within : AllByRecursion (λ q. q < instance.jobs) row
  row-within = all_put_in-all value (λ q. q < instance.jobs) [] (range_with_len 0 instance.jobs) tt (range-all (λ q. q < instance.jobs) 0 instance.jobs (λ q l m. omega (arith, m)))

  row-has : (q : ℕ) → q < instance.jobs → contains row q ≡ true
  row-has q l = contains-all_put_in value [] (range_with_len 0 instance.jobs) q (range-contains 0 instance.jobs q (omega arith) (omega (arith, l)))

  module _ (absent : ℕ) (within : AllByRecursion (λ job. (1 ≤ job) × (job ≤ instance.jobs)) (jobs_in absent)) where
    record IsSet (q : ℕ) : Type 0 where
      below : q < instance.jobs
      set : is_absent absent q ≡ true

    sets : AllByRecursion IsSet (bits_of absent)
    sets =
        AllByRecursion-weaker (λ q. ((bit_at absent q == 1) ≡ true) × ((1 ≤ q + 1) × (q + 1 ≤ instance.jobs))) IsSet
        (λ q h.
        let fits = h.1.1 in
        let below : q < instance.jobs = omega (arith, fits) in
        record { below = below; set = ap (λ k. bit_at absent k == 1) (small q below) ∙ h.0 })
        (bits_of absent)
        (AllByRecursion-both (λ q. (bit_at absent q == 1) ≡ true) (λ q. (1 ≤ q + 1) × (q + 1 ≤ instance.jobs)) (bits_of absent) (bits-set absent)
        (unmapped (λ job. (1 ≤ job) × (job ≤ instance.jobs)) (bits_of absent) within))

    pub found-least : (x : ℕ) → find (is_absent absent) row ≡ Some x → value x ≡ least_of (map (later_time instance machine) (jobs_in absent))
    found-least x e =
        let f = later_time instance machine in
        let most = limits.few_jobs in
        let below = find-all (λ q. q < instance.jobs) (is_absent absent) row x e row-within in
        let set : (bit_at absent x == 1) ≡ true = ap (λ k. bit_at absent k == 1) (sym (small x below)) ∙ find-passes (is_absent absent) row x e in
        let listed = map-contains x (bits_of absent) (bits-have absent x (omega (arith, below, most)) set) in
        let own = value-is x below in
        let at_most = member-all (λ job. least_of (map f (jobs_in absent)) ≤ f job) (jobs_in absent) (x + 1) (least-all f (jobs_in absent)) listed in
        let each : AllByRecursion (λ job. value x ≤ f job) (jobs_in absent) =
        AllByRecursion-map (λ job. value x ≤ f job) (λ place. place + 1) (bits_of absent)
        (AllByRecursion-weaker IsSet (λ q. value x ≤ f (q + 1))
        (λ q h.
        let l = find-least value (is_absent absent) row x q e (all_put_in-rises value [] (range_with_len 0 instance.jobs) tt) h.set (row-has q h.below) in
        let its = value-is q h.below in
        omega (arith, l, its))
        (bits_of absent) sets) in
        let at_least = least_of-above f (value x) (x + 1) (jobs_in absent) listed each in
        omega (arith, own, at_most, at_least)

    pub found-none : find (is_absent absent) row ≡ None → 0 ≡ least_of (map (later_time instance machine) (jobs_in absent))
    found-none e = ap (λ qs. least_of (map (later_time instance machine) (map (λ place. place + 1) qs))) (sym (nothing (bits_of absent) sets))
      where
        nothing : (qs : List ℕ) → AllByRecursion IsSet qs → qs ≡ []
        nothing [] a = refl
        nothing (q ∷ qs) a = absurd (true≢false (sym a.0.set ∙ find-none (is_absent absent) row q e (row-has q a.0.below)))

-- ---- the table

pub length-places : (later : List ℕ) (jobs machine : ℕ) → length (places_by later jobs machine) ≡ jobs
length-places later jobs machine =
    let all = length-all_put_in (later_in later machine) [] (range_with_len 0 jobs) in
    let long = length-range 0 jobs in
    omega (arith, all, long)

pub length-table : (instance : Instance) → length (places_table instance) ≡ instance.machines * instance.jobs
length-table instance = rows-length (places_by (later_table instance) instance.jobs) instance.jobs (length-places (later_table instance) instance.jobs) 1 instance.machines
