-- The children of a node are nodes, of less rank.
use Rattle.std.specs.Prelude.{◌≡◌, ◌≢◌, ℕ, ◌+◌, ◌-◌, ◌<◌, ◌≤◌, ◌^◌, Bool, true, false, not, ◌&&◌, ◌||◌, ◌==◌, List, [], ◌∷◌, ◌++◌, length, take, filter, sum_by, refl}
use Rattle.std.specs.Int.{bit_at, w64}
use Rattle.std.specs.List.{AllByRecursion, range_with_len}
use Rattle.std.proofs.Common.{suc, zero-add, ap, sym, subst, ◌∙◌, arith}
use Rattle.std.proofs.lemmas.Bool.Decides.{nat_tests}
use Rattle.std.proofs.lemmas.List.{length-set, length_push, take_more_set, length-take-le, length-map}
use Rattle.std.proofs.lemmas.List.Sums.{sum_by-cons}
use Rattle.std.proofs.lemmas.Nat.Bits.{bit_at_clear_same, bit_at_clear_other, bit_at_mask_inside, bit_at_mask_below, bit_at_mask_above}
use Rattle.yew_laws.specs.Sets.{contains, are_different, are_within}
use Rattle.yew_laws.specs.Tree.{IsRanked}
use Rattle.yew_laws.proofs.Members.{AllByRecursion-weaker, AllByRecursion-map}
use Rattle.yew_tsp.specs.declared.nodes.TourNode.{TourNode}
use Rattle.yew_tsp.specs.Bits.{bits_of}
use Rattle.yew_tsp.specs.Instance.{Instance, IsWithinLimits, weight_between}
use Rattle.yew_tsp.specs.Lists.{filter-all, filter-passes, filter-agree, filter-every, filter-filter, filter-range, filter-different, filter-contains, length-range, range-all, contains-push, is_other, length-without, sum_by-without, different-push, within-push}
use Rattle.yew_tsp.specs.Nodes.{least_weight, cities_of, unvisited_of, cleared, root_of, appended, children_of, rank_of, lower_of, IsNode}
use Rattle.yew_tsp.specs.Routes.{begins_with_one, way_length}

-- ---- words

bit_test : (b : ℕ) → b ≡ 1 → (b == 1) ≡ true
bit_test b e = grind (arith, nat_tests)

no_bit_test : (b : ℕ) → b ≡ 0 → (b == 1) ≡ false
no_bit_test b e = grind (arith, nat_tests)

-- a word without a bit has the other bits
pub bits_of-cleared : (word city : ℕ) → city < 64 → bits_of (cleared word city) ≡ filter (is_other city) (bits_of word)
unfolding bits_of
bits_of-cleared word city within =
    filter-agree (λ x. bit_at (cleared word city) x == 1) (λ x. (bit_at word x == 1) && is_other city x) (range_with_len 0 64)
    (range-all (λ x. (bit_at (cleared word city) x == 1) ≡ ((bit_at word x == 1) && is_other city x)) 0 64 one)
    ∙ sym (filter-filter (λ x. bit_at word x == 1) (is_other city) (range_with_len 0 64))
  where
    gone : (b x : ℕ) → x ≡ city → b ≡ 0 → (d : Bool) → (b == 1) ≡ (d && is_other city x)
    gone b x e z d = grind (arith, nat_tests)

    kept : (b d x : ℕ) → x ≢ city → b ≡ d → (b == 1) ≡ ((d == 1) && is_other city x)
    kept b d x e z = grind (arith, nat_tests)

    one : (x : ℕ) → 0 ≤ x → x < 0 + 64 → (bit_at (cleared word city) x == 1) ≡ ((bit_at word x == 1) && is_other city x)
    one x low high =
        elim (x == city) as (λ b. (x == city) ≡ b → (bit_at (cleared word city) x == 1) ≡ ((bit_at word x == 1) && is_other city x)) [
          | true ↦ λ e.
              let same : x ≡ city = grind (arith, nat_tests) in
              gone (bit_at (cleared word city) x) x same (ap (bit_at (cleared word city)) same ∙ bit_at_clear_same w64 word city within) (bit_at word x == 1)
          | false ↦ λ e.
              let other : x ≢ city = grind (arith, nat_tests) in
              kept (bit_at (cleared word city) x) (bit_at word x) x other (bit_at_clear_other w64 word city within x (omega arith) other)
        ]
        refl

-- the bits of a mask are a range
pub bits_of-mask : (low n : ℕ) → low + n ≤ 64 → bits_of (2 ^ (low + n) - 2 ^ low) ≡ range_with_len low n
unfolding bits_of
bits_of-mask low n fits =
    let mask = 2 ^ (low + n) - 2 ^ low in
    let p : ℕ → Bool = λ x. bit_at mask x == 1 in
    let long : 64 ≡ low + (n + (64 - (low + n))) = omega arith in
    let none : 0 + low ≡ low = omega arith in
    ap (λ k. filter p (range_with_len 0 k)) long
    ∙ filter-range p 0 low n (64 - (low + n))
    (λ k l m. no_bit_test (bit_at mask k) (bit_at_mask_below low (low + n) k (omega arith)))
    (λ k l. no_bit_test (bit_at mask k) (bit_at_mask_above low (low + n) k (omega arith)))
    ∙ ap (λ k. filter p (range_with_len k n)) none
    ∙ filter-every p (range_with_len low n) (range-all (λ x. p x ≡ true) low n (λ k l m. bit_test (bit_at mask k) (bit_at_mask_inside low (low + n) k l m)))

-- ---- ways

-- one more step
pub way_length-push : (instance : Instance) (cities : List ℕ) (c d : ℕ) → way_length instance ((cities ++ c ∷ []) ++ d ∷ []) ≡ way_length instance (cities ++ c ∷ []) + weight_between instance c d
way_length-push instance [] c d = omega arith
way_length-push instance (x ∷ []) c d = let e = way_length-push instance [] c d in omega (arith, e)
way_length-push instance (x ∷ y ∷ cities) c d = let e = way_length-push instance (y ∷ cities) c d in omega (arith, e)

-- ---- one more city

-- a city that is not in the list
pub record IsFree (instance : Instance) (node : TourNode) (city : ℕ) : Type 0 where
  pub from : 1 ≤ city
  pub to : city ≤ instance.cities
  pub new : contains (cities_of node) city ≡ false

flips : (b : Bool) → not b ≡ true → b ≡ false
flips b e = grind (arith, nat_tests)

flips_back : (b : Bool) → b ≡ false → not b ≡ true
flips_back b e = grind (arith, nat_tests)

module _ (instance : Instance) (node : TourNode) where
  -- each city that is not in the list is free
  pub unvisited-free : AllByRecursion (IsFree instance node) (unvisited_of instance node)
  unvisited-free =
      free (range_with_len 1 instance.cities) (range-all (λ c. (1 ≤ c) × (c ≤ instance.cities)) 1 instance.cities (λ k l m. (l, omega arith)))
    where
      free : (cs : List ℕ) → AllByRecursion (λ c. (1 ≤ c) × (c ≤ instance.cities)) cs → AllByRecursion (IsFree instance node) (filter (λ city. not (contains (cities_of node) city)) cs)
      free cs a =
          join (filter (λ city. not (contains (cities_of node) city)) cs)
          (filter-all (λ c. (1 ≤ c) × (c ≤ instance.cities)) (λ city. not (contains (cities_of node) city)) cs a)
          (filter-passes (λ city. not (contains (cities_of node) city)) cs)
        where
          join : (ds : List ℕ) → AllByRecursion (λ c. (1 ≤ c) × (c ≤ instance.cities)) ds → AllByRecursion (λ city. not (contains (cities_of node) city) ≡ true) ds → AllByRecursion (IsFree instance node) ds
          join [] x y = tt
          join (d ∷ ds) x y = (record { from = x.0.0; to = x.0.1; new = flips (contains (cities_of node) d) y.0 }, join ds x.1 y.1)

  pub free-listed : (city : ℕ) → IsFree instance node city → contains (unvisited_of instance node) city ≡ true
  free-listed city free =
      let from = free.from in let to = free.to in
      filter-contains (λ c. not (contains (cities_of node) c)) 1 instance.cities city from (omega (arith, to)) (flips_back (contains (cities_of node) city) free.new)

  pub unvisited-different : are_different (unvisited_of instance node) ≡ true
  unvisited-different = filter-different (λ city. not (contains (cities_of node) city)) 1 instance.cities

  module _ (sound : IsNode instance node) where
    few_steps : node.steps < length node.cities
    few_steps = let size = sound.size in let count = sound.count in let few = sound.limits.few in omega (arith, size, count, few)

    pub length-cities : length (cities_of node) ≡ node.steps + 1
    length-cities =
        let few = few_steps in
        let long = length-take-le node.steps node.cities (omega (arith, few)) in
        let both = length_push (take node.steps node.cities) node.last in
        omega (arith, long, both)

    module _ (city : ℕ) (free : IsFree instance node city) where
      abbrev longer : TourNode
      longer = appended instance node city

      pub cities-appended : cities_of longer ≡ cities_of node ++ city ∷ []
      cities-appended = ap (λ xs. xs ++ city ∷ []) (take_more_set node.cities node.steps node.last few_steps)

      pub unvisited-appended : unvisited_of instance longer ≡ filter (is_other city) (unvisited_of instance node)
      unvisited-appended =
          let cs = range_with_len 1 instance.cities in
          filter-agree (λ c. not (contains (cities_of longer) c)) (λ c. not (contains (cities_of node) c) && is_other city c) cs
          (range-all (λ c. not (contains (cities_of longer) c) ≡ (not (contains (cities_of node) c) && is_other city c)) 1 instance.cities
          (λ c l m. ap not (ap (λ xs. contains xs c) cities-appended ∙ contains-push (cities_of node) city c) ∙ de_morgan (contains (cities_of node) c) (city == c)))
          ∙ sym (filter-filter (λ c. not (contains (cities_of node) c)) (is_other city) cs)
        where
          de_morgan : (a b : Bool) → not (a || b) ≡ (not a && not b)
          de_morgan true b = refl
          de_morgan false b = refl

      way-appended : way_length instance (cities_of longer) ≡ way_length instance (cities_of node) + weight_between instance node.last city
      way-appended =
          ap (way_length instance) cities-appended ∙ way_length-push instance (take node.steps node.cities) node.last city

      -- what the children's bound is made of
      pub lower-appended : lower_of instance longer + least_weight instance node.last ≡ lower_of instance node + weight_between instance node.last city
      lower-appended =
          let way = way-appended in
          let left = sum_by-without (least_weight instance) city (unvisited_of instance node) unvisited-different (free-listed city free) in
          let own = sum_by-cons (least_weight instance) node.last (unvisited_of instance node) in
          let its = sum_by-cons (least_weight instance) city (unvisited_of instance longer) in
          let rest = ap (sum_by (least_weight instance)) unvisited-appended in
          omega (arith, way, left, own, its, rest)

      begins : (xs : List ℕ) → begins_with_one xs ≡ true → begins_with_one (xs ++ city ∷ []) ≡ true
      begins [] e = absurd (cc)
      begins (x ∷ xs) e = e

      -- the list with the city is a node
      pub child-sound : IsNode instance longer
      child-sound = record {
        limits = sound.limits;
        size = length-set node.cities node.steps node.last ∙ sound.size;
        count =
            let less = length-without city (unvisited_of instance node) unvisited-different (free-listed city free) in
            let same = ap length unvisited-appended in
            let count = sound.count in
            omega (arith, less, same, count);
        begins = subst (λ xs. begins_with_one xs ≡ true) (sym cities-appended) (begins (cities_of node) sound.begins);
        within = subst (λ xs. are_within 1 instance.cities xs ≡ true) (sym cities-appended) (within-push 1 instance.cities (cities_of node) city sound.within free.from free.to);
        different = subst (λ xs. are_different xs ≡ true) (sym cities-appended) (different-push (cities_of node) city sound.different free.new);
        unvisited_is =
            let to = free.to in let few = sound.limits.few in
            bits_of-cleared node.unvisited city (omega (arith, to, few)) ∙ ap (filter (is_other city)) sound.unvisited_is ∙ sym unvisited-appended;
        lower_is =
            let sum = lower-appended in let own = sound.lower_is in omega (arith, sum, own);
      }

-- a node that adds a city to another node's list
pub record IsAppended (instance : Instance) (node child : TourNode) : Type 0 where
  pub city : ℕ
  pub free : IsFree instance node city
  pub is : child ≡ appended instance node city

module _ (instance : Instance) where
  pub children-appended : (node : TourNode) → AllByRecursion (IsAppended instance node) (children_of instance node)
  children-appended node =
      AllByRecursion-map (IsAppended instance node) (appended instance node) (unvisited_of instance node)
      (AllByRecursion-weaker (IsFree instance node) (λ city. IsAppended instance node (appended instance node city))
      (λ city free. record { city = city; free = free; is = refl })
      (unvisited_of instance node) (unvisited-free instance node))

  pub appended-sound : (node child : TourNode) → IsNode instance node → IsAppended instance node child → IsNode instance child
  appended-sound node child sound a = subst (IsNode instance) (sym a.is) (child-sound instance node sound a.city a.free)

  appended-rank : (node child : TourNode) → IsNode instance node → IsAppended instance node child → rank_of instance child < rank_of instance node
  appended-rank node child sound a =
      let own = sound.count in
      let its = (child-sound instance node sound a.city a.free).count in
      subst (λ c. rank_of instance c < rank_of instance node) (sym a.is) (omega (arith, own, its))

  -- the children of a node are nodes, and of less rank
  pub tours-ranked : IsRanked (IsNode instance) (children_of instance) (rank_of instance)
  tours-ranked = record {
    stays_sound = λ node sound. AllByRecursion-weaker (IsAppended instance node) (IsNode instance) (λ child a. appended-sound node child sound a) (children_of instance node) (children-appended node);
    rank_falls = λ node sound. AllByRecursion-weaker (IsAppended instance node) (λ child. rank_of instance child < rank_of instance node) (λ child a. appended-rank node child sound a) (children_of instance node) (children-appended node);
  }

  pub root_rank-small : IsNode instance (root_of instance) → rank_of instance (root_of instance) ≤ 65535
  root_rank-small sound = let count = sound.count in let few = sound.limits.few in omega (arith, count, few)

  -- a node has few children
  pub children-few : (node : TourNode) → IsNode instance node → length (children_of instance node) + 1 < 2 ^ 32
  children-few node sound =
      let count = sound.count in let few = sound.limits.few in
      let same = length-map (unvisited_of instance node) (appended instance node) in
      omega (arith, count, few, same)

  -- at the root all cities but the first are left
  unvisited-root : 1 ≤ instance.cities → unvisited_of instance (root_of instance) ≡ range_with_len 2 (instance.cities - 1)
  unvisited-root some =
      let long : instance.cities ≡ suc (instance.cities - 1) = omega arith in
      ap (λ n. filter (λ city. not (contains (1 ∷ []) city)) (range_with_len 1 n)) long
      ∙ filter-every (λ city. not (contains (1 ∷ []) city)) (range_with_len 2 (instance.cities - 1))
      (range-all (λ city. not (contains (1 ∷ []) city) ≡ true) 2 (instance.cities - 1) (λ k l m. another k l))
    where
      another : (k : ℕ) → 2 ≤ k → not (contains (1 ∷ []) k) ≡ true
      another k l = grind (arith, nat_tests)

  -- city 1 alone is a node
  pub root-sound : IsWithinLimits instance → IsNode instance (root_of instance)
  root-sound limits =
      let several = limits.several in let few = limits.few in
      let left = unvisited-root (omega (arith, several)) in
      record {
        limits = limits;
        size = refl;
        count = let e = ap length left in let n = length-range 2 (instance.cities - 1) in omega (arith, e, n, several);
        begins = refl;
        within = within-push 1 instance.cities [] 1 refl (omega arith) (omega (arith, several));
        different = refl;
        unvisited_is =
            let mask : instance.cities + 1 ≡ 2 + (instance.cities - 1) = omega (arith, several) in
            ap (λ k. bits_of (2 ^ k - 4)) mask ∙ bits_of-mask 2 (instance.cities - 1) (omega (arith, few)) ∙ sym left;
        lower_is =
            let long : instance.cities ≡ suc (instance.cities - 1) = omega (arith, several) in
            let e : sum_by (least_weight instance) (range_with_len 1 instance.cities) ≡ sum_by (least_weight instance) (1 ∷ unvisited_of instance (root_of instance)) =
            ap (λ n. sum_by (least_weight instance) (range_with_len 1 n)) long
            ∙ ap (λ cs. sum_by (least_weight instance) (1 ∷ cs)) (sym left) in
            e ∙ sym (zero-add (sum_by (least_weight instance) (1 ∷ unvisited_of instance (root_of instance))));
      }
