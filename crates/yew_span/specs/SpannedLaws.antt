-- The bound with the span: no tour at or below a node is worth more.
use Rattle.std.specs.Prelude.{◌≡◌, ◌≢◌, ℕ, ◌+◌, ◌≤◌, Bool, true, false, not, ◌&&◌, ◌||◌, ◌==◌, List, [], ◌∷◌, ◌++◌, length, take, filter, sum_by, if◌then◌else◌, refl}
use Rattle.std.specs.List.{AllByRecursion, range_with_len}
use Rattle.std.proofs.Common.{cond, ap, sym, subst, ◌∙◌, arith, inl, inr, ◌⊎◌}
use Rattle.std.proofs.lemmas.Bool.{cases_eq, true≢false}
use Rattle.std.proofs.lemmas.Bool.Decides.{nat_tests}
use Rattle.std.proofs.lemmas.List.{length-append, nil_from_length}
use Rattle.std.proofs.lemmas.List.Sums.{sum_by-cons}
use Rattle.yew_laws.specs.Sets.{contains, are_different}
use Rattle.yew_laws.specs.Tree.{IsBounded}
use Rattle.yew_laws.proofs.Bounds.{IsBounded-from_steps}
use Rattle.yew_laws.proofs.Members.{AllByRecursion-append, AllByRecursion-weaker}
use Rattle.yew_span.specs.Bounds.{ends, still_to_join, least_rest, spanned_bound}
use Rattle.yew_span.specs.Chains.{joined-through, joined-turned, joined-more, joined-first}
use Rattle.yew_span.specs.Growth.{span}
use Rattle.yew_span.specs.Span.{IsSymmetric, pair_weight, IsJoined, IsWithin, IsConnecting, IsSpan}
use Rattle.yew_span.specs.SpanLaws.{span-whole}
use Rattle.yew_tsp.specs.declared.nodes.TourNode.{TourNode}
use Rattle.yew_tsp.specs.BoundLaws.{least-step, last-listed, last-within, last-other, free-other, step_back, worth-whole, worth-part, tours-bounded}
use Rattle.yew_tsp.specs.Instance.{Instance, weight_between}
use Rattle.yew_tsp.specs.Lists.{contains-append, filter-passes, is_other}
use Rattle.yew_tsp.specs.NodeLaws.{IsFree, unvisited-free, free-listed, unvisited-different, unvisited-appended, way_length-push, cities-appended, lower-appended, child-sound, IsAppended, children-appended, tours-ranked}
use Rattle.yew_tsp.specs.Nodes.{least_weight, cities_of, unvisited_of, appended, children_of, worth_of, IsNode}
use Rattle.yew_tsp.specs.Routes.{begins_with_one, way_length, tour_length}

-- ---- one more city

-- a connecting list with one more pair, to a new city
pub one-more : (cities fewer : List ℕ) (pairs : List (ℕ × ℕ)) (new hub : ℕ) → IsConnecting fewer pairs → contains cities new ≡ true → contains fewer hub ≡ true
    → ((c : ℕ) → contains fewer c ≡ true → contains cities c ≡ true) → ((c : ℕ) → contains cities c ≡ true → (new ≡ c) ⊎ (contains fewer c ≡ true)) → IsConnecting cities ((new, hub) ∷ pairs)
one-more cities fewer pairs new hub connecting has_new has_hub inside outside = record {
  within = (
    (has_new, inside hub has_hub),
    AllByRecursion-weaker (IsWithin fewer) (IsWithin cities) (λ q w. (inside q.0 w.0, inside q.1 w.1)) pairs connecting.within,
  );
  joined = λ a b h k. joined-through ((new, hub) ∷ pairs) a hub b (home a (outside a h)) (joined-turned ((new, hub) ∷ pairs) b hub (home b (outside b k)));
}
  where
    home : (c : ℕ) → (new ≡ c) ⊎ (contains fewer c ≡ true) → IsJoined ((new, hub) ∷ pairs) c hub
    home c (inl same) = subst (λ x. IsJoined ((new, hub) ∷ pairs) x hub) same (joined-first pairs new hub)
    home c (inr there) = joined-more (new, hub) pairs c hub (connecting.joined c hub there has_hub)

-- ---- what is still to be joined

or_cases : (b d : Bool) → (b || d) ≡ true → (b ≡ true) ⊎ (d ≡ true)
or_cases true d e = inl refl
or_cases false d e = inr e

or_left : (b d : Bool) → b ≡ true → (b || d) ≡ true
or_left b d e = grind (arith, nat_tests)

or_right : (b d : Bool) → d ≡ true → (b || d) ≡ true
or_right b d e = grind (arith, nat_tests)

ends-last : (last : ℕ) → contains (ends last) last ≡ true
ends-last last =
    elim (last == 1) as (λ b. (last == 1) ≡ b → contains (if b then 1 ∷ [] else last ∷ 1 ∷ []) last ≡ true) [
      | true ↦ λ e. one last e
      | false ↦ λ e. other last
    ]
    refl
  where
    one : (x : ℕ) → (x == 1) ≡ true → (1 == x || false) ≡ true
    one x e = grind (arith, nat_tests)

    other : (x : ℕ) → (x == x || (1 == x || false)) ≡ true
    other x = grind (arith, nat_tests)

ends-one : (last : ℕ) → contains (ends last) 1 ≡ true
ends-one last =
    elim (last == 1) as (λ b. contains (if b then 1 ∷ [] else last ∷ 1 ∷ []) 1 ≡ true) [
      | true ↦ refl
      | false ↦ other last
    ]
  where
    other : (x : ℕ) → (x == 1 || true) ≡ true
    other x = grind (arith, nat_tests)

ends-only : (last c : ℕ) → contains (ends last) c ≡ true → (last ≡ c) ⊎ (1 ≡ c)
ends-only last c =
    elim (last == 1) as (λ b. contains (if b then 1 ∷ [] else last ∷ 1 ∷ []) c ≡ true → (last ≡ c) ⊎ (1 ≡ c)) [
      | true ↦ λ h. inr (one c h)
      | false ↦ λ h.
          elim (cases_eq last c) [
            | inl same ↦ inl same
            | inr apart ↦ inr (two last c apart h)
          ]
    ]
  where
    one : (x : ℕ) → (1 == x || false) ≡ true → 1 ≡ x
    one x e = grind (arith, nat_tests)

    two : (y x : ℕ) → y ≢ x → (y == x || (1 == x || false)) ≡ true → 1 ≡ x
    two y x n e = grind (arith, nat_tests)

ends-some : (last : ℕ) → 1 ≤ length (ends last)
ends-some last = elim (last == 1) as (λ b. 1 ≤ length (if b then 1 ∷ [] else last ∷ 1 ∷ [])) [ true ↦ omega arith | false ↦ omega arith ]

pub ends-few : (last : ℕ) → length (ends last) ≤ 2
ends-few last = elim (last == 1) as (λ b. length (if b then 1 ∷ [] else last ∷ 1 ∷ []) ≤ 2) [ true ↦ omega arith | false ↦ omega arith ]

-- the ends and cities among which they are not are all different
ends-different : (last : ℕ) (cs : List ℕ) → contains cs last ≡ false → contains cs 1 ≡ false → are_different cs ≡ true → are_different (ends last ++ cs) ≡ true
ends-different last cs h k d =
    elim (last == 1) as (λ b. (last == 1) ≡ b → are_different ((if b then 1 ∷ [] else last ∷ 1 ∷ []) ++ cs) ≡ true) [
      | true ↦ λ e. one (contains cs 1) (are_different cs) k d
      | false ↦ λ e. two last (contains cs last) (contains cs 1) (are_different cs) e h k d
    ]
    refl
  where
    one : (b f : Bool) → b ≡ false → f ≡ true → (not b && f) ≡ true
    one b f x y = grind (arith, nat_tests)

    two : (l : ℕ) (a b f : Bool) → (l == 1) ≡ false → a ≡ false → b ≡ false → f ≡ true → (not (1 == l || a) && (not b && f)) ≡ true
    two l a b f e x y z = grind (arith, nat_tests)

module _ (instance : Instance) (node : TourNode) where
  pub join-last : contains (still_to_join instance node) node.last ≡ true
  join-last = contains-append (ends node.last) (unvisited_of instance node) node.last ∙ or_left (contains (ends node.last) node.last) (contains (unvisited_of instance node) node.last) (ends-last node.last)

  pub join-one : contains (still_to_join instance node) 1 ≡ true
  join-one = contains-append (ends node.last) (unvisited_of instance node) 1 ∙ or_left (contains (ends node.last) 1) (contains (unvisited_of instance node) 1) (ends-one node.last)

  pub join-unvisited : (c : ℕ) → contains (unvisited_of instance node) c ≡ true → contains (still_to_join instance node) c ≡ true
  join-unvisited c h = contains-append (ends node.last) (unvisited_of instance node) c ∙ or_right (contains (ends node.last) c) (contains (unvisited_of instance node) c) h

  pub join-only : (c : ℕ) → contains (still_to_join instance node) c ≡ true → (node.last ≡ c) ⊎ ((1 ≡ c) ⊎ (contains (unvisited_of instance node) c ≡ true))
  join-only c h =
      elim (or_cases (contains (ends node.last) c) (contains (unvisited_of instance node) c) (sym (contains-append (ends node.last) (unvisited_of instance node) c) ∙ h)) [
        | inl front ↦
            elim (ends-only node.last c front) [
              | inl same ↦ inl same
              | inr one ↦ inr (inl one)
            ]
        | inr back ↦ inr (inr back)
      ]

  -- what is in the list is not among the others
  listed-visited : (c : ℕ) → contains (cities_of node) c ≡ true → contains (unvisited_of instance node) c ≡ false
  listed-visited c h = lacks (unvisited_of instance node) (filter-passes (λ city. not (contains (cities_of node) city)) (range_with_len 1 instance.cities))
    where
      lacks : (xs : List ℕ) → AllByRecursion (λ x. not (contains (cities_of node) x) ≡ true) xs → contains xs c ≡ false
      lacks [] a = refl
      lacks (x ∷ xs) a =
          elim (cases_eq x c) [
            | inl same ↦ absurd (clash (contains (cities_of node) x) a.0 (ap (contains (cities_of node)) same ∙ h))
            | inr other ↦ apart x (contains xs c) other (lacks xs a.1)
          ]
        where
          clash : (b : Bool) → not b ≡ true → b ≡ true → ⊥
          clash b e k = grind (arith, nat_tests)

          apart : (y : ℕ) (b : Bool) → y ≢ c → b ≡ false → (y == c || b) ≡ false
          apart y b n e = grind (arith, nat_tests)

  pub join-some : 1 ≤ length (still_to_join instance node)
  join-some = let both = length-append (ends node.last) (unvisited_of instance node) in let some = ends-some node.last in omega (arith, both, some)

  pub join-length : length (still_to_join instance node) ≤ length (unvisited_of instance node) + 2
  join-length = let both = length-append (ends node.last) (unvisited_of instance node) in let few = ends-few node.last in omega (arith, both, few)

  module _ (sound : IsNode instance node) where
    one-listed : contains (cities_of node) 1 ≡ true
    one-listed = begins (cities_of node) sound.begins
      where
        begins : (cs : List ℕ) → begins_with_one cs ≡ true → contains cs 1 ≡ true
        begins [] h = absurd (true≢false (sym h))
        begins (c ∷ cs) h = ap (λ b. b || contains cs 1) h

    pub join-different : are_different (still_to_join instance node) ≡ true
    join-different =
        ends-different node.last (unvisited_of instance node)
        (listed-visited node.last (last-listed instance node sound)) (listed-visited 1 one-listed) (unvisited-different instance node)

    pub join-within : AllByRecursion (λ k. (1 ≤ k) × (k ≤ instance.cities)) (still_to_join instance node)
    join-within =
        AllByRecursion-append (λ k. (1 ≤ k) × (k ≤ instance.cities)) (ends node.last) (unvisited_of instance node) front
        (AllByRecursion-weaker (IsFree instance node) (λ k. (1 ≤ k) × (k ≤ instance.cities)) (λ k free. (free.from, free.to)) (unvisited_of instance node) (unvisited-free instance node))
      where
        front : AllByRecursion (λ k. (1 ≤ k) × (k ≤ instance.cities)) (ends node.last)
        front =
            let several = sound.limits.several in
            let one : (1 ≤ 1) × (1 ≤ instance.cities) = (omega arith, omega (arith, several)) in
            elim (node.last == 1) as (λ b. AllByRecursion (λ k. (1 ≤ k) × (k ≤ instance.cities)) (if b then 1 ∷ [] else node.last ∷ 1 ∷ [])) [
              | true ↦ (one, tt)
              | false ↦ (last-within instance node sound, (one, tt))
            ]

    module _ (symmetric : IsSymmetric instance) where
      -- the span is the least weight that joins what is still to be joined
      pub join-span : IsSpan instance (still_to_join instance node) (span instance (still_to_join instance node))
      join-span = span-whole instance symmetric (still_to_join instance node) join-some join-different join-within

-- ---- children

module _ (instance : Instance) (symmetric : IsSymmetric instance) (node : TourNode) (sound : IsNode instance node) where
  module _ (city : ℕ) (free : IsFree instance node city) where
    child-only : (c : ℕ) → contains (still_to_join instance (appended instance node city)) c ≡ true → (city ≡ c) ⊎ ((1 ≡ c) ⊎ (contains (unvisited_of instance node) c ≡ true))
    child-only c h =
        elim (join-only instance (appended instance node city) c h) [
          | inl same ↦ inl same
          | inr (inl one) ↦ inr (inl one)
          | inr (inr there) ↦ inr (inr (kept (unvisited_of instance node) (sym (ap (λ xs. contains xs c) (unvisited-appended instance node sound city free)) ∙ there)))
        ]
      where
        kept : (xs : List ℕ) → contains (filter (is_other city) xs) c ≡ true → contains xs c ≡ true
        kept [] k = k
        kept (x ∷ xs) k =
            elim (is_other city x) as (λ b. contains (cond b (x ∷ filter (is_other city) xs) (filter (is_other city) xs)) c ≡ true → (x == c || contains xs c) ≡ true) [
              | true ↦ λ h.
                  elim (or_cases (x == c) (contains (filter (is_other city) xs) c) h) [
                    | inl here ↦ or_left (x == c) (contains xs c) here
                    | inr there ↦ or_right (x == c) (contains xs c) (kept xs there)
                  ]
              | false ↦ λ h. or_right (x == c) (contains xs c) (kept xs h)
            ]
            k

    parent-only : (c : ℕ) → contains (still_to_join instance node) c ≡ true → (node.last ≡ c) ⊎ (contains (still_to_join instance (appended instance node city)) c ≡ true)
    parent-only c h =
        elim (join-only instance node c h) [
          | inl same ↦ inl same
          | inr (inl one) ↦ inr (subst (λ x. contains (still_to_join instance (appended instance node city)) x ≡ true) one (join-one instance (appended instance node city)))
          | inr (inr there) ↦
              elim (cases_eq city c) [
                | inl same ↦ inr (subst (λ x. contains (still_to_join instance (appended instance node city)) x ≡ true) same (join-last instance (appended instance node city)))
                | inr other ↦
                    inr (join-unvisited instance (appended instance node city) c
                    (ap (λ xs. contains xs c) (unvisited-appended instance node sound city free) ∙ stays (unvisited_of instance node) other there))
              ]
        ]
      where
        stays : (xs : List ℕ) → city ≢ c → contains xs c ≡ true → contains (filter (is_other city) xs) c ≡ true
        stays [] n k = k
        stays (x ∷ xs) n k =
            elim (city == x) as (λ b. (city == x) ≡ b → contains (cond (not b) (x ∷ filter (is_other city) xs) (filter (is_other city) xs)) c ≡ true) [
              | true ↦ λ e. stays xs n (skips x (contains xs c) n e k)
              | false ↦ λ e.
                  elim (or_cases (x == c) (contains xs c) k) [
                    | inl here ↦ or_left (x == c) (contains (filter (is_other city) xs) c) here
                    | inr there ↦ or_right (x == c) (contains (filter (is_other city) xs) c) (stays xs n there)
                  ]
            ]
            refl
          where
            skips : (y : ℕ) (b : Bool) → city ≢ c → (city == y) ≡ true → (y == c || b) ≡ true → b ≡ true
            skips y b m e h = grind (arith, nat_tests)

    -- the step to the city and the child's span join all
    pub span-falls : span instance (still_to_join instance node) ≤ weight_between instance node.last city + span instance (still_to_join instance (appended instance node city))
    span-falls =
        let own = join-span instance node sound symmetric in
        let its = join-span instance (appended instance node city) (child-sound instance node sound city free) symmetric in
        let joined = one-more (still_to_join instance node) (still_to_join instance (appended instance node city)) its.one node.last city its.connects (join-last instance node) (join-last instance (appended instance node city))
        (λ c h.
        elim (child-only c h) [
          | inl same ↦ subst (λ x. contains (still_to_join instance node) x ≡ true) same (join-unvisited instance node city (free-listed instance node city free))
          | inr (inl one) ↦ subst (λ x. contains (still_to_join instance node) x ≡ true) one (join-one instance node)
          | inr (inr there) ↦ join-unvisited instance node c there
        ])
        parent-only in
        let least = own.others ((node.last, city) ∷ its.one) joined in
        let cons = sum_by-cons (pair_weight instance) (node.last, city) its.one in
        let is = its.attains in
        omega (arith, least, cons, is)

    bound-step : spanned_bound true instance (appended instance node city) ≤ spanned_bound true instance node
    bound-step =
        let falls = span-falls in
        let way : way_length instance (cities_of (appended instance node city)) ≡ way_length instance (cities_of node) + weight_between instance node.last city =
        ap (way_length instance) (cities-appended instance node sound city free) ∙ way_length-push instance (take node.steps node.cities) node.last city in
        let lower = lower-appended instance node sound city free in
        let from = free.from in let to = free.to in
        let least = least-step instance node.last city from to (free-other instance node sound city free) in
        omega (arith, falls, way, lower, least)

  -- the span of a list of all cities is the step back
  span-whole-list : node.steps + 1 ≡ instance.cities → span instance (still_to_join instance node) ≡ weight_between instance node.last 1 + 0
  span-whole-list all =
      let several = sound.limits.several in
      let none = nil_from_length (unvisited_of instance node) (let count = sound.count in omega (arith, count, all)) in
      ap (λ cs. span instance (ends node.last ++ cs)) none ∙ ap (λ b. span instance ((if b then 1 ∷ [] else node.last ∷ 1 ∷ []) ++ [])) (differ node.last (last-other instance node sound (omega (arith, several, all))))
    where
      differ : (x : ℕ) → 1 ≢ x → (x == 1) ≡ false
      differ x n = grind (arith, nat_tests)

  own-bounded : worth_of instance node ≤ spanned_bound true instance node
  own-bounded =
      elim (cases_eq (node.steps + 1) instance.cities) [
        | inl all ↦
            let worth = worth-whole instance node sound all in
            let tour : tour_length instance (cities_of node) ≡ way_length instance (cities_of node) + weight_between instance node.last 1 = way_length-push instance (take node.steps node.cities) node.last 1 in
            let back = step_back instance node sound all in
            let joined = span-whole-list all in
            let none = nil_from_length (unvisited_of instance node) (let count = sound.count in omega (arith, count, all)) in
            let rest : least_rest instance node ≡ sum_by (least_weight instance) (node.last ∷ []) = ap (λ cs. sum_by (least_weight instance) (node.last ∷ cs)) none in
            let one = sum_by-cons (least_weight instance) node.last [] in
            omega (arith, worth, tour, back, joined, rest, one)
        | inr part ↦ let worth = worth-part instance node sound part in omega (arith, worth)
      ]

  bound-falls : AllByRecursion (λ c. spanned_bound true instance c ≤ spanned_bound true instance node) (children_of instance node)
  bound-falls =
      AllByRecursion-weaker (IsAppended instance node) (λ c. spanned_bound true instance c ≤ spanned_bound true instance node)
      (λ c a. subst (λ d. spanned_bound true instance d ≤ spanned_bound true instance node) (sym a.is) (bound-step a.city a.free))
      (children_of instance node) (children-appended instance node)

-- no list at or below a node is worth more than the bound, and every bound is below 2 ^ 40
pub spanned-bounded : (symmetric : Bool) (instance : Instance) → (symmetric ≡ true → IsSymmetric instance) → IsBounded (IsNode instance) (children_of instance) (worth_of instance) (spanned_bound symmetric instance)
spanned-bounded true instance is = IsBounded-from_steps (tours-ranked instance) (own-bounded instance (is refl)) (bound-falls instance (is refl)) (λ node sound. omega arith)
spanned-bounded false instance is = tours-bounded instance
