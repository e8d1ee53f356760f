-- Taking in the nearest city each time joins all cities by the least weight (Prim's algorithm is right).
use Rattle.std.specs.Prelude.{◌≡◌, ◌≢◌, ℕ, ◌+◌, ◌≤◌, Bool, true, false, not, ◌&&◌, ◌==◌, List, [], ◌∷◌, ◌++◌, length, map, filter, refl}
use Rattle.std.specs.List.{AllByRecursion}
use Rattle.std.proofs.Common.{zero, suc, cond, ap, sym, subst, ◌∙◌, arith, inl, inr}
use Rattle.std.proofs.lemmas.Bool.{and_parts, cases_eq, true≢false}
use Rattle.std.proofs.lemmas.Bool.Decides.{nat_tests}
use Rattle.std.proofs.lemmas.List.{length-map}
use Rattle.std.proofs.lemmas.List.Filters.{sum_by-filter_both}
use Rattle.std.proofs.lemmas.List.Sums.{sum_by-cons, sum_by-append}
use Rattle.yew_laws.specs.Sets.{contains, are_different}
use Rattle.yew_laws.proofs.Members.{AllByRecursion-append, AllByRecursion-both, AllByRecursion-map, AllByRecursion-weaker}
use Rattle.yew_span.specs.declared.growing.Outside.{Outside}
use Rattle.yew_span.specs.Chains.{joined-agree, joined-self, joined-through, joined-turned, joined-more, joined-first}
use Rattle.yew_span.specs.Exchange.{Agrees, label_of, labels-agree, labels-finest, Exchange, exchange}
use Rattle.yew_span.specs.Growth.{nearest, left_over, grown, beside, span}
use Rattle.yew_span.specs.Span.{IsSymmetric, pair_weight, total_weight, IsJoined, IsWithin, IsSpan}
use Rattle.yew_span.specs.Stages.{outside, nearest-has, nearest-least, outside-there, outside-head, outside-tail, outside-all, left-contains, left-fewer, IsNear, IsStage, one-of, stage-more}
use Rattle.yew_tsp.specs.Instance.{Instance, weight_between}
use Rattle.yew_tsp.specs.Lists.{filter-all, filter-passes, member-all}

-- ---- lists of pairs

all-front : {X : Type 0} (P : X → Type 0) (xs ys : List X) → AllByRecursion P (xs ++ ys) → AllByRecursion P xs
all-front P [] ys a = tt
all-front P (x ∷ xs) ys a = (a.0, all-front P xs ys a.1)

all-back : {X : Type 0} (P : X → Type 0) (xs ys : List X) → AllByRecursion P (xs ++ ys) → AllByRecursion P ys
all-back P [] ys a = a
all-back P (x ∷ xs) ys a = all-back P xs ys a.1

-- what holds of those that pass a test and of those that do not
all-parts : {X : Type 0} (P : X → Type 0) (p : X → Bool) (xs : List X) → AllByRecursion P (filter p xs) → AllByRecursion P (filter (λ x. not (p x)) xs) → AllByRecursion P xs
all-parts P p [] a b = tt
all-parts P p (x ∷ xs) a b =
    elim (p x) as (λ t. AllByRecursion P (cond t (x ∷ filter p xs) (filter p xs)) → AllByRecursion P (cond (not t) (x ∷ filter (λ y. not (p y)) xs) (filter (λ y. not (p y)) xs)) → AllByRecursion P (x ∷ xs)) [
      | true ↦ λ u v. (u.0, all-parts P p xs u.1 v)
      | false ↦ λ u v. (v.0, all-parts P p xs u v.1)
    ]
    a b

-- a pair with one city among these and one that is not
abbrev crosses : List ℕ → (ℕ × ℕ) → Bool
crosses joined pair = cond (contains joined pair.0) (not (contains joined pair.1)) (contains joined pair.1)

-- the cities are among these, or not
abbrev side_of : Bool → ℕ
side_of true = 1
side_of false = 0

abbrev side : List ℕ → ℕ → ℕ
side joined c = side_of (contains joined c)

not_crossing : (a b : Bool) → not (cond a (not b) b) ≡ true → side_of a ≡ side_of b
not_crossing true true e = refl
not_crossing true false e = absurd (true≢false (sym e))
not_crossing false true e = absurd (true≢false (sym e))
not_crossing false false e = refl

flips : (b : Bool) → not b ≡ true → b ≡ false
flips b e = grind (arith, nat_tests)

module _ (instance : Instance) (cities : List ℕ) (symmetric : (a b : ℕ) → contains cities a ≡ true → contains cities b ≡ true → weight_between instance a b ≡ weight_between instance b a) where
  -- labels that agree on the pairs of two lists are the same at all cities
  abbrev Connect : List (ℕ × ℕ) → List (ℕ × ℕ) → Type 0
  Connect pairs chosen = (label : ℕ → ℕ) → Agrees label pairs → Agrees label chosen → (a b : ℕ) → contains cities a ≡ true → contains cities b ≡ true → label a ≡ label b

  -- no crossing pair weighs less than the nearest city does
  crossing-weight : (joined : List ℕ) (first : Outside) (others : List Outside) → IsStage instance cities joined (first ∷ others) → (a b : ℕ) → contains joined a ≡ true → contains joined b ≡ false → contains cities b ≡ true
      → (nearest first others).near ≤ weight_between instance a b
  crossing-weight joined first others stage a b there out inside =
      elim (stage.covers b inside) [
        | inl also ↦ absurd (true≢false (sym also ∙ out))
        | inr beyond ↦
            let found = outside-there (λ o. IsNear instance joined o × ((nearest first others).near ≤ o.near)) (first ∷ others) b beyond
            (AllByRecursion-both (IsNear instance joined) (λ o. (nearest first others).near ≤ o.near) (first ∷ others) stage.near (nearest-least first others)) in
            let near = found.holds.0.least a there in
            let most = found.holds.1 in
            let same = ap (weight_between instance a) found.city_is in
            omega (arith, near, most, same)
      ]

  pair-crossing : (joined : List ℕ) (first : Outside) (others : List Outside) → IsStage instance cities joined (first ∷ others) → (pair : ℕ × ℕ) → IsWithin cities pair → crosses joined pair ≡ true
      → (nearest first others).near ≤ pair_weight instance pair
  pair-crossing joined first others stage pair within cross =
      elim (contains joined pair.0) as (λ t. contains joined pair.0 ≡ t → cond t (not (contains joined pair.1)) (contains joined pair.1) ≡ true → (nearest first others).near ≤ pair_weight instance pair) [
        | true ↦ λ e k. crossing-weight joined first others stage pair.0 pair.1 e (flips (contains joined pair.1) k) within.1
        | false ↦ λ e k.
            let turned = crossing-weight joined first others stage pair.1 pair.0 k e within.0 in
            let same = symmetric pair.0 pair.1 within.0 within.1 in
            omega (arith, turned, same)
      ]
      refl cross

  sides-agree : (joined : List ℕ) (pairs : List (ℕ × ℕ)) → AllByRecursion (λ pair. not (crosses joined pair) ≡ true) pairs → Agrees (side joined) pairs
  sides-agree joined pairs a =
      AllByRecursion-weaker (λ pair. not (crosses joined pair) ≡ true) (λ pair. side joined pair.0 ≡ side joined pair.1)
      (λ pair e. not_crossing (contains joined pair.0) (contains joined pair.1) e) pairs a

  chosen-agree : (joined : List ℕ) (pairs : List (ℕ × ℕ)) → AllByRecursion (IsWithin joined) pairs → Agrees (side joined) pairs
  chosen-agree joined pairs a =
      AllByRecursion-weaker (IsWithin joined) (λ pair. side joined pair.0 ≡ side joined pair.1)
      (λ pair w. ap side_of w.0 ∙ sym (ap side_of w.1)) pairs a

  two_sides : (joined : List ℕ) (a b : ℕ) → contains joined a ≡ true → contains joined b ≡ false → side joined a ≡ side joined b → ⊥
  two_sides joined a b h k e =
      let one : side joined a ≡ 1 = ap side_of h in
      let none : side joined b ≡ 0 = ap side_of k in
      absurd (omega (arith, one, none, e))

  none : (b : Bool) → (b ≡ true → ⊥) → b ≡ false
  none true h = absurd (h refl)
  none false h = refl

  -- what is still to be taken in weighs no more than pairs that connect the cities together with those chosen so far
  pub grown-least : (count : ℕ) (joined : List ℕ) (others : List Outside) (chosen pairs : List (ℕ × ℕ)) → IsStage instance cities joined others → AllByRecursion (IsWithin joined) chosen → AllByRecursion (IsWithin cities) pairs
      → Connect pairs chosen → grown instance count others ≤ total_weight instance pairs
  grown-least zero joined others chosen pairs stage inside within connect = omega arith
  grown-least (suc count) joined [] chosen pairs stage inside within connect = omega arith
  grown-least (suc count) joined (first ∷ others) chosen pairs stage inside within connect =
      let taken = nearest first others in
      let near : IsNear instance joined (nearest first others) = nearest-has (IsNear instance joined) first others stage.near.0 stage.near.1 in
      let there : contains (outside (first ∷ others)) (nearest first others).city ≡ true =
      nearest-has (λ (o : Outside). contains (outside (first ∷ others)) o.city ≡ true) first others (outside-all (first ∷ others)).0 (outside-all (first ∷ others)).1 in
      let from = near.from in
      let crossing = filter (crosses joined) pairs in
      let others_kept = filter (λ pair. not (crosses joined pair)) pairs in
      let kept = others_kept ++ chosen in
      let labels = labels-agree (crossing ++ kept) in
      let own : label_of (crossing ++ kept) from ≡ label_of (crossing ++ kept) (nearest first others).city =
      connect (label_of (crossing ++ kept))
      (all-parts (λ q. label_of (crossing ++ kept) q.0 ≡ label_of (crossing ++ kept) q.1) (crosses joined) pairs
      (all-front (λ q. label_of (crossing ++ kept) q.0 ≡ label_of (crossing ++ kept) q.1) crossing kept labels)
      (all-front (λ q. label_of (crossing ++ kept) q.0 ≡ label_of (crossing ++ kept) q.1) others_kept chosen
      (all-back (λ q. label_of (crossing ++ kept) q.0 ≡ label_of (crossing ++ kept) q.1) crossing kept labels)))
      (all-back (λ q. label_of (crossing ++ kept) q.0 ≡ label_of (crossing ++ kept) q.1) others_kept chosen
      (all-back (λ q. label_of (crossing ++ kept) q.0 ≡ label_of (crossing ++ kept) q.1) crossing kept labels))
      from (nearest first others).city (stage.joined_in from near.from_joined) (stage.others_in (nearest first others).city there) in
      let parted : label_of kept from ≢ label_of kept (nearest first others).city = λ e.
      two_sides joined from (nearest first others).city near.from_joined
      (none (contains joined (nearest first others).city) (λ h. stage.apart (nearest first others).city h there))
      (labels-finest (side joined) kept
      (AllByRecursion-append (λ q. side joined q.0 ≡ side joined q.1) others_kept chosen
      (sides-agree joined others_kept (filter-passes (λ pair. not (crosses joined pair)) pairs))
      (chosen-agree joined chosen inside))
      from (nearest first others).city e) in
      let found : Exchange (λ q. IsWithin cities q × (crosses joined q ≡ true)) (pair_weight instance) crossing kept from (nearest first others).city =
      exchange (λ q. IsWithin cities q × (crosses joined q ≡ true)) (pair_weight instance) crossing kept from (nearest first others).city
      (AllByRecursion-both (IsWithin cities) (λ q. crosses joined q ≡ true) crossing (filter-all (IsWithin cities) (crosses joined) pairs within) (filter-passes (crosses joined) pairs))
      own parted in
      let less = pair-crossing joined first others stage found.out found.out_is.0 found.out_is.1 in
      let more : grown instance count (left_over instance (nearest first others) (first ∷ others)) ≤ total_weight instance (found.rest ++ others_kept) =
      grown-least count ((nearest first others).city ∷ joined) (left_over instance (nearest first others) (first ∷ others)) ((from, (nearest first others).city) ∷ chosen) (found.rest ++ others_kept)
      (stage-more instance cities joined first others stage) (
        (outside-tail (nearest first others).city from (contains joined from) near.from_joined, outside-head (nearest first others).city (nearest first others).city (contains joined (nearest first others).city) refl),
        AllByRecursion-weaker (IsWithin joined) (IsWithin ((nearest first others).city ∷ joined))
            (λ q w. (outside-tail (nearest first others).city q.0 (contains joined q.0) w.0, outside-tail (nearest first others).city q.1 (contains joined q.1) w.1)) chosen inside,
      )
      (AllByRecursion-append (IsWithin cities) found.rest others_kept
      (AllByRecursion-weaker (λ q. IsWithin cities q × (crosses joined q ≡ true)) (IsWithin cities) (λ q w. w.0) found.rest found.rest_are)
      (filter-all (IsWithin cities) (λ pair. not (crosses joined pair)) pairs within))
      (λ label rest with_chosen a b in_a in_b.
      let left = all-back (λ q. label q.0 ≡ label q.1) found.rest others_kept rest in
      connect label
      (all-parts (λ q. label q.0 ≡ label q.1) (crosses joined) pairs
      (found.still label (all-front (λ q. label q.0 ≡ label q.1) found.rest others_kept rest)
      (AllByRecursion-append (λ q. label q.0 ≡ label q.1) others_kept chosen left with_chosen.1) with_chosen.0)
      left)
      with_chosen.1 a b in_a in_b) in
      let whole = sum_by-filter_both (crosses joined) (λ pair. not (crosses joined pair)) (λ _. refl) (pair_weight instance) pairs in
      let joint = sum_by-append (pair_weight instance) found.rest others_kept in
      let sum = found.sum in
      omega (arith, less, more, whole, joint, sum)

-- pairs that join each city outside to a joined one
pub record IsBuilt (instance : Instance) (cities joined : List ℕ) (others : List Outside) (total : ℕ) : Type 0 where
  pub pairs : List (ℕ × ℕ)
  pub within : AllByRecursion (IsWithin cities) pairs
  pub sum : total_weight instance pairs ≡ total
  pub joins : (c : ℕ) → contains (outside others) c ≡ true → (t : ℕ) × (contains joined t ≡ true) × IsJoined pairs c t

module _ (instance : Instance) (cities : List ℕ) where
  nothing-built : (joined : List ℕ) → IsBuilt instance cities joined [] 0
  nothing-built joined = record { pairs = []; within = tt; sum = refl; joins = λ c h. absurd (true≢false (sym h)) }

  differ : (a b : ℕ) → a ≢ b → not (a == b) ≡ true
  differ a b n = grind (arith, nat_tests)

  both : (a b : Bool) → a ≡ true → b ≡ true → (a && b) ≡ true
  both a b e h = grind (arith, nat_tests)

  -- what is taken in is joined by pairs of this weight
  pub grown-built : (count : ℕ) (joined : List ℕ) (others : List Outside) → IsStage instance cities joined others → length others ≤ count → IsBuilt instance cities joined others (grown instance count others)
  grown-built zero joined [] stage l = nothing-built joined
  grown-built zero joined (first ∷ others) stage l = absurd (omega (arith, l))
  grown-built (suc count) joined [] stage l = nothing-built joined
  grown-built (suc count) joined (first ∷ others) stage l =
      let near : IsNear instance joined (nearest first others) = nearest-has (IsNear instance joined) first others stage.near.0 stage.near.1 in
      let there : contains (outside (first ∷ others)) (nearest first others).city ≡ true =
      nearest-has (λ (o : Outside). contains (outside (first ∷ others)) o.city ≡ true) first others (outside-all (first ∷ others)).0 (outside-all (first ∷ others)).1 in
      let fewer = left-fewer instance (nearest first others) (first ∷ others) there in
      let more : IsBuilt instance cities ((nearest first others).city ∷ joined) (left_over instance (nearest first others) (first ∷ others)) (grown instance count (left_over instance (nearest first others) (first ∷ others))) =
      grown-built count ((nearest first others).city ∷ joined) (left_over instance (nearest first others) (first ∷ others)) (stage-more instance cities joined first others stage) (omega (arith, fewer, l)) in
      with_one joined first others near there stage (grown instance count (left_over instance (nearest first others) (first ∷ others))) more
    where
      with_one : (j : List ℕ) (f : Outside) (os : List Outside) (near : IsNear instance j (nearest f os)) → contains (outside (f ∷ os)) (nearest f os).city ≡ true → IsStage instance cities j (f ∷ os) → (total : ℕ)
          → IsBuilt instance cities ((nearest f os).city ∷ j) (left_over instance (nearest f os) (f ∷ os)) total → IsBuilt instance cities j (f ∷ os) ((nearest f os).near + total)
      with_one j f os near there stage total more = record {
        pairs = (near.from, (nearest f os).city) ∷ more.pairs;
        within = ((stage.joined_in near.from near.from_joined, stage.others_in (nearest f os).city there), more.within);
        sum =
            let cons = sum_by-cons (pair_weight instance) (near.from, (nearest f os).city) more.pairs in
            let rest = more.sum in let is = near.is in
            omega (arith, cons, rest, is);
        joins = λ c h.
            elim (cases_eq (nearest f os).city c) [
              | inl same ↦ (near.from, near.from_joined, subst (λ x. IsJoined ((near.from, (nearest f os).city) ∷ more.pairs) x near.from) same home)
              | inr other ↦ onward c (more.joins c (left-contains instance (nearest f os) (f ∷ os) c ∙ both (contains (outside (f ∷ os)) c) (not (c == (nearest f os).city)) h (differ c (nearest f os).city (λ e. other (sym e)))))
            ];
      }
        where
          home : IsJoined ((near.from, (nearest f os).city) ∷ more.pairs) (nearest f os).city near.from
          home = joined-turned ((near.from, (nearest f os).city) ∷ more.pairs) near.from (nearest f os).city (joined-first more.pairs near.from (nearest f os).city)

          onward : (c : ℕ) → (t : ℕ) × (contains ((nearest f os).city ∷ j) t ≡ true) × IsJoined more.pairs c t → (t : ℕ) × (contains j t ≡ true) × IsJoined ((near.from, (nearest f os).city) ∷ more.pairs) c t
          onward c r =
              elim (one-of (nearest f os).city r.0 (contains j r.0) r.1) [
                | inl same ↦ (
                  near.from,
                  near.from_joined,
                  joined-through ((near.from, (nearest f os).city) ∷ more.pairs) c (nearest f os).city near.from
                      (subst (λ x. IsJoined ((near.from, (nearest f os).city) ∷ more.pairs) c x) (sym same) (joined-more (near.from, (nearest f os).city) more.pairs c r.0 r.2)) home,
                )
                | inr there ↦ (r.0, there, joined-more (near.from, (nearest f os).city) more.pairs c r.0 r.2)
              ]

-- ---- the whole set

module _ (instance : Instance) (start : ℕ) (rest : List ℕ) where
  outside-beside : (cs : List ℕ) → outside (map (beside instance start) cs) ≡ cs
  outside-beside [] = refl
  outside-beside (c ∷ cs) = ap (λ xs. c ∷ xs) (outside-beside cs)

  start-near : (city : ℕ) → IsNear instance (start ∷ []) (beside instance start city)
  start-near city = record {
    least = λ c h.
        elim (one-of start c false h) [
          | inl same ↦ let e = ap (λ x. weight_between instance x city) same in omega (arith, e)
          | inr never ↦ absurd (true≢false (sym never))
        ];
    from = start;
    from_joined = outside-head start start false refl;
    is = refl;
  }

  first-stage : contains rest start ≡ false → IsStage instance (start ∷ rest) (start ∷ []) (map (beside instance start) rest)
  first-stage apart = record {
    near = AllByRecursion-map (IsNear instance (start ∷ [])) (beside instance start) rest (every rest);
    covers = λ c h.
        elim (one-of start c (contains rest c) h) [
          | inl same ↦ inl (outside-head start c false same)
          | inr there ↦ inr (ap (λ xs. contains xs c) (outside-beside rest) ∙ there)
        ];
    joined_in = λ c h.
        elim (one-of start c false h) [
          | inl same ↦ outside-head start c (contains rest c) same
          | inr never ↦ absurd (true≢false (sym never))
        ];
    others_in = λ c h. outside-tail start c (contains rest c) (sym (ap (λ xs. contains xs c) (outside-beside rest)) ∙ h);
    apart = λ c h k.
        elim (one-of start c false h) [
          | inl same ↦ true≢false (sym k ∙ ap (λ xs. contains xs c) (outside-beside rest) ∙ ap (contains rest) (sym same) ∙ apart)
          | inr never ↦ absurd (true≢false (sym never))
        ];
  }
    where
      every : (cs : List ℕ) → AllByRecursion (λ c. IsNear instance (start ∷ []) (beside instance start c)) cs
      every [] = tt
      every (c ∷ cs) = (start-near c, every cs)

  -- what taking in the nearest each time weighs is the least weight that joins the cities
  pub span-is : ((a b : ℕ) → contains (start ∷ rest) a ≡ true → contains (start ∷ rest) b ≡ true → weight_between instance a b ≡ weight_between instance b a) → contains rest start ≡ false
      → IsSpan instance (start ∷ rest) (span instance (start ∷ rest))
  span-is symmetric apart =
      let stage = first-stage apart in
      let long = length-map rest (beside instance start) in
      let built : IsBuilt instance (start ∷ rest) (start ∷ []) (map (beside instance start) rest) (grown instance (length rest) (map (beside instance start) rest)) =
      grown-built instance (start ∷ rest) (length rest) (start ∷ []) (map (beside instance start) rest) stage (omega (arith, long)) in
      record {
        one = built.pairs;
        connects = record {
          within = built.within;
          joined = λ a b h k. joined-through built.pairs a start b (home built a h) (joined-turned built.pairs b start (home built b k));
        };
        attains = built.sum;
        others = λ pairs connecting.
            grown-least instance (start ∷ rest) symmetric (length rest) (start ∷ []) (map (beside instance start) rest) [] pairs stage tt connecting.within
            (λ label agrees none a b h k. joined-agree label pairs a b agrees (connecting.joined a b h k));
      }
    where
      home : (built : IsBuilt instance (start ∷ rest) (start ∷ []) (map (beside instance start) rest) (grown instance (length rest) (map (beside instance start) rest))) (c : ℕ) → contains (start ∷ rest) c ≡ true → IsJoined built.pairs c start
      home built c h =
          elim (one-of start c (contains rest c) h) [
            | inl same ↦ subst (λ x. IsJoined built.pairs x start) same (joined-self built.pairs start)
            | inr there ↦
                let r = built.joins c (ap (λ xs. contains xs c) (outside-beside rest) ∙ there) in
                elim (one-of start r.0 false r.1) [
                  | inl also ↦ subst (λ x. IsJoined built.pairs c x) (sym also) r.2
                  | inr never ↦ absurd (true≢false (sym never))
                ]
          ]

-- for different cities of a symmetric instance
pub span-whole : (instance : Instance) → IsSymmetric instance → (cities : List ℕ) → 1 ≤ length cities → are_different cities ≡ true → AllByRecursion (λ k. (1 ≤ k) × (k ≤ instance.cities)) cities
    → IsSpan instance cities (span instance cities)
span-whole instance symmetric [] some different within = absurd (omega (arith, some))
span-whole instance symmetric (start ∷ rest) some different within =
    span-is instance start rest
    (λ a b h k.
    let one = member-all (λ c. (1 ≤ c) × (c ≤ instance.cities)) (start ∷ rest) a within h in
    let two = member-all (λ c. (1 ≤ c) × (c ≤ instance.cities)) (start ∷ rest) b within k in
    symmetric a b one.0 one.1 two.0 two.1)
    (flips (contains rest start) (and_parts (not (contains rest start)) (are_different rest) different).0)

-- there is one least weight
pub span-one : (instance : Instance) (cities : List ℕ) (a b : ℕ) → IsSpan instance cities a → IsSpan instance cities b → a ≡ b
span-one instance cities a b one two =
    let less = one.others two.one two.connects in
    let more = two.others one.one one.connects in
    let its = one.attains in
    let other = two.attains in
    omega (arith, less, more, its, other)
