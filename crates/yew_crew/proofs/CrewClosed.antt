-- What all workers did, and what the caller walked of what they left, closes: the whole tree is placed, and the root is none of what was left.
use Rattle.std.proofs.Common.{◌≡◌, ℕ, ◌<◌, ◌≤◌, ◌⊎◌, ◌==◌, Bool, true, false, cond, Option, Some, None, List, [], ◌∷◌, ◌++◌, ◌∙◌, refl, sym, ap, subst, arith, inl, inr, ⊎_elim, append-nil}
use Rattle.std.specs.List.{AllByRecursion, Contains, flat_map}
use Rattle.std.proofs.lemmas.List.Sums.{sum_by-append, sum_by-cons}
use Rattle.yew_laws.specs.Bag.{SameBag}
use Rattle.yew_laws.specs.Order.{only, occurs, is_path}
use Rattle.yew_laws.specs.SearchTree.{SearchTree, at_path, bound_at, below, numbered}
use Rattle.yew_laws.specs.Tree.{IsRanked, IsBounded}
use Rattle.yew_laws.proofs.Bags.{same-is, same-trans, same-cons, same-part, only-itself}
use Rattle.yew_laws.proofs.Below.{below-unfolds}
use Rattle.yew_laws.proofs.Once.{cover-once}
use Rattle.std.specs.Option.{option_map}
use Rattle.std.proofs.lemmas.Option.{none-some}
use Rattle.yew_laws.proofs.PathTests.{nat_same, nat-is, is_path-same, is_path-is}
use Rattle.yew_laws.proofs.Weights.{part-all, contains-has_weight, contains-weighs}
use Rattle.yew_log.specs.Notes.{Judgement, paths}
use Rattle.yew_crew.specs.Groups.{Group, taken, together, IsBalanced, IsClosed}
use Rattle.yew_crew.proofs.GroupLaws.{group-covers}
use Rattle.yew_walk.proofs.NearBest.{at_path-sound}

-- the middle one of three lists may stand last
pub swap-last : {X : Type 0} (xs ys zs : List X) → SameBag ((xs ++ ys) ++ zs) ((xs ++ zs) ++ ys)
swap-last xs ys zs = record {
  weighs = λ h.
      let a = sum_by-append h (xs ++ ys) zs in let b = sum_by-append h xs ys in
      let c = sum_by-append h (xs ++ zs) ys in let d = sum_by-append h xs zs in omega arith;
}

-- one that has no members may be left out
without-none : {X : Type 0} (xs ys zs : List X) → ys ≡ [] → SameBag (xs ++ zs) ((xs ++ ys) ++ zs)
without-none xs ys zs e = same-is (ap (λ l. l ++ zs) (sym (append-nil xs) ∙ ap (λ l. xs ++ l) (sym e)))

-- what holds of numbers in one order holds of them in another
same-all : (P : ℕ → Type 0) (xs ys : List ℕ) → SameBag ys xs → AllByRecursion P xs → AllByRecursion P ys
same-all P xs ys bag a = part-all ◌==◌ nat_same nat-is P (same-part bag) a

same-contains : (xs ys : List ℕ) (x : ℕ) → SameBag xs ys → Contains xs x → Contains ys x
same-contains xs ys x bag c =
    let w = contains-has_weight ◌==◌ nat_same nat-is xs x c in
    let e = bag.weighs (λ y. cond (x == y) 1 0) in contains-weighs ◌==◌ nat_same nat-is ys x (omega arith)

module _ {N : Type 0} (t : SearchTree N) {sound : N → Type 0} (ranked : IsRanked sound t.children t.rank) (bounded : IsBounded sound t.children t.worth t.bound) (root_sound : sound t.root) where
  -- a cut node is at or below itself
  pub cut-there : (cs : List Judgement) → AllByRecursion (λ (c : Judgement). bound_at t c.path ≡ Some c.value) cs
      → AllByRecursion (λ c. 0 < occurs c (below t c)) (paths cs)
  cut-there [] b = tt
  cut-there (c ∷ cs) b = (own (at_path t c.path) refl b.0, cut-there cs b.1)
    where
      own : (found : Option N) → at_path t c.path ≡ found → option_map t.bound found ≡ Some c.value → 0 < occurs c.path (below t c.path)
      own None e w = absurd (none-some c.value w)
      own (Some n) e w =
          let u = below-unfolds t ranked c.path n e (at_path-sound t ranked bounded root_sound c.path n e) in
          let k = ap (occurs c.path) u in
          let l = sum_by-cons (only c.path) c.path (flat_map (below t) (numbered c.path 0 (t.children n))) in
          let o = only-itself c.path in omega arith

  pub own-below : (path c : List ℕ) → 0 < occurs c (below t c) → only path c ≤ occurs path (below t c)
  own-below path c there = by (is_path path c) refl
    where
      by : (b : Bool) → is_path path c ≡ b → only path c ≤ occurs path (below t c)
      by true e =
          let same : path ≡ c = is_path-is path c e in
          let h = subst (λ p. 0 < occurs p (below t c)) (sym same) there in
          let k : ◌≡◌ {A = ℕ} (only path c) 1 = ap (λ b. cond b 1 0) e in omega arith
      by false e = let k : ◌≡◌ {A = ℕ} (only path c) 0 = ap (λ b. cond b 1 0) e in omega arith

  pub cut-below : (cs : List (List ℕ)) (path : List ℕ) → AllByRecursion (λ c. 0 < occurs c (below t c)) cs
      → occurs path cs ≤ occurs path (flat_map (below t) cs)
  cut-below [] path a = omega arith
  cut-below (c ∷ cs) path a =
      let r = cut-below cs path a.1 in
      let o = own-below path c a.0 in
      let x = sum_by-cons (only path) c cs in
      let y = sum_by-append (only path) (below t c) (flat_map (below t) cs) in omega arith

module _ {N S : Type 0} (t : SearchTree N) (gap : ℕ) (join : S → S → S) (none : S) (of : N → ℕ → S) where
  -- the first worker, the others, and what the caller walked in the first one's place
  pub closed-all : (first others rest : Group N S) → SameBag ((first.took ++ others.took) ++ rest.took) ([] ∷ (first.put ++ others.put))
      → SameBag ((first.got ++ others.got) ++ rest.got) (first.given ++ others.given) → rest.put ≡ [] → rest.given ≡ []
      → AllByRecursion (λ x. (x ≡ 0) ⊎ Contains ((first.offered ++ others.offered) ++ rest.offered) x) ((first.read ++ others.read) ++ rest.read) → IsClosed (together join (together join first rest) others)
  closed-all first others rest pool mail put given reads = record {
    pool = same-trans (swap-last first.took rest.took others.took) (same-trans pool (same-cons [] (without-none first.put rest.put others.put put)));
    mail = same-trans (swap-last first.got rest.got others.got) (same-trans mail (without-none first.given rest.given others.given given));
    reads =
        let offered = swap-last first.offered others.offered rest.offered in
        same-all (λ x. (x ≡ 0) ⊎ Contains ((first.offered ++ rest.offered) ++ others.offered) x) ((first.read ++ others.read) ++ rest.read) ((first.read ++ rest.read) ++ others.read) (swap-last first.read rest.read others.read)
        (weaker ((first.read ++ others.read) ++ rest.read) (λ x h. ⊎_elim (λ (z : x ≡ 0). inl z) (λ (c : Contains ((first.offered ++ others.offered) ++ rest.offered) x). inr (same-contains _ _ x offered c)) h) reads);
  }
    where
      weaker : (xs : List ℕ)
          → ((x : ℕ) → (x ≡ 0) ⊎ Contains ((first.offered ++ others.offered) ++ rest.offered) x → (x ≡ 0) ⊎ Contains ((first.offered ++ rest.offered) ++ others.offered) x)
          → AllByRecursion (λ x. (x ≡ 0) ⊎ Contains ((first.offered ++ others.offered) ++ rest.offered) x) xs
          → AllByRecursion (λ x. (x ≡ 0) ⊎ Contains ((first.offered ++ rest.offered) ++ others.offered) x) xs
      weaker [] f a = tt
      weaker (x ∷ xs) f a = (f x a.0, weaker xs f a.1)

  module _ {sound : N → Type 0} (ranked : IsRanked sound t.children t.rank) (bounded : IsBounded sound t.children t.worth t.bound) (root_sound : sound t.root) where
    -- no task is taken twice once all is closed: each was visited or cut, and no path is so twice
    pub taken-once : (g : Group N S) → IsBalanced t gap join none of g → IsClosed g → (path : List ℕ) → occurs path (taken g) ≤ 1
    taken-once g balanced closed path =
        let cover = group-covers t gap join none of g balanced closed in
        let once = cover-once t ranked root_sound (paths g.visits) (paths g.cuts) cover path in
        let part = balanced.walked.weighs (only path) in
        let split = sum_by-append (only path) (paths g.visits) (paths g.cuts) in
        let low = cut-below t ranked bounded root_sound (paths g.cuts) path (cut-there t ranked bounded root_sound g.cuts balanced.bounds) in omega arith

    -- so where a worker took the root's task, the caller was left none that is the root's
    pub left-below : (first others rest : Group N S) → IsBalanced t gap join none of (together join (together join first rest) others)
        → IsClosed (together join (together join first rest) others)
        → Contains (taken (together join first others)) [] → occurs [] (taken rest) ≡ 0
    left-below first others rest balanced closed root =
        let once = taken-once (together join (together join first rest) others) balanced closed [] in
        let there = contains-has_weight is_path is_path-same is_path-is (taken (together join first others)) [] root in
        let a = sum_by-append (only []) (first.took ++ others.took) (first.got ++ others.got) in
        let b = sum_by-append (only []) first.took others.took in
        let c = sum_by-append (only []) first.got others.got in
        let d = sum_by-append (only []) ((first.took ++ rest.took) ++ others.took) ((first.got ++ rest.got) ++ others.got) in
        let e = sum_by-append (only []) (first.took ++ rest.took) others.took in
        let f = sum_by-append (only []) first.took rest.took in
        let g = sum_by-append (only []) (first.got ++ rest.got) others.got in
        let h = sum_by-append (only []) first.got rest.got in
        let i = sum_by-append (only []) rest.took rest.got in omega arith
