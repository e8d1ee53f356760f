-- A tree whose children come in the order of keys has the fold of the tree itself, by whichever tally.
use Rattle.std.proofs.Common.{◌≡◌, ℕ, suc, ◌+◌, ◌≤◌, max, true, false, List, [], ◌∷◌, length, map, nat_le, if◌then◌else◌, Any, ◌↔◌, refl, ap, ap₂, sym, ◌∙◌, arith}
use Rattle.std.specs.List.{AllByRecursion, sum_by}
use Rattle.std.proofs.lemmas.List.Sums.{sum_by-cons}
use Rattle.yew_laws.specs.Bag.{SameBag}
use Rattle.yew_laws.specs.Fold.{fold_of, IsTally, of_member}
use Rattle.yew_laws.specs.Greatest.{greatest_of}
use Rattle.yew_laws.specs.Tree.{Member, child_member, forest, tree, IsRanked}
use Rattle.yew_laws.proofs.Bags.{sum_by-map}
use Rattle.yew_laws.proofs.Folds.{fold-fits, fold-append}
use Rattle.yew_laws.proofs.Trees.{tree-unfolds, ranked_induction}
use Rattle.yew_kinds.specs.Wrappers.{clipped}
use Rattle.yew_kinds.proofs.Clipping.{met-from_greatest, greatest-from_met}
use Rattle.yew_calls.specs.KeyOrder.{placed, by_key}
use Rattle.yew_calls.specs.ReorderLaws.{reordered-ranked}

fold-map : {X Y S : Type 0} (join : S → S → S) (none : S) (of : Y → S) (f : X → Y) (xs : List X) → fold_of join none of (map f xs) ≡ fold_of join none (λ x. of (f x)) xs
fold-map join none of f [] = refl
fold-map join none of f (x ∷ xs) = ap (join (of (f x))) (fold-map join none of f xs)

fold-agrees : {X S : Type 0} (join : S → S → S) (none : S) (of other : X → S) (xs : List X) → AllByRecursion (λ x. of x ≡ other x) xs → fold_of join none of xs ≡ fold_of join none other xs
fold-agrees join none of other [] all = refl
fold-agrees join none of other (x ∷ xs) all = ap₂ join all.0 (fold-agrees join none of other xs all.1)

module _ {S : Type 0} {fits : S → Type 0} {join : S → S → S} {none : S} (tally : IsTally fits join none) where
  module _ {X : Type 0} (key : X → ℕ) (of : X → S) (of_fits : (x : X) → fits (of x)) where
    fold-placed : (x : X) (ys : List X) → fold_of join none of (placed key x ys) ≡ join (of x) (fold_of join none of ys)
    fold-placed x [] = refl
    fold-placed x (y ∷ ys) =
        let rest = fold_of join none of ys in
        elim (nat_le (key x) (key y)) as (λ b. fold_of join none of (if b then x ∷ y ∷ ys else y ∷ placed key x ys) ≡ join (of x) (join (of y) rest)) [
          | true ↦ refl
          | false ↦
              let fitting = fold-fits tally of of_fits ys in
              ap (join (of y)) (fold-placed x ys)
              ∙ sym (tally.assoc (of y) (of x) rest (of_fits y) (of_fits x) fitting)
              ∙ ap (λ s. join s rest) (tally.comm (of y) (of x) (of_fits y) (of_fits x))
              ∙ tally.assoc (of x) (of y) rest (of_fits x) (of_fits y) fitting
        ]

    pub fold-by_key : (xs : List X) → fold_of join none of (by_key key xs) ≡ fold_of join none of xs
    fold-by_key [] = refl
    fold-by_key (x ∷ xs) = fold-placed x (by_key key xs) ∙ ap (join (of x)) (fold-by_key xs)

  module _ {N : Type 0} where
    -- what a member of a child's tree is worth in the tree of the parent
    abbrev deeper : (N → ℕ → S) → N → ℕ → S
    deeper of n depth = of n (suc depth)

    -- what the tree of a node is worth, one level down
    abbrev child_fold : (N → ℕ → S) → (N → List (Member N)) → N → S
    child_fold of tree_of c = fold_of join none (of_member (deeper of)) (tree_of c)

    child_fold-fits : (of : N → ℕ → S) → ((n : N) (depth : ℕ) → fits (of n depth)) → (tree_of : N → List (Member N)) (c : N) → fits (child_fold of tree_of c)
    child_fold-fits of of_fits tree_of c =
        fold-fits tally (of_member (deeper of)) (λ m. of_fits m.node (suc (length m.path))) (tree_of c)

    fold-forest : (of : N → ℕ → S) → ((n : N) (depth : ℕ) → fits (of n depth)) → (tree_of : N → List (Member N)) (k : ℕ) (cs : List N) → fold_of join none (of_member of) (forest tree_of k cs) ≡ fold_of join none (child_fold of tree_of) cs
    fold-forest of of_fits tree_of k [] = refl
    fold-forest of of_fits tree_of k (c ∷ cs) =
        fold-append tally (of_member of) (λ m. of_fits m.node (length m.path)) (map (child_member k) (tree_of c)) (forest tree_of (suc k) cs)
        ∙ ap₂ join (fold-map join none (of_member of) (child_member k) (tree_of c)) (fold-forest of of_fits tree_of (suc k) cs)

    module _ {sound : N → Type 0} {children : N → List N} {rank : N → ℕ} (ranked : IsRanked sound children rank) (key : N → ℕ) where
      abbrev inner : N → List (Member N)
      inner = tree children rank

      abbrev outer : N → List (Member N)
      outer = tree (λ n. by_key key (children n)) rank

      -- by whichever values the members have, the fold of the tree of a node is the inner one
      abbrev HasInnerFold : N → Type 0
      HasInnerFold n = (of : N → ℕ → S) → ((m : N) (depth : ℕ) → fits (of m depth)) → fold_of join none (of_member of) (outer n) ≡ fold_of join none (of_member of) (inner n)

      all-inner : (of : N → ℕ → S) → ((m : N) (depth : ℕ) → fits (of m depth)) → (cs : List N) → AllByRecursion HasInnerFold cs → AllByRecursion (λ c. child_fold of outer c ≡ child_fold of inner c) cs
      all-inner of of_fits [] all = tt
      all-inner of of_fits (c ∷ cs) all = (all.0 (deeper of) (λ m depth. of_fits m (suc depth)), all-inner of of_fits cs all.1)

      pub reordered-fold : (n : N) → sound n → HasInnerFold n
      reordered-fold =
          ranked_induction ranked HasInnerFold
          (λ n s known of of_fits.
          let cs = children n in
          let fold = fold_of join none (of_member of) in
          ap fold (tree-unfolds (reordered-ranked key children ranked) n s)
          ∙ ap (join (of n 0))
          (fold-forest of of_fits outer 0 (by_key key cs)
          ∙ fold-by_key key (child_fold of outer) (child_fold-fits of of_fits outer) cs
          ∙ fold-agrees join none (child_fold of outer) (child_fold of inner) cs (all-inner of of_fits cs known)
          ∙ sym (fold-forest of of_fits inner 0 cs))
          ∙ ap fold (sym (tree-unfolds ranked n s)))

sum-tally : IsTally (λ (_ : ℕ). Unit {0}) (λ a b. a + b) 0
sum-tally = record {
  none_fits = tt;
  join_fits = λ a b x y. tt;
  assoc = λ a b c x y z. omega arith;
  comm = λ a b x y. omega arith;
  unit = λ a x. omega arith;
}

max-tally : IsTally (λ (_ : ℕ). Unit {0}) max 0
max-tally = record {
  none_fits = tt;
  join_fits = λ a b x y. tt;
  assoc = λ a b c x y z. omega arith;
  comm = λ a b x y. omega arith;
  unit = λ a x. omega arith;
}

sum-is-fold : {X : Type 0} (weight : X → ℕ) (xs : List X) → sum_by weight xs ≡ fold_of (λ a b. a + b) 0 weight xs
sum-is-fold weight [] = refl
sum-is-fold weight (x ∷ xs) = sum_by-cons weight x xs ∙ ap (λ n. weight x + n) (sum-is-fold weight xs)

greatest-is-fold : {N : Type 0} (worth : N → ℕ) (ms : List (Member N)) → greatest_of worth ms ≡ fold_of max 0 (of_member (λ n _. worth n)) ms
greatest-is-fold worth [] = refl
greatest-is-fold worth (m ∷ ms) = ap (max (worth m.node)) (greatest-is-fold worth ms)

module _ {N : Type 0} {sound : N → Type 0} {children : N → List N} {rank : N → ℕ} (ranked : IsRanked sound children rank) (key : N → ℕ) (n : N) (s : sound n) where
  abbrev inner_members : List (Member N)
  inner_members = tree children rank n

  abbrev outer_members : List (Member N)
  outer_members = tree (λ m. by_key key (children m)) rank n

  abbrev with_depth : Member N → N × ℕ
  with_depth m = (m.node, length m.path)

  -- the same nodes at the same depths
  pub reordered-bag : SameBag (map with_depth outer_members) (map with_depth inner_members)
  reordered-bag = record {
    weighs = λ weight.
        let of : N → ℕ → ℕ = λ m depth. weight (m, depth) in
        sum_by-map weight with_depth outer_members
        ∙ sum-is-fold (of_member of) outer_members
        ∙ reordered-fold sum-tally ranked key n s of (λ m depth. tt)
        ∙ sym (sum-is-fold (of_member of) inner_members)
        ∙ sym (sum_by-map weight with_depth inner_members);
  }

  -- the same greatest worth
  pub reordered-greatest : (worth : N → ℕ) → greatest_of worth outer_members ≡ greatest_of worth inner_members
  reordered-greatest worth =
      greatest-is-fold worth outer_members
      ∙ reordered-fold max-tally ranked key n s (λ m _. worth m) (λ m depth. tt)
      ∙ sym (greatest-is-fold worth inner_members)

  -- the same targets are met
  pub reordered-reach : (worth : N → ℕ) (target : ℕ) → Any (λ m. target ≤ worth m.node) outer_members ↔ Any (λ m. target ≤ worth m.node) inner_members
  reordered-reach worth target =
      let same = reordered-greatest (λ m. clipped target (worth m)) in (
        λ some. let above = greatest-from_met worth target outer_members some in met-from_greatest worth target inner_members (omega arith),
        λ some. let above = greatest-from_met worth target inner_members some in met-from_greatest worth target outer_members (omega arith),
      )
