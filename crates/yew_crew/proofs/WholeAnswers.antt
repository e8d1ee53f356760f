-- What a whole search answers: from the cover of the tree, the causes of its cuts, the best of its visits and their sum.
use Rattle.std.proofs.Common.{◌≡◌, ℕ, ◌+◌, ◌≤◌, ◌⊎◌, List, [], ◌∷◌, ◌++◌, ◌∙◌, Option, Some, None, length, refl, sym, ap, ap₂, arith, ⊎_elim, append-nil}
use Rattle.std.specs.List.{AllByRecursion, Contains, flat_map}
use Rattle.std.specs.Option.{option_map}
use Rattle.std.proofs.lemmas.Option.{none-some}
use Rattle.yew_laws.specs.Bag.{SameBag}
use Rattle.yew_laws.specs.Cover.{Cover}
use Rattle.yew_laws.specs.Fold.{Fold, fold_of, of_member, IsTally}
use Rattle.yew_laws.specs.Order.{is_path}
use Rattle.yew_laws.specs.PathValue.{PathValue}
use Rattle.yew_laws.specs.SearchTree.{SearchTree, preorder, at_path, worth_at, bound_at, below}
use Rattle.yew_laws.specs.Tree.{Member, paths as member_paths, IsRanked}
use Rattle.yew_laws.proofs.Bags.{same-is, same-trans}
use Rattle.yew_laws.proofs.Folds.{fold-SameBag}
use Rattle.yew_laws.proofs.Incumbents.{prefixed-nil}
use Rattle.yew_laws.proofs.PathTests.{is_path-same, is_path-is}
use Rattle.yew_laws.proofs.Trees.{tree-node_at}
use Rattle.yew_log.specs.Attained.{Attained, limit}
use Rattle.yew_log.specs.Notes.{Judgement, paths, values}
use Rattle.yew_walk.specs.PlainSearch.{NeverCuts}
use Rattle.yew_walk.specs.Answers.{IsNear}
use Rattle.yew_crew.specs.CrewSearch.{IsGreatest}
use Rattle.yew_walk.proofs.NearBest.{maximum-least, contained-bounds}

-- without a gap it is the greatest worth
pub near-greatest : {N : Type 0} (t : SearchTree N) (worth : ℕ) (path : Option PathValue) → IsNear t 0 worth path → IsGreatest t worth path
near-greatest t worth path near = record { worth_is = (let a = near.within in let b = near.none_greater in omega arith); absent = near.absent; has_worth = near.has_worth }

module _ {N : Type 0} (t : SearchTree N) (never : NeverCuts t) (gap : ℕ) (visits : List Judgement) where
  -- where no node is an answer and each bound is above 0, nothing is cut
  pub none-cut : (cuts : List Judgement) → Attained t gap visits cuts → cuts ≡ []
  none-cut cuts attained = none-of cuts attained.bounds attained.permitted (behind visits cuts attained.attained)
    where
      behind : (vs cs : List Judgement) → AllByRecursion (λ (j : Judgement). (j.held ≡ 0) ⊎ Contains (values visits) j.held) (vs ++ cs)
          → AllByRecursion (λ (j : Judgement). (j.held ≡ 0) ⊎ Contains (values visits) j.held) cs
      behind [] cs a = a
      behind (v ∷ vs) cs a = behind vs cs a.1

      worthless : (vs : List Judgement) → AllByRecursion (λ (v : Judgement). worth_at t v.path ≡ Some v.value) vs → AllByRecursion (λ n. n ≤ 0) (values vs)
      worthless [] a = tt
      worthless (v ∷ vs) a = (own (at_path t v.path) refl, worthless vs a.1)
        where
          own : (found : Option N) → at_path t v.path ≡ found → v.value ≤ 0
          own None e = absurd (none-some v.value (sym (ap (option_map t.worth) e) ∙ a.0))
          own (Some n) e = let is : Some (t.worth n) ≡ Some v.value = sym (ap (option_map t.worth) e) ∙ a.0 in let same : t.worth n ≡ v.value = cc in let z = never.no_answer n in omega arith

      none-of : (cs : List Judgement) → AllByRecursion (λ (c : Judgement). bound_at t c.path ≡ Some c.value) cs
          → AllByRecursion (λ (c : Judgement). c.value ≤ limit gap c.held) cs
          → AllByRecursion (λ (c : Judgement). (c.held ≡ 0) ⊎ Contains (values visits) c.held) cs → cs ≡ []
      none-of [] b p a = refl
      none-of (c ∷ cs) b p a =
          let low = maximum-least (values visits) 0 (worthless visits attained.worths) in
          let held : c.held ≡ 0 = ⊎_elim (λ (z : c.held ≡ 0). z) (λ (h : Contains (values visits) c.held). (let le = contained-bounds (values visits) c.held h in omega arith)) a.0 in
          let none : limit gap c.held ≡ 0 = ap (limit gap) held in
          let le = p.0 in
          absurd (positive (at_path t c.path) refl (omega arith))
        where
          positive : (found : Option N) → at_path t c.path ≡ found → c.value ≤ 0 → ⊥
          positive None e z = none-some c.value (sym (ap (option_map t.bound) e) ∙ b.0)
          positive (Some n) e z = let is : Some (t.bound n) ≡ Some c.value = sym (ap (option_map t.bound) e) ∙ b.0 in let same : t.bound n ≡ c.value = cc in let pos = never.promising n in absurd (omega arith)

  module _ {sound : N → Type 0} (ranked : IsRanked sound t.children t.rank) (root_sound : sound t.root) {S : Type 0} {fits : S → Type 0} (join : S → S → S) (none : S) (tally : IsTally fits join none) (of : N → ℕ → S) (of_fits : (n : N) (depth : ℕ) → fits (of n depth)) where
    -- what a path adds to the sum
    abbrev of_found : List ℕ → Option N → S
    of_found path None = none
    of_found path (Some n) = of n (length path)

    abbrev of_path : List ℕ → S
    of_path path = of_found path (at_path t path)

    of_path-fits : (path : List ℕ) → fits (of_path path)
    of_path-fits path = by (at_path t path)
      where
        by : (found : Option N) → fits (of_found path found)
        by None = tally.none_fits
        by (Some n) = of_fits n (length path)

    by_paths : (ms : List (Member N)) → AllByRecursion (λ m. at_path t m.path ≡ Some m.node) ms
        → fold_of join none (of_member of) ms ≡ fold_of join none of_path (member_paths ms)
    by_paths [] at = refl
    by_paths (m ∷ ms) at = ap₂ join (sym (ap (of_found m.path) at.0)) (by_paths ms at.1)

    -- the sum of the visited nodes is that of the tree
    pub sum-whole : (cuts : List Judgement) (members : List (Member N)) → Cover t (paths visits) (paths cuts) → Attained t gap visits cuts
        → AllByRecursion (λ m. at_path t m.path ≡ Some m.node) members → member_paths members ≡ paths visits
        → fold_of join none (of_member of) members ≡ Fold t join none of
    sum-whole cuts members cover attained at paths_are =
        let no_cuts : paths cuts ≡ [] = ap paths (none-cut cuts attained) in
        let bag : SameBag (member_paths members) (member_paths (preorder t)) =
        same-trans (same-is (paths_are ∙ sym (append-nil (paths visits))))
        (same-trans (same-is (ap (λ cs. paths visits ++ flat_map (below t) cs) (sym no_cuts)))
        (same-trans cover.each_once (same-is (ap member_paths (prefixed-nil (preorder t)))))) in
        by_paths members at ∙ (fold-SameBag tally of_path of_path-fits is_path is_path-same is_path-is (member_paths members) (member_paths (preorder t)) bag ∙ sym (by_paths (preorder t) (tree-node_at ranked t.root root_sound)))
