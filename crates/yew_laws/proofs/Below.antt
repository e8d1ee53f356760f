-- What lies at or below a path of a tree.
use Rattle.std.proofs.Common.{◌≡◌, ℕ, suc, ◌<◌, ◌≤◌, List, [], ◌∷◌, ◌++◌, drop, Some, refl, ap, ap₂, sym, ◌∙◌, append_assoc, append-nil, arith}
use Rattle.std.specs.List.{flat_map}
use Rattle.std.proofs.lemmas.List.{map-append}
use Rattle.yew_laws.specs.Tree.{Member, forest, tree, prefixed, paths, IsRanked}
use Rattle.yew_laws.specs.SearchTree.{SearchTree, at_path, below, below_node, numbered}
use Rattle.yew_laws.proofs.Trees.{tree-unfolds, node_at-child}
use Rattle.yew_laws.proofs.Steps.{slice_get_from_drop, drop_from_drop}
use Rattle.yew_laws.proofs.Incumbents.{prefixed-forest}

-- p lies at or below c
pub record AtOrBelow (c p : List ℕ) : Type 0 where
  pub rest : List ℕ
  pub is : p ≡ c ++ rest

-- p lies at or below a child of path whose number is in this range
pub record InChild (path : List ℕ) (low high : ℕ) (p : List ℕ) : Type 0 where
  pub number : ℕ
  pub rest : List ℕ
  pub is : p ≡ path ++ number ∷ rest
  pub from : low ≤ number
  pub below : number < high

pub wider : (path : List ℕ) (low high low' high' : ℕ) → low' ≤ low → high ≤ high' → (p : List ℕ) → InChild path low high p → InChild path low' high' p
wider path low high low' high' a b p c =
    let f = c.from in let g = c.below in record { number = c.number; rest = c.rest; is = c.is; from = omega arith; below = omega arith }

-- what lies at or below a child lies in the range of that child alone
pub in_child : (path : List ℕ) (k : ℕ) (p : List ℕ) → AtOrBelow (path ++ k ∷ []) p → InChild path k (suc k) p
in_child path k p a =
    record { number = k; rest = a.rest; is = a.is ∙ append_assoc path (k ∷ []) a.rest; from = omega arith; below = omega arith }

module _ {N : Type 0} (t : SearchTree N) where
  -- a child of the node at a path stands at the path with the child's number appended
  pub child-at : (path : List ℕ) (n : N) → at_path t path ≡ Some n → (k : ℕ) (c : N) (cs : List N) → drop k (t.children n) ≡ c ∷ cs → at_path t (path ++ k ∷ []) ≡ Some c
  child-at path n e k c cs d = node_at-child t.children t.root n c path k e (slice_get_from_drop (t.children n) k c cs d)

  below-forest : (path : List ℕ) (n : N) → at_path t path ≡ Some n → (k : ℕ) (cs : List N) → drop k (t.children n) ≡ cs → paths (prefixed path (forest (tree t.children t.rank) k cs)) ≡ flat_map (below t) (numbered path k cs)
  below-forest path n e k [] d = refl
  below-forest path n e k (c ∷ cs) d =
      ap paths (prefixed-forest (tree t.children t.rank) path k c cs)
      ∙ map-append (λ (m : Member N). m.path) (prefixed (path ++ k ∷ []) (tree t.children t.rank c)) (prefixed path (forest (tree t.children t.rank) (suc k) cs))
      ∙ ap₂ (λ us vs. us ++ vs) (ap (below_node t (path ++ k ∷ [])) (sym (child-at path n e k c cs d))) (below-forest path n e (suc k) cs (drop_from_drop (t.children n) k c cs d))

  module _ {sound : N → Type 0} (ranked : IsRanked sound t.children t.rank) where
    -- below a path: the path, and then what lies below each child, in order
    pub below-unfolds : (path : List ℕ) (n : N) → at_path t path ≡ Some n → sound n → below t path ≡ path ∷ flat_map (below t) (numbered path 0 (t.children n))
    below-unfolds path n e s =
        ap (below_node t path) e
        ∙ ap (λ ms. paths (prefixed path ms)) (tree-unfolds ranked n s)
        ∙ ap₂ (λ (p : List ℕ) (ps : List (List ℕ)). p ∷ ps) (append-nil path) (below-forest path n e 0 (t.children n) refl)
