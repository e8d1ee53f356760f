-- What a search has found, with the node of its solution.
use Rattle.std.specs.Prelude.{◌≡◌, ℕ, ◌+◌, ◌≤◌, ◌↔◌, Option, None, IsNone, IfSome}
use Rattle.yew_kinds.specs.declared.kind.Kind.{Kind}
use Rattle.yew_kinds.specs.declared.kind.Kind.TheVariants as kinds
use Rattle.yew_laws.specs.Greatest.{greatest, Reach}
use Rattle.yew_laws.specs.SearchTree.{SearchTree}
use Rattle.yew_app.specs.declared.solution.Solution.{Solution}
use Rattle.yew_app.specs.declared.solution.Solution.TheVariants as solutions

-- the node that was found, if one was
abbrev pub node_of : {N S : Type 0} → Solution N S → Option N
node_of (solutions.Count sum) = None
node_of (solutions.Best worth node) = node
node_of (solutions.Reach node) = node

module _ {N : Type 0} (t : SearchTree N) (sound : N → Type 0) where
  -- a node of the greatest worth; there is none exactly where that worth is 0
  pub record IsBestNode (worth : ℕ) (node : Option N) : Type 0 where
    pub worth_is : worth ≡ greatest t
    pub absent : IsNone node ↔ (worth ≡ 0)
    pub has_worth : IfSome node (λ n. sound n × (worth ≡ t.worth n))

  -- a node whose worth is within the gap of the greatest one; there is none exactly where its worth is 0, and the greatest one is then 0 too
  pub record IsNearNode (gap worth : ℕ) (node : Option N) : Type 0 where
    pub within : greatest t ≤ worth + gap
    pub no_answer : worth ≡ 0 → greatest t ≡ 0
    pub absent : IsNone node ↔ (worth ≡ 0)
    pub has_worth : IfSome node (λ n. sound n × (worth ≡ t.worth n))

  -- a node that meets a target; where there is none, no node does
  pub record IsReachedNode (target : ℕ) (node : Option N) : Type 0 where
    pub absent : IsNone node → ¬ Reach t target
    pub meets : IfSome node (λ n. sound n × (target ≤ t.worth n))

  -- what a search of a kind has found, where this is the fold of all nodes
  abbrev pub IsSolution : {S : Type 0} → S → Kind → Solution N S → Type 0
  IsSolution fold kinds.Count (solutions.Count sum) = sum ≡ fold
  IsSolution fold kinds.Best (solutions.Best worth node) = IsBestNode worth node
  IsSolution fold (kinds.Reach target) (solutions.Reach node) = IsReachedNode target node
  IsSolution fold (kinds.Near gap) (solutions.Best worth node) = IsNearNode gap worth node
  IsSolution fold _ _ = ⊥
