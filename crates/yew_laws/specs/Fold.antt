-- The fold of all nodes of a tree into a commutative monoid.
use Rattle.std.specs.Prelude.{◌≡◌, ℕ, List, [], ◌∷◌, length}
use Rattle.yew_laws.specs.Tree.{Member}
use Rattle.yew_laws.specs.SearchTree.{SearchTree, preorder}

abbrev pub fold_of : {X S : Type 0} → (S → S → S) → S → (X → S) → List X → S
fold_of join none of [] = none
fold_of join none of (x ∷ xs) = join (of x) (fold_of join none of xs)

-- the values that fit are a commutative monoid
pub record IsTally {S : Type 0} (fits : S → Type 0) (join : S → S → S) (none : S) : Type 0 where
  pub none_fits : fits none
  pub join_fits : (a b : S) → fits a → fits b → fits (join a b)
  pub assoc : (a b c : S) → fits a → fits b → fits c → join (join a b) c ≡ join a (join b c)
  pub comm : (a b : S) → fits a → fits b → join a b ≡ join b a
  pub unit : (a : S) → fits a → join none a ≡ a

-- what a member adds: its value at its depth
abbrev pub of_member : {N S : Type 0} → (N → ℕ → S) → Member N → S
of_member of m = of m.node (length m.path)

-- the fold of all members of a tree
abbrev pub Fold : {N S : Type 0} → SearchTree N → (S → S → S) → S → (N → ℕ → S) → S
Fold t join none of = fold_of join none (of_member of) (preorder t)
