-- Trees that agree at each node.
use Rattle.std.specs.Prelude.{◌≡◌}
use Rattle.yew_laws.specs.SearchTree.{SearchTree}

-- the root is the same, and so are the children, the worth and the bound of each sound node
pub record HasSameNodes {N : Type 0} (sound : N → Type 0) (t u : SearchTree N) : Type 0 where
  pub root : t.root ≡ u.root
  pub children : (n : N) → sound n → t.children n ≡ u.children n
  pub worth : (n : N) → sound n → t.worth n ≡ u.worth n
  pub bound : (n : N) → sound n → t.bound n ≡ u.bound n
