-- The best so far along a list of members.
use Rattle.std.specs.Prelude.{ℕ, List, [], ◌∷◌, Option, Some, nat_lt, if◌then◌else◌}
use Rattle.yew_laws.specs.Tree.{Member}

-- the greatest worth so far, and the first path that had it
pub record Incumbent : Type 0 where
  pub worth : ℕ
  pub path : Option (List ℕ)

-- the incumbent after one more node
abbrev pub improved : Incumbent → ℕ → List ℕ → Incumbent
improved incumbent worth path = if nat_lt incumbent.worth worth then record { worth = worth; path = Some path } else incumbent

-- the incumbent after these members, in order
abbrev pub incumbent_after : {N : Type 0} → (N → ℕ) → Incumbent → List (Member N) → Incumbent
incumbent_after worth incumbent [] = incumbent
incumbent_after worth incumbent (m ∷ ms) = incumbent_after worth (improved incumbent (worth m.node) m.path) ms
