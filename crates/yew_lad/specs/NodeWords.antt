-- Nodes and generators as words.
use Rattle.std.specs.Prelude.{◌≡◌, ℕ, ◌<◌, not, List}
use Rattle.yew_laws.specs.Sets.{contains}
use Rattle.yew_lad.specs.Bits.{has_bit}

-- the members of these words are the vertices that are no images
pub record AreUnused (images words : List ℕ) : Type 0 where
  pub each : (t : ℕ) → t < 1024 → has_bit words t ≡ not (contains images t)
