-- What contracts see of a path.
use Rattle.std.specs.Prelude.{ℕ, List}

-- the numbers of a path, from the root on, and how many numbers it has room for
pub record PathValue : Type 0 where
  pub numbers : List ℕ
  pub space : ℕ
