-- What a sink in memory is seen as.
use Rattle.std.specs.Prelude.{ℕ, List}

-- a sink in memory: what was written, how much it takes in all and in one call, the numbers of the calls that fail, and
-- how many calls and faults there were
pub record SinkState : Type 0 where
  pub written : List ℕ
  pub room : ℕ
  pub most : ℕ
  pub fails : List ℕ
  pub calls : ℕ
  pub faults : ℕ
