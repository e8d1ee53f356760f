use Rattle.std.proofs.Common.{min, arith}
use Rattle.yew_queens.proofs.counting.ways.Given as goal

-- the board has the size that is asked for
abbrev pub ghosts-ways_on : goal.ghosts-ways_on
ghosts-ways_on a = record { size = min a.size 65535; few = omega arith }
