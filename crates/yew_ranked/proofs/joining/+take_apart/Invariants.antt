use Rattle.std.specs.Prelude.{vec_len}
use Rattle.yew_ranked.proofs.joining.+take_apart.Given as goal

abbrev pub decreases-take_apart : goal.decreases-take_apart
decreases-take_apart g l = vec_len l.reports
