use Rattle.std.proofs.Common.{ap, map}
use Rattle.yew_semi.specs.SemigroupTree.{without}
use Rattle.yew_semi.specs.Words.{bits_of}
use Rattle.yew_semi.proofs.Words.{window_of-zero}
use Rattle.yew_semi.proofs.semigroup.Semigroup.last.Goals as goal

pub returns : goal.returns
returns c = ap (map (without (bits_of c.self.inside.words.gaps))) (window_of-zero c.self.inside.words.frobenius)
