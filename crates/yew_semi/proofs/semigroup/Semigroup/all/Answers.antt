use Rattle.yew_semi.proofs.Words.{bits_of-zero}
use Rattle.yew_semi.proofs.Roots.{root-words, root-inherited}
use Rattle.yew_semi.proofs.semigroup.Semigroup.all.Goals as goal

pub returns : goal.returns
returns c = bits_of-zero

pub invariant_of-result : goal.invariant_of-result
invariant_of-result c = (root-words, root-inherited)
