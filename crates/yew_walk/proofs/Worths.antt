-- A worth is as small as a bound.
use Rattle.std.proofs.Common.{◌<◌, ◌^◌, [], refl, arith}
use Rattle.yew_laws.specs.declared.problem.Problem.{Ghosts}

pub worth-small : {S N K : Type 0} (meaning : Ghosts S N K) (problem : S) (node : N) → meaning.sound problem node → meaning.worth problem node < 2 ^ 40
worth-small meaning problem node sound =
    let bounded = meaning.bounded problem in omega (arith, bounded.bounds node node [] sound refl, bounded.fits node sound)
