-- The tally that keeps nothing.
use Rattle.std.specs.Prelude.{refl}
use Rattle.yew_laws.specs.Fold.{IsTally}

-- one sum alone is a commutative monoid
pub unit-tally : IsTally (λ (_ : Unit {0}). Unit {0}) (λ _ _. tt) tt
unit-tally = record {
  none_fits = tt;
  join_fits = λ a b x y. tt;
  assoc = λ a b c x y z. refl;
  comm = λ a b x y. refl;
  unit = λ a x. refl;
}
