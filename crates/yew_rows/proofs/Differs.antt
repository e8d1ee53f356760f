-- Paths that a test tells apart.
use Rattle.std.proofs.Common.{◌≡◌, ℕ, List, true, false, ap, sym, ◌∙◌}
use Rattle.yew_laws.specs.Order.{is_path}

pub differs : (p q : List ℕ) → p ≡ q → is_path p q ≡ false → is_path p p ≡ true → ⊥
differs p q e told_apart itself = let k : true ≡ false = sym itself ∙ ap (is_path p) e ∙ told_apart in cc
