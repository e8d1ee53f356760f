-- All whole numbers as words: 1 is the only minimal generator.
use Rattle.std.proofs.Common.{◌≡◌, ℕ, ◌==◌, [], length, lit<, refl, ap, sym, subst, arith}
use Rattle.std.proofs.lemmas.Nat.Bits.{bit_at-zero}
use Rattle.yew_semi.specs.GapLaws.{IsMinimal, minimal-from_test}
use Rattle.yew_semi.specs.Words.{bits_of, IsLeastMember, IsGreatestGap, AreWords, AreInherited}
use Rattle.yew_semi.proofs.Words.{bits_of-zero, test_cases, equal_is, other_is}

root-least : IsLeastMember [] 1
root-least = record { positive = omega arith; member = refl; least = λ x from below. absurd (omega arith) }

root-greatest : IsGreatestGap [] 0
root-greatest = record { gap = λ some. absurd (omega arith); greatest = λ x inside. absurd (cc) }

pub root-words : AreWords 0 0 0 1 0
root-words = record {
  gaps_fit = lit< tt;
  mirror_fits = lit< tt;
  zero_inside = refl;
  mirrored = λ i small below. absurd (omega arith);
  mirror_ends = λ i most. bit_at-zero i;
  greatest = subst (λ xs. IsGreatestGap xs 0) (sym bits_of-zero) root-greatest;
  least = subst (λ xs. IsLeastMember xs 1) (sym bits_of-zero) root-least;
  count = sym (ap length bits_of-zero);
}

-- a greater number is a sum of 1 and a member
one-from_minimal : (x : ℕ) → IsMinimal [] x → x ≡ 1
one-from_minimal x minimal =
    let positive = minimal.positive in
    test_cases (x == 1)
    (λ e. equal_is x 1 e)
    (λ e. let other = other_is x 1 e in absurd (minimal.no_sum 1 (omega arith) (omega arith) refl refl))

root-inherited-nil : AreInherited [] 0 1 0
root-inherited-nil = record {
  fits = lit< tt;
  each = λ i bit. let none = bit_at-zero i in absurd (omega arith);
  others = λ x away test. absurd (away (one-from_minimal x (minimal-from_test [] x test)));
}

pub root-inherited : AreInherited (bits_of 0) 0 1 0
root-inherited = subst (λ xs. AreInherited xs 0 1 0) (sym bits_of-zero) root-inherited-nil
