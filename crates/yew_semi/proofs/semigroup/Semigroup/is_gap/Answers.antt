use Rattle.std.proofs.Common.{◌≡◌, false, nat_eq, nat_lt, ap, sym, ◌∙◌, arith}
use Rattle.std.proofs.lemmas.Bool.Decides.{nat_tests}
use Rattle.std.proofs.lemmas.Nat.Bits.{shr_and_one}
use Rattle.yew_laws.specs.Sets.{contains}
use Rattle.yew_semi.proofs.Words.{contains-bits, bits-past}
use Rattle.yew_semi.proofs.semigroup.Semigroup.is_gap.Goals as goal

pub returns-then-number-lt128 : goal.returns-then-number-lt128
returns-then-number-lt128 c =
    let gaps = c.self.inside.words.gaps in
    ap (λ n. nat_eq n 1) (shr_and_one gaps c.args.number)
    ∙ sym (contains-bits gaps c.args.number c.if-number-lt128.true)
    ∙ ap (λ xs. contains xs c.args.number) c.self.view_is

pub returns-else-number-lt128 : goal.returns-else-number-lt128
returns-else-number-lt128 c =
    let past : nat_lt c.args.number 128 ≡ false = grind (arith, nat_tests) in
    past ∙ sym (bits-past c.self.inside.words.gaps c.args.number c.if-number-lt128.false) ∙ ap (λ xs. contains xs c.args.number) c.self.view_is
