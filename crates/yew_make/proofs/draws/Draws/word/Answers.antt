use Rattle.std.proofs.Common.{◌≡◌, ℕ, ◌+◌, ◌*◌, ◌%◌, ◌^◌, ap}
use Rattle.rand_pcg.specs.Lcg.{Lcg}
use Rattle.yew_make.specs.Draws.{multiplier, word_of}
use Rattle.yew_make.proofs.Generator.{next_is}
use Rattle.yew_make.proofs.draws.Draws.word.Goals as goal

pub returns-clause-word : goal.returns-clause-word
unfolding word_of
returns-clause-word c =
    let e : c.next_word.result ≡ word_of c.self.inside.generator.state = ap (λ (p : ℕ × Lcg). p.0) c.next_word.ensures in
    cc

pub returns-clause-next : goal.returns-clause-next
returns-clause-next c =
    let step : c.next_word.new.self.state ≡ (c.self.inside.generator.state * multiplier % 2 ^ 64 + c.self.inside.generator.increment) % 2 ^ 64 = ap (λ (p : ℕ × Lcg). p.1.state) c.next_word.ensures in
    let same = ap (λ (n : ℕ). (c.self.inside.generator.state * multiplier % 2 ^ 64 + n) % 2 ^ 64) c.self.invariant in
    let last = next_is c.self.inside.generator.state in
    cc (step, same, last)
