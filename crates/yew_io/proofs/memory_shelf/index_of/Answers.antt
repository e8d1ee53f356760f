use Rattle.std.proofs.Common.{◌≡◌, true, sym, ◌∙◌, subst, arith}
use Rattle.std.specs.Str.{bytes_eq}
use Rattle.yew_io.proofs.Found.{found_at}
use Rattle.yew_io.proofs.memory_shelf.index_of.Goals as goal

pub returns-then-eq-clause-there : goal.returns-then-eq-clause-there
returns-then-eq-clause-there c =
    let equal : bytes_eq c.as_str.result.now c.args.name.now ≡ true = sym c.eq.ensures ∙ c.if-eq.true in
    let here = subst (λ s. bytes_eq s c.args.name.now ≡ true) c.as_str.ensures.value equal in
    (omega arith, c.loop-index.invariant ∙ found_at c.args.files.now c.loop-index.index c.args.name.now c.index-files-index.result (omega arith) c.index-files-index.is here)
