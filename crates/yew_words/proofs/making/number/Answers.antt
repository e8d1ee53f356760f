-- What is kept with a narrow option is narrow.
use Rattle.std.proofs.Common.{sym, arith}
use Rattle.yew_words.proofs.SettingsKept.{narrow_kept}
use Rattle.yew_words.proofs.making.number.Goals as goal

pub overflow_cast-result : goal.overflow_cast-result
overflow_cast-result c =
    let narrow = narrow_kept c.args.head c.args.settings.now c.requires.kept c.args.name c.requires.narrow c.in-Some.number (sym c.in-Some.ensures) in
    omega (arith, narrow)
