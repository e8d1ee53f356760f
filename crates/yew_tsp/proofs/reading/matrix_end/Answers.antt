use Rattle.std.proofs.Common.{◌∙◌, refl, sym}
use Rattle.yew_text.specs.Reading.{text_word}
use Rattle.yew_tsp.proofs.MatrixWords.{surplus-word}
use Rattle.yew_tsp.proofs.reading.matrix_end.Goals as goal

pub returns-in-Some : goal.returns-in-Some
returns-in-Some c =
    surplus-word c.args.cursor.now c.word.new.self (text_word c.in-Some.word) c.in-Some.ensures.taken (sym c.is_ending.ensures ∙ c.if-not-is_ending.true) (record { kind = _; line = c.in-Some.word.line }) refl
