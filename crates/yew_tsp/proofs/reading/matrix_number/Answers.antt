use Rattle.std.proofs.Common.{◌∙◌, sym, subst}
use Rattle.yew_text.specs.Reading.{text_word, PassesWord}
use Rattle.yew_tsp.proofs.MatrixWords.{matrix-refused}
use Rattle.yew_tsp.proofs.reading.matrix_number.Goals as goal

pub returns-in_default-clause-taken : goal.returns-in_default-clause-taken
returns-in_default-clause-taken c =
    matrix-refused c.args.cursor.now c.number.new.self c.in-Err.fault c.word.new.self c.in-Err.ensures.taken (text_word c.in-Some.word) (subst (λ at. PassesWord at (text_word c.in-Some.word) c.word.new.self) c.in-Err.ensures.taken.taken c.in-Some.ensures.taken) (sym c.is_ending.ensures ∙ c.if-is_ending.false)
