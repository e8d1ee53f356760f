-- The reason that a refusal of the code stands for, that of an end of reading, and the text of a piece of a line.
use Rattle.std.specs.Prelude.{ℕ, List, decimal}
use Rattle.yew_text.specs.declared.text.FileEnd.{FileEnd}
use Rattle.yew_text.specs.declared.text.FileEnd.TheVariants as ends
use Rattle.yew_app.specs.declared.refusal.Refusal.{Refusal}
use Rattle.yew_app.specs.declared.refusal.Refusal.TheVariants as refusals
use Rattle.yew_app.specs.declared.refusal.Piece.{Piece}
use Rattle.yew_app.specs.declared.refusal.Piece.TheVariants as pieces
use Rattle.yew_app.specs.Refusals.{Reason, BadUsage, CannotRead, NotInGrammar, TooLong, TooLarge, CannotWrite, NoMemory, FullAudit, TaskPastLimit}

abbrev pub reason_of : Refusal → Reason
reason_of (refusals.Usage usage) = BadUsage usage.place usage.kind
reason_of (refusals.ReadFault name) = CannotRead name.now
reason_of (refusals.NotInGrammar name fault) = NotInGrammar name.now fault.line fault.kind
reason_of (refusals.TooLong name) = TooLong name.now
reason_of (refusals.TooLarge name number limit) = TooLarge name.now number limit
reason_of refusals.WriteFault = CannotWrite
reason_of refusals.Memory = NoMemory
reason_of (refusals.AuditFull worker entries numbers) = FullAudit worker entries numbers
reason_of (refusals.TaskPastLimit number) = TaskPastLimit number

-- why a file of this name gives nothing, where its bytes were read
abbrev pub reason_of_end : List ℕ → FileEnd → Reason
reason_of_end name (ends.Refused fault) = NotInGrammar name fault.line fault.kind
reason_of_end name (ends.TooLarge number limit) = TooLarge name number limit
reason_of_end name ends.Memory = NoMemory

abbrev pub piece_text : Piece → List ℕ
piece_text (pieces.Text text) = text.now
piece_text (pieces.Name name) = name.now
piece_text (pieces.Number number) = decimal number
