-- Why a run does not answer: the statuses, and the lines that say so.
use Rattle.std.specs.Prelude.{◌≡◌, ℕ, ◌^◌, List, [], ◌∷◌, ◌++◌, decimal, codes}
use Rattle.yew_words.specs.declared.plan.UsageKind.{UsageKind}
use Rattle.yew_words.specs.declared.plan.UsageKind.TheVariants as usage
use Rattle.yew_text.specs.declared.text.TextKind.{TextKind}
use Rattle.yew_text.specs.declared.text.TextKind.TheVariants as text

-- why a run did not answer; names of files as their bytes
pub data Reason : Type 0 where
  BadUsage : (place : ℕ) (kind : UsageKind) → Reason
  CannotRead : (name : List ℕ) → Reason
  NotInGrammar : (name : List ℕ) (at : ℕ) (kind : TextKind) → Reason
  TooLong : (name : List ℕ) → Reason
  TooLarge : (name : List ℕ) (number limit : ℕ) → Reason
  CannotWrite : Reason
  NoMemory : Reason
  FullAudit : (worker entries numbers : ℕ) → Reason
  TaskPastLimit : (number : ℕ) → Reason

abbrev pub usage_words : UsageKind → List ℕ
usage_words usage.Missing = codes "missing"
usage_words usage.Unknown = codes "unknown"
usage_words usage.NotFile = codes "not a file name"
usage_words usage.Repeated = codes "repeated"
usage_words usage.NotNumber = codes "not a number"
usage_words usage.OutOfRange = codes "out of range"
usage_words usage.NotHere = codes "not here"

abbrev pub text_words : TextKind → List ℕ
text_words text.NotNumber = codes "not a number"
text_words text.TooBig = codes "number too big"
text_words text.EndsEarly = codes "ends early"
text_words text.Surplus = codes "surplus"
text_words text.BadLine = codes "bad line"

-- the pieces one after another, and a line feed
abbrev pub line_of : List (List ℕ) → List ℕ
line_of [] = codes "\n"
line_of (piece ∷ pieces) = piece ++ line_of pieces

-- the line that is written to the sink of faults
abbrev pub fault_line : Reason → List ℕ
fault_line (BadUsage place kind) = line_of (codes "yew: " ∷ codes "word " ∷ decimal place ∷ codes ": " ∷ usage_words kind ∷ [])
fault_line (CannotRead name) = line_of (codes "yew: " ∷ name ∷ codes ": read fault" ∷ [])
fault_line (NotInGrammar name at kind) = line_of (codes "yew: " ∷ name ∷ codes ": line " ∷ decimal at ∷ codes ": " ∷ text_words kind ∷ [])
fault_line (TooLong name) = line_of (codes "yew: " ∷ name ∷ codes ": longer than 16777216 bytes" ∷ [])
fault_line (TooLarge name number limit) = line_of (codes "yew: " ∷ name ∷ codes ": " ∷ decimal number ∷ codes " is past " ∷ decimal limit ∷ [])
fault_line CannotWrite = line_of (codes "yew: " ∷ codes "write fault" ∷ [])
fault_line NoMemory = line_of (codes "yew: " ∷ codes "out of memory" ∷ [])
fault_line (FullAudit worker entries numbers) =
    line_of (codes "yew: worker " ∷ decimal worker ∷ codes ": audit full at " ∷ decimal entries ∷ codes " entries and " ∷ decimal numbers ∷ codes " numbers" ∷ [])
fault_line (TaskPastLimit number) = line_of (codes "yew: task number " ∷ decimal number ∷ codes " is past the limit" ∷ [])

abbrev pub status_of : Reason → ℕ
status_of (BadUsage place kind) = 1
status_of (CannotRead name) = 2
status_of (NotInGrammar name at kind) = 3
status_of (TooLong name) = 4
status_of (TooLarge name number limit) = 4
status_of CannotWrite = 5
status_of NoMemory = 6
status_of (FullAudit worker entries numbers) = 4
status_of (TaskPastLimit number) = 4

-- the audit of the first worker is full, or memory ran out
abbrev pub IsFullOrMemory : Reason → Type 0
IsFullOrMemory (FullAudit worker entries numbers) = worker ≡ 1
IsFullOrMemory NoMemory = Unit {0}
IsFullOrMemory _ = ⊥

-- a task would need the number 2^20, or the audit, where it is asked for, of the first worker is full, or memory ran out
abbrev pub IsPastOrFull : Type 0 → Reason → Type 0
IsPastOrFull asked_for (TaskPastLimit number) = number ≡ 2 ^ 20
IsPastOrFull asked_for (FullAudit worker entries numbers) = asked_for × (worker ≡ 1)
IsPastOrFull asked_for NoMemory = Unit {0}
IsPastOrFull asked_for _ = ⊥
