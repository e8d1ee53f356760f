-- What contracts see of an audited text.
use Rattle.std.specs.Prelude.{◌≡◌, ℕ, List, Result, Ok, Err}
use Rattle.yew_text.specs.declared.text.TextKind.{TextKind}
use Rattle.yew_text.specs.declared.text.FileEnd.{FileEnd}
use Rattle.yew_text.specs.declared.text.FileEnd.TheVariants.{Refused, TooLarge, Memory}
use Rattle.yew_log.specs.Notes.{Note}
use Rattle.yew_check.specs.Audits.{HasOffence}

-- the bytes of its head, and its logs
pub record AuditValue : Type 0 where
  pub head : List ℕ
  pub logs : List (List Note)

-- why there is none
abbrev pub EndsReading : List ℕ → FileEnd → Type 0
EndsReading bytes (Refused fault) = HasOffence bytes fault.kind fault.line
EndsReading bytes (TooLarge number limit) = ⊥
EndsReading bytes Memory = Unit {0}

-- the answer is this audit, or want of memory
abbrev pub AnswersAudit : List ℕ → List (List Note) → Result AuditValue FileEnd → Type 0
AnswersAudit head logs (Ok file) = (file.head ≡ head) × (file.logs ≡ logs)
AnswersAudit head logs (Err (Refused fault)) = ⊥
AnswersAudit head logs (Err (TooLarge number limit)) = ⊥
AnswersAudit head logs (Err Memory) = Unit {0}

-- the answer is this offence, or want of memory
abbrev pub AnswersOffence : TextKind → ℕ → Result AuditValue FileEnd → Type 0
AnswersOffence kind line (Ok file) = ⊥
AnswersOffence kind line (Err (Refused fault)) = (fault.kind ≡ kind) × (fault.line ≡ line)
AnswersOffence kind line (Err (TooLarge number limit)) = ⊥
AnswersOffence kind line (Err Memory) = Unit {0}
