-- What an audited text is, and what may be wrong with it.
use Rattle.std.specs.Prelude.{◌≡◌, ◌≢◌, ℕ, suc, ◌+◌, ◌<◌, ◌≤◌, ◌⊎◌, List, [], ◌∷◌, ◌++◌, map, length, codes, decimal}
use Rattle.std.specs.List.{AllByRecursion, flat_map}
use Rattle.yew_lines.specs.Spelling.{line}
use Rattle.yew_text.specs.declared.text.TextKind.{TextKind}
use Rattle.yew_text.specs.declared.text.TextKind.TheVariants.{NotNumber, TooBig, EndsEarly, Surplus, BadLine}
use Rattle.yew_text.specs.Words.{end_line}
use Rattle.yew_log.specs.Notes.{Note}
use Rattle.yew_check.specs.Entries.{IsWithin, note_text}
use Rattle.yew_check.specs.Lines.{text_lines, IsLineText}

-- the line with which an audit begins, that of a worker, and the last line
abbrev pub first_line : List ℕ
first_line = codes "audit 1"

abbrev pub worker_line : ℕ → List ℕ
worker_line number = codes "worker " ++ decimal number

abbrev pub last_line : List ℕ
last_line = codes "done"

-- the most workers that an audit may have
abbrev pub most_workers : ℕ
most_workers = 64

-- the lines of one worker's log, and of the logs of the workers from this number on
abbrev pub log_lines : ℕ → List Note → List (List ℕ)
log_lines number log = worker_line number ∷ map note_text log

abbrev pub logs_lines : ℕ → List (List Note) → List (List ℕ)
logs_lines number [] = []
logs_lines number (log ∷ logs) = log_lines number log ++ logs_lines (suc number) logs

-- logs that a text may have
pub record AreWithin (logs : List (List Note)) : Type 0 where
  pub workers : length logs ≤ most_workers
  pub entries : AllByRecursion (λ log. AllByRecursion IsWithin log) logs

-- no line is the first one of an audit
abbrev pub HasNoAudit : List (List ℕ) → Type 0
HasNoAudit lines = AllByRecursion (λ text. text ≢ first_line) lines

-- a text that may stand before an audit: lines, each with its line feed, of which none is the first line of an audit
pub record IsHeadText (head : List ℕ) : Type 0 where
  pub lines : List (List ℕ)
  pub plain : AllByRecursion IsLineText lines
  pub no_audit : HasNoAudit lines
  pub head_is : head ≡ flat_map line lines

-- these lines are a head, the first line of an audit, which is the first such line, and the lines of these logs
pub record AreRead (lines : List (List ℕ)) (head : List ℕ) (logs : List (List Note)) : Type 0 where
  pub before : List (List ℕ)
  pub no_audit : HasNoAudit before
  pub head_is : head ≡ flat_map line before
  pub lines_are : lines ≡ before ++ first_line ∷ logs_lines 1 logs
  pub within : AreWithin logs

-- the text is this head and the audit of these logs
pub record IsAudit (bytes head : List ℕ) (logs : List (List Note)) : Type 0 where
  pub read : List (List ℕ)
  pub are_read : AreRead read head logs
  pub lines_are : text_lines bytes ≡ read ++ last_line ∷ []

-- this line cannot stand behind these logs: it is not the last line, nor that of the next worker, if there may be one more,
-- nor, behind the line of a worker, that of an entry
pub record IsMisfit (logs : List (List Note)) (text : List ℕ) : Type 0 where
  pub not_last : text ≢ last_line
  pub not_worker : length logs < most_workers → text ≢ worker_line (suc (length logs))
  pub not_entry : 0 < length logs → (note : Note) → IsWithin note → text ≢ note_text note

-- the text ends before its last line: without the first line of an audit, or behind these logs
pub record HasEnded (bytes : List ℕ) (at : ℕ) : Type 0 where
  pub at_end : at ≡ end_line bytes
  pub too_short : HasNoAudit (text_lines bytes) ⊎ ((head : List ℕ) × (logs : List (List Note)) × AreRead (text_lines bytes) head logs)

-- something stands behind the last line
pub record HasSurplus (bytes : List ℕ) (at : ℕ) : Type 0 where
  pub head : List ℕ
  pub logs : List (List Note)
  pub more : List (List ℕ)
  pub is_audit : (read : List (List ℕ)) × AreRead read head logs × (text_lines bytes ≡ read ++ last_line ∷ more) × (0 < length more) × (at ≡ length read + 2)

-- a line does not fit
pub record HasMisfit (bytes : List ℕ) (at : ℕ) : Type 0 where
  pub read : List (List ℕ)
  pub head : List ℕ
  pub logs : List (List Note)
  pub are_read : AreRead read head logs
  pub text : List ℕ
  pub more : List (List ℕ)
  pub lines_are : text_lines bytes ≡ read ++ text ∷ more
  pub misfit : IsMisfit logs text
  pub at_line : at ≡ length read + 1

-- the first offence of a text, with its line
abbrev pub HasOffence : List ℕ → TextKind → ℕ → Type 0
HasOffence bytes EndsEarly at = HasEnded bytes at
HasOffence bytes Surplus at = HasSurplus bytes at
HasOffence bytes BadLine at = HasMisfit bytes at
HasOffence bytes NotNumber at = ⊥
HasOffence bytes TooBig at = ⊥
