-- What the parts of the reader do.
use Rattle.std.specs.Prelude.{◌≡◌, ◌≢◌, ℕ, suc, ◌+◌, ◌<◌, ◌≤◌, ◌⊎◌, List, [], ◌∷◌, ◌++◌, length, map, drop, take}
use Rattle.std.specs.List.{AllByRecursion, flat_map}
use denote.Ref.{Bor}
use Rattle.yew_lines.specs.Spelling.{line}
use Rattle.yew_text.specs.declared.text.TextKind.TheVariants.{EndsEarly, Surplus, BadLine}
use Rattle.yew_text.specs.declared.text.TextFault.{TextFault}
use Rattle.yew_log.specs.Notes.{Note}
use Rattle.yew_check.specs.Audits.{first_line, worker_line, last_line, logs_lines, most_workers, HasNoAudit, AreWithin}
use Rattle.yew_check.specs.Entries.{IsWithin, note_text}

-- the texts of these lines, without where they lie in memory
abbrev pub texts : List (Bor (List ℕ)) → List (List ℕ)
texts lines = map (λ t. t.now) lines

-- the first of these lines, if there is one, is that of no entry
abbrev pub StopsLog : List (List ℕ) → Type 0
StopsLog [] = Unit {0}
StopsLog (text ∷ more) = (note : Note) → IsWithin note → text ≢ note_text note

-- the first of these lines, if there is one, is neither that of the next worker, if there may be one more, nor, behind the line of a worker, that of an entry
abbrev pub StopsLogs : List (List Note) → List (List ℕ) → Type 0
StopsLogs logs [] = Unit {0}
StopsLogs logs (text ∷ more) = (length logs < most_workers → text ≢ worker_line (suc (length logs))) × (0 < length logs → (note : Note) → IsWithin note → text ≢ note_text note)

-- the head of lines in which an audit begins, and how many lines it has
pub record IsHead (lines : List (List ℕ)) (head : List ℕ) (count : ℕ) : Type 0 where
  pub within : count < length lines
  pub audit_follows : lines ≡ take count lines ++ first_line ∷ drop (count + 1) lines
  pub no_audit : HasNoAudit (take count lines)
  pub head_is : head ≡ flat_map line (take count lines)

-- these entries, as many as this, are at the front of the lines, and no further one
pub record IsLog (lines : List (List ℕ)) (log : List Note) (count : ℕ) : Type 0 where
  pub count_is : count ≤ length lines
  pub lines_are : lines ≡ map note_text log ++ drop count lines
  pub within : AllByRecursion IsWithin log
  pub stops : StopsLog (drop count lines)

-- these logs, with so many lines, are at the front of the lines, and nothing further of logs
pub record AreLogs (lines : List (List ℕ)) (logs : List (List Note)) (count : ℕ) : Type 0 where
  pub count_is : count ≤ length lines
  pub lines_are : lines ≡ logs_lines 1 logs ++ drop count lines
  pub within : AreWithin logs
  pub stops : StopsLogs logs (drop count lines)

-- a fault of the first of these lines, before which so many lines stand: it is not the last line, or more lines stand behind it; or there is no line
abbrev pub IsFaultAt : List (List ℕ) → ℕ → ℕ → TextFault → Type 0
IsFaultAt [] read end fault = (fault.kind ≡ EndsEarly) × (fault.line ≡ end)
IsFaultAt (text ∷ more) read end fault =
    ((text ≢ last_line) × (fault.kind ≡ BadLine) × (fault.line ≡ read + 1))
    ⊎ ((text ≡ last_line) × (0 < length more) × (fault.kind ≡ Surplus) × (fault.line ≡ read + 2))
