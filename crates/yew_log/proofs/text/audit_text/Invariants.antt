use Rattle.std.proofs.Common.{◌≡◌, ◌++◌, map, take}
use Rattle.std.specs.Prelude.{codes}
use Rattle.yew_lines.specs.Spelling.{line}
use Rattle.yew_log.specs.AuditText.{workers_text}
use Rattle.yew_log.proofs.text.audit_text.Given as goal

-- the first logs are there
abbrev pub invariant-loop-place : goal.invariant-loop-place
invariant-loop-place l =
    l.out.items ≡ line (codes "audit 1") ++ workers_text 1 (map (λ log. log.notes) (take l.place l.logs))
