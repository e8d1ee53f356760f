-- One log more, and where the logs end.
use Rattle.std.proofs.Common.{◌≡◌, ◌+◌, ◌-◌, ◌++◌, take, drop, ◌<◌, ◌≤◌, suc, [], ◌∷◌, length, map, ap, sym, subst, ◌∙◌, arith}
use Rattle.std.specs.List.{AllByRecursion}
use Rattle.std.proofs.lemmas.List.{length-map, map-append, length-append, length-drop, take_all}
use Rattle.yew_laws.proofs.Members.{AllByRecursion-append}
use Rattle.yew_log.specs.Entries.{entry_notes}
use Rattle.yew_check.specs.Audits.{most_workers, worker_line, logs_lines}
use Rattle.yew_check.specs.Entries.{IsWithin}
use Rattle.yew_check.specs.Reading.{texts, IsLog}
use Rattle.yew_check.proofs.LogRuns.{logs-end, not_worker, log-more}
use Rattle.yew_check.proofs.reading.read_logs.Goals as goal

pub returns-then-not-is_worker_line : goal.returns-then-not-is_worker_line
returns-then-not-is_worker_line c =
    let lines = c.args.lines.now in
    let read = c.loop-number.read in
    let logs = map (λ log. entry_notes log.items) c.loop-number.logs.items in
    let long : length logs ≡ c.loop-number.number = length-map c.loop-number.logs.items (λ log. entry_notes log.items) ∙ c.loop-number.invariant.count in
    let all = length-map lines (λ t. t.now) in
    let less : read < length lines = omega arith in
    let number : c.loop-number.number + 1 ≡ suc (length logs) = omega arith in
    let ne = not_worker (λ t. t.now) lines read (record { ref_ptr = (0, 0); now = [] }) (c.loop-number.number + 1) less c.if-not-is_worker_line.ensures in
    let within : read ≤ length (texts lines) = omega arith in
    let few : length logs ≤ most_workers = omega arith in
    logs-end (texts lines) logs read within c.loop-number.invariant.lines_are few c.loop-number.invariant.within
    (λ some. c.loop-number.invariant.stops (omega arith))
    (λ text more e fits is. ne text more e (is ∙ ap (λ n. worker_line n) (sym number)))

pub loop-number-preserved : goal.loop-number-preserved
loop-number-preserved c =
    let lines = c.args.lines.now in
    let read = c.loop-number.read in
    let logs = map (λ log. entry_notes log.items) c.loop-number.logs.items in
    let log = c.in_ok-log.log in
    let long : length logs ≡ c.loop-number.number = length-map c.loop-number.logs.items (λ log. entry_notes log.items) ∙ c.loop-number.invariant.count in
    let less : read < length lines = omega arith in
    let number : c.loop-number.number + 1 ≡ length logs + 1 = omega arith in
    let left = length-drop (read + 1) lines in
    let rest : take (length lines - (read + 1)) (drop (read + 1) lines) ≡ drop (read + 1) lines = take_all (length lines - (read + 1)) (drop (read + 1) lines) (omega arith) in
    let count : length log.items ≡ c.len.result = omega (arith, log.ok, c.len.ensures) in
    let l : IsLog (texts (drop (read + 1) lines)) (entry_notes log.items) c.len.result = subst (λ n. IsLog (texts (drop (read + 1) lines)) (entry_notes log.items) n) count (subst (λ ts. IsLog (texts ts) (entry_notes log.items) (length log.items)) rest c.in_ok-log.ensures) in
    let grown = log-more (λ t. t.now) lines read (record { ref_ptr = (0, 0); now = [] }) logs (entry_notes log.items) c.len.result less c.loop-number.invariant.lines_are (c.if-not-is_worker_line.ensures ∙ ap (λ n. worker_line n) number) l in
    let pushed = c.in_ok-push.ensures.items in
    let logs_are : map (λ log. entry_notes log.items) c.push.new.self.items ≡ logs ++ entry_notes log.items ∷ [] = ap (map (λ log. entry_notes log.items)) pushed ∙ map-append (λ log. entry_notes log.items) c.loop-number.logs.items (log ∷ []) in
    let longer = length-append c.loop-number.logs.items (log ∷ []) in
    record {
      lines_are = grown.0 ∙ ap (λ ls. logs_lines 1 ls ++ drop (read + (1 + c.len.result)) (texts lines)) (sym logs_are);
      count = ap length pushed ∙ longer ∙ omega arith;
      read = grown.1;
      within = subst (λ ls. AllByRecursion (λ log. AllByRecursion IsWithin log) ls) (sym logs_are) (AllByRecursion-append (λ log. AllByRecursion IsWithin log) logs (entry_notes log.items ∷ []) c.loop-number.invariant.within (l.within, tt));
      stops = λ some. grown.2;
    }
