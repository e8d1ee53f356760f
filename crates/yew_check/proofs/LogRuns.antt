-- The lines of logs, one log longer.
use Rattle.std.proofs.Common.{◌≡◌, ◌≢◌, ℕ, suc, ◌+◌, ◌<◌, ◌≤◌, List, [], ◌∷◌, ◌++◌, length, get_or, drop, map, refl, sym, ap, ap₂, subst, ◌∙◌, append_assoc, append-nil, arith, length-drop}
use Rattle.std.specs.List.{AllByRecursion}
use Rattle.std.proofs.lemmas.List.{drop-map, length-map, drop-drop, drop_all}
use Rattle.yew_log.specs.Notes.{Note}
use Rattle.yew_check.specs.Audits.{worker_line, logs_lines, log_lines, most_workers}
use Rattle.yew_check.specs.Entries.{IsWithin, note_text}
use Rattle.yew_check.specs.Reading.{StopsLog, StopsLogs, IsLog, AreLogs}
use Rattle.yew_check.proofs.LineRuns.{at-drop}

pub logs_lines-push : (n : ℕ) (logs : List (List Note)) (log : List Note) → logs_lines n (logs ++ log ∷ []) ≡ logs_lines n logs ++ log_lines (n + length logs) log
logs_lines-push n [] log = let same : n ≡ n + 0 = omega arith in append-nil (log_lines n log) ∙ ap (λ k. log_lines k log) same
logs_lines-push n (x ∷ xs) log =
    let same : suc n + length xs ≡ n + suc (length xs) = omega arith in
    ap (λ ts. log_lines n x ++ ts) (logs_lines-push (suc n) xs log ∙ ap (λ k. logs_lines (suc n) xs ++ log_lines k log) same)
    ∙ sym (append_assoc (log_lines n x) (logs_lines (suc n) xs) (log_lines (n + length (x ∷ xs)) log))

abbrev EachWithin : List (List Note) → Type 0
EachWithin logs = AllByRecursion (λ log. AllByRecursion IsWithin log) logs

stops-logs : (logs : List (List Note)) (lines : List (List ℕ)) → (0 < length logs → StopsLog lines) → ((text : List ℕ) (more : List (List ℕ)) → lines ≡ text ∷ more → length logs < most_workers → text ≢ worker_line (suc (length logs))) → StopsLogs logs lines
stops-logs logs [] stops none = tt
stops-logs logs (text ∷ more) stops none = (none text more refl, stops)

-- the logs of lines where the next line is none of a worker, or where there may be no more workers
pub logs-end : (lines : List (List ℕ)) (logs : List (List Note)) (read : ℕ) → read ≤ length lines → lines ≡ logs_lines 1 logs ++ drop read lines → length logs ≤ most_workers → EachWithin logs → (0 < length logs → StopsLog (drop read lines)) → ((text : List ℕ) (more : List (List ℕ)) → drop read lines ≡ text ∷ more → length logs < most_workers → text ≢ worker_line (suc (length logs))) → AreLogs lines logs read
logs-end lines logs read fits is few within stops none = record {
  count_is = fits;
  lines_are = is;
  within = record { workers = few; entries = within };
  stops = stops-logs logs (drop read lines) stops none;
}

pub none-left : (lines : List (List ℕ)) (read number : ℕ) → read ≡ length lines → (text : List ℕ) (more : List (List ℕ)) → drop read lines ≡ text ∷ more → text ≢ worker_line number
none-left lines read number end text more e = let none = drop_all read lines (omega arith) in let bad : [] ≡ text ∷ more = sym none ∙ e in absurd (cc)

module _ {X : Type 0} (now : X → List ℕ) (xs : List X) (read : ℕ) (d : X) where
  pub not_worker : (number : ℕ) → read < length xs → now (get_or xs read d) ≢ worker_line number → (text : List ℕ) (more : List (List ℕ)) → drop read (map now xs) ≡ text ∷ more → text ≢ worker_line number
  not_worker number less ne text more e is =
      let both = sym (at-drop now xs read d less) ∙ e in
      let same : now (get_or xs read d) ≡ text = cc in
      ne (same ∙ is)

  -- one log more
  pub log-more : (logs : List (List Note)) (log : List Note) (count : ℕ) → read < length xs → map now xs ≡ logs_lines 1 logs ++ drop read (map now xs) → now (get_or xs read d) ≡ worker_line (length logs + 1) → IsLog (map now (drop (read + 1) xs)) log count
      → (map now xs ≡ logs_lines 1 (logs ++ log ∷ []) ++ drop (read + (1 + count)) (map now xs)) × (read + (1 + count) ≤ length xs) × StopsLog (drop (read + (1 + count)) (map now xs))
  log-more logs log count less is worker l =
      let all = length-map xs now in
      let rest = drop-map now (read + 1) xs in
      let same : (read + 1) + count ≡ read + (1 + count) = omega arith in
      let number : length logs + 1 ≡ 1 + length logs = omega arith in
      let further : drop count (map now (drop (read + 1) xs)) ≡ drop (read + (1 + count)) (map now xs) = ap (drop count) (sym rest) ∙ drop-drop count (read + 1) (map now xs) ∙ ap (λ k. drop k (map now xs)) same in
      let long = length-map (drop (read + 1) xs) now in
      let left = length-drop (read + 1) xs in
      let within = l.count_is in
      let lines = at-drop now xs read d less ∙ ap₂ (λ (t : List ℕ) (ts : List (List ℕ)). t ∷ ts) (worker ∙ ap (λ n. worker_line n) number) (rest ∙ l.lines_are ∙ ap (λ ts. map note_text log ++ ts) further) in (
        is ∙ ap (λ ts. logs_lines 1 logs ++ ts) lines ∙ sym (append_assoc (logs_lines 1 logs) (log_lines (1 + length logs) log) (drop (read + (1 + count)) (map now xs))) ∙ ap (λ ts. ts ++ drop (read + (1 + count)) (map now xs)) (sym (logs_lines-push 1 logs log)),
        omega arith,
        subst StopsLog further l.stops,
      )
