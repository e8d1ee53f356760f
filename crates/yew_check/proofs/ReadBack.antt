-- What is written of logs is read back.
use Rattle.std.proofs.Common.{◌≡◌, ◌≢◌, ℕ, suc, ◌+◌, ◌-◌, ◌≤◌, List, [], ◌∷◌, ◌++◌, map, length, take, get_or, false, cond, refl, sym, ap, ap₂, ◌∙◌, append_assoc, arith, length-append}
use Rattle.std.specs.Prelude.{codes, decimal, slice_index, ◌==◌}
use Rattle.std.specs.List.{All, AllByRecursion, flat_map, slice_split}
use Rattle.std.proofs.lemmas.Bool.{ne_eqb}
use Rattle.std.proofs.lemmas.List.{take-append-le, take_all}
use Rattle.std.proofs.lemmas.List.Concat.{flat_map-append}
use Rattle.std.proofs.lemmas.List.Elements.{All-from_recursion}
use Rattle.std.proofs.lemmas.List.Splits.{slice_split_at, slice_split_none}
use Rattle.yew_laws.proofs.Members.{AllByRecursion-append, AllByRecursion-weaker}
use Rattle.yew_lines.specs.Spelling.{line, spaced}
use Rattle.yew_text.specs.Words.{is_newline}
use Rattle.yew_log.specs.AuditText.{path_text, note_line, workers_text, audit_text}
use Rattle.yew_log.specs.Notes.{Note, taken, visited, cut, spawned, handed, ended}
use Rattle.yew_check.specs.Audits.{first_line, worker_line, last_line, log_lines, logs_lines, most_workers, AreWithin, IsHeadText, IsAudit}
use Rattle.yew_check.specs.Entries.{IsWithin, note_text}
use Rattle.yew_check.specs.Lines.{without_end, text_lines, IsLineText}
use Rattle.yew_check.proofs.Cutting.{all-append}
use Rattle.yew_check.proofs.EntryTexts.{note-without}
use Rattle.yew_check.proofs.Numerals.{decimal-without}

-- ---- the text of an audit is its lines

two-numbers : (word path : List ℕ) (a b : ℕ) → word ++ path ++ spaced a ++ spaced b ≡ word ++ (path ++ 32 ∷ (decimal a ++ 32 ∷ decimal b))
two-numbers word path a b =
    append_assoc (word ++ path) (spaced a) (spaced b)
    ∙ append_assoc word path (spaced a ++ spaced b)

note-lines : (note : Note) → note_line note ≡ line (note_text note)
note-lines (taken path) = refl
note-lines (visited path worth held) = ap line (two-numbers (codes "visit ") (path_text path) worth held)
note-lines (cut path bound held) = ap line (two-numbers (codes "cut ") (path_text path) bound held)
note-lines (spawned path) = refl
note-lines (handed path) = refl
note-lines (ended path) = refl

log-text : (log : List Note) → flat_map note_line log ≡ flat_map line (map note_text log)
log-text [] = refl
log-text (note ∷ log) = ap₂ (λ (xs ys : List ℕ). xs ++ ys) (note-lines note) (log-text log)

workers-lines : (n : ℕ) (logs : List (List Note)) → workers_text n logs ≡ flat_map line (logs_lines n logs)
workers-lines n [] = refl
workers-lines n (log ∷ logs) =
    ap₂ (λ (xs ys : List ℕ). line (worker_line n) ++ xs ++ ys) (log-text log) (workers-lines (suc n) logs)
    ∙ sym (flat_map-append line (log_lines n log) (logs_lines (suc n) logs))

-- ---- lines put together and cut again

is-newline-not : (b : ℕ) → b ≢ 10 → is_newline b ≡ false
is-newline-not b ne = ne_eqb b 10 ne

no-newline : (text : List ℕ) → IsLineText text → All (λ b. is_newline b ≡ false) text
no-newline text out = All-from_recursion (λ b. is_newline b ≡ false) text (AllByRecursion-weaker (λ b. b ≢ 10) (λ b. is_newline b ≡ false) is-newline-not text out)

lines-cut : (texts : List (List ℕ)) (last : List ℕ) → AllByRecursion IsLineText texts → IsLineText last → slice_split is_newline (flat_map line texts ++ last) ≡ texts ++ last ∷ []
lines-cut [] last out end = slice_split_none is_newline last (no-newline last end)
lines-cut (text ∷ texts) last out end =
    ap (slice_split is_newline) (append_assoc (line text) (flat_map line texts) last ∙ append_assoc text (10 ∷ []) (flat_map line texts ++ last))
    ∙ slice_split_at is_newline text 10 (flat_map line texts ++ last) (no-newline text out.0) refl
    ∙ ap (λ (ts : List (List ℕ)). text ∷ ts) (lines-cut texts last out.1 end)

last-there : (text : List ℕ) → get_or (text ++ 10 ∷ []) (length text) 0 ≡ 10
last-there [] = refl
last-there (b ∷ text) = last-there text

without-line : (text : List ℕ) → without_end (text ++ 10 ∷ []) ≡ text
without-line text =
    let long = length-append text (10 ∷ []) in
    let place : length (text ++ 10 ∷ []) - 1 ≡ length text = omega arith in
    let here : slice_index (text ++ 10 ∷ []) (length (text ++ 10 ∷ []) - 1) ≡ 10 = ap (λ k. get_or (text ++ 10 ∷ []) k 0) place ∙ last-there text in
    ap (λ b. cond (b == 10) (take (length (text ++ 10 ∷ []) - 1) (text ++ 10 ∷ [])) (text ++ 10 ∷ [])) here
    ∙ ap (λ k. take k (text ++ 10 ∷ [])) place
    ∙ take-append-le (length text) text (10 ∷ []) (omega arith)
    ∙ take_all (length text) text (omega arith)

-- the lines of lines
pub lines-of_lines : (texts : List (List ℕ)) (last : List ℕ) → AllByRecursion IsLineText texts → IsLineText last → text_lines (flat_map line texts ++ line last) ≡ texts ++ last ∷ []
lines-of_lines texts last out end =
    ap (slice_split is_newline) (ap without_end (sym (append_assoc (flat_map line texts) last (10 ∷ []))) ∙ without-line (flat_map line texts ++ last))
    ∙ lines-cut texts last out end

-- ---- no line of an audit has a line feed

worker-plain : (n : ℕ) → n ≤ most_workers → IsLineText (worker_line n)
worker-plain n few =
    all-append (λ b. b ≢ 10) (codes "worker ") (decimal n)
    ((λ e. absurd (omega arith)), ((λ e. absurd (omega arith)), ((λ e. absurd (omega arith)), ((λ e. absurd (omega arith)), ((λ e. absurd (omega arith)), ((λ e. absurd (omega arith)), ((λ e. absurd (omega arith)), tt)))))))
    (decimal-without 10 n (omega arith) (omega arith))

notes-plain : (log : List Note) → AllByRecursion IsWithin log → AllByRecursion IsLineText (map note_text log)
notes-plain [] w = tt
notes-plain (note ∷ log) w = (note-without 10 (omega arith) note w.0, notes-plain log w.1)

logs-plain : (n : ℕ) (logs : List (List Note)) → n + length logs ≤ suc most_workers → AllByRecursion (λ log. AllByRecursion IsWithin log) logs → AllByRecursion IsLineText (logs_lines n logs)
logs-plain n [] few w = tt
logs-plain n (log ∷ logs) few w =
    (worker-plain n (omega arith), AllByRecursion-append IsLineText (map note_text log) (logs_lines (suc n) logs) (notes-plain log w.0) (logs-plain (suc n) logs (omega arith) w.1))

first-plain : IsLineText first_line
first-plain = ((λ e. absurd (omega arith)), ((λ e. absurd (omega arith)), ((λ e. absurd (omega arith)), ((λ e. absurd (omega arith)), ((λ e. absurd (omega arith)), ((λ e. absurd (omega arith)), ((λ e. absurd (omega arith)), tt)))))))

last-plain : IsLineText last_line
last-plain = ((λ e. absurd (omega arith)), ((λ e. absurd (omega arith)), ((λ e. absurd (omega arith)), ((λ e. absurd (omega arith)), tt))))

-- a head and the audit of logs are read as they are
pub read-back : (head : List ℕ) (logs : List (List Note)) → IsHeadText head → AreWithin logs → IsAudit (head ++ audit_text logs) head logs
read-back head logs h w =
    let read = h.lines ++ first_line ∷ logs_lines 1 logs in
    let few = w.workers in
    let plain : AllByRecursion IsLineText read = AllByRecursion-append IsLineText h.lines (first_line ∷ logs_lines 1 logs) h.plain (first-plain, logs-plain 1 logs (omega arith) w.entries) in
    let middle : line first_line ++ workers_text 1 logs ≡ flat_map line (first_line ∷ logs_lines 1 logs) = ap (λ (ts : List ℕ). line first_line ++ ts) (workers-lines 1 logs) in
    let whole : head ++ audit_text logs ≡ flat_map line read ++ line last_line =
    ap₂ (λ (us vs : List ℕ). us ++ (vs ++ line last_line)) h.head_is middle
    ∙ sym (append_assoc (flat_map line h.lines) (flat_map line (first_line ∷ logs_lines 1 logs)) (line last_line))
    ∙ ap (λ (ts : List ℕ). ts ++ line last_line) (sym (flat_map-append line h.lines (first_line ∷ logs_lines 1 logs))) in
    record {
      read = read;
      are_read = record { before = h.lines; no_audit = h.no_audit; head_is = h.head_is; lines_are = refl; within = w };
      lines_are = ap text_lines whole ∙ lines-of_lines read last_line plain last-plain;
    }
