-- The lines of a text, read up to a place behind the logs of its audit.
use Rattle.std.proofs.Common.{◌≡◌, ◌≢◌, ℕ, ◌+◌, ◌-◌, ◌<◌, List, [], ◌∷◌, ◌++◌, map, length, take, drop, refl, sym, ap, subst, ◌∙◌, append_assoc, append-nil, arith, inl, inr, length-drop, length-take}
use Rattle.std.proofs.lemmas.List.{length-append, drop-drop, drop-map, take_all}
use Rattle.yew_text.specs.declared.text.TextKind.{TextKind}
use Rattle.yew_text.specs.Words.{end_line}
use Rattle.yew_log.specs.Notes.{Note}
use Rattle.yew_check.specs.Audits.{first_line, last_line, logs_lines, AreRead, IsAudit, HasEnded, HasSurplus, HasMisfit, HasOffence}
use Rattle.yew_check.specs.Lines.{text_lines}
use Rattle.yew_check.specs.Reading.{StopsLogs, IsHead, AreLogs, IsFaultAt}

-- so many lines are a head and logs, and what is left of logs does not go on
pub record IsReached (lines : List (List ℕ)) (head : List ℕ) (logs : List (List Note)) (place : ℕ) : Type 0 where
  pub read : List (List ℕ)
  pub are_read : AreRead read head logs
  pub lines_are : lines ≡ read ++ drop place lines
  pub length_is : length read ≡ place
  pub stops : StopsLogs logs (drop place lines)

pub reached : (lines : List (List ℕ)) (head : List ℕ) (logs : List (List Note)) (before count : ℕ) → IsHead lines head before → AreLogs (drop (before + 1) lines) logs count → IsReached lines head logs (before + 1 + count)
reached lines head logs before count h l =
    let front = take before lines in
    let behind : drop count (drop (before + 1) lines) ≡ drop (before + 1 + count) lines = drop-drop count (before + 1) lines in
    let fits = h.within in
    let inner = l.count_is in
    let front_long = length-take before lines in
    let rest_long = length-drop (before + 1) lines in
    let left_long = length-drop count (drop (before + 1) lines) in
    let logs_long = ap length l.lines_are ∙ length-append (logs_lines 1 logs) (drop count (drop (before + 1) lines)) in
    let long = length-append front (first_line ∷ logs_lines 1 logs) in
    record {
      read = front ++ first_line ∷ logs_lines 1 logs;
      are_read = record { before = front; no_audit = h.no_audit; head_is = h.head_is; lines_are = refl; within = l.within };
      lines_are = h.audit_follows ∙ ap (λ ts. front ++ first_line ∷ ts) (l.lines_are ∙ ap (λ ts. logs_lines 1 logs ++ ts) behind) ∙ sym (append_assoc front (first_line ∷ logs_lines 1 logs) (drop (before + 1 + count) lines));
      length_is = long ∙ omega arith;
      stops = subst (StopsLogs logs) behind l.stops;
    }

pub audit-reached : (bytes head : List ℕ) (logs : List (List Note)) (place : ℕ) → IsReached (text_lines bytes) head logs place → drop place (text_lines bytes) ≡ last_line ∷ [] → IsAudit bytes head logs
audit-reached bytes head logs place r last = record { read = r.read; are_read = r.are_read; lines_are = r.lines_are ∙ ap (λ ts. r.read ++ ts) last }

module _ (bytes head : List ℕ) (logs : List (List Note)) (place end : ℕ) (end_is : end ≡ end_line bytes) (r : IsReached (text_lines bytes) head logs place) where
  ended : drop place (text_lines bytes) ≡ [] → HasEnded bytes end
  ended none =
      let whole : r.read ≡ text_lines bytes = sym (append-nil r.read) ∙ sym (r.lines_are ∙ ap (λ ts. r.read ++ ts) none) in
      record { at_end = end_is; too_short = inr (head, logs, subst (λ ts. AreRead ts head logs) whole r.are_read) }

  misfit : (text : List ℕ) (more : List (List ℕ)) → drop place (text_lines bytes) ≡ text ∷ more → text ≢ last_line → HasMisfit bytes (place + 1)
  misfit text more is ne =
      let stops : StopsLogs logs (text ∷ more) = subst (StopsLogs logs) is r.stops in
      record {
        read = r.read;
        head = head;
        logs = logs;
        are_read = r.are_read;
        text = text;
        more = more;
        lines_are = r.lines_are ∙ ap (λ ts. r.read ++ ts) is;
        misfit = record { not_last = ne; not_worker = stops.0; not_entry = stops.1 };
        at_line = ap (λ k. k + 1) (sym r.length_is);
      }

  surplus : (text : List ℕ) (more : List (List ℕ)) → drop place (text_lines bytes) ≡ text ∷ more → text ≡ last_line → 0 < length more → HasSurplus bytes (place + 2)
  surplus text more is last some = record {
    head = head;
    logs = logs;
    more = more;
    is_audit = (r.read, r.are_read, r.lines_are ∙ ap (λ ts. r.read ++ ts) (is ∙ ap (λ (t : List ℕ). t ∷ more) last), some, ap (λ k. k + 2) (sym r.length_is));
  }

  pub offence-reached : (kind : TextKind) (at : ℕ) → (ts : List (List ℕ)) → drop place (text_lines bytes) ≡ ts → IsFaultAt ts place end (record { kind = kind; line = at }) → HasOffence bytes kind at
  offence-reached kind at [] is fault = subst (λ k. HasOffence bytes k at) (sym fault.0) (subst (HasEnded bytes) (sym fault.1) (ended is))
  offence-reached kind at (text ∷ more) is fault = elim fault [
    | inl bad ↦ subst (λ k. HasOffence bytes k at) (sym bad.1) (subst (HasMisfit bytes) (sym bad.2) (misfit text more is bad.0))
    | inr over ↦ subst (λ k. HasOffence bytes k at) (sym over.2) (subst (HasSurplus bytes) (sym over.3) (surplus text more is over.0 over.1))
  ]

module _ {X : Type 0} (now : X → List ℕ) (xs : List X) (bytes head : List ℕ) (logs : List (List Note)) (before count : ℕ) (same : map now xs ≡ text_lines bytes) (h : IsHead (map now xs) head before) (l : AreLogs (map now (take (length xs - (before + 1)) (drop (before + 1) xs))) logs count) where
  reached-text : IsReached (text_lines bytes) head logs (before + 1 + count)
  reached-text =
      let left = length-drop (before + 1) xs in
      let rest : take (length xs - (before + 1)) (drop (before + 1) xs) ≡ drop (before + 1) xs = take_all (length xs - (before + 1)) (drop (before + 1) xs) (omega arith) in
      let moved : AreLogs (drop (before + 1) (map now xs)) logs count = subst (λ ts. AreLogs ts logs count) (ap (map now) rest ∙ sym (drop-map now (before + 1) xs)) l in
      subst (λ ts. IsReached ts head logs (before + 1 + count)) same (reached (map now xs) head logs before count h moved)

  pub text-audit : drop (before + 1 + count) (map now xs) ≡ last_line ∷ [] → IsAudit bytes head logs
  text-audit last = audit-reached bytes head logs (before + 1 + count) reached-text (ap (drop (before + 1 + count)) (sym same) ∙ last)

  pub text-offence : (end : ℕ) (kind : TextKind) (at : ℕ) → end ≡ end_line bytes → IsFaultAt (drop (before + 1 + count) (map now xs)) (before + 1 + count) end (record { kind = kind; line = at }) → HasOffence bytes kind at
  text-offence end kind at end_is fault =
      offence-reached bytes head logs (before + 1 + count) end end_is reached-text kind at (drop (before + 1 + count) (map now xs)) (ap (drop (before + 1 + count)) (sym same)) fault
