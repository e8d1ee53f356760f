-- What is written behind an answer, of the logs of all workers, is the report and the audit of their entries.
use Rattle.std.proofs.Common.{◌≡◌, ℕ, suc, ◌+◌, List, [], ◌∷◌, ◌++◌, map, Bool, true, false, Some, None, inl, inr, refl, ap, sym, subst, ◌∙◌, arith, append-nil, append_assoc}
use Rattle.std.specs.Prelude.{if◌then◌else◌, IfSome, IsTrue, IsFalse}
use Rattle.yew_kinds.specs.Kinds.{gap_of}
use Rattle.yew_laws.specs.SearchTree.{SearchTree}
use Rattle.yew_log.specs.declared.entry.Totals.{Totals}
use Rattle.yew_log.specs.AuditFull.{MeetsLimits}
use Rattle.yew_log.specs.AuditText.{report_text, audit_text}
use Rattle.yew_log.specs.Logs.{CountsLog, FullLog}
use Rattle.yew_log.specs.Notes.{Note}
use Rattle.yew_log.specs.SeqLog.{seq_log}
use Rattle.yew_log.specs.Totals.{no_totals, make_totals, saturated_count, totals_sum, totals_after, totals_of}
use Rattle.yew_log.specs.WholeSearch.{IsFirstBest, joined, all_totals, tail_text}
use Rattle.yew_log.proofs.Walks.{totals_after-append}
use Rattle.yew_walk.specs.LogViews.{LogView, log_view}
use Rattle.yew_walk.specs.PlainSearch.{HasPlainLog}
use Rattle.yew_crew.specs.CrewSearch.{AreLogsOf}
use Rattle.yew_words.specs.declared.plan.Skeleton.{Skeleton}
use Rattle.yew_words.specs.declared.plan.Skeleton.TheVariants.{Sequential, Depth, Budget, Steal, Ordered}
use Rattle.yew_app.specs.Asks.{IsSequential, IsOrdered, FindsFirst, AsksFirst, IsAskable}
use Rattle.yew_app.specs.declared.asked.Asked.{Asked}
use Rattle.yew_app.specs.Meanings.{Meaning, searched, IsJobText}
use Rattle.yew_app.specs.Searches.{totals_from, joint_totals, IsAnswered}
use Rattle.yew_app.specs.Texts.{first_node, IsFirstText}
use Rattle.yew_app.proofs.PlainLogs.{one-log, audit-fits}

saturated-once : (a x : ℕ) → saturated_count (a + saturated_count (0 + x)) ≡ saturated_count (a + x)
saturated-once a x = omega arith

all_fields : {a b c d e a' b' c' d' e' : ℕ} → a ≡ a' → b ≡ b' → c ≡ c' → d ≡ d' → e ≡ e' → make_totals a b c d e ≡ make_totals a' b' c' d' e'
all_fields p q r s u = cc

sum-once : (t u : Totals) → totals_sum t (totals_sum no_totals u) ≡ totals_sum t u
sum-once t u =
    all_fields (saturated-once t.taken u.taken) (saturated-once t.spawned u.spawned) (saturated-once t.handed u.handed)
    (saturated-once t.visited u.visited) (saturated-once t.cut u.cut)

module _ {R : Type 0} (view : R → LogView) where
  -- the totals of logs, together, are those of all their entries
  totals_from-joined : (number : ℕ) (entries : List (List Note)) (logs : List R) (before : List Note) → AreLogsOf number entries (map view logs)
      → totals_from (totals_after no_totals before) (map (λ log. (view log).totals) logs) ≡ totals_after no_totals (before ++ joined entries)
  totals_from-joined number [] [] before are = ap (totals_after no_totals) (sym (append-nil before))
  totals_from-joined number [] (log ∷ logs) before are = absurd are
  totals_from-joined number (notes ∷ more) [] before are = absurd are
  totals_from-joined number (notes ∷ more) (log ∷ logs) before are =
      ap (λ u. totals_from (totals_sum (totals_after no_totals before) u) (map (λ l. (view l).totals) logs)) are.0.totals_are
      ∙ ap (λ u. totals_from u (map (λ l. (view l).totals) logs)) (sum-once (totals_after no_totals before) (totals_of notes) ∙ totals_after-append no_totals before notes)
      ∙ totals_from-joined (suc number) more logs (before ++ notes) are.1
      ∙ ap (totals_after no_totals) (append_assoc before notes (joined more))

  joint_totals-all : (entries : List (List Note)) (logs : List R) → AreLogsOf 1 entries (map view logs) → joint_totals (map (λ log. (view log).totals) logs) ≡ all_totals entries
  joint_totals-all entries logs are = totals_from-joined 1 entries logs [] are

  report-all : (report : Bool) (workers : ℕ) (entries : List (List Note)) (logs : List R) → AreLogsOf 1 entries (map view logs)
      → (if report then report_text workers (joint_totals (map (λ log. (view log).totals) logs)) else []) ≡ (if report then report_text workers (all_totals entries) else [])
  report-all report workers entries logs are = ap (λ (u : Totals). if report then report_text workers u else []) (joint_totals-all entries logs are)

  -- the one sequential log is the log of worker 1
  pub plain-are_logs : {N : Type 0} (t : SearchTree N) (gap : ℕ) (logs : List R) → HasPlainLog t gap view logs → AreLogsOf 1 (seq_log t gap ∷ []) (map view logs)
  plain-are_logs t gap [] has = absurd has
  plain-are_logs t gap (log ∷ []) has = (record { told = has.told; totals_are = has.totals_are; number_is = has.number_is }, tt)
  plain-are_logs t gap (log ∷ second ∷ more) has = absurd has

abbrev counts_view : CountsLog → LogView
counts_view log = log_view None log.totals log.number

abbrev full_view : FullLog → LogView
full_view log = log_view (Some log.notes) log.totals log.number

-- the entries that are told are those of the workers
notes-told : (number : ℕ) (entries : List (List Note)) (logs : List FullLog) → AreLogsOf number entries (map full_view logs) → map (λ (log : FullLog). log.notes) logs ≡ entries
notes-told number [] [] are = refl
notes-told number [] (log ∷ logs) are = absurd are
notes-told number (notes ∷ more) [] are = absurd are
notes-told number (notes ∷ more) (log ∷ logs) are =
    ap (λ ns. ns ∷ map (λ (l : FullLog). l.notes) logs) are.0.told ∙ ap (λ nss. notes ∷ nss) (notes-told (suc number) more logs are.1)

module _ (asked : Asked) where
  -- what is written behind an answer, of logs that tell no entries and of logs that do
  abbrev counts_tail : List CountsLog → List ℕ
  counts_tail logs = if asked.report then report_text asked.workers (joint_totals (map (λ (log : CountsLog). log.totals) logs)) else []

  abbrev full_tail : List FullLog → List ℕ
  full_tail logs = (if asked.report then report_text asked.workers (joint_totals (map (λ (log : FullLog). log.totals) logs)) else []) ++ audit_text (map (λ (log : FullLog). log.notes) logs)

  counts_tail-is : (audit : Bool) → audit ≡ false → (entries : List (List Note)) (logs : List CountsLog) → AreLogsOf 1 entries (map counts_view logs) → counts_tail logs ≡ tail_text asked.report audit asked.workers entries
  counts_tail-is audit none entries logs are =
      report-all counts_view asked.report asked.workers entries logs are
      ∙ sym (append-nil (if asked.report then report_text asked.workers (all_totals entries) else []))
      ∙ ap (λ (b : Bool). (if asked.report then report_text asked.workers (all_totals entries) else []) ++ (if b then audit_text entries else [])) (sym none)

  full_tail-is : (audit : Bool) → audit ≡ true → (entries : List (List Note)) (logs : List FullLog) → AreLogsOf 1 entries (map full_view logs) → full_tail logs ≡ tail_text asked.report audit asked.workers entries
  full_tail-is audit told entries logs are =
      ap (λ l. l ++ audit_text (map (λ (log : FullLog). log.notes) logs)) (report-all full_view asked.report asked.workers entries logs are)
      ∙ ap (λ nss. (if asked.report then report_text asked.workers (all_totals entries) else []) ++ audit_text nss) (notes-told 1 entries logs are)
      ∙ ap (λ (b : Bool). (if asked.report then report_text asked.workers (all_totals entries) else []) ++ (if b then audit_text entries else [])) (sym told)

-- in preorder and with tasks in order what one worker finds is found
pub sequential-finds : (skeleton : Skeleton) → IsSequential skeleton → FindsFirst skeleton
sequential-finds skeleton is = subst FindsFirst (sym is) tt

ordered-finds : (skeleton : Skeleton) → IsOrdered skeleton → FindsFirst skeleton
ordered-finds Sequential is = tt
ordered-finds (Depth depth) is = absurd is
ordered-finds (Budget budget) is = absurd is
ordered-finds (Steal all) is = absurd is
ordered-finds (Ordered depth) is = tt

-- where neither report nor audit is asked for, nothing stands behind an answer
no-tail : (report audit : Bool) → IsFalse report → IsFalse audit → (workers : ℕ) (entries others : List (List Note)) → tail_text report audit workers entries ≡ tail_text report audit 1 others
no-tail false false r a workers entries others = refl
no-tail false true r a workers entries others = absurd (cc)
no-tail true audit r a workers entries others = absurd (cc)

module _ {X N : Type 0} (m : Meaning X N) (asked : Asked) (x : X) (askable : IsAskable asked) (first : IfSome (first_node (searched m x) (gap_of m.kind)) (IsFirstBest (searched m x) (seq_log (searched m x) (gap_of m.kind)))) where
  -- the text of an answer, where the tail is that of any entries of which these are the logs
  module _ {R : Type 0} (view : R → LogView) (lines tail text : List ℕ) (logs : List R)
      (spelled : (entries : List (List Note)) → AreLogsOf 1 entries (map view logs) → tail ≡ tail_text asked.report asked.audit asked.workers entries)
      (fits : HasPlainLog (searched m x) (gap_of m.kind) view logs → IsTrue asked.audit → ¬ MeetsLimits (seq_log (searched m x) (gap_of m.kind))) where
    -- its first lines are those of the node that one worker finds
    first-lines : IsAnswered m asked x view lines logs → text ≡ lines ++ tail → FindsFirst asked.skeleton → text ≡ m.lines x (first_node (searched m x) (gap_of m.kind)) ++ tail
    first-lines answered text_is finds = text_is ∙ ap (λ l. l ++ tail) (answered.lines_are ∙ ap (m.lines x) (answered.first finds))

    -- the text that one worker writes in preorder
    first-text : IsAnswered m asked x view lines logs → text ≡ lines ++ tail → AsksFirst asked → IsFirstText (searched m x) (gap_of m.kind) asked.report asked.audit (m.lines x) text
    first-text answered text_is (inl sequential) = record {
      tail = tail;
      text_is = first-lines answered text_is (sequential-finds asked.skeleton sequential);
      is_first = record {
        first = first;
        text_is =
            spelled (seq_log (searched m x) (gap_of m.kind) ∷ []) (plain-are_logs view (searched m x) (gap_of m.kind) logs (answered.in_preorder sequential))
            ∙ ap (λ w. tail_text asked.report asked.audit w (seq_log (searched m x) (gap_of m.kind) ∷ [])) (askable.alone sequential);
      };
      fits = fits (answered.in_preorder sequential);
    }
    first-text answered text_is (inr plain) = record {
      tail = tail;
      text_is = first-lines answered text_is (ordered-finds asked.skeleton plain.0);
      is_first = record {
        first = first;
        text_is = spelled answered.logs_are.entries answered.logs_are.each ∙ no-tail asked.report asked.audit plain.1 plain.2 asked.workers answered.logs_are.entries (seq_log (searched m x) (gap_of m.kind) ∷ []);
      };
      fits = λ told. absurd (cc (told, plain.2));
    }

    job-text : IsAnswered m asked x view lines logs → text ≡ lines ++ tail → IsJobText m asked x text
    job-text answered text_is = record {
      found = record {
        solution = answered.solution;
        tail = tail;
        text_is = text_is ∙ ap (λ l. l ++ tail) answered.lines_are;
        is_tail = record {
          logs = answered.logs_are.entries;
          are_logs = answered.logs_are.are_logs;
          text_is = spelled answered.logs_are.entries answered.logs_are.each;
        };
        first = answered.first;
        first_text = first-text answered text_is;
        few = answered.few;
      };
      right = subst (m.IsRight x) answered.lines_are answered.right;
    }

  -- without an audit
  pub counts-text : (lines text : List ℕ) (logs : List CountsLog) → IsFalse asked.audit → IsAnswered m asked x counts_view lines logs → text ≡ lines ++ counts_tail asked logs → IsJobText m asked x text
  counts-text lines text logs none =
      job-text counts_view lines (counts_tail asked logs) text logs (λ entries are. counts_tail-is asked asked.audit none entries logs are) (λ has told. absurd (cc))

  -- with one
  pub full-text : (lines text : List ℕ) (logs : List FullLog) → IsTrue asked.audit → IsAnswered m asked x full_view lines logs → text ≡ lines ++ full_tail asked logs → IsJobText m asked x text
  full-text lines text logs told =
      job-text full_view lines (full_tail asked logs) text logs (λ entries are. full_tail-is asked asked.audit told entries logs are)
      (λ has asked_for. let one = one-log (searched m x) (gap_of m.kind) full_view logs has in audit-fits (searched m x) (gap_of m.kind) one.0 one.1.1)
