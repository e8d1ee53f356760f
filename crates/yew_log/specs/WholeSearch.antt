-- What the logs of a whole search are, and what is written of them.
use Rattle.std.specs.Prelude.{◌≡◌, ◌≢◌, ℕ, suc, List, [], ◌∷◌, ◌++◌, length, Option, Some, IfSome, Bool, if◌then◌else◌}
use Rattle.std.specs.List.{AllByRecursion, Contains, flat_map}
use Rattle.yew_log.specs.declared.entry.Totals.{Totals}
use Rattle.yew_laws.specs.Bag.{SameBag}
use Rattle.yew_laws.specs.Cover.{Cover}
use Rattle.yew_log.specs.Places.{AtEach}
use Rattle.yew_laws.specs.SearchTree.{SearchTree, at_path}
use Rattle.yew_log.specs.Notes.{Note, Judgement, visits, cuts, values, maximum, taken_paths, sent_paths, visited_paths, cut_paths}
use Rattle.yew_log.specs.Attained.{Attained}
use Rattle.yew_log.specs.Groups.{Skeleton}
use Rattle.yew_log.specs.Lawful.{LawfulLog}
use Rattle.yew_log.specs.Totals.{totals_of, totals_sum, no_totals}
use Rattle.yew_log.specs.AuditText.{audit_text, report_text}
use Rattle.yew_log.specs.SeqLog.{seq_log}

-- the entries of all logs
abbrev pub joined : List (List Note) → List Note
joined logs = flat_map (λ (log : List Note). log) logs

-- this node stands at a visit of the greatest worth of all visits
pub record IsBestVisit {N : Type 0} (t : SearchTree N) (notes : List Note) (node : N) : Type 0 where
  pub visit : Judgement
  pub visited : Contains (visits notes) visit
  pub node_there : at_path t visit.path ≡ Some node
  pub greatest : visit.value ≡ maximum (values (visits notes))

-- the logs of all workers, the first one's first, with the node of the answer's solution, if it has one
pub record AreLogs {N : Type 0} (t : SearchTree N) (gap : ℕ) (skeleton : Skeleton) (workers : ℕ) (logs : List (List Note)) (solution : Option N) : Type 0 where
  pub one_each : length logs ≡ workers
  pub lawful : AtEach (λ before log after. LawfulLog t gap skeleton workers (suc (length before)) log) [] logs
  pub tasks : SameBag (taken_paths (joined logs)) ([] ∷ sent_paths (joined logs))
  pub cover : Cover t (visited_paths (joined logs)) (cut_paths (joined logs))
  pub attained : Attained t gap (visits (joined logs)) (cuts (joined logs))
  pub best : IfSome solution (IsBestVisit t (joined logs))

-- the totals of all logs, saturating
abbrev pub all_totals : List (List Note) → Totals
all_totals logs = totals_sum no_totals (totals_of (joined logs))

-- the report and the audit, each where it is asked for, of the same logs
abbrev pub tail_text : Bool → Bool → ℕ → List (List Note) → List ℕ
tail_text report audit workers logs = (if report then report_text workers (all_totals logs) else []) ++ (if audit then audit_text logs else [])

-- what is written behind an answer: of some logs of the search, which need not be shown where no audit is asked for
pub record IsTail {N : Type 0} (t : SearchTree N) (gap : ℕ) (skeleton : Skeleton) (workers : ℕ) (report audit : Bool) (solution : Option N) (text : List ℕ) : Type 0 where
  pub logs : List (List Note)
  pub are_logs : AreLogs t gap skeleton workers logs solution
  pub text_is : text ≡ tail_text report audit workers logs

-- the node of the first visit that has the greatest worth of these visits
pub record IsFirstBest {N : Type 0} (t : SearchTree N) (notes : List Note) (node : N) : Type 0 where
  pub before : List Judgement
  pub visit : Judgement
  pub after : List Judgement
  pub stands : visits notes ≡ before ++ visit ∷ after
  pub node_there : at_path t visit.path ≡ Some node
  pub greatest : visit.value ≡ maximum (values (visits notes))
  pub first : AllByRecursion (λ (u : Judgement). u.value ≢ visit.value) before

-- what is written behind the answer of a sequential search, whose solution is the first best node
pub record IsFirstTail {N : Type 0} (t : SearchTree N) (gap : ℕ) (report audit : Bool) (solution : Option N) (text : List ℕ) : Type 0 where
  pub first : IfSome solution (IsFirstBest t (seq_log t gap))
  pub text_is : text ≡ tail_text report audit 1 (seq_log t gap ∷ [])
