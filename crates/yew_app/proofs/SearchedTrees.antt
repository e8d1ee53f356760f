-- The tree that a search of a kind goes through is lawful, so its one sequential log is that of a whole search.
use Rattle.std.proofs.Common.{ℕ, List, [], ◌∷◌, Option, None}
use Rattle.std.specs.Prelude.{IsSome, IsTrue}
use Rattle.yew_log.specs.Logs.{CountsLog}
use Rattle.yew_log.specs.Notes.{Note}
use Rattle.yew_kinds.specs.declared.kind.Kind.{Kind}
use Rattle.yew_kinds.specs.declared.kind.Kind.TheVariants as kinds
use Rattle.yew_kinds.specs.Kinds.{gap_of}
use Rattle.yew_kinds.specs.Wrappers.{counted_tree, clipped_tree}
use Rattle.yew_laws.specs.SearchTree.{SearchTree}
use Rattle.yew_laws.specs.Tree.{IsRanked}
use Rattle.yew_log.specs.AuditFull.{IsAuditFull, IsLarge}
use Rattle.yew_log.specs.Groups.{Skeleton, sequential}
use Rattle.yew_log.proofs.FullTrees.{IsAuditFull-large}
use Rattle.yew_walk.specs.declared.fault.SearchFault.{SearchFault}
use Rattle.yew_walk.specs.declared.fault.SearchFault.TheVariants.{Memory, AuditFull, TooManyTasks}
use Rattle.yew_app.specs.Asks.{table_of}
use Rattle.yew_app.specs.declared.asked.Asked.{Asked}
use Rattle.yew_app.specs.Searches.{IsSearchFault}
use Rattle.yew_app.specs.Texts.{StopsSearch}
use Rattle.yew_log.specs.SeqLog.{seq_log}
use Rattle.yew_log.specs.WholeSearch.{AreLogs}
use Rattle.yew_walk.specs.PlainSearch.{searched_tree}
use Rattle.yew_app.specs.Texts.{first_node}
use Rattle.yew_app.proofs.PlainAudits.{seq_log-are_logs}

module _ {N : Type 0} (t : SearchTree N) {sound : N → Type 0} (ranked : IsRanked sound t.children t.rank) (root : sound t.root) where
  -- the one sequential log is the logs of a whole search
  pub searched-are_logs : (kind : Kind) → let u = searched_tree t kind in let gap = gap_of kind in AreLogs u gap sequential 1 (seq_log u gap ∷ []) (first_node u gap)
  searched-are_logs kinds.Count = seq_log-are_logs (counted_tree t) 0 ranked root
  searched-are_logs kinds.Best = seq_log-are_logs t 0 ranked root
  searched-are_logs (kinds.Reach target) = seq_log-are_logs (clipped_tree t target) 0 ranked root
  searched-are_logs (kinds.Near gap) = seq_log-are_logs t gap ranked root

  -- an audit is full only where the tree is large
  pub searched-large : (kind : Kind) (gap : ℕ) (skeleton : Skeleton) (workers entries numbers : ℕ) → let u = searched_tree t kind in IsAuditFull u gap skeleton workers entries numbers → IsLarge u
  searched-large kinds.Count gap skeleton workers entries numbers = IsAuditFull-large (counted_tree t) ranked root
  searched-large kinds.Best gap skeleton workers entries numbers = IsAuditFull-large t ranked root
  searched-large (kinds.Reach target) gap skeleton workers entries numbers = IsAuditFull-large (clipped_tree t target) ranked root
  searched-large (kinds.Near most) gap skeleton workers entries numbers = IsAuditFull-large t ranked root

  -- why a search that keeps an audit was refused is why it gives no text
  pub searched-stops : (kind : Kind) (asked : Asked) (tells : Type 0) (fault : SearchFault) → IsTrue asked.audit → let u = searched_tree t kind in IsSearchFault u (gap_of kind) asked tells fault → StopsSearch u (gap_of kind) asked fault
  searched-stops kind asked tells Memory told refused = tt
  searched-stops kind asked tells (AuditFull worker entries numbers) told refused = record {
    asked_for = told;
    from_one = refused.1;
    to_last = refused.2;
    is_full = refused.3;
    large = searched-large kind (gap_of kind) (table_of asked.skeleton) asked.workers entries numbers refused.3;
    first_worker = refused.4;
  }
  searched-stops kind asked tells (TooManyTasks number) told refused = refused

-- a log of totals alone tells no entries
abbrev told_none : CountsLog → Option (List Note)
told_none log = None

-- a search that keeps no audit was refused for want of memory
pub counts-stops : {N : Type 0} (t : SearchTree N) (gap : ℕ) (asked : Asked) (fault : SearchFault) → IsSearchFault t gap asked ((log : CountsLog) × IsSome (told_none log)) fault → StopsSearch t gap asked fault
counts-stops t gap asked Memory refused = tt
counts-stops t gap asked (AuditFull worker entries numbers) refused = let never = refused.0.1 in absurd (cc)
counts-stops t gap asked (TooManyTasks number) refused = refused
