-- What a search writes: the lines of the answer, and behind them what is asked for of the logs of its workers.
use Rattle.std.specs.Prelude.{◌≡◌, ℕ, ◌<◌, ◌≤◌, ◌^◌, List, ◌++◌, length, Bool, IsTrue, Option, option_and_then}
use Rattle.yew_laws.specs.SearchTree.{SearchTree, at_path}
use Rattle.yew_log.specs.AuditFull.{IsAuditFull, IsLarge, MeetsLimits}
use Rattle.yew_log.specs.Items.{items_of}
use Rattle.yew_log.specs.SeqLog.{seq_log}
use Rattle.yew_log.specs.WholeSearch.{IsTail, IsFirstTail}
use Rattle.yew_walk.specs.FirstFound.{found_path}
use Rattle.yew_walk.specs.declared.fault.SearchFault.{SearchFault}
use Rattle.yew_walk.specs.declared.fault.SearchFault.TheVariants.{Memory, AuditFull, TooManyTasks}
use Rattle.yew_words.specs.declared.plan.Skeleton.{Skeleton}
use Rattle.yew_words.specs.declared.plan.Skeleton.TheVariants.{Sequential, Ordered}
use Rattle.yew_app.specs.declared.asked.Asked.{Asked}
use Rattle.yew_app.specs.Asks.{table_of, FindsFirst, AsksFirst}

-- there are more items at the depth of tasks that are claimed in order than the 2^20 numbers for them
abbrev pub HasTooManyItems : {N : Type 0} → SearchTree N → Skeleton → Type 0
HasTooManyItems t (Ordered depth) = 2 ^ 20 < length (items_of t depth)
HasTooManyItems t _ = ⊥

module _ {N : Type 0} (t : SearchTree N) (gap : ℕ) where
  -- the node that one worker finds in preorder, if there is one: that of the first visit of the greatest worth it visits
  abbrev pub first_node : Option N
  first_node = option_and_then (λ path. at_path t path) (found_path t gap)

  -- what one worker writes that goes through the tree in preorder: the lines of the node that it finds, and behind them the report and the audit of the one sequential log, for which an audit that is asked for had room
  pub record IsFirstText (report audit : Bool) (lines : Option N → List ℕ) (text : List ℕ) : Type 0 where
    pub tail : List ℕ
    pub text_is : text ≡ lines first_node ++ tail
    pub is_first : IsFirstTail t gap report audit first_node tail
    pub fits : IsTrue audit → ¬ MeetsLimits (seq_log t gap)

  -- The lines of an answer, whose solution is a node of the greatest worth of all that were visited, and then the report and
  -- the audit, each where it is asked for, of the logs of all workers, which say of every node of the tree what became of it.
  -- In preorder and with tasks in order the solution is the node that one worker finds in preorder.
  pub record IsSearchText (asked : Asked) (lines : Option N → List ℕ) (text : List ℕ) : Type 0 where
    pub solution : Option N
    pub tail : List ℕ
    pub text_is : text ≡ lines solution ++ tail
    pub is_tail : IsTail t gap (table_of asked.skeleton) asked.workers asked.report asked.audit solution tail
    pub first : FindsFirst asked.skeleton → solution ≡ first_node
    pub first_text : AsksFirst asked → IsFirstText asked.report asked.audit lines text
    pub few : ¬ HasTooManyItems t asked.skeleton

  -- An audit that is asked for has no room for the next entry of this worker, which is the first one where there are too many items. The tree is then a large one
  pub record HasFullAudit (asked : Asked) (worker entries numbers : ℕ) : Type 0 where
    pub asked_for : IsTrue asked.audit
    pub from_one : 1 ≤ worker
    pub to_last : worker ≤ asked.workers
    pub is_full : IsAuditFull t gap (table_of asked.skeleton) asked.workers entries numbers
    pub large : IsLarge t
    pub first_worker : HasTooManyItems t asked.skeleton → worker ≡ 1

  -- an audit has room for the search, whatever its workers do: for that in preorder where its one log is within the limits, and for others where the tree is not large
  abbrev pub HasRoom : Skeleton → Type 0
  HasRoom Sequential = ¬ MeetsLimits (seq_log t gap)
  HasRoom _ = ¬ IsLarge t

  -- why a search gives no text: memory ran out, or the audit is full, or there are too many items, so that one would need the number 2^20
  abbrev pub StopsSearch : Asked → SearchFault → Type 0
  StopsSearch asked Memory = Unit {0}
  StopsSearch asked (AuditFull worker entries numbers) = HasFullAudit asked worker entries numbers
  StopsSearch asked (TooManyTasks number) = (number ≡ 2 ^ 20) × HasTooManyItems t asked.skeleton
