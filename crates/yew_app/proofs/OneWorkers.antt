-- A search of one worker in preorder answers as a crew of one worker does, and finds the first of the best nodes that it visits.
use Rattle.std.proofs.Common.{◌≡◌, ℕ, List, [], ◌∷◌, map, Option, Some, None, refl, ap, sym, subst, ◌∙◌, arith}
use Rattle.std.specs.Prelude.{◌==◌, if◌then◌else◌, option_and_then}
use Rattle.yew_kinds.specs.declared.kind.Answer.{Answer}
use Rattle.yew_kinds.specs.declared.kind.Answer.TheVariants as answers
use Rattle.yew_kinds.specs.declared.kind.Kind.{Kind}
use Rattle.yew_kinds.specs.declared.kind.Kind.TheVariants as kinds
use Rattle.yew_kinds.specs.Kinds.{gap_of}
use Rattle.yew_kinds.specs.WrapperLaws.{counted-bounded, clipped-bounded}
use Rattle.yew_kinds.specs.Wrappers.{counted_tree, clipped_tree}
use Rattle.yew_laws.specs.Greatest.{first_best, greatest_of, first_with}
use Rattle.yew_laws.specs.PathValue.{PathValue}
use Rattle.yew_laws.specs.SearchTree.{SearchTree, at_path, preorder}
use Rattle.yew_laws.specs.Tree.{Member, IsBounded, IsRanked}
use Rattle.yew_log.specs.Groups.{Skeleton as Table, sequential}
use Rattle.yew_log.specs.AuditFull.{IsAuditFull}
use Rattle.yew_log.specs.SeqLog.{seq_log}
use Rattle.yew_log.specs.WholeSearch.{AreLogs}
use Rattle.yew_walk.specs.declared.fault.SearchFault.{SearchFault}
use Rattle.yew_walk.specs.declared.fault.SearchFault.TheVariants.{Memory, AuditFull, TooManyTasks}
use Rattle.yew_walk.specs.Hands.{numbers_of}
use Rattle.yew_walk.specs.Kinds.{IsAnswer}
use Rattle.yew_walk.specs.LogViews.{LogView}
use Rattle.yew_walk.specs.PlainSearch.{searched_tree, HasPlainLog, IsPlainFault}
use Rattle.yew_walk.proofs.FirstFinds.{found_path-none}
use Rattle.yew_crew.specs.CrewSearch.{solution_of, IsCrewAnswer, HasCrewLogs, IsCrewFault}
use Rattle.yew_app.specs.declared.asked.Asked.{Asked}
use Rattle.yew_app.specs.Asks.{table_of}
use Rattle.yew_app.specs.Searches.{IsSearchFault}
use Rattle.yew_app.specs.Texts.{first_node, HasTooManyItems}
use Rattle.yew_app.proofs.SearchTexts.{plain-are_logs}

module _ {N : Type 0} (t : SearchTree N) where
  -- the answer is right
  pub crew-answer : {S : Type 0} (fold : S) (kind : Kind) (answer : Answer S) → IsAnswer t fold kind answer → IsCrewAnswer t fold kind answer
  crew-answer fold kinds.Count (answers.Count sum) is = is
  crew-answer fold kinds.Count (answers.Best worth path) is = is
  crew-answer fold kinds.Count (answers.Reach path) is = is
  crew-answer fold kinds.Best (answers.Count sum) is = is
  crew-answer fold kinds.Best (answers.Best worth path) is = record { worth_is = is.worth_is; absent = is.absent; has_worth = is.has_worth }
  crew-answer fold kinds.Best (answers.Reach path) is = is
  crew-answer fold (kinds.Reach target) (answers.Count sum) is = is
  crew-answer fold (kinds.Reach target) (answers.Best worth path) is = is
  crew-answer fold (kinds.Reach target) (answers.Reach path) is = record { exists = is.exists; meets = is.meets }
  crew-answer fold (kinds.Near gap) (answers.Count sum) is = is
  crew-answer fold (kinds.Near gap) (answers.Best worth path) is = is.near
  crew-answer fold (kinds.Near gap) (answers.Reach path) is = is

  -- the node at a path
  node-at : (path : Option PathValue) → option_and_then (λ (p : PathValue). at_path t p.numbers) path ≡ option_and_then (λ numbers. at_path t numbers) (numbers_of path)
  node-at None = refl
  node-at (Some p) = refl

  none-counted : (ms : List (Member N)) → greatest_of (λ n. 0) ms ≡ 0
  none-counted [] = refl
  none-counted (m ∷ ms) = let rest = none-counted ms in omega (arith, rest)

  -- no node of a count is an answer
  first-counted : None ≡ first_best (counted_tree t)
  first-counted = ap (λ (w : ℕ). if w == 0 then None else first_with (λ n. 0) w (preorder t)) (sym (none-counted (preorder t)))

  module _ {sound : N → Type 0} (ranked : IsRanked sound t.children t.rank) (bounded : IsBounded sound t.children t.worth t.bound) (root : sound t.root) where
    abbrev node_of : Option (List ℕ) → Option N
    node_of found = option_and_then (λ numbers. at_path t numbers) found

    -- the solution is the node that one worker finds, which without a gap is the first best node
    pub solution-first : {S : Type 0} (fold : S) (kind : Kind) (answer : Answer S) → IsAnswer t fold kind answer → solution_of t answer ≡ first_node (searched_tree t kind) (gap_of kind)
    solution-first fold kinds.Count (answers.Count sum) is = ap node_of (first-counted ∙ sym (found_path-none (counted_tree t) ranked (counted-bounded bounded) root))
    solution-first fold kinds.Count (answers.Best worth path) is = absurd is
    solution-first fold kinds.Count (answers.Reach path) is = absurd is
    solution-first fold kinds.Best (answers.Count sum) is = absurd is
    solution-first fold kinds.Best (answers.Best worth path) is = node-at path ∙ ap node_of (is.path_is ∙ sym (found_path-none t ranked bounded root))
    solution-first fold kinds.Best (answers.Reach path) is = absurd is
    solution-first fold (kinds.Reach target) (answers.Count sum) is = absurd is
    solution-first fold (kinds.Reach target) (answers.Best worth path) is = absurd is
    solution-first fold (kinds.Reach target) (answers.Reach path) is =
        node-at path ∙ ap node_of (is.path_is ∙ sym (found_path-none (clipped_tree t target) ranked (clipped-bounded bounded target) root))
    solution-first fold (kinds.Near gap) (answers.Count sum) is = absurd is
    solution-first fold (kinds.Near gap) (answers.Best worth path) is = node-at path ∙ ap node_of is.path_is
    solution-first fold (kinds.Near gap) (answers.Reach path) is = absurd is

module _ {N : Type 0} (t : SearchTree N) (gap : ℕ) where
  -- its one log is the logs of a crew of one worker
  pub crew-logs : {R : Type 0} (view : R → LogView) (table : Table) (workers : ℕ) (solution : Option N) (logs : List R) → sequential ≡ table → 1 ≡ workers → first_node t gap ≡ solution
      → AreLogs t gap sequential 1 (seq_log t gap ∷ []) (first_node t gap) → HasPlainLog t gap view logs → HasCrewLogs t gap table workers (map view logs) solution
  crew-logs view table workers solution logs in_preorder alone first are has = record {
    entries = seq_log t gap ∷ [];
    are_logs = subst (λ (o : Option N). AreLogs t gap table workers (seq_log t gap ∷ []) o) first
        (subst (λ (w : ℕ). AreLogs t gap table w (seq_log t gap ∷ []) (first_node t gap)) alone
        (subst (λ (s : Table). AreLogs t gap s 1 (seq_log t gap ∷ []) (first_node t gap)) in_preorder are));
    each = plain-are_logs view t gap logs has;
  }

  -- and why it was refused is why that is
  pub crew-fault : (table : Table) (workers : ℕ) (tells : Type 0) (fault : SearchFault) → sequential ≡ table → 1 ≡ workers → IsPlainFault t gap tells fault → IsCrewFault t gap table workers tells fault
  crew-fault table workers tells Memory in_preorder alone refused = tt
  crew-fault table workers tells (AuditFull worker entries numbers) in_preorder alone refused =
      let first = refused.1.0 in (
        refused.0,
        (
          omega (arith, first),
          omega (arith, first, alone),
          subst (λ (w : ℕ). IsAuditFull t gap table w entries numbers) alone (subst (λ (s : Table). IsAuditFull t gap s 1 entries numbers) in_preorder refused.1.1),
        ),
      )
  crew-fault table workers tells (TooManyTasks number) in_preorder alone refused = refused

  -- why a crew whose tasks have no order was refused is why a search was
  pub crew-search_fault : (asked : Asked) (tells : Type 0) (fault : SearchFault) → ¬ HasTooManyItems t asked.skeleton → IsCrewFault t gap (table_of asked.skeleton) asked.workers tells fault → IsSearchFault t gap asked tells fault
  crew-search_fault asked tells Memory few refused = tt
  crew-search_fault asked tells (AuditFull worker entries numbers) few refused = (refused.0, refused.1.0, refused.1.1, refused.1.2, λ many. absurd (few many))
  crew-search_fault asked tells (TooManyTasks number) few refused = absurd refused
