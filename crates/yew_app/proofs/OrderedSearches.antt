-- A search whose tasks are claimed in order.
use Rattle.std.proofs.Common.{◌≡◌, ◌≤◌, ℕ, ◌^◌, length, map, Result, Ok, Err, refl, subst, sym, arith}
use Rattle.std.specs.Prelude.{IfOk, OnOk}
use Rattle.yew_crew.specs.CrewSearch.{solution_of, HasCrewLogs}
use Rattle.yew_kinds.specs.declared.kind.Kind.{Kind}
use Rattle.yew_kinds.specs.declared.kind.Kind.TheVariants as kinds
use Rattle.yew_kinds.specs.Kinds.{IsExact, gap_of}
use Rattle.yew_laws.specs.SearchTree.{SearchTree}
use Rattle.yew_laws.specs.Tree.{IsBounded, IsRanked}
use Rattle.yew_log.specs.AuditFull.{IsAuditFull}
use Rattle.yew_log.specs.Groups.{in_order}
use Rattle.yew_log.specs.Items.{items_of}
use Rattle.yew_ranked.specs.OrderedSearch.{IsOrderedFault}
use Rattle.yew_walk.specs.Kinds.{IsAnswer}
use Rattle.yew_walk.specs.LogViews.{LogView}
use Rattle.yew_walk.specs.PlainSearch.{searched_tree}
use Rattle.yew_walk.specs.declared.fault.SearchFault.{SearchFault}
use Rattle.yew_walk.specs.declared.search.Found.{Found}
use Rattle.yew_walk.specs.declared.fault.SearchFault.TheVariants.{Memory, AuditFull, TooManyTasks}
use Rattle.yew_words.specs.declared.plan.Skeleton.{Skeleton}
use Rattle.yew_words.specs.declared.plan.Skeleton.TheVariants.{Sequential, Depth, Budget, Steal, Ordered}
use Rattle.yew_app.specs.Asks.{table_of, IsSequential, FindsFirst}
use Rattle.yew_app.specs.Searches.{IsFound, IsSearchFault}
use Rattle.yew_app.specs.Texts.{HasTooManyItems}
use Rattle.yew_app.specs.declared.asked.Asked.{Asked}
use Rattle.yew_app.proofs.OneWorkers.{crew-answer, solution-first}

module _ {N : Type 0} (t : SearchTree N) where
  -- where no skeleton with numbers is asked for, there are never too many items
  pub sequential-few : (skeleton : Skeleton) → IsSequential skeleton → ¬ HasTooManyItems t skeleton
  sequential-few Sequential is many = many
  sequential-few (Depth depth) is many = many
  sequential-few (Budget budget) is many = many
  sequential-few (Steal all) is many = many
  sequential-few (Ordered depth) is many = absurd (cc)

  pub shared-few : (skeleton : Skeleton) → ¬ FindsFirst skeleton → ¬ HasTooManyItems t skeleton
  shared-few Sequential any many = many
  shared-few (Depth depth) any many = many
  shared-few (Budget budget) any many = many
  shared-few (Steal all) any many = many
  shared-few (Ordered depth) any many = any tt

  -- why a search was refused whose tasks are claimed in order
  pub ordered-fault : (depth : ℕ) (asked : Asked) (tells : Type 0) (fault : SearchFault) → asked.skeleton ≡ Ordered depth → IsOrderedFault t depth asked.workers tells fault → IsSearchFault t 0 asked tells fault
  ordered-fault depth asked tells Memory same refused = tt
  ordered-fault depth asked tells (AuditFull worker entries numbers) same refused = (
    refused.0,
    refused.1.0,
    refused.1.1,
    subst (λ (s : Skeleton). IsAuditFull t 0 (table_of s) asked.workers entries numbers) (sym same) refused.1.3,
    subst (λ (s : Skeleton). HasTooManyItems t s → worker ≡ 1) (sym same) refused.1.2,
  )
  ordered-fault depth asked tells (TooManyTasks number) same refused = (refused.0, subst (HasTooManyItems t) (sym same) refused.1)

-- three facts of what was answered give a fourth
pub all-ok : {X E R : Type 0} (answer : Result X E) {P Q S : X → Type 0} → ((x : X) → P x → Q x → R → S x) → IfOk answer P → IfOk answer Q → OnOk answer R → IfOk answer S
all-ok (Ok x) f p q r = f x p q r
all-ok (Err e) f p q r = tt

-- where no gap is permitted it is 0
pub exact-gap : (kind : Kind) → IsExact kind → 0 ≡ gap_of kind
exact-gap kinds.Count exact = refl
exact-gap kinds.Best exact = refl
exact-gap (kinds.Reach target) exact = refl
exact-gap (kinds.Near gap) exact = absurd exact

-- what was found where tasks are claimed in order
pub ordered-found : {N S R : Type 0} (t : SearchTree N) {sound : N → Type 0} → IsRanked sound t.children t.rank → IsBounded sound t.children t.worth t.bound → sound t.root
    → (fold : S) (kind : Kind) (asked : Asked) (view : R → LogView) (depth : ℕ) → IsExact kind → asked.skeleton ≡ Ordered depth → (found : Found S R) → IsAnswer t fold kind found.answer
    → HasCrewLogs (searched_tree t kind) 0 (in_order depth) asked.workers (map view found.logs.items) (solution_of t found.answer) → length (items_of (searched_tree t kind) depth) ≤ 2 ^ 20 → IsFound t fold kind asked view found
ordered-found t ranked bounded root fold kind asked view depth exact same found is has few = record {
  answer = crew-answer t fold kind found.answer is;
  logs = subst (λ (gap : ℕ). HasCrewLogs (searched_tree t kind) gap (table_of asked.skeleton) asked.workers (map view found.logs.items) (solution_of t found.answer)) (exact-gap kind exact)
      (subst (λ (s : Skeleton). HasCrewLogs (searched_tree t kind) 0 (table_of s) asked.workers (map view found.logs.items) (solution_of t found.answer)) (sym same) has);
  first = λ finds. solution-first t ranked bounded root fold kind found.answer is;
  in_preorder = λ sequential. let other = sym same in absurd (cc (other, sequential));
  few = subst (λ (s : Skeleton). ¬ HasTooManyItems (searched_tree t kind) s) (sym same) (λ many. omega (arith, many, few));
}
