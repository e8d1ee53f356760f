-- What the tests need of the passes of one pool.
use Rattle.std.proofs.Common.{◌≡◌, ℕ, ◌<◌, ◌∙◌, List, [], ◌∷◌, length, get_or, sym, refl, ap, subst, arith}
use Rattle.std.specs.Prelude.{All, Option, Some, option_and_then, replicate, sum_by}
use Rattle.std.proofs.lemmas.List.{get_or-replicate, length-replicate}
use Rattle.std.proofs.lemmas.List.Elements.{All-head, All-tail}
use Rattle.std.proofs.lemmas.List.Sums.{sum_by-cons}
use Rattle.std.proofs.lemmas.Option.{slice_get-get_or}
use Rattle.yew_laws.specs.SearchTree.{at_path}
use Rattle.yew_laws.specs.Tasks.{IsAmong, members_of}
use Rattle.yew_laws.specs.Tree.{node_at}
use Rattle.yew_laws.specs.declared.problem.Task.{Task}
use Rattle.yew_laws.proofs.TaskMembers.{task-among}
use Rattle.yew_pool.specs.Passes.{PassView, PoolId}
use Rattle.yew_pool.specs.Tasks.{IsSoundFor}
use Rattle.yew_pool.specs.Trials.{IsPassFor, children_of, flat-ranked, flat_tree, told_flat}
use Rattle.yew_pool.proofs.Keeps.{some_injective}

module _ {T Q : Type 0} where
  pub all_one : (pool : PoolId) (members : Option Q) (passes : List (PassView T Q)) → All (IsPassFor pool members) passes
      → sum_by (λ (p : PassView T Q). p.share) passes ≡ length passes
  all_one pool members [] all = refl
  all_one pool members (p ∷ ps) all =
      let a = (All-head (IsPassFor pool members) p ps all).one in let b = all_one pool members ps (All-tail (IsPassFor pool members) p ps all) in
      let c = sum_by-cons (λ (t : PassView T Q). t.share) p ps in omega (arith, a, b, c)

  pub one_of_all : (pool : PoolId) (members : Option Q) (passes : List (PassView T Q)) (at : ℕ) (pass : PassView T Q) → All (IsPassFor pool members) passes
      → at < length passes → pass ≡ get_or passes at pass → IsPassFor pool members pass
  one_of_all pool members passes at pass all below is = subst (IsPassFor pool members) (sym is) (all at pass below)

-- the task of a child of the root is among the members that the passes are told
pub child_sound : (width number : ℕ) (known : Option (List (List ℕ × ℕ))) (task : Task ℕ) → width < 65536 → number < width → known ≡ told_flat width
    → task.path.numbers ≡ number ∷ [] → task.node ≡ 1 → IsSoundFor IsAmong known task
child_sound width number known task small within is path node = λ members told.
    subst (λ (l : List (List ℕ × ℕ)). IsAmong l task) (some_injective IsAmong (members_of (flat_tree width)) members (sym is ∙ told))
    (task-among (flat_tree width) (flat-ranked width) (small, omega arith) task
    (ap (λ (p : List ℕ). at_path (flat_tree width) p) path
    ∙ (ap (λ (o : Option ℕ). option_and_then (λ (n : ℕ). node_at (children_of width) n []) o)
    (slice_get-get_or (replicate width 1) number 1 (omega (arith, within, length-replicate {A = ℕ} width 1)))
    ∙ (ap (λ (n : ℕ). Some n) (get_or-replicate width number 1 1 within) ∙ ap (λ (n : ℕ). Some n) (sym node)))))
