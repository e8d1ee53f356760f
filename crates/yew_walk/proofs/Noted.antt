-- Entries that are recorded one after another for a list of paths.
use Rattle.std.proofs.Common.{◌≡◌, ℕ, suc, ◌+◌, ◌<◌, ◌≤◌, List, [], ◌∷◌, ◌++◌, map, length, slice_index_or, refl, ap, ap₂, sym, subst, ◌∙◌, arith, add-one}
use Rattle.std.specs.Prelude.{take, drop}
use Rattle.std.proofs.lemmas.List.{take-map, take_all, take-append-drop, length-map, map-append}
use Rattle.std.proofs.Math.Seq.{take-suc, drop-cons}
use Rattle.yew_laws.specs.declared.problem.Task.{Task}
use Rattle.yew_log.specs.declared.entry.What.{What}
use Rattle.yew_stack.specs.Splits.{paths_of}
use Rattle.yew_walk.specs.declared.fault.SearchFault.{SearchFault}
use Rattle.yew_walk.specs.declared.fault.SearchFault.TheVariants.{Memory, AuditFull, TooManyTasks}
use Rattle.yew_walk.specs.LogViews.{LogView, noted, all_noted, IsWithin, RefusesNote}
use Rattle.yew_walk.specs.Noting.{HasNoted}
use Rattle.yew_walk.specs.Sharing.{RefusesNotes, StopsNoting}

all_noted-append : (log : LogView) (what : What) (xs ys : List (List ℕ)) → all_noted log what (xs ++ ys) ≡ all_noted (all_noted log what xs) what ys
all_noted-append log what [] ys = refl
all_noted-append log what (x ∷ xs) ys = all_noted-append (noted log what x 0 0) what xs ys

pub noted-none : (old : LogView) (what : What) (paths : List (List ℕ)) → HasNoted old what paths 0 old
noted-none old what paths = record { log_is = refl; within = λ w. w }

refuses-notes : (log : LogView) (path : List ℕ) (paths : List (List ℕ)) (fault : SearchFault) → RefusesNote log path fault → RefusesNotes log (path ∷ paths) fault
refuses-notes log path paths Memory r = tt
refuses-notes log path paths (AuditFull worker entries numbers) r = r
refuses-notes log path paths (TooManyTasks number) r = absurd r

module _ {N : Type 0} (tasks : List (Task N)) where
  abbrev path_of : Task N → List ℕ
  path_of task = task.path.numbers

  paths-take : (count : ℕ) (task : Task N) → count < length tasks → task ≡ slice_index_or tasks count task → take (suc count) (paths_of tasks) ≡ take count (paths_of tasks) ++ task.path.numbers ∷ []
  paths-take count task below is =
      take-map path_of (suc count) tasks
      ∙ ap (map path_of) (take-suc tasks count task below)
      ∙ map-append path_of (take count tasks) (slice_index_or tasks count task ∷ [])
      ∙ ap (λ ps. ps ++ path_of (slice_index_or tasks count task) ∷ []) (sym (take-map path_of count tasks))
      ∙ ap (λ (u : Task N). take count (paths_of tasks) ++ path_of u ∷ []) (sym is)

  pub noted-next : (old now next : LogView) (what : What) (count : ℕ) (task : Task N) → count < length tasks → task ≡ slice_index_or tasks count task → HasNoted old what (paths_of tasks) count now → next ≡ noted now what task.path.numbers 0 0 → IsWithin next.told → HasNoted old what (paths_of tasks) (count + 1) next
  noted-next old now next what count task below is h e within = record {
    log_is = e
        ∙ ap (λ log. noted log what task.path.numbers 0 0) h.log_is
        ∙ sym (all_noted-append old what (take count (paths_of tasks)) (task.path.numbers ∷ []))
        ∙ ap (all_noted old what) (sym (paths-take count task below is))
        ∙ ap (λ n. all_noted old what (take n (paths_of tasks))) (sym (add-one count));
    within = λ w. within;
  }

  pub noted-all : (old now : LogView) (what : What) (count : ℕ) → length tasks ≤ count → HasNoted old what (paths_of tasks) count now → now ≡ all_noted old what (paths_of tasks)
  noted-all old now what count past h =
      let same = length-map tasks path_of in
      h.log_is ∙ ap (all_noted old what) (take_all count (paths_of tasks) (omega (arith, same, past)))

  pub noted-stops : (old now next : LogView) (what : What) (count : ℕ) (task : Task N) (fault : SearchFault) → count < length tasks → task ≡ slice_index_or tasks count task → HasNoted old what (paths_of tasks) count now → next ≡ now → RefusesNote now task.path.numbers fault → StopsNoting old what (paths_of tasks) fault next
  noted-stops old now next what count task fault below is h same r =
      let after = map path_of (drop (suc count) tasks) in
      record {
        done = take count (paths_of tasks);
        rest = task.path.numbers ∷ after;
        paths_are = ap (map path_of) (sym (take-append-drop count tasks))
            ∙ map-append path_of (take count tasks) (drop count tasks)
            ∙ ap₂ (λ (xs ys : List (List ℕ)). xs ++ ys) (sym (take-map path_of count tasks))
            (ap (map path_of) (drop-cons tasks count task below) ∙ ap (λ (u : Task N). path_of u ∷ after) (sym is));
        log_is = same ∙ h.log_is;
        cause = subst (λ log. RefusesNotes log (task.path.numbers ∷ after) fault) (sym same) (refuses-notes now task.path.numbers after fault r);
      }
