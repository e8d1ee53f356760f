-- The log of the walk above the depth of tasks had no room for its next entry: the audit was full.
use Rattle.std.proofs.Common.{◌≡◌, ℕ, ◌-◌, List, [], ◌∷◌, ◌++◌, length, Option, refl, ap, sym, subst, ◌∙◌, append_assoc}
use Rattle.std.specs.Prelude.{IfSome}
use Rattle.yew_laws.specs.SearchTree.{SearchTree}
use Rattle.yew_laws.specs.Tree.{IsRanked}
use Rattle.yew_log.specs.AuditFull.{IsAuditFull}
use Rattle.yew_log.specs.Groups.{sequential, in_order}
use Rattle.yew_log.specs.HeldValues.{ranked}
use Rattle.yew_log.specs.Notes.{Note, path_numbers}
use Rattle.yew_log.proofs.KnownPaths.{IsBrokenWalk-known}
use Rattle.yew_walk.specs.LogViews.{LogView}
use Rattle.yew_walk.proofs.PlainRuns.{log_after-told, log_after-number, fresh-told}
use Rattle.yew_ranked.specs.FrontierWalk.{IsFrontierFull}
use Rattle.yew_ranked.proofs.FrontierLawful.{frontier-front, frontier-front_maximum}

module _ {N : Type 0} (t : SearchTree N) {sound : N → Type 0} (is_ranked : IsRanked sound t.children t.rank) (root : sound t.root)
    (depth : ℕ) (first now : LogView) (new : IfSome first.told (λ notes. notes ≡ [])) (worker entries numbers : ℕ)
    (is : IsFrontierFull t depth first now worker entries numbers) where
  told-all : is.full.notes ≡ is.notes
  told-all =
      subst (λ (o : Option (List Note)). IfSome o (λ ns. ns ≡ is.notes)) is.full.are_told
      (fresh-told first.told now.told is.notes new (ap (λ (l : LogView). l.told) is.log_is ∙ log_after-told first is.notes))

  -- where the log was new and had no room for the next entry, the audit was full, and it is the log's own worker that says so
  pub frontier-audit_full : (workers : ℕ) → IsAuditFull t 0 (in_order depth) workers entries numbers
  frontier-audit_full workers =
      let known = IsBrokenWalk-known t 0 ranked [] (is.notes ++ is.next ∷ []) (frontier-front t is_ranked root (depth - 1) (is.notes ++ is.next ∷ []) is.rest (is.stands ∙ sym (append_assoc is.notes (is.next ∷ []) is.rest))) in
      record {
        notes = is.notes;
        next = is.next;
        full = record {
          notes = is.notes;
          are_told = refl;
          entries_are = is.full.entries_are ∙ ap length told-all;
          numbers_are = is.full.numbers_are ∙ ap path_numbers told-all;
          within = is.full.within;
          past = is.full.past;
        };
        in_tree = known.of_tree;
        one_of_a_kind = known.one_of_a_kind;
        keeps = (frontier-front t is_ranked root (depth - 1) is.notes (is.next ∷ is.rest) is.stands).keeps;
        alone = λ one. frontier-front_maximum t is_ranked root (depth - 1) is.notes (is.next ∷ is.rest) is.stands;
        sequential_next = λ e. absurd (other e);
      }
    where
      other : in_order depth ≡ sequential → ⊥
      other e = cc

  pub frontier-full_worker : worker ≡ first.number
  frontier-full_worker = is.worker_is ∙ (ap (λ (l : LogView). l.number) is.log_is ∙ log_after-number first is.notes)
