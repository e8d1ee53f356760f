-- The one log of a search in preorder.
use Rattle.std.proofs.Common.{◌≡◌, ℕ, List, [], ◌∷◌, Some, inl, inr, refl, subst, arith}
use Rattle.yew_laws.specs.SearchTree.{SearchTree}
use Rattle.yew_log.specs.AuditFull.{MeetsLimits}
use Rattle.yew_log.specs.Logs.{FullLog}
use Rattle.yew_log.specs.SeqLog.{seq_log}
use Rattle.yew_walk.specs.LogViews.{LogView, log_view, IsWithin}
use Rattle.yew_walk.specs.PlainSearch.{HasPlainLog, IsPlainLog}

module _ {N : Type 0} (t : SearchTree N) (gap : ℕ) where
  -- there is one log
  pub one-log : {R : Type 0} (view : R → LogView) (logs : List R) → HasPlainLog t gap view logs → (log : R) × ((logs ≡ log ∷ []) × IsPlainLog t gap (view log))
  one-log view [] h = absurd h
  one-log view (log ∷ []) h = (log, (refl, h))
  one-log view (log ∷ second ∷ more) h = absurd h

  -- a log that tells its entries is within its limits
  pub audit-fits : (log : FullLog) → IsPlainLog t gap (log_view (Some log.notes) log.totals log.number) → ¬ MeetsLimits (seq_log t gap)
  audit-fits log is meets = let within = subst (λ ns. IsWithin (Some ns)) is.told is.within in past within meets
    where
      past : IsWithin (Some (seq_log t gap)) → MeetsLimits (seq_log t gap) → ⊥
      past w (inl more) = let entries = w.0 in absurd (omega (arith, entries, more))
      past w (inr more) = let numbers = w.1 in absurd (omega (arith, numbers, more))
