-- Words whose plan a searcher can do, and what is wrong with others.
use Rattle.std.proofs.Common.{◌≡◌, ℕ, List, Ok, Err, Result, refl, sym, subst, ap, ap₂, inl, inr}
use Rattle.std.specs.Prelude.{IsOkAnd}
use Rattle.yew_words.specs.declared.plan.Plan.{Plan}
use Rattle.yew_words.specs.declared.plan.Usage.{Usage}
use Rattle.yew_words.specs.declared.plan.UsageKind.{UsageKind}
use Rattle.yew_words.specs.declared.plan.UsageKind.TheVariants.{NotHere}
use Rattle.yew_words.specs.declared.plan.Skeleton.{Skeleton}
use Rattle.yew_words.specs.Word.{Word}
use Rattle.yew_words.specs.Plans.{Planned, planned, PlanOf}
use Rattle.yew_words.specs.Offences.{Offending}
use Rattle.yew_app.specs.Refusals.{Reason, BadUsage, CannotRead, NotInGrammar, TooLong, TooLarge, FullAudit, TaskPastLimit, CannotWrite, NoMemory}
use Rattle.yew_app.specs.Runs.{IsPlanOf, RefusesWords}

-- what the reader of the words says of its answer
pub record Reads (words : List Word) (answer : Result Plan Usage) : Type 0 where
  pub each_plan : (plan : Planned) → PlanOf words plan → IsOkAnd answer (λ answered. planned answered ≡ plan)
  pub each_offence : (place : ℕ) (kind : UsageKind) → Offending words place kind → answer ≡ Err (record { place = place; kind = kind })

usage_reason : (usage other : Usage) (a b : Result Plan Usage) → a ≡ Err usage → b ≡ Err other → a ≡ b → BadUsage usage.place usage.kind ≡ BadUsage other.place other.kind
usage_reason usage other a b here there e = let same : usage ≡ other = cc in ap (λ (u : Usage). BadUsage u.place u.kind) same

module _ (does : Skeleton → Type 0) where
  -- where the words offend, nothing else is wrong
  pub reason-offence : (words : List Word) (usage : Usage) → Reads words (Err usage) → (reason : Reason) → RefusesWords does words reason → BadUsage usage.place usage.kind ≡ reason
  reason-offence words usage reads (BadUsage place kind) (inl offends) = usage_reason usage (record { place = place; kind = kind }) (Err usage) (Err (record { place = place; kind = kind })) refl refl (reads.each_offence place kind offends)
  reason-offence words usage reads (BadUsage place kind) (inr other) = absurd (reads.each_plan other.2.plan other.2.is_plan)
  reason-offence words usage reads (CannotRead name) none = absurd none
  reason-offence words usage reads (NotInGrammar name at kind) none = absurd none
  reason-offence words usage reads (TooLong name) none = absurd none
  reason-offence words usage reads (TooLarge name number limit) none = absurd none
  reason-offence words usage reads (FullAudit worker entries numbers) none = absurd none
  reason-offence words usage reads (TaskPastLimit number) none = absurd none
  reason-offence words usage reads CannotWrite none = absurd none
  reason-offence words usage reads NoMemory none = absurd none

  no_offence : (words : List Word) (plan : Plan) → Reads words (Ok plan) → (place : ℕ) (kind : UsageKind) → Offending words place kind → ⊥
  no_offence words plan reads place kind offends = let e = reads.each_offence place kind offends in cc

  -- where the plan has another skeleton, that is what is wrong
  pub reason-skeleton : (words : List Word) (plan : Plan) → Reads words (Ok plan) → ¬ does plan.skeleton → (reason : Reason) → RefusesWords does words reason → BadUsage 2 NotHere ≡ reason
  reason-skeleton words plan reads other (BadUsage place kind) (inl offends) = absurd (no_offence words plan reads place kind offends)
  reason-skeleton words plan reads other (BadUsage place kind) (inr same) = ap₂ BadUsage (sym same.0) (sym same.1)
  reason-skeleton words plan reads other (CannotRead name) none = absurd none
  reason-skeleton words plan reads other (NotInGrammar name at kind) none = absurd none
  reason-skeleton words plan reads other (TooLong name) none = absurd none
  reason-skeleton words plan reads other (TooLarge name number limit) none = absurd none
  reason-skeleton words plan reads other (FullAudit worker entries numbers) none = absurd none
  reason-skeleton words plan reads other (TaskPastLimit number) none = absurd none
  reason-skeleton words plan reads other CannotWrite none = absurd none
  reason-skeleton words plan reads other NoMemory none = absurd none

  -- where it has none, nothing is wrong
  pub no_reason : (words : List Word) (plan : Plan) → Reads words (Ok plan) → does plan.skeleton → (reason : Reason) → ¬ RefusesWords does words reason
  no_reason words plan reads done (BadUsage place kind) (inl offends) = no_offence words plan reads place kind offends
  no_reason words plan reads done (BadUsage place kind) (inr same) =
      same.2.other (subst (λ (p : Planned). does p.skeleton) (reads.each_plan same.2.plan same.2.is_plan) done)
  no_reason words plan reads done (CannotRead name) none = none
  no_reason words plan reads done (NotInGrammar name at kind) none = none
  no_reason words plan reads done (TooLong name) none = none
  no_reason words plan reads done (TooLarge name number limit) none = none
  no_reason words plan reads done (FullAudit worker entries numbers) none = none
  no_reason words plan reads done (TaskPastLimit number) none = none
  no_reason words plan reads done CannotWrite none = none
  no_reason words plan reads done NoMemory none = none

  -- words that offend have no plan
  pub no_plan-offence : (words : List Word) (usage : Usage) → Reads words (Err usage) → (other : Planned) → ¬ IsPlanOf does words other
  no_plan-offence words usage reads other is = reads.each_plan other is.is_plan

  -- and words whose plan has another skeleton have no other plan
  pub no_plan-skeleton : (words : List Word) (plan : Plan) → Reads words (Ok plan) → ¬ does plan.skeleton → (other : Planned) → ¬ IsPlanOf does words other
  no_plan-skeleton words plan reads differs other is =
      differs (subst (λ (p : Planned). does p.skeleton) (sym (reads.each_plan other is.is_plan)) is.done)
