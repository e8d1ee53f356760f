-- What a run says where an audit is full, and where there are too many items.
use Rattle.std.proofs.Common.{◌≡◌, ℕ, ◌^◌, ◌⊎◌, inl, inr, subst}
use Rattle.yew_app.specs.Outcomes.{Outside, Says}
use Rattle.yew_app.specs.Refusals.{Reason, BadUsage, CannotRead, NotInGrammar, TooLong, TooLarge, FullAudit, TaskPastLimit, CannotWrite, NoMemory, IsFullOrMemory, IsPastOrFull}

pub full-says : (before after : Outside) (status : ℕ) (reason : Reason) → IsFullOrMemory reason → Says before after status reason
    → ((entries : ℕ) × (numbers : ℕ) × Says before after status (FullAudit 1 entries numbers)) ⊎ (status ≡ 6)
full-says before after status (FullAudit worker entries numbers) is says = inl (entries, numbers, subst (λ w. Says before after status (FullAudit w entries numbers)) is says)
full-says before after status NoMemory is says = inr says.status_is
full-says before after status (TaskPastLimit number) is says = absurd is
full-says before after status (BadUsage place kind) is says = absurd is
full-says before after status (CannotRead name) is says = absurd is
full-says before after status (NotInGrammar name at kind) is says = absurd is
full-says before after status (TooLong name) is says = absurd is
full-says before after status (TooLarge name number limit) is says = absurd is
full-says before after status CannotWrite is says = absurd is

pub past-says : (asked_for : Type 0) (before after : Outside) (status : ℕ) (reason : Reason) → IsPastOrFull asked_for reason → Says before after status reason
    → Says before after status (TaskPastLimit (2 ^ 20)) ⊎ ((asked_for × (entries : ℕ) × (numbers : ℕ) × Says before after status (FullAudit 1 entries numbers)) ⊎ (status ≡ 6))
past-says asked_for before after status (TaskPastLimit number) is says = inl (subst (λ n. Says before after status (TaskPastLimit n)) is says)
past-says asked_for before after status (FullAudit worker entries numbers) is says = inr (inl (is.0, entries, numbers, subst (λ w. Says before after status (FullAudit w entries numbers)) is.1 says))
past-says asked_for before after status NoMemory is says = inr (inr says.status_is)
past-says asked_for before after status (BadUsage place kind) is says = absurd is
past-says asked_for before after status (CannotRead name) is says = absurd is
past-says asked_for before after status (NotInGrammar name at kind) is says = absurd is
past-says asked_for before after status (TooLong name) is says = absurd is
past-says asked_for before after status (TooLarge name number limit) is says = absurd is
past-says asked_for before after status CannotWrite is says = absurd is
