-- Why a run without an answer ends.
use Rattle.std.proofs.Common.{◌≡◌, ℕ, List, Some, true, refl}
use Rattle.yew_words.specs.declared.plan.Skeleton.{Skeleton}
use Rattle.yew_words.specs.Word.{Word}
use Rattle.yew_io.specs.Faults.{Rose}
use Rattle.yew_app.specs.Refusals.{Reason, BadUsage, CannotRead, NotInGrammar, TooLong, TooLarge, FullAudit, TaskPastLimit, CannotWrite, NoMemory}
use Rattle.yew_app.specs.Runs.{IsCause}
use Rattle.yew_app.specs.Outcomes.{Outside, HasCause}

-- where nothing was written, the cause is that for which no text was made
pub has-cause : (does : Skeleton → Type 0) (words : List Word) (before after : Outside) (reason : Reason) → IsCause does words before.files reason → ((name : List ℕ) → reason ≡ CannotRead name → Rose before.read_faults after.read_faults × (after.failed ≡ true) × (after.file ≡ Some name)) → after.answer ≡ before.answer → HasCause does words before after reason
has-cause does words before after (BadUsage place kind) cause read none = (cause, none)
has-cause does words before after (CannotRead name) cause read none = let r = read name refl in (cause, r.0, r.1, r.2, none)
has-cause does words before after (NotInGrammar name at kind) cause read none = (cause, none)
has-cause does words before after (TooLong name) cause read none = (cause, none)
has-cause does words before after (TooLarge name number limit) cause read none = (cause, none)
has-cause does words before after (FullAudit worker entries numbers) cause read none = (cause, none)
has-cause does words before after (TaskPastLimit number) cause read none = (cause, none)
has-cause does words before after CannotWrite cause read none = absurd cause
has-cause does words before after NoMemory cause read none = (cause, none)
