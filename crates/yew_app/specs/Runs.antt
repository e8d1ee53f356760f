-- What a run does: which text it writes, and why it does not.
use Rattle.std.specs.Prelude.{◌≡◌, ℕ, ◌⊎◌, List, Option, IfSome, IsSomeAnd, IsTrue}
use Rattle.yew_words.specs.declared.plan.Job.{Job}
use Rattle.yew_words.specs.declared.plan.Skeleton.{Skeleton}
use Rattle.yew_words.specs.declared.plan.UsageKind.TheVariants.{NotHere}
use Rattle.yew_words.specs.Word.{Word}
use Rattle.yew_words.specs.Plans.{Planned, PlanOf}
use Rattle.yew_words.specs.Offences.{Offending}
use Rattle.yew_io.specs.Shelf.{File}
use Rattle.yew_app.specs.Asks.{IsSequential}
use Rattle.yew_app.specs.Jobs.{of_job}
use Rattle.yew_app.specs.MadeTexts.{IsMadeText}
use Rattle.yew_app.specs.Meanings.{known_files, AnswersFiles, MeetsFiles, IsFineFiles, PassesFiles, StopsFiles}
use Rattle.yew_app.specs.Refusals.{Reason, BadUsage, CannotWrite, NoMemory}
use Rattle.yew_app.specs.declared.asked.Asked.{Asked}

-- what a plan asks of a search
abbrev pub asked_of : Planned → Asked
asked_of plan = record { skeleton = plan.skeleton; workers = plan.workers; report = plan.report; audit = plan.audit }

-- the words are this plan, whose skeleton is one of these
pub record IsPlanOf (does : Skeleton → Type 0) (words : List Word) (plan : Planned) : Type 0 where
  pub is_plan : PlanOf words plan
  pub done : does plan.skeleton

-- the words have a plan whose skeleton is none of these
pub record HasOtherSkeleton (does : Skeleton → Type 0) (words : List Word) : Type 0 where
  pub plan : Planned
  pub is_plan : PlanOf words plan
  pub other : ¬ does plan.skeleton

-- what is wrong with the words, whatever the files are, in a run that does these skeletons
abbrev pub RefusesWords : (Skeleton → Type 0) → List Word → Reason → Type 0
RefusesWords does words (BadUsage place kind) = Offending words place kind ⊎ ((place ≡ 2) × (kind ≡ NotHere) × HasOtherSkeleton does words)
RefusesWords does words _ = ⊥

module _ (job : Job) (names : List Word) (plan : Planned) where
  -- the text is one for these files
  abbrev pub AnswersJob : List File → List ℕ → Type 0
  AnswersJob told text = of_job job names plan (λ kind. IsMadeText kind plan.solve plan.seed plan.size text) (λ X N m. AnswersFiles m (asked_of plan) told text)

  -- why the files are refused: the first that is not fine
  abbrev pub RefusesJob : List File → Reason → Type 0
  RefusesJob told reason = of_job job names plan (λ kind. ⊥) (λ X N m. m.Refuses told reason)

  -- nothing is wrong with the files, an audit that is asked for has room for the search, and there are not too many items
  abbrev pub IsFineJob : List File → Type 0
  IsFineJob told = of_job job names plan (λ kind. Unit {0}) (λ X N m. IsFineFiles m (asked_of plan) told)

  -- the files are read, and the sequential log is past what an audit has room for
  abbrev pub MeetsJob : List File → Type 0
  MeetsJob told = of_job job names plan (λ kind. ⊥) (λ X N m. MeetsFiles m told)

  -- the files are read, and there are too many items
  abbrev pub PassesJob : List File → Type 0
  PassesJob told = of_job job names plan (λ kind. ⊥) (λ X N m. PassesFiles m (asked_of plan) told)

  -- why no text is made over the files that are known: what is made is refused for want of memory alone
  abbrev pub StopsJob : Option (List File) → Reason → Type 0
  StopsJob known reason = of_job job names plan (λ kind. reason ≡ NoMemory) (λ X N m. StopsFiles m (asked_of plan) known reason)

-- of a run that does these skeletons
module _ (does : Skeleton → Type 0) (words : List Word) (files : Option (List File)) where
  -- The text is one for the words: they have a plan, and where its files are known, the text is right for them. Those of a
  -- plan without files are known to be none, also where the shelf tells nothing.
  pub record Answers (text : List ℕ) : Type 0 where
    pub plan : Planned
    pub is_plan : IsPlanOf does words plan
    pub right : IfSome (known_files plan.files files) (λ told. AnswersJob plan.job plan.files plan told text)

  -- The words have a plan whose files are known, and are refused for this reason.
  pub record RefusesFiles (reason : Reason) : Type 0 where
    pub plan : Planned
    pub is_plan : IsPlanOf does words plan
    pub why : IsSomeAnd (known_files plan.files files) (λ told. RefusesJob plan.job plan.files plan told reason)

  -- The words have a plan for one worker in preorder that asks for an audit, its files are known, and its search has more than
  -- an audit has room for.
  pub record FillsAudit : Type 0 where
    pub plan : Planned
    pub is_plan : IsPlanOf does words plan
    pub sequential : IsSequential plan.skeleton
    pub asked : IsTrue plan.audit
    pub meets : IsSomeAnd (known_files plan.files files) (MeetsJob plan.job plan.files plan)

  -- The words have a plan for tasks that are claimed in order, its files are known, and there are too many items.
  pub record HasTooManyTasks : Type 0 where
    pub plan : Planned
    pub is_plan : IsPlanOf does words plan
    pub passes : IsSomeAnd (known_files plan.files files) (PassesJob plan.job plan.files plan)

  -- The words have a plan whose files are known, and nothing is wrong with them and its search.
  pub record IsFine : Type 0 where
    pub plan : Planned
    pub is_plan : IsPlanOf does words plan
    pub fine : IsSomeAnd (known_files plan.files files) (IsFineJob plan.job plan.files plan)

  -- the words have a plan that gives no text for this reason
  pub record StopsWords (reason : Reason) : Type 0 where
    pub plan : Planned
    pub is_plan : IsPlanOf does words plan
    pub why : StopsJob plan.job plan.files plan (known_files plan.files files) reason

  -- why no text is made: the words are refused, or their plan gives none
  abbrev pub IsCause : Reason → Type 0
  IsCause (BadUsage place kind) = RefusesWords does words (BadUsage place kind)
  IsCause CannotWrite = ⊥
  IsCause NoMemory = Unit {0}
  IsCause reason = StopsWords reason
