-- What a run leaves outside: the texts that it wrote, and its status.
use Rattle.std.specs.Prelude.{◌≡◌, ◌⊎◌, ℕ, ◌^◌, List, Bool, true, IsTrue, Option, Some}
use Rattle.yew_words.specs.declared.plan.Skeleton.{Skeleton}
use Rattle.yew_words.specs.Word.{Word}
use Rattle.yew_io.specs.Faults.{Rose}
use Rattle.yew_io.specs.Shelf.{File}
use Rattle.yew_io.specs.Sink.{Appends, AppendsPrefix}
use Rattle.yew_io.specs.declared.shelf.Shelf as shelf_trait
use Rattle.yew_io.specs.declared.sink.Sink as sink_trait
use Rattle.yew_app.specs.Refusals.{Reason, CannotRead, FullAudit, TaskPastLimit, CannotWrite, fault_line, status_of}
use Rattle.yew_app.specs.Runs.{Answers, RefusesWords, RefusesFiles, FillsAudit, HasTooManyTasks, IsFine, IsCause}

-- the world outside at one moment: the shelf of files, the sink of the answer, and the sink of faults
pub record Outside : Type 0 where
  pub files : Option (List File)
  pub file : Option (List ℕ)
  pub failed : Bool
  pub read_faults : ℕ
  pub answer : Option (List ℕ)
  pub write_faults : ℕ
  pub said : Option (List ℕ)
  pub say_faults : ℕ

-- what these objects are at a moment
abbrev pub outside : {S K E : Type 0} → shelf_trait.Ghosts S → sink_trait.Ghosts K → sink_trait.Ghosts E → S → K → E → Outside
outside shelves sinks says shelf out err = record {
  files = shelves.files shelf;
  file = shelves.name shelf;
  failed = shelves.failed shelf;
  read_faults = shelves.faults shelf;
  answer = sinks.written out;
  write_faults = sinks.faults out;
  said = says.written err;
  say_faults = says.faults err;
}

-- the status and the line of a reason; where the sink of faults fails, a prefix of the line
pub record Says (before after : Outside) (status : ℕ) (reason : Reason) : Type 0 where
  pub status_is : status ≡ status_of reason
  pub prefix : AppendsPrefix before.said (fault_line reason) after.said
  pub whole : ¬ Rose before.say_faults after.say_faults → Appends before.said (fault_line reason) after.said

-- of a run that does these skeletons, between these two moments
module _ (does : Skeleton → Type 0) (words : List Word) (before after : Outside) where
  -- a right answer was written whole, and nothing to the sink of faults
  pub record WritesAnswer : Type 0 where
    pub text : List ℕ
    pub answers : Answers does words before.files text
    pub written : Appends before.answer text after.answer
    pub silent : after.said ≡ before.said

  -- a prefix of a right answer was written, and the sink failed
  pub record BreaksOff : Type 0 where
    pub text : List ℕ
    pub answers : Answers does words before.files text
    pub prefix : AppendsPrefix before.answer text after.answer
    pub rose : Rose before.write_faults after.write_faults

  -- what is so where a run ends for this reason, beside the status and the line: of a read fault, that the shelf failed at this file; of a write fault, that the answer breaks off; and of all others, that nothing was written
  abbrev pub HasCause : Reason → Type 0
  HasCause CannotWrite = BreaksOff
  HasCause (CannotRead name) =
      IsCause does words before.files (CannotRead name) × Rose before.read_faults after.read_faults × (after.failed ≡ true) × (after.file ≡ Some name) × (after.answer ≡ before.answer)
  HasCause reason = IsCause does words before.files reason × (after.answer ≡ before.answer)

  -- the run ends for this reason
  pub record EndsFor (status : ℕ) (reason : Reason) : Type 0 where
    pub says : Says before after status reason
    pub cause : HasCause reason

  -- it ends for some reason
  abbrev pub IsRefused : ℕ → Type 0
  IsRefused status = (reason : Reason) × EndsFor status reason

  -- where the words are refused, it says so
  abbrev pub SaysWords : ℕ → Type 0
  SaysWords status = (reason : Reason) → RefusesWords does words reason → Says before after status reason

  -- where no fault rises at the shelf and the files are known and refused, it says so, unless memory runs out
  abbrev pub SaysFiles : ℕ → Type 0
  SaysFiles status = ¬ Rose before.read_faults after.read_faults →
      (reason : Reason) → RefusesFiles does words before.files reason → Says before after status reason ⊎ (status ≡ 6)

  -- where no fault rises and nothing is wrong with the words and the files, which are known, it answers, unless memory runs out
  abbrev pub IsComplete : ℕ → Type 0
  IsComplete status = ¬ Rose before.read_faults after.read_faults → ¬ Rose before.write_faults after.write_faults →
      IsFine does words before.files → (status ≡ 0) ⊎ (status ≡ 6)

  -- where no fault rises at the shelf, the files are known and read, and the search of one worker in preorder has more than the
  -- audit that is asked for has room for, it says where the audit was full, unless memory runs out
  abbrev pub SaysAudit : ℕ → Type 0
  SaysAudit status = ¬ Rose before.read_faults after.read_faults → FillsAudit does words before.files →
      ((entries : ℕ) × (numbers : ℕ) × Says before after status (FullAudit 1 entries numbers)) ⊎ (status ≡ 6)

  -- where no fault rises at the shelf, the files are known and read, and there are too many items, it says that one would need the number 2^20, unless an audit that is asked for was full at the first worker before, or memory runs out
  abbrev pub SaysTasks : ℕ → Type 0
  SaysTasks status = ¬ Rose before.read_faults after.read_faults → (many : HasTooManyTasks does words before.files) →
      Says before after status (TaskPastLimit (2 ^ 20))
      ⊎ ((IsTrue many.plan.audit × (entries : ℕ) × (numbers : ℕ) × Says before after status (FullAudit 1 entries numbers)) ⊎ (status ≡ 6))
