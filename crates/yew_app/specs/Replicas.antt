-- Runs that write the same bytes, whatever their skeletons and their workers.
use Rattle.std.specs.Prelude.{◌≡◌, List, Option, IsSome}
use Rattle.yew_io.specs.Shelf.{File}
use Rattle.yew_words.specs.declared.plan.Skeleton.{Skeleton}
use Rattle.yew_words.specs.declared.plan.Skeleton.TheVariants.{Sequential}
use Rattle.yew_words.specs.Plans.{Planned, PlanOf}
use Rattle.yew_words.specs.Word.{Word}
use Rattle.yew_app.specs.Asks.{AsksFirst}
use Rattle.yew_app.specs.Meanings.{known_files}
use Rattle.yew_app.specs.Outcomes.{Outside, WritesAnswer}
use Rattle.yew_app.specs.Runs.{asked_of}

-- the plan that has `sequential` in the place of its skeleton
abbrev pub in_preorder : Planned → Planned
in_preorder plan = record plan { skeleton = Sequential; workers = 1 }

-- Both words have plans whose files are known, which are one plan where `sequential` stands in the place of their skeletons, and each asks for what one worker writes in preorder.
pub record AreReplicas (words others : List Word) (files : Option (List File)) : Type 0 where
  pub plan : Planned
  pub other : Planned
  pub is_plan : PlanOf words plan
  pub is_other : PlanOf others other
  pub same : in_preorder plan ≡ in_preorder other
  pub asks : AsksFirst (asked_of plan)
  pub other_asks : AsksFirst (asked_of other)
  pub known : IsSome (known_files plan.files files)

-- A run of the ones and a run of the others, of these skeletons, begin with the same files and the same bytes before them; where both answer, they leave the same bytes.
abbrev pub WriteTheSame : (Skeleton → Type 0) → (Skeleton → Type 0) → List Word → List Word → Outside → Outside → Outside → Outside → Type 0
WriteTheSame does others_do words others before after other_before other_after =
    AreReplicas words others before.files → other_before.files ≡ before.files → IsSome before.answer → other_before.answer ≡ before.answer
    → WritesAnswer does words before after → WritesAnswer others_do others other_before other_after → other_after.answer ≡ after.answer
