use Rattle.std.proofs.Common.{[], ◌∷◌, ◌++◌, refl}
use Rattle.yew_log.specs.Notes.{spawned}
use Rattle.yew_ranked.proofs.FrontierStops.{refused-stops}
use Rattle.yew_ranked.proofs.frontier.spawn.Goals as goal

pub returns-in-Err-note-clause-err : goal.returns-in-Err-note-clause-err
returns-in-Err-note-clause-err g c =
    let next = spawned (c.args.frontier.now.path.numbers ++ c.args.number ∷ []) in
    refused-stops (next ∷ []) [] [] next c.args.frontier.now.next _ _ _ c.in-Err-note.fault refl refl c.in-Err-note.ensures.err (rw c.in-Ok.ensures.numbers at c.in-Err-note.ensures.cause)
