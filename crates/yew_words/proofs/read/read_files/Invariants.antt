-- the words so far are files' names
use Rattle.std.proofs.Common.{◌≤◌, take, length}
use Rattle.yew_words.specs.Word.{texts}
use Rattle.yew_words.proofs.EachWordJudged.{AreNames}
use Rattle.yew_words.proofs.read.read_files.Given as goal

abbrev pub invariant-loop-index : goal.invariant-loop-index
invariant-loop-index l = record { within : l.index ≤ length l.words; names : AreNames (texts (take l.index l.words)) }
