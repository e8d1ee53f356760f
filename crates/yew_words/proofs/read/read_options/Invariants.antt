-- The options so far are kept, and each turn takes one word at least.
use Rattle.std.proofs.Common.{length}
use Rattle.yew_words.specs.Word.{texts}
use Rattle.yew_words.proofs.OptionsRead.{Reading}
use Rattle.yew_words.proofs.read.read_options.Given as goal

abbrev pub invariant-loop-word : goal.invariant-loop-word
invariant-loop-word l = Reading l.head (texts l.fn.files) (texts l.fn.words) l.settings l.place (texts l.rest)

abbrev pub decreases-loop-word : goal.decreases-loop-word
decreases-loop-word l = length l.rest
