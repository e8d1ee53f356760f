use Rattle.std.proofs.Common.{length}
use Rattle.yew_text.specs.Position.{SameText, fields_left}
use Rattle.yew_tsp.proofs.HeaderSteps.{SoFar}
use Rattle.yew_tsp.proofs.header.read_header.Given as goal

abbrev pub invariant-loop-field : goal.invariant-loop-field
invariant-loop-field l = record {
  so_far : SoFar l.fn.cursor l.given l.cursor;
  same : SameText l.fn.cursor l.cursor;
}

-- the lines that are left
abbrev pub decreases-loop-field : goal.decreases-loop-field
decreases-loop-field l = length (fields_left l.cursor)
