use Rattle.std.proofs.Common.{◌≡◌, ◌++◌, take}
use Rattle.std.specs.Prelude.{flat_map}
use Rattle.yew_lines.specs.Spelling.{spaced}
use Rattle.yew_lines.proofs.push_numbers_line.Given as goal

-- the word and the first numbers are there
abbrev pub invariant-loop-number : goal.invariant-loop-number
invariant-loop-number l =
    l.out.items ≡ l.fn.out.items ++ (l.word ++ flat_map spaced (take l.number-index l.numbers))
