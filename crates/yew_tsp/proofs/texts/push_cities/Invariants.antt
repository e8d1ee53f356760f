use Rattle.std.proofs.Common.{◌≡◌, ◌++◌, take}
use Rattle.std.specs.Prelude.{flat_map, codes}
use Rattle.yew_lines.specs.Spelling.{spaced}
use Rattle.yew_tsp.proofs.texts.push_cities.Given as goal

-- the word and the first cities are there
abbrev pub invariant-loop-city : goal.invariant-loop-city
invariant-loop-city l = l.out.items ≡ l.fn.out.items ++ (codes "tour" ++ flat_map spaced (take l.city-index l.cities))
