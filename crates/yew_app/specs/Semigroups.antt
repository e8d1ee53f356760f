-- What a genus means: the counts of the numerical semigroups up to it.
use Rattle.std.specs.Prelude.{◌≡◌, ℕ, ◌+◌, List, [], map}
use Rattle.std.specs.List.{range_with_len}
use Rattle.yew_kinds.specs.declared.kind.Kind.TheVariants.{Count}
use Rattle.yew_kinds.specs.DepthCounts.{saturated}
use Rattle.yew_semi.specs.declared.semigroup.Semigroup.{Semigroup}
use Rattle.yew_semi.specs.declared.semigroups.Semigroups.{Semigroups}
use Rattle.yew_semi.specs.CountText.{count_lines}
use Rattle.yew_semi.specs.Gaps.{semigroups_of_genus}
use Rattle.yew_semi.specs.SemigroupTree.{semigroup_tree}
use Rattle.yew_app.specs.Meanings.{Meaning}

-- how many numerical semigroups there are of each genus from 0 to the last, or 2^64 - 1 where that is greater
abbrev pub counts_to : ℕ → List ℕ
counts_to genus = map (λ k. saturated (semigroups_of_genus k)) (range_with_len 0 (genus + 1))

-- a line for each genus from 0 to the last: the genus, and how many numerical semigroups have it
abbrev pub semigroups_meaning : ℕ → Meaning Semigroups Semigroup
semigroups_meaning genus = record {
  names = [];
  Reads = λ told problem. problem.genus ≡ genus;
  Opens = λ told file. ⊥;
  Refuses = λ told reason. ⊥;
  tree = λ problem. semigroup_tree problem.genus;
  kind = Count;
  lines = λ problem solution. count_lines 0 (counts_to problem.genus);
  IsRight = λ problem text. text ≡ count_lines 0 (counts_to genus);
}
