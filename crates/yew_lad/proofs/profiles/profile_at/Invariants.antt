use Rattle.std.proofs.Common.{◌≡◌, length}
use Rattle.std.specs.List.{filter, range_with_len}
use Rattle.yew_lad.specs.Digraphs.{is_other_arc}
use Rattle.yew_lad.proofs.profiles.profile_at.Given as goal

abbrev pub invariant-loop-u : goal.invariant-loop-u
invariant-loop-u l = record {
  successors : l.successors ≡ length (filter (λ u. is_other_arc l.graph l.v u) (range_with_len 0 l.u));
  predecessors : l.predecessors ≡ length (filter (λ u. is_other_arc l.graph u l.v) (range_with_len 0 l.u));
}
