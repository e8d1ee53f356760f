use Rattle.std.proofs.Common.{◌≡◌, drop}
use Rattle.yew_laws.specs.Tree.{node_at}
use Rattle.yew_laws.proofs.nodes.rebuild.Given as goal

-- what is left of the path leads from here to where the whole path leads from the root
abbrev pub invariant-loop-number : goal.invariant-loop-number
invariant-loop-number g l =
    let meaning = g.P.Problem in
    record {
      is_sound : meaning.sound l.problem l.node;
      leads : node_at (meaning.children l.problem) l.node (drop l.number-index l.number-items) ≡ node_at (meaning.children l.problem) (meaning.root l.problem) l.number-items;
    }
