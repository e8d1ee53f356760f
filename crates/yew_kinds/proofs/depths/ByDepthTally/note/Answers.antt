use Rattle.std.proofs.Common.{◌+◌, ◌∙◌, sym}
use Rattle.yew_kinds.proofs.JoinedCounts.{joined_counts-one_at}
use Rattle.yew_kinds.proofs.depths.ByDepthTally.note.Goals as goal

pub returns : goal.returns
returns g c = c.note.ensures ∙ sym (joined_counts-one_at (c.args.self.now.depths + 1) c.args.sum.now c.args.depth c.requires.one_each c.requires.small)
