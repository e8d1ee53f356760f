use Rattle.yew_flow.proofs.Children.{done-small}
use Rattle.yew_flow.proofs.flow.Flow.append.Goals as goal

pub ends_behind-requires-clause-small : goal.ends_behind-requires-clause-small
ends_behind-requires-clause-small c = done-small c.args.self.now c.args.node.now c.args.job c.requires.child
