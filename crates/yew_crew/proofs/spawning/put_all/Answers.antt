use Rattle.std.proofs.Common.{refl, sym, ap, subst, ◌∙◌, arith}
use Rattle.yew_laws.specs.Tasks.{IsAmong}
use Rattle.yew_pool.specs.Passes.{PassView}
use Rattle.yew_pool.specs.Tasks.{IsSoundFor}
use Rattle.yew_crew.proofs.Putting.{no_items, put_begins, put_last, put_ends, same_pass, pass_more, pass_part}
use Rattle.yew_crew.proofs.spawning.put_all.Goals as goal

pub loop-task-init : goal.loop-task-init
loop-task-init g c = (refl, put_begins (IsSoundFor IsAmong c.args.pass.now.members) _ _ _ c.requires.sound c.reverse.ensures.permutation c.reverse.ensures.items)

pub put-requires-clause-pool : goal.put-requires-clause-pool
put-requires-clause-pool g c = ap (λ (p : PassView _ _). p.pool) c.loop-task.invariant.0 ∙ c.requires.pool

pub put-requires-clause-sound : goal.put-requires-clause-sound
put-requires-clause-sound g c =
    subst (λ about. IsSoundFor IsAmong about c.in-Some.task) (sym (ap (λ (p : PassView _ _). p.members) c.loop-task.invariant.0))
    (put_last (IsSoundFor IsAmong c.args.pass.now.members) _ _ _ _ c.pop.new.self.items c.in-Some.task c.loop-task.invariant.1 c.in-Some.ensures.items)

pub loop-task-preserved : goal.loop-task-preserved
loop-task-preserved g c = (
  same_pass c.args.pass.now c.loop-task.pass c.put.new.pass _ c.loop-task.invariant.0 c.in-Ok.ensures.ok,
  pass_more (IsSoundFor IsAmong c.args.pass.now.members) _ _ _ c.pop.new.self.items c.loop-task.pass _ c.in-Some.task c.loop-task.invariant.1 c.in-Some.ensures.items c.in-Ok.ensures.ok,
)

pub returns-in-Err-clause-err : goal.returns-in-Err-clause-err
returns-in-Err-clause-err g c = pass_part (IsSoundFor IsAmong c.args.pass.now.members) _ _ _ c.loop-task.pass _ c.loop-task.invariant.1 c.in-Err.ensures.refused.1

pub returns-in-Err-clause-same : goal.returns-in-Err-clause-same
returns-in-Err-clause-same g c = c.in-Err.ensures.refused.1 ∙ c.loop-task.invariant.0 ∙ ap (λ (p : PassView _ _). record c.args.pass.now { put = p.put }) (sym c.in-Err.ensures.refused.1)

pub returns-clause-ok : goal.returns-clause-ok
returns-clause-ok g c = put_ends (IsSoundFor IsAmong c.args.pass.now.members) _ _ _ _ c.loop-task.invariant.1 (no_items c.loop-task.rest.items (omega (arith, c.loop-task.rest.ok.0, c.in_default.ensures.cases.0)))

pub returns-clause-same : goal.returns-clause-same
returns-clause-same g c = c.loop-task.invariant.0
