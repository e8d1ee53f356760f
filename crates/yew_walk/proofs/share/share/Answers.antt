use Rattle.std.proofs.Common.{refl, inl, inr, sym, subst, [], append-nil}
use Rattle.std.specs.List.{AllByRecursion}
use Rattle.yew_laws.specs.declared.problem.Task.{Task}
use Rattle.yew_laws.specs.SearchTree.{IsTask}
use Rattle.yew_stack.specs.Levels.{levels}
use Rattle.yew_stack.specs.Splits.{paths_of, Splits}
use Rattle.yew_walk.specs.Outlets.{IsSentPart}
use Rattle.yew_walk.proofs.Shared.{all-appended, splits-off}
use Rattle.yew_walk.proofs.share.share.Goals as goal

pub returns-in-Err-note_all-clause-err : goal.returns-in-Err-note_all-clause-err
returns-in-Err-note_all-clause-err g c = record {
  tasks = c.split_lowest.new.into.items;
  is_off = splits-off g.P.Problem c.args.problem.now c.args.chunk c.args.stack.now.levels c.split_lowest.new.self.levels c.new-tasks.result.items c.split_lowest.new.into.items c.new-tasks.ensures.items c.in-Ok.ensures.ok c.in-Ok.ensures.to_come (c.in-Ok.ensures.levels_open c.requires.levels_open);
  noting = rw c.as_slice.ensures.value at c.in-Err-note_all.ensures.err;
  sent_are = inl refl;
}

pub send-requires : goal.send-requires
send-requires g c =
    let tasks = all-appended g.P.Problem c.args.problem.now c.new-tasks.result.items c.split_lowest.new.into.items c.new-tasks.ensures.items (c.in-Ok.ensures.levels_open c.requires.levels_open).1 in
    subst (λ (p : g.row.P.Denot). AllByRecursion (λ (task : Task g.row.P-Node.Denot). IsTask g.P.Problem p task.path.numbers task.node) c.split_lowest.new.into.items) (sym c.requires.outlet) tasks

pub returns-in-Ok-send-clause-ok : goal.returns-in-Ok-send-clause-ok
returns-in-Ok-send-clause-ok g c = record {
  tasks = c.split_lowest.new.into.items;
  is_off = splits-off g.P.Problem c.args.problem.now c.args.chunk c.args.stack.now.levels c.split_lowest.new.self.levels c.new-tasks.result.items c.split_lowest.new.into.items c.new-tasks.ensures.items c.in-Ok.ensures.ok c.in-Ok.ensures.to_come (c.in-Ok.ensures.levels_open c.requires.levels_open);
  splits = subst (λ b. Splits c.args.chunk (levels (g.P.Problem.remaining c.args.problem.now) c.args.stack.now.levels) b c.split_lowest.new.into.items (levels (g.P.Problem.remaining c.args.problem.now) c.split_lowest.new.self.levels)) c.new-tasks.ensures.items c.in-Ok.ensures.ok;
  log_is = rw c.as_slice.ensures.value at c.in-Ok-note_all.ensures.ok;
  within = c.in-Ok-note_all.ensures.within;
  sent_are = c.in-Ok-send.ensures.ok;
  given_is = c.in-Ok-send.ensures.goes;
}

pub returns-in-Err-send-clause-err : goal.returns-in-Err-send-clause-err
returns-in-Err-send-clause-err g c = record {
  tasks = c.split_lowest.new.into.items;
  is_off = splits-off g.P.Problem c.args.problem.now c.args.chunk c.args.stack.now.levels c.split_lowest.new.self.levels c.new-tasks.result.items c.split_lowest.new.into.items c.new-tasks.ensures.items c.in-Ok.ensures.ok c.in-Ok.ensures.to_come (c.in-Ok.ensures.levels_open c.requires.levels_open);
  noting = record {
    done = paths_of c.split_lowest.new.into.items;
    rest = [];
    paths_are = sym (append-nil (paths_of c.split_lowest.new.into.items));
    log_is = rw c.as_slice.ensures.value at c.in-Ok-note_all.ensures.ok;
    cause = tt;
  };
  sent_are = inr (refl, subst (λ (p : g.row.P.Denot). IsSentPart (λ (task : Task g.row.P-Node.Denot). IsTask g.P.Problem p task.path.numbers task.node) (g.O.Outlet.sent c.args.outlet.now) c.split_lowest.new.into.items (g.O.Outlet.sent c.send.new.self)) c.requires.outlet c.in-Err-send.ensures.err);
}
