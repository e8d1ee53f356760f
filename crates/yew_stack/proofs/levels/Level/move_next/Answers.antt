use Rattle.std.proofs.Common.{◌∷◌, ◌++◌, [], ap, ◌∙◌}
use Rattle.yew_stack.proofs.levels.Level.move_next.Goals as goal

pub returns-in-Some-clause-ok : goal.returns-in-Some-clause-ok
returns-in-Some-clause-ok g c = record {
  task = c.in-Some.task;
  after_is = rw c.unwrap.ensures at c.push.ensures.items ∙ ap (λ ts. ts ++ c.in-Some.task ∷ []) c.in_ok-reserve.ensures.items;
  gives = rw c.in-Some.is at c.in_ok-task.ensures.ok;
}
