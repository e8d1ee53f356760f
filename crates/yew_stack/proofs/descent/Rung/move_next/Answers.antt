use Rattle.std.proofs.Common.{◌∷◌, ◌++◌, [], take, ap, refl, ◌∙◌}
use Rattle.yew_stack.proofs.descent.Rung.move_next.Goals as goal

pub returns-in-Some-clause-ok : goal.returns-in-Some-clause-ok
returns-in-Some-clause-ok g c =
    let some = rw c.in-Some.is at c.in_ok-node.ensures.ok in
    record {
      task = record { path = c.in_ok-path.path; node = c.in-Some.node };
      after_is = rw c.unwrap.ensures at c.push.ensures.items ∙ ap (λ ts. ts ++ record { path = c.in_ok-path.path; node = c.in-Some.node } ∷ []) c.in_ok-reserve.ensures.items;
      gives = record { path_is = c.in_ok-path.ensures ∙ ap (λ r. take c.args.depth c.args.path.now.numbers ++ r.given ∷ []) c.self.view_is; remaining_is = some.0; given_is = some.1; parent_is = refl };
    }
