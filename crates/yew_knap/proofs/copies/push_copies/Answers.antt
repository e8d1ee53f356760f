use Rattle.std.proofs.Common.{◌≡◌, ◌+◌, ◌-◌, ◌∙◌, ◌∷◌, [], ◌++◌, suc, append_assoc, ap, ap₂, sym, arith}
use Rattle.yew_knap.specs.Copies.{copies_from}
use Rattle.yew_knap.specs.CopyLaws.{copy_of}
use Rattle.yew_knap.proofs.copies.push_copies.Goals as goal

pub loop-turn-preserved : goal.loop-turn-preserved
loop-turn-preserved c =
    let item = c.args.item.now in
    let turn = c.loop-turn.turn in
    let at = c.len-first.result + turn in
    let left : item.copies - turn ≡ suc (item.copies - (turn + 1)) = omega (arith, c.loop-turn-test.true) in
    let next : c.len-first.result + (turn + 1) ≡ at + 1 = omega arith in
    ap₂ (λ os k. os ++ copies_from item (turn + 1) k (item.copies - (turn + 1))) c.in_ok-push.ensures.items next
    ∙ append_assoc c.loop-turn.copies.items (copy_of item turn at ∷ []) (copies_from item (turn + 1) (at + 1) (item.copies - (turn + 1)))
    ∙ ap (λ n. c.loop-turn.copies.items ++ copies_from item turn at n) (sym left)
    ∙ c.loop-turn.invariant
