use Rattle.std.proofs.Common.{◌++◌, List, ℕ, take, drop, sym, ◌∙◌, ap, subst, arith}
use Rattle.std.proofs.Math.Seq.{take-add}
use Rattle.yew_io.proofs.Pieces.{IsReadTo, read_more}
use Rattle.yew_io.proofs.reading.read_all.Goals as goal

pub loop-len-preserved : goal.loop-len-preserved
loop-len-preserved g c =
    let before = c.loop-len.invariant in
    let said = c.in-Ok.ensures in
    let items = c.read_piece.new.bytes.items in
    let front = said.front ∙ c.make_room.ensures.front in
    let more = read_more _ _ _ _ _ _ before.so_far said.given in
    let joined = ap (λ (l : List ℕ). l ++ take c.in-Ok.count (drop c.loop-len.len items)) (sym front) ∙ sym (take-add c.loop-len.len c.in-Ok.count items) in
    record {
      held = omega (arith, said.within);
      within = omega (arith, said.len, c.make_room.ensures.within);
      so_far = subst (λ bytes. IsReadTo (g.S.Shelf.files c.args.shelf.now) c.args.name.now bytes (g.S.Shelf.left c.read_piece.new.shelf)) joined more;
      name = said.name ∙ before.name;
      files = said.files ∙ before.files;
      whole = said.failed;
      counted = omega (arith, said.counted, before.counted);
    }
