use Rattle.std.proofs.Common.{◌≡◌, ◌-◌, ◌≤◌, vec_len, take, false, Some}
use Rattle.yew_io.proofs.Pieces.{IsReadTo}
use Rattle.yew_io.proofs.reading.read_all.Given as goal

-- the buffer holds the first bytes of the file, and the rest of them is left
abbrev pub invariant-loop-len : goal.invariant-loop-len
invariant-loop-len g l = record {
  held : l.len ≤ vec_len l.bytes;
  within : vec_len l.bytes ≤ l.most;
  so_far : IsReadTo (g.S.Shelf.files l.fn.shelf) l.fn.name (take l.len l.bytes.items) (g.S.Shelf.left l.shelf);
  name : g.S.Shelf.name l.shelf ≡ Some l.fn.name;
  files : g.S.Shelf.files l.shelf ≡ g.S.Shelf.files l.fn.shelf;
  whole : g.S.Shelf.failed l.shelf ≡ false;
  counted : g.S.Shelf.faults l.fn.shelf ≤ g.S.Shelf.faults l.shelf;
}

abbrev pub decreases-loop-len : goal.decreases-loop-len
decreases-loop-len g l = l.most - l.len
