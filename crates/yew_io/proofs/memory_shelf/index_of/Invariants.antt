use Rattle.std.proofs.Common.{◌≡◌, drop}
use Rattle.yew_io.specs.Shelf.{bytes_of}
use Rattle.yew_io.specs.MemoryShelf.{files_of}
use Rattle.yew_io.proofs.memory_shelf.index_of.Given as goal

-- no file before the index has the name
abbrev pub invariant-loop-index : goal.invariant-loop-index
invariant-loop-index l = bytes_of (files_of l.files) l.name ≡ bytes_of (files_of (drop l.index l.files)) l.name
