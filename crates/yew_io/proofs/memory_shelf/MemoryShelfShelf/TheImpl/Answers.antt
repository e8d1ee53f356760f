use Rattle.yew_io.proofs.Told.{open_tells, read_tells}
use Rattle.yew_io.proofs.memory_shelf.MemoryShelfShelf.TheImpl.Goals as goal

pub open-tells : goal.open-tells
open-tells g c = open_tells c.args.self.now c.new.self.now c.args.file_name.now c.result c.ensures.fails c.ensures.ok c.ensures.err c.ensures.counted

pub read-tells : goal.read-tells
read-tells g c = read_tells c.args.self.now c.new.self.now c.new.buf.now c.result c.ensures.given c.ensures.told c.ensures.ok c.ensures.err c.ensures.counted
