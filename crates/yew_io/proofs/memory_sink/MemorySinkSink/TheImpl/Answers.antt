use Rattle.yew_io.proofs.Told.{sink_tells}
use Rattle.yew_io.proofs.memory_sink.MemorySinkSink.TheImpl.Goals as goal

pub write-tells : goal.write-tells
write-tells c =
    sink_tells c.args.self.now c.new.self.now c.args.bytes.now c.result c.ensures.fails c.ensures.count c.ensures.ok c.ensures.err c.ensures.some c.ensures.counted
