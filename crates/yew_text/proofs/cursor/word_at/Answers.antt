-- By how much stands in front.
use Rattle.std.proofs.Common.{◌-◌, ◌<◌, length, take, drop, arith}
use Rattle.yew_text.proofs.Finding.{tail_is, word_found}
use Rattle.yew_text.proofs.cursor.word_at.Goals as goal

pub returns : goal.returns
returns c =
    let bytes = c.args.bytes.now in
    let start = c.skip_white-start.result.0 in
    let some : start < length bytes = omega (arith, c.skip_white-start.ensures.reached.within) in
    word_found bytes c.args.place c.args.line start c.skip_white-start.result.1 c.skip_white-start.ensures some (take (length bytes - start) (drop start bytes)) (tail_is start bytes) c.word_len-len.result c.word_len-len.ensures.count
