use Rattle.std.proofs.Common.{◌≡◌, ◌+◌, ◌<◌, ◌≤◌, ◌^◌, length, ap, arith, ◌∙◌}
use Rattle.yew_log.specs.Entries.{entry_note}
use Rattle.yew_log.specs.Recording.{note_of}
use Rattle.yew_log.proofs.Kept.{IsKept-push}
use Rattle.yew_log.proofs.full.FullRecorder.note.Goals as goal

pub invariant_of-self-2 : goal.invariant_of-self-2
invariant_of-self-2 c =
    let numbers = c.self.inside.numbers in
    let path = c.args.path.now.numbers in
    let few : length c.self.inside.kept.items < 2 ^ 18 = omega arith in
    let bounded = c.self.invariant.numbers_fit in
    let told = c.numbers-more.ensures.value in
    let small : numbers + length path ≤ 2 ^ 22 = rw (← told) (omega arith) in
    let same : entry_note c.entry_of.result ≡ note_of c.args.what path c.args.first c.args.second =
    c.entry_of.ensures ∙ ap (λ p. note_of c.args.what p c.args.first c.args.second) c.in_ok-path.ensures in
    let kept = IsKept-push c.self.inside.kept.items numbers c.entry_of.result c.args.what path c.args.first c.args.second c.self.invariant same few small in
    rw (c.in_ok-keep.ensures.ok, told) kept
