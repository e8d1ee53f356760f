use Rattle.std.proofs.lemmas.Result.{on_ok_weaker}
use Rattle.yew_make.proofs.TourHeads.{tour_head-pushed}
use Rattle.yew_make.proofs.tour.push_head.Goals as goal

pub returns : goal.returns
returns c =
    on_ok_weaker c.push_text-2.result
    (tour_head-pushed c.args.out.now.items c.push_text.new.out.items c.push_number.new.out.items c.push_text-2.new.out.items c.args.size c.in_ok-push_text.ensures c.in_ok-push_number.ensures)
    c.push_text-2.ensures
