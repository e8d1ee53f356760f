use Rattle.std.proofs.Common.{◌≡◌, ◌+◌, ◌∙◌, ◌++◌, length, drop, get_or, append_assoc, ap, ap₂, sym, arith}
use Rattle.std.specs.List.{sum_by}
use Rattle.std.proofs.lemmas.List.{drop_more, length-append}
use Rattle.std.proofs.lemmas.List.Sums.{sum_by-cons}
use Rattle.yew_knap.specs.declared.order.Numbered.{Numbered}
use Rattle.yew_knap.specs.Copies.{copies_from, all_copies}
use Rattle.yew_knap.specs.CopyLaws.{length-copies_from}
use Rattle.yew_knap.proofs.copies.copies_of.Goals as goal

pub push_copies-requires : goal.push_copies-requires
push_copies-requires c =
    let items = c.args.items.now in
    let index = c.loop-item.item-index in
    let item = get_or items index (record { profit = 0; weight = 0; copies = 0; index = 0 }) in
    let here = ap (sum_by (λ (y : Numbered). y.copies)) (drop_more items index (record { profit = 0; weight = 0; copies = 0; index = 0 }) (omega arith)) in
    let cons = sum_by-cons (λ (y : Numbered). y.copies) item (drop (index + 1) items) in
    omega (arith, here, cons, c.loop-item.invariant.few)

pub loop-item-preserved : goal.loop-item-preserved
loop-item-preserved c =
    let items = c.args.items.now in
    let index = c.loop-item.item-index in
    let item = get_or items index (record { profit = 0; weight = 0; copies = 0; index = 0 }) in
    let old = c.loop-item.copies.items in
    let more = drop_more items index (record { profit = 0; weight = 0; copies = 0; index = 0 }) (omega arith) in
    let here = ap (sum_by (λ (y : Numbered). y.copies)) more in
    let cons = sum_by-cons (λ (y : Numbered). y.copies) item (drop (index + 1) items) in
    let pushed : c.push_copies.new.copies.items ≡ old ++ copies_from item 0 (length old) item.copies = c.in_ok-push_copies.ensures in
    let long : length c.push_copies.new.copies.items ≡ length old + item.copies = ap length pushed ∙ length-append old (copies_from item 0 (length old) item.copies) ∙ ap (λ n. length old + n) (length-copies_from item 0 (length old) item.copies) in
    record {
      rest =
          ap₂ (λ os n. os ++ all_copies n (drop (index + 1) items)) pushed long
          ∙ append_assoc old (copies_from item 0 (length old) item.copies) (all_copies (length old + item.copies) (drop (index + 1) items))
          ∙ ap (λ ys. old ++ all_copies (length old) ys) (sym more)
          ∙ c.loop-item.invariant.rest;
      few = omega (arith, long, here, cons, c.loop-item.invariant.few);
    }
