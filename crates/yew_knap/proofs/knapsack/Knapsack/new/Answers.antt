use Rattle.std.proofs.Common.{◌≡◌, ◌<◌, ◌≤◌, ◌∙◌, length, ap, sym, subst, arith}
use Rattle.std.specs.List.{AllByRecursion, sum_by}
use Rattle.yew_knap.specs.declared.copies.ItemCopy.{ItemCopy}
use Rattle.yew_knap.specs.declared.order.Numbered.{Numbered}
use Rattle.yew_knap.specs.Copies.{all_copies, searched_copies}
use Rattle.yew_knap.specs.CopyLaws.{length-searched_copies, copies-searched_order, searched_copies-below}
use Rattle.yew_knap.specs.Instance.{Instance, copies_in}
use Rattle.yew_knap.proofs.knapsack.Knapsack.new.Goals as goal

pub copies_of-requires : goal.copies_of-requires
copies_of-requires c =
    let many = copies-searched_order (record { capacity = c.args.capacity; items = c.as_slice.result.now }) in
    omega (arith, many, ap (sum_by (λ (y : Numbered). y.copies)) (c.as_slice-2.ensures.value ∙ c.in_ok-order.ensures), ap copies_in c.as_slice.ensures.value)

pub places_of-requires : goal.places_of-requires
places_of-requires c =
    let instance : Instance = record { capacity = c.args.capacity; items = c.as_slice.result.now } in
    let few : copies_in instance.items ≤ 256 = omega (arith, ap copies_in c.as_slice.ensures.value) in
    let same : searched_copies instance ≡ c.as_slice-3.result.now = sym (c.as_slice-3.ensures.value ∙ c.in_ok-copies.ensures ∙ ap (all_copies 0) (c.as_slice-2.ensures.value ∙ c.in_ok-order.ensures)) in
    record {
      count = omega (arith, length-searched_copies instance, few, ap length same);
      indexes = subst (AllByRecursion (λ (copy : ItemCopy). copy.index < 256)) same (searched_copies-below instance few);
    }
