use Rattle.std.proofs.Common.{◌≡◌, length, arith}
use Rattle.yew_pool.proofs.Trying.{one_of_all}
use Rattle.yew_pool.proofs.tests.in_threads.Goals as goal

pub map_vec-requires-after_bounds : goal.map_vec-requires-after_bounds
map_vec-requires-after_bounds g c κs within = λ i x h e.
    (record { shared = c.type_bounds.sync-R.shared }, c.requires.width, one_of_all _ _ c.args.passes.items i x c.requires.passes h e)

pub returns : goal.returns
returns g c =
    let same : length c.in_ok-after.after.items ≡ length c.args.passes.items =
    omega (arith, c.in_ok-after.ensures.len, c.in_ok-after.after.ok.0, c.args.passes.ok.0) in
    (λ i d h. (c.in_ok-after.ensures.each i d (omega (arith, h, same))).1.call.met, same)
