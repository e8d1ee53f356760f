use Rattle.std.specs.Prelude.{◌≡◌, sum_by, take}
use Rattle.yew_pool.proofs.closing.look_at_shares.Given as goal

abbrev pub invariant-loop-at : goal.invariant-loop-at
invariant-loop-at g l = sum_by (λ pass. pass.share) (take l.at l.passes.items) ≡ l.at
