use Rattle.std.proofs.Common.{refl, sym, subst}
use Rattle.yew_walk.proofs.Results.{OnOk-map}
use Rattle.yew_ranked.specs.Joining.{IsJoined}
use Rattle.yew_ranked.proofs.JoinedParts.{joined-last, joined-none}
use Rattle.yew_ranked.proofs.joining.+take_apart.Goals as goal

pub returns-in_default-clause-ok : goal.returns-in_default-clause-ok
returns-in_default-clause-ok g t c = joined-none _ _ (c.in_default.ensures.none refl)

pub returns-clause-ok : goal.returns-clause-ok
returns-clause-ok g t c =
    OnOk-map c.join_one.result (λ b. subst (λ rs. IsJoined c.args.parts.now rs c.join_one.new.parts) (sym c.in-Some.ensures.items) (joined-last _ _ _ _ _ c.in_ok-take_apart.ensures.ok b)) c.join_one.ensures.ok
