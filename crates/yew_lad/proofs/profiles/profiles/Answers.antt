use Rattle.std.proofs.Common.{◌∷◌, ◌++◌, [], sym, ap₂, ◌∙◌, arith}
use Rattle.std.proofs.lemmas.List.FromFn.{map-range_with_len_more}
use Rattle.yew_lad.specs.SearchedOrder.{profile_of}
use Rattle.yew_lad.proofs.profiles.profiles.Goals as goal

pub loop-v-preserved : goal.loop-v-preserved
loop-v-preserved c =
    c.in_ok-push.ensures.items
    ∙ ap₂ (λ xs x. xs ++ x ∷ []) c.loop-v.invariant c.profile_at.ensures
    ∙ sym (map-range_with_len_more (profile_of c.args.graph.now) 0 c.loop-v.v c.loop-v.v (omega arith))
