use Rattle.std.proofs.Common.{◌≡◌, ◌∙◌, ◌+◌, ◌∷◌, [], ◌++◌, map, ap, sym, arith}
use Rattle.std.specs.List.{range_with_len}
use Rattle.std.proofs.lemmas.List.{map_push}
use Rattle.yew_flow.specs.Instance.{Instance}
use Rattle.yew_flow.specs.Nodes.{later_entry}
use Rattle.yew_flow.proofs.Rows.{range-more}
use Rattle.yew_flow.proofs.flow.later_of.Goals as goal

pub loop-place-preserved : goal.loop-place-preserved
loop-place-preserved c =
    let instance : Instance = record { jobs = c.args.jobs; machines = c.args.machines; times = c.args.times.now } in
    let place = c.loop-place.place in
    let own : 0 + place ≡ place = omega arith in
    let range : range_with_len 0 (place + 1) ≡ range_with_len 0 place ++ place ∷ [] = range-more 0 place ∙ ap (λ k. range_with_len 0 place ++ k ∷ []) own in
    c.in_ok-push.ensures.items
    ∙ ap (λ ws. ws ++ c.later_at.result ∷ []) c.loop-place.invariant
    ∙ ap (λ w. map (later_entry instance) (range_with_len 0 place) ++ w ∷ []) c.later_at.ensures
    ∙ sym (ap (map (later_entry instance)) range ∙ map_push (later_entry instance) (range_with_len 0 place) place)
