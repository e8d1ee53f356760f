-- A visit that is enclosed has one end.
use Rattle.std.proofs.Common.{◌≡◌, ℕ, ◌+◌, List, ◌∷◌, ◌++◌, ap, ◌∙◌, arith}
use Rattle.std.specs.List.{sum_by}
use Rattle.std.proofs.lemmas.List.Sums.{sum_by-append, sum_by-cons}
use Rattle.std.proofs.lemmas.List.Concat.{flat_map-append}
use Rattle.yew_laws.specs.Order.{only}
use Rattle.yew_laws.proofs.Bags.{only-itself, none-weighs}
use Rattle.yew_log.specs.Notes.{Note, ended, ended_in, ended_paths}
use Rattle.yew_log.specs.Segment.{IsEnclosed}

pub ends-weigh : (path : List ℕ) (xs ys : List Note) → sum_by (only path) (ended_paths (xs ++ ys)) ≡ sum_by (only path) (ended_paths xs) + sum_by (only path) (ended_paths ys)
ends-weigh path xs ys = ap (sum_by (only path)) (flat_map-append ended_in xs ys) ∙ sum_by-append (only path) (ended_paths xs) (ended_paths ys)

pub enclosed-ends : (path : List ℕ) (before after : List Note) → IsEnclosed path before after → sum_by (only path) (ended_paths after) ≡ 1
enclosed-ends path before after s =
    let others = none-weighs path (ended_paths (before ++ s.inside ++ s.outside)) s.one_end in
    let first = ends-weigh path (before ++ s.inside) s.outside in
    let second = ends-weigh path before s.inside in
    let whole = ap (λ ns. sum_by (only path) (ended_paths ns)) s.is_ended in
    let split = ends-weigh path s.inside (ended path ∷ s.outside) in
    let end = sum_by-cons (only path) path (ended_paths s.outside) in
    let itself = only-itself path in
    whole ∙ split ∙ omega arith
