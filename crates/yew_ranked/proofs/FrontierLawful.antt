-- The log of the walk above the depth of tasks is a whole segment of the root, and what it has up to any place is a walk that was broken off.
use Rattle.std.proofs.Common.{◌≡◌, ◌≢◌, ℕ, zero, suc, ◌<◌, ◌≤◌, List, [], ◌∷◌, ◌++◌, Option, Some, None, refl, subst, arith}
use Rattle.std.specs.Prelude.{IsSome, IfSome}
use Rattle.std.specs.List.{AllByRecursion}
use Rattle.yew_laws.specs.SearchTree.{SearchTree, at_path, bound_at}
use Rattle.yew_laws.specs.Tree.{IsRanked}
use Rattle.yew_laws.proofs.Members.{AllByRecursion-weaker}
use Rattle.yew_log.specs.Attained.{limit}
use Rattle.yew_log.specs.Groups.{HasGroups, SkeletonGroup, in_order}
use Rattle.yew_log.specs.HeldValues.{KeyKind, plain, ranked, HeldRises, HeldIsMaximum, CountsFor, IsDue, IsJudged}
use Rattle.yew_log.specs.Lawful.{IsBrokenWalk}
use Rattle.yew_log.specs.Notes.{Note, taken, Judgement, visits, visit_in, sent_paths, spawned_paths, handed_paths}
use Rattle.yew_log.specs.Segment.{Begins, IsSegment, IsBroken}
use Rattle.yew_log.proofs.BrokenLogs.{segment-broken}
use Rattle.yew_log.proofs.Growth.{segment-from_block}
use Rattle.yew_log.proofs.Places.{AtEach-weaker}
use Rattle.yew_log.proofs.PlainKey.{IsJudged-plain, rises-from_exact}
use Rattle.yew_walk.proofs.KeyOrder.{limit-none}
use Rattle.yew_ranked.specs.Frontier.{frontier_notes, frontier_log, frontier_segment}
use Rattle.yew_ranked.proofs.BrokenFronts.{walk-front, held_is_maximum-front}
use Rattle.yew_ranked.proofs.FrontierBlocks.{IsPart, frontier-part}

module _ {N : Type 0} (t : SearchTree N) where
  -- without a gap, what had to be visited by the plain key had to be by ranked ones
  due-ranked : (before : List Note) (v : Judgement) → IsDue t 0 plain before v → IsDue t 0 ranked before v
  due-ranked before v due = record {
    over_worths = AllByRecursion-weaker (λ (u : Judgement). CountsFor plain u v → Over u) (λ (u : Judgement). CountsFor ranked u v → Over u)
        (λ u over earlier. over tt) (visits before) due.over_worths;
    over_held = at_most (bound_at t v.path) due.over_held;
  }
    where
      Over : Judgement → Type 0
      Over u = IfSome (bound_at t v.path) (λ b. limit 0 u.value < b)

      at_most : (o : Option ℕ) → IfSome o (λ b. limit 0 v.held < b) → IfSome o (λ b. v.held ≤ b)
      at_most None a = tt
      at_most (Some b) a = let l = limit-none v.held in omega (arith, l, a)

  abbrev Dues : KeyKind → List Note → Note → List Note → Type 0
  Dues keyed b n a = AllByRecursion (λ (v : Judgement). v.path ≢ [] → IsDue t 0 keyed b v) (visit_in n)

  judged-ranked : (notes : List Note) → IsJudged t 0 plain notes → IsJudged t 0 ranked notes
  judged-ranked notes j = record {
    visits_due = AtEach-weaker (Dues plain) (Dues ranked) notes [] notes refl
        (λ b n a e. AllByRecursion-weaker (λ (v : Judgement). v.path ≢ [] → IsDue t 0 plain b v) (λ (v : Judgement). v.path ≢ [] → IsDue t 0 ranked b v) (λ v due ne. due-ranked b v (due ne)) (visit_in n)) j.visits_due;
    cuts_below = j.cuts_below;
    cuts_permitted = j.cuts_permitted;
  }

  begins : (levels : ℕ) → Begins [] (frontier_notes t levels [] t.root 0)
  begins zero = refl
  begins (suc levels) = refl

  module _ {sound : N → Type 0} (is_ranked : IsRanked sound t.children t.rank) (root : sound t.root) (levels : ℕ) where
    abbrev body : List Note
    body = frontier_notes t levels [] t.root 0

    part : IsPart t (suc levels) [] 0 body
    part = frontier-part t (suc levels) is_ranked levels [] t.root 0 refl root (omega arith) (λ ne. absurd (ne refl))

    -- one whole segment of the root
    pub frontier-segment : IsSegment t (frontier_segment t levels)
    frontier-segment = segment-from_block t [] body part.is_block part.made.untaken (begins levels) part.all_covered part.made.valued

    pub frontier-broken : IsBroken t (frontier_segment t levels)
    frontier-broken = segment-broken t is_ranked root (frontier_segment t levels) frontier-segment refl part.made.sent_there

    -- the children of each visit over the tasks are spawned, and nothing is handed over
    pub frontier-groups : HasGroups (SkeletonGroup t (in_order (suc levels))) body
    frontier-groups = part.groups.each []

    pub frontier-unhanded : handed_paths body ≡ []
    frontier-unhanded = part.made.unhanded

    pub frontier-sent : sent_paths body ≡ spawned_paths body
    frontier-sent = part.made.sent_spawned

    pub frontier-tasks_there : AllByRecursion (λ path. IsSome (at_path t path)) (spawned_paths body)
    frontier-tasks_there = subst (AllByRecursion (λ path. IsSome (at_path t path))) frontier-sent part.made.sent_there

    -- each held value is the greatest worth of the earlier visits
    pub frontier-maximum : HeldIsMaximum (frontier_log t levels)
    frontier-maximum = (tt, part.made.exact (taken [] ∷ []) refl)

    pub frontier-rises : HeldRises (frontier_log t levels)
    frontier-rises = (tt, rises-from_exact (taken [] ∷ []) body tt (part.made.exact (taken [] ∷ []) refl))

    pub frontier-judged : IsJudged t 0 ranked (frontier_log t levels)
    frontier-judged = judged-ranked (frontier_log t levels) (IsJudged-plain t 0 (frontier_log t levels) frontier-rises part.made.due part.made.cuts_below part.made.permitted)

    -- up to any place it is a walk that was broken off
    pub frontier-front : (notes rest : List Note) → frontier_log t levels ≡ notes ++ rest → IsBrokenWalk t 0 ranked [] notes
    frontier-front notes rest e = walk-front t 0 ranked [] body frontier-broken frontier-rises frontier-judged notes rest e

    pub frontier-front_maximum : (notes rest : List Note) → frontier_log t levels ≡ notes ++ rest → HeldIsMaximum notes
    frontier-front_maximum notes rest e = held_is_maximum-front notes rest (subst HeldIsMaximum e frontier-maximum)
