-- What the tree that a kind searches says of the tree itself, for the answer of a crew.
use Rattle.std.proofs.Common.{◌≡◌, ℕ, suc, zero, ◌≤◌, ◌↔◌, List, Option, Some, None, refl, ap, ◌∙◌, arith}
use Rattle.std.specs.Prelude.{IsSomeAnd}
use Rattle.yew_kinds.specs.Wrappers.{counted_tree, clipped_tree}
use Rattle.yew_laws.specs.Greatest.{greatest, Reach}
use Rattle.yew_laws.specs.PathValue.{PathValue}
use Rattle.yew_laws.specs.SearchTree.{SearchTree, worth_at}
use Rattle.yew_log.specs.Groups.{Skeleton}
use Rattle.yew_walk.specs.Hands.{numbers_of}
use Rattle.yew_walk.specs.LogViews.{LogView}
use Rattle.yew_walk.specs.PlainSearch.{NeverCuts}
use Rattle.yew_walk.specs.Answers.{IsNear}
use Rattle.yew_crew.specs.CrewSearch.{IsMeeting, HasCrewLogs}

-- a count cuts nothing
pub counts-all : {N : Type 0} (t : SearchTree N) → NeverCuts (counted_tree t)
counts-all t = record { no_answer = λ n. refl; promising = λ n. omega arith }

-- a path with these numbers, if there are any
pub path-with : (o : Option (List ℕ)) → (path : Option PathValue) × (numbers_of path ≡ o)
path-with None = (None, refl)
path-with (Some numbers) = (Some (record { numbers = numbers; space = 0 }), refl)

-- the logs of a search are its logs also where no solution is named
pub logs-only : {N : Type 0} (t : SearchTree N) (gap : ℕ) (skeleton : Skeleton) (workers : ℕ) (logs : List LogView) (solution : Option N) → HasCrewLogs t gap skeleton workers logs solution → HasCrewLogs t gap skeleton workers logs None
logs-only t gap skeleton workers logs solution has = record {
  entries = has.entries;
  are_logs = record { one_each = has.are_logs.one_each; lawful = has.are_logs.lawful; tasks = has.are_logs.tasks; cover = has.are_logs.cover; attained = has.are_logs.attained; best = tt };
  each = has.each;
}

-- a path of the greatest clipped worth answers the decision
pub near-meets : {N : Type 0} (t : SearchTree N) (target worth : ℕ) (path : Option PathValue) → IsNear (clipped_tree t target) 0 worth path → greatest (clipped_tree t target) ≤ 1
    → ((greatest (clipped_tree t target) ≡ 1) ↔ Reach t target) → ((p : List ℕ) → worth_at (clipped_tree t target) p ≡ Some 1 → IsSomeAnd (worth_at t p) (λ w. target ≤ w)) → IsMeeting t target path
near-meets t target worth None near small law meets = record {
  exists = (λ some. absurd (cc), λ reached. absurd (let one = law.1 reached in let none = near.absent.0 refl in let g = near.within in omega arith));
  meets = tt;
}
near-meets t target worth (Some p) near small law meets = by worth refl
  where
    by : (w : ℕ) → worth ≡ w → IsMeeting t target (Some p)
    by zero e = absurd (let none = near.absent.1 e in cc)
    by (suc w) e =
        let low = near.none_greater in let high = near.within in
        let one : worth ≡ 1 = omega arith in
        let top : greatest (clipped_tree t target) ≡ 1 = omega arith in
        record { exists = (λ some. law.0 top, λ reached. refl); meets = meets p.numbers (near.has_worth ∙ ap Some one) }
