-- What the walk above the depth of tasks has done: the caller's walk, before there is a second worker.
use Rattle.std.specs.Prelude.{◌≡◌, ℕ, ◌-◌, ◌<◌, ◌≤◌, ◌^◌, ◌⊎◌, List, ◌∷◌, ◌++◌, None, map, length}
use Rattle.std.specs.List.{AllByRecursion}
use Rattle.yew_best.specs.Seats.{SeatView}
use Rattle.yew_laws.specs.Fold.{fold_of, of_member}
use Rattle.yew_laws.specs.SearchTree.{SearchTree}
use Rattle.yew_laws.specs.Tree.{Member}
use Rattle.yew_log.specs.Items.{items_of, IsInItem}
use Rattle.yew_log.specs.Notes.{Note, visits, cuts, path_of}
use Rattle.yew_log.specs.Recording.{IsFull}
use Rattle.yew_walk.specs.Hands.{incumbent_of, AreVisited}
use Rattle.yew_walk.specs.LogViews.{LogView, log_after}
use Rattle.yew_walk.specs.declared.fault.SearchFault.{SearchFault}
use Rattle.yew_walk.specs.declared.fault.SearchFault.TheVariants.{Memory, AuditFull, TooManyTasks}
use Rattle.yew_walk.specs.declared.hand.Hand.{Hand}
use Rattle.yew_ranked.specs.Frontier.{frontier_log}
use Rattle.yew_ranked.specs.RankedSearch.{RankedJudgement, key_of_judgement, plain_judgement, ranked_answer, ItemsInOrder, IsOfferedBefore}
use Rattle.yew_ranked.specs.Tasks.{Numbered, tasks_of_tree, IsBetween}

-- the judgements of the walk: each visit is an item of its number, each cut stands between the items, and the word of a cut permitted it, and is 0 or was offered before
pub record AreFrontierJudgements {N : Type 0} (t : SearchTree N) (depth : ℕ) (visited cut : List RankedJudgement) : Type 0 where
  pub visits_are : map plain_judgement visited ≡ visits (frontier_log t (depth - 1))
  pub cuts_are : map plain_judgement cut ≡ cuts (frontier_log t (depth - 1))
  pub in_items : AllByRecursion (λ (v : RankedJudgement). IsInItem (items_of t depth) v.item v.path) visited
  pub in_order : ItemsInOrder visited
  pub between : AllByRecursion (λ (c : RankedJudgement). IsBetween (items_of t depth) c.item c.path) cut
  pub permitted : AllByRecursion (λ (c : RankedJudgement). key_of_judgement c ≤ c.word) cut
  pub offered : AllByRecursion (λ (c : RankedJudgement). (c.word ≡ 0) ⊎ IsOfferedBefore visited c) cut

module _ {N S : Type 0} (t : SearchTree N) (join : S → S → S) (none : S) (of : N → ℕ → S) (depth : ℕ) where
  -- The walk came to its end: it has made these tasks, its seat has offered the keys of its visits, and its hand holds their sum and the best of them. The numbers of the items are below 2^20
  pub record IsFrontierWalked (first now : SeatView) (hand : Hand S) (tasks : List Numbered) : Type 0 where
    pub visited : List RankedJudgement
    pub cut : List RankedJudgement
    pub members : List (Member N)
    pub judgements : AreFrontierJudgements t depth visited cut
    pub few : length (items_of t depth) ≤ 2 ^ 20
    pub tasks_are : tasks ≡ tasks_of_tree t depth
    pub offered_is : now.offered ≡ first.offered ++ map key_of_judgement visited
    pub best_is : now.best ≡ first.best
    pub share_is : now.share ≡ first.share
    pub are_visited : AreVisited t (frontier_log t (depth - 1)) members
    pub sum_is : hand.sum ≡ fold_of join none (of_member of) members
    pub answer_is : incumbent_of hand ≡ ranked_answer (record { worth = 0; path = None }) visited
    pub space : 65535 ≤ hand.path.space

module _ {N : Type 0} (t : SearchTree N) (depth : ℕ) where
  -- the log had no room for the next entry of the walk: it has those before it
  pub record IsFrontierFull (first now : LogView) (worker entries numbers : ℕ) : Type 0 where
    pub notes : List Note
    pub next : Note
    pub rest : List Note
    pub stands : frontier_log t (depth - 1) ≡ notes ++ next ∷ rest
    pub log_is : now ≡ log_after first notes
    pub full : IsFull now.told (path_of next) entries numbers
    pub worker_is : worker ≡ now.number

  -- why the walk was refused: memory ran out, the log was full, or an item would have the number 2^20
  abbrev pub IsFrontierFault : LogView → LogView → SearchFault → Type 0
  IsFrontierFault first now Memory = Unit {0}
  IsFrontierFault first now (AuditFull worker entries numbers) = IsFrontierFull first now worker entries numbers
  IsFrontierFault first now (TooManyTasks number) = (number ≡ 2 ^ 20) × (2 ^ 20 < length (items_of t depth))
