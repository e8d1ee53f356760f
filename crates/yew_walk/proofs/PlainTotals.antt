-- What a lawful log of a search by one worker says of the best visit and of the sum of the visited nodes.
use Rattle.std.proofs.Common.{◌≡◌, ℕ, ◌<◌, List, None, ap, subst, ◌∙◌}
use Rattle.yew_laws.specs.Fold.{fold_of, of_member, Fold}
use Rattle.yew_laws.specs.Greatest.{greatest, first_best}
use Rattle.yew_laws.specs.SearchTree.{SearchTree, preorder}
use Rattle.yew_laws.specs.Tree.{Member, IsRanked, IsBounded}
use Rattle.yew_log.specs.Groups.{sequential}
use Rattle.yew_log.specs.Lawful.{LawfulLog}
use Rattle.yew_log.specs.Notes.{Note, visits}
use Rattle.yew_log.proofs.SeqUnique.{seq_log-unique}
use Rattle.yew_walk.specs.declared.keying.Keying.TheVariants.{Plain}
use Rattle.yew_walk.specs.Hands.{best_after, AreVisited}
use Rattle.yew_walk.proofs.BestVisits.{best_after-seq_log}
use Rattle.yew_walk.proofs.WholeSums.{AreVisited-preorder}

module _ {N : Type 0} (t : SearchTree N) {sound : N → Type 0} (ranked : IsRanked sound t.children t.rank) (root : sound t.root) {workers number : ℕ} {notes : List Note} (lawful : LawfulLog t 0 sequential workers number notes) where
  -- the best of all visits has the greatest worth, and its first path
  pub LawfulLog-best : IsBounded sound t.children t.worth t.bound → best_after Plain (record { worth = 0; path = None }) (visits notes) ≡ record { worth = greatest t; path = first_best t }
  LawfulLog-best bounded =
      ap (λ ns. best_after Plain (record { worth = 0; path = None }) (visits ns)) (seq_log-unique t 0 ranked root workers number notes lawful)
      ∙ best_after-seq_log t ranked bounded root

  module _ (no_answer : (n : N) → t.worth n ≡ 0) (promising : (n : N) → 0 < t.bound n) (members : List (Member N)) (are : AreVisited t notes members) where
    -- where no node is an answer and none is cut, the nodes that were visited are those of the tree
    pub LawfulLog-members : members ≡ preorder t
    LawfulLog-members =
        AreVisited-preorder t no_answer promising 0 ranked root members
        (subst (λ ns. AreVisited t ns members) (seq_log-unique t 0 ranked root workers number notes lawful) are)

    -- and their sum is that of the tree
    pub LawfulLog-Fold : {S : Type 0} (join : S → S → S) (none : S) (of : N → ℕ → S) → fold_of join none (of_member of) members ≡ Fold t join none of
    LawfulLog-Fold join none of = ap (fold_of join none (of_member of)) LawfulLog-members
