-- Entries by which tasks are sent, for tasks that are spawned and for tasks that are handed over.
use Rattle.std.proofs.Common.{◌≡◌, ℕ, List, [], ◌∷◌, ◌++◌, map, ◌⊎◌, inl, inr, refl, ap₂, sym, subst, append_assoc, append-nil}
use mathlib.Core.List.{reverse}
use Rattle.std.specs.List.{AllByRecursion}
use Rattle.yew_best.specs.Seats.{SeatView}
use Rattle.yew_laws.specs.declared.problem.Problem.{Ghosts}
use Rattle.yew_laws.specs.declared.problem.Task.{Task}
use Rattle.yew_laws.specs.SearchTree.{SearchTree, search_tree}
use Rattle.yew_log.specs.declared.entry.What.{What}
use Rattle.yew_log.specs.declared.entry.What.TheVariants.{Taken, Visited, Cut, Spawned, Handed, Ended}
use Rattle.yew_log.specs.Notes.{Note, taken, visited, cut, spawned, handed, ended, visits, sent_paths}
use Rattle.yew_log.specs.Groups.{group_of}
use Rattle.yew_log.proofs.Frames.{Frame}
use Rattle.yew_stack.specs.Levels.{LevelValue, LevelView, levels}
use Rattle.yew_stack.specs.Splits.{paths_of, MovesLowest}
use Rattle.yew_walk.specs.declared.keying.Keying.{Keying}
use Rattle.yew_walk.specs.LogViews.{LogView, noted, all_noted, log_after}
use Rattle.yew_walk.specs.Sharing.{IsSplitOff}
use Rattle.yew_walk.specs.UnderWay.{AreAligned, IsOfLevel, IsUnderWay}
use Rattle.yew_walk.proofs.PolicyInputs.{spawned_group, handed_group}
use Rattle.yew_walk.proofs.SentNotes.{IsSentNote, spawned-sent, handed-sent, underway-sends}
use Rattle.yew_walk.proofs.WalkEnds.{underway-splits, split-aligned, split-hosts}

-- one list of entries after another
pub log_after-append : (log : LogView) (xs ys : List Note) → log_after log (xs ++ ys) ≡ log_after (log_after log xs) ys
log_after-append log [] ys = refl
log_after-append log (taken p ∷ xs) ys = log_after-append (noted log Taken p 0 0) xs ys
log_after-append log (visited p w h ∷ xs) ys = log_after-append (noted log Visited p w h) xs ys
log_after-append log (cut p b h ∷ xs) ys = log_after-append (noted log Cut p b h) xs ys
log_after-append log (spawned p ∷ xs) ys = log_after-append (noted log Spawned p 0 0) xs ys
log_after-append log (handed p ∷ xs) ys = log_after-append (noted log Handed p 0 0) xs ys
log_after-append log (ended p ∷ xs) ys = log_after-append (noted log Ended p 0 0) xs ys

all_spawned : (log : LogView) (ps : List (List ℕ)) → all_noted log Spawned ps ≡ log_after log (map spawned ps)
all_spawned log [] = refl
all_spawned log (p ∷ ps) = all_spawned (noted log Spawned p 0 0) ps

all_handed : (log : LogView) (ps : List (List ℕ)) → all_noted log Handed ps ≡ log_after log (map handed ps)
all_handed log [] = refl
all_handed log (p ∷ ps) = all_handed (noted log Handed p 0 0) ps

module _ {S N K : Type 0} (meaning : Ghosts S N K) (problem : S) (keying : Keying) (task : List ℕ) where
  abbrev t : SearchTree N
  t = search_tree meaning problem

  abbrev UnderWay : SeatView → SeatView → List Note → List Frame → List (LevelView N) → List (List ℕ) → Type 0
  UnderWay = IsUnderWay meaning problem keying task

  abbrev seen : List (LevelValue K) → List (LevelView N)
  seen stack = levels (meaning.remaining problem) stack

  -- entries of one kind by which paths are sent
  pub record Sends (made : List ℕ → Note) (what : What) : Type 0 where
    pub sent : (path : List ℕ) → IsSentNote meaning problem keying task (made path) path
    pub notes_are : (log : LogView) (ps : List (List ℕ)) → all_noted log what ps ≡ log_after log (map made ps)
    pub is_group : (ps : List (List ℕ)) → group_of (map made ps) ≡ map made ps

  pub spawned-sends : Sends spawned Spawned
  spawned-sends = record { sent = spawned-sent meaning problem keying task; notes_are = all_spawned; is_group = spawned_group }

  pub handed-sends : Sends handed Handed
  handed-sends = record { sent = handed-sent meaning problem keying task; notes_are = all_handed; is_group = handed_group }

  module _ (made : List ℕ → Note) (what : What) (sends : Sends made what) where
    -- the entries make no visit, and send these paths
    pub made-visits : (ps : List (List ℕ)) → visits (map made ps) ≡ []
    made-visits [] = refl
    made-visits (p ∷ ps) = ap₂ (λ us vs. us ++ vs) (sends.sent p).no_visit (made-visits ps)

    pub made-sent_paths : (ps : List (List ℕ)) → sent_paths (map made ps) ≡ ps
    made-sent_paths [] = refl
    made-sent_paths (p ∷ ps) = ap₂ (λ us vs. us ++ vs) (sends.sent p).sent_is (made-sent_paths ps)

    -- the first of the paths that stand between are sent
    pub underway-sends_some : (first now : SeatView) (notes : List Note) (ls : List (LevelView N)) (done rest : List (List ℕ)) → AllByRecursion (IsOfLevel (reverse ls)) done → (fs : List Frame) × UnderWay first now notes fs ls (done ++ rest) → (gs : List Frame) × UnderWay first now (notes ++ map made done) gs ls rest
    underway-sends_some first now notes ls [] rest hosts u = (u.0, subst (λ ns. UnderWay first now ns u.0 ls rest) (sym (append-nil notes)) u.1)
    underway-sends_some first now notes ls (p ∷ done) rest hosts u =
        let one = underway-sends meaning problem keying task first now notes [] ls (made p) p (done ++ rest) (sends.sent p) hosts.0 u in
        let all = underway-sends_some first now (notes ++ made p ∷ []) ls done rest hosts.1 one in
        (all.0, subst (λ ns. UnderWay first now ns all.0 ls rest) (append_assoc notes (made p ∷ []) (map made done)) all.1)

  -- tasks that were split off, and that their paths are of children of open visits
  pub record SplitsOff (first now : SeatView) (notes : List Note) (stack : List (LevelValue K)) (tasks : List (Task N)) : Type 0 where
    pub frames : List Frame
    pub way : UnderWay first now notes frames (seen stack) (paths_of tasks)
    pub hosts : AllByRecursion (IsOfLevel (reverse (seen stack))) (paths_of tasks)

  pub underway-off : (first now : SeatView) (notes : List Note) (frames : List Frame) (old new : List (LevelValue K)) (tasks : List (Task N)) → UnderWay first now notes frames (seen old) [] → IsSplitOff meaning problem old tasks new → SplitsOff first now notes new tasks
  underway-off first now notes frames old new tasks u off = from off.split
    where
      from : ((tasks ≡ []) × (levels (meaning.remaining problem) new ≡ levels (meaning.remaining problem) old)) ⊎ MovesLowest (levels (meaning.remaining problem) old) [] tasks (levels (meaning.remaining problem) new) → SplitsOff first now notes new tasks
      from (inl none) = record {
        frames = frames;
        way = underway-splits meaning problem keying task first now notes frames old new tasks u (subst (λ ls. AreAligned frames (reverse ls)) (sym none.1) u.aligned) off.levels_open off.tasks_are off.to_come_is;
        hosts = subst (λ (ts : List (Task N)). AllByRecursion (IsOfLevel (reverse (seen new))) (paths_of ts)) (sym none.0) tt;
      }
      from (inr m) = record {
        frames = frames;
        way = underway-splits meaning problem keying task first now notes frames old new tasks u (split-aligned meaning problem keying task frames old new [] tasks m u.aligned) off.levels_open off.tasks_are off.to_come_is;
        hosts = subst (λ (ts : List (Task N)). AllByRecursion (IsOfLevel (reverse (seen new))) (paths_of ts)) (sym m.moves.after_is) (split-hosts meaning problem keying task old new [] tasks m);
      }
