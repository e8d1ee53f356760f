-- What a turn or a split leaves to come.
use Rattle.std.proofs.Common.{◌≡◌, ℕ, suc, ◌+◌, ◌*◌, ◌<◌, ◌^◌, List, [], ◌∷◌, ◌++◌, length, drop, slice_get, Some, refl, ap, ap₂, sym, subst, ◌∙◌, arith, append_assoc, append-nil, add-one, length-append, length-drop}
use Rattle.std.specs.List.{AllByRecursion, flat_map, sum_by}
use Rattle.std.proofs.lemmas.List.{length-map, map_push}
use Rattle.std.proofs.Math.Seq.{drop-append_seam}
use Rattle.std.proofs.lemmas.List.Sums.{sum_by-append}
use Rattle.yew_laws.specs.Bag.{SameBag}
use Rattle.yew_laws.specs.Tree.{Member, forest, prefixed, node_at, IsRanked}
use Rattle.yew_laws.specs.SearchTree.{numbered, IsTask}
use Rattle.yew_laws.specs.declared.problem.Problem.{Ghosts}
use Rattle.yew_laws.specs.declared.problem.Task.{Task}
use Rattle.yew_laws.proofs.Bags.{same-is}
use Rattle.yew_laws.proofs.Incumbents.{prefixed-forest}
use Rattle.yew_laws.proofs.Members.{AllByRecursion-append, AllByRecursion-at, AllByRecursion-weaker}
use Rattle.yew_laws.proofs.Trees.{node_at-child}
use Rattle.yew_laws.proofs.Steps.{slice_get_from_drop, drop_from_drop, AllByRecursion-drop}
use Rattle.yew_stack.specs.Levels.{LevelValue, LevelView, level_of, levels, Gives, IsNumbered, AreSound, AreNumbered}
use Rattle.yew_stack.specs.Splits.{nodes_of, paths_of, Moves, MovesLowest, appended}
use Rattle.yew_stack.specs.ToCome.{level_to_come, levels_to_come, turns_of, IsOpen, node_tree, task_members, to_come, turns_left, AllOpen}
use Rattle.yew_stack.specs.Turns.{TopGives, TopEnds}

pub AllByRecursion-push : {X : Type 0} (P : X → Type 0) (xs : List X) (x : X) → AllByRecursion P (xs ++ x ∷ []) → AllByRecursion P xs × P x
AllByRecursion-push P [] x a = (tt, a.0)
AllByRecursion-push P (y ∷ ys) x a = let more = AllByRecursion-push P ys x a.1 in ((a.0, more.0), more.1)

-- what holds of each element of a list that is cut around one
pub record AllAround {X : Type 0} (P : X → Type 0) (xs : List X) (x : X) (ys : List X) : Type 0 where
  pub before : AllByRecursion P xs
  pub here : P x
  pub after : AllByRecursion P ys

pub AllByRecursion-around : {X : Type 0} (P : X → Type 0) (xs : List X) (x : X) (ys : List X) → AllByRecursion P (xs ++ x ∷ ys) → AllAround P xs x ys
AllByRecursion-around P [] x ys a = record { before = tt; here = a.0; after = a.1 }
AllByRecursion-around P (z ∷ xs) x ys a =
    let rest = AllByRecursion-around P xs x ys a.1 in record { before = (a.0, rest.before); here = rest.here; after = rest.after }

module _ {N : Type 0} (tree_of : N → List (Member N)) where
  -- the levels above come first
  pub to_come-around : (lower : List (LevelView N)) (level : LevelView N) (upper : List (LevelView N)) → levels_to_come tree_of (lower ++ level ∷ upper) ≡ levels_to_come tree_of upper ++ (level_to_come tree_of level ++ levels_to_come tree_of lower)
  to_come-around [] level upper = ap (λ ms. levels_to_come tree_of upper ++ ms) (sym (append-nil (level_to_come tree_of level)))
  to_come-around (first ∷ lower) level upper =
      let above = levels_to_come tree_of upper in
      let here = level_to_come tree_of level in
      let below = levels_to_come tree_of lower in
      let last = level_to_come tree_of first in
      ap (λ ms. ms ++ last) (to_come-around lower level upper)
      ∙ append_assoc above (here ++ below) last
      ∙ ap (λ ms. above ++ ms) (append_assoc here below last)

  -- the top level comes first
  pub to_come-top : (lower : List (LevelView N)) (top : LevelView N) → levels_to_come tree_of (lower ++ top ∷ []) ≡ level_to_come tree_of top ++ levels_to_come tree_of lower
  to_come-top lower top = to_come-around lower top []

  -- the next node's tree comes first, and then what is left of the level
  pub level_to_come-gives : (old new : LevelView N) (path : List ℕ) (node : N) → Gives old path node new → level_to_come tree_of old ≡ prefixed path (tree_of node) ++ level_to_come tree_of new
  level_to_come-gives old new path node gives =
      ap (λ left. prefixed old.parent (forest tree_of old.given left)) gives.remaining_is
      ∙ prefixed-forest tree_of old.parent old.given node new.remaining
      ∙ ap₂ (λ (p : List ℕ) (tail : List (Member N)). prefixed p (tree_of node) ++ tail) (sym gives.path_is)
      (let given : new.given ≡ suc old.given = gives.given_is ∙ add-one old.given in
      ap₂ (λ (p : List ℕ) (k : ℕ). prefixed p (forest tree_of k new.remaining)) (sym gives.parent_is) (sym given))

  pub to_come-gives : (lower : List (LevelView N)) (top new : LevelView N) (path : List ℕ) (node : N) → Gives top path node new → levels_to_come tree_of (lower ++ top ∷ []) ≡ prefixed path (tree_of node) ++ levels_to_come tree_of (lower ++ new ∷ [])
  to_come-gives lower top new path node gives =
      to_come-top lower top
      ∙ ap (λ ms. ms ++ levels_to_come tree_of lower) (level_to_come-gives top new path node gives)
      ∙ append_assoc (prefixed path (tree_of node)) (level_to_come tree_of new) (levels_to_come tree_of lower)
      ∙ ap (λ ms. prefixed path (tree_of node) ++ ms) (sym (to_come-top lower new))

  pub to_come-ended : (lower : List (LevelView N)) (top : LevelView N) → top.remaining ≡ [] → levels_to_come tree_of (lower ++ top ∷ []) ≡ levels_to_come tree_of lower
  to_come-ended lower top none =
      to_come-top lower top ∙ ap (λ left. prefixed top.parent (forest tree_of top.given left) ++ levels_to_come tree_of lower) none

  pub to_come-opens : (lower : List (LevelView N)) (path : List ℕ) (nodes : List N) → levels_to_come tree_of (lower ++ record { parent = path; given = 0; remaining = nodes } ∷ []) ≡ prefixed path (forest tree_of 0 nodes) ++ levels_to_come tree_of lower
  to_come-opens lower path nodes = to_come-top lower (record { parent = path; given = 0; remaining = nodes })

  length-prefixed : (path : List ℕ) (ms : List (Member N)) → length (prefixed path ms) ≡ length ms
  length-prefixed path ms = length-map ms (λ (m : Member N). record { path = path ++ m.path; node = m.node })

  pub turns-gives : (lower : List (LevelView N)) (top new : LevelView N) (path : List ℕ) (node : N) → Gives top path node new → turns_of tree_of (lower ++ top ∷ []) ≡ 2 * length (tree_of node) + turns_of tree_of (lower ++ new ∷ [])
  turns-gives lower top new path node gives =
      omega (arith, ap length (to_come-gives lower top new path node gives), length-append (prefixed path (tree_of node)) (levels_to_come tree_of (lower ++ new ∷ [])), length-prefixed path (tree_of node), length-append lower (top ∷ []), length-append lower (new ∷ []))

  pub turns-ended : (lower : List (LevelView N)) (top : LevelView N) → top.remaining ≡ [] → turns_of tree_of (lower ++ top ∷ []) ≡ turns_of tree_of lower + 1
  turns-ended lower top none = omega (arith, ap length (to_come-ended lower top none), length-append lower (top ∷ []))

  pub turns-opens : (lower : List (LevelView N)) (path : List ℕ) (nodes : List N) → turns_of tree_of (lower ++ record { parent = path; given = 0; remaining = nodes } ∷ []) ≡ 2 * length (forest tree_of 0 nodes) + turns_of tree_of lower + 1
  turns-opens lower path nodes =
      let top : LevelView N = record { parent = path; given = 0; remaining = nodes } in
      omega (arith, ap length (to_come-opens lower path nodes), length-append (prefixed path (forest tree_of 0 nodes)) (levels_to_come tree_of lower), length-prefixed path (forest tree_of 0 nodes), length-append lower (top ∷ []))

  -- the members at and below a task
  abbrev members : Task N → List (Member N)
  members task = prefixed task.path.numbers (tree_of task.node)

  forest-moved : (path : List ℕ) (k : ℕ) (moved : List (Task N)) (ns : List N) → paths_of moved ≡ numbered path k (nodes_of moved) → prefixed path (forest tree_of k (nodes_of moved ++ ns)) ≡ flat_map members moved ++ prefixed path (forest tree_of (k + length moved) ns)
  forest-moved path k [] ns are = let same : k ≡ k + 0 = omega arith in ap (λ i. prefixed path (forest tree_of i ns)) same
  forest-moved path k (task ∷ tasks) ns are =
      let first : task.path.numbers ≡ path ++ k ∷ [] = cc in
      let others : paths_of tasks ≡ numbered path (suc k) (nodes_of tasks) = cc in
      let count : suc k + length tasks ≡ k + suc (length tasks) = omega arith in
      prefixed-forest tree_of path k task.node (nodes_of tasks ++ ns)
      ∙ ap₂ (λ (p : List ℕ) (ms : List (Member N)). prefixed p (tree_of task.node) ++ ms) (sym first) (forest-moved path (suc k) tasks ns others ∙ ap (λ i. flat_map members tasks ++ prefixed path (forest tree_of i ns)) count)
      ∙ sym (append_assoc (members task) (flat_map members tasks) (prefixed path (forest tree_of (k + suc (length tasks)) ns)))

  -- the trees of the nodes that are moved come first, and then what is left of the level
  pub level_to_come-moves : (old new : LevelView N) (moved : List (Task N)) → Moves old moved new → level_to_come tree_of old ≡ flat_map members moved ++ level_to_come tree_of new
  level_to_come-moves old new moved m =
      ap (λ left. prefixed old.parent (forest tree_of old.given left)) m.remaining_is
      ∙ forest-moved old.parent old.given moved new.remaining m.paths_are
      ∙ ap₂ (λ (p : List ℕ) (k : ℕ). flat_map members moved ++ prefixed p (forest tree_of k new.remaining)) (sym m.parent_is) (sym m.given_is)

  -- as bags: what was to come is what is to come, and what lies at and below the tasks that were moved
  pub to_come-moves : (lower upper : List (LevelView N)) (old new : LevelView N) (moved : List (Task N)) → Moves old moved new → SameBag (levels_to_come tree_of (lower ++ old ∷ upper)) (levels_to_come tree_of (lower ++ new ∷ upper) ++ flat_map members moved)
  to_come-moves lower upper old new moved m = record {
    weighs = λ h.
        let above = levels_to_come tree_of upper in
        let below = levels_to_come tree_of lower in
        let a = ap (sum_by h) (to_come-around lower old upper) in
        let b = sum_by-append h above (level_to_come tree_of old ++ below) in
        let c = sum_by-append h (level_to_come tree_of old) below in
        let d = ap (sum_by h) (level_to_come-moves old new moved m) in
        let e = sum_by-append h (flat_map members moved) (level_to_come tree_of new) in
        let f = sum_by-append h (levels_to_come tree_of (lower ++ new ∷ upper)) (flat_map members moved) in
        let i = ap (sum_by h) (to_come-around lower new upper) in
        let j = sum_by-append h above (level_to_come tree_of new ++ below) in
        let k = sum_by-append h (level_to_come tree_of new) below in
        omega arith;
  }

-- a node with its path in the tree
pub record IsAt {N : Type 0} (sound : N → Type 0) (children : N → List N) (root : N) (path : List ℕ) (node : N) : Type 0 where
  pub found : node_at children root path ≡ Some node
  pub is_sound : sound node

-- the level of which nodes were moved is still open, and each of these is a node of the tree
pub record IsOpenStill {N : Type 0} (sound : N → Type 0) (children : N → List N) (root : N) (moved : List (Task N)) (new : LevelView N) : Type 0 where
  pub is_open : IsOpen sound children root new
  pub tasks : AllByRecursion (λ task. IsAt sound children root task.path.numbers task.node) moved

module _ {N : Type 0} {sound : N → Type 0} {children : N → List N} {rank : N → ℕ} (ranked : IsRanked sound children rank) {root : N} where
  pub open-sound : (level : LevelView N) → IsOpen sound children root level → AllByRecursion sound level.remaining
  open-sound level is_open = rw is_open.remaining_is (AllByRecursion-drop sound level.given (children is_open.parent_node) (ranked.stays_sound is_open.parent_node is_open.is_sound))

  -- the node that is given is a node of the tree
  pub open-child : (old new : LevelView N) (path : List ℕ) (node : N) → IsOpen sound children root old → Gives old path node new → IsAt sound children root path node
  open-child old new path node is_open gives =
      let first : drop old.given (children is_open.parent_node) ≡ node ∷ new.remaining = sym is_open.remaining_is ∙ gives.remaining_is in
      let at : slice_get (children is_open.parent_node) old.given ≡ Some node = slice_get_from_drop (children is_open.parent_node) old.given node new.remaining first in
      record {
        found = ap (node_at children root) gives.path_is ∙ node_at-child children root is_open.parent_node node old.parent old.given is_open.found at;
        is_sound = AllByRecursion-at sound (children is_open.parent_node) old.given node at (ranked.stays_sound is_open.parent_node is_open.is_sound);
      }

  pub open-gives : (old new : LevelView N) (path : List ℕ) (node : N) → IsOpen sound children root old → Gives old path node new → IsOpen sound children root new
  open-gives old new path node is_open gives =
      let first : drop old.given (children is_open.parent_node) ≡ node ∷ new.remaining = sym is_open.remaining_is ∙ gives.remaining_is in
      record {
        parent_node = is_open.parent_node;
        found = rw gives.parent_is is_open.found;
        is_sound = is_open.is_sound;
        within = omega (arith, gives.given_is, ap length first, length-drop old.given (children is_open.parent_node));
        remaining_is = rw (gives.given_is, add-one) (sym (drop_from_drop (children is_open.parent_node) old.given node new.remaining first));
      }

  pub open-numbered : ((n : N) → sound n → length (children n) + 1 < 2 ^ 32) → (level : LevelView N) → IsOpen sound children root level → IsNumbered level
  open-numbered countable level is_open =
      omega (arith, countable is_open.parent_node is_open.is_sound, is_open.within, ap length is_open.remaining_is, length-drop level.given (children is_open.parent_node))

  pub open-new : (path : List ℕ) (node : N) (nodes : List N) → node_at children root path ≡ Some node → sound node → nodes ≡ children node → IsOpen sound children root (record { parent = path; given = 0; remaining = nodes })
  open-new path node nodes found is_sound all = record {
    parent_node = node;
    found = found;
    is_sound = is_sound;
    within = omega arith;
    remaining_is = all;
  }

  pub open-moves : (moved : List (Task N)) (old new : LevelView N) → IsOpen sound children root old → Moves old moved new → IsOpenStill sound children root moved new
  open-moves [] old new is_open m =
      let given : new.given ≡ old.given = omega (arith, m.given_is) in
      record {
        is_open = record {
          parent_node = is_open.parent_node;
          found = rw m.parent_is is_open.found;
          is_sound = is_open.is_sound;
          within = omega (arith, given, is_open.within);
          remaining_is = rw given (sym m.remaining_is ∙ is_open.remaining_is);
        };
        tasks = tt;
      }
  open-moves (task ∷ tasks) old new is_open m =
      let mid : LevelView N = record { parent = old.parent; given = suc old.given; remaining = nodes_of tasks ++ new.remaining } in
      let are : paths_of (task ∷ tasks) ≡ numbered old.parent old.given (nodes_of (task ∷ tasks)) = m.paths_are in
      let first : task.path.numbers ≡ old.parent ++ old.given ∷ [] = cc in
      let others : paths_of tasks ≡ numbered old.parent (suc old.given) (nodes_of tasks) = cc in
      let gives : Gives old task.path.numbers task.node mid = record { path_is = first; remaining_is = m.remaining_is; given_is = sym (add-one old.given); parent_is = refl } in
      let more : Moves mid tasks new = record { remaining_is = refl; paths_are = others; given_is = omega (arith, m.given_is); parent_is = m.parent_is } in
      let still = open-moves tasks mid new (open-gives old mid task.path.numbers task.node is_open gives) more in
      record { is_open = still.is_open; tasks = (open-child old mid task.path.numbers task.node is_open gives, still.tasks) }

module _ {S N K : Type 0} (meaning : Ghosts S N K) (problem : S) where
  abbrev seen : List (LevelValue K) → List (LevelView N)
  seen = levels (meaning.remaining problem)

  abbrev Open : LevelView N → Type 0
  Open = IsOpen (meaning.sound problem) (meaning.children problem) (meaning.root problem)

  abbrev IsTaskHere : Task N → Type 0
  IsTaskHere task = IsTask meaning problem task.path.numbers task.node

  -- what a split leaves, where it moved tasks
  pub split-to_come : (old new : List (LevelValue K)) (before after : List (Task N)) → MovesLowest (seen old) before after (seen new) → SameBag (to_come meaning problem old) (to_come meaning problem new ++ flat_map (task_members meaning problem) (appended before after))
  split-to_come old new before after m =
      let trees = node_tree meaning problem in
      let tasks : appended before after ≡ m.moves.moved = ap (drop (length before)) m.moves.after_is ∙ drop-append_seam before m.moves.moved in
      rw (m.old_is, m.new_is, tasks) (to_come-moves trees m.lower m.upper m.level m.rest m.moves.moved m.moves.moves)

  pub split-open : IsRanked (meaning.sound problem) (meaning.children problem) (meaning.rank problem) → (old new : List (LevelValue K)) (before after : List (Task N)) → MovesLowest (seen old) before after (seen new) → AllOpen meaning problem old → AllOpen meaning problem new × AllByRecursion IsTaskHere (appended before after)
  split-open ranked old new before after m all =
      let tasks : appended before after ≡ m.moves.moved = ap (drop (length before)) m.moves.after_is ∙ drop-append_seam before m.moves.moved in
      let around = AllByRecursion-around Open m.lower m.level m.upper (subst (AllByRecursion Open) m.old_is all) in
      let still = open-moves ranked m.moves.moved m.level m.rest around.here m.moves.moves in (
        subst (AllByRecursion Open) (sym m.new_is) (AllByRecursion-append Open m.lower (m.rest ∷ m.upper) around.before (still.is_open, around.after)),
        subst (AllByRecursion IsTaskHere) (sym tasks)
            (AllByRecursion-weaker (λ (task : Task N). IsAt (meaning.sound problem) (meaning.children problem) (meaning.root problem) task.path.numbers task.node) IsTaskHere
            (λ task at. record { is_sound = at.is_sound; found = at.found })
            m.moves.moved still.tasks),
      )

  -- where no tasks were moved
  none-appended : (before after : List (Task N)) → after ≡ before → appended before after ≡ []
  none-appended before after kept = ap (drop (length before)) (kept ∙ sym (append-nil before)) ∙ drop-append_seam before []

  pub none-to_come : (old new : List (LevelValue K)) (before after : List (Task N)) → seen new ≡ seen old → after ≡ before → SameBag (to_come meaning problem old) (to_come meaning problem new ++ flat_map (task_members meaning problem) (appended before after))
  none-to_come old new before after same kept =
      let trees = node_tree meaning problem in
      same-is (sym (ap₂ (λ (ls : List (LevelView N)) (tasks : List (Task N)). levels_to_come trees ls ++ flat_map (task_members meaning problem) tasks) same (none-appended before after kept) ∙ append-nil (to_come meaning problem old)))

  pub none-open : (old new : List (LevelValue K)) (before after : List (Task N)) → seen new ≡ seen old → after ≡ before → AllOpen meaning problem old → AllOpen meaning problem new × AllByRecursion IsTaskHere (appended before after)
  none-open old new before after same kept all = (subst (AllByRecursion Open) (sym same) all, subst (AllByRecursion IsTaskHere) (sym (none-appended before after kept)) tt)

  -- what a turn that gives a node leaves
  pub gives-to_come : (old new : List (LevelValue K)) (task : Task N) → TopGives (seen old) task.path.numbers task.node (seen new) → to_come meaning problem old ≡ task_members meaning problem task ++ to_come meaning problem new
  gives-to_come old new task turn =
      let trees = node_tree meaning problem in
      ap (levels_to_come trees) turn.old_is
      ∙ to_come-gives trees turn.lower turn.top turn.rest task.path.numbers task.node turn.gives
      ∙ ap (λ ls. task_members meaning problem task ++ levels_to_come trees ls) (sym turn.new_is)

  pub gives-open : IsRanked (meaning.sound problem) (meaning.children problem) (meaning.rank problem) → (old new : List (LevelValue K)) (task : Task N) → TopGives (seen old) task.path.numbers task.node (seen new) → AllOpen meaning problem old → AllOpen meaning problem new × IsTaskHere task
  gives-open ranked old new task turn all =
      let both = AllByRecursion-push Open turn.lower turn.top (subst (AllByRecursion Open) turn.old_is all) in
      let at = open-child ranked turn.top turn.rest task.path.numbers task.node both.1 turn.gives in (
        subst (AllByRecursion Open) (sym turn.new_is)
            (AllByRecursion-append Open turn.lower (turn.rest ∷ []) both.0 (open-gives ranked turn.top turn.rest task.path.numbers task.node both.1 turn.gives, tt)),
        record { is_sound = at.is_sound; found = at.found },
      )

  -- what the end of the top level leaves
  pub ends-to_come : (old new : List (LevelValue K)) (path : List ℕ) → TopEnds (seen old) path (seen new) → to_come meaning problem old ≡ to_come meaning problem new
  ends-to_come old new path turn =
      let trees = node_tree meaning problem in ap (levels_to_come trees) turn.old_is ∙ to_come-ended trees (seen new) turn.top turn.spent

  pub ends-open : (old new : List (LevelValue K)) (path : List ℕ) → TopEnds (seen old) path (seen new) → AllOpen meaning problem old → AllOpen meaning problem new
  ends-open old new path turn all = (AllByRecursion-push Open (seen new) turn.top (subst (AllByRecursion Open) turn.old_is all)).0

  -- the conditions of a turn and of a split, of levels that are open
  pub open-AreSound : IsRanked (meaning.sound problem) (meaning.children problem) (meaning.rank problem) → (stack : List (LevelValue K)) → AllOpen meaning problem stack → AreSound (meaning.sound problem) (seen stack)
  open-AreSound ranked stack all = AllByRecursion-weaker Open (λ level. AllByRecursion (meaning.sound problem) level.remaining) (λ level is_open. open-sound ranked level is_open) (seen stack) all

  pub open-AreNumbered : IsRanked (meaning.sound problem) (meaning.children problem) (meaning.rank problem) → ((n : N) → meaning.sound problem n → length (meaning.children problem n) + 1 < 2 ^ 32) → (stack : List (LevelValue K)) → AllOpen meaning problem stack → AreNumbered (seen stack)
  open-AreNumbered ranked countable stack all = AllByRecursion-weaker Open IsNumbered (λ level is_open. open-numbered ranked countable level is_open) (seen stack) all

  -- the level of a task is open
  pub push-open : IsRanked (meaning.sound problem) (meaning.children problem) (meaning.rank problem) → (stack : List (LevelValue K)) (path : List ℕ) (node : N) (kids : K) → IsTask meaning problem path node → meaning.remaining problem kids ≡ meaning.children problem node → AllOpen meaning problem stack → AllOpen meaning problem (stack ++ record { parent = path; given = 0; kids = kids } ∷ [])
  push-open ranked stack path node kids task is all =
      let level : LevelValue K = record { parent = path; given = 0; kids = kids } in
      subst (AllByRecursion Open) (sym (map_push (level_of (meaning.remaining problem)) stack level))
      (AllByRecursion-append Open (seen stack) (level_of (meaning.remaining problem) level ∷ []) all (open-new ranked path node (meaning.remaining problem kids) task.found task.is_sound is, tt))

  -- what a new level has to come: the trees of the node's children
  pub push-to_come : (stack : List (LevelValue K)) (path : List ℕ) (node : N) (kids : K) → meaning.remaining problem kids ≡ meaning.children problem node → to_come meaning problem (stack ++ record { parent = path; given = 0; kids = kids } ∷ []) ≡ prefixed path (forest (node_tree meaning problem) 0 (meaning.children problem node)) ++ to_come meaning problem stack
  push-to_come stack path node kids is =
      let trees = node_tree meaning problem in
      let level : LevelValue K = record { parent = path; given = 0; kids = kids } in
      ap (levels_to_come trees) (map_push (level_of (meaning.remaining problem)) stack level)
      ∙ to_come-opens trees (seen stack) path (meaning.remaining problem kids)
      ∙ ap (λ ns. prefixed path (forest trees 0 ns) ++ to_come meaning problem stack) is

  pub push-turns_left : (stack : List (LevelValue K)) (path : List ℕ) (node : N) (kids : K) → meaning.remaining problem kids ≡ meaning.children problem node → turns_left meaning problem (stack ++ record { parent = path; given = 0; kids = kids } ∷ []) ≡ 2 * length (forest (node_tree meaning problem) 0 (meaning.children problem node)) + turns_left meaning problem stack + 1
  push-turns_left stack path node kids is =
      let trees = node_tree meaning problem in
      let level : LevelValue K = record { parent = path; given = 0; kids = kids } in
      ap (turns_of trees) (map_push (level_of (meaning.remaining problem)) stack level)
      ∙ turns-opens trees (seen stack) path (meaning.remaining problem kids)
      ∙ ap (λ ns. 2 * length (forest trees 0 ns) + turns_left meaning problem stack + 1) is

  -- a turn that gives a node takes two for each node of its tree, and the end of a level takes one
  pub gives-turns_left : (old new : List (LevelValue K)) (task : Task N) → TopGives (seen old) task.path.numbers task.node (seen new) → turns_left meaning problem old ≡ 2 * length (node_tree meaning problem task.node) + turns_left meaning problem new
  gives-turns_left old new task turn =
      let trees = node_tree meaning problem in
      ap (turns_of trees) turn.old_is
      ∙ turns-gives trees turn.lower turn.top turn.rest task.path.numbers task.node turn.gives
      ∙ ap (λ ls. 2 * length (trees task.node) + turns_of trees ls) (sym turn.new_is)

  pub ends-turns_left : (old new : List (LevelValue K)) (path : List ℕ) → TopEnds (seen old) path (seen new) → turns_left meaning problem old ≡ turns_left meaning problem new + 1
  ends-turns_left old new path turn =
      let trees = node_tree meaning problem in ap (turns_of trees) turn.old_is ∙ turns-ended trees (seen new) turn.top turn.spent
