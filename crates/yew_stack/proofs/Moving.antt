-- How the nodes that a split moves add up.
use Rattle.std.proofs.Common.{◌≡◌, ℕ, suc, ◌+◌, ◌<◌, List, [], ◌∷◌, ◌++◌, map, length, get_or, set, take, drop, refl, ap, ap₂, sym, ◌∙◌, arith, append_assoc, append-nil, length-append}
use Rattle.std.specs.List.{AllByRecursion}
use Rattle.std.proofs.lemmas.List.{map_push, length-map}
use Rattle.yew_laws.specs.SearchTree.{numbered}
use Rattle.yew_laws.specs.declared.problem.Task.{Task}
use Rattle.yew_stack.specs.Levels.{LevelView, Gives, IsNumbered, AreSpent}
use Rattle.yew_stack.specs.Splits.{nodes_of, Moves, GivesTo, MovesTo, MovesLowest, IsChunk}
use Rattle.yew_stack.proofs.Places.{place-splits, place-set_splits}
use Rattle.yew_stack.specs.declared.stacks.Chunk.{Chunk}
use Rattle.yew_stack.specs.declared.stacks.Chunk.TheVariants.{One, All}

-- one more node at the end of numbered paths
numbered-push : {N : Type 0} (path : List ℕ) (k : ℕ) (ns : List N) (n : N) → numbered path k (ns ++ n ∷ []) ≡ numbered path k ns ++ (path ++ (k + length ns) ∷ []) ∷ []
numbered-push path k [] n = let same : k ≡ k + 0 = omega arith in ap (λ i. (path ++ i ∷ []) ∷ []) same
numbered-push path k (m ∷ ns) n =
    let same : suc k + length ns ≡ k + suc (length ns) = omega arith in
    ap (λ ps. (path ++ k ∷ []) ∷ ps) (numbered-push path (suc k) ns n ∙ ap (λ i. numbered path (suc k) ns ++ (path ++ i ∷ []) ∷ []) same)

module _ {N : Type 0} where
  pub moves-none : (level : LevelView N) → Moves {N = N} level [] level
  moves-none level = record { remaining_is = refl; paths_are = refl; given_is = omega arith; parent_is = refl }

  -- one more node
  pub moves-more : (old mid new : LevelView N) (moved : List (Task N)) (task : Task N) → Moves old moved mid → Gives mid task.path.numbers task.node new → Moves old (moved ++ task ∷ []) new
  moves-more old mid new moved task m gives =
      let nodes : nodes_of (moved ++ task ∷ []) ≡ nodes_of moved ++ task.node ∷ [] = map_push (λ (t : Task N). t.node) moved task in
      let count : length (nodes_of moved) ≡ length moved = length-map moved (λ (t : Task N). t.node) in
      let number : mid.given ≡ old.given + length (nodes_of moved) = omega (arith, m.given_is, count) in
      record {
        remaining_is = m.remaining_is
            ∙ ap (λ ns. nodes_of moved ++ ns) gives.remaining_is
            ∙ sym (append_assoc (nodes_of moved) (task.node ∷ []) new.remaining)
            ∙ ap (λ ns. ns ++ new.remaining) (sym nodes);
        paths_are = map_push (λ (t : Task N). t.path.numbers) moved task
            ∙ ap₂ (λ (ps : List (List ℕ)) (p : List ℕ). ps ++ p ∷ []) m.paths_are
            (gives.path_is ∙ ap₂ (λ (p : List ℕ) (i : ℕ). p ++ i ∷ []) m.parent_is number)
            ∙ sym (numbered-push old.parent old.given (nodes_of moved) task.node)
            ∙ ap (numbered old.parent old.given) (sym nodes);
        given_is = let l = length-append moved (task ∷ []) in omega (arith, gives.given_is, m.given_is);
        parent_is = gives.parent_is ∙ m.parent_is;
      }

  pub moves_to-none : (level : LevelView N) (tasks : List (Task N)) → MovesTo level tasks tasks level
  moves_to-none level tasks = record { moved = []; after_is = sym (append-nil tasks); moves = moves-none level }

  pub moves_to-same : (old new : LevelView N) (before after : List (Task N)) → new ≡ old → after ≡ before → MovesTo old before after new
  moves_to-same old new before after same kept = rw (same, kept) (moves_to-none old before)

  -- some nodes, at least one of them
  pub record MovesSome (old : LevelView N) (before after : List (Task N)) (new : LevelView N) : Type 0 where
    pub all : MovesTo old before after new
    pub some : 0 < length all.moved

  pub moves_to-more : (old mid new : LevelView N) (before now after : List (Task N)) → MovesTo old before now mid → GivesTo mid now after new → MovesSome old before after new
  moves_to-more old mid new before now after m more = record {
    all = record {
      moved = m.moved ++ more.task ∷ [];
      after_is = more.after_is ∙ ap (λ ts. ts ++ more.task ∷ []) m.after_is ∙ append_assoc before m.moved (more.task ∷ []);
      moves = moves-more old mid new m.moved more.task m.moves more.gives;
    };
    some = let l = length-append m.moved (more.task ∷ []) in omega (arith, l);
  }

  -- a first node
  pub record MovesOne (old : LevelView N) (before after : List (Task N)) (new : LevelView N) : Type 0 where
    pub all : MovesTo old before after new
    pub one : length all.moved ≡ 1

  pub moves_to-one : (old new : LevelView N) (before after : List (Task N)) → GivesTo old before after new → MovesOne old before after new
  moves_to-one old new before after first = record {
    all = record { moved = first.task ∷ []; after_is = first.after_is; moves = moves-more old old new [] first.task (moves-none old) first.gives };
    one = refl;
  }

  -- where nothing changes any more
  pub moves_to-ends : (old mid new : LevelView N) (before now after : List (Task N)) → MovesSome old before now mid → new ≡ mid → after ≡ now → MovesSome old before after new
  moves_to-ends old mid new before now after m same kept = rw (same, kept) m

module _ {N : Type 0} where
  -- what is left of a level after a node was given
  pub gives-sound : (sound : N → Type 0) (old new : LevelView N) (path : List ℕ) (node : N) → Gives old path node new → AllByRecursion sound old.remaining → AllByRecursion sound new.remaining
  gives-sound sound old new path node gives a = (rw gives.remaining_is at a).1

  pub gives-numbered : (old new : LevelView N) (path : List ℕ) (node : N) → Gives old path node new → IsNumbered old → IsNumbered new
  gives-numbered old new path node gives n = omega (arith, n, gives.given_is, ap length gives.remaining_is)

  -- one node is a chunk
  pub chunk-one : (chunk : Chunk) (count : ℕ) (rest : LevelView N) → chunk ≡ One → count ≡ 1 → IsChunk chunk count rest
  chunk-one chunk count rest one e = rw one e

  -- all nodes of a level are a chunk
  pub chunk-all : (chunk : Chunk) (count : ℕ) (rest : LevelView N) → (chunk ≡ One → ⊥) → 0 < count → rest.remaining ≡ [] → IsChunk chunk count rest
  chunk-all One count rest other some none = absurd (other refl)
  chunk-all All count rest other some none = (some, none)

-- the level at a place, of which nodes were moved, where those below it have nothing to come
abbrev pub lowest-at : {N X : Type 0} (view : X → LevelView N) (items : List X) (place : ℕ) (within : place < length items) (x : X) (at : x ≡ get_or items place x) (seen : List (LevelView N)) (same : map view items ≡ seen) (y : X) (before after : List (Task N)) → AreSpent (take place seen) → MovesTo (view x) before after (view y) → MovesLowest seen before after (map view (set items place y))
lowest-at view items place within x at seen same y before after spent moves = record {
  lower = take place seen;
  level = view x;
  rest = view y;
  upper = drop (suc place) seen;
  old_is = place-splits view items place within x at seen same;
  new_is = place-set_splits view items place within x at seen same y;
  spent = spent;
  moves = moves;
}
