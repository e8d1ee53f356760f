-- What is left of the lowest level, and what a split takes of it.
use Rattle.std.proofs.Common.{◌≡◌, ℕ, zero, suc, ◌+◌, ◌<◌, ◌≤◌, List, [], ◌∷◌, ◌++◌, map, length, drop, Bool, true, false, not, cond, nat_lt, nat_le, inl, inr, refl, ap, ap₂, sym, subst, ◌∙◌, append_assoc, append-nil, add-one, arith, length-append}
use Rattle.std.specs.Prelude.{IsTrue, IsFalse}
use Rattle.std.specs.List.{AllByRecursion, filter}
use Rattle.std.proofs.lemmas.Bool.Decides.{nat_tests}
use Rattle.std.proofs.Math.Seq.{drop-append_seam}
use Rattle.yew_laws.specs.SearchTree.{SearchTree, numbered, child_paths_of}
use Rattle.yew_laws.specs.declared.problem.Task.{Task}
use Rattle.yew_log.specs.Notes.{Note, spawned, handed, path_of, visit_in, ended_in}
use Rattle.yew_log.specs.Groups.{one, all, part_of, shorter, shortest, children_left, has_left, left_at, lowest_left}
use Rattle.yew_log.specs.Policies.{spawn, hand, act_notes}
use Rattle.yew_stack.specs.Levels.{LevelView, Gives, AreSpent}
use Rattle.yew_stack.specs.Splits.{nodes_of, paths_of, appended, Moves, MovesLowest, IsChunk, Splits}
use Rattle.yew_stack.specs.declared.stacks.Chunk.{Chunk}
use Rattle.yew_stack.specs.declared.stacks.Chunk.TheVariants.{One, All}
use Rattle.yew_walk.specs.Dealt.{part_of_chunk, or_else, has_entry, parents, left_of, left_of_lowest, IsInGiven, AreNested, IsDealtLevel, IsDealt}
use Rattle.yew_walk.proofs.DealtLevels.{dealt-gives}

-- a path that is no longer than the others is the shortest
shortest-first : (path : List ℕ) (others : List (List ℕ)) → AllByRecursion (λ p. length path ≤ length p) others → shorter path (shortest others) ≡ path
shortest-first path [] a = refl
shortest-first path (p ∷ ps) a = by (nat_le (length path) (length (shorter p (shortest ps)))) refl
  where
    least : (q : List ℕ) (qs : List (List ℕ)) → length path ≤ length q → AllByRecursion (λ r. length path ≤ length r) qs → length path ≤ length (shorter q (shortest qs))
    least q [] le longer = le
    least q (r ∷ rs) le longer = elim (nat_le (length q) (length (shorter r (shortest rs)))) as (λ (b : Bool). length path ≤ length (cond b q (shorter r (shortest rs)))) [ true ↦ le | false ↦ least r rs longer.0 longer.1 ]

    by : (b : Bool) → nat_le (length path) (length (shorter p (shortest ps))) ≡ b → cond b path (shorter p (shortest ps)) ≡ path
    by true e = refl
    by false e = let le = least p ps a.0 a.1 in absurd (grind (arith, nat_tests))

some-left : (n : ℕ) → nat_lt 0 (suc n) ≡ true
some-left n = grind (arith, nat_tests)

-- what holds of all paths holds of those that pass a test
all-filter : (P : List ℕ → Type 0) (test : List ℕ → Bool) (ps : List (List ℕ)) → AllByRecursion P ps → AllByRecursion P (filter test ps)
all-filter P test [] a = tt
all-filter P test (p ∷ ps) a = elim (test p) as (λ b. AllByRecursion P (cond b (p ∷ filter test ps) (filter test ps))) [ true ↦ (a.0, all-filter P test ps a.1) | false ↦ all-filter P test ps a.1 ]

module _ {N : Type 0} where
  -- the paths of the levels above a level are longer
  above-longer : (level : LevelView N) (upper : List (LevelView N)) → AllByRecursion (λ (u : LevelView N). IsInGiven level u.parent) upper → AllByRecursion (λ p. length level.parent ≤ length p) (parents upper)
  above-longer level [] a = tt
  above-longer level (u ∷ upper) a =
      let l = ap length a.0.is in let m = length-append level.parent (a.0.number ∷ a.0.rest) in (omega (arith, l, m), above-longer level upper a.1)

  -- of a list of children, the first ones have entries and the others have none
  left-numbered : (notes : List Note) (path : List ℕ) (low count : ℕ) (cs remaining : List N) → remaining ≡ drop count cs → ((number : ℕ) → low ≤ number → number < low + count → IsTrue (has_entry notes (path ++ number ∷ []))) → ((number : ℕ) → low + count ≤ number → IsFalse (has_entry notes (path ++ number ∷ []))) → filter (λ p. not (has_entry notes p)) (numbered path low cs) ≡ numbered path (low + count) remaining
  left-numbered notes path low zero [] remaining are noted fresh = ap (numbered path (low + 0)) (sym are)
  left-numbered notes path low (suc count) [] remaining are noted fresh = ap (numbered path (low + suc count)) (sym are)
  left-numbered notes path low zero (c ∷ cs) remaining are noted fresh =
      ap₂ (λ (b : Bool) (others : List (List ℕ)). cond (not b) ((path ++ low ∷ []) ∷ others) others) (fresh low (omega arith))
      (left-numbered notes path (suc low) zero cs cs refl (λ number le lt. absurd (omega arith)) (λ number le. fresh number (omega arith)))
      ∙ ap (λ k. (path ++ low ∷ []) ∷ numbered path k cs) (let same : suc low + 0 ≡ suc low = omega arith in same)
      ∙ ap (λ k. numbered path k (c ∷ cs)) (let same : low ≡ low + 0 = omega arith in same)
      ∙ ap (numbered path (low + 0)) (sym are)
  left-numbered notes path low (suc count) (c ∷ cs) remaining are noted fresh =
      ap₂ (λ (b : Bool) (others : List (List ℕ)). cond (not b) ((path ++ low ∷ []) ∷ others) others) (noted low (omega arith) (omega arith))
      (left-numbered notes path (suc low) count cs remaining are (λ number le lt. noted number (omega arith) (omega arith)) (λ number le. fresh number (omega arith)))
      ∙ ap (λ k. numbered path k remaining) (let same : suc low + count ≡ low + suc count = omega arith in same)

  module _ (t : SearchTree N) where
    -- the children that are left of a level are those that have no entry
    pub dealt-children_left : (notes : List Note) (level : LevelView N) → IsDealtLevel t notes level → children_left t notes level.parent ≡ left_of level
    dealt-children_left notes level d =
        ap (λ o. filter (λ p. not (has_entry notes p)) (child_paths_of t level.parent o)) d.found
        ∙ left-numbered notes level.parent 0 level.given (t.children d.node) level.remaining d.remaining_is
        (λ number le lt. d.noted number (omega arith)) (λ number le. d.fresh number [] (omega arith))
        ∙ ap (λ k. numbered level.parent k level.remaining) (let same : 0 + level.given ≡ level.given = omega arith in same)

    lowest-levels : (notes : List Note) (ls : List (LevelView N)) → AreNested ls → AllByRecursion (IsDealtLevel t notes) ls → left_at t notes (shortest (filter (has_left t notes) (parents ls))) ≡ left_of_lowest ls
    lowest-levels notes [] n d = refl
    lowest-levels notes (l ∷ ls) n d =
        ap (λ ps. left_at t notes (shortest (cond (nat_lt 0 (length ps)) (l.parent ∷ others) others))) here ∙ by (left_of l) refl (lowest-levels notes ls n.1 d.1)
      where
        others : List (List ℕ)
        others = filter (has_left t notes) (parents ls)

        here : children_left t notes l.parent ≡ left_of l
        here = dealt-children_left notes l d.0

        by : (ps : List (List ℕ)) → left_of l ≡ ps → left_at t notes (shortest (filter (has_left t notes) (parents ls))) ≡ left_of_lowest ls → left_at t notes (shortest (cond (nat_lt 0 (length ps)) (l.parent ∷ filter (has_left t notes) (parents ls)) (filter (has_left t notes) (parents ls)))) ≡ or_else ps (left_of_lowest ls)
        by [] e higher = higher
        by (p ∷ ps) e higher =
            ap (λ b. left_at t notes (shortest (cond b (l.parent ∷ filter (has_left t notes) (parents ls)) (filter (has_left t notes) (parents ls))))) (some-left (length ps))
            ∙ ap (children_left t notes) (shortest-first l.parent (filter (has_left t notes) (parents ls)) (all-filter (λ q. length l.parent ≤ length q) (has_left t notes) (parents ls) (above-longer l ls n.0)))
            ∙ dealt-children_left notes l d.0
            ∙ e

    -- the children that are left of the lowest level are those of the lowest open visit that has any
    pub dealt-lowest_left : (notes : List Note) (ls : List (LevelView N)) → IsDealt t notes ls → lowest_left t notes ≡ left_of_lowest ls
    dealt-lowest_left notes ls d =
        ap (λ ps. left_at t notes (shortest (filter (has_left t notes) ps))) d.open_is ∙ lowest-levels notes ls d.nested d.each

level_is : {N : Type 0} (old new : LevelView N) → new.parent ≡ old.parent → new.given ≡ old.given → new.remaining ≡ old.remaining → new ≡ old
level_is {N} old new a b c = parts a b c
  where
    parts : {p q : List ℕ} {g h : ℕ} {r s : List N} → p ≡ q → g ≡ h → r ≡ s → ◌≡◌ {A = LevelView N} (record { parent = p; given = g; remaining = r }) (record { parent = q; given = h; remaining = s })
    parts a b c = cc

spent-left : {N : Type 0} (ls : List (LevelView N)) → AreSpent ls → left_of_lowest ls ≡ []
spent-left [] s = refl
spent-left (l ∷ ls) s = ap (λ ns. or_else (numbered l.parent l.given ns) (left_of_lowest ls)) s.0 ∙ spent-left ls s.1

spent-lowest : {N : Type 0} (lower : List (LevelView N)) (level : LevelView N) (upper : List (LevelView N)) → AreSpent lower → left_of_lowest (lower ++ level ∷ upper) ≡ or_else (left_of level) (left_of_lowest upper)
spent-lowest [] level upper s = refl
spent-lowest (l ∷ lower) level upper s = ap (λ ns. or_else (numbered l.parent l.given ns) (left_of_lowest (lower ++ level ∷ upper))) s.0 ∙ spent-lowest lower level upper s.1

module _ {N : Type 0} where
  pub appended-is : (before after moved : List (Task N)) → after ≡ before ++ moved → appended before after ≡ moved
  appended-is before after moved e = ap (drop (length before)) e ∙ drop-append_seam before moved

  appended-none : (before after : List (Task N)) → after ≡ before → appended before after ≡ []
  appended-none before after e = appended-is before after [] (e ∙ sym (append-nil before))

  chunk-part : (chunk : Chunk) (moved : List (Task N)) (level rest : LevelView N) (others : List (List ℕ)) → Moves level moved rest → IsChunk chunk (length moved) rest → paths_of moved ≡ part_of (part_of_chunk chunk) (or_else (left_of level) others)
  chunk-part One [] level rest others m chunk = absurd (omega (arith, chunk))
  chunk-part All [] level rest others m chunk = absurd (omega (arith, chunk.0))
  chunk-part One (a ∷ b ∷ tasks) level rest others m chunk = absurd (omega (arith, chunk))
  chunk-part One (task ∷ []) level rest others m chunk =
      m.paths_are ∙ ap (λ ns. part_of one (or_else (numbered level.parent level.given ns) others)) (sym m.remaining_is)
  chunk-part All (task ∷ tasks) level rest others m chunk =
      m.paths_are
      ∙ ap (λ ns. or_else (numbered level.parent level.given ns) others) (sym (m.remaining_is ∙ ap (λ ns. nodes_of (task ∷ tasks) ++ ns) chunk.1 ∙ append-nil (nodes_of (task ∷ tasks))))

  -- what a split moves is a part of what is left of the lowest level
  pub splits-part : (chunk : Chunk) (old : List (LevelView N)) (before after : List (Task N)) (new : List (LevelView N)) → Splits chunk old before after new → paths_of (appended before after) ≡ part_of (part_of_chunk chunk) (left_of_lowest old)
  splits-part One old before after new (inl h) = ap paths_of (appended-none before after h.1) ∙ ap (part_of one) (sym (spent-left old h.0))
  splits-part All old before after new (inl h) = ap paths_of (appended-none before after h.1) ∙ ap (part_of all) (sym (spent-left old h.0))
  splits-part chunk old before after new (inr h) =
      let m = h.0 in
      ap paths_of (appended-is before after m.moves.moved m.moves.after_is)
      ∙ chunk-part chunk m.moves.moved m.level m.rest (left_of_lowest m.upper) m.moves.moves h.1
      ∙ ap (part_of (part_of_chunk chunk)) (sym (ap left_of_lowest m.old_is ∙ spent-lowest m.lower m.level m.upper m.spent))

  module _ (t : SearchTree N) (made : List ℕ → Note) (path_is : (p : List ℕ) → path_of (made p) ≡ p) (no_visit : (p : List ℕ) → visit_in (made p) ≡ []) (no_end : (p : List ℕ) → ended_in (made p) ≡ []) where
    dealt-moves : (moved : List (Task N)) (notes : List Note) (lower upper : List (LevelView N)) (level rest : LevelView N) → Moves level moved rest → IsDealt t notes (lower ++ level ∷ upper) → IsDealt t (notes ++ map made (paths_of moved)) (lower ++ rest ∷ upper)
    dealt-moves [] notes lower upper level rest m d =
        let same = level_is rest level (sym m.parent_is) (omega (arith, m.given_is)) m.remaining_is in
        subst (λ ns. IsDealt t ns (lower ++ rest ∷ upper)) (sym (append-nil notes)) (subst (λ (l : LevelView N). IsDealt t notes (lower ++ l ∷ upper)) same d)
    dealt-moves (task ∷ tasks) notes lower upper level rest m d =
        let path = task.path.numbers in
        let mid : LevelView N = record { parent = level.parent; given = suc level.given; remaining = nodes_of tasks ++ rest.remaining } in
        let are : paths_of (task ∷ tasks) ≡ numbered level.parent level.given (nodes_of (task ∷ tasks)) = m.paths_are in
        let first : path ≡ level.parent ++ level.given ∷ [] = cc in
        let others : paths_of tasks ≡ numbered level.parent (suc level.given) (nodes_of tasks) = cc in
        let gives : Gives level path task.node mid = record { path_is = first; remaining_is = m.remaining_is; given_is = sym (add-one level.given); parent_is = refl } in
        let more : Moves mid tasks rest = record { remaining_is = refl; paths_are = others; given_is = omega (arith, m.given_is); parent_is = m.parent_is } in
        subst (λ ns. IsDealt t ns (lower ++ rest ∷ upper)) (append_assoc notes (made path ∷ []) (map made (paths_of tasks)))
        (dealt-moves tasks (notes ++ made path ∷ []) lower upper mid rest more
        (dealt-gives t notes (made path) lower upper level mid path task.node gives (path_is path) (no_visit path) (no_end path) d))

    pub dealt-moves_lowest : (notes : List Note) (old new : List (LevelView N)) (before after : List (Task N)) → MovesLowest old before after new → IsDealt t notes old → IsDealt t (notes ++ map made (paths_of (appended before after))) new
    dealt-moves_lowest notes old new before after m d =
        let moved = appended-is before after m.moves.moved m.moves.after_is in
        subst (λ (tasks : List (Task N)). IsDealt t (notes ++ map made (paths_of tasks)) new) (sym moved)
        (subst (IsDealt t (notes ++ map made (paths_of m.moves.moved))) (sym m.new_is)
        (dealt-moves m.moves.moved notes m.lower m.upper m.level m.rest m.moves.moves (subst (IsDealt t notes) m.old_is d)))

    pub dealt-splits : (chunk : Chunk) (notes : List Note) (old new : List (LevelView N)) (before after : List (Task N)) → Splits chunk old before after new → IsDealt t notes old → IsDealt t (notes ++ map made (paths_of (appended before after))) new
    dealt-splits chunk notes old new before after (inl h) d =
        subst (IsDealt t (notes ++ map made (paths_of (appended before after)))) (sym h.2)
        (subst (λ ns. IsDealt t ns old) (sym (ap (λ (tasks : List (Task N)). notes ++ map made (paths_of tasks)) (appended-none before after h.1) ∙ append-nil notes)) d)
    dealt-splits chunk notes old new before after (inr h) d = dealt-moves_lowest notes old new before after h.0 d

  module _ (t : SearchTree N) where
    -- nodes of the lowest level are moved, and are noted as spawned
    pub dealt-spawned : (notes : List Note) (old new : List (LevelView N)) (before after : List (Task N)) → MovesLowest old before after new → IsDealt t notes old → IsDealt t (notes ++ map spawned (paths_of (appended before after))) new
    dealt-spawned notes old new before after m d = dealt-moves_lowest t spawned (λ p. refl) (λ p. refl) (λ p. refl) notes old new before after m d

    -- likewise as handed
    pub dealt-handed : (notes : List Note) (old new : List (LevelView N)) (before after : List (Task N)) → MovesLowest old before after new → IsDealt t notes old → IsDealt t (notes ++ map handed (paths_of (appended before after))) new
    dealt-handed notes old new before after m d = dealt-moves_lowest t handed (λ p. refl) (λ p. refl) (λ p. refl) notes old new before after m d

    -- a chunk is split off, and its tasks are noted as spawned: these are the entries that the act leaves
    pub dealt-splits_spawned : (chunk : Chunk) (notes : List Note) (old new : List (LevelView N)) (before after : List (Task N)) → Splits chunk old before after new → IsDealt t notes old → IsDealt t (notes ++ act_notes (spawn (part_of_chunk chunk)) (lowest_left t notes)) new
    dealt-splits_spawned chunk notes old new before after s d =
        subst (λ ps. IsDealt t (notes ++ map spawned ps) new)
        (splits-part chunk old before after new s ∙ ap (part_of (part_of_chunk chunk)) (sym (dealt-lowest_left t notes old d)))
        (dealt-splits t spawned (λ p. refl) (λ p. refl) (λ p. refl) chunk notes old new before after s d)

    -- likewise as handed
    pub dealt-splits_handed : (chunk : Chunk) (notes : List Note) (old new : List (LevelView N)) (before after : List (Task N)) → Splits chunk old before after new → IsDealt t notes old → IsDealt t (notes ++ act_notes (hand (part_of_chunk chunk)) (lowest_left t notes)) new
    dealt-splits_handed chunk notes old new before after s d =
        subst (λ ps. IsDealt t (notes ++ map handed ps) new)
        (splits-part chunk old before after new s ∙ ap (part_of (part_of_chunk chunk)) (sym (dealt-lowest_left t notes old d)))
        (dealt-splits t handed (λ p. refl) (λ p. refl) (λ p. refl) chunk notes old new before after s d)

    -- the paths of the tasks that a split moves are those that the act takes
    pub splits-lowest_left : (chunk : Chunk) (notes : List Note) (old new : List (LevelView N)) (before after : List (Task N)) → Splits chunk old before after new → IsDealt t notes old → paths_of (appended before after) ≡ part_of (part_of_chunk chunk) (lowest_left t notes)
    splits-lowest_left chunk notes old new before after s d =
        splits-part chunk old before after new s ∙ ap (part_of (part_of_chunk chunk)) (sym (dealt-lowest_left t notes old d))
