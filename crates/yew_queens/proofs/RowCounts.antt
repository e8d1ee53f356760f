-- The tree has as many nodes in each row as there are peaceful placements.
use Rattle.std.proofs.Common.{◌≡◌, ℕ, zero, suc, ◌+◌, ◌<◌, ◌≤◌, Bool, true, false, cond, ◌&&◌, ◌==◌, List, [], ◌∷◌, ◌++◌, length, map, if◌then◌else◌, count_by, refl, ap, ap₂, sym, ◌∙◌, arith, append-nil, append_assoc, length-append, lt-ltb, zero-add}
use Rattle.std.specs.List.{filter, range_with_len, sum_by}
use Rattle.std.proofs.lemmas.Bool.Decides.{nat_tests}
use Rattle.std.proofs.lemmas.List.Sums.{sum_by-cons, sum_by-append}
use Rattle.yew_kinds.specs.DepthCounts.{members_at}
use Rattle.yew_laws.specs.SearchTree.{preorder}
use Rattle.yew_laws.specs.Tree.{Member, child_member, forest, root_member, tree}
use Rattle.yew_laws.proofs.Bags.{sum_by-map, sum_by-flat_map}
use Rattle.yew_laws.proofs.Trees.{tree-unfolds}
use Rattle.yew_queens.specs.Boards.{is_peaceful, all_placements}
use Rattle.yew_queens.specs.BoardLaws.{board-ranked}
use Rattle.yew_queens.specs.BoardTree.{is_free, children_of, rows_left, board_tree}
use Rattle.yew_queens.proofs.Peaceful.{peaceful-more}

sum-agrees : {X : Type 0} (f g : X → ℕ) → ((x : X) → f x ≡ g x) → (xs : List X) → sum_by f xs ≡ sum_by g xs
sum-agrees f g agree [] = refl
sum-agrees f g agree (x ∷ xs) = sum_by-cons f x xs ∙ ap₂ (λ a b. a + b) (agree x) (sum-agrees f g agree xs) ∙ sym (sum_by-cons g x xs)

sum-zero : {X : Type 0} (f : X → ℕ) → ((x : X) → f x ≡ 0) → (xs : List X) → sum_by f xs ≡ 0
sum-zero f none [] = refl
sum-zero f none (x ∷ xs) =
    let here = none x in let rest = sum-zero f none xs in let both = sum_by-cons f x xs in omega arith

-- what is filtered out counts for nothing
sum-filtered : (p : ℕ → Bool) (f g : ℕ → ℕ) → ((n : ℕ) → p n ≡ true → f n ≡ g n) → ((n : ℕ) → p n ≡ false → g n ≡ 0) → (ns : List ℕ) → sum_by f (filter p ns) ≡ sum_by g ns
sum-filtered p f g kept dropped [] = refl
sum-filtered p f g kept dropped (n ∷ ns) =
    let rest = sum-filtered p f g kept dropped ns in
    let whole = sum_by-cons g n ns in
    elim (p n) as (λ b. p n ≡ b → sum_by f (cond b (n ∷ filter p ns) (filter p ns)) ≡ sum_by g (n ∷ ns)) [
      | true ↦ λ is. let front = sum_by-cons f n (filter p ns) in let same = kept n is in omega arith
      | false ↦ λ is. let none = dropped n is in omega arith
    ]
    refl

suc-equal : (a b : ℕ) → (suc a == suc b) ≡ (a == b)
suc-equal a b = grind (arith, nat_tests)

suc-not-zero : (a : ℕ) → (suc a == 0) ≡ false
suc-not-zero a = grind (arith, nat_tests)

zero-not-suc : (a : ℕ) → (0 == suc a) ≡ false
zero-not-suc a = grind (arith, nat_tests)

module _ {N : Type 0} (tree_of : N → List (Member N)) where
  abbrev at_depth : ℕ → Member N → ℕ
  at_depth depth m = cond (length m.path == depth) 1 0

  forest-row : (rows k : ℕ) (cs : List N) → members_at (suc rows) (forest tree_of k cs) ≡ sum_by (λ c. members_at rows (tree_of c)) cs
  forest-row rows k [] = refl
  forest-row rows k (c ∷ cs) =
      sum_by-append (at_depth (suc rows)) (map (child_member k) (tree_of c)) (forest tree_of (suc k) cs)
      ∙ ap₂ (λ a b. a + b)
      (sum_by-map (at_depth (suc rows)) (child_member k) (tree_of c)
      ∙ sum-agrees (λ m. at_depth (suc rows) (child_member k m)) (at_depth rows) (λ m. ap (λ b. cond b 1 0) (suc-equal (length m.path) rows)) (tree_of c))
      (forest-row rows (suc k) cs)
      ∙ sym (sum_by-cons (λ d. members_at rows (tree_of d)) c cs)

  forest-no_root : (k : ℕ) (cs : List N) → members_at 0 (forest tree_of k cs) ≡ 0
  forest-no_root k [] = refl
  forest-no_root k (c ∷ cs) =
      sum_by-append (at_depth 0) (map (child_member k) (tree_of c)) (forest tree_of (suc k) cs)
      ∙ ap₂ (λ a b. a + b)
      (sum_by-map (at_depth 0) (child_member k) (tree_of c)
      ∙ sum-zero (λ m. at_depth 0 (child_member k m)) (λ m. ap (λ b. cond b 1 0) (suc-not-zero (length m.path))) (tree_of c))
      (forest-no_root (suc k) cs)

module _ (size : ℕ) where
  abbrev weight : List ℕ → ℕ
  weight cs = cond (is_peaceful cs) 1 0

  -- how many peaceful placements begin with these columns and have so many rows more
  abbrev completions : ℕ → List ℕ → ℕ
  completions rows cs = sum_by (λ es. weight (cs ++ es)) (all_placements size rows)

  completions-none : (cs : List ℕ) → completions 0 cs ≡ weight cs
  completions-none cs =
      sum_by-cons (λ es. weight (cs ++ es)) [] [] ∙ (let same : weight (cs ++ []) ≡ weight cs = ap weight (append-nil cs) in omega arith)

  completions-more : (rows : ℕ) (cs : List ℕ) → completions (suc rows) cs ≡ sum_by (λ c. completions rows (cs ++ c ∷ [])) (range_with_len 0 size)
  completions-more rows cs =
      let all = all_placements size rows in
      sum_by-flat_map (λ es. weight (cs ++ es)) (λ c. map (λ es. c ∷ es) all) (range_with_len 0 size)
      ∙ sum-agrees (λ c. sum_by (λ es. weight (cs ++ es)) (map (λ es. c ∷ es) all)) (λ c. completions rows (cs ++ c ∷ []))
      (λ c.
      sum_by-map (λ es. weight (cs ++ es)) (λ es. c ∷ es) all
      ∙ sum-agrees (λ es. weight (cs ++ c ∷ es)) (λ es. weight ((cs ++ c ∷ []) ++ es)) (λ es. ap weight (sym (append_assoc cs (c ∷ []) es))) all)
      (range_with_len 0 size)

  -- queens that attack each other still do with more queens
  attacked-none : (rows : ℕ) (cs : List ℕ) → is_peaceful cs ≡ false → completions rows cs ≡ 0
  attacked-none zero cs attacked = completions-none cs ∙ ap (λ b. cond b 1 0) attacked
  attacked-none (suc rows) cs attacked =
      completions-more rows cs
      ∙ sum-zero (λ c. completions rows (cs ++ c ∷ []))
      (λ c. attacked-none rows (cs ++ c ∷ []) (peaceful-more cs c ∙ ap (λ b. b && is_free cs c) attacked))
      (range_with_len 0 size)

  abbrev below : List ℕ → List (Member (List ℕ))
  below = tree (children_of size) (rows_left size)

  children-are : (cs : List ℕ) → length cs < size → children_of size cs ≡ map (λ c. cs ++ c ∷ []) (filter (is_free cs) (range_with_len 0 size))
  children-are cs room =
      ap (λ b. if b then map (λ c. cs ++ c ∷ []) (filter (is_free cs) (range_with_len 0 size)) else []) (lt-ltb (length cs) size room)

  row-count : (rows : ℕ) (cs : List ℕ) → is_peaceful cs ≡ true → length cs + rows ≤ size → members_at rows (below cs) ≡ completions rows cs
  row-count zero cs peaceful fits =
      ap (members_at 0) (tree-unfolds (board-ranked size) cs (omega arith))
      ∙ sum_by-cons (at_depth below 0) (root_member cs) (forest below 0 (children_of size cs))
      ∙ ap (λ n. 1 + n) (forest-no_root below 0 (children_of size cs))
      ∙ sym (completions-none cs ∙ ap (λ b. cond b 1 0) peaceful)
  row-count (suc rows) cs peaceful fits =
      let free = is_free cs in
      let columns = range_with_len 0 size in
      let more : ℕ → List ℕ = λ c. cs ++ c ∷ [] in
      ap (members_at (suc rows)) (tree-unfolds (board-ranked size) cs (omega arith))
      ∙ sum_by-cons (at_depth below (suc rows)) (root_member cs) (forest below 0 (children_of size cs))
      ∙ ap₂ (λ a b. a + b) (ap (λ b. cond b 1 0) (zero-not-suc rows)) (forest-row below rows 0 (children_of size cs))
      ∙ zero-add (sum_by (λ d. members_at rows (below d)) (children_of size cs))
      ∙ ap (sum_by (λ d. members_at rows (below d))) (children-are cs (omega arith))
      ∙ sum_by-map (λ d. members_at rows (below d)) more (filter free columns)
      ∙ sum-filtered free (λ c. members_at rows (below (more c))) (λ c. completions rows (more c))
      (λ c is.
      let longer : length (cs ++ c ∷ []) ≡ length cs + 1 = length-append cs (c ∷ []) in
      row-count rows (more c) (peaceful-more cs c ∙ ap₂ (λ a b. a && b) peaceful is) (omega arith))
      (λ c is. attacked-none rows (more c) (peaceful-more cs c ∙ ap₂ (λ a b. a && b) peaceful is))
      columns
      ∙ sym (completions-more rows cs)

  pub nodes-in_row : (rows : ℕ) → rows ≤ size → members_at rows (preorder (board_tree size)) ≡ count_by is_peaceful (all_placements size rows)
  nodes-in_row rows fits = row-count rows [] refl (omega arith)
