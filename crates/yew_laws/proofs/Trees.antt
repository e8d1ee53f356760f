-- Laws of trees: how a tree unfolds, and what holds of each member.
use Rattle.std.proofs.Common.{◌≡◌, ℕ, zero, suc, ◌+◌, ◌<◌, ◌≤◌, List, [], ◌∷◌, ◌++◌, map, length, get_or, drop, slice_get, All, ◌≢◌, Some, None, option_and_then, Contains, refl, ap, ap₂, sym, subst, ◌∙◌, arith}
use Rattle.std.specs.List.{AllByRecursion}
use Rattle.std.proofs.lemmas.List.{drop_more}
use Rattle.std.proofs.lemmas.List.Elements.{All-contains, All-from_recursion, Contains-append_left, Contains-append_right}
use Rattle.std.proofs.lemmas.Option.{none-some, same_Some, option_and_then_some}
use Rattle.yew_laws.specs.Tree.{Member, child_member, forest, root_member, tree_within, tree, node_at, IsRanked, IsBounded}
use Rattle.yew_laws.proofs.Members.{AllByRecursion-append, AllByRecursion-map, AllByRecursion-weaker, AllByRecursion-both, AllByRecursion-at, Contains-head, Contains-tail, Contains-map}

-- two functions that agree on the siblings give the same forest
pub forest-agree : {N : Type 0} (f g : N → List (Member N)) (Q : N → Type 0) → ((c : N) → Q c → f c ≡ g c) → (k : ℕ) (cs : List N) → AllByRecursion Q cs → forest f k cs ≡ forest g k cs
forest-agree f g Q agree k [] a = refl
forest-agree f g Q agree k (c ∷ cs) a =
    ap₂ (λ x y. map (child_member k) x ++ y) (agree c a.0) (forest-agree f g Q agree (suc k) cs a.1)

-- what holds of each member of a forest, by what holds of each member of the trees in it
forest-members : {N : Type 0} (f : N → List (Member N)) (P : N → Member N → Type 0) (R : Member N → Type 0) (k : ℕ) (cs : List N) → ((j : ℕ) (c : N) → slice_get cs j ≡ Some c → (m : Member N) → P c m → R (child_member (k + j) m)) → AllByRecursion (λ c. AllByRecursion (P c) (f c)) cs → AllByRecursion R (forest f k cs)
forest-members f P R k [] step a = tt
forest-members {N} f P R k (c ∷ cs) step a =
    AllByRecursion-append R (map (child_member k) (f c)) (forest f (suc k) cs)
    (AllByRecursion-map R (child_member k) (f c)
    (AllByRecursion-weaker (P c) (λ m. R (child_member k m))
    (λ m p. let first : R (child_member (k + 0) m) = step 0 c refl m p in let e : k + 0 ≡ k = omega arith in subst (λ i. R (child_member i m)) e first)
    (f c) a.0))
    (forest-members f P R (suc k) cs
    (λ j d e m p. let later : R (child_member (k + suc j) m) = step (suc j) d e m p in let same : k + suc j ≡ suc k + j = omega arith in subst (λ i. R (child_member i m)) same later)
    a.1)

forest-contains : {N : Type 0} (f : N → List (Member N)) (k : ℕ) (cs : List N) (j : ℕ) (c : N) (m : Member N) → slice_get cs j ≡ Some c → Contains (f c) m → Contains (forest f k cs) (child_member (k + j) m)
forest-contains f k [] j c m e h = absurd (cc)
forest-contains f k (d ∷ ds) zero c m e h =
    let same : d ≡ c = same_Some d c e in
    let number : k ≡ k + 0 = omega arith in
    let here : Contains (f d) m = rw same h in
    subst (λ i. Contains (forest f k (d ∷ ds)) (child_member i m)) number
    (Contains-append_left (map (child_member k) (f d)) (forest f (suc k) ds) (child_member k m) (Contains-map (child_member k) (f d) m here))
forest-contains f k (d ∷ ds) (suc j) c m e h =
    let number : suc k + j ≡ k + suc j = omega arith in
    subst (λ i. Contains (forest f k (d ∷ ds)) (child_member i m)) number
    (Contains-append_right (map (child_member k) (f d)) (forest f (suc k) ds) (child_member (suc k + j) m) (forest-contains f (suc k) ds j c m e h))

-- one step along a path
pub node_at-step : {N : Type 0} (children : N → List N) (n c : N) (path : List ℕ) (i : ℕ) → i < length path → slice_get (children n) (get_or path i 0) ≡ Some c → node_at children n (drop i path) ≡ node_at children c (drop (i + 1) path)
node_at-step children n c path i within at =
    ap (node_at children n) (drop_more path i 0 within)
    ∙ ap (option_and_then (λ d. node_at children d (drop (i + 1) path))) at

-- a path that stops at a node that lacks the child
pub node_at-stop : {N : Type 0} (children : N → List N) (n : N) (path : List ℕ) (i : ℕ) → i < length path → slice_get (children n) (get_or path i 0) ≡ None → node_at children n (drop i path) ≡ None
node_at-stop children n path i within at =
    ap (node_at children n) (drop_more path i 0 within)
    ∙ ap (option_and_then (λ d. node_at children d (drop (i + 1) path))) at

-- one child further than a path
pub node_at-child : {N : Type 0} (children : N → List N) (start n c : N) (path : List ℕ) (k : ℕ) → node_at children start path ≡ Some n → slice_get (children n) k ≡ Some c → node_at children start (path ++ k ∷ []) ≡ Some c
node_at-child children start n c [] k found at =
    let same : start ≡ n = same_Some start n found in
    rw (same, at) refl
node_at-child children start n c (j ∷ js) k found at =
    option_and_then_some (λ d. node_at children d js) (slice_get (children start) j) n found
    (λ d there below. rw there (node_at-child children d n c js k below at))

no_children : {N : Type 0} (rank : N → ℕ) (r : ℕ) (cs : List N) → r ≤ 0 → AllByRecursion (λ c. rank c < r) cs → cs ≡ []
no_children rank r [] z a = refl
no_children rank r (c ∷ cs) z a = absurd (omega (arith, a.0))

module _ {N : Type 0} {sound : N → Type 0} {children : N → List N} {rank : N → ℕ} (ranked : IsRanked sound children rank) where
  -- the children of a sound node are sound, and of less rank
  children-known : (n : N) → sound n → AllByRecursion (λ c. sound c × (rank c < rank n)) (children n)
  children-known n s = AllByRecursion-both sound (λ c. rank c < rank n) (children n) (ranked.stays_sound n s) (ranked.rank_falls n s)

  induction-within : (P : N → Type 0) → ((n : N) → sound n → AllByRecursion P (children n) → P n) → (d : ℕ) (n : N) → sound n → rank n < d → P n
  induction-within P step zero n s l = absurd (omega arith)
  induction-within P step (suc d) n s l =
      step n s
      (AllByRecursion-weaker (λ c. sound c × (rank c < rank n)) P
      (λ c known. induction-within P step d c known.0 (omega (arith, known.1)))
      (children n) (children-known n s))

  -- what holds of a node where it holds of its children holds of each sound node
  pub ranked_induction : (P : N → Type 0) → ((n : N) → sound n → AllByRecursion P (children n) → P n) → (n : N) → sound n → P n
  ranked_induction P step n s = induction-within P step (suc (rank n)) n s (omega arith)

  -- cut off below the rank nothing is lost
  tree_within-depth : (d e : ℕ) (n : N) → sound n → rank n ≤ d → rank n ≤ e → tree_within children d n ≡ tree_within children e n
  tree_within-depth zero zero n s a b = refl
  tree_within-depth zero (suc e) n s a b =
      let leaf : children n ≡ [] = no_children rank (rank n) (children n) a (ranked.rank_falls n s) in
      ap (λ cs. root_member n ∷ forest (tree_within children e) 0 cs) (sym leaf)
  tree_within-depth (suc d) zero n s a b =
      let leaf : children n ≡ [] = no_children rank (rank n) (children n) b (ranked.rank_falls n s) in
      ap (λ cs. root_member n ∷ forest (tree_within children d) 0 cs) leaf
  tree_within-depth (suc d) (suc e) n s a b =
      ap (λ ms. root_member n ∷ ms)
      (forest-agree (tree_within children d) (tree_within children e) (λ c. sound c × (rank c < rank n))
      (λ c known. tree_within-depth d e c known.0 (omega (arith, known.1)) (omega (arith, known.1)))
      0 (children n) (children-known n s))

  -- a tree is its root, and then the trees of the children in order
  pub tree-unfolds : (n : N) → sound n → tree children rank n ≡ root_member n ∷ forest (tree children rank) 0 (children n)
  unfolding tree
  tree-unfolds n s =
      tree_within-depth (rank n) (suc (rank n)) n s (omega arith) (omega arith)
      ∙ ap (λ ms. root_member n ∷ ms)
      (forest-agree (tree_within children (rank n)) (tree children rank) (λ c. sound c × (rank c < rank n))
      (λ c known. tree_within-depth (rank n) (rank c) c known.0 (omega (arith, known.1)) (omega arith))
      0 (children n) (children-known n s))

  -- what holds of each member of a tree, by one step from a child's tree
  pub tree-members : (P : N → Member N → Type 0) → ((n : N) → sound n → P n (root_member n)) → ((n : N) → sound n → (k : ℕ) (c : N) → slice_get (children n) k ≡ Some c → (m : Member N) → P c m → P n (child_member k m)) → (n : N) → sound n → AllByRecursion (P n) (tree children rank n)
  tree-members P at_root step =
      ranked_induction (λ n. AllByRecursion (P n) (tree children rank n))
      (λ n s known.
      subst (λ ms. AllByRecursion (P n) ms) (sym (tree-unfolds n s)) (
        at_root n s,
        forest-members (tree children rank) P (P n) 0 (children n)
            (λ j c e m p. let number : j ≡ 0 + j = omega arith in subst (λ i. P n (child_member i m)) number (step n s j c e m p))
            known,
      ))

  -- each member of the tree of a sound node is sound
  pub tree-sound : (n : N) → sound n → AllByRecursion (λ m. sound m.node) (tree children rank n)
  tree-sound = tree-members (λ n m. sound m.node) (λ n s. s) (λ n s k c e m p. p)

  -- each member is the node at its path
  pub tree-node_at : (n : N) → sound n → AllByRecursion (λ m. node_at children n m.path ≡ Some m.node) (tree children rank n)
  tree-node_at = tree-members (λ n m. node_at children n m.path ≡ Some m.node) (λ n s. refl) (λ n s k c e m p. rw e p)

  -- a path's length and its node's rank are together at most the rank
  pub tree-rank : (n : N) → sound n → AllByRecursion (λ m. length m.path + rank m.node ≤ rank n) (tree children rank n)
  tree-rank =
      tree-members (λ n m. length m.path + rank m.node ≤ rank n)
      (λ n s. omega arith)
      (λ n s k c e m p.
      let falls : rank c < rank n = AllByRecursion-at (λ d. rank d < rank n) (children n) k c e (ranked.rank_falls n s) in
      omega (arith, p))

  -- no member has more worth than the bound
  pub tree-bounded : {worth bound : N → ℕ} → IsBounded sound children worth bound → (n : N) → sound n → AllByRecursion (λ m. worth m.node ≤ bound n) (tree children rank n)
  tree-bounded {worth} {bound} bounded n s =
      AllByRecursion-weaker (λ m. node_at children n m.path ≡ Some m.node) (λ m. worth m.node ≤ bound n)
      (λ m e. bounded.bounds n m.node m.path s e)
      (tree children rank n) (tree-node_at n s)

  -- the node at a path is a member
  pub tree-contains : (path : List ℕ) (n m : N) → sound n → node_at children n path ≡ Some m → Contains (tree children rank n) (record { path = path; node = m })
  tree-contains [] n m s e =
      let same : n ≡ m = same_Some n m e in
      subst (λ ms. Contains ms (record { path = []; node = m })) (sym (tree-unfolds n s))
      (subst (λ x. Contains (root_member n ∷ forest (tree children rank) 0 (children n)) (root_member x)) same
      (Contains-head (root_member n) (forest (tree children rank) 0 (children n))))
  tree-contains (k ∷ ks) n m s e =
      option_and_then_some (λ c. node_at children c ks) (slice_get (children n) k) m e
      (λ c at below.
      let sound_child : sound c = AllByRecursion-at sound (children n) k c at (ranked.stays_sound n s) in
      let deeper : Contains (tree children rank c) (record { path = ks; node = m }) = tree-contains ks c m sound_child below in
      let number : 0 + k ≡ k = omega arith in
      subst (λ ms. Contains ms (record { path = k ∷ ks; node = m })) (sym (tree-unfolds n s))
      (Contains-tail (root_member n) (forest (tree children rank) 0 (children n)) (record { path = k ∷ ks; node = m })
      (subst (λ i. Contains (forest (tree children rank) 0 (children n)) (record { path = i ∷ ks; node = m })) number
      (forest-contains (tree children rank) 0 (children n) k c (record { path = ks; node = m }) at deeper))))

  -- where no node is at a path, no member has that path
  pub tree-lacks : (path : List ℕ) (n : N) → sound n → node_at children n path ≡ None → All (λ m. m.path ≢ path) (tree children rank n)
  tree-lacks path n s none =
      All-from_recursion (λ m. m.path ≢ path) (tree children rank n)
      (AllByRecursion-weaker (λ m. node_at children n m.path ≡ Some m.node) (λ m. m.path ≢ path)
      (λ m at same. none-some m.node (sym none ∙ ap (node_at children n) (sym same) ∙ at))
      (tree children rank n) (tree-node_at n s))

  -- the length of a path and the rank of its node are together at most the rank
  pub node_at-rank : (path : List ℕ) (n m : N) → sound n → node_at children n path ≡ Some m → length path + rank m ≤ rank n
  node_at-rank path n m s at =
      All-contains (λ (x : Member N). length x.path + rank x.node ≤ rank n) (tree children rank n) (record { path = path; node = m })
      (All-from_recursion (λ (x : Member N). length x.path + rank x.node ≤ rank n) (tree children rank n) (tree-rank n s))
      (tree-contains path n m s at)
