-- The nodes of a tree at one depth, from the root down and from the leaves up.
use Rattle.std.proofs.Common.{◌≡◌, ℕ, zero, suc, true, false, cond, ◌==◌, List, [], ◌∷◌, ◌++◌, map, filter, length, refl, ap, ap₂, sym, ◌∙◌, arith, append_assoc, append-nil}
use Rattle.std.specs.List.{AllByRecursion, flat_map}
use Rattle.std.proofs.lemmas.Bool.Decides.{nat_tests}
use Rattle.yew_laws.specs.Tree.{Member, tree, forest, root_member, child_member, IsRanked}
use Rattle.yew_laws.proofs.Members.{AllByRecursion-append}
use Rattle.yew_laws.proofs.Trees.{tree-unfolds}
use Rattle.yew_semi.specs.Depth.{nodes_at}

-- the nodes at a depth below a node
abbrev pub level : {N : Type 0} → (N → List N) → ℕ → N → List N
level children zero n = n ∷ []
level children (suc k) n = flat_map (level children k) (children n)

flat_map-append : {X Y : Type 0} (f : X → List Y) (xs ys : List X) → flat_map f (xs ++ ys) ≡ flat_map f xs ++ flat_map f ys
flat_map-append f [] ys = refl
flat_map-append f (x ∷ xs) ys = ap (λ zs. f x ++ zs) (flat_map-append f xs ys) ∙ sym (append_assoc (f x) (flat_map f xs) (flat_map f ys))

flat_map-flat_map : {X Y Z : Type 0} (f : X → List Y) (g : Y → List Z) (xs : List X) → flat_map g (flat_map f xs) ≡ flat_map (λ x. flat_map g (f x)) xs
flat_map-flat_map f g [] = refl
flat_map-flat_map f g (x ∷ xs) = flat_map-append g (f x) (flat_map f xs) ∙ ap (λ zs. flat_map g (f x) ++ zs) (flat_map-flat_map f g xs)

flat_map-agree : {X Y : Type 0} (f g : X → List Y) → ((x : X) → f x ≡ g x) → (xs : List X) → flat_map f xs ≡ flat_map g xs
flat_map-agree f g h [] = refl
flat_map-agree f g h (x ∷ xs) = ap₂ (λ ys zs. ys ++ zs) (h x) (flat_map-agree f g h xs)

singles : {N : Type 0} (children : N → List N) (ns : List N) → flat_map (level children 0) ns ≡ ns
singles children [] = refl
singles children (n ∷ ns) = ap (λ ms. n ∷ ms) (singles children ns)

-- one level further is the children of a level
pub level-more : {N : Type 0} (children : N → List N) (k : ℕ) (n : N) → level children (suc k) n ≡ flat_map children (level children k n)
level-more children zero n = singles children (children n) ∙ sym (append-nil (children n))
level-more children (suc k) n =
    flat_map-agree (level children (suc k)) (λ c. flat_map children (level children k c)) (level-more children k) (children n)
    ∙ sym (flat_map-flat_map (level children k) children (children n))

nodes_at-append : {N : Type 0} (k : ℕ) (xs ys : List (Member N)) → nodes_at k (xs ++ ys) ≡ nodes_at k xs ++ nodes_at k ys
nodes_at-append k [] ys = refl
nodes_at-append k (x ∷ xs) ys =
    elim (length x.path == k) as (λ b. map (λ m. m.node) (cond b (x ∷ filter (λ m. length m.path == k) (xs ++ ys)) (filter (λ m. length m.path == k) (xs ++ ys))) ≡ map (λ m. m.node) (cond b (x ∷ filter (λ m. length m.path == k) xs) (filter (λ m. length m.path == k) xs)) ++ nodes_at k ys) [
      | true ↦ ap (λ ns. x.node ∷ ns) (nodes_at-append k xs ys)
      | false ↦ nodes_at-append k xs ys
    ]

nodes_at-child : {N : Type 0} (j k : ℕ) (ms : List (Member N)) → nodes_at (suc k) (map (child_member j) ms) ≡ nodes_at k ms
nodes_at-child j k [] = refl
nodes_at-child j k (m ∷ ms) =
    let same : (suc (length m.path) == suc k) ≡ (length m.path == k) = grind (arith, nat_tests) in
    ap (λ b. map (λ x. x.node) (cond b (child_member j m ∷ filter (λ x. length x.path == suc k) (map (child_member j) ms)) (filter (λ x. length x.path == suc k) (map (child_member j) ms)))) same
    ∙ elim (length m.path == k) as (λ b. map (λ x. x.node) (cond b (child_member j m ∷ filter (λ x. length x.path == suc k) (map (child_member j) ms)) (filter (λ x. length x.path == suc k) (map (child_member j) ms))) ≡ map (λ x. x.node) (cond b (m ∷ filter (λ x. length x.path == k) ms) (filter (λ x. length x.path == k) ms))) [
      | true ↦ ap (λ ns. m.node ∷ ns) (nodes_at-child j k ms)
      | false ↦ nodes_at-child j k ms
    ]

none-at_root : {N : Type 0} (j : ℕ) (ms : List (Member N)) → nodes_at 0 (map (child_member j) ms) ≡ []
none-at_root j [] = refl
none-at_root j (m ∷ ms) =
    let other : (suc (length m.path) == 0) ≡ false = grind (arith, nat_tests) in
    ap (λ b. map (λ x. x.node) (cond b (child_member j m ∷ filter (λ x. length x.path == 0) (map (child_member j) ms)) (filter (λ x. length x.path == 0) (map (child_member j) ms)))) other
    ∙ none-at_root j ms

forest-none : {N : Type 0} (f : N → List (Member N)) (j : ℕ) (cs : List N) → nodes_at 0 (forest f j cs) ≡ []
forest-none f j [] = refl
forest-none f j (c ∷ cs) =
    nodes_at-append 0 (map (child_member j) (f c)) (forest f (suc j) cs)
    ∙ ap₂ (λ xs ys. xs ++ ys) (none-at_root j (f c)) (forest-none f (suc j) cs)

forest-deeper : {N : Type 0} (f : N → List (Member N)) (g : N → List N) (Q : N → Type 0) (k : ℕ) → ((c : N) → Q c → nodes_at k (f c) ≡ g c) → (j : ℕ) (cs : List N) → AllByRecursion Q cs → nodes_at (suc k) (forest f j cs) ≡ flat_map g cs
forest-deeper f g Q k h j [] a = refl
forest-deeper f g Q k h j (c ∷ cs) a =
    nodes_at-append (suc k) (map (child_member j) (f c)) (forest f (suc j) cs)
    ∙ ap₂ (λ xs ys. xs ++ ys) (nodes_at-child j k (f c) ∙ h c a.0) (forest-deeper f g Q k h (suc j) cs a.1)

pub all-flat_map : {X Y : Type 0} (P : Y → Type 0) (f : X → List Y) (Q : X → Type 0) → ((x : X) → Q x → AllByRecursion P (f x)) → (xs : List X) → AllByRecursion Q xs → AllByRecursion P (flat_map f xs)
all-flat_map P f Q h [] a = tt
all-flat_map P f Q h (x ∷ xs) a = AllByRecursion-append P (f x) (flat_map f xs) (h x a.0) (all-flat_map P f Q h xs a.1)

module _ {N : Type 0} {sound : N → Type 0} {children : N → List N} {rank : N → ℕ} (ranked : IsRanked sound children rank) where
  -- the nodes of the members at a depth are that level
  pub nodes_at-tree : (k : ℕ) (n : N) → sound n → nodes_at k (tree children rank n) ≡ level children k n
  nodes_at-tree zero n s =
      ap (nodes_at 0) (tree-unfolds ranked n s) ∙ ap (λ ns. n ∷ ns) (forest-none (tree children rank) 0 (children n))
  nodes_at-tree (suc k) n s =
      ap (nodes_at (suc k)) (tree-unfolds ranked n s)
      ∙ (let other : (0 == suc k) ≡ false = grind (arith, nat_tests) in
      ap (λ b. map (λ (x : Member N). x.node) (cond b (root_member n ∷ filter (λ x. length x.path == suc k) (forest (tree children rank) 0 (children n))) (filter (λ x. length x.path == suc k) (forest (tree children rank) 0 (children n))))) other)
      ∙ forest-deeper (tree children rank) (level children k) sound k (nodes_at-tree k) 0 (children n) (ranked.stays_sound n s)

  -- the nodes of a level are sound
  pub level-sound : (k : ℕ) (n : N) → sound n → AllByRecursion sound (level children k n)
  level-sound zero n s = (s, tt)
  level-sound (suc k) n s = all-flat_map sound (level children k) sound (level-sound k) (children n) (ranked.stays_sound n s)
