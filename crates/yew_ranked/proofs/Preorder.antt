-- The members of a tree in preorder have paths that rise, so the first best path comes before any other of its worth.
use Rattle.std.proofs.Common.{◌≡◌, ℕ, zero, suc, ◌<◌, ◌≤◌, ◌⊎◌, List, [], ◌∷◌, ◌++◌, map, Bool, true, false, Option, Some, None, ◌==◌, if◌then◌else◌, refl, sym, subst, inl, inr, arith}
use Rattle.std.specs.Prelude.{IsTrue}
use Rattle.std.specs.List.{AllByRecursion}
use Rattle.std.proofs.lemmas.Bool.Decides.{nat_tests}
use Rattle.std.proofs.lemmas.List.Elements.{All-contains, All-from_recursion}
use Rattle.std.proofs.lemmas.Option.{none-some, same_Some}
use Rattle.yew_laws.specs.Tree.{Member, child_member, forest, tree, IsRanked}
use Rattle.yew_laws.specs.SearchTree.{SearchTree, preorder, at_path}
use Rattle.yew_laws.specs.Greatest.{greatest_of, greatest, first_with, first_best}
use Rattle.yew_laws.specs.Order.{comes_before}
use Rattle.yew_laws.proofs.Members.{AllByRecursion-append, AllByRecursion-map, AllByRecursion-weaker}
use Rattle.yew_laws.proofs.Trees.{ranked_induction, tree-unfolds, tree-contains}
use Rattle.yew_ranked.proofs.PathOrder.{before-same_first, before-smaller_first}

-- the paths of members rise
abbrev PathsRise : {N : Type 0} → List (Member N) → Type 0
PathsRise [] = Unit {0}
PathsRise {N} (m ∷ ms) = AllByRecursion (λ (x : Member N). IsTrue (comes_before m.path x.path)) ms × PathsRise ms

-- the first number of a path is at least this
abbrev FirstFrom : ℕ → List ℕ → Type 0
FirstFrom k [] = ⊥
FirstFrom k (j ∷ p) = k ≤ j

rise-append : {N : Type 0} (xs ys : List (Member N)) → PathsRise xs → PathsRise ys → AllByRecursion (λ (x : Member N). AllByRecursion (λ (y : Member N). IsTrue (comes_before x.path y.path)) ys) xs → PathsRise (xs ++ ys)
rise-append [] ys a b between = b
rise-append {N} (x ∷ xs) ys a b between =
    (AllByRecursion-append (λ (y : Member N). IsTrue (comes_before x.path y.path)) xs ys a.0 between.0, rise-append xs ys a.1 b between.1)

rise-child : {N : Type 0} (k : ℕ) (ms : List (Member N)) → PathsRise ms → PathsRise (map (child_member k) ms)
rise-child k [] a = tt
rise-child {N} k (m ∷ ms) a = (
  AllByRecursion-map (λ (x : Member N). IsTrue (comes_before (k ∷ m.path) x.path)) (child_member k) ms
      (AllByRecursion-weaker (λ (x : Member N). IsTrue (comes_before m.path x.path)) (λ (x : Member N). IsTrue (comes_before (k ∷ m.path) (k ∷ x.path))) (λ x h. before-same_first k m.path x.path h) ms a.0),
  rise-child k ms a.1,
)

every : {X : Type 0} (P : X → Type 0) → ((x : X) → P x) → (xs : List X) → AllByRecursion P xs
every P f [] = tt
every P f (x ∷ xs) = (f x, every P f xs)

first-from_later : (j k : ℕ) (p : List ℕ) → j ≤ k → FirstFrom k p → FirstFrom j p
first-from_later j k [] le h = h
first-from_later j k (i ∷ p) le h = omega arith

forest-first : {N : Type 0} (f : N → List (Member N)) (k : ℕ) (cs : List N) → AllByRecursion (λ (m : Member N). FirstFrom k m.path) (forest f k cs)
forest-first f k [] = tt
forest-first {N} f k (c ∷ cs) =
    AllByRecursion-append (λ (m : Member N). FirstFrom k m.path) (map (child_member k) (f c)) (forest f (suc k) cs)
    (AllByRecursion-map (λ (m : Member N). FirstFrom k m.path) (child_member k) (f c) (every (λ (m : Member N). k ≤ k) (λ m. omega arith) (f c)))
    (AllByRecursion-weaker (λ (m : Member N). FirstFrom (suc k) m.path) (λ (m : Member N). FirstFrom k m.path) (λ m h. first-from_later k (suc k) m.path (omega arith) h) (forest f (suc k) cs) (forest-first f (suc k) cs))

before-first : (k : ℕ) (p q : List ℕ) → FirstFrom (suc k) q → IsTrue (comes_before (k ∷ p) q)
before-first k p [] h = absurd h
before-first k p (j ∷ q) h = before-smaller_first k j p q (omega arith)

forest-rises : {N : Type 0} (f : N → List (Member N)) (k : ℕ) (cs : List N) → AllByRecursion (λ c. PathsRise (f c)) cs → PathsRise (forest f k cs)
forest-rises f k [] a = tt
forest-rises {N} f k (c ∷ cs) a =
    let later = forest f (suc k) cs in
    rise-append (map (child_member k) (f c)) later (rise-child k (f c) a.0) (forest-rises f (suc k) cs a.1)
    (AllByRecursion-map (λ (x : Member N). AllByRecursion (λ (y : Member N). IsTrue (comes_before x.path y.path)) later) (child_member k) (f c)
    (every (λ (x : Member N). AllByRecursion (λ (y : Member N). IsTrue (comes_before (k ∷ x.path) y.path)) later)
    (λ x. AllByRecursion-weaker (λ (y : Member N). FirstFrom (suc k) y.path) (λ (y : Member N). IsTrue (comes_before (k ∷ x.path) y.path)) (λ y h. before-first k x.path y.path h) later (forest-first f (suc k) cs))
    (f c)))

before-root : (k : ℕ) (p : List ℕ) → FirstFrom k p → IsTrue (comes_before [] p)
before-root k [] h = absurd h
before-root k (j ∷ p) h = refl

module _ {N : Type 0} {sound : N → Type 0} {children : N → List N} {rank : N → ℕ} (ranked : IsRanked sound children rank) where
  tree-rises : (n : N) → sound n → PathsRise (tree children rank n)
  tree-rises =
      ranked_induction ranked (λ n. PathsRise (tree children rank n))
      (λ n s below.
      let inside = forest (tree children rank) 0 (children n) in
      subst PathsRise (sym (tree-unfolds ranked n s)) (
        AllByRecursion-weaker (λ (m : Member N). FirstFrom 0 m.path) (λ (m : Member N). IsTrue (comes_before [] m.path)) (λ m h. before-root 0 m.path h) inside (forest-first (tree children rank) 0 (children n)),
        forest-rises (tree children rank) 0 (children n) below,
      ))

-- a path of the worth is the first one, or comes after it
abbrev pub IsFrom : List ℕ → List ℕ → Type 0
IsFrom path p = (p ≡ path) ⊎ IsTrue (comes_before path p)

first_with-first : {N : Type 0} (worth : N → ℕ) (w : ℕ) (ms : List (Member N)) (path : List ℕ) → PathsRise ms → first_with worth w ms ≡ Some path → AllByRecursion (λ (m : Member N). worth m.node ≡ w → IsFrom path m.path) ms
first_with-first worth w [] path rise e = tt
first_with-first {N} worth w (m ∷ ms) path rise e = by (first_with-first worth w ms path rise.1) (worth m.node == w) refl e
  where
    by : (first_with worth w ms ≡ Some path → AllByRecursion (λ (x : Member N). worth x.node ≡ w → IsFrom path x.path) ms)
        → (b : Bool) → (worth m.node == w) ≡ b → (if b then Some m.path else first_with worth w ms) ≡ Some path → AllByRecursion (λ (x : Member N). worth x.node ≡ w → IsFrom path x.path) (m ∷ ms)
    by rest true is found =
        let same : m.path ≡ path = same_Some m.path path found in (
          (λ h. inl same),
          AllByRecursion-weaker (λ (x : Member N). IsTrue (comes_before m.path x.path)) (λ (x : Member N). worth x.node ≡ w → IsFrom path x.path)
              (λ x h k. inr (subst (λ (p : List ℕ). IsTrue (comes_before p x.path)) same h)) ms rise.0,
        )
    by rest false is found = ((λ h. absurd (other (worth m.node) w is h)), rest found)
      where
        other : (a b : ℕ) → (a == b) ≡ false → a ≡ b → ⊥
        other a b is h = grind (arith, nat_tests)

at_most-greatest : {N : Type 0} (worth : N → ℕ) (ms : List (Member N)) → AllByRecursion (λ (m : Member N). worth m.node ≤ greatest_of worth ms) ms
at_most-greatest worth [] = tt
at_most-greatest {N} worth (m ∷ ms) = (
  omega arith,
  AllByRecursion-weaker (λ (x : Member N). worth x.node ≤ greatest_of worth ms) (λ (x : Member N). worth x.node ≤ greatest_of worth (m ∷ ms)) (λ x h. omega (arith, h)) ms (at_most-greatest worth ms),
)

module _ {N : Type 0} (t : SearchTree N) {sound : N → Type 0} (ranked : IsRanked sound t.children t.rank) (root : sound t.root) where
  -- no node of the tree has more than the greatest worth
  pub worth-at_most : (path : List ℕ) (n : N) → at_path t path ≡ Some n → t.worth n ≤ greatest t
  worth-at_most path n at =
      All-contains (λ (m : Member N). t.worth m.node ≤ greatest t) (preorder t) (record { path = path; node = n })
      (All-from_recursion (λ (m : Member N). t.worth m.node ≤ greatest t) (preorder t) (at_most-greatest t.worth (preorder t))) (tree-contains ranked path t.root n root at)

  -- a node of the greatest worth stands at the first best path, or after it
  pub best-from_first : (first path : List ℕ) (n : N) → first_best t ≡ Some first → at_path t path ≡ Some n → t.worth n ≡ greatest t → IsFrom first path
  best-from_first first path n is at worth =
      All-contains (λ (m : Member N). t.worth m.node ≡ greatest t → IsFrom first m.path) (preorder t) (record { path = path; node = n })
      (All-from_recursion (λ (m : Member N). t.worth m.node ≡ greatest t → IsFrom first m.path) (preorder t)
      (first_with-first t.worth (greatest t) (preorder t) first (tree-rises ranked t.root root) (found (greatest t) (first_with t.worth (greatest t) (preorder t)) is)))
      (tree-contains ranked path t.root n root at) worth
    where
      found : (g : ℕ) (o : Option (List ℕ)) → (if g == 0 then None else o) ≡ Some first → o ≡ Some first
      found g o e = by (g == 0) e
        where
          by : (b : Bool) → (if b then None else o) ≡ Some first → o ≡ Some first
          by true h = absurd (none-some first h)
          by false h = h

  -- where there is a first best path, the greatest worth is not 0
  pub best-some_worth : (first : List ℕ) → first_best t ≡ Some first → 0 < greatest t
  best-some_worth first e = by (greatest t) (first_with t.worth (greatest t) (preorder t)) e
    where
      by : (g : ℕ) (o : Option (List ℕ)) → (if g == 0 then None else o) ≡ Some first → 0 < g
      by zero o h = absurd (none-some first h)
      by (suc g) o h = omega arith
