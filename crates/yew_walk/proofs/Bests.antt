-- The first best path of a tree leads to a member that has the greatest worth.
use Rattle.std.proofs.Common.{◌≡◌, ◌<◌, ◌≤◌, ◌↔◌, ℕ, true, false, List, Option, Some, None, ◌==◌, if◌then◌else◌, IsSome, IsNone, IfSome, IsSomeAnd, IfNone, All, ◌≢◌, Contains, refl, ap, sym, subst, ◌∙◌, arith}
use Rattle.std.specs.Option.{option_map}
use Rattle.std.proofs.lemmas.Bool.Decides.{nat_tests}
use Rattle.std.proofs.lemmas.List.Elements.{All-contains, All-from_recursion}
use Rattle.std.proofs.lemmas.Option.{none-some, same_Some}
use Rattle.yew_laws.specs.Tree.{Member, IsRanked}
use Rattle.yew_laws.specs.SearchTree.{SearchTree, preorder, at_path, worth_at}
use Rattle.yew_laws.specs.Greatest.{greatest, first_best, first_with}
use Rattle.yew_laws.specs.PathValue.{PathValue}
use Rattle.yew_laws.proofs.PathTests.{nat-is}
use Rattle.yew_laws.proofs.Trees.{tree-node_at, tree-contains}
use Rattle.yew_kinds.specs.Wrappers.{clipped_tree}
use Rattle.yew_kinds.proofs.Clipping.{first_with-greatest, first_with-worth, first_best-is, first_best-meets}
use Rattle.yew_walk.specs.Answers.{IsBest, IsReached}
use Rattle.yew_walk.specs.Hands.{numbers_of}

-- a member of a tree that has the greatest worth, at this path
pub record IsBestNode {N : Type 0} (t : SearchTree N) (path : List ℕ) : Type 0 where
  pub node : N
  pub found : at_path t path ≡ Some node
  pub member : Contains (preorder t) (record { path = path; node = node })
  pub best : t.worth node ≡ greatest t

-- a node that a map of the worth has
record HasWorth {N : Type 0} (worth : N → ℕ) (found : Option N) (w : ℕ) : Type 0 where
  pub node : N
  pub is : found ≡ Some node
  pub worth_is : worth node ≡ w

option_map-node : {N : Type 0} (worth : N → ℕ) (found : Option N) (w : ℕ) → option_map worth found ≡ Some w → HasWorth worth found w
option_map-node worth None w e = absurd (none-some w e)
option_map-node worth (Some n) w e = record { node = n; is = refl; worth_is = same_Some (worth n) w e }

IfSome-at : {X : Type 0} (P : X → Type 0) (found : Option X) (x : X) → IfSome found P → found ≡ Some x → P x
IfSome-at P None x h e = absurd (none-some x e)
IfSome-at P (Some y) x h e = let same : y ≡ x = same_Some y x e in rw (← same) h

module _ {N : Type 0} (t : SearchTree N) {sound : N → Type 0} (ranked : IsRanked sound t.children t.rank) where
  first_best-first : (path : List ℕ) → first_best t ≡ Some path → first_with t.worth (greatest t) (preorder t) ≡ Some path
  first_best-first path e =
      elim (greatest t == 0) as (λ b. (if b then None else first_with t.worth (greatest t) (preorder t)) ≡ Some path → first_with t.worth (greatest t) (preorder t) ≡ Some path)
      [ true ↦ λ h. absurd (none-some path h) | false ↦ λ h. h ] e

  -- the first best path leads to a member of the greatest worth
  pub first_best-node : sound t.root → (path : List ℕ) → first_best t ≡ Some path → IsBestNode t path
  first_best-node s path e =
      let at : option_map t.worth (at_path t path) ≡ Some (greatest t) =
      IfSome-at (λ p. option_map t.worth (at_path t p) ≡ Some (greatest t)) (first_with t.worth (greatest t) (preorder t)) path
      (first_with-worth t.worth (at_path t) (greatest t) (preorder t) (tree-node_at ranked t.root s)) (first_best-first path e) in
      let there = option_map-node t.worth (at_path t path) (greatest t) at in
      record {
        node = there.node;
        found = there.is;
        member = tree-contains ranked path t.root there.node s there.is;
        best = there.worth_is;
      }

-- what `rebuild` answers at a path that has a node: it is the node there, and there is one
module _ {N : Type 0} (t : SearchTree N) {sound : N → Type 0} (ranked : IsRanked sound t.children t.rank) (root_sound : sound t.root) where
  -- a member is the node at its path
  pub member-at_path : (path : List ℕ) (node : N) → Contains (preorder t) (record { path = path; node = node }) → at_path t path ≡ Some node
  member-at_path path node member =
      let AtPath : Member N → Type 0 = λ m. at_path t m.path ≡ Some m.node in
      All-contains AtPath (preorder t) (record { path = path; node = node }) (All-from_recursion AtPath (preorder t) (tree-node_at ranked t.root root_sound)) member

  pub rebuilt-IsSome : (path : List ℕ) (node : N) (found : Option N) → at_path t path ≡ Some node → IfNone found (All (λ m. m.path ≢ path) (preorder t)) → IsSome found
  rebuilt-IsSome path node None at absent =
      absurd (All-contains (λ (m : Member N). m.path ≢ path) (preorder t) (record { path = path; node = node }) absent (tree-contains ranked path t.root node root_sound at) refl)
  rebuilt-IsSome path node (Some other) at absent = refl

  -- at the first best path its worth is the greatest
  pub rebuilt-best : (path : List ℕ) (node : N) → first_best t ≡ Some path → Contains (preorder t) (record { path = path; node = node }) → t.worth node ≡ greatest t
  rebuilt-best path node e member =
      let there = first_best-node t ranked root_sound path e in
      let same : there.node ≡ node = same_Some there.node node (sym there.found ∙ member-at_path path node member) in
      ap t.worth (sym same) ∙ there.best

  -- and where the worth at the path has a property, the worth of the node has it
  pub rebuilt-worth : (P : ℕ → Type 0) (path : List ℕ) (node : N) → IsSomeAnd (worth_at t path) P → Contains (preorder t) (record { path = path; node = node }) → P (t.worth node)
  rebuilt-worth P path node meets member =
      let at : worth_at t path ≡ Some (t.worth node) = ap (option_map t.worth) (member-at_path path node member) in
      rw at at meets

IsSome-numbers_of : (path : Option PathValue) → IsSome path ↔ IsSome (numbers_of path)
IsSome-numbers_of None = (λ h. h, λ h. h)
IsSome-numbers_of (Some p) = (λ h. refl, λ h. refl)

IfSome-numbers_of : (P : List ℕ → Type 0) (path : Option PathValue) → IfSome (numbers_of path) P → IfSome path (λ p. P p.numbers)
IfSome-numbers_of P None h = h
IfSome-numbers_of P (Some p) h = h

-- the first best path of a decision's tree answers the decision
pub first_best-reached : {N : Type 0} (t : SearchTree N) {sound : N → Type 0} → IsRanked sound t.children t.rank → sound t.root → (target : ℕ) (path : Option PathValue) → numbers_of path ≡ first_best (clipped_tree t target) → IsReached t target path
first_best-reached t ranked s target path e =
    let some = IsSome-numbers_of path in
    let found = first_best-is t.worth target (preorder t) in
    let Meets : List ℕ → Type 0 = λ p. IsSomeAnd (worth_at t p) (λ w. target ≤ w) in
    let best = first_best-meets t.worth target (at_path t) (preorder t) (tree-node_at ranked t.root s) in
    record {
      path_is = e;
      exists = (λ h. found.0 (subst IsSome e (some.0 h)), λ r. some.1 (subst IsSome (sym e) (found.1 r)));
      meets = IfSome-numbers_of Meets path (subst (λ (o : Option (List ℕ)). IfSome o Meets) (sym e) best);
    }

none-not-some : {X : Type 0} (o : Option X) → IsNone o → IsSome o → ⊥
none-not-some None none some = absurd (cc)
none-not-some (Some x) none some = absurd (cc)

IsNone-numbers_of : (path : Option PathValue) → IsNone path ↔ IsNone (numbers_of path)
IsNone-numbers_of None = (λ h. refl, λ h. refl)
IsNone-numbers_of (Some p) = (λ h. absurd (cc), λ h. absurd (cc))

module _ {N : Type 0} (t : SearchTree N) where
  -- there is no first best path exactly where the greatest worth is 0
  first_best-absent : IsNone (first_best t) ↔ (greatest t ≡ 0)
  first_best-absent =
      let top = greatest t in
      elim (top == 0) as (λ b. (top == 0) ≡ b → IsNone (if b then None else first_with t.worth top (preorder t)) ↔ (top ≡ 0)) [
        | true ↦ λ is. (λ h. nat-is top 0 is, λ zero. refl)
        | false ↦ λ is.
            let above : 0 < top = grind (arith, nat_tests) in
            let some = first_with-greatest t.worth top (preorder t) refl above in
            (λ h. absurd (none-not-some (first_with t.worth top (preorder t)) h some), λ zero. absurd (omega (arith, zero, above)))
      ]
      refl

  -- and its node has the greatest worth
  first_best-worth : {sound : N → Type 0} → IsRanked sound t.children t.rank → sound t.root → IfSome (first_best t) (λ path. worth_at t path ≡ Some (greatest t))
  first_best-worth ranked s =
      let top = greatest t in
      elim (top == 0) as (λ b. IfSome (if b then None else first_with t.worth top (preorder t)) (λ path. worth_at t path ≡ Some top)) [
        | true ↦ tt
        | false ↦ first_with-worth t.worth (at_path t) top (preorder t) (tree-node_at ranked t.root s)
      ]

  -- the greatest worth and the first best path answer the search for a best node
  pub first_best-best : {sound : N → Type 0} → IsRanked sound t.children t.rank → sound t.root → (worth : ℕ) (path : Option PathValue) → worth ≡ greatest t → numbers_of path ≡ first_best t → IsBest t worth path
  first_best-best ranked s worth path worth_is path_is =
      let none = IsNone-numbers_of path in
      let absent = first_best-absent in
      let Attains : List ℕ → Type 0 = λ p. worth_at t p ≡ Some worth in
      record {
        worth_is = worth_is;
        path_is = path_is;
        absent = (λ h. worth_is ∙ absent.0 (subst IsNone path_is (none.0 h)), λ zero. none.1 (subst IsNone (sym path_is) (absent.1 (sym worth_is ∙ zero))));
        has_worth = IfSome-numbers_of Attains path
            (subst (λ (o : Option (List ℕ)). IfSome o Attains) (sym path_is)
            (subst (λ (w : ℕ). IfSome (first_best t) (λ p. worth_at t p ≡ Some w)) (sym worth_is) (first_best-worth ranked s)));
      }
