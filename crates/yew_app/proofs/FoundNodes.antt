-- The node at the path that a search answers is a solution.
use Rattle.std.proofs.Common.{◌≡◌, ◌≢◌, ◌≤◌, ℕ, List, Option, Some, None, Result, Ok, Err, refl, sym, subst, ◌∙◌}
use Rattle.std.specs.Prelude.{◌↔◌, IsNone, IfSome, IfNone, IfOk, IsSomeAnd, All, Contains, option_and_then}
use Rattle.std.specs.Option.{option_map}
use Rattle.std.proofs.lemmas.List.Elements.{All-contains, All-from_recursion}
use Rattle.yew_kinds.specs.declared.kind.Answer.TheVariants as answers
use Rattle.yew_kinds.specs.declared.kind.Kind.{Kind}
use Rattle.yew_kinds.specs.declared.kind.Kind.TheVariants as kinds
use Rattle.yew_laws.specs.Greatest.{Reach}
use Rattle.yew_laws.specs.PathValue.{PathValue}
use Rattle.yew_laws.specs.SearchTree.{SearchTree, preorder, at_path, worth_at}
use Rattle.yew_laws.specs.Tree.{Member, IsRanked}
use Rattle.yew_laws.proofs.Trees.{tree-contains, tree-sound}
use Rattle.yew_crew.specs.CrewSearch.{IsGreatest, IsMeeting, IsCrewAnswer}
use Rattle.yew_walk.specs.Answers.{IsNear}
use Rattle.yew_walk.proofs.Bests.{member-at_path, rebuilt-IsSome}
use Rattle.yew_app.specs.declared.solution.Solution.TheVariants as solutions
use Rattle.yew_app.specs.Solutions.{IsBestNode, IsNearNode, IsReachedNode, IsSolution}

-- a node whose worth has a property
record HasWorth {N : Type 0} (worth : N → ℕ) (P : ℕ → Type 0) (found : Option N) : Type 0 where
  pub node : N
  pub is : found ≡ Some node
  pub has : P (worth node)

has-worth : {N : Type 0} (worth : N → ℕ) (P : ℕ → Type 0) (found : Option N) → IsSomeAnd (option_map worth found) P → HasWorth worth P found
has-worth worth P None h = absurd h
has-worth worth P (Some n) h = record { node = n; is = refl; has = h }

never-none : {X R : Type 0} (x : X) → IsNone (Some x) → R
never-none x none = absurd (cc)

some-and : (P : ℕ → Type 0) (found : Option ℕ) (w : ℕ) → found ≡ Some w → P w → IsSomeAnd found P
some-and P found w e p = subst (λ (o : Option ℕ). IsSomeAnd o P) (sym e) p

-- two facts of what was answered give a third
pub both-ok : {X E : Type 0} (answer : Result X E) (P Q R : X → Type 0) → ((x : X) → P x → Q x → R x) → IfOk answer P → IfOk answer Q → IfOk answer R
both-ok (Ok x) P Q R f p q = f x p q
both-ok (Err e) P Q R f p q = tt

module _ {N : Type 0} (t : SearchTree N) {sound : N → Type 0} (ranked : IsRanked sound t.children t.rank) (root : sound t.root) where
  -- what was built again at a path is the node there
  rebuilt-at_path : (path : List ℕ) (found : Option N) → IfSome found (λ node. Contains (preorder t) (record { path = path; node = node })) → IfNone found (All (λ m. m.path ≢ path) (preorder t)) → found ≡ at_path t path
  rebuilt-at_path path (Some node) some none = sym (member-at_path t ranked root path node some)
  rebuilt-at_path path None some none = at (at_path t path) refl
    where
      at : (found : Option N) → at_path t path ≡ found → None ≡ found
      at None e = refl
      at (Some node) e = let there = rebuilt-IsSome t ranked root path node None e none in absurd (cc)

  pub rebuild-at_path : {E : Type 0} (path : List ℕ) (answer : Result (Option N) E) → IfOk answer (λ found. IfSome found (λ node. Contains (preorder t) (record { path = path; node = node }))) → IfOk answer (λ found. IfNone found (All (λ m. m.path ≢ path) (preorder t))) → IfOk answer (λ found. found ≡ at_path t path)
  rebuild-at_path path answer =
      both-ok answer (λ found. IfSome found (λ node. Contains (preorder t) (record { path = path; node = node }))) (λ found. IfNone found (All (λ m. m.path ≢ path) (preorder t))) (λ found. found ≡ at_path t path)
      (rebuilt-at_path path)

  -- it is sound
  node-sound : (path : List ℕ) (node : N) → at_path t path ≡ Some node → sound node
  node-sound path node at =
      All-contains (λ (m : Member N). sound m.node) (preorder t) (record { path = path; node = node })
      (All-from_recursion (λ (m : Member N). sound m.node) (preorder t) (tree-sound ranked t.root root)) (tree-contains ranked path t.root node root at)

  -- a node of this worth, where a path has it; there is none exactly where the worth is 0
  record IsPlaced (worth : ℕ) (found : Option N) : Type 0 where
    pub absent : IsNone found ↔ (worth ≡ 0)
    pub has_worth : IfSome found (λ n. sound n × (worth ≡ t.worth n))

  placed-node : (worth : ℕ) (path : Option PathValue) (found : Option N) → IsNone path ↔ (worth ≡ 0) → IfSome path (λ p. worth_at t p.numbers ≡ Some worth)
      → found ≡ option_and_then (λ (p : PathValue). at_path t p.numbers) path → IsPlaced worth found
  placed-node worth None found absent has is = record {
    absent = (λ n. absent.0 refl, λ zero. subst IsNone (sym is) refl);
    has_worth = subst (λ (o : Option N). IfSome o (λ n. sound n × (worth ≡ t.worth n))) (sym is) tt;
  }
  placed-node worth (Some p) found absent has is =
      let h = has-worth t.worth (λ w. worth ≡ w) (at_path t p.numbers) (some-and (λ w. worth ≡ w) (worth_at t p.numbers) worth has refl) in
      let there : found ≡ Some h.node = is ∙ h.is in
      record {
        absent = (λ n. never-none h.node (subst IsNone there n), λ zero. never-none p (absent.1 zero));
        has_worth = subst (λ (o : Option N). IfSome o (λ n. sound n × (worth ≡ t.worth n))) (sym there) (node-sound p.numbers h.node h.is, h.has);
      }

  -- a node of the greatest worth
  best-node : (worth : ℕ) (path : Option PathValue) (node : Option N) → IsGreatest t worth path → node ≡ option_and_then (λ (p : PathValue). at_path t p.numbers) path → IsBestNode t sound worth node
  best-node worth path node best is =
      let placed = placed-node worth path node best.absent best.has_worth is in
      record { worth_is = best.worth_is; absent = placed.absent; has_worth = placed.has_worth }

  -- a node whose worth is within a gap of it
  near-node : (gap worth : ℕ) (path : Option PathValue) (node : Option N) → IsNear t gap worth path → node ≡ option_and_then (λ (p : PathValue). at_path t p.numbers) path → IsNearNode t sound gap worth node
  near-node gap worth path node near is =
      let placed = placed-node worth path node near.absent near.has_worth is in
      record { within = near.within; no_answer = near.no_answer; absent = placed.absent; has_worth = placed.has_worth }

  -- a node that meets a target
  reached-node : (target : ℕ) (path : Option PathValue) (node : Option N) → IsMeeting t target path → node ≡ option_and_then (λ (p : PathValue). at_path t p.numbers) path → IsReachedNode t sound target node
  reached-node target path node reached is = record {
    absent = absent path reached is;
    meets = has path reached is;
  }
    where
      at : (p : PathValue) → IsMeeting t target (Some p) → HasWorth t.worth (λ w. target ≤ w) (at_path t p.numbers)
      at p r = has-worth t.worth (λ w. target ≤ w) (at_path t p.numbers) r.meets

      absent : (path : Option PathValue) → IsMeeting t target path → node ≡ option_and_then (λ (p : PathValue). at_path t p.numbers) path → IsNone node → ¬ Reach t target
      absent None r e n = λ reaches. let never = r.exists.1 reaches in absurd (cc)
      absent (Some p) r e n = let h = at p r in let s : node ≡ Some h.node = e ∙ h.is in absurd (cc)

      has : (path : Option PathValue) → IsMeeting t target path → node ≡ option_and_then (λ (p : PathValue). at_path t p.numbers) path → IfSome node (λ n. sound n × (target ≤ t.worth n))
      has None r e = subst (λ (o : Option N). IfSome o (λ n. sound n × (target ≤ t.worth n))) (sym e) tt
      has (Some p) r e = let h = at p r in subst (λ (o : Option N). IfSome o (λ n. sound n × (target ≤ t.worth n))) (sym (e ∙ h.is)) (node-sound p.numbers h.node h.is, h.has)

  -- what a search answered, with the node in the place of its path
  pub solution-best : {S : Type 0} (fold : S) (kind : Kind) (worth : ℕ) (path : Option PathValue) (found : Option N) → found ≡ option_and_then (λ (p : PathValue). at_path t p.numbers) path
      → IsCrewAnswer t fold kind (answers.Best worth path) → IsSolution t sound fold kind (solutions.Best worth found)
  solution-best fold kinds.Count worth path found found_is is = absurd is
  solution-best fold kinds.Best worth path found found_is is = best-node worth path found is found_is
  solution-best fold (kinds.Reach target) worth path found found_is is = absurd is
  solution-best fold (kinds.Near gap) worth path found found_is is = near-node gap worth path found is found_is

  pub solution-reach : {S : Type 0} (fold : S) (kind : Kind) (path : Option PathValue) (found : Option N) → found ≡ option_and_then (λ (p : PathValue). at_path t p.numbers) path
      → IsCrewAnswer t fold kind (answers.Reach path) → IsSolution t sound fold kind (solutions.Reach found)
  solution-reach fold kinds.Count path found found_is is = absurd is
  solution-reach fold kinds.Best path found found_is is = absurd is
  solution-reach fold (kinds.Reach target) path found found_is is = reached-node target path found is found_is
  solution-reach fold (kinds.Near gap) path found found_is is = absurd is
