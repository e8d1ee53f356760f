-- One visit or cut of a walk along a tree.
use Rattle.std.proofs.Common.{◌≡◌, ◌≢◌, ℕ, List, [], ◌∷◌, ◌++◌, Bool, true, false, Option, Some, nat_eq, refl, sym, ap, ap₂, subst, ◌∙◌, append-nil}
use Rattle.std.specs.Prelude.{MatchBool, IsSome}
use Rattle.std.specs.Option.{option_map}
use Rattle.std.proofs.lemmas.Bool.{eqb-true, eqb-false}
use Rattle.std.proofs.lemmas.List.{map-append}
use Rattle.std.proofs.lemmas.Option.{same_Some}
use Rattle.yew_laws.specs.declared.problem.Problem.{Ghosts}
use Rattle.yew_laws.specs.SearchTree.{SearchTree, search_tree, at_path, worth_at, bound_at, below, below_node, tree_paths, IsTask}
use Rattle.yew_laws.specs.Tree.{Member, IsRanked, forest, prefixed, paths}
use Rattle.yew_laws.proofs.Trees.{tree-unfolds}
use Rattle.yew_stack.specs.Levels.{LevelValue}
use Rattle.yew_stack.specs.ToCome.{to_come, node_tree, AllOpen}
use Rattle.yew_stack.proofs.Coming.{push-open, push-to_come}
use Rattle.yew_check.specs.Covering.{coming, Misses, IsMore, Passes}
use Rattle.yew_check.specs.Marks.{Mark}

value-test : (x : Option ℕ) (w v : ℕ) → x ≡ Some w → MatchBool (nat_eq w v) (x ≡ Some v) (x ≢ Some v)
value-test x w v is =
    elim (nat_eq w v) as (λ b. nat_eq w v ≡ b → MatchBool b (x ≡ Some v) (x ≢ Some v)) [
      | true ↦ λ e. is ∙ ap Some (eqb-true w v e)
      | false ↦ λ e k. eqb-false w v e (same_Some w v (sym is ∙ k))
    ]
    refl

module _ {S N K : Type 0} (meaning : Ghosts S N K) (problem : S) (ranked : IsRanked (meaning.sound problem) (meaning.children problem) (meaning.rank problem)) where
  abbrev t : SearchTree N
  t = search_tree meaning problem

  module _ (old mid : List (LevelValue K)) (path : List ℕ) (node : N) (task : IsTask meaning problem path node) (gives : to_come meaning problem old ≡ prefixed path (node_tree meaning problem node) ++ to_come meaning problem mid) where
    -- behind the node come the paths of its children
    abbrev kids_paths : List (List ℕ)
    kids_paths = paths (prefixed path (forest (node_tree meaning problem) 0 (meaning.children problem node)))

    coming-gives : coming meaning problem old ≡ paths (prefixed path (node_tree meaning problem node)) ++ coming meaning problem mid
    coming-gives = ap paths gives ∙ map-append (λ (m : Member N). m.path) (prefixed path (node_tree meaning problem node)) (to_come meaning problem mid)

    first-is : paths (prefixed path (node_tree meaning problem node)) ≡ path ∷ kids_paths
    first-is = ap (λ ms. paths (prefixed path ms)) (tree-unfolds ranked node task.is_sound) ∙ ap (λ (p : List ℕ). p ∷ kids_paths) (append-nil path)

    pub misses : (other : List ℕ) → path ≢ other → Misses (coming meaning problem old) other
    misses other ne = subst (λ ps. Misses ps other) (sym (coming-gives ∙ ap (λ ps. ps ++ coming meaning problem mid) first-is)) ne

    pub is-more : IsMore (coming meaning problem old)
    is-more = subst IsMore (sym (coming-gives ∙ ap (λ ps. ps ++ coming meaning problem mid) first-is)) tt

    there : (m : Mark) → path ≡ m.path → at_path t m.path ≡ Some node
    there m same = ap (at_path t) (sym same) ∙ task.found

    is_there : (m : Mark) → path ≡ m.path → IsSome (at_path t m.path)
    is_there m same = subst IsSome (sym (there m same)) refl

    pub passes-cut : (is_visit : Bool) (place : List ℕ) (value held bound : ℕ) → is_visit ≡ false → path ≡ place → bound ≡ meaning.bound problem node → AllOpen meaning problem mid → Passes meaning problem old (record { path = place; is_visit = is_visit; value = value; held = held }) (nat_eq bound value) mid
    passes-cut true place value held bound e same is open_levels = absurd (cc)
    passes-cut false place value held bound e same is open_levels =
        let m : Mark = record { path = place; is_visit = false; value = value; held = held } in
        record {
          still_open = open_levels;
          coming_is = coming-gives ∙ ap (λ ps. ps ++ coming meaning problem mid) (sym (ap (below_node t path) task.found) ∙ ap (below t) same);
          in_tree = is_there m same;
          valued = value-test (bound_at t place) bound value (ap (option_map t.bound) (there m same) ∙ ap Some (sym is));
        }

    pub passes-visit : (is_visit : Bool) (place : List ℕ) (value held worth : ℕ) (kids : K) (new : List (LevelValue K)) → is_visit ≡ true → path ≡ place → worth ≡ meaning.worth problem node → AllOpen meaning problem mid → meaning.remaining problem kids ≡ meaning.children problem node → new ≡ mid ++ record { parent = path; given = 0; kids = kids } ∷ [] → Passes meaning problem old (record { path = place; is_visit = is_visit; value = value; held = held }) (nat_eq worth value) new
    passes-visit false place value held worth kids new e same is open_levels opened pushed = absurd (cc)
    passes-visit true place value held worth kids new e same is open_levels opened pushed =
        let m : Mark = record { path = place; is_visit = true; value = value; held = held } in
        let grown = ap paths (ap (to_come meaning problem) pushed ∙ push-to_come meaning problem mid path node kids opened) ∙ map-append (λ (u : Member N). u.path) (prefixed path (forest (node_tree meaning problem) 0 (meaning.children problem node))) (to_come meaning problem mid) in
        record {
          still_open = subst (AllOpen meaning problem) (sym pushed) (push-open meaning problem ranked mid path node kids task opened open_levels);
          coming_is = coming-gives ∙ ap (λ ps. ps ++ coming meaning problem mid) first-is ∙ ap₂ (λ (p : List ℕ) (ps : List (List ℕ)). p ∷ ps) same (sym grown);
          in_tree = is_there m same;
          valued = value-test (worth_at t place) worth value (ap (option_map t.worth) (there m same) ∙ ap Some (sym is));
        }

  -- the root's children come behind the root
  pub root-opens : meaning.sound problem (meaning.root problem) → (kids : K) (old new : List (LevelValue K)) (path : List ℕ) → old ≡ [] → path ≡ [] → meaning.remaining problem kids ≡ meaning.children problem (meaning.root problem) → new ≡ old ++ record { parent = path; given = 0; kids = kids } ∷ [] → AllOpen meaning problem new × (tree_paths t ≡ [] ∷ coming meaning problem new)
  root-opens root kids old new path none here opened pushed =
      let level : LevelValue K = record { parent = []; given = 0; kids = kids } in
      let is : new ≡ [] ++ level ∷ [] = pushed ∙ ap₂ (λ (ls : List (LevelValue K)) (p : List ℕ). ls ++ record { parent = p; given = 0; kids = kids } ∷ []) none here in
      let task : IsTask meaning problem [] (meaning.root problem) = record { is_sound = root; found = refl } in
      let forest_of = forest (node_tree meaning problem) 0 (meaning.children problem (meaning.root problem)) in
      let grown : coming meaning problem ([] ++ level ∷ []) ≡ paths (prefixed [] forest_of) = ap paths (push-to_come meaning problem [] [] (meaning.root problem) kids opened ∙ append-nil (prefixed [] forest_of)) in (
        subst (AllOpen meaning problem) (sym is) (push-open meaning problem ranked [] [] (meaning.root problem) kids task opened tt),
        ap (λ ms. paths (prefixed [] ms)) (tree-unfolds ranked (meaning.root problem) root) ∙ ap (λ (ps : List (List ℕ)). [] ∷ ps) (sym (ap (coming meaning problem) is ∙ grown)),
      )

  pub root-worth : (worth value : ℕ) → worth ≡ meaning.worth problem (meaning.root problem) → MatchBool (nat_eq worth value) (worth_at t [] ≡ Some value) (worth_at t [] ≢ Some value)
  root-worth worth value is = value-test (worth_at t []) worth value (ap Some (sym is))
