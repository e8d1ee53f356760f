-- The one log of a sequential search is the logs of a whole search, and it fits where the tree is not large.
use Rattle.std.proofs.Common.{◌≡◌, ◌≢◌, ℕ, zero, suc, ◌+◌, ◌*◌, ◌≤◌, ◌<◌, inl, inr, List, [], ◌∷◌, ◌++◌, max, length, drop, Bool, true, false, Option, Some, None, ◌==◌, nat_le, if◌then◌else◌, refl, ap, sym, subst, ◌∙◌, append-nil, arith}
use Rattle.std.specs.Prelude.{IfSome, Contains, option_and_then}
use Rattle.std.specs.List.{AllByRecursion, flat_map, sum_by}
use Rattle.std.proofs.lemmas.Option.{same_Some}
use Rattle.std.proofs.lemmas.List.Elements.{Contains-append_right}
use Rattle.std.proofs.lemmas.Bool.Decides.{nat_tests}
use Rattle.std.proofs.lemmas.List.Sums.{sum_by-append, sum_by-cons}
use Rattle.yew_laws.specs.Bag.{SameBag}
use Rattle.yew_laws.specs.Cover.{Cover}
use Rattle.yew_laws.specs.SearchTree.{SearchTree, at_path, below, numbered, tree_paths}
use Rattle.yew_laws.specs.Tree.{IsRanked}
use Rattle.yew_laws.proofs.Bags.{same-is}
use Rattle.yew_laws.proofs.Below.{below-unfolds, child-at}
use Rattle.yew_laws.proofs.Members.{AllByRecursion-weaker, Contains-head}
use Rattle.yew_laws.proofs.Steps.{drop_from_drop}
use Rattle.yew_log.specs.Attained.{Attained, limit}
use Rattle.yew_log.specs.AuditFull.{IsLarge, MeetsLimits}
use Rattle.yew_log.specs.Groups.{sequential}
use Rattle.yew_log.specs.Items.{in_turn}
use Rattle.yew_log.specs.Notes.{Note, taken, visited, cut, ended, Judgement, path_of, visits, cuts, taken_paths, sent_paths, visited_paths, cut_paths}
use Rattle.yew_log.specs.SeqLog.{visited_worth, visit_notes, seq_log}
use Rattle.yew_log.specs.WholeSearch.{AreLogs, IsBestVisit, IsFirstBest, joined}
use Rattle.yew_log.proofs.SeqLaws.{Part, visit-part}
use Rattle.yew_log.proofs.SeqLawful.{seq_log-lawful}
use Rattle.yew_walk.proofs.FirstFinds.{Cover-seq_log, Attained-seq_log}
use Rattle.yew_walk.specs.FirstFound.{first_visit, found_worth, found_path}
use Rattle.yew_app.specs.Texts.{first_node}

-- the first of these visits that has this worth stands at this path
record IsFirstOf (worth : ℕ) (vs : List Judgement) (path : List ℕ) : Type 0 where
  pub before : List Judgement
  pub visit : Judgement
  pub after : List Judgement
  pub stands : vs ≡ before ++ visit ∷ after
  pub path_is : path ≡ visit.path
  pub value_is : visit.value ≡ worth
  pub others : AllByRecursion (λ (u : Judgement). u.value ≢ visit.value) before

first_visit-stands : (worth : ℕ) (vs : List Judgement) (path : List ℕ) → first_visit worth vs ≡ Some path → IsFirstOf worth vs path
first_visit-stands worth [] path e = absurd (cc)
first_visit-stands worth (v ∷ vs) path e = by (v.value == worth) refl (first_visit-stands worth vs path) e
  where
    by : (b : Bool) → (v.value == worth) ≡ b → (first_visit worth vs ≡ Some path → IsFirstOf worth vs path) → (if b then Some v.path else first_visit worth vs) ≡ Some path → IsFirstOf worth (v ∷ vs) path
    by true x stands f =
        let value : v.value ≡ worth = grind (arith, nat_tests) in
        record { before = []; visit = v; after = vs; stands = refl; path_is = same_Some path v.path (sym f); value_is = value; others = tt }
    by false x stands f =
        let other : v.value ≢ worth = grind (arith, nat_tests) in
        let rest = stands f in
        record {
          before = v ∷ rest.before;
          visit = rest.visit;
          after = rest.after;
          stands = ap (λ us. v ∷ us) rest.stands;
          path_is = rest.path_is;
          value_is = rest.value_is;
          others = (λ same. other (same ∙ rest.value_is), rest.others);
        }

module _ {N : Type 0} (t : SearchTree N) (gap : ℕ) where
  -- the node at the path of a first visit of the greatest worth
  abbrev pub FirstBest : Option N → Type 0
  FirstBest found = IfSome found (IsFirstBest t (seq_log t gap))

  node-first : (path : List ℕ) → IsFirstOf (found_worth t gap) (visits (seq_log t gap)) path → (found : Option N) → at_path t path ≡ found → FirstBest found
  node-first path f None e = tt
  node-first path f (Some n) e = record {
    before = f.before;
    visit = f.visit;
    after = f.after;
    stands = f.stands;
    node_there = subst (λ (p : List ℕ). at_path t p ≡ Some n) f.path_is e;
    greatest = f.value_is;
    first = f.others;
  }

  found-stands : (path : List ℕ) → found_path t gap ≡ Some path → IsFirstOf (found_worth t gap) (visits (seq_log t gap)) path
  found-stands path = by (found_worth t gap == 0)
    where
      by : (b : Bool) → (if b then None else first_visit (found_worth t gap) (visits (seq_log t gap))) ≡ Some path → IsFirstOf (found_worth t gap) (visits (seq_log t gap)) path
      by true e = absurd (cc)
      by false e = first_visit-stands (found_worth t gap) (visits (seq_log t gap)) path e

  -- the node that one worker finds stands at the first visit of the greatest worth
  pub first_node-first : FirstBest (first_node t gap)
  first_node-first = by (found_path t gap) refl
    where
      by : (found : Option (List ℕ)) → found_path t gap ≡ found → FirstBest (option_and_then (λ path. at_path t path) found)
      by None e = tt
      by (Some path) e = node-first path (found-stands path e) (at_path t path) refl

  -- which is a visit of the greatest worth
  first-visit : (found : Option N) → FirstBest found → IfSome found (IsBestVisit t (seq_log t gap))
  first-visit None f = tt
  first-visit (Some n) f = record {
    visit = f.visit;
    visited = subst (λ us. Contains us f.visit) (sym f.stands) (Contains-append_right f.before (f.visit ∷ f.after) f.visit (Contains-head f.visit f.after));
    node_there = f.node_there;
    greatest = f.greatest;
  }

  module _ {sound : N → Type 0} (ranked : IsRanked sound t.children t.rank) (root : sound t.root) where
    -- what holds of the entries behind the Taken entry
    body-part : Part t gap [] 0 (visit_notes t gap (t.rank t.root) [] t.root 0)
    body-part = visit-part t gap ranked (t.rank t.root) [] t.root 0 refl root (omega arith) (λ ne. absurd (ne refl))

    seq_log-tasks : SameBag (taken_paths (seq_log t gap)) ([] ∷ sent_paths (seq_log t gap))
    seq_log-tasks = same-is (ap (λ (ps : List (List ℕ)). [] ∷ ps) (body-part.is_made.untaken ∙ sym body-part.is_made.unsent))

    -- the one sequential log is the logs of a whole search
    pub seq_log-are_logs : AreLogs t gap sequential 1 (seq_log t gap ∷ []) (first_node t gap)
    seq_log-are_logs =
        let is : seq_log t gap ≡ joined (seq_log t gap ∷ []) = sym (append-nil (seq_log t gap)) in
        record {
          one_each = refl;
          lawful = (seq_log-lawful t gap ranked root, tt);
          tasks = subst (λ ns. SameBag (taken_paths ns) ([] ∷ sent_paths ns)) is seq_log-tasks;
          cover = subst (λ ns. Cover t (visited_paths ns) (cut_paths ns)) is (Cover-seq_log t ranked root gap);
          attained = subst (λ ns. Attained t gap (visits ns) (cuts ns)) is (Attained-seq_log t ranked root gap);
          best = subst (λ ns. IfSome (first_node t gap) (IsBestVisit t ns)) is (first-visit (first_node t gap) first_node-first);
        }

-- what the paths of these entries weigh together
abbrev total : (List ℕ → ℕ) → List Note → ℕ
total w notes = sum_by (λ note. w (path_of note)) notes

pub total-ones : {X : Type 0} (xs : List X) → sum_by (λ x. 1) xs ≡ length xs
total-ones [] = refl
total-ones (x ∷ xs) = let a = sum_by-cons (λ y. 1) x xs in let r = total-ones xs in a ∙ omega arith

module _ {N : Type 0} (t : SearchTree N) {sound : N → Type 0} (ranked : IsRanked sound t.children t.rank) (gap : ℕ) (w : List ℕ → ℕ) where
  -- the paths at and below a node weigh what its path and those below its children weigh
  below-weighs : (path : List ℕ) (n : N) → at_path t path ≡ Some n → sound n → sum_by w (below t path) ≡ w path + sum_by w (flat_map (below t) (numbered path 0 (t.children n)))
  below-weighs path n e s = ap (sum_by w) (below-unfolds t ranked path n e s) ∙ sum_by-cons w path (flat_map (below t) (numbered path 0 (t.children n)))

  -- a node whose children's entries stand inside
  closed-weighs : (path : List ℕ) (n : N) (worth held : ℕ) (inside : List Note) → at_path t path ≡ Some n → sound n → total w inside ≤ 2 * sum_by w (flat_map (below t) (numbered path 0 (t.children n))) → total w (visited path worth held ∷ inside ++ ended path ∷ []) ≤ 2 * sum_by w (below t path)
  closed-weighs path n worth held inside e s le =
      let a = sum_by-cons (λ note. w (path_of note)) (visited path worth held) (inside ++ ended path ∷ []) in
      let b = sum_by-append (λ note. w (path_of note)) inside (ended path ∷ []) in
      let c = sum_by-cons (λ note. w (path_of note)) (ended path) [] in
      let d = below-weighs path n e s in
      omega (arith, a, b, c, d, le)

  cut-weighs : (path : List ℕ) (n : N) (bound held : ℕ) → at_path t path ≡ Some n → sound n → total w (cut path bound held ∷ []) ≤ 2 * sum_by w (below t path)
  cut-weighs path n bound held e s =
      let c = sum_by-cons (λ note. w (path_of note)) (cut path bound held) [] in
      let d = below-weighs path n e s in
      omega (arith, c, d)

  module _ (levels : ℕ) (made : List ℕ → N → ℕ → List Note) (each : (path : List ℕ) (c : N) (held : ℕ) → at_path t path ≡ Some c → sound c → t.rank c ≤ levels → total w (made path c held) ≤ 2 * sum_by w (below t path)) where
    in_turn-weighs : (path : List ℕ) (n : N) → at_path t path ≡ Some n → (k : ℕ) (cs : List N) (held : ℕ) → drop k (t.children n) ≡ cs → AllByRecursion sound cs → AllByRecursion (λ c. t.rank c ≤ levels) cs → total w (in_turn visited_worth made path k cs held) ≤ 2 * sum_by w (flat_map (below t) (numbered path k cs))
    in_turn-weighs path n e k [] held d s r = omega arith
    in_turn-weighs path n e k (c ∷ cs) held d s r =
        let first = made (path ++ k ∷ []) c held in
        let others = in_turn visited_worth made path (suc k) cs (max held (visited_worth first)) in
        let here = each (path ++ k ∷ []) c held (child-at t path n e k c cs d) s.0 r.0 in
        let rest = in_turn-weighs path n e (suc k) cs (max held (visited_worth first)) (drop_from_drop (t.children n) k c cs d) s.1 r.1 in
        let a = sum_by-append (λ note. w (path_of note)) first others in
        let b = sum_by-append w (below t (path ++ k ∷ [])) (flat_map (below t) (numbered path (suc k) cs)) in
        omega (arith, here, rest, a, b)

  -- a child, which is cut or visited
  child-weighs : (levels : ℕ) → ((path : List ℕ) (n : N) (held : ℕ) → at_path t path ≡ Some n → sound n → t.rank n ≤ levels → total w (visit_notes t gap levels path n held) ≤ 2 * sum_by w (below t path)) → (p : List ℕ) (c : N) (h : ℕ) → at_path t p ≡ Some c → sound c → t.rank c ≤ levels → total w (if nat_le (t.bound c) (limit gap h) then cut p (t.bound c) h ∷ [] else visit_notes t gap levels p c h) ≤ 2 * sum_by w (below t p)
  child-weighs levels visit p c h e s r =
      elim (nat_le (t.bound c) (limit gap h)) as (λ b. total w (if b then cut p (t.bound c) h ∷ [] else visit_notes t gap levels p c h) ≤ 2 * sum_by w (below t p)) [
        | true ↦ cut-weighs p c (t.bound c) h e s
        | false ↦ visit p c h e s r
      ]

  -- of each path at or below a node there are at most two entries
  visit_notes-weighs : (levels : ℕ) (path : List ℕ) (n : N) (held : ℕ) → at_path t path ≡ Some n → sound n → t.rank n ≤ levels → total w (visit_notes t gap levels path n held) ≤ 2 * sum_by w (below t path)
  visit_notes-weighs zero path n held e s low = closed-weighs path n (t.worth n) held [] e s (omega arith)
  visit_notes-weighs (suc levels) path n held e s low =
      let made : List ℕ → N → ℕ → List Note = λ p c h. if nat_le (t.bound c) (limit gap h) then cut p (t.bound c) h ∷ [] else visit_notes t gap levels p c h in
      closed-weighs path n (t.worth n) held (in_turn visited_worth made path 0 (t.children n) (max held (t.worth n))) e s
      (in_turn-weighs levels made (child-weighs levels (visit_notes-weighs levels)) path n e 0 (t.children n) (max held (t.worth n)) refl (ranked.stays_sound n s)
      (AllByRecursion-weaker (λ c. t.rank c < t.rank n) (λ c. t.rank c ≤ levels) (λ c l. omega (arith, l, low)) (t.children n) (ranked.rank_falls n s)))

  -- however paths are weighed, the one log weighs at most three times what the tree weighs
  seq_log-weighs : sound t.root → total w (seq_log t gap) ≤ 3 * sum_by w (tree_paths t)
  seq_log-weighs root =
      let a = sum_by-cons (λ note. w (path_of note)) (taken []) (visit_notes t gap (t.rank t.root) [] t.root 0) in
      let b = visit_notes-weighs (t.rank t.root) [] t.root 0 refl root (omega arith) in
      let c = below-weighs [] t.root refl root in
      omega (arith, a, b, c)

-- a log that is past the limits of an audit is that of a large tree
pub meets-large : {N : Type 0} (t : SearchTree N) (gap : ℕ) {sound : N → Type 0} → IsRanked sound t.children t.rank → sound t.root → MeetsLimits (seq_log t gap) → IsLarge t
meets-large t gap ranked root (inl more) =
    let weighs = seq_log-weighs t ranked gap (λ path. 1) root in
    let entries = total-ones (seq_log t gap) in
    let nodes = total-ones (tree_paths t) in
    inl (omega (arith, weighs, entries, nodes, more))
meets-large t gap ranked root (inr more) =
    let weighs = seq_log-weighs t ranked gap (λ path. length path) root in
    inr (omega (arith, weighs, more))
