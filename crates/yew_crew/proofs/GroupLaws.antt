-- The equations of groups: two groups keep them as one, so all groups of a list do, and once nothing is left they give the cover of the tree and the cause of each cut.
use Rattle.std.proofs.Common.{◌≡◌, ◌≢◌, ℕ, ◌≤◌, ◌⊎◌, List, [], ◌∷◌, ◌++◌, ◌∙◌, length, Some, refl, sym, ap, ap₂, arith, zero, suc, ⊎_elim, ◌<◌}
use Rattle.std.specs.List.{AllByRecursion, Contains, flat_map, sum_by}
use Rattle.std.proofs.lemmas.List.{map-append, length-append}
use Rattle.std.proofs.lemmas.List.Sums.{sum_by-append, sum_by-cons, get_or-le-sum_by}
use Rattle.std.proofs.lemmas.List.Concat.{flat_map-append}
use Rattle.yew_laws.specs.Bag.{SameBag}
use Rattle.yew_laws.specs.Cover.{Cover}
use Rattle.yew_laws.specs.Fold.{IsTally, of_member}
use Rattle.yew_laws.specs.Order.{only, is_path}
use Rattle.yew_laws.specs.SearchTree.{SearchTree, at_path, worth_at, bound_at, below}
use Rattle.yew_laws.proofs.Bags.{same-sym, same-trans, same-is, same-append, same-map, same-flat_map, same-part, part-append, none-weighs, sum_by-flat_map, only-itself}
use Rattle.yew_laws.proofs.Covering.{cover-from_tasks}
use Rattle.yew_laws.proofs.Folds.{fold-append}
use Rattle.yew_laws.proofs.Members.{AllByRecursion-append, AllByRecursion-map, AllByRecursion-weaker}
use Rattle.yew_laws.proofs.PathTests.{is_path-same, is_path-is}
use Rattle.yew_laws.proofs.Weights.{contains-weighs}
use Rattle.yew_log.specs.Attained.{Attained, limit}
use Rattle.yew_log.proofs.CausesOfCuts.{attained-from_seats}
use Rattle.yew_log.specs.Notes.{Judgement, paths}
use Rattle.yew_crew.specs.Groups.{Group, taken, sent, judgements, idle, together, all_together, IsBalanced, IsClosed, IsRest}

-- two lists of two parts each, as a bag: the first parts and the second parts change places
pub same-deals : {X : Type 0} (us bs cs ds : List X) → SameBag ((us ++ bs) ++ (cs ++ ds)) ((us ++ cs) ++ (bs ++ ds))
same-deals us bs cs ds = record {
  weighs = λ h.
      let a = sum_by-append h (us ++ bs) (cs ++ ds) in let b = sum_by-append h us bs in let c = sum_by-append h cs ds in
      let d = sum_by-append h (us ++ cs) (bs ++ ds) in let e = sum_by-append h us cs in let f = sum_by-append h bs ds in omega arith;
}

-- what two groups cover together
covered-together : {N : Type 0} (t : SearchTree N) (vs ws cs ds put put' given given' : List (List ℕ))
    → SameBag ((vs ++ ws) ++ flat_map (below t) ((cs ++ ds) ++ ((put ++ put') ++ (given ++ given')))) ((vs ++ flat_map (below t) (cs ++ (put ++ given))) ++ (ws ++ flat_map (below t) (ds ++ (put' ++ given'))))
covered-together t vs ws cs ds put put' given given' =
    let B : List (List ℕ) → List (List ℕ) = λ ps. flat_map (below t) ps in
    let inside : SameBag ((cs ++ ds) ++ ((put ++ put') ++ (given ++ given'))) ((cs ++ (put ++ given)) ++ (ds ++ (put' ++ given'))) =
    same-trans (same-append (same-is {xs = cs ++ ds} refl) (same-deals put put' given given')) (same-deals cs ds (put ++ given) (put' ++ given')) in
    let below_ones : SameBag (B ((cs ++ ds) ++ ((put ++ put') ++ (given ++ given')))) (B (cs ++ (put ++ given)) ++ B (ds ++ (put' ++ given'))) =
    same-trans (same-flat_map (below t) inside) (same-is (flat_map-append (below t) (cs ++ (put ++ given)) (ds ++ (put' ++ given')))) in
    same-trans (same-append (same-is {xs = vs ++ ws} refl) below_ones) (same-deals vs ws (B (cs ++ (put ++ given))) (B (ds ++ (put' ++ given'))))

module _ {N S : Type 0} (t : SearchTree N) (gap : ℕ) {fits : S → Type 0} (join : S → S → S) (none : S) (tally : IsTally fits join none) (of : N → ℕ → S) (of_fits : (n : N) (depth : ℕ) → fits (of n depth)) where
  -- a group that has done nothing keeps the equations
  pub idle-balanced : IsBalanced t gap join none of (idle none)
  idle-balanced = record {
    covered = record { weighs = λ h. refl };
    walked = record { weighs = λ h. omega arith };
    worths = tt;
    bounds = tt;
    permitted = tt;
    inner = tt;
    made_are = refl;
    ended_are = refl;
    offered_are = record { weighs = λ h. refl };
    read_are = record { weighs = λ h. refl };
    nodes = tt;
    visited_are = refl;
    sum_is = refl;
  }

  -- two groups that keep the equations keep them together
  pub balanced-together : (g h : Group N S) → IsBalanced t gap join none of g → IsBalanced t gap join none of h
      → IsBalanced t gap join none of (together join g h)
  balanced-together g h a b = record {
    covered =
        let vs : paths (g.visits ++ h.visits) ≡ paths g.visits ++ paths h.visits = map-append (λ (j : Judgement). j.path) g.visits h.visits in
        let cs : paths (g.cuts ++ h.cuts) ≡ paths g.cuts ++ paths h.cuts = map-append (λ (j : Judgement). j.path) g.cuts h.cuts in
        same-trans (same-is (ap₂ (λ ps qs. ps ++ flat_map (below t) (qs ++ ((g.put ++ h.put) ++ (g.given ++ h.given)))) vs cs))
        (same-trans (covered-together t (paths g.visits) (paths h.visits) (paths g.cuts) (paths h.cuts) g.put h.put g.given h.given)
        (same-trans (same-append a.covered b.covered)
        (same-trans (same-is (sym (flat_map-append (below t) (taken g) (taken h)))) (same-flat_map (below t) (same-deals g.took g.got h.took h.got)))));
    walked =
        let vs : paths (g.visits ++ h.visits) ≡ paths g.visits ++ paths h.visits = map-append (λ (j : Judgement). j.path) g.visits h.visits in
        let cs : paths (g.cuts ++ h.cuts) ≡ paths g.cuts ++ paths h.cuts = map-append (λ (j : Judgement). j.path) g.cuts h.cuts in
        record {
          weighs = λ weight.
              let k = (same-deals g.took h.took g.got h.got).weighs weight in
              let l = (part-append a.walked b.walked).weighs weight in
              let m = (same-deals (paths g.visits) (paths g.cuts) (paths h.visits) (paths h.cuts)).weighs weight in
              let n = ap₂ (λ ps qs. sum_by weight (ps ++ qs)) vs cs in omega arith;
        };
    worths = AllByRecursion-append (λ (v : Judgement). worth_at t v.path ≡ Some v.value) g.visits h.visits a.worths b.worths;
    bounds = AllByRecursion-append (λ (c : Judgement). bound_at t c.path ≡ Some c.value) g.cuts h.cuts a.bounds b.bounds;
    permitted = AllByRecursion-append (λ (c : Judgement). c.value ≤ limit gap c.held) g.cuts h.cuts a.permitted b.permitted;
    inner = AllByRecursion-append (λ (c : Judgement). c.path ≢ []) g.cuts h.cuts a.inner b.inner;
    made_are =
        let k = a.made_are in let l = b.made_are in
        let m = length-append g.put g.given in let n = length-append h.put h.given in
        let o = length-append (g.put ++ h.put) (g.given ++ h.given) in let p = length-append g.put h.put in let q = length-append g.given h.given in omega arith;
    ended_are =
        let k = a.ended_are in let l = b.ended_are in
        let m = length-append g.took g.got in let n = length-append h.took h.got in
        let o = length-append (g.took ++ h.took) (g.got ++ h.got) in let p = length-append g.took h.took in let q = length-append g.got h.got in omega arith;
    offered_are = same-trans (same-append a.offered_are b.offered_are) (same-is (sym (map-append (λ (j : Judgement). j.value) g.visits h.visits)));
    read_are =
        let held : Judgement → ℕ = λ (j : Judgement). j.held in
        same-trans (same-append a.read_are b.read_are)
        (same-trans (same-is (sym (map-append held (judgements g) (judgements h)))) (same-map held (same-deals g.visits g.cuts h.visits h.cuts)));
    nodes = AllByRecursion-append (λ m. at_path t m.path ≡ Some m.node) g.members h.members a.nodes b.nodes;
    visited_are = map-append (λ m. m.path) g.members h.members ∙ (ap₂ ◌++◌ a.visited_are b.visited_are ∙ sym (map-append (λ (j : Judgement). j.path) g.visits h.visits));
    sum_is = ap₂ join a.sum_is b.sum_is ∙ sym (fold-append tally (of_member of) (λ m. of_fits m.node (length m.path)) g.members h.members);
  }

  -- so all groups of a list do
  pub balanced-all : (gs : List (Group N S)) → AllByRecursion (λ g. IsBalanced t gap join none of g) gs
      → IsBalanced t gap join none of (all_together join none gs)
  balanced-all [] each = idle-balanced
  balanced-all (g ∷ gs) each = balanced-together g (all_together join none gs) each.0 (balanced-all gs each.1)

-- nothing more at the end
none_more : {X : Type 0} (xs ys : List X) → ys ≡ [] → xs ≡ xs ++ ys
none_more [] ys e = sym e
none_more (x ∷ xs) ys e = ap (λ zs. x ∷ zs) (none_more xs ys e)

-- a sum in which each member weighs at least 1
weighs-length : (weight : List ℕ → ℕ) (ps : List (List ℕ)) → AllByRecursion (λ p. 0 < weight p) ps → length ps ≤ sum_by weight ps
weighs-length weight [] each = omega arith
weighs-length weight (p ∷ ps) each = let s = sum_by-cons weight p ps in let r = weighs-length weight ps each.1 in let h = each.0 in omega arith

-- where there is none, nothing weighs anything
none-weigh : (weight : List ℕ → ℕ) (ps : List (List ℕ)) → sum_by (λ p. 1) ps ≡ 0 → sum_by weight ps ≡ 0
none-weigh weight [] none = refl
none-weigh weight (p ∷ ps) none = absurd (let s = sum_by-cons (λ (q : List ℕ). 1) p ps in omega arith)

ones : (ps : List (List ℕ)) → sum_by (λ p. 1) ps ≡ length ps
ones [] = refl
ones (p ∷ ps) = let s = sum_by-cons (λ (q : List ℕ). 1) p ps in let r = ones ps in omega arith

not_zero : (n : ℕ) → (n ≡ 0 → ⊥) → 0 < n
not_zero zero f = absurd (f refl)
not_zero (suc n) f = omega arith

module _ {N S : Type 0} (t : SearchTree N) (gap : ℕ) (join : S → S → S) (none : S) (of : N → ℕ → S) where
  -- the crew and the caller together have closed, where the caller walked what the pool and the mailboxes left
  pub closed-with_rest : (crew rest : Group N S) → IsRest crew rest
      → AllByRecursion (λ x. (x ≡ 0) ⊎ Contains (crew.offered ++ rest.offered) x) (crew.read ++ rest.read) → IsClosed (together join crew rest)
  closed-with_rest crew rest left reads = record {
    pool = same-trans left.pool (same-is (ap (λ ps. [] ∷ ps) (none_more crew.put rest.put left.put_none)));
    mail = same-trans left.mail (same-is (none_more crew.given rest.given left.gave_none));
    reads = reads;
  }

  -- the root's task was taken, and is no cut, so the root was visited
  root-visited : (g : Group N S) → IsBalanced t gap join none of g → IsClosed g → Contains (paths g.visits) []
  root-visited g a c =
      let weight : List ℕ → ℕ = only [] in
      let none_cut = none-weighs [] (paths g.cuts) (AllByRecursion-map (λ p. p ≢ []) (λ (j : Judgement). j.path) g.cuts a.inner) in
      let k = a.walked.weighs weight in
      let l = c.pool.weighs weight in
      let m = sum_by-append weight g.took g.got in
      let n = sum_by-append weight (paths g.visits) (paths g.cuts) in
      let o = sum_by-cons weight [] g.put in
      contains-weighs is_path is_path-same is_path-is (paths g.visits) [] (omega arith)

  -- the equations of all workers and the caller give the cover of the tree: what was sent and what was taken cancel
  pub group-covers : (g : Group N S) → IsBalanced t gap join none of g → IsClosed g → Cover t (paths g.visits) (paths g.cuts)
  group-covers g a c = cover-from_tasks t (paths g.visits) (paths g.cuts) (taken g) (sent g) (root-visited g a c) a.covered (same-append c.pool c.mail)

  -- and the cause of each cut: each held value was read from the word, where it was offered by a visit
  pub group-attained : (g : Group N S) → IsBalanced t gap join none of g → IsClosed g → Attained t gap g.visits g.cuts
  group-attained g a c = attained-from_seats t gap g.visits g.cuts g.read g.offered a.worths a.bounds a.permitted c.reads (same-part (same-sym a.read_are)) (same-part a.offered_are)

  -- Where workers took or sent anything, the root's task is not left to the caller. Else all that they took was sent by them, so what they took covers no more than what they sent, and they visited and cut nothing
  pub root-taken : (g : Group N S) (left : List (List ℕ)) → IsBalanced t gap join none of g → SameBag (taken g ++ left) ([] ∷ sent g)
      → AllByRecursion (λ path. 0 < length (below t path)) (taken g ++ sent g) → (0 < g.ended) ⊎ (0 < g.made) → Contains (taken g) []
  root-taken g left a tasks there busy =
      contains-weighs is_path is_path-same is_path-is (taken g) [] (not_zero (sum_by (only []) (taken g)) (λ absent.
      let size : List ℕ → ℕ = λ p. sum_by (λ (q : List ℕ). 1) (below t p) in
      let root_weight = tasks.weighs (only []) in
      let root_split = sum_by-append (only []) (taken g) left in
      let root_sent = sum_by-cons (only []) [] (sent g) in
      let itself = only-itself [] in
      let in_left = contains-weighs is_path is_path-same is_path-is left [] (omega arith) in
      let root_size = get_or-le-sum_by size left in_left.0 [] in_left.1 in
      let root_is = ap size in_left.2 in
      let sizes = tasks.weighs size in
      let sizes_split = sum_by-append size (taken g) left in
      let sizes_sent = sum_by-cons size [] (sent g) in
      let covers = a.covered.weighs (λ (q : List ℕ). 1) in
      let covers_split = sum_by-append (λ (q : List ℕ). 1) (paths g.visits) (flat_map (below t) (paths g.cuts ++ sent g)) in
      let covers_below = sum_by-flat_map (λ (q : List ℕ). 1) (below t) (paths g.cuts ++ sent g) in
      let covers_parts = sum_by-append size (paths g.cuts) (sent g) in
      let taken_below = sum_by-flat_map (λ (q : List ℕ). 1) (below t) (taken g) in
      let none_visited : sum_by (λ (q : List ℕ). 1) (paths g.visits) ≡ 0 = omega arith in
      let no_size = none-weigh size (paths g.visits) none_visited in
      let part = a.walked.weighs size in
      let part_split = sum_by-append size (paths g.visits) (paths g.cuts) in
      let all_sizes = AllByRecursion-weaker (λ p. 0 < length (below t p)) (λ p. 0 < size p) (λ p h. let e = ones (below t p) in omega arith) (taken g ++ sent g) there in
      let count = weighs-length size (taken g ++ sent g) all_sizes in
      let count_split = length-append (taken g) (sent g) in
      let size_split = sum_by-append size (taken g) (sent g) in
      let made_are = a.made_are in
      let ended_are = a.ended_are in
      ⊎_elim (λ (h : 0 < g.ended). absurd (omega arith)) (λ (h : 0 < g.made). absurd (omega arith)) busy))
