-- What the numbers of a report have to do with each other.
use Rattle.std.proofs.Common.{◌≡◌, ℕ, suc, ◌+◌, ◌≤◌, ◌⊎◌, inl, inr, List, [], ◌∷◌, ◌++◌, length, map, Option, Some, None, refl, ap, sym, subst, ◌∙◌, arith, append-nil}
use Rattle.std.specs.Prelude.{Contains}
use Rattle.std.specs.List.{AllByRecursion, flat_map, sum_by}
use Rattle.std.specs.Option.{option_map}
use Rattle.std.proofs.lemmas.List.Elements.{All-contains, All-from_recursion}
use Rattle.std.proofs.lemmas.Option.{same_Some, none-some}
use Rattle.yew_kinds.specs.Wrappers.{counted_tree}
use Rattle.yew_laws.specs.SearchTree.{SearchTree, at_path, below, tree_paths}
use Rattle.yew_log.specs.Attained.{limit}
use Rattle.yew_log.specs.Groups.{Skeleton}
use Rattle.yew_log.specs.Notes.{Note, taken, visited, cut, spawned, handed, ended, Judgement, visits, cuts, values, taken_paths, sent_paths, spawned_paths, handed_paths, visited_paths}
use Rattle.yew_log.specs.Totals.{totals_of}
use Rattle.yew_log.specs.WholeSearch.{AreLogs, joined}
use Rattle.yew_app.proofs.PlainAudits.{total-ones}

-- what is sent is spawned or handed
length-sent : (notes : List Note) → length (sent_paths notes) ≡ length (spawned_paths notes) + length (handed_paths notes)
length-sent [] = refl
length-sent (taken p ∷ ns) = length-sent ns
length-sent (visited p w h ∷ ns) = length-sent ns
length-sent (cut p b h ∷ ns) = length-sent ns
length-sent (ended p ∷ ns) = length-sent ns
length-sent (spawned p ∷ ns) = let rest = length-sent ns in omega (arith, rest)
length-sent (handed p ∷ ns) = let rest = length-sent ns in omega (arith, rest)

-- the root is taken, and each task that is sent
pub taken-sent : {N : Type 0} (t : SearchTree N) (gap : ℕ) (skeleton : Skeleton) (workers : ℕ) (logs : List (List Note)) (solution : Option N) → AreLogs t gap skeleton workers logs solution
    → (totals_of (joined logs)).taken ≡ (totals_of (joined logs)).spawned + (totals_of (joined logs)).handed + 1
taken-sent t gap skeleton workers logs solution are =
    let notes = joined logs in
    let both = are.tasks.weighs (λ path. 1) in
    let ones = total-ones (taken_paths notes) in
    let others = total-ones ([] ∷ sent_paths notes) in
    let sent = length-sent notes in
    omega (arith, both, ones, others, sent)

constant-at : {N : Type 0} (k : ℕ) (found : Option N) (value : ℕ) → option_map (λ n. k) found ≡ Some value → value ≡ k
constant-at k None value e = absurd (none-some value e)
constant-at k (Some n) value e = sym (same_Some k value e)

module _ {N : Type 0} (t : SearchTree N) where
  -- no node that a count visits is an answer
  values-zero : (vs : List Judgement) → AllByRecursion (λ v. option_map (λ n. 0) (at_path t v.path) ≡ Some v.value) vs → AllByRecursion (λ n. n ≡ 0) (values vs)
  values-zero [] all = tt
  values-zero (v ∷ vs) all = (constant-at 0 (at_path t v.path) v.value all.0, values-zero vs all.1)

  held-zero : (vs : List Judgement) → AllByRecursion (λ n. n ≡ 0) (values vs) → (held : ℕ) → (held ≡ 0) ⊎ Contains (values vs) held → held ≡ 0
  held-zero vs zeros held (inl none) = none
  held-zero vs zeros held (inr there) = All-contains (λ n. n ≡ 0) (values vs) held (All-from_recursion (λ n. n ≡ 0) (values vs) zeros) there

  limit-zero : (gap held : ℕ) → held ≡ 0 → limit gap held ≡ 0
  limit-zero gap held none = ap (limit gap) none

  -- so nothing is cut
  no-cuts : (gap : ℕ) (vs cs : List Judgement) → AllByRecursion (λ n. n ≡ 0) (values vs) → AllByRecursion (λ c. option_map (λ n. 1) (at_path t c.path) ≡ Some c.value) cs
      → AllByRecursion (λ c. c.value ≤ limit gap c.held) cs → AllByRecursion (λ j. (j.held ≡ 0) ⊎ Contains (values vs) j.held) cs → cs ≡ []
  no-cuts gap vs [] zeros bounds permitted attained = refl
  no-cuts gap vs (c ∷ cs) zeros bounds permitted attained =
      let bound = constant-at 1 (at_path t c.path) c.value bounds.0 in
      let none = limit-zero gap c.held (held-zero vs zeros c.held attained.0) in
      let under = permitted.0 in
      absurd (omega (arith, bound, none, under))

  behind : (P : Judgement → Type 0) (xs ys : List Judgement) → AllByRecursion P (xs ++ ys) → AllByRecursion P ys
  behind P [] ys all = all
  behind P (x ∷ xs) ys all = behind P xs ys all.1

  length-visited : (vs : List Judgement) → length (map (λ (j : Judgement). j.path) vs) ≡ length vs
  length-visited [] = refl
  length-visited (v ∷ vs) = ap suc (length-visited vs)

  count-cuts : (gap : ℕ) (skeleton : Skeleton) (workers : ℕ) (logs : List (List Note)) (solution : Option N) → AreLogs (counted_tree t) gap skeleton workers logs solution → cuts (joined logs) ≡ []
  count-cuts gap skeleton workers logs solution are =
      let notes = joined logs in
      let a = are.attained in
      no-cuts gap (visits notes) (cuts notes) (values-zero (visits notes) a.worths) a.bounds a.permitted
      (behind (λ j. (j.held ≡ 0) ⊎ Contains (values (visits notes)) j.held) (visits notes) (cuts notes) a.attained)

  -- a count visits each node of the tree and cuts none
  pub count-numbers : (gap : ℕ) (skeleton : Skeleton) (workers : ℕ) (logs : List (List Note)) (solution : Option N) → AreLogs (counted_tree t) gap skeleton workers logs solution
      → ((totals_of (joined logs)).cut ≡ 0) × ((totals_of (joined logs)).visited ≡ length (tree_paths t))
  count-numbers gap skeleton workers logs solution are =
      let notes = joined logs in
      let none = count-cuts gap skeleton workers logs solution are in
      let all : sum_by (λ path. 1) (visited_paths notes ++ []) ≡ sum_by (λ path. 1) (tree_paths t) =
      subst (λ cs. sum_by (λ path. 1) (visited_paths notes ++ flat_map (below (counted_tree t)) (map (λ (j : Judgement). j.path) cs)) ≡ sum_by (λ path. 1) (tree_paths t)) none (are.cover.each_once.weighs (λ path. 1)) in
      let bare = append-nil (visited_paths notes) in
      let ones = total-ones (visited_paths notes) in
      let nodes = total-ones (tree_paths t) in
      let same = length-visited (visits notes) in
      (ap length none, sym same ∙ sym ones ∙ sym (ap (sum_by (λ path. 1)) bare) ∙ all ∙ nodes)
