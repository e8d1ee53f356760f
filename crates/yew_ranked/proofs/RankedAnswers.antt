-- The answer of a search by ranked keys, gathered from all visits: the first best path, by its key.
use Rattle.std.proofs.Common.{◌≡◌, ℕ, zero, suc, ◌/◌, ◌<◌, ◌≤◌, ◌⊎◌, List, [], ◌∷◌, true, false, Option, Some, None, ◌==◌, nat_lt, if◌then◌else◌, refl, ap, sym, subst, ◌∙◌, inl, inr, ⊎_elim, arith}
use Rattle.std.specs.Prelude.{IsTrue, IsSome}
use Rattle.std.specs.List.{AllByRecursion, Contains}
use Rattle.std.proofs.lemmas.Bool.Decides.{nat_tests}
use Rattle.std.proofs.lemmas.List.Elements.{All-contains, All-from_recursion}
use native.Mathlib.Decide.{ℕ_discrete}
use Rattle.yew_laws.specs.Incumbent.{Incumbent, improved}
use Rattle.yew_laws.specs.Tree.{IsRanked, IsBounded}
use Rattle.yew_laws.specs.SearchTree.{SearchTree, preorder}
use Rattle.yew_laws.specs.Greatest.{greatest, first_best, first_with}
use Rattle.yew_laws.specs.Order.{comes_before}
use Rattle.yew_laws.proofs.Members.{AllByRecursion-weaker}
use Rattle.yew_kinds.proofs.Clipping.{first_with-greatest}
use Rattle.yew_log.specs.Items.{ranked_key}
use Rattle.yew_ranked.specs.RankedSearch.{RankedJudgement, key_of_judgement, answer_key_of, ranked_answer, ItemsInOrder, IsRankedSearch, IsFirstAnswer}
use Rattle.yew_ranked.proofs.PathOrder.{before-not_itself, before-not_both}
use Rattle.yew_ranked.proofs.FirstBestVisits.{visit-at_most, first-best-visit}

improved-kept : (incumbent : Incumbent) (key : ℕ) (path : List ℕ) → key ≤ incumbent.worth → improved incumbent key path ≡ incumbent
improved-kept incumbent key path small = grind (arith, nat_tests)

improved-taken : (incumbent : Incumbent) (key : ℕ) (path : List ℕ) → incumbent.worth < key → improved incumbent key path ≡ record { worth = key; path = Some path }
improved-taken incumbent key path more = grind (arith, nat_tests)

-- visits of no greater key leave the answer
answer-kept : (incumbent : Incumbent) (vs : List RankedJudgement) → AllByRecursion (λ (v : RankedJudgement). answer_key_of v ≤ incumbent.worth) vs → ranked_answer incumbent vs ≡ incumbent
answer-kept incumbent [] a = refl
answer-kept incumbent (v ∷ vs) a = ap (λ i. ranked_answer i vs) (improved-kept incumbent (answer_key_of v) v.path a.0) ∙ answer-kept incumbent vs a.1

-- the first visit of the greatest key, with this path
FirstOfKey : ℕ → List ℕ → List RankedJudgement → Type 0
FirstOfKey key path [] = ⊥
FirstOfKey key path (v ∷ vs) = ((answer_key_of v ≡ key) × (v.path ≡ path) × AllByRecursion (λ (u : RankedJudgement). answer_key_of u ≤ key) vs) ⊎ ((answer_key_of v < key) × FirstOfKey key path vs)

improved-below : (incumbent : Incumbent) (key bound : ℕ) (path : List ℕ) → incumbent.worth < bound → key < bound → (improved incumbent key path).worth < bound
improved-below incumbent key bound path a b =
    elim (nat_lt incumbent.worth key) as (λ v. (if v then record { worth = key; path = Some path } else incumbent).worth < bound) [ true ↦ b | false ↦ a ]

answer-first : (incumbent : Incumbent) (key : ℕ) (path : List ℕ) (vs : List RankedJudgement) → incumbent.worth < key → FirstOfKey key path vs → ranked_answer incumbent vs ≡ record { worth = key; path = Some path }
unfolding FirstOfKey
answer-first incumbent key path [] less first = absurd first
answer-first incumbent key path (v ∷ vs) less (inl here) =
    ap (λ i. ranked_answer i vs) (improved-taken incumbent (answer_key_of v) v.path (let e = here.0 in omega (arith, e, less)))
    ∙ (answer-kept (record { worth = answer_key_of v; path = Some v.path }) vs (AllByRecursion-weaker (λ (u : RankedJudgement). answer_key_of u ≤ key) (λ (u : RankedJudgement). answer_key_of u ≤ answer_key_of v) (λ u h. let e = here.0 in omega (arith, e, h)) vs here.2)
    ∙ (ap (λ (k : ℕ). record { worth = k; path = Some v.path }) here.0 ∙ ap (λ (p : List ℕ). record { worth = key; path = Some p }) here.1))
answer-first incumbent key path (v ∷ vs) less (inr there) =
    answer-first (improved incumbent (answer_key_of v) v.path) key path vs (improved-below incumbent (answer_key_of v) key v.path less there.0) there.1

-- the key of an answer is at most the key
answer_key-at_most : (v : RankedJudgement) → answer_key_of v ≤ key_of_judgement v
answer_key-at_most v = elim (v.value == 0) as (λ b. (if b then 0 else key_of_judgement v) ≤ key_of_judgement v) [ true ↦ omega arith | false ↦ omega arith ]

answer_key-some : (v : RankedJudgement) → 0 < v.value → answer_key_of v ≡ key_of_judgement v
answer_key-some v some = by v.value some
  where
    by : (n : ℕ) → 0 < n → (if n == 0 then 0 else key_of_judgement v) ≡ key_of_judgement v
    by n some = grind (arith, nat_tests)

answer_key-none : (v : RankedJudgement) → v.value ≡ 0 → answer_key_of v ≡ 0
answer_key-none v none = by v.value none
  where
    by : (n : ℕ) → n ≡ 0 → (if n == 0 then 0 else key_of_judgement v) ≡ 0
    by n none = grind (arith, nat_tests)

-- what is known of each visit, by the one of the greatest key
abbrev AtMost : ℕ → List RankedJudgement → Type 0
AtMost key vs = AllByRecursion (λ (u : RankedJudgement). key_of_judgement u ≤ key) vs

abbrev OfKey : ℕ → ℕ → List ℕ → List RankedJudgement → Type 0
OfKey key item path vs = AllByRecursion (λ (u : RankedJudgement). key_of_judgement u ≡ key → (u.item ≡ item) × ((u.path ≡ path) ⊎ IsTrue (comes_before path u.path))) vs

key-value : (i j a b : ℕ) → ranked_key i a ≡ ranked_key j b → 0 < b → 0 < a
key-value i j a b e some = omega arith

head-or_tail : (v best : RankedJudgement) (vs : List RankedJudgement) → Contains (v ∷ vs) best → (v ≡ best) ⊎ Contains vs best
head-or_tail v best vs (zero, less, e) = inl e
head-or_tail v best vs (suc k, less, e) = inr (k, omega arith, e)

all-at : {X : Type 0} (P : X → Type 0) (xs : List X) (x : X) → AllByRecursion P xs → Contains xs x → P x
all-at P xs x a c = All-contains P xs x (All-from_recursion P xs a) c

-- a visit of the greatest key that comes first in the list stands at the best path
head-path : (v best : RankedJudgement) (vs : List RankedJudgement) → Contains (v ∷ vs) best → AllByRecursion (λ (u : RankedJudgement). v.item ≡ u.item → IsTrue (comes_before v.path u.path)) vs
    → (v.item ≡ best.item) × ((v.path ≡ best.path) ⊎ IsTrue (comes_before best.path v.path)) → v.path ≡ best.path
head-path v best vs there order (item, from) = ⊎_elim (λ e. e) (λ later. absurd (by later (head-or_tail v best vs there))) from
  where
    by : IsTrue (comes_before best.path v.path) → (v ≡ best) ⊎ Contains vs best → ⊥
    by later (inl same) = before-not_itself best.path (subst (λ (u : RankedJudgement). IsTrue (comes_before best.path u.path)) same later)
    by later (inr rest) = before-not_both best.path v.path later (all-at (λ (u : RankedJudgement). v.item ≡ u.item → IsTrue (comes_before v.path u.path)) vs best order rest item)

first-of_key : (best : RankedJudgement) (vs : List RankedJudgement) → Contains vs best → 0 < best.value → ItemsInOrder vs → AtMost (key_of_judgement best) vs → OfKey (key_of_judgement best) best.item best.path vs → FirstOfKey (key_of_judgement best) best.path vs
unfolding FirstOfKey
first-of_key best [] there some order most of = absurd (omega (arith, there.1))
first-of_key best (v ∷ vs) there some order most of =
    elim (ℕ_discrete (key_of_judgement v) (key_of_judgement best)) [
      | yes same ↦ inl (
        answer_key-some v (key-value v.item best.item v.value best.value same some) ∙ same,
        head-path v best vs there order.0 (of.0 same),
        AllByRecursion-weaker (λ (u : RankedJudgement). key_of_judgement u ≤ key_of_judgement best) (λ (u : RankedJudgement). answer_key_of u ≤ key_of_judgement best) (λ u h. let a = answer_key-at_most u in omega (arith, a, h)) vs most.1,
      )
      | no other ↦ inr (
        (let a = answer_key-at_most v in less (answer_key_of v) (key_of_judgement v) (key_of_judgement best) a most.0 other),
        first-of_key best vs (⊎_elim (λ (e : v ≡ best). absurd (other (ap key_of_judgement e))) (λ rest. rest) (head-or_tail v best vs there)) some order.1 most.1 of.1,
      )
    ]
  where
    less : (a b c : ℕ) → a ≤ b → b ≤ c → (b ≡ c → ⊥) → a < c
    less a b c le le' other = grind arith

module _ {N : Type 0} (t : SearchTree N) {sound : N → Type 0} (ranked : IsRanked sound t.children t.rank) (root : sound t.root) (bounded : IsBounded sound t.children t.worth t.bound)
    {visits cuts : List RankedJudgement} (is : IsRankedSearch t visits cuts) (order : ItemsInOrder visits) where
  -- where the greatest worth is 0, there is no answer
  answer-none : greatest t ≡ 0 → ranked_answer (record { worth = 0; path = None }) visits ≡ record { worth = 0; path = None }
  answer-none is_zero =
      answer-kept (record { worth = 0; path = None }) visits
      (AllByRecursion-weaker (Contains visits) (λ (v : RankedJudgement). answer_key_of v ≤ 0)
      (λ v a. let le = visit-at_most t ranked root bounded is v a in let e = answer_key-none v (omega arith) in omega (arith, e)) visits (all-in visits))
    where
      all-in : {X : Type 0} (xs : List X) → AllByRecursion (Contains xs) xs
      all-in [] = tt
      all-in {X} (x ∷ xs) = ((0, omega arith, refl), AllByRecursion-weaker (Contains xs) (Contains (x ∷ xs)) (λ y a. (suc a.0, omega (arith, a.1), a.2)) xs (all-in xs))

  -- and else it is the first best path
  answer-some : (first : List ℕ) → first_best t ≡ Some first → 0 < greatest t → IsFirstAnswer t (ranked_answer (record { worth = 0; path = None }) visits)
  answer-some first best some =
      let found = first-best-visit t ranked root bounded is first best in
      let v = found.visit in
      let few = all-at (λ (u : RankedJudgement). u.item < 1048576) visits v is.visit_items found.among in
      let value : 0 < v.value = (let e = found.worth_is in omega arith) in
      let key : 0 < key_of_judgement v = omega arith in
      let of : OfKey (key_of_judgement v) v.item v.path visits = subst (λ (p : List ℕ). OfKey (key_of_judgement v) v.item p visits) (sym found.path_is) found.first_of_key in
      let answer : ranked_answer (record { worth = 0; path = None }) visits ≡ record { worth = key_of_judgement v; path = Some v.path } =
      answer-first (record { worth = 0; path = None }) (key_of_judgement v) v.path visits key (first-of_key v visits found.among value order found.greatest_key of) in
      subst (IsFirstAnswer t) (sym answer) record {
        path_is = ap (λ (p : List ℕ). Some p) found.path_is ∙ sym best;
        worth_is = whole v.item v.value ∙ found.worth_is;
      }
    where
      whole : (item value : ℕ) → ranked_key item value / 1048576 ≡ value
      whole item value = omega arith

  pub answer-is_first : IsFirstAnswer t (ranked_answer (record { worth = 0; path = None }) visits)
  answer-is_first = by (greatest t) refl
    where
      by : (g : ℕ) → greatest t ≡ g → IsFirstAnswer t (ranked_answer (record { worth = 0; path = None }) visits)
      by zero e = subst (IsFirstAnswer t) (sym (answer-none e)) record {
        path_is = sym (absent (greatest t) (first_with t.worth (greatest t) (preorder t)) e);
        worth_is = sym e;
      }
        where
          absent : (g : ℕ) (o : Option (List ℕ)) → g ≡ 0 → (if g == 0 then None else o) ≡ None
          absent g o e = grind (arith, nat_tests)
      by (suc g) e = with_path (first_with t.worth (greatest t) (preorder t)) (first_with-greatest t.worth (greatest t) (preorder t) refl some) refl
        where
          some : 0 < greatest t
          some = omega arith

          there : (g : ℕ) (o : Option (List ℕ)) → 0 < g → (if g == 0 then None else o) ≡ o
          there g o some = grind (arith, nat_tests)

          with_path : (o : Option (List ℕ)) → IsSome o → first_with t.worth (greatest t) (preorder t) ≡ o → IsFirstAnswer t (ranked_answer (record { worth = 0; path = None }) visits)
          with_path None h is = absurd (no h)
            where
              no : IsSome {T = List ℕ} None → ⊥
              no h = cc
          with_path (Some first) h is = answer-some first (there (greatest t) (first_with t.worth (greatest t) (preorder t)) some ∙ is) some
