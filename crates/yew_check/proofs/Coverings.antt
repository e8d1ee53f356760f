-- A walk along visits and cuts, one further, at one that it misses, and at its end.
use Rattle.std.proofs.Common.{◌≡◌, ℕ, ◌+◌, ◌<◌, ◌≤◌, List, [], ◌∷◌, ◌++◌, map, length, take, drop, get_or, Bool, true, false, ◌&&◌, refl, sym, ap, subst, ◌∙◌, append_assoc, append-nil}
use Rattle.std.specs.Prelude.{MatchBool, IsSome}
use Rattle.std.specs.List.{AllByRecursion, flat_map}
use Rattle.std.proofs.lemmas.List.{map-append, take_more, drop_more, take-append-drop, take_all}
use Rattle.std.proofs.lemmas.List.Concat.{flat_map-append}
use Rattle.yew_laws.specs.Bag.{SameBag}
use Rattle.yew_laws.specs.SearchTree.{SearchTree, at_path}
use Rattle.yew_laws.specs.Tree.{IsRanked}
use Rattle.yew_laws.proofs.Bags.{same-refl, same-trans, same-is, same-cancel}
use Rattle.yew_laws.proofs.Members.{AllByRecursion-append}
use Rattle.yew_check.specs.Covering.{Misses, IsMore, AreThere, TellsValues, StandFor}
use Rattle.yew_check.specs.Marks.{Mark, mark_paths, covers, IsValued, Rises}
use Rattle.yew_check.proofs.Least.{missed, left-over}
use Rattle.yew_check.proofs.Rising.{Rises-back}

all-back : {X : Type 0} (P : X → Type 0) (xs ys : List X) → AllByRecursion P (xs ++ ys) → AllByRecursion P ys
all-back P [] ys a = a
all-back P (x ∷ xs) ys a = all-back P xs ys a.1

all-front : {X : Type 0} (P : X → Type 0) (xs ys : List X) → AllByRecursion P (xs ++ ys) → AllByRecursion P xs
all-front P [] ys a = tt
all-front P (x ∷ xs) ys a = (a.0, all-front P xs ys a.1)

module _ {N : Type 0} (t : SearchTree N) where
  abbrev F : List Mark → List (List ℕ)
  F ms = flat_map (covers t) ms

  pub tells-more : (ms : List Mark) (m : Mark) (a b : Bool) → TellsValues t ms a → MatchBool b (IsValued t m) (¬ IsValued t m) → TellsValues t (ms ++ m ∷ []) (a && b)
  tells-more ms m true true h k = AllByRecursion-append (IsValued t) ms (m ∷ []) h (k, tt)
  tells-more ms m true false h k = λ all. k (all-back (IsValued t) ms (m ∷ []) all).0
  tells-more ms m false b h k = λ all. h (all-front (IsValued t) ms (m ∷ []) all)

  module _ {X : Type 0} (f : X → Mark) (xs : List X) (start : List (List ℕ)) (i : ℕ) (coming : List (List ℕ)) (came : start ≡ F (map f (take i xs)) ++ coming) where
    abbrev first : List Mark
    first = map f (take i xs)

    module _ (x : X) (less : i < length xs) (is : x ≡ get_or xs i x) where
      more-marks : map f (take (i + 1) xs) ≡ first ++ f x ∷ []
      more-marks = ap (map f) (take_more xs i x less ∙ ap (λ y. take i xs ++ y ∷ []) (sym is)) ∙ map-append f (take i xs) (x ∷ [])

      pub came-more : (new : List (List ℕ)) → coming ≡ covers t (f x) ++ new → start ≡ F (map f (take (i + 1) xs)) ++ new
      came-more new passes =
          came
          ∙ ap (λ ps. F first ++ ps) passes
          ∙ sym (append_assoc (F first) (covers t (f x)) new)
          ∙ ap (λ ps. ps ++ new) (ap (λ ps. F first ++ ps) (sym (append-nil (covers t (f x)))) ∙ sym (flat_map-append (covers t) first (f x ∷ [])) ∙ ap F (sym more-marks))

      pub there-more : AreThere t first → IsSome (at_path t (f x).path) → AreThere t (map f (take (i + 1) xs))
      there-more all some = subst (AreThere t) (sym more-marks) (AllByRecursion-append (λ (m : Mark). IsSome (at_path t m.path)) first (f x ∷ []) all (some, tt))

      pub values-more : (a b : Bool) → TellsValues t first a → MatchBool b (IsValued t (f x)) (¬ IsValued t (f x)) → TellsValues t (map f (take (i + 1) xs)) (a && b)
      values-more a b h k = subst (λ ms. TellsValues t ms (a && b)) (sym more-marks) (tells-more first (f x) a b h k)

      pub stops-there : {sound : N → Type 0} (ranked : IsRanked sound t.children t.rank) → sound t.root → Misses coming (f x).path → Rises start → Rises (mark_paths (map f xs)) → ¬ StandFor t (map f xs) start
      stops-there ranked root misses up rises whole =
          let rest = f x ∷ map f (drop (i + 1) xs) in
          let parts : map f xs ≡ first ++ rest = ap (map f) (sym (take-append-drop i xs) ∙ ap (λ ys. take i xs ++ ys) (drop_more xs i x less ∙ ap (λ y. y ∷ drop (i + 1) xs) (sym is))) ∙ map-append f (take i xs) (x ∷ drop (i + 1) xs) in
          let bag : SameBag (F first ++ F rest) (F first ++ coming) = same-trans (same-is (sym (ap F parts ∙ flat_map-append (covers t) first rest))) (same-trans whole.same (same-is came)) in
          let left = same-cancel (F first) (F first) (F rest) coming (same-refl (F first)) bag in
          let some = all-back (λ (m : Mark). IsSome (at_path t m.path)) first rest (subst (AreThere t) parts whole.are_there) in
          let on = Rises-back (mark_paths first) (mark_paths rest) (subst Rises (ap mark_paths parts ∙ map-append (λ (m : Mark). m.path) first rest) rises) in
          missed t ranked root (f x) (map f (drop (i + 1) xs)) coming some on (Rises-back (F first) coming (subst Rises came up)) left misses

    module _ (done : length xs ≤ i) where
      all-taken : first ≡ map f xs
      all-taken = ap (map f) (take_all i xs done)

      pub stands-at_end : coming ≡ [] → AreThere t first → StandFor t (map f xs) start
      stands-at_end none some = record {
        are_there = subst (AreThere t) all-taken some;
        same = same-is (sym (came ∙ ap (λ ps. F first ++ ps) none ∙ append-nil (F first) ∙ ap F all-taken));
      }

      pub values-at_end : (fits : Bool) → TellsValues t first fits → TellsValues t (map f xs) fits
      values-at_end fits h = subst (λ ms. TellsValues t ms fits) all-taken h

      more-than_that : (y : List ℕ) (ys : List (List ℕ)) → coming ≡ y ∷ ys → {sound : N → Type 0} (ranked : IsRanked sound t.children t.rank) → sound t.root → ¬ StandFor t (map f xs) start
      more-than_that y ys some ranked root whole =
          let bag : SameBag (F first ++ []) (F first ++ y ∷ ys) = same-trans (same-is (append-nil (F first) ∙ ap F all-taken)) (same-trans whole.same (same-is (came ∙ ap (λ ps. F first ++ ps) some))) in
          left-over t ranked root y ys (same-cancel (F first) (F first) [] (y ∷ ys) (same-refl (F first)) bag)

      pub more-at_end : {sound : N → Type 0} (ranked : IsRanked sound t.children t.rank) → sound t.root → IsMore coming → ¬ StandFor t (map f xs) start
      more-at_end ranked root more = by coming refl more
        where
          by : (ps : List (List ℕ)) → coming ≡ ps → IsMore ps → ¬ StandFor t (map f xs) start
          by [] e h = absurd h
          by (y ∷ ys) e h = more-than_that y ys e ranked root
