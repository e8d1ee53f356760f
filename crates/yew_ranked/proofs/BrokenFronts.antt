-- The first entries of a segment, however many, are a walk that was broken off.
use Rattle.std.proofs.Common.{◌≡◌, ◌≢◌, ℕ, ◌≤◌, List, [], ◌∷◌, ◌++◌, ◌⊎◌, Some, inl, inr, refl, ap, ap₂, sym, subst, ◌∙◌, append-nil, arith}
use Rattle.std.specs.Prelude.{IsSome, IsTrue}
use Rattle.std.specs.List.{AllByRecursion, Contains, flat_map}
use Rattle.std.proofs.lemmas.List.Concat.{flat_map-append}
use Rattle.std.proofs.lemmas.List.Sums.{sum_by-append}
use Rattle.yew_laws.specs.Order.{comes_before, only, occurs}
use Rattle.yew_laws.specs.SearchTree.{SearchTree, at_path, worth_at, bound_at}
use Rattle.yew_laws.proofs.Bags.{part-trans, part-left, same-part, same-sym}
use Rattle.yew_log.specs.Attained.{limit}
use Rattle.yew_log.specs.HeldValues.{KeyKind, HeldRises, HeldIsMaximum, IsLater, IsDue, IsJudged}
use Rattle.yew_log.specs.Lawful.{IsBrokenWalk}
use Rattle.yew_log.specs.Notes.{Note, taken, visited, cut, spawned, handed, ended, Judgement, path_of, paths, values, visits, judgements, maximum}
use Rattle.yew_log.specs.Notes.{visit_in, cut_in, judgement_in, taken_in, sent_in, ended_in, taken_paths, visited_paths, sent_paths, ended_paths}
use Rattle.yew_log.specs.Places.{AtEach}
use Rattle.yew_log.specs.Segment.{segment, Begins, Rise, HasParent, IsOnce, OneOfAKind, IsBroken, covered_paths}
use Rattle.yew_log.proofs.Blocks.{judgement_paths-append}
use Rattle.yew_log.proofs.Growth.{covered_paths-append}

pub all-front : {X : Type 0} (P : X → Type 0) (xs ys : List X) → AllByRecursion P (xs ++ ys) → AllByRecursion P xs
all-front P [] ys a = tt
all-front P (x ∷ xs) ys a = (a.0, all-front P xs ys a.1)

all_flat-front : {X Y : Type 0} (P : Y → Type 0) (f : X → List Y) (xs ys : List X) → AllByRecursion P (flat_map f (xs ++ ys)) → AllByRecursion P (flat_map f xs)
all_flat-front P f xs ys a = all-front P (flat_map f xs) (flat_map f ys) (subst (AllByRecursion P) (flat_map-append f xs ys) a)

-- a fact that does not look at what comes after
pub each-front : {X : Type 0} (P : List X → X → Type 0) (before xs ys : List X) → AtEach (λ b x a. P b x) before (xs ++ ys) → AtEach (λ b x a. P b x) before xs
each-front P before [] ys a = tt
each-front P before (x ∷ xs) ys a = (a.0, each-front P (before ++ x ∷ []) xs ys a.1)

nothing-front : {X : Type 0} (xs ys : List X) → xs ++ ys ≡ [] → xs ≡ []
nothing-front [] ys e = refl
nothing-front (x ∷ xs) ys e = absurd (cc)

once-front : (ps qs rs : List (List ℕ)) → ps ≡ qs ++ rs → IsOnce ps → IsOnce qs
once-front ps qs rs e once path = let a = ap (occurs path) e in let b = sum_by-append (only path) qs rs in let c = once path in omega (arith, a, b, c)

pub kinds-front : (xs ys : List Note) → OneOfAKind (xs ++ ys) → OneOfAKind xs
kinds-front xs ys one = record {
  taken_once = once-front (taken_paths (xs ++ ys)) (taken_paths xs) (taken_paths ys) (flat_map-append taken_in xs ys) one.taken_once;
  judged_once = once-front (paths (judgements (xs ++ ys))) (paths (judgements xs)) (paths (judgements ys)) (judgement_paths-append xs ys) one.judged_once;
  sent_once = once-front (sent_paths (xs ++ ys)) (sent_paths xs) (sent_paths ys) (flat_map-append sent_in xs ys) one.sent_once;
  ended_once = once-front (ended_paths (xs ++ ys)) (ended_paths xs) (ended_paths ys) (flat_map-append ended_in xs ys) one.ended_once;
}

begins-front : (task : List ℕ) (body more : List Note) → (body ++ more ≡ []) ⊎ Begins task (body ++ more) → (body ≡ []) ⊎ Begins task body
begins-front task [] more b = inl refl
begins-front task (note ∷ body) more (inl e) = absurd (cc)
begins-front task (visited p w h ∷ body) more (inr b) = inr b
begins-front task (cut p v h ∷ body) more (inr b) = inr b
begins-front task (taken p ∷ body) more (inr b) = absurd b
begins-front task (spawned p ∷ body) more (inr b) = absurd b
begins-front task (handed p ∷ body) more (inr b) = absurd b
begins-front task (ended p ∷ body) more (inr b) = absurd b

-- rules 7 and 9 of the first entries
pub held_rises-front : (xs ys : List Note) → HeldRises (xs ++ ys) → HeldRises xs
held_rises-front xs ys a = each-front (λ b n. AllByRecursion (IsLater b) (judgement_in n)) [] xs ys a

pub held_is_maximum-front : (xs ys : List Note) → HeldIsMaximum (xs ++ ys) → HeldIsMaximum xs
held_is_maximum-front xs ys a = each-front (λ b n. AllByRecursion (λ (j : Judgement). j.held ≡ maximum (values (visits b))) (judgement_in n)) [] xs ys a

module _ {N : Type 0} (t : SearchTree N) where
  judged-front : (gap : ℕ) (keyed : KeyKind) (xs ys : List Note) → IsJudged t gap keyed (xs ++ ys) → IsJudged t gap keyed xs
  judged-front gap keyed xs ys j = record {
    visits_due = each-front (λ b n. AllByRecursion (λ (v : Judgement). v.path ≢ [] → IsDue t gap keyed b v) (visit_in n)) [] xs ys j.visits_due;
    cuts_below = all_flat-front (λ (c : Judgement). c.path ≢ []) cut_in xs ys j.cuts_below;
    cuts_permitted = all_flat-front (λ (c : Judgement). c.value ≤ limit gap c.held) cut_in xs ys j.cuts_permitted;
  }

  -- the first entries of the body of a segment
  segment-front : (task : List ℕ) (body more : List Note) → IsBroken t (segment task (body ++ more)) → IsBroken t (segment task body)
  segment-front task body more is = record {
    untaken = nothing-front (taken_paths body) (taken_paths more) (sym (flat_map-append taken_in body more) ∙ is.untaken);
    begins = begins-front task body more is.begins;
    rises = each-front (λ b p. AllByRecursion (λ q. IsTrue (comes_before q p)) b) [] (paths (judgements body)) (paths (judgements more)) (subst Rise (judgement_paths-append body more) is.rises);
    parents = each-front (λ b n. AllByRecursion (HasParent task b) (judgement_in n)) [] body more is.parents;
    ends = each-front (λ b n. AllByRecursion (λ p. Contains (visited_paths b) p) (ended_in n)) [] body more is.ends;
    in_tree = all-front (λ note. IsSome (at_path t (path_of note))) (taken task ∷ body) more is.in_tree;
    one_of_a_kind = kinds-front (taken task ∷ body) more is.one_of_a_kind;
    part_covered = part-trans (part-left (covered_paths t body) (covered_paths t more)) (part-trans (same-part (same-sym (covered_paths-append t body more))) is.part_covered);
    valued = record {
      worths = all_flat-front (λ (v : Judgement). worth_at t v.path ≡ Some v.value) visit_in body more is.valued.worths;
      bounds = all_flat-front (λ (c : Judgement). bound_at t c.path ≡ Some c.value) cut_in body more is.valued.bounds;
    };
  }

  -- the first entries of a segment that keeps the rules of one that may have been broken off
  pub walk-front : (gap : ℕ) (keyed : KeyKind) (task : List ℕ) (body : List Note) → IsBroken t (segment task body) → HeldRises (taken task ∷ body) → IsJudged t gap keyed (taken task ∷ body)
      → (notes rest : List Note) → taken task ∷ body ≡ notes ++ rest → IsBrokenWalk t gap keyed task notes
  walk-front gap keyed task body is rises judged [] rest e = record {
    keeps = record {
      segments = [];
      cut_up = refl;
      each = tt;
      only_last = tt;
      held_rises = tt;
      due = record { visits_due = tt; cuts_below = tt; cuts_permitted = tt };
    };
    of_task = inl refl;
  }
  walk-front gap keyed task body is rises judged (note ∷ notes) rest e =
      let head : taken task ≡ note = cc in
      let tail : body ≡ notes ++ rest = cc in
      record {
        keeps = record {
          segments = segment task notes ∷ [];
          cut_up = ap₂ (λ (n : Note) (ns : List Note). n ∷ ns) (sym head) (sym (append-nil notes));
          each = (segment-front task notes rest (subst (λ ns. IsBroken t (segment task ns)) tail is), tt);
          only_last = ((λ none. refl), tt);
          held_rises = held_rises-front (note ∷ notes) rest (subst HeldRises e rises);
          due = judged-front gap keyed (note ∷ notes) rest (subst (IsJudged t gap keyed) e judged);
        };
        of_task = inr (notes, refl);
      }
