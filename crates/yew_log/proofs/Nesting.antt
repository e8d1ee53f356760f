-- How lists of entries that keep rules 2 and 3 are put together.
use Rattle.std.proofs.Common.{◌≢◌, ℕ, List, [], ◌∷◌, ◌++◌, IsTrue, IsFalse, refl, ap, sym, subst, ◌∙◌, append_assoc, append-nil}
use Rattle.std.specs.Prelude.{IsTrue, IsFalse}
use Rattle.std.specs.List.{AllByRecursion, flat_map}
use Rattle.std.proofs.lemmas.List.Concat.{flat_map-append}
use Rattle.yew_laws.proofs.Members.{AllByRecursion-append}
use Rattle.yew_log.specs.Places.{AtEach}
use Rattle.yew_laws.specs.Order.{lies_below, is_child}
use Rattle.yew_log.specs.Notes.{Note, taken, visited, cut, spawned, handed, ended, Judgement, visit_in, ended_in, event_in, sent_in, visited_paths, sent_paths, ended_paths, event_paths}
use Rattle.yew_log.specs.Segment.{IsEnclosed, Nests}

pub all-flat : {X Y : Type 0} (P : Y → Type 0) (f : X → List Y) (xs ys : List X) → AllByRecursion P (flat_map f xs) → AllByRecursion P (flat_map f ys) → AllByRecursion P (flat_map f (xs ++ ys))
all-flat P f xs ys a b = subst (AllByRecursion P) (sym (flat_map-append f xs ys)) (AllByRecursion-append P (flat_map f xs) (flat_map f ys) a b)

-- entries that have nothing to do with a visit of this path
pub record Apart (path : List ℕ) (notes : List Note) : Type 0 where
  pub no_end : AllByRecursion (λ p. p ≢ path) (ended_paths notes)
  pub none_below : AllByRecursion (λ p. IsFalse (lies_below path p)) (event_paths notes)
  pub no_child : AllByRecursion (λ p. IsFalse (is_child path p)) (sent_paths notes)

pub enclosed-after : (path : List ℕ) (before after more : List Note) → IsEnclosed path before after → Apart path more → IsEnclosed path before (after ++ more)
enclosed-after path before after more s a = record {
  inside = s.inside;
  outside = s.outside ++ more;
  is_ended = ap (λ ns. ns ++ more) s.is_ended ∙ append_assoc s.inside (ended path ∷ s.outside) more;
  one_end = subst (λ ns. AllByRecursion (λ p. p ≢ path) (ended_paths ns)) (append_assoc (before ++ s.inside) s.outside more)
      (all-flat (λ p. p ≢ path) ended_in (before ++ s.inside ++ s.outside) more s.one_end a.no_end);
  below_inside = s.below_inside;
  none_outside = subst (λ ns. AllByRecursion (λ p. IsFalse (lies_below path p)) (event_paths ns)) (append_assoc before s.outside more)
      (all-flat (λ p. IsFalse (lies_below path p)) event_in (before ++ s.outside) more s.none_outside a.none_below);
  sent_inside = subst (λ ns. AllByRecursion (λ p. IsFalse (is_child path p)) (sent_paths ns)) (append_assoc before s.outside more)
      (all-flat (λ p. IsFalse (is_child path p)) sent_in (before ++ s.outside) more s.sent_inside a.no_child);
}

pub enclosed-before : (path : List ℕ) (more before after : List Note) → IsEnclosed path before after → Apart path more → IsEnclosed path (more ++ before) after
enclosed-before path more before after s a = record {
  inside = s.inside;
  outside = s.outside;
  is_ended = s.is_ended;
  one_end = subst (λ ns. AllByRecursion (λ p. p ≢ path) (ended_paths ns)) (sym (append_assoc more (before ++ s.inside) s.outside) ∙ ap (λ ns. ns ++ s.outside) (sym (append_assoc more before s.inside)))
      (all-flat (λ p. p ≢ path) ended_in more (before ++ s.inside ++ s.outside) a.no_end s.one_end);
  below_inside = s.below_inside;
  none_outside = subst (λ ns. AllByRecursion (λ p. IsFalse (lies_below path p)) (event_paths ns)) (sym (append_assoc more before s.outside))
      (all-flat (λ p. IsFalse (lies_below path p)) event_in more (before ++ s.outside) a.none_below s.none_outside);
  sent_inside = subst (λ ns. AllByRecursion (λ p. IsFalse (is_child path p)) (sent_paths ns)) (sym (append_assoc more before s.outside))
      (all-flat (λ p. IsFalse (is_child path p)) sent_in more (before ++ s.outside) a.no_child s.sent_inside);
}

-- P is a fact of a visit with what stands before and after it
abbrev EachVisit : (List ℕ → List Note → List Note → Type 0) → List Note → List Note → Type 0
EachVisit P before notes = AtEach (λ b note a. AllByRecursion (λ (v : Judgement). P v.path b a) (visit_in note)) before notes

-- a longer list before
each_visit-before : (more before notes : List Note) → AllByRecursion (λ p. Apart p more) (visited_paths notes) → EachVisit IsEnclosed before notes → EachVisit IsEnclosed (more ++ before) notes
each_visit-before more before [] a e = tt
each_visit-before more before (visited path w h ∷ notes) a e = (
  (enclosed-before path more before notes e.0.0 a.0, tt),
  subst (λ b. EachVisit IsEnclosed b notes) (sym (append_assoc more before (visited path w h ∷ []))) (each_visit-before more (before ++ visited path w h ∷ []) notes a.1 e.1),
)
each_visit-before more before (taken path ∷ notes) a e = (tt, subst (λ b. EachVisit IsEnclosed b notes) (sym (append_assoc more before (taken path ∷ []))) (each_visit-before more (before ++ taken path ∷ []) notes a e.1))
each_visit-before more before (cut path w h ∷ notes) a e = (tt, subst (λ b. EachVisit IsEnclosed b notes) (sym (append_assoc more before (cut path w h ∷ []))) (each_visit-before more (before ++ cut path w h ∷ []) notes a e.1))
each_visit-before more before (spawned path ∷ notes) a e = (tt, subst (λ b. EachVisit IsEnclosed b notes) (sym (append_assoc more before (spawned path ∷ []))) (each_visit-before more (before ++ spawned path ∷ []) notes a e.1))
each_visit-before more before (handed path ∷ notes) a e = (tt, subst (λ b. EachVisit IsEnclosed b notes) (sym (append_assoc more before (handed path ∷ []))) (each_visit-before more (before ++ handed path ∷ []) notes a e.1))
each_visit-before more before (ended path ∷ notes) a e = (tt, subst (λ b. EachVisit IsEnclosed b notes) (sym (append_assoc more before (ended path ∷ []))) (each_visit-before more (before ++ ended path ∷ []) notes a e.1))

-- more entries after
each_visit-after : (before notes more : List Note) → AllByRecursion (λ p. Apart p more) (visited_paths notes) → EachVisit IsEnclosed before notes → EachVisit IsEnclosed (before ++ notes) more → EachVisit IsEnclosed before (notes ++ more)
each_visit-after before [] more a e f = subst (λ b. EachVisit IsEnclosed b more) (append-nil before) f
each_visit-after before (visited path w h ∷ notes) more a e f = (
  (enclosed-after path before notes more e.0.0 a.0, tt),
  each_visit-after (before ++ visited path w h ∷ []) notes more a.1 e.1 (subst (λ b. EachVisit IsEnclosed b more) (sym (append_assoc before (visited path w h ∷ []) notes)) f),
)
each_visit-after before (taken path ∷ notes) more a e f = (tt, each_visit-after (before ++ taken path ∷ []) notes more a e.1 (subst (λ b. EachVisit IsEnclosed b more) (sym (append_assoc before (taken path ∷ []) notes)) f))
each_visit-after before (cut path w h ∷ notes) more a e f = (tt, each_visit-after (before ++ cut path w h ∷ []) notes more a e.1 (subst (λ b. EachVisit IsEnclosed b more) (sym (append_assoc before (cut path w h ∷ []) notes)) f))
each_visit-after before (spawned path ∷ notes) more a e f = (tt, each_visit-after (before ++ spawned path ∷ []) notes more a e.1 (subst (λ b. EachVisit IsEnclosed b more) (sym (append_assoc before (spawned path ∷ []) notes)) f))
each_visit-after before (handed path ∷ notes) more a e f = (tt, each_visit-after (before ++ handed path ∷ []) notes more a e.1 (subst (λ b. EachVisit IsEnclosed b more) (sym (append_assoc before (handed path ∷ []) notes)) f))
each_visit-after before (ended path ∷ notes) more a e f = (tt, each_visit-after (before ++ ended path ∷ []) notes more a e.1 (subst (λ b. EachVisit IsEnclosed b more) (sym (append_assoc before (ended path ∷ []) notes)) f))

-- two lists whose visits have nothing to do with each other
pub Nests-append : (xs ys : List Note) → Nests xs → Nests ys → AllByRecursion (λ p. Apart p ys) (visited_paths xs) → AllByRecursion (λ p. Apart p xs) (visited_paths ys) → Nests (xs ++ ys)
Nests-append xs ys e f a b =
    each_visit-after [] xs ys a e (subst (λ z. EachVisit IsEnclosed z ys) (append-nil xs) (each_visit-before xs [] ys b f))

-- a visit with its end, round entries that all lie below it
pub Nests-close : (path : List ℕ) (worth held : ℕ) (inside : List Note) → Nests inside → AllByRecursion (λ p. IsTrue (lies_below path p)) (event_paths inside) → AllByRecursion (λ p. p ≢ path) (ended_paths inside) → AllByRecursion (λ p. Apart p (visited path worth held ∷ [])) (visited_paths inside) → AllByRecursion (λ p. Apart p (ended path ∷ [])) (visited_paths inside) → Nests (visited path worth held ∷ (inside ++ ended path ∷ []))
Nests-close path worth held inside e below ends first last = (
  (
    record {
      inside = inside;
      outside = [];
      is_ended = refl;
      one_end = subst (λ ns. AllByRecursion (λ p. p ≢ path) (ended_paths ns)) (sym (append-nil inside)) ends;
      below_inside = below;
      none_outside = tt;
      sent_inside = tt;
    },
    tt,
  ),
  each_visit-after (visited path worth held ∷ []) inside (ended path ∷ []) last (each_visit-before (visited path worth held ∷ []) [] inside first e) (tt, tt),
)
