-- How lists of entries that keep rules 4 to 8 grow: by one entry or one group, and by the entries of a later walk.
use Rattle.std.proofs.Common.{◌≡◌, ℕ, ◌≤◌, List, [], ◌∷◌, ◌++◌, Some, refl, ap, sym, subst, ◌∙◌, append_assoc, append-nil, arith}
use Rattle.std.specs.List.{AllByRecursion, flat_map, sum_by}
use Rattle.std.proofs.lemmas.List.{map-append}
use Rattle.std.proofs.lemmas.List.Concat.{flat_map-append}
use Rattle.std.proofs.lemmas.List.Sums.{sum_by-append}
use Rattle.std.proofs.lemmas.Bool.Decides.{nat_tests}
use Rattle.yew_laws.proofs.Members.{AllByRecursion-append, AllByRecursion-weaker}
use Rattle.yew_laws.specs.Bag.{SameBag}
use Rattle.yew_log.specs.Places.{AtEach}
use Rattle.yew_laws.specs.SearchTree.{SearchTree, worth_at, bound_at, below}
use Rattle.yew_log.specs.Notes.{Note, taken, visited, cut, spawned, handed, ended, Judgement, paths, values, held_values, visits, cuts, judgements, judgement_in, visit_in, cut_in, sent_in, event_in, visited_paths, cut_paths, sent_paths, taken_paths}
use Rattle.yew_log.specs.Attained.{limit}
use Rattle.yew_log.specs.Segment.{Segment, segment, entries, entries_in, Begins, IsValued, IsSegment, covered_paths}
use Rattle.yew_log.specs.HeldValues.{IsLater, HeldRises}
use Rattle.yew_log.specs.Groups.{group_of, HasGroups}
use Rattle.yew_log.specs.Lawful.{tasks_of}
use Rattle.yew_laws.proofs.Bags.{same-append, same-trans}
use Rattle.yew_log.proofs.Places.{AtEach-append, AtEach-extend}
use Rattle.yew_log.proofs.Nesting.{all-flat}
use Rattle.yew_log.proofs.Blocks.{IsBlock}

pub held_values-append : (xs ys : List Note) → held_values (judgements (xs ++ ys)) ≡ held_values (judgements xs) ++ held_values (judgements ys)
held_values-append xs ys = ap held_values (flat_map-append judgement_in xs ys) ∙ map-append (λ (j : Judgement). j.held) (judgements xs) (judgements ys)

pub worths-append : (xs ys : List Note) → values (visits (xs ++ ys)) ≡ values (visits xs) ++ values (visits ys)
worths-append xs ys = ap values (flat_map-append visit_in xs ys) ∙ map-append (λ (j : Judgement). j.value) (visits xs) (visits ys)

pub visited-append : (xs ys : List Note) → visited_paths (xs ++ ys) ≡ visited_paths xs ++ visited_paths ys
visited-append xs ys = ap paths (flat_map-append visit_in xs ys) ∙ map-append (λ (j : Judgement). j.path) (visits xs) (visits ys)

pub cut-append : (xs ys : List Note) → cut_paths (xs ++ ys) ≡ cut_paths xs ++ cut_paths ys
cut-append xs ys = ap paths (flat_map-append cut_in xs ys) ∙ map-append (λ (j : Judgement). j.path) (cuts xs) (cuts ys)

later_behind : (more before : List Note) (j : Judgement) → IsLater more j → IsLater before j → IsLater (more ++ before) j
later_behind more before j a b = record {
  of_helds = subst (AllByRecursion (λ h. h ≤ j.held)) (sym (held_values-append more before)) (AllByRecursion-append (λ h. h ≤ j.held) (held_values (judgements more)) (held_values (judgements before)) a.of_helds b.of_helds);
  of_worths = subst (AllByRecursion (λ w. w ≤ j.held)) (sym (worths-append more before)) (AllByRecursion-append (λ w. w ≤ j.held) (values (visits more)) (values (visits before)) a.of_worths b.of_worths);
}

held_behind : (more before notes : List Note) → AllByRecursion (IsLater more) (judgements notes) → AtEach (λ b n a. AllByRecursion (IsLater b) (judgement_in n)) before notes → AtEach (λ b n a. AllByRecursion (IsLater b) (judgement_in n)) (more ++ before) notes
held_behind more before [] all r = tt
held_behind more before (visited p w h ∷ ns) all r = ((later_behind more before (record { path = p; value = w; held = h }) all.0 r.0.0, tt), subst (λ b. AtEach (λ b' n a. AllByRecursion (IsLater b') (judgement_in n)) b ns) (sym (append_assoc more before (visited p w h ∷ []))) (held_behind more (before ++ visited p w h ∷ []) ns all.1 r.1))
held_behind more before (cut p w h ∷ ns) all r = ((later_behind more before (record { path = p; value = w; held = h }) all.0 r.0.0, tt), subst (λ b. AtEach (λ b' n a. AllByRecursion (IsLater b') (judgement_in n)) b ns) (sym (append_assoc more before (cut p w h ∷ []))) (held_behind more (before ++ cut p w h ∷ []) ns all.1 r.1))
held_behind more before (taken p ∷ ns) all r = (tt, subst (λ b. AtEach (λ b' n a. AllByRecursion (IsLater b') (judgement_in n)) b ns) (sym (append_assoc more before (taken p ∷ []))) (held_behind more (before ++ taken p ∷ []) ns all r.1))
held_behind more before (spawned p ∷ ns) all r = (tt, subst (λ b. AtEach (λ b' n a. AllByRecursion (IsLater b') (judgement_in n)) b ns) (sym (append_assoc more before (spawned p ∷ []))) (held_behind more (before ++ spawned p ∷ []) ns all r.1))
held_behind more before (handed p ∷ ns) all r = (tt, subst (λ b. AtEach (λ b' n a. AllByRecursion (IsLater b') (judgement_in n)) b ns) (sym (append_assoc more before (handed p ∷ []))) (held_behind more (before ++ handed p ∷ []) ns all r.1))
held_behind more before (ended p ∷ ns) all r = (tt, subst (λ b. AtEach (λ b' n a. AllByRecursion (IsLater b') (judgement_in n)) b ns) (sym (append_assoc more before (ended p ∷ []))) (held_behind more (before ++ ended p ∷ []) ns all r.1))

-- rule 7 of a log that goes on: each new held value is at least what the log has
pub HeldRises-append : (xs ys : List Note) → HeldRises xs → HeldRises ys → AllByRecursion (IsLater xs) (judgements ys) → HeldRises (xs ++ ys)
HeldRises-append xs ys a b all =
    AtEach-append (λ before n. AllByRecursion (IsLater before) (judgement_in n)) [] xs ys a
    (subst (λ z. AtEach (λ b' n a'. AllByRecursion (IsLater b') (judgement_in n)) z ys) (append-nil xs) (held_behind xs [] ys all b))

pub limit-grows : (gap v h : ℕ) → v ≤ h → limit gap v ≤ limit gap h
limit-grows gap v h le = grind (arith, nat_tests)

module _ {N : Type 0} (t : SearchTree N) where
  pub IsValued-append : (xs ys : List Note) → IsValued t xs → IsValued t ys → IsValued t (xs ++ ys)
  IsValued-append xs ys a b = record {
    worths = all-flat (λ v. worth_at t v.path ≡ Some v.value) visit_in xs ys a.worths b.worths;
    bounds = all-flat (λ c. bound_at t c.path ≡ Some c.value) cut_in xs ys a.bounds b.bounds;
  }

  -- what the entries of two lists stand for, together
  pub covered_paths-append : (xs ys : List Note) → SameBag (covered_paths t (xs ++ ys)) (covered_paths t xs ++ covered_paths t ys)
  covered_paths-append xs ys = record {
    weighs = λ w.
        let b = below t in
        let v = ap (sum_by w) (visited-append xs ys) ∙ sum_by-append w (visited_paths xs) (visited_paths ys) in
        let c = ap (λ ps. sum_by w (flat_map b ps)) (cut-append xs ys) ∙ ap (sum_by w) (flat_map-append b (cut_paths xs) (cut_paths ys)) ∙ sum_by-append w (flat_map b (cut_paths xs)) (flat_map b (cut_paths ys)) in
        let s = ap (λ ps. sum_by w (flat_map b ps)) (flat_map-append sent_in xs ys) ∙ ap (sum_by w) (flat_map-append b (sent_paths xs) (sent_paths ys)) ∙ sum_by-append w (flat_map b (sent_paths xs)) (flat_map b (sent_paths ys)) in
        let l0 = sum_by-append w (visited_paths (xs ++ ys)) (flat_map b (cut_paths (xs ++ ys) ++ sent_paths (xs ++ ys))) in
        let l1 = ap (sum_by w) (flat_map-append b (cut_paths (xs ++ ys)) (sent_paths (xs ++ ys))) ∙ sum_by-append w (flat_map b (cut_paths (xs ++ ys))) (flat_map b (sent_paths (xs ++ ys))) in
        let x0 = sum_by-append w (visited_paths xs) (flat_map b (cut_paths xs ++ sent_paths xs)) in
        let x1 = ap (sum_by w) (flat_map-append b (cut_paths xs) (sent_paths xs)) ∙ sum_by-append w (flat_map b (cut_paths xs)) (flat_map b (sent_paths xs)) in
        let y0 = sum_by-append w (visited_paths ys) (flat_map b (cut_paths ys ++ sent_paths ys)) in
        let y1 = ap (sum_by w) (flat_map-append b (cut_paths ys) (sent_paths ys)) ∙ sum_by-append w (flat_map b (cut_paths ys)) (flat_map b (sent_paths ys)) in
        let z = sum_by-append w (covered_paths t xs) (covered_paths t ys) in
        omega arith;
  }

  -- what all segments stand for is what lies below their tasks
  pub segments-covered_paths : (segments : List Segment) → AllByRecursion (IsSegment t) segments → SameBag (covered_paths t (entries segments)) (flat_map (below t) (tasks_of segments))
  segments-covered_paths [] a = record { weighs = λ w. refl }
  segments-covered_paths (s ∷ ss) a =
      same-trans (covered_paths-append (entries_in s) (entries ss)) (same-append a.0.all_covered (segments-covered_paths ss a.1))

  -- a whole block that places what lies below the task is a segment
  pub segment-from_block : (task : List ℕ) (body : List Note) → IsBlock task body → taken_paths body ≡ [] → Begins task body → SameBag (covered_paths t body) (below t task) → IsValued t body → IsSegment t (segment task body)
  segment-from_block task body b u s p v = record { untaken = u; begins = s; rises = b.rises; parents = b.parents; nests = b.nests; ends = b.ends; all_covered = p; valued = v }

-- groups: one more event with its group
pub group_of-append : (xs ys : List Note) → group_of ys ≡ [] → group_of (xs ++ ys) ≡ group_of xs
group_of-append [] ys e = e
group_of-append (spawned p ∷ xs) ys e = ap (λ g. spawned p ∷ g) (group_of-append xs ys e)
group_of-append (handed p ∷ xs) ys e = ap (λ g. handed p ∷ g) (group_of-append xs ys e)
group_of-append (taken p ∷ xs) ys e = refl
group_of-append (visited p w h ∷ xs) ys e = refl
group_of-append (cut p w h ∷ xs) ys e = refl
group_of-append (ended p ∷ xs) ys e = refl

module _ (rule : List Note → Note → List Note → Type 0) where
  -- a list whose first entry is no part of a group
  pub HasGroups-append : (xs ys : List Note) → group_of ys ≡ [] → HasGroups rule xs → AtEach (λ b n a. AllByRecursion (λ p. rule b n (group_of a)) (event_in n)) xs ys → HasGroups rule (xs ++ ys)
  HasGroups-append xs ys e a b =
      AtEach-extend (λ b n a. AllByRecursion (λ p. rule b n (group_of a)) (event_in n)) [] xs ys
      (λ b n a. AllByRecursion-weaker (λ p. rule b n (group_of a)) (λ p. rule b n (group_of (a ++ ys))) (λ p r. subst (rule b n) (sym (group_of-append a ys e)) r) (event_in n))
      a b
