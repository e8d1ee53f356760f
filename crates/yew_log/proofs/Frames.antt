-- A walk that is under way: the open visits, each with what was done below it. The lemmas are the turns of the walk.
use Rattle.std.proofs.Common.{◌≡◌, ℕ, suc, ◌≤◌, List, [], ◌∷◌, ◌++◌, map, ◌⊎◌, inl, inr, refl, ap, sym, subst, ◌∙◌, append_assoc, append-nil, arith}
use Rattle.std.specs.Prelude.{IsSome, IsTrue}
use Rattle.std.specs.List.{AllByRecursion, Contains}
use Rattle.yew_laws.specs.Bag.{PartOfBag}
use Rattle.yew_laws.specs.Order.{comes_before, parent_of}
use Rattle.yew_laws.specs.SearchTree.{SearchTree, at_path, below}
use Rattle.yew_laws.specs.Tree.{IsRanked}
use Rattle.yew_laws.proofs.Below.{AtOrBelow, InChild}
use Rattle.yew_laws.proofs.Members.{AllByRecursion-weaker, Contains-head, Contains-tail}
use Rattle.yew_laws.proofs.PathTests.{before-itself}
use Rattle.yew_log.specs.Places.{AtEach}
use Rattle.yew_log.specs.Notes.{Note, visited, spawned, handed, ended, paths, judgements, judgement_in, ended_in, taken_paths, visited_paths, sent_paths, ended_paths, event_paths}
use Rattle.yew_log.specs.Segment.{segment, IsOnce, EndsVisits, Rise, EachJudged, HasParent, IsValued, Begins, IsBroken, covered_paths}
use Rattle.yew_log.proofs.Blocks.{IsSpan, IsBlock, HasParentBelow, Rise-append, span-none, span-append, span-block, span-spawned_all, span-handed_all, block-close, events-join, rises-join, once-join, parents-join, ends-join, judgements-from_events, open-span}
use Rattle.yew_log.proofs.KnownPaths.{segment-of_tree, segment-one_of_a_kind}

-- an open visit: its path, its worth and held value, the number of its next child, and what was done below it
pub record Frame : Type 0 where
  pub path : List ℕ
  pub worth : ℕ
  pub held : ℕ
  pub next : ℕ
  pub inside : List Note

-- a frame of these parts
abbrev pub frame : List ℕ → ℕ → ℕ → ℕ → List Note → Frame
frame path worth held next inside = record { path = path; worth = worth; held = held; next = next; inside = inside }

-- the frame, where more was done below it
abbrev pub with_more : Frame → ℕ → List Note → Frame
with_more f next more = frame f.path f.worth f.held next (f.inside ++ more)

-- these entries with the open visits around them, of which the first is the highest
abbrev pub around : List Frame → List Note → List Note
around [] notes = notes
around (f ∷ fs) notes = around fs (visited f.path f.worth f.held ∷ (f.inside ++ notes))

-- the path is that of the task, or of a child of the frame below, of a number that was not dealt with before
abbrev pub Stands : List ℕ → List ℕ → List Frame → Type 0
Stands task path [] = path ≡ task
Stands task path (f ∷ fs) = (k : ℕ) × ((f.next ≤ k) × (path ≡ f.path ++ k ∷ []))

-- the frames of a walk of this task
abbrev pub AreFrames : List ℕ → List Frame → Type 0
AreFrames task [] = Unit {0}
AreFrames task (f ∷ fs) = IsSpan f.path 0 f.next f.inside × (Stands task f.path fs × AreFrames task fs)

-- the next entry stands behind all entries so far
pub around-append : (fs : List Frame) (xs ys : List Note) → around fs (xs ++ ys) ≡ around fs xs ++ ys
around-append [] xs ys = refl
around-append (f ∷ fs) xs ys =
    ap (λ ns. around fs (visited f.path f.worth f.held ∷ ns)) (sym (append_assoc f.inside xs ys))
    ∙ around-append fs (visited f.path f.worth f.held ∷ (f.inside ++ xs)) ys

-- more entries below the highest visit
pub around-more : (f : Frame) (fs : List Frame) (next : ℕ) (more : List Note) → around (with_more f next more ∷ fs) [] ≡ around (f ∷ fs) [] ++ more
around-more f fs next more =
    ap (λ ns. around fs (visited f.path f.worth f.held ∷ ns)) (append_assoc f.inside more [] ∙ ap (λ ns. f.inside ++ ns) (append-nil more))
    ∙ around-append (f ∷ fs) [] more

-- a child with all below it was done
pub frames-block : (task : List ℕ) (f : Frame) (fs : List Frame) (k : ℕ) (block : List Note) → AreFrames task (f ∷ fs) → f.next ≤ k → IsBlock (f.path ++ k ∷ []) block → AreFrames task (with_more f (suc k) block ∷ fs)
frames-block task f fs k block a le b =
    (span-append f.path 0 f.next k (suc k) f.inside block (omega arith) le (omega arith) a.0 (span-block f.path k block b), (a.1.0, a.1.1))

-- a child was visited
pub frames-visit : (task : List ℕ) (f : Frame) (fs : List Frame) (k worth held : ℕ) → AreFrames task (f ∷ fs) → f.next ≤ k → AreFrames task (frame (f.path ++ k ∷ []) worth held 0 [] ∷ f ∷ fs)
frames-visit task f fs k worth held a le = (span-none (f.path ++ k ∷ []) 0 0, ((k, (le, refl)), a))

pub around-visit : (f : Frame) (fs : List Frame) (path : List ℕ) (worth held : ℕ) → around (frame path worth held 0 [] ∷ f ∷ fs) [] ≡ around (f ∷ fs) [] ++ visited path worth held ∷ []
around-visit f fs path worth held = around-append (f ∷ fs) [] (visited path worth held ∷ [])

-- the task was visited
pub frames-first : (task : List ℕ) (worth held : ℕ) → AreFrames task (frame task worth held 0 [] ∷ [])
frames-first task worth held = (span-none task 0 0, (refl, tt))

-- the highest visit was ended: its block
abbrev pub closed : Frame → List Note
closed g = visited g.path g.worth g.held ∷ (g.inside ++ ended g.path ∷ [])

pub frames-close : (task : List ℕ) (g : Frame) (fs : List Frame) → AreFrames task (g ∷ fs) → IsBlock g.path (closed g)
frames-close task g fs a = block-close g.path g.next g.worth g.held g.inside a.0

-- the frame below goes on behind the number of the child that was ended
pub frames-end : (task : List ℕ) (g f : Frame) (fs : List Frame) → AreFrames task (g ∷ f ∷ fs) → (k : ℕ) × ((f.next ≤ k) × AreFrames task (with_more f (suc k) (closed g) ∷ fs))
frames-end task g f fs a =
    let k = a.1.0.0 in
    (k, (a.1.0.1.0, frames-block task f fs k (closed g) a.1.1 a.1.0.1.0 (subst (λ p. IsBlock p (closed g)) a.1.0.1.1 (frames-close task g (f ∷ fs) a))))

pub around-end : (g f : Frame) (fs : List Frame) (next : ℕ) → around (with_more f next (closed g) ∷ fs) [] ≡ around (g ∷ f ∷ fs) [] ++ ended g.path ∷ []
around-end g f fs next =
    around-more f fs next (closed g)
    ∙ sym (around-append (f ∷ fs) [] (closed g))
    ∙ ap (λ ns. around (f ∷ fs) (visited g.path g.worth g.held ∷ (g.inside ++ ns))) refl
    ∙ around-append (g ∷ f ∷ fs) [] (ended g.path ∷ [])

-- children of a path at or above the highest visit were spawned, or handed over
pub frames-spawned : (task : List ℕ) (f : Frame) (fs : List Frame) (host : List ℕ) (children : List (List ℕ)) → AreFrames task (f ∷ fs) → AtOrBelow host f.path → AllByRecursion (λ c. (number : ℕ) × (c ≡ host ++ number ∷ [])) children → AreFrames task (with_more f f.next (map spawned children) ∷ fs)
frames-spawned task f fs host children a up each =
    (span-append f.path 0 f.next f.next f.next f.inside (map spawned children) (omega arith) (omega arith) (omega arith) a.0 (span-spawned_all f.path f.next host up children each), (a.1.0, a.1.1))

pub frames-handed : (task : List ℕ) (f : Frame) (fs : List Frame) (host : List ℕ) (children : List (List ℕ)) → AreFrames task (f ∷ fs) → AtOrBelow host f.path → AllByRecursion (λ c. (number : ℕ) × (c ≡ host ++ number ∷ [])) children → AreFrames task (with_more f f.next (map handed children) ∷ fs)
frames-handed task f fs host children a up each =
    (span-append f.path 0 f.next f.next f.next f.inside (map handed children) (omega arith) (omega arith) (omega arith) a.0 (span-handed_all f.path f.next host up children each), (a.1.0, a.1.1))

-- the entries of a node and of all below it, as far as they go
pub record IsOpenBlock (c : List ℕ) (notes : List Note) : Type 0 where
  pub events : AllByRecursion (AtOrBelow c) (event_paths notes)
  pub rises : Rise (paths (judgements notes))
  pub parents : EachJudged (HasParent c) notes
  pub ends : EndsVisits notes
  pub ends_once : IsOnce (ended_paths notes)

-- a block is one too
pub open-block : (c : List ℕ) (notes : List Note) → IsBlock c notes → IsOpenBlock c notes
open-block c notes b = record { events = b.events; rises = b.rises; parents = b.parents; ends = b.ends; ends_once = b.ends_once }

-- a visit, and then what was done below it
open-visit : (f : Frame) (high : ℕ) (notes : List Note) → AllByRecursion (InChild f.path 0 high) (event_paths notes) → Rise (paths (judgements notes)) → EachJudged (HasParentBelow f.path) notes → EndsVisits notes → IsOnce (ended_paths notes) → IsOpenBlock f.path (visited f.path f.worth f.held ∷ notes)
open-visit f high notes events rises parents ends once = record {
  events = (record { rest = []; is = sym (append-nil c) }, AllByRecursion-weaker (InChild c 0 high) (AtOrBelow c) (λ p u. record { rest = u.number ∷ u.rest; is = u.is }) (event_paths notes) events);
  rises = Rise-append (c ∷ []) (paths (judgements notes)) (tt, tt) rises
      (AllByRecursion-weaker (InChild c 0 high) (λ y. AllByRecursion (λ x. IsTrue (comes_before x y)) (c ∷ []))
      (λ y u. (ap (comes_before c) u.is ∙ before-itself c u.number u.rest, tt)) (paths (judgements notes)) (judgements-from_events (InChild c 0 high) notes events));
  parents = ((λ ne. absurd (ne refl), tt), behind (λ b n. AllByRecursion (HasParentBelow c b) (judgement_in n)) (λ b n. AllByRecursion (HasParent c b) (judgement_in n)) [] notes step parents);
  ends = (tt, behind (λ b n. AllByRecursion (λ p. Contains (visited_paths b) p) (ended_in n)) (λ b n. AllByRecursion (λ p. Contains (visited_paths b) p) (ended_in n)) [] notes (λ b n a. AllByRecursion-weaker (λ p. Contains (visited_paths b) p) (λ p. Contains (visited_paths (visit ∷ b)) p) (λ p u. Contains-tail c (visited_paths b) p u) (ended_in n) a) ends);
  ends_once = once;
}
  where
    c : List ℕ
    c = f.path

    visit : Note
    visit = visited f.path f.worth f.held

    step : (b : List Note) (n : Note) → AllByRecursion (HasParentBelow f.path b) (judgement_in n) → AllByRecursion (HasParent f.path (visited f.path f.worth f.held ∷ b)) (judgement_in n)
    step b n a =
        AllByRecursion-weaker (HasParentBelow f.path b) (HasParent f.path (visited f.path f.worth f.held ∷ b))
        (λ j. elim [ inl e ↦ λ ne. subst (Contains (visited_paths (visited f.path f.worth f.held ∷ b))) (sym e) (Contains-head f.path (visited_paths b)) | inr u ↦ λ ne. Contains-tail f.path (visited_paths b) (parent_of j.path) u ])
        (judgement_in n) a

    behind : (P Q : List Note → Note → Type 0) (before ns : List Note) → ((b : List Note) (n : Note) → P b n → Q (visited f.path f.worth f.held ∷ b) n) → AtEach (λ b n a. P b n) before ns → AtEach (λ b n a. Q b n) (visited f.path f.worth f.held ∷ before) ns
    behind P Q before [] g a = tt
    behind P Q before (n ∷ ns) g a = (g before n a.0, behind P Q (before ++ n ∷ []) ns g a.1)

-- an open block with the open visits around it
around-open : (task : List ℕ) (fs : List Frame) (c : List ℕ) (notes : List Note) → Stands task c fs → AreFrames task fs → IsOpenBlock c notes → IsOpenBlock task (around fs notes)
around-open task [] c notes s a o = subst (λ p. IsOpenBlock p notes) s o
around-open task (f ∷ fs) c notes s a o =
    let k = s.0 in
    let span = open-span f.path k notes (subst (λ p. AllByRecursion (AtOrBelow p) (event_paths notes)) s.1.1 o.events) (subst (λ p. EachJudged (HasParent p) notes) s.1.1 o.parents) in
    around-open task fs f.path (visited f.path f.worth f.held ∷ (f.inside ++ notes)) a.1.0 a.1.1
    (open-visit f (suc k) (f.inside ++ notes)
    (events-join f.path 0 f.next k (suc k) f.inside notes (omega arith) s.1.0 (omega arith) a.0.events span.0)
    (rises-join f.path 0 f.next k (suc k) f.inside notes (omega arith) s.1.0 (omega arith) a.0.events span.0 a.0.rises o.rises)
    (parents-join f.path f.inside notes a.0.parents span.1)
    (ends-join f.inside notes a.0.ends o.ends)
    (once-join f.path 0 f.next k (suc k) f.inside notes (omega arith) s.1.0 (omega arith) a.0.events span.0 a.0.ends_once o.ends_once))

-- the entries of a walk under way are an open block of its task
pub frames-open : (task : List ℕ) (f : Frame) (fs : List Frame) → AreFrames task (f ∷ fs) → IsOpenBlock task (around (f ∷ fs) [])
frames-open task f fs a =
    around-open task fs f.path (visited f.path f.worth f.held ∷ (f.inside ++ [])) a.1.0 a.1.1
    (subst (λ ns. IsOpenBlock f.path (visited f.path f.worth f.held ∷ ns)) (sym (append-nil f.inside))
    (open-visit f f.next f.inside a.0.events a.0.rises a.0.parents a.0.ends a.0.ends_once))

module _ {N : Type 0} (t : SearchTree N) {sound : N → Type 0} (ranked : IsRanked sound t.children t.rank) (root : sound t.root) where
  -- an open block that covers a part of what lies below the task is a segment that was broken off
  pub broken-from_open : (task : List ℕ) (body : List Note) → IsOpenBlock task body → taken_paths body ≡ [] → (body ≡ []) ⊎ Begins task body → PartOfBag (covered_paths t body) (below t task) → IsValued t body → IsSome (at_path t task) → AllByRecursion (λ path. IsSome (at_path t path)) (sent_paths body) → IsBroken t (segment task body)
  broken-from_open task body o u b p v there sent = record {
    untaken = u;
    begins = b;
    rises = o.rises;
    parents = o.parents;
    ends = o.ends;
    in_tree = segment-of_tree t ranked root task body there sent u o.ends o.ends_once v p;
    one_of_a_kind = segment-one_of_a_kind t ranked root task body there sent u o.ends o.ends_once v p;
    part_covered = p;
    valued = v;
  }
