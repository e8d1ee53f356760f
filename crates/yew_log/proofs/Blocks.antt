-- A segment from its parts: how a visit's children are put together, and how a visit is closed.
use Rattle.std.proofs.Common.{◌≡◌, ◌≢◌, ℕ, zero, suc, ◌+◌, ◌<◌, ◌≤◌, List, [], ◌∷◌, ◌++◌, map, length, true, false, cond, ◌⊎◌, inl, inr, refl, ap, ap₂, sym, subst, ◌∙◌, append_assoc, append-nil, arith, length-append}
use Rattle.std.specs.Prelude.{IsTrue, IsFalse}
use Rattle.std.specs.List.{AllByRecursion, Contains}
use Rattle.std.proofs.lemmas.List.{map-append}
use Rattle.std.proofs.lemmas.List.Concat.{flat_map-append}
use Rattle.std.proofs.lemmas.List.Sums.{sum_by-cons}
use Rattle.yew_laws.proofs.Members.{AllByRecursion-append, AllByRecursion-weaker, Contains-head, Contains-tail}
use Rattle.yew_log.specs.Places.{AtEach}
use Rattle.yew_laws.specs.Order.{comes_before, lies_below, is_child, is_path, parent_of, only, occurs}
use Rattle.yew_log.specs.Notes.{Note, taken, visited, cut, spawned, handed, ended, Judgement, paths, visits, judgements, judgement_in, visit_in, ended_in, event_in, sent_in, visited_paths, sent_paths, ended_paths, event_paths}
use Rattle.yew_log.specs.Segment.{IsOnce, Nests, EndsVisits, Rise, EachJudged, HasParent}
use Rattle.yew_log.proofs.Places.{AtEach-append, AtEach-join}
use Rattle.yew_laws.proofs.PathTests.{is_path-same, is_path-is, below-itself, not-below-up, apart-below, apart-child, apart-path, is_path-not, not_child-long, before-itself, before-siblings, parent_of-push}
use Rattle.yew_laws.proofs.Below.{AtOrBelow, InChild, wider, in_child}
use Rattle.yew_laws.proofs.Bags.{only-other}
use Rattle.yew_laws.proofs.Weights.{all-weighs}
use Rattle.yew_log.proofs.Ends.{ends-weigh}
use Rattle.yew_log.proofs.Nesting.{Apart, Nests-append, Nests-close, all-flat}

-- p is a child of a path at or above this one, or of a path at or below its children of this range
pub record IsNear (path : List ℕ) (low high : ℕ) (p : List ℕ) : Type 0 where
  pub host : List ℕ
  pub number : ℕ
  pub is : p ≡ host ++ number ∷ []
  pub near : AtOrBelow host path ⊎ InChild path low high host

-- p is a child of a path above this one, or at or below it
pub record IsNearBlock (c p : List ℕ) : Type 0 where
  pub host : List ℕ
  pub number : ℕ
  pub is : p ≡ host ++ number ∷ []
  pub near : AtOrBelow host c ⊎ AtOrBelow c host

-- its parent is the path, or is visited earlier
abbrev pub HasParentBelow : List ℕ → List Note → Judgement → Type 0
HasParentBelow path before j = (parent_of j.path ≡ path) ⊎ Contains (visited_paths before) (parent_of j.path)

-- what was done below a visited path, of its children of this range
pub record IsSpan (path : List ℕ) (low high : ℕ) (notes : List Note) : Type 0 where
  pub events : AllByRecursion (InChild path low high) (event_paths notes)
  pub hosts : AllByRecursion (IsNear path low high) (sent_paths notes)
  pub rises : Rise (paths (judgements notes))
  pub parents : EachJudged (HasParentBelow path) notes
  pub nests : Nests notes
  pub ends : EndsVisits notes
  pub ends_once : IsOnce (ended_paths notes)

-- all entries of a node and of what was done below it
pub record IsBlock (c : List ℕ) (notes : List Note) : Type 0 where
  pub events : AllByRecursion (AtOrBelow c) (event_paths notes)
  pub hosts : AllByRecursion (IsNearBlock c) (sent_paths notes)
  pub rises : Rise (paths (judgements notes))
  pub parents : EachJudged (HasParent c) notes
  pub nests : Nests notes
  pub ends : EndsVisits notes
  pub ends_once : IsOnce (ended_paths notes)

pub judgements-from_events : (P : List ℕ → Type 0) (notes : List Note) → AllByRecursion P (event_paths notes) → AllByRecursion P (paths (judgements notes))
judgements-from_events P [] a = tt
judgements-from_events P (taken path ∷ ns) a = judgements-from_events P ns a
judgements-from_events P (spawned path ∷ ns) a = judgements-from_events P ns a
judgements-from_events P (handed path ∷ ns) a = judgements-from_events P ns a
judgements-from_events P (ended path ∷ ns) a = judgements-from_events P ns a.1
judgements-from_events P (visited path w h ∷ ns) a = (a.0, judgements-from_events P ns a.1)
judgements-from_events P (cut path w h ∷ ns) a = (a.0, judgements-from_events P ns a.1)

visited-from_events : (P : List ℕ → Type 0) (notes : List Note) → AllByRecursion P (event_paths notes) → AllByRecursion P (visited_paths notes)
visited-from_events P [] a = tt
visited-from_events P (taken path ∷ ns) a = visited-from_events P ns a
visited-from_events P (spawned path ∷ ns) a = visited-from_events P ns a
visited-from_events P (handed path ∷ ns) a = visited-from_events P ns a
visited-from_events P (ended path ∷ ns) a = visited-from_events P ns a.1
visited-from_events P (visited path w h ∷ ns) a = (a.0, visited-from_events P ns a.1)
visited-from_events P (cut path w h ∷ ns) a = visited-from_events P ns a.1

ended-from_events : (P : List ℕ → Type 0) (notes : List Note) → AllByRecursion P (event_paths notes) → AllByRecursion P (ended_paths notes)
ended-from_events P [] a = tt
ended-from_events P (taken path ∷ ns) a = ended-from_events P ns a
ended-from_events P (spawned path ∷ ns) a = ended-from_events P ns a
ended-from_events P (handed path ∷ ns) a = ended-from_events P ns a
ended-from_events P (ended path ∷ ns) a = (a.0, ended-from_events P ns a.1)
ended-from_events P (visited path w h ∷ ns) a = ended-from_events P ns a.1
ended-from_events P (cut path w h ∷ ns) a = ended-from_events P ns a.1

contains-append : (xs ys : List (List ℕ)) (x : List ℕ) → Contains ys x → Contains (xs ++ ys) x
contains-append [] ys x c = c
contains-append (z ∷ xs) ys x c = Contains-tail z (xs ++ ys) x (contains-append xs ys x c)

-- what was visited before stays so behind more entries
visited-shift : (more before : List Note) (p : List ℕ) → Contains (visited_paths before) p → Contains (visited_paths (more ++ before)) p
visited-shift more before p c =
    subst (λ ps. Contains ps p) (sym (ap paths (flat_map-append visit_in more before) ∙ map-append (λ (j : Judgement). j.path) (visits more) (visits before)))
    (contains-append (visited_paths more) (visited_paths before) p c)

wider-near : (path : List ℕ) (low high low' high' : ℕ) → low' ≤ low → high ≤ high' → (p : List ℕ) → IsNear path low high p → IsNear path low' high' p
wider-near path low high low' high' a b p c =
    record { host = c.host; number = c.number; is = c.is; near = elim c.near [ inl u ↦ inl u | inr u ↦ inr (wider path low high low' high' a b c.host u) ] }

-- numbers of two ranges that do not meet
abbrev Differ : ℕ → ℕ → ℕ → ℕ → Type 0
Differ a b c d = (i j : ℕ) → a ≤ i → i < b → c ≤ j → j < d → i ≢ j

module _ (path : List ℕ) (a b c d : ℕ) (differ : Differ a b c d) where
  apart-end : (v : List ℕ) → InChild path a b v → (p : List ℕ) → InChild path c d p → p ≢ v
  apart-end v u p w =
      rw (u.is, w.is)
      (λ e. is_path-not (path ++ u.number ∷ u.rest) (path ++ w.number ∷ w.rest)
      (apart-path path u.number u.rest w.number w.rest (differ u.number w.number u.from u.below w.from w.below)) (sym e))

  apart-event : (v : List ℕ) → InChild path a b v → (p : List ℕ) → InChild path c d p → IsFalse (lies_below v p)
  apart-event v u p w =
      ap₂ lies_below u.is w.is ∙ apart-below path u.number u.rest w.number w.rest (differ u.number w.number u.from u.below w.from w.below)

  apart-sent : (v : List ℕ) → InChild path a b v → (p : List ℕ) → IsNear path c d p → IsFalse (is_child v p)
  apart-sent v u p w =
      elim w.near [
        | inl up ↦
            let lv : length v ≡ length path + suc (length u.rest) = ap length u.is ∙ length-append path (u.number ∷ u.rest) in
            let lp : length p ≡ length w.host + 1 = ap length w.is ∙ length-append w.host (w.number ∷ []) in
            let lh : length path ≡ length w.host + length up.rest = ap length up.is ∙ length-append w.host up.rest in
            not_child-long v p (omega arith)
        | inr down ↦
            ap₂ is_child u.is (w.is ∙ ap (λ h. h ++ w.number ∷ []) down.is ∙ append_assoc path (down.number ∷ down.rest) (w.number ∷ []))
            ∙ apart-child path u.number u.rest down.number (down.rest ++ w.number ∷ []) (differ u.number down.number u.from u.below down.from down.below)
      ]

  apart-span : (notes : List Note) → AllByRecursion (InChild path c d) (event_paths notes) → AllByRecursion (IsNear path c d) (sent_paths notes) → (v : List ℕ) → InChild path a b v → Apart v notes
  apart-span notes events hosts v u = record {
    no_end = AllByRecursion-weaker (InChild path c d) (λ p. p ≢ v) (apart-end v u) (ended_paths notes) (ended-from_events (InChild path c d) notes events);
    none_below = AllByRecursion-weaker (InChild path c d) (λ p. IsFalse (lies_below v p)) (apart-event v u) (event_paths notes) events;
    no_child = AllByRecursion-weaker (IsNear path c d) (λ p. IsFalse (is_child v p)) (apart-sent v u) (sent_paths notes) hosts;
  }

rise-shift : (more before ps : List (List ℕ)) → AllByRecursion (λ p. AllByRecursion (λ m. IsTrue (comes_before m p)) more) ps → AtEach (λ b p a. AllByRecursion (λ q. IsTrue (comes_before q p)) b) before ps → AtEach (λ b p a. AllByRecursion (λ q. IsTrue (comes_before q p)) b) (more ++ before) ps
rise-shift more before [] all r = tt
rise-shift more before (p ∷ ps) all r = (
  AllByRecursion-append (λ q. IsTrue (comes_before q p)) more before all.0 r.0,
  subst (λ b. AtEach (λ b' p' a. AllByRecursion (λ q. IsTrue (comes_before q p')) b') b ps) (sym (append_assoc more before (p ∷ []))) (rise-shift more (before ++ p ∷ []) ps all.1 r.1),
)

pub Rise-append : (xs ys : List (List ℕ)) → Rise xs → Rise ys → AllByRecursion (λ y. AllByRecursion (λ x. IsTrue (comes_before x y)) xs) ys → Rise (xs ++ ys)
Rise-append xs ys a b all =
    AtEach-append (λ before p. AllByRecursion (λ q. IsTrue (comes_before q p)) before) [] xs ys a
    (subst (λ z. AtEach (λ before p after. AllByRecursion (λ q. IsTrue (comes_before q p)) before) z ys) (append-nil xs) (rise-shift xs [] ys all b))

pub judgement_paths-append : (xs ys : List Note) → paths (judgements (xs ++ ys)) ≡ paths (judgements xs) ++ paths (judgements ys)
judgement_paths-append xs ys = ap paths (flat_map-append judgement_in xs ys) ∙ map-append (λ (j : Judgement). j.path) (judgements xs) (judgements ys)

parents-shift : (path : List ℕ) (more before : List Note) (note : Note) → AllByRecursion (HasParentBelow path before) (judgement_in note) → AllByRecursion (HasParentBelow path (more ++ before)) (judgement_in note)
parents-shift path more before note a =
    AllByRecursion-weaker (HasParentBelow path before) (HasParentBelow path (more ++ before))
    (λ j. elim [ inl e ↦ inl e | inr c ↦ inr (visited-shift more before (parent_of j.path) c) ]) (judgement_in note) a

ends-shift : (more before : List Note) (note : Note) → AllByRecursion (λ p. Contains (visited_paths before) p) (ended_in note) → AllByRecursion (λ p. Contains (visited_paths (more ++ before)) p) (ended_in note)
ends-shift more before note a =
    AllByRecursion-weaker (λ p. Contains (visited_paths before) p) (λ p. Contains (visited_paths (more ++ before)) p) (λ p c. visited-shift more before p c) (ended_in note) a

-- nothing was done yet
pub span-none : (path : List ℕ) (low high : ℕ) → IsSpan path low high []
span-none path low high = record { events = tt; hosts = tt; rises = tt; parents = tt; nests = tt; ends = tt; ends_once = λ p. omega arith }

pub span-nothing : (path : List ℕ) → IsSpan path 0 0 []
span-nothing path = span-none path 0 0

-- the parts of two lists of entries of children, of which the second are later children
module _ (path : List ℕ) (a b c d : ℕ) (xs ys : List Note) (ab : a ≤ b) (bc : b ≤ c) (cd : c ≤ d) (first : AllByRecursion (InChild path a b) (event_paths xs)) (second : AllByRecursion (InChild path c d) (event_paths ys)) where
  pub events-join : AllByRecursion (InChild path a d) (event_paths (xs ++ ys))
  events-join =
      all-flat (InChild path a d) event_in xs ys
      (AllByRecursion-weaker (InChild path a b) (InChild path a d) (wider path a b a d (omega arith) (omega arith)) (event_paths xs) first)
      (AllByRecursion-weaker (InChild path c d) (InChild path a d) (wider path c d a d (omega arith) (omega arith)) (event_paths ys) second)

  pub rises-join : Rise (paths (judgements xs)) → Rise (paths (judgements ys)) → Rise (paths (judgements (xs ++ ys)))
  rises-join r s =
      subst Rise (sym (judgement_paths-append xs ys)) (Rise-append (paths (judgements xs)) (paths (judgements ys)) r s
      (AllByRecursion-weaker (InChild path c d) (λ y. AllByRecursion (λ x. IsTrue (comes_before x y)) (paths (judgements xs)))
      (λ y v. AllByRecursion-weaker (InChild path a b) (λ x. IsTrue (comes_before x y))
      (λ x u. let less : u.number < v.number = let e = u.below in let f = v.from in omega arith in
      ap₂ comes_before u.is v.is ∙ before-siblings path u.number u.rest v.number v.rest less)
      (paths (judgements xs)) (judgements-from_events (InChild path a b) xs first))
      (paths (judgements ys)) (judgements-from_events (InChild path c d) ys second)))

  pub once-join : IsOnce (ended_paths xs) → IsOnce (ended_paths ys) → IsOnce (ended_paths (xs ++ ys))
  once-join r s p = let w = ends-weigh p xs ys in let both = by (occurs p (ended_paths xs)) (occurs p (ended_paths ys)) refl refl in omega arith
    where
      by : (m n : ℕ) → occurs p (ended_paths xs) ≡ m → occurs p (ended_paths ys) ≡ n → occurs p (ended_paths xs) + occurs p (ended_paths ys) ≤ 1
      by zero n e f = let h = s p in omega arith
      by (suc m) zero e f = let h = r p in omega arith
      by (suc m) (suc n) e f =
          let u = all-weighs is_path is_path-same is_path-is (InChild path a b) (ended_paths xs) p (ended-from_events (InChild path a b) xs first) (omega arith) in
          let v = all-weighs is_path is_path-same is_path-is (InChild path c d) (ended_paths ys) p (ended-from_events (InChild path c d) ys second) (omega arith) in
          absurd (apart-end path a b c d (λ i j e1 e2 e3 e4 same. absurd (omega arith)) p u p v refl)

pub parents-join : (path : List ℕ) (xs ys : List Note) → EachJudged (HasParentBelow path) xs → EachJudged (HasParentBelow path) ys → EachJudged (HasParentBelow path) (xs ++ ys)
parents-join path xs ys r s =
    AtEach-join (λ before note. AllByRecursion (HasParentBelow path before) (judgement_in note)) xs ys (parents-shift path xs) r s

pub ends-join : (xs ys : List Note) → EndsVisits xs → EndsVisits ys → EndsVisits (xs ++ ys)
ends-join xs ys r s =
    AtEach-join (λ before note. AllByRecursion (λ p. Contains (visited_paths before) p) (ended_in note)) xs ys (ends-shift xs) r s

-- what was done of later children comes behind
pub span-append : (path : List ℕ) (a b c d : ℕ) (xs ys : List Note) → a ≤ b → b ≤ c → c ≤ d → IsSpan path a b xs → IsSpan path c d ys → IsSpan path a d (xs ++ ys)
span-append path a b c d xs ys ab bc cd s r = record {
  events = events-join path a b c d xs ys ab bc cd s.events r.events;
  hosts = all-flat (IsNear path a d) sent_in xs ys
      (AllByRecursion-weaker (IsNear path a b) (IsNear path a d) (wider-near path a b a d (omega arith) (omega arith)) (sent_paths xs) s.hosts)
      (AllByRecursion-weaker (IsNear path c d) (IsNear path a d) (wider-near path c d a d (omega arith) (omega arith)) (sent_paths ys) r.hosts);
  rises = rises-join path a b c d xs ys ab bc cd s.events r.events s.rises r.rises;
  parents = parents-join path xs ys s.parents r.parents;
  nests = Nests-append xs ys s.nests r.nests
      (AllByRecursion-weaker (InChild path a b) (λ p. Apart p ys) (apart-span path a b c d (λ i j e f g h same. absurd (omega arith)) ys r.events r.hosts) (visited_paths xs) (visited-from_events (InChild path a b) xs s.events))
      (AllByRecursion-weaker (InChild path c d) (λ p. Apart p xs) (apart-span path c d a b (λ i j e f g h same. absurd (omega arith)) xs s.events s.hosts) (visited_paths ys) (visited-from_events (InChild path c d) ys r.events));
  ends = ends-join xs ys s.ends r.ends;
  ends_once = once-join path a b c d xs ys ab bc cd s.events r.events s.ends_once r.ends_once;
}

-- a child of a path at or above was spawned
pub span-spawned : (path : List ℕ) (k number : ℕ) (host : List ℕ) → AtOrBelow host path → IsSpan path k k (spawned (host ++ number ∷ []) ∷ [])
span-spawned path k number host up = record { events = tt; hosts = (record { host = host; number = number; is = refl; near = inl up }, tt); rises = tt; parents = (tt, tt); nests = (tt, tt); ends = (tt, tt); ends_once = λ p. omega arith }

-- a child of a path at or above was handed over
pub span-handed : (path : List ℕ) (k number : ℕ) (host : List ℕ) → AtOrBelow host path → IsSpan path k k (handed (host ++ number ∷ []) ∷ [])
span-handed path k number host up = record { events = tt; hosts = (record { host = host; number = number; is = refl; near = inl up }, tt); rises = tt; parents = (tt, tt); nests = (tt, tt); ends = (tt, tt); ends_once = λ p. omega arith }

-- children of a path at or above were spawned
pub span-spawned_all : (path : List ℕ) (k : ℕ) (host : List ℕ) → AtOrBelow host path → (children : List (List ℕ)) → AllByRecursion (λ c. (number : ℕ) × (c ≡ host ++ number ∷ [])) children → IsSpan path k k (map spawned children)
span-spawned_all path k host up [] a = span-none path k k
span-spawned_all path k host up (c ∷ cs) a =
    span-append path k k k k (spawned c ∷ []) (map spawned cs) (omega arith) (omega arith) (omega arith)
    (subst (λ q. IsSpan path k k (spawned q ∷ [])) (sym a.0.1) (span-spawned path k a.0.0 host up))
    (span-spawned_all path k host up cs a.1)

-- children of a path at or above were handed over
pub span-handed_all : (path : List ℕ) (k : ℕ) (host : List ℕ) → AtOrBelow host path → (children : List (List ℕ)) → AllByRecursion (λ c. (number : ℕ) × (c ≡ host ++ number ∷ [])) children → IsSpan path k k (map handed children)
span-handed_all path k host up [] a = span-none path k k
span-handed_all path k host up (c ∷ cs) a =
    span-append path k k k k (handed c ∷ []) (map handed cs) (omega arith) (omega arith) (omega arith)
    (subst (λ q. IsSpan path k k (handed q ∷ [])) (sym a.0.1) (span-handed path k a.0.0 host up))
    (span-handed_all path k host up cs a.1)

-- a node that was cut
pub block-cut : (c : List ℕ) (bound held : ℕ) → IsBlock c (cut c bound held ∷ [])
block-cut c bound held = record {
  events = (record { rest = []; is = sym (append-nil c) }, tt);
  hosts = tt;
  rises = (tt, tt);
  parents = ((λ ne. absurd (ne refl), tt), tt);
  nests = (tt, tt);
  ends = (tt, tt);
  ends_once = λ p. omega arith;
}

-- a block of a child is a span of that child alone
pub split-push : (path host rest : List ℕ) (k : ℕ) → path ++ k ∷ [] ≡ host ++ rest → AtOrBelow host path ⊎ (host ≡ path ++ k ∷ [])
split-push path [] rest k e = inl (record { rest = path; is = refl })
split-push [] (h ∷ []) rest k e = let same : ◌≡◌ {A = ℕ} k h = cc in inr (ap (λ n. n ∷ []) (sym same))
split-push [] (h ∷ i ∷ hs) rest k e = absurd (cc)
split-push (p ∷ ps) (h ∷ hs) rest k e =
    let head : ◌≡◌ {A = ℕ} p h = cc in
    let tail : ps ++ k ∷ [] ≡ hs ++ rest = cc in
    elim (split-push ps hs rest k tail) [
      | inl up ↦ inl (record { rest = up.rest; is = ap₂ (λ (n : ℕ) (ns : List ℕ). n ∷ ns) head up.is })
      | inr same ↦ inr (ap₂ (λ (n : ℕ) (ns : List ℕ). n ∷ ns) (sym head) same)
    ]

near_child : (path : List ℕ) (k : ℕ) (p : List ℕ) → IsNearBlock (path ++ k ∷ []) p → IsNear path k (suc k) p
near_child path k p u = record {
  host = u.host;
  number = u.number;
  is = u.is;
  near = elim u.near [
    | inl up ↦ elim (split-push path u.host up.rest k up.is) [ inl above ↦ inl above | inr same ↦ inr (in_child path k u.host (record { rest = []; is = same ∙ sym (append-nil (path ++ k ∷ [])) })) ]
    | inr down ↦ inr (in_child path k u.host down)
  ];
}

parents_child : (path : List ℕ) (k : ℕ) (before : List Note) (js : List Judgement) → AllByRecursion (HasParent (path ++ k ∷ []) before) js → AllByRecursion (HasParentBelow path before) js
parents_child path k before [] a = tt
parents_child path k before (j ∷ js) a = (
  elim (is_path j.path (path ++ k ∷ [])) as (λ b. is_path j.path (path ++ k ∷ []) ≡ b → HasParentBelow path before j) [
    | true ↦ λ e. inl (ap parent_of (is_path-is j.path (path ++ k ∷ []) e) ∙ parent_of-push path k)
    | false ↦ λ e. inr (a.0 (is_path-not j.path (path ++ k ∷ []) e))
  ]
      refl,
  parents_child path k before js a.1,
)

at_each-weaker : (P Q : List Note → Note → Type 0) (before notes : List Note) → ((b : List Note) (n : Note) → P b n → Q b n) → AtEach (λ b n a. P b n) before notes → AtEach (λ b n a. Q b n) before notes
at_each-weaker P Q before [] f a = tt
at_each-weaker P Q before (n ∷ ns) f a = (f before n a.0, at_each-weaker P Q (before ++ n ∷ []) ns f a.1)

-- the same of what was done of a child as far as it goes
pub open-span : (path : List ℕ) (k : ℕ) (notes : List Note) → AllByRecursion (AtOrBelow (path ++ k ∷ [])) (event_paths notes) → EachJudged (HasParent (path ++ k ∷ [])) notes → AllByRecursion (InChild path k (suc k)) (event_paths notes) × EachJudged (HasParentBelow path) notes
open-span path k notes events parents = (
  AllByRecursion-weaker (AtOrBelow (path ++ k ∷ [])) (InChild path k (suc k)) (in_child path k) (event_paths notes) events,
  at_each-weaker (λ b n. AllByRecursion (HasParent (path ++ k ∷ []) b) (judgement_in n)) (λ b n. AllByRecursion (HasParentBelow path b) (judgement_in n)) [] notes (λ b n. parents_child path k b (judgement_in n)) parents,
)

pub span-block : (path : List ℕ) (k : ℕ) (notes : List Note) → IsBlock (path ++ k ∷ []) notes → IsSpan path k (suc k) notes
span-block path k notes s = record {
  events = AllByRecursion-weaker (AtOrBelow (path ++ k ∷ [])) (InChild path k (suc k)) (in_child path k) (event_paths notes) s.events;
  hosts = AllByRecursion-weaker (IsNearBlock (path ++ k ∷ [])) (IsNear path k (suc k)) (near_child path k) (sent_paths notes) s.hosts;
  rises = s.rises;
  parents = at_each-weaker (λ b n. AllByRecursion (HasParent (path ++ k ∷ []) b) (judgement_in n)) (λ b n. AllByRecursion (HasParentBelow path b) (judgement_in n)) [] notes (λ b n. parents_child path k b (judgement_in n)) s.parents;
  nests = s.nests;
  ends = s.ends;
  ends_once = s.ends_once;
}

only-le : (p q : List ℕ) → only p q ≤ 1
only-le p q = elim (is_path p q) as (λ b. cond b 1 0 ≤ 1) [ true ↦ omega arith | false ↦ omega arith ]

-- a visit with all that was done below it, closed by its end
module _ (c : List ℕ) (k worth held : ℕ) (inside : List Note) (s : IsSpan c 0 k inside) where
  itself : AtOrBelow c c
  itself = record { rest = []; is = sym (append-nil c) }

  events_close : AllByRecursion (AtOrBelow c) (event_paths (inside ++ ended c ∷ []))
  events_close =
      all-flat (AtOrBelow c) event_in inside (ended c ∷ [])
      (AllByRecursion-weaker (InChild c 0 k) (AtOrBelow c) (λ p u. record { rest = u.number ∷ u.rest; is = u.is }) (event_paths inside) s.events)
      (itself, tt)

  hosts_close : AllByRecursion (IsNearBlock c) (sent_paths (inside ++ ended c ∷ []))
  hosts_close =
      all-flat (IsNearBlock c) sent_in inside (ended c ∷ [])
      (AllByRecursion-weaker (IsNear c 0 k) (IsNearBlock c) (λ p u. record { host = u.host; number = u.number; is = u.is; near = elim u.near [ inl up ↦ inl up | inr down ↦ inr (record { rest = down.number ∷ down.rest; is = down.is }) ] }) (sent_paths inside) s.hosts)
      tt

  judged_close : paths (judgements (inside ++ ended c ∷ [])) ≡ paths (judgements inside)
  judged_close = judgement_paths-append inside (ended c ∷ []) ∙ append-nil (paths (judgements inside))

  rises_close : Rise (c ∷ paths (judgements (inside ++ ended c ∷ [])))
  rises_close =
      subst (λ ps. Rise (c ∷ ps)) (sym judged_close)
      (Rise-append (c ∷ []) (paths (judgements inside)) (tt, tt) s.rises
      (AllByRecursion-weaker (InChild c 0 k) (λ y. AllByRecursion (λ x. IsTrue (comes_before x y)) (c ∷ []))
      (λ y u. (ap (comes_before c) u.is ∙ before-itself c u.number u.rest, tt)) (paths (judgements inside)) (judgements-from_events (InChild c 0 k) inside s.events)))

  start : Note
  start = visited c worth held

  first_visit : (before : List Note) → Contains (visited_paths (visited c worth held ∷ before)) c
  first_visit before = Contains-head c (visited_paths before)

  parents_step : (before : List Note) (note : Note) → AllByRecursion (HasParentBelow c before) (judgement_in note) → AllByRecursion (HasParent c (visited c worth held ∷ before)) (judgement_in note)
  parents_step before note a =
      AllByRecursion-weaker (HasParentBelow c before) (HasParent c (visited c worth held ∷ before))
      (λ j. elim [ inl e ↦ λ ne. subst (Contains (visited_paths (visited c worth held ∷ before))) (sym e) (first_visit before) | inr u ↦ λ ne. Contains-tail c (visited_paths before) (parent_of j.path) u ])
      (judgement_in note) a

  shift-by : (P Q : List Note → Note → Type 0) (before notes : List Note) → ((b : List Note) (n : Note) → P b n → Q (visited c worth held ∷ b) n) → AtEach (λ b n a. P b n) before notes → AtEach (λ b n a. Q b n) (visited c worth held ∷ before) notes
  shift-by P Q before [] f a = tt
  shift-by P Q before (n ∷ ns) f a = (f before n a.0, shift-by P Q (before ++ n ∷ []) ns f a.1)

  parents_close : EachJudged (HasParent c) (visited c worth held ∷ (inside ++ ended c ∷ []))
  parents_close = (
    (λ ne. absurd (ne refl), tt),
    AtEach-append (λ b n. AllByRecursion (HasParent c b) (judgement_in n)) (visited c worth held ∷ []) inside (ended c ∷ [])
        (shift-by (λ b n. AllByRecursion (HasParentBelow c b) (judgement_in n)) (λ b n. AllByRecursion (HasParent c b) (judgement_in n)) [] inside parents_step s.parents)
        (tt, tt),
  )

  ends_close : EndsVisits (visited c worth held ∷ (inside ++ ended c ∷ []))
  ends_close = (
    tt,
    AtEach-append (λ b n. AllByRecursion (λ p. Contains (visited_paths b) p) (ended_in n)) (visited c worth held ∷ []) inside (ended c ∷ [])
        (shift-by (λ b n. AllByRecursion (λ p. Contains (visited_paths b) p) (ended_in n)) (λ b n. AllByRecursion (λ p. Contains (visited_paths b) p) (ended_in n)) [] inside (λ b n a. AllByRecursion-weaker (λ p. Contains (visited_paths b) p) (λ p. Contains (visited_paths (visited c worth held ∷ b)) p) (λ p u. Contains-tail c (visited_paths b) p u) (ended_in n) a) s.ends)
        ((first_visit inside, tt), tt),
  )

  nests_close : Nests (visited c worth held ∷ (inside ++ ended c ∷ []))
  nests_close =
      Nests-close c worth held inside s.nests
      (AllByRecursion-weaker (InChild c 0 k) (λ p. IsTrue (lies_below c p)) (λ p u. ap (lies_below c) u.is ∙ below-itself c u.number u.rest) (event_paths inside) s.events)
      (AllByRecursion-weaker (InChild c 0 k) (λ p. p ≢ c) (λ p u. not_same p u) (ended_paths inside) (ended-from_events (InChild c 0 k) inside s.events))
      (AllByRecursion-weaker (InChild c 0 k) (λ p. Apart p (visited c worth held ∷ []))
      (λ p u. record { no_end = tt; none_below = (ap (λ v. lies_below v c) u.is ∙ not-below-up c (u.number ∷ u.rest), tt); no_child = tt })
      (visited_paths inside) (visited-from_events (InChild c 0 k) inside s.events))
      (AllByRecursion-weaker (InChild c 0 k) (λ p. Apart p (ended c ∷ []))
      (λ p u. record { no_end = ((λ e. not_same p u (sym e)), tt); none_below = (ap (λ v. lies_below v c) u.is ∙ not-below-up c (u.number ∷ u.rest), tt); no_child = tt })
      (visited_paths inside) (visited-from_events (InChild c 0 k) inside s.events))
    where
      not_same : (p : List ℕ) → InChild c 0 k p → p ≢ c
      not_same p u e = let n = ap length u.is ∙ length-append c (u.number ∷ u.rest) in let m = ap length e in absurd (omega (arith, n, m))

  once_close : IsOnce (ended_paths (visited c worth held ∷ (inside ++ ended c ∷ [])))
  once_close p =
      let w = ends-weigh p inside (ended c ∷ []) in
      let one = sum_by-cons (only p) c [] in
      let h = s.ends_once p in
      let both = by (occurs p (ended_paths inside)) refl in
      omega arith
    where
      by : (n : ℕ) → occurs p (ended_paths inside) ≡ n → occurs p (ended_paths inside) + only p c ≤ 1
      by zero e = let le = only-le p c in omega arith
      by (suc n) e =
          let u = all-weighs is_path is_path-same is_path-is (InChild c 0 k) (ended_paths inside) p (ended-from_events (InChild c 0 k) inside s.events) (omega arith) in
          let differs : c ≢ p = λ same. (let x = ap length u.is ∙ length-append c (u.number ∷ u.rest) in let y = ap length same in absurd (omega (arith, x, y))) in
          let none = only-other p c differs in
          let h = s.ends_once p in
          omega arith

  pub block-close : IsBlock c (visited c worth held ∷ (inside ++ ended c ∷ []))
  block-close = record { events = (itself, events_close); hosts = hosts_close; rises = rises_close; parents = parents_close; nests = nests_close; ends = ends_close; ends_once = once_close }
