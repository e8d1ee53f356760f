-- What the rules say of one place in a list of entries: which visits are open there, and what may come next.
use Rattle.std.proofs.Common.{◌≡◌, ◌≢◌, ℕ, zero, suc, ◌+◌, ◌<◌, ◌≤◌, List, [], ◌∷◌, ◌++◌, length, Bool, true, false, cond, ◌&&◌, ◌||◌, ◌==◌, nat_lt, ltb-true, refl, ap, ap₂, sym, subst, ◌∙◌, append_assoc, append-nil, arith}
use Rattle.std.specs.Prelude.{IsTrue, IsFalse}
use Rattle.std.specs.List.{AllByRecursion, flat_map}
use Rattle.std.proofs.lemmas.List.Sums.{sum_by-append, sum_by-cons}
use Rattle.std.proofs.lemmas.List.Concat.{flat_map-append}
use Rattle.std.proofs.lemmas.Bool.Decides.{nat_tests}
use Rattle.yew_log.specs.Places.{AtEach}
use Rattle.yew_laws.specs.Order.{is_path, comes_before, lies_below, parent_of}
use Rattle.yew_log.specs.Notes.{Note, taken, visited, cut, spawned, handed, ended, Judgement, paths, judgements, visit_in, judgement_in, event_in, taken_in, sent_in, visited_paths, ended_paths, event_paths}
use Rattle.yew_log.specs.Segment.{Rise, IsEnclosed, Nests}
use Rattle.yew_laws.proofs.PathTests.{is_path-same, is_path-is}
use Rattle.yew_laws.specs.Order.{only}
use Rattle.yew_laws.proofs.Bags.{none-weighs}
use Rattle.yew_log.proofs.Ends.{ends-weigh, enclosed-ends}
use Rattle.yew_laws.specs.Order.{occurs}
use Rattle.yew_laws.proofs.Weights.{all-weighs}
use Rattle.yew_log.proofs.Blocks.{judgement_paths-append}

pub AtEach-at : {X : Type 0} (P : List X → X → List X → Type 0) (before zs : List X) (x : X) (after : List X) → AtEach P before (zs ++ x ∷ after) → P (before ++ zs) x after
AtEach-at P before [] x after a = subst (λ b. P b x after) (sym (append-nil before)) a.0
AtEach-at P before (z ∷ zs) x after a = subst (λ b. P b x after) (append_assoc before (z ∷ []) zs) (AtEach-at P (before ++ z ∷ []) zs x after a.1)

pub all-at : {X Y : Type 0} (P : Y → Type 0) (f : X → List Y) (zs : List X) (x : X) (after : List X) → AllByRecursion P (flat_map f (zs ++ x ∷ after)) → AllByRecursion P (f x)
all-at {X} {Y} P f [] x after a = front (f x) a
  where
    front : (ys : List Y) → AllByRecursion P (ys ++ flat_map f after) → AllByRecursion P ys
    front [] b = tt
    front (y ∷ ys) b = (b.0, front ys b.1)
all-at {X} {Y} P f (z ∷ zs) x after a = all-at P f zs x after (back (f z) a)
  where
    back : (ys : List Y) → AllByRecursion P (ys ++ flat_map f (zs ++ x ∷ after)) → AllByRecursion P (flat_map f (zs ++ x ∷ after))
    back [] b = b
    back (y ∷ ys) b = back ys b.1

pub before-not-itself : (p : List ℕ) → comes_before p p ≡ false
before-not-itself [] = refl
before-not-itself (k ∷ p) = let r = before-not-itself p in let n : nat_lt k k ≡ false = grind (arith, nat_tests) in let s : (k == k) ≡ true = grind (arith, nat_tests) in ap₂ (λ a b. a || b) n (ap₂ (λ a b. a && b) s r)

pub below-longer : (p q : List ℕ) → lies_below p q ≡ true → length p < length q
below-longer [] [] e = absurd (cc)
below-longer [] (k ∷ q) e = omega arith
below-longer (j ∷ p) [] e = absurd (cc)
below-longer (j ∷ p) (k ∷ q) e = by (j == k) refl (λ f. below-longer p q f)
  where
    by : (b : Bool) → (j == k) ≡ b → (lies_below p q ≡ true → length p < length q) → length (j ∷ p) < length (k ∷ q)
    by true f rec = let g : lies_below p q ≡ true = rw f at e in let r = rec g in omega arith
    by false f rec = let g : false ≡ true = rw f at e in absurd (cc)

pub first-holds : (x y : Bool) → (x || (false && y)) ≡ true → x ≡ true
first-holds true y e = refl
first-holds false y e = e

pub second-holds : (x y : Bool) → x ≡ false → (x || (true && y)) ≡ true → y ≡ true
second-holds true y n e = absurd (cc)
second-holds false y n e = e

pub not-less-itself : (j k : ℕ) → (j == k) ≡ true → nat_lt j k ≡ false
not-less-itself j k e = grind (arith, nat_tests)

pub not-both-less : (j k : ℕ) → nat_lt j k ≡ true → nat_lt k j ≡ true → ⊥
not-both-less j k a b = omega (arith, ltb-true j k a, ltb-true k j b)

pub turned : (j k : ℕ) (b : Bool) → (j == k) ≡ b → (k == j) ≡ b
turned j k b e = grind (arith, nat_tests)

pub before-one-way : (p q : List ℕ) → comes_before p q ≡ true → comes_before q p ≡ true → ⊥
before-one-way p [] a b = let k : false ≡ true = a in cc
before-one-way [] (k ∷ q) a b = let j : false ≡ true = b in cc
before-one-way (j ∷ p) (k ∷ q) a b = by (j == k) refl (before-one-way p q)
  where
    by : (v : Bool) → (j == k) ≡ v → (comes_before p q ≡ true → comes_before q p ≡ true → ⊥) → ⊥
    by true e rec =
        rec (second-holds (nat_lt j k) (comes_before p q) (not-less-itself j k e) (subst (λ v. (nat_lt j k || (v && comes_before p q)) ≡ true) e a))
        (second-holds (nat_lt k j) (comes_before q p) (not-less-itself k j (turned j k true e)) (subst (λ v. (nat_lt k j || (v && comes_before q p)) ≡ true) (turned j k true e) b))
    by false e rec =
        not-both-less j k
        (first-holds (nat_lt j k) (comes_before p q) (subst (λ v. (nat_lt j k || (v && comes_before p q)) ≡ true) e a))
        (first-holds (nat_lt k j) (comes_before q p) (subst (λ v. (nat_lt k j || (v && comes_before q p)) ≡ true) (turned j k false e) b))

pub unparent : (p : List ℕ) → p ≢ [] → (k : ℕ) × (p ≡ parent_of p ++ k ∷ [])
unparent [] ne = absurd (ne refl)
unparent (k ∷ []) ne = (k, refl)
unparent (j ∷ k ∷ p) ne = let r = unparent (k ∷ p) (λ e. absurd (cc)) in (r.0, ap (λ ns. j ∷ ns) r.1)

-- where a visit stands
pub record Place (q : List ℕ) (notes : List Note) : Type 0 where
  pub front : List Note
  pub worth : ℕ
  pub held : ℕ
  pub back : List Note
  pub is : notes ≡ front ++ visited q worth held ∷ back

pub later_place : (q : List ℕ) (note : Note) (ns : List Note) → Place q ns → Place q (note ∷ ns)
later_place q note ns r = record { front = note ∷ r.front; worth = r.worth; held = r.held; back = r.back; is = ap (λ ms. note ∷ ms) r.is }

pub place : (q : List ℕ) (notes : List Note) → 0 < occurs q (visited_paths notes) → Place q notes
place q [] more = absurd (omega arith)
place q (taken p ∷ ns) more = later_place q (taken p) ns (place q ns more)
place q (cut p b h ∷ ns) more = later_place q (cut p b h) ns (place q ns more)
place q (spawned p ∷ ns) more = later_place q (spawned p) ns (place q ns more)
place q (handed p ∷ ns) more = later_place q (handed p) ns (place q ns more)
place q (ended p ∷ ns) more = later_place q (ended p) ns (place q ns more)
place q (visited p w h ∷ ns) more =
    let c = sum_by-cons (only q) p (visited_paths ns) in
    elim (is_path q p) as (λ b. is_path q p ≡ b → Place q (visited p w h ∷ ns)) [
      | true ↦ λ e. record { front = []; worth = w; held = h; back = ns; is = ap (λ r. visited r w h ∷ ns) (sym (is_path-is q p e)) }
      | false ↦ λ e. let z : ◌≡◌ {A = ℕ} (only q p) 0 = ap (λ b. cond b 1 0) e in later_place q (visited p w h) ns (place q ns (omega (arith, c, z, more)))
    ]
    refl

-- the entries up to an end, where they have that end not yet
pub record UpTo (q : List ℕ) (a rest inside outside : List Note) : Type 0 where
  pub more : List Note
  pub inside_is : inside ≡ a ++ more
  pub rest_is : rest ≡ more ++ ended q ∷ outside

pub up_to : (q : List ℕ) (a rest inside outside : List Note) → occurs q (ended_paths a) ≡ 0 → a ++ rest ≡ inside ++ ended q ∷ outside → UpTo q a rest inside outside
up_to q [] rest inside outside z e = record { more = inside; inside_is = refl; rest_is = e }
up_to q (n ∷ a) rest [] outside z e =
    let head : n ≡ ended q = cc in
    let z' : occurs q (ended_paths (ended q ∷ a)) ≡ 0 = subst (λ m. occurs q (ended_paths (m ∷ a)) ≡ 0) head z in
    let c = sum_by-cons (only q) q (ended_paths a) in
    let i : ◌≡◌ {A = ℕ} (only q q) 1 = ap (λ b. cond b 1 0) (is_path-same q) in
    absurd (omega (arith, z', c, i))
up_to q (n ∷ a) rest (m ∷ inside) outside z e =
    let head : n ≡ m = cc in
    let tail : a ++ rest ≡ inside ++ ended q ∷ outside = cc in
    let w = ends-weigh q (n ∷ []) a in
    let r = up_to q a rest inside outside (omega (arith, w, z)) tail in
    record { more = r.more; inside_is = ap₂ (λ (x : Note) (xs : List Note). x ∷ xs) (sym head) r.inside_is; rest_is = r.rest_is }

-- a visit that is open after these entries: a next event that is not its end lies below it
pub open-below : (q : List ℕ) (zs : List Note) (x : Note) (xs : List Note) (p : List ℕ) → Nests (zs ++ x ∷ xs) → 0 < occurs q (visited_paths zs) → occurs q (ended_paths zs) ≡ 0 → event_in x ≡ p ∷ [] → x ≢ ended q → lies_below q p ≡ true
open-below q zs x xs p nests entry_note unended event other =
    let at = place q zs entry_note in
    let whole : zs ++ x ∷ xs ≡ at.front ++ visited q at.worth at.held ∷ (at.back ++ x ∷ xs) = ap (λ ns. ns ++ x ∷ xs) at.is ∙ append_assoc at.front (visited q at.worth at.held ∷ at.back) (x ∷ xs) in
    let s = (AtEach-at (λ b n a. AllByRecursion (λ (v : Judgement). IsEnclosed v.path b a) (visit_in n)) [] at.front (visited q at.worth at.held) (at.back ++ x ∷ xs) (subst Nests whole nests)).0 in
    let w = ap (λ ns. occurs q (ended_paths ns)) at.is ∙ ends-weigh q at.front (visited q at.worth at.held ∷ at.back) in
    let u = up_to q at.back (x ∷ xs) s.inside s.outside (omega (arith, w, unended)) s.is_ended in
    by at.back s.inside s.outside u.more u.inside_is u.rest_is s.below_inside
  where
    by : (a inside outside more : List Note) → inside ≡ a ++ more → x ∷ xs ≡ more ++ ended q ∷ outside → AllByRecursion (λ r. IsTrue (lies_below q r)) (event_paths inside) → lies_below q p ≡ true
    by a inside outside [] i r all = absurd (other (cc))
    by a inside outside (m ∷ more) i r all =
        let head : x ≡ m = cc in
        let here = all-at (λ r'. IsTrue (lies_below q r')) event_in a m more (subst (λ ns. AllByRecursion (λ r'. IsTrue (lies_below q r')) (event_paths ns)) i all) in
        (subst (AllByRecursion (λ r'. IsTrue (lies_below q r'))) (ap event_in (sym head) ∙ event) here).0

pub all-paths : (P : List ℕ → Type 0) (js : List Judgement) → AllByRecursion (λ (j : Judgement). P j.path) js → AllByRecursion P (paths js)
all-paths P [] a = tt
all-paths P (j ∷ js) a = (a.0, all-paths P js a.1)

-- what an entry is that is no task
pub data Kind (x : Note) : Type 0 where
  a_judged : (p : List ℕ) → paths (judgement_in x) ≡ p ∷ [] → event_in x ≡ p ∷ [] → ((q : List ℕ) → x ≢ ended q) → Kind x
  an_end : (q : List ℕ) → x ≡ ended q → Kind x

pub kind : (x : Note) → taken_in x ≡ [] → sent_in x ≡ [] → Kind x
kind (taken p) a b = absurd (cc)
kind (spawned p) a b = absurd (cc)
kind (handed p) a b = absurd (cc)
kind (ended p) a b = an_end p refl
kind (visited p w h) a b = a_judged p refl refl (λ q e. absurd (cc))
kind (cut p w h) a b = a_judged p refl refl (λ q e. absurd (cc))

pub none-at : (f : Note → List (List ℕ)) (zs : List Note) (x : Note) (xs : List Note) → flat_map f (zs ++ x ∷ xs) ≡ [] → f x ≡ []
none-at f zs x xs e = by (f x) (all-at (λ y. ⊥) f zs x xs (subst (AllByRecursion (λ y. ⊥)) (sym e) tt))
  where
    by : (ys : List (List ℕ)) → AllByRecursion (λ y. ⊥) ys → ys ≡ []
    by [] a = refl
    by (y ∷ ys) a = absurd a.0

pub AtEach-rest : {X : Type 0} (P : List X → X → List X → Type 0) (before zs ys : List X) → AtEach P before (zs ++ ys) → AtEach P (before ++ zs) ys
AtEach-rest P before [] ys a = subst (λ b. AtEach P b ys) (sym (append-nil before)) a
AtEach-rest P before (z ∷ zs) ys a = subst (λ b. AtEach P b ys) (append_assoc before (z ∷ []) zs) (AtEach-rest P (before ++ z ∷ []) zs ys a.1)

pub judgements-head : (x : Note) (xs : List Note) (p : List ℕ) → paths (judgement_in x) ≡ p ∷ [] → paths (judgements (x ∷ xs)) ≡ p ∷ paths (judgements xs)
judgements-head x xs p e = judgement_paths-append (x ∷ []) xs ∙ ap (λ ps. ps ++ paths (judgements xs)) (ap paths (append-nil (judgement_in x)) ∙ e)

pub rise-split : (zs : List Note) (x : Note) (xs : List Note) (p : List ℕ) → Rise (paths (judgements (zs ++ x ∷ xs))) → paths (judgement_in x) ≡ p ∷ [] → Rise (paths (judgements zs) ++ p ∷ paths (judgements xs))
rise-split zs x xs p r e = subst Rise (judgement_paths-append zs (x ∷ xs) ∙ ap (λ ps. paths (judgements zs) ++ ps) (judgements-head x xs p e)) r

-- what is judged next comes after all that was judged
pub fresh : (zs : List Note) (x : Note) (xs : List Note) (p : List ℕ) → Rise (paths (judgements (zs ++ x ∷ xs))) → paths (judgement_in x) ≡ p ∷ [] → AllByRecursion (λ q. IsTrue (comes_before q p)) (paths (judgements zs))
fresh zs x xs p r e = AtEach-at (λ b q a. AllByRecursion (λ m. IsTrue (comes_before m q)) b) [] (paths (judgements zs)) p (paths (judgements xs)) (rise-split zs x xs p r e)

pub fresh-not : (zs : List Note) (p : List ℕ) → AllByRecursion (λ q. IsTrue (comes_before q p)) (paths (judgements zs)) → occurs p (paths (judgements zs)) ≡ 0
fresh-not zs p all = by (occurs p (paths (judgements zs))) refl
  where
    by : (n : ℕ) → occurs p (paths (judgements zs)) ≡ n → occurs p (paths (judgements zs)) ≡ 0
    by zero e = e
    by (suc n) e =
        let yes = all-weighs is_path is_path-same is_path-is (λ q. IsTrue (comes_before q p)) (paths (judgements zs)) p all (omega (arith, e)) in
        let nope = before-not-itself p in
        let k : true ≡ false = sym yes ∙ nope in absurd (cc)

pub later-all : (p : List ℕ) (before ps : List (List ℕ)) → 0 < occurs p before → AtEach (λ b q a. AllByRecursion (λ m. IsTrue (comes_before m q)) b) before ps → AllByRecursion (λ q. IsTrue (comes_before p q)) ps
later-all p before [] has r = tt
later-all p before (q ∷ ps) has r = (
  all-weighs is_path is_path-same is_path-is (λ m. IsTrue (comes_before m q)) before p r.0 has,
  later-all p (before ++ q ∷ []) ps (let w = sum_by-append (only p) before (q ∷ []) in omega (arith, w, has)) r.1,
)

-- what is judged later comes after it
pub later-after : (zs : List Note) (x : Note) (xs : List Note) (p q : List ℕ) → Rise (paths (judgements (zs ++ x ∷ xs))) → paths (judgement_in x) ≡ p ∷ [] → 0 < occurs q (paths (judgements xs)) → comes_before p q ≡ true
later-after zs x xs p q r e more =
    let rest = AtEach-rest (λ b m a. AllByRecursion (λ k. IsTrue (comes_before k m)) b) [] (paths (judgements zs)) (p ∷ paths (judgements xs)) (rise-split zs x xs p r e) in
    let i : ◌≡◌ {A = ℕ} (only p p) 1 = ap (λ b. cond b 1 0) (is_path-same p) in
    let w = sum_by-append (only p) (paths (judgements zs)) (p ∷ []) in
    let c = sum_by-cons (only p) p [] in
    let all = later-all p (paths (judgements zs) ++ p ∷ []) (paths (judgements xs)) (omega (arith, w, c, i)) rest.1 in
    all-weighs is_path is_path-same is_path-is (λ m. IsTrue (comes_before p m)) (paths (judgements xs)) q all more

pub judgements-events : (p : List ℕ) (notes : List Note) → occurs p (paths (judgements notes)) ≤ occurs p (event_paths notes)
judgements-events p [] = omega arith
judgements-events p (taken q ∷ ns) = judgements-events p ns
judgements-events p (spawned q ∷ ns) = judgements-events p ns
judgements-events p (handed q ∷ ns) = judgements-events p ns
judgements-events p (ended q ∷ ns) = let r = judgements-events p ns in let c = sum_by-cons (only p) q (event_paths ns) in omega (arith, c, r)
judgements-events p (visited q w h ∷ ns) = let r = judgements-events p ns in let c = sum_by-cons (only p) q (event_paths ns) in let d = sum_by-cons (only p) q (paths (judgements ns)) in omega (arith, c, d, r)
judgements-events p (cut q w h ∷ ns) = let r = judgements-events p ns in let c = sum_by-cons (only p) q (event_paths ns) in let d = sum_by-cons (only p) q (paths (judgements ns)) in omega (arith, c, d, r)

-- the enclosure of a visit that stands in a list
pub record Around (q : List ℕ) (zs rest : List Note) : Type 0 where
  pub front : List Note
  pub back : List Note
  pub ends_are : occurs q (ended_paths zs) ≡ occurs q (ended_paths front) + occurs q (ended_paths back)
  pub encloses : IsEnclosed q front (back ++ rest)

pub around : (q : List ℕ) (zs rest : List Note) → Nests (zs ++ rest) → 0 < occurs q (visited_paths zs) → Around q zs rest
around q zs rest nests entry_note =
    let at = place q zs entry_note in
    let whole : zs ++ rest ≡ at.front ++ visited q at.worth at.held ∷ (at.back ++ rest) = ap (λ ns. ns ++ rest) at.is ∙ append_assoc at.front (visited q at.worth at.held ∷ at.back) rest in
    let w = ap (λ ns. occurs q (ended_paths ns)) at.is ∙ ends-weigh q at.front (visited q at.worth at.held ∷ at.back) in
    record {
      front = at.front;
      back = at.back;
      ends_are = w;
      encloses = (AtEach-at (λ b n a. AllByRecursion (λ (v : Judgement). IsEnclosed v.path b a) (visit_in n)) [] at.front (visited q at.worth at.held) (at.back ++ rest) (subst Nests whole nests)).0;
    }

pub front-unended : (q : List ℕ) (front after : List Note) → IsEnclosed q front after → occurs q (ended_paths front) ≡ 0
front-unended q front after s =
    let all = none-weighs q (ended_paths (front ++ s.inside ++ s.outside)) s.one_end in
    let a = ends-weigh q (front ++ s.inside) s.outside in
    let b = ends-weigh q front s.inside in
    omega (arith, all, a, b)

-- a visit whose end comes next has not ended
pub unended : (q : List ℕ) (zs xs : List Note) → Nests (zs ++ ended q ∷ xs) → 0 < occurs q (visited_paths zs) → occurs q (ended_paths zs) ≡ 0
unended q zs xs nests entry_note =
    let r = around q zs (ended q ∷ xs) nests entry_note in
    let f = front-unended q r.front (r.back ++ ended q ∷ xs) r.encloses in
    let one = enclosed-ends q r.front (r.back ++ ended q ∷ xs) r.encloses in
    let w = ends-weigh q r.back (ended q ∷ xs) in
    let c = sum_by-cons (only q) q (ended_paths xs) in
    let i : ◌≡◌ {A = ℕ} (only q q) 1 = ap (λ b. cond b 1 0) (is_path-same q) in
    let e = r.ends_are in
    omega (arith, f, one, w, c, i, e)

-- nothing below a visit comes after its end
pub none-after_end : (q : List ℕ) (zs xs : List Note) → Nests (zs ++ ended q ∷ xs) → 0 < occurs q (visited_paths zs) → AllByRecursion (λ p. IsFalse (lies_below q p)) (event_paths xs)
none-after_end q zs xs nests entry_note =
    let r = around q zs (ended q ∷ xs) nests entry_note in
    let z = unended q zs xs nests entry_note in
    let e = r.ends_are in
    let s = r.encloses in
    let u = up_to q r.back (ended q ∷ xs) s.inside s.outside (omega (arith, z, e)) s.is_ended in
    by r.front r.back s.inside s.outside u.more u.inside_is u.rest_is s.below_inside s.none_outside
  where
    back-of : (front outside : List Note) → AllByRecursion (λ p. IsFalse (lies_below q p)) (event_paths (front ++ outside)) → AllByRecursion (λ p. IsFalse (lies_below q p)) (event_paths outside)
    back-of front outside a = tail (event_paths front) (subst (AllByRecursion (λ p. IsFalse (lies_below q p))) (flat_map-append event_in front outside) a)
      where
        tail : (ps : List (List ℕ)) → AllByRecursion (λ p. IsFalse (lies_below q p)) (ps ++ event_paths outside) → AllByRecursion (λ p. IsFalse (lies_below q p)) (event_paths outside)
        tail [] b = b
        tail (p ∷ ps) b = tail ps b.1

    by : (front back inside outside more : List Note) → inside ≡ back ++ more → ended q ∷ xs ≡ more ++ ended q ∷ outside → AllByRecursion (λ r. IsTrue (lies_below q r)) (event_paths inside) → AllByRecursion (λ r. IsFalse (lies_below q r)) (event_paths (front ++ outside)) → AllByRecursion (λ p. IsFalse (lies_below q p)) (event_paths xs)
    by front back inside outside [] i r all none = let same : xs ≡ outside = cc in subst (λ ns. AllByRecursion (λ p. IsFalse (lies_below q p)) (event_paths ns)) (sym same) (back-of front outside none)
    by front back inside outside (m ∷ more) i r all none =
        let head : ended q ≡ m = cc in
        let here = all-at (λ r'. IsTrue (lies_below q r')) event_in back m more (subst (λ ns. AllByRecursion (λ r'. IsTrue (lies_below q r')) (event_paths ns)) i all) in
        let itself = (subst (AllByRecursion (λ r'. IsTrue (lies_below q r'))) (ap event_in (sym head)) here).0 in
        let long = below-longer q q itself in absurd (omega (arith, long))
