-- The rules leave one sequential log: two bodies that keep them are the same, entry by entry.
use Rattle.std.proofs.Common.{◌≡◌, ◌≢◌, ℕ, ◌<◌, ◌≤◌, List, [], ◌∷◌, ◌++◌, Bool, true, false, cond, Option, Some, None, refl, ap, ap₂, sym, subst, ◌∙◌, append_assoc, append-nil, arith}
use Rattle.std.specs.Prelude.{IsTrue, IsFalse, IfSome}
use Rattle.std.specs.Option.{option_map}
use Rattle.std.specs.List.{AllByRecursion, Contains}
use Rattle.std.proofs.lemmas.List.Sums.{sum_by-append, sum_by-cons}
use Rattle.std.proofs.lemmas.Option.{same_Some}
use Rattle.yew_laws.specs.Tree.{IsRanked}
use Rattle.yew_laws.specs.Bag.{SameBag}
use Rattle.yew_log.specs.Places.{AtEach}
use Rattle.yew_laws.specs.Order.{is_path, comes_before, lies_below, parent_of}
use Rattle.yew_laws.specs.SearchTree.{SearchTree, at_path, worth_at, bound_at, below}
use Rattle.yew_log.specs.Notes.{Note, taken, visited, cut, spawned, handed, ended, Judgement, paths, visits, cuts, judgements, visit_in, cut_in, judgement_in, event_in, ended_in, taken_in, sent_in, visited_paths, ended_paths, event_paths, sent_paths, taken_paths}
use Rattle.yew_log.specs.Attained.{limit}
use Rattle.yew_log.specs.Segment.{Begins, Rise, EachJudged, HasParent, Nests, EndsVisits, IsValued, covered_paths}
use Rattle.yew_laws.proofs.PathTests.{is_path-same, is_path-is, is_path-not}
use Rattle.yew_laws.specs.Order.{only}
use Rattle.yew_log.proofs.Ends.{enclosed-ends}
use Rattle.yew_laws.specs.Order.{occurs}
use Rattle.yew_laws.proofs.Weights.{all-weighs, contains-has_weight}
use Rattle.yew_log.proofs.Blocks.{judgement_paths-append}
use Rattle.yew_log.proofs.Growth.{visited-append}
use Rattle.yew_log.proofs.SeqLaws.{Exact}
use Rattle.yew_log.proofs.Covered.{child-judged}
use Rattle.yew_log.proofs.EntryPlaces.{AtEach-at, all-at, below-longer, before-one-way, unparent, open-below, all-paths, Kind, a_judged, an_end, kind, none-at, judgements-head, fresh, fresh-not, later-after, judgements-events, around, unended, none-after_end}

module _ {N : Type 0} (t : SearchTree N) (gap : ℕ) where
  -- what the rules say of the body of the one segment of a sequential log
  pub record SeqBody (body : List Note) : Type 0 where
    pub begins : Begins [] body
    pub rises : Rise (paths (judgements body))
    pub parents : EachJudged (HasParent []) body
    pub nests : Nests body
    pub ends : EndsVisits body
    pub untaken : taken_paths body ≡ []
    pub unsent : sent_paths body ≡ []
    pub all_covered : SameBag (covered_paths t body) (below t [])
    pub valued : IsValued t body
    pub exact : AtEach (λ b n a. AllByRecursion (Exact b) (judgement_in n)) (taken [] ∷ []) body
    pub over : AllByRecursion (λ v. v.path ≢ [] → IfSome (bound_at t v.path) (λ b. limit gap v.held < b)) (visits body)
    pub cuts_below : AllByRecursion (λ c. c.path ≢ []) (cuts body)
    pub permitted : AllByRecursion (λ c. c.value ≤ limit gap c.held) (cuts body)

  -- the same worth or bound, and the same held value
  same-judgements : (o : Option ℕ) (v w : ℕ) → o ≡ Some v → o ≡ Some w → v ≡ w
  same-judgements o v w a b = same_Some v w (sym a ∙ b)

  -- a node is not both due and permitted to be cut
  not-both : (o : Option ℕ) (h b : ℕ) → IfSome o (λ c. limit gap h < c) → o ≡ Some b → b ≤ limit gap h → ⊥
  not-both None h b f e le = cc
  not-both (Some c) h b f e le = let same : c ≡ b = same_Some c b e in omega (arith, f, le, same)

  -- two judgements of one path after the same entries are the same
  same-at_path : (zs xs ys : List Note) (x y : Note) (p : List ℕ) → SeqBody (zs ++ x ∷ xs) → SeqBody (zs ++ y ∷ ys) → paths (judgement_in x) ≡ p ∷ [] → paths (judgement_in y) ≡ p ∷ [] → x ≡ y
  same-at_path zs xs ys (visited p w h) (visited q w' h') r a b e f =
      let pq : p ≡ q = cc in
      let hx = (AtEach-at (λ b' n a'. AllByRecursion (Exact b') (judgement_in n)) (taken [] ∷ []) zs (visited p w h) xs a.exact).0 in
      let hy = (AtEach-at (λ b' n a'. AllByRecursion (Exact b') (judgement_in n)) (taken [] ∷ []) zs (visited q w' h') ys b.exact).0 in
      let wx = (all-at (λ v. worth_at t v.path ≡ Some v.value) visit_in zs (visited p w h) xs a.valued.worths).0 in
      let wy = (all-at (λ v. worth_at t v.path ≡ Some v.value) visit_in zs (visited q w' h') ys b.valued.worths).0 in
      let ww = same-judgements (worth_at t p) w w' wx (ap (worth_at t) pq ∙ wy) in
      let hh : h ≡ h' = hx ∙ sym hy in
      cc
  same-at_path zs xs ys (cut p w h) (cut q w' h') r a b e f =
      let pq : p ≡ q = cc in
      let hx = (AtEach-at (λ b' n a'. AllByRecursion (Exact b') (judgement_in n)) (taken [] ∷ []) zs (cut p w h) xs a.exact).0 in
      let hy = (AtEach-at (λ b' n a'. AllByRecursion (Exact b') (judgement_in n)) (taken [] ∷ []) zs (cut q w' h') ys b.exact).0 in
      let wx = (all-at (λ v. bound_at t v.path ≡ Some v.value) cut_in zs (cut p w h) xs a.valued.bounds).0 in
      let wy = (all-at (λ v. bound_at t v.path ≡ Some v.value) cut_in zs (cut q w' h') ys b.valued.bounds).0 in
      let ww = same-judgements (bound_at t p) w w' wx (ap (bound_at t) pq ∙ wy) in
      let hh : h ≡ h' = hx ∙ sym hy in
      cc
  same-at_path zs xs ys (visited p w h) (cut q b' h') r a b e f =
      let pq : p ≡ q = cc in
      let hx = (AtEach-at (λ b'' n a'. AllByRecursion (Exact b'') (judgement_in n)) (taken [] ∷ []) zs (visited p w h) xs a.exact).0 in
      let hy = (AtEach-at (λ b'' n a'. AllByRecursion (Exact b'') (judgement_in n)) (taken [] ∷ []) zs (cut q b' h') ys b.exact).0 in
      let hh : h ≡ h' = hx ∙ sym hy in
      let ne = (all-at (λ c. c.path ≢ []) cut_in zs (cut q b' h') ys b.cuts_below).0 in
      let due = (all-at (λ v. v.path ≢ [] → IfSome (bound_at t v.path) (λ c. limit gap v.held < c)) visit_in zs (visited p w h) xs a.over).0 (λ n. ne (sym pq ∙ n)) in
      let bound = (all-at (λ v. bound_at t v.path ≡ Some v.value) cut_in zs (cut q b' h') ys b.valued.bounds).0 in
      let le = (all-at (λ c. c.value ≤ limit gap c.held) cut_in zs (cut q b' h') ys b.permitted).0 in
      absurd (not-both (bound_at t p) h b' due (ap (bound_at t) pq ∙ bound) (subst (λ k. b' ≤ limit gap k) (sym hh) le))
  same-at_path zs xs ys (cut p b' h) (visited q w h') r a b e f =
      let pq : p ≡ q = cc in
      let hx = (AtEach-at (λ b'' n a'. AllByRecursion (Exact b'') (judgement_in n)) (taken [] ∷ []) zs (cut p b' h) xs a.exact).0 in
      let hy = (AtEach-at (λ b'' n a'. AllByRecursion (Exact b'') (judgement_in n)) (taken [] ∷ []) zs (visited q w h') ys b.exact).0 in
      let hh : h ≡ h' = hx ∙ sym hy in
      let ne = (all-at (λ c. c.path ≢ []) cut_in zs (cut p b' h) xs a.cuts_below).0 in
      let due = (all-at (λ v. v.path ≢ [] → IfSome (bound_at t v.path) (λ c. limit gap v.held < c)) visit_in zs (visited q w h') ys b.over).0 (λ n. ne (pq ∙ n)) in
      let bound = (all-at (λ v. bound_at t v.path ≡ Some v.value) cut_in zs (cut p b' h) xs a.valued.bounds).0 in
      let le = (all-at (λ c. c.value ≤ limit gap c.held) cut_in zs (cut p b' h) xs a.permitted).0 in
      absurd (not-both (bound_at t q) h' b' due (ap (bound_at t) (sym pq) ∙ bound) (subst (λ k. b' ≤ limit gap k) hh le))
  same-at_path zs xs ys (taken q) y p a b e f = absurd (cc)
  same-at_path zs xs ys (spawned q) y p a b e f = absurd (cc)
  same-at_path zs xs ys (handed q) y p a b e f = absurd (cc)
  same-at_path zs xs ys (ended q) y p a b e f = absurd (cc)
  same-at_path zs xs ys (visited p w h) (taken q) r a b e f = absurd (cc)
  same-at_path zs xs ys (visited p w h) (spawned q) r a b e f = absurd (cc)
  same-at_path zs xs ys (visited p w h) (handed q) r a b e f = absurd (cc)
  same-at_path zs xs ys (visited p w h) (ended q) r a b e f = absurd (cc)
  same-at_path zs xs ys (cut p w h) (taken q) r a b e f = absurd (cc)
  same-at_path zs xs ys (cut p w h) (spawned q) r a b e f = absurd (cc)
  same-at_path zs xs ys (cut p w h) (handed q) r a b e f = absurd (cc)
  same-at_path zs xs ys (cut p w h) (ended q) r a b e f = absurd (cc)

  -- a path of the tree
  abbrev InTree : List ℕ → Type 0
  InTree p = (n : N) × (at_path t p ≡ Some n)

  in_tree : (f : N → ℕ) (o : Option N) (v : ℕ) → option_map f o ≡ Some v → (n : N) × (o ≡ Some n)
  in_tree f None v e = absurd (cc)
  in_tree f (Some n) v e = (n, refl)

  all-in_tree : (notes : List Note) → AllByRecursion (λ (v : Judgement). worth_at t v.path ≡ Some v.value) (visits notes) → AllByRecursion (λ (c : Judgement). bound_at t c.path ≡ Some c.value) (cuts notes) → AllByRecursion InTree (paths (judgements notes))
  all-in_tree [] a b = tt
  all-in_tree (taken q ∷ ns) a b = all-in_tree ns a b
  all-in_tree (spawned q ∷ ns) a b = all-in_tree ns a b
  all-in_tree (handed q ∷ ns) a b = all-in_tree ns a b
  all-in_tree (ended q ∷ ns) a b = all-in_tree ns a b
  all-in_tree (visited q w h ∷ ns) a b = (in_tree t.worth (at_path t q) w a.0, all-in_tree ns a.1 b)
  all-in_tree (cut q w h ∷ ns) a b = (in_tree t.bound (at_path t q) w b.0, all-in_tree ns a b.1)

module _ {N : Type 0} (t : SearchTree N) (gap : ℕ) {sound : N → Type 0} (ranked : IsRanked sound t.children t.rank) (root : sound t.root) where
  has-head : (x : Note) (xs : List Note) (p : List ℕ) → paths (judgement_in x) ≡ p ∷ [] → 0 < occurs p (paths (judgements (x ∷ xs)))
  has-head x xs p e =
      let h = ap (occurs p) (judgements-head x xs p e) in
      let c = sum_by-cons (only p) p (paths (judgements xs)) in
      let i : ◌≡◌ {A = ℕ} (only p p) 1 = ap (λ b. cond b 1 0) (is_path-same p) in
      omega (arith, h, c, i)

  -- a path that is judged next, and is not the root's, is judged in each whole body that begins with the same entries
  judgements-too : (zs xs other : List Note) (x : Note) (p : List ℕ) → SeqBody t gap (zs ++ x ∷ xs) → SeqBody t gap (zs ++ other) → paths (judgement_in x) ≡ p ∷ [] → p ≢ [] → 0 < occurs p (paths (judgements other))
  judgements-too zs xs other x p a b e ne =
      let parents = all-paths (λ q. q ≢ [] → Contains (visited_paths zs) (parent_of q)) (judgement_in x) (AtEach-at (λ b' n a'. AllByRecursion (HasParent [] b') (judgement_in n)) [] zs x xs a.parents) in
      let parent = (subst (AllByRecursion (λ q. q ≢ [] → Contains (visited_paths zs) (parent_of q))) e parents).0 ne in
      let entry_note = contains-has_weight is_path is_path-same is_path-is (visited_paths zs) (parent_of p) parent in
      let k = unparent p ne in
      let whole = sum_by-append (only p) (paths (judgements zs)) (paths (judgements (x ∷ xs))) in
      let joined = ap (occurs p) (judgement_paths-append zs (x ∷ xs)) in
      let head = has-head x xs p e in
      let node = all-weighs is_path is_path-same is_path-is (InTree t gap) (paths (judgements (zs ++ x ∷ xs))) p (all-in_tree t gap (zs ++ x ∷ xs) a.valued.worths a.valued.bounds) (omega (arith, whole, joined, head)) in
      let seen_too : 0 < occurs (parent_of p) (visited_paths (zs ++ other)) =
      (let w = ap (occurs (parent_of p)) (visited-append zs other) in let v = sum_by-append (only (parent_of p)) (visited_paths zs) (visited_paths other) in omega (arith, w, v, entry_note)) in
      let found = child-judged t ranked root (zs ++ other) b.unsent b.all_covered (parent_of p) k.0 node.0 (ap (at_path t) (sym k.1) ∙ node.1) seen_too in
      let there : 0 < occurs p (paths (judgements (zs ++ other))) = subst (λ q. 0 < occurs q (paths (judgements (zs ++ other)))) (sym k.1) found in
      let split = ap (occurs p) (judgement_paths-append zs other) in
      let parts = sum_by-append (only p) (paths (judgements zs)) (paths (judgements other)) in
      let gone = fresh-not zs p (fresh zs x xs p a.rises e) in
      omega (arith, there, split, parts, gone)

  not-root : (zs : List Note) (x : Note) (xs : List Note) (p : List ℕ) → SeqBody t gap (zs ++ x ∷ xs) → paths (judgement_in x) ≡ p ∷ [] → zs ≢ [] → p ≢ []
  not-root [] x xs p a e ne is = absurd (ne refl)
  not-root (z ∷ zs) x xs p a e ne is =
      let before = fresh (z ∷ zs) x xs p a.rises e in
      let first = begin z (zs ++ x ∷ xs) a.begins in
      let head = (subst (AllByRecursion (λ q. IsTrue (comes_before q p))) (judgements-head z zs [] first) before).0 in
      let k : comes_before [] [] ≡ true = subst (λ q. comes_before [] q ≡ true) is head in
      let j : false ≡ true = k in cc
    where
      begin : (z : Note) (ns : List Note) → Begins [] (z ∷ ns) → paths (judgement_in z) ≡ [] ∷ []
      begin (visited q w h) ns s = ap (λ r. r ∷ []) s
      begin (cut q w h) ns s = ap (λ r. r ∷ []) s
      begin (taken q) ns s = absurd s
      begin (spawned q) ns s = absurd s
      begin (handed q) ns s = absurd s
      begin (ended q) ns s = absurd s

  -- of two different next judgements each would come before the other
  comes-first : (zs xs ys : List Note) (x y : Note) (p q : List ℕ) → SeqBody t gap (zs ++ x ∷ xs) → SeqBody t gap (zs ++ y ∷ ys) → paths (judgement_in x) ≡ p ∷ [] → paths (judgement_in y) ≡ q ∷ [] → p ≢ [] → is_path p q ≡ false → comes_before q p ≡ true
  comes-first zs xs ys x y p q a b e f ne told_apart =
      let found = judgements-too zs xs (y ∷ ys) x p a b e ne in
      let h = ap (occurs p) (judgements-head y ys q f) in
      let c = sum_by-cons (only p) q (paths (judgements ys)) in
      let z : ◌≡◌ {A = ℕ} (only p q) 0 = ap (λ v. cond v 1 0) told_apart in
      later-after zs y ys q p b.rises f (omega (arith, found, h, c, z))

  same-paths : (zs xs ys : List Note) (x y : Note) (p q : List ℕ) → SeqBody t gap (zs ++ x ∷ xs) → SeqBody t gap (zs ++ y ∷ ys) → paths (judgement_in x) ≡ p ∷ [] → paths (judgement_in y) ≡ q ∷ [] → zs ≢ [] → p ≡ q
  same-paths zs xs ys x y p q a b e f ne = by (is_path p q) refl
    where
      by : (v : Bool) → is_path p q ≡ v → p ≡ q
      by true d = is_path-is p q d
      by false d =
          let turned_round : is_path q p ≡ false = flip (is_path q p) refl in
          absurd (before-one-way q p
          (comes-first zs xs ys x y p q a b e f (not-root zs x xs p a e ne) d)
          (comes-first zs ys xs y x q p b a f e (not-root zs y ys q b f ne) turned_round))
        where
          flip : (v : Bool) → is_path q p ≡ v → is_path q p ≡ false
          flip false g = g
          flip true g = let same : q ≡ p = is_path-is q p g in let i = is_path-same p in let k : true ≡ false = sym i ∙ ap (is_path p) (sym same) ∙ d in absurd (cc)

  ends-visited : (zs xs : List Note) (q : List ℕ) → SeqBody t gap (zs ++ ended q ∷ xs) → 0 < occurs q (visited_paths zs)
  ends-visited zs xs q a = contains-has_weight is_path is_path-same is_path-is (visited_paths zs) q (AtEach-at (λ b n a'. AllByRecursion (λ p. Contains (visited_paths b) p) (ended_in n)) [] zs (ended q) xs a.ends).0

  -- an end and a judgement do not both come next
  no-end_and_judged : (zs xs ys : List Note) (y : Note) (q p : List ℕ) → SeqBody t gap (zs ++ ended q ∷ xs) → SeqBody t gap (zs ++ y ∷ ys) → paths (judgement_in y) ≡ p ∷ [] → event_in y ≡ p ∷ [] → y ≢ ended q → zs ≢ [] → ⊥
  no-end_and_judged zs xs ys y q p a b f event other ne =
      let entry_note = ends-visited zs xs q a in
      let still = unended q zs xs a.nests entry_note in
      let child_member = open-below q zs y ys p b.nests entry_note still event other in
      let found = judgements-too zs ys (ended q ∷ xs) y p b a f (not-root zs y ys p b f ne) in
      let into = judgements-events p xs in
      let here = all-weighs is_path is_path-same is_path-is (λ r. IsFalse (lies_below q r)) (event_paths xs) p (none-after_end q zs xs a.nests entry_note) (omega (arith, found, into)) in
      let k : true ≡ false = sym child_member ∙ here in cc

  same-ends : (zs xs ys : List Note) (p q : List ℕ) → SeqBody t gap (zs ++ ended p ∷ xs) → SeqBody t gap (zs ++ ended q ∷ ys) → p ≡ q
  same-ends zs xs ys p q a b = by (is_path p q) refl
    where
      by : (v : Bool) → is_path p q ≡ v → p ≡ q
      by true d = is_path-is p q d
      by false d =
          let ne = is_path-not p q d in
          let seen_p = ends-visited zs xs p a in
          let seen_q = ends-visited zs ys q b in
          let one = open-below q zs (ended p) xs p a.nests seen_q (unended q zs ys b.nests seen_q) refl (λ e. ne (cc)) in
          let two = open-below p zs (ended q) ys q b.nests seen_p (unended p zs xs a.nests seen_p) refl (λ e. ne (cc)) in
          let l = below-longer q p one in
          let m = below-longer p q two in
          absurd (omega (arith, l, m))

  kind-at : (zs xs : List Note) (x : Note) → SeqBody t gap (zs ++ x ∷ xs) → Kind x
  kind-at zs xs x a = kind x (none-at taken_in zs x xs a.untaken) (none-at sent_in zs x xs a.unsent)

  begins-at_root : (x : Note) (xs : List Note) → Begins [] (x ∷ xs) → paths (judgement_in x) ≡ [] ∷ []
  begins-at_root (visited q w h) ns s = ap (λ r. r ∷ []) s
  begins-at_root (cut q w h) ns s = ap (λ r. r ∷ []) s
  begins-at_root (taken q) ns s = absurd s
  begins-at_root (spawned q) ns s = absurd s
  begins-at_root (handed q) ns s = absurd s
  begins-at_root (ended q) ns s = absurd s

  same-next : (zs xs ys : List Note) (x y : Note) → SeqBody t gap (zs ++ x ∷ xs) → SeqBody t gap (zs ++ y ∷ ys) → x ≡ y
  same-next [] xs ys x y a b = same-at_path t gap [] xs ys x y [] a b (begins-at_root x xs a.begins) (begins-at_root y ys b.begins)
  same-next (z ∷ zs) xs ys x y a b = by (kind-at (z ∷ zs) xs x a) (kind-at (z ∷ zs) ys y b)
    where
      by : Kind x → Kind y → x ≡ y
      by (a_judged p e ev n) (a_judged q f ev' m) =
          let same = same-paths (z ∷ zs) xs ys x y p q a b e f (λ k. absurd (cc)) in
          same-at_path t gap (z ∷ zs) xs ys x y p a b e (f ∙ ap (λ r. r ∷ []) (sym same))
      by (a_judged p e ev n) (an_end q f) =
          absurd (no-end_and_judged (z ∷ zs) ys xs x q p (subst (λ v. SeqBody t gap ((z ∷ zs) ++ v ∷ ys)) f b) a e ev (n q) (λ k. absurd (cc)))
      by (an_end q e) (a_judged p f ev m) =
          absurd (no-end_and_judged (z ∷ zs) xs ys y q p (subst (λ v. SeqBody t gap ((z ∷ zs) ++ v ∷ xs)) e a) b f ev (m q) (λ k. absurd (cc)))
      by (an_end p e) (an_end q f) =
          let same = same-ends (z ∷ zs) xs ys p q (subst (λ v. SeqBody t gap ((z ∷ zs) ++ v ∷ xs)) e a) (subst (λ v. SeqBody t gap ((z ∷ zs) ++ v ∷ ys)) f b) in
          e ∙ ap ended same ∙ sym f

  -- a whole body does not go on
  complete : (zs ys : List Note) (y : Note) → SeqBody t gap zs → SeqBody t gap (zs ++ y ∷ ys) → ⊥
  complete [] ys y a b = a.begins
  complete (z ∷ zs) ys y a b = by (kind-at (z ∷ zs) ys y b)
    where
      whole : SeqBody t gap ((z ∷ zs) ++ [])
      whole = subst (SeqBody t gap) (sym (append-nil (z ∷ zs))) a

      by : Kind y → ⊥
      by (a_judged p f ev m) =
          let found = judgements-too (z ∷ zs) ys [] y p b whole f (not-root (z ∷ zs) y ys p b f (λ k. absurd (cc))) in omega (arith, found)
      by (an_end q f) =
          let b' = subst (λ v. SeqBody t gap ((z ∷ zs) ++ v ∷ ys)) f b in
          let entry_note = ends-visited (z ∷ zs) ys q b' in
          let still = unended q (z ∷ zs) ys b'.nests entry_note in
          let r = around q (z ∷ zs) [] whole.nests entry_note in
          let one = enclosed-ends q r.front (r.back ++ []) r.encloses in
          let e = r.ends_are in
          let same = ap (λ ns. occurs q (ended_paths ns)) (append-nil r.back) in
          omega (arith, one, e, still, same)

  pub same-bodies : (zs xs ys : List Note) → SeqBody t gap (zs ++ xs) → SeqBody t gap (zs ++ ys) → xs ≡ ys
  same-bodies zs [] [] a b = refl
  same-bodies zs [] (y ∷ ys) a b = absurd (complete zs ys y (subst (SeqBody t gap) (append-nil zs) a) b)
  same-bodies zs (x ∷ xs) [] a b = absurd (complete zs xs x (subst (SeqBody t gap) (append-nil zs) b) a)
  same-bodies zs (x ∷ xs) (y ∷ ys) a b =
      let head = same-next zs xs ys x y a b in
      let b' = subst (λ v. SeqBody t gap (zs ++ v ∷ ys)) (sym head) b in
      let tail = same-bodies (zs ++ x ∷ []) xs ys (subst (SeqBody t gap) (sym (append_assoc zs (x ∷ []) xs)) a) (subst (SeqBody t gap) (sym (append_assoc zs (x ∷ []) ys)) b') in
      ap₂ (λ (n : Note) (ns : List Note). n ∷ ns) head tail
