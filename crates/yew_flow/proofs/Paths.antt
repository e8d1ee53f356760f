-- The lists of jobs along the paths of the tree.
use Rattle.std.proofs.Common.{◌≡◌, ℕ, zero, suc, ◌≤◌, Bool, true, false, not, ◌&&◌, ◌||◌, ◌==◌, List, [], ◌∷◌, ◌++◌, length, map, slice_get, Option, Some, option_and_then, append_assoc, refl, ap, ap₂, sym, subst, ◌∙◌, arith}
use Rattle.std.proofs.lemmas.Bool.{and_parts}
use Rattle.std.proofs.lemmas.Bool.Decides.{nat_tests}
use Rattle.std.proofs.lemmas.List.{append-nil, append_cancel_left, length-append}
use Rattle.std.proofs.lemmas.Option.{same_Some, none-some, option_and_then_some}
use Rattle.yew_laws.specs.Sets.{contains, are_different, are_within}
use Rattle.yew_laws.specs.Tree.{node_at}
use Rattle.yew_flow.specs.declared.nodes.FlowNode.{FlowNode}
use Rattle.yew_flow.specs.Instance.{Instance}
use Rattle.yew_flow.specs.Lists.{contains-append, member-all, different-last, within-parts, stands, place_of, one_place}
use Rattle.yew_flow.specs.NodeLaws.{IsFree, absent-free, free-listed, absent-different, jobs-appended, child-sound}
use Rattle.yew_flow.specs.Nodes.{jobs_of, absent_from, appended, children_of, IsNode}

-- ---- children by their places

-- the child of a number adds the job of this number
record AddsAt (instance : Instance) (node : FlowNode) (k : ℕ) (child : FlowNode) : Type 0 where
  pub job : ℕ
  pub listed : slice_get (absent_from instance (jobs_of node)) k ≡ Some job
  pub free : IsFree instance (jobs_of node) job
  pub is : child ≡ appended instance node job

record MapsFrom (f : ℕ → FlowNode) (cs : List ℕ) (k : ℕ) (child : FlowNode) : Type 0 where
  pub job : ℕ
  pub listed : slice_get cs k ≡ Some job
  pub is : child ≡ f job

maps-from : (f : ℕ → FlowNode) (cs : List ℕ) (k : ℕ) (child : FlowNode) → slice_get (map f cs) k ≡ Some child → MapsFrom f cs k child
maps-from f [] k child e = absurd (none-some child e)
maps-from f (c ∷ cs) zero child e = record { job = c; listed = refl; is = sym (same_Some (f c) child e) }
maps-from f (c ∷ cs) (suc k) child e = let m = maps-from f cs k child e in record { job = m.job; listed = m.listed; is = m.is }

maps-to : (f : ℕ → FlowNode) (cs : List ℕ) (k c : ℕ) → slice_get cs k ≡ Some c → slice_get (map f cs) k ≡ Some (f c)
maps-to f [] k c e = absurd (none-some c e)
maps-to f (d ∷ cs) zero c e = ap (λ x. Some (f x)) (same_Some d c e)
maps-to f (d ∷ cs) (suc k) c e = maps-to f cs k c e

module _ (instance : Instance) where
  adds-at : (node : FlowNode) (k : ℕ) (child : FlowNode) → slice_get (children_of instance node) k ≡ Some child → AddsAt instance node k child
  adds-at node k child e =
      let m = maps-from (appended instance node) (absent_from instance (jobs_of node)) k child e in
      record {
        job = m.job;
        listed = m.listed;
        free = member-all (IsFree instance (jobs_of node)) (absent_from instance (jobs_of node)) m.job (absent-free instance (jobs_of node)) (stands (absent_from instance (jobs_of node)) k m.job m.listed);
        is = m.is;
      }

  -- ---- along a path

  -- the list of a node below another one begins with the other's list
  record Grows (node below : FlowNode) (path : List ℕ) : Type 0 where
    pub more : List ℕ
    pub list_is : jobs_of below ≡ jobs_of node ++ more
    pub long : length more ≡ length path

  added-sound : (node child : FlowNode) (k : ℕ) → IsNode instance node → AddsAt instance node k child → IsNode instance child
  added-sound node child k sound a = subst (IsNode instance) (sym a.is) (child-sound instance node sound a.job a.free)

  added-list : (node child : FlowNode) (k : ℕ) → IsNode instance node → (a : AddsAt instance node k child) → jobs_of child ≡ jobs_of node ++ a.job ∷ []
  added-list node child k sound a = ap jobs_of a.is ∙ jobs-appended instance node sound a.job a.free

  grows-along : (path : List ℕ) (node below : FlowNode) → IsNode instance node → node_at (children_of instance) node path ≡ Some below → Grows node below path
  grows-along [] node below sound e =
      let same = same_Some node below e in
      record { more = []; list_is = sym (ap jobs_of same) ∙ sym (append-nil (jobs_of node)); long = refl }
  grows-along (k ∷ ks) node below sound e =
      option_and_then_some (λ c. node_at (children_of instance) c ks) (slice_get (children_of instance node) k) below e
      (λ child at rest.
      let a = adds-at node k child at in
      let g = grows-along ks child below (added-sound node child k sound a) rest in
      record {
        more = a.job ∷ g.more;
        list_is = g.list_is ∙ ap (λ xs. xs ++ g.more) (added-list node child k sound a) ∙ append_assoc (jobs_of node) (a.job ∷ []) g.more;
        long = ap suc g.long;
      })

  -- a node below has a longer list
  longer : (node below child : FlowNode) (k : ℕ) (ks : List ℕ) → IsNode instance node → AddsAt instance node k child → node_at (children_of instance) child ks ≡ Some below → jobs_of node ≡ jobs_of below → ⊥
  longer node below child k ks sound a rest same =
      let g = grows-along ks child below (added-sound node child k sound a) rest in
      let own = ap length (added-list node child k sound a) ∙ length-append (jobs_of node) (a.job ∷ []) in
      let whole = ap length g.list_is ∙ length-append (jobs_of child) g.more in
      let equal = ap length same in
      absurd (omega (arith, own, whole, equal))

  -- nodes of the same list stand at the same path
  pub one_path : (p q : List ℕ) (node a b : FlowNode) → IsNode instance node → node_at (children_of instance) node p ≡ Some a → node_at (children_of instance) node q ≡ Some b → jobs_of a ≡ jobs_of b → p ≡ q
  one_path [] [] node a b sound e f same = refl
  one_path [] (k ∷ ks) node a b sound e f same =
      option_and_then_some (λ c. node_at (children_of instance) c ks) (slice_get (children_of instance node) k) b f
      (λ c at rest. absurd (longer node b c k ks sound (adds-at node k c at) rest (ap jobs_of (same_Some node a e) ∙ same)))
  one_path (j ∷ js) [] node a b sound e f same =
      option_and_then_some (λ c. node_at (children_of instance) c js) (slice_get (children_of instance node) j) a e
      (λ c at rest. absurd (longer node a c j js sound (adds-at node j c at) rest (ap jobs_of (same_Some node b f) ∙ sym same)))
  one_path (j ∷ js) (k ∷ ks) node a b sound e f same =
      option_and_then_some (λ c. node_at (children_of instance) c js) (slice_get (children_of instance node) j) a e
      (λ c at rest.
      option_and_then_some (λ d. node_at (children_of instance) d ks) (slice_get (children_of instance node) k) b f
      (λ d at_d rest_d.
      let x = adds-at node j c at in
      let y = adds-at node k d at_d in
      let g = grows-along js c a (added-sound node c j sound x) rest in
      let h = grows-along ks d b (added-sound node d k sound y) rest_d in
      let left = g.list_is ∙ ap (λ xs. xs ++ g.more) (added-list node c j sound x) ∙ append_assoc (jobs_of node) (x.job ∷ []) g.more in
      let right = h.list_is ∙ ap (λ xs. xs ++ h.more) (added-list node d k sound y) ∙ append_assoc (jobs_of node) (y.job ∷ []) h.more in
      let tails : x.job ∷ g.more ≡ y.job ∷ h.more = append_cancel_left (jobs_of node) (x.job ∷ g.more) (y.job ∷ h.more) (sym left ∙ same ∙ right) in
      let job : x.job ≡ y.job = cc in
      let number : j ≡ k = one_place (absent_from instance (jobs_of node)) j k y.job (absent-different instance (jobs_of node)) (x.listed ∙ ap Some job) y.listed in
      let child : c ≡ d = same_Some c d (sym at ∙ ap (slice_get (children_of instance node)) number ∙ at_d) in
      let tail : js ≡ ks = one_path js ks c a b (added-sound node c j sound x) rest (subst (λ n. node_at (children_of instance) n ks ≡ Some b) (sym child) rest_d) same in
      ap₂ (λ (m : ℕ) (ms : List ℕ). m ∷ ms) number tail))

  -- ---- the way to a list

  different-front : (xs ys : List ℕ) → are_different (xs ++ ys) ≡ true → are_different xs ≡ true
  different-front [] ys d = refl
  different-front (x ∷ xs) ys d =
      let parts = and_parts (not (contains (xs ++ ys) x)) (are_different (xs ++ ys)) d in
      both (contains xs x) (contains ys x) (are_different xs) (ap not (sym (contains-append xs ys x)) ∙ parts.0) (different-front xs ys parts.1)
    where
      both : (a b e : Bool) → not (a || b) ≡ true → e ≡ true → (not a && e) ≡ true
      both a b e h k = grind (arith, nat_tests)

  next-new : (xs ys : List ℕ) (c : ℕ) → are_different (xs ++ c ∷ ys) ≡ true → contains xs c ≡ false
  next-new xs ys c d = different-last xs c (different-front (xs ++ c ∷ []) ys (ap are_different (append_assoc xs (c ∷ []) ys) ∙ d))

  next-listed : (xs ys : List ℕ) (c : ℕ) → contains (xs ++ c ∷ ys) c ≡ true
  next-listed xs ys c = contains-append xs (c ∷ ys) c ∙ itself (contains xs c) (contains ys c) c
    where
      itself : (a b : Bool) (k : ℕ) → (a || (k == k || b)) ≡ true
      itself a b k = grind (arith, nat_tests)

  -- a node below another one that has a list
  pub record Reaches (node : FlowNode) (jobs : List ℕ) : Type 0 where
    pub path : List ℕ
    pub last : FlowNode
    pub found : node_at (children_of instance) node path ≡ Some last
    pub list_is : jobs_of last ≡ jobs

  pub reaches : (rest : List ℕ) (node : FlowNode) → IsNode instance node → are_within 1 instance.jobs (jobs_of node ++ rest) ≡ true → are_different (jobs_of node ++ rest) ≡ true → Reaches node (jobs_of node ++ rest)
  reaches [] node sound within different = record { path = []; last = node; found = refl; list_is = sym (append-nil (jobs_of node)) }
  reaches (c ∷ rest) node sound within different =
      let inside = member-all (λ k. (1 ≤ k) × (k ≤ instance.jobs)) (jobs_of node ++ c ∷ rest) c (within-parts 1 instance.jobs (jobs_of node ++ c ∷ rest) within) (next-listed (jobs_of node) rest c) in
      let free : IsFree instance (jobs_of node) c = record { from = inside.0; to = inside.1; new = next-new (jobs_of node) rest c different } in
      let child = appended instance node c in
      let same : jobs_of child ++ rest ≡ jobs_of node ++ c ∷ rest = ap (λ xs. xs ++ rest) (jobs-appended instance node sound c free) ∙ append_assoc (jobs_of node) (c ∷ []) rest in
      let place = place_of (absent_from instance (jobs_of node)) c (free-listed instance (jobs_of node) c free) in
      let r = reaches rest child (child-sound instance node sound c free) (ap (are_within 1 instance.jobs) same ∙ within) (ap are_different same ∙ different) in
      record {
        path = place.0 ∷ r.path;
        last = r.last;
        found = at (slice_get (children_of instance node) place.0) child r.path r.last (maps-to (appended instance node) (absent_from instance (jobs_of node)) place.0 c place.1) r.found;
        list_is = r.list_is ∙ same;
      }
    where
      at : (o : Option FlowNode) (child : FlowNode) (path : List ℕ) (last : FlowNode) → o ≡ Some child → node_at (children_of instance) child path ≡ Some last → option_and_then (λ d. node_at (children_of instance) d path) o ≡ Some last
      at o child path last e found = ap (option_and_then (λ d. node_at (children_of instance) d path)) e ∙ found
