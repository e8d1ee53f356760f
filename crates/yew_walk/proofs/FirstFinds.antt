-- The best visit of the one sequential log: the greatest worth that it visits, with the first path that has it.
use Rattle.std.proofs.Common.{◌≡◌, ℕ, zero, suc, ◌<◌, ◌≤◌, ◌⊎◌, List, [], ◌∷◌, ◌++◌, max, Bool, true, false, Option, Some, None, ◌==◌, nat_lt, if◌then◌else◌, refl, ap, ap₂, sym, subst, ◌∙◌, inl, inr, append_assoc, append-nil, arith}
use Rattle.std.specs.List.{AllByRecursion, Contains, flat_map}
use Rattle.std.proofs.lemmas.Bool.Decides.{nat_tests}
use Rattle.std.proofs.lemmas.List.Elements.{Contains-append_left}
use Rattle.yew_laws.specs.Bag.{SameBag}
use Rattle.yew_laws.specs.Cover.{Cover}
use Rattle.yew_laws.specs.Greatest.{greatest, first_best}
use Rattle.yew_laws.specs.Incumbent.{Incumbent, improved}
use Rattle.yew_laws.specs.PathValue.{PathValue}
use Rattle.yew_laws.specs.SearchTree.{SearchTree, below, tree_paths}
use Rattle.yew_laws.specs.Tree.{IsRanked, IsBounded}
use Rattle.yew_laws.proofs.Members.{AllByRecursion-append, Contains-head, Contains-tail}
use Rattle.yew_laws.proofs.PathTests.{suc_not_zero}
use Rattle.yew_log.specs.Attained.{Attained}
use Rattle.yew_log.specs.Notes.{Note, taken, visited, cut, spawned, handed, ended, Judgement, judgement, judgement_in, visits, cuts, paths, values, maximum, visited_paths, cut_paths}
use Rattle.yew_log.specs.Places.{AtEach}
use Rattle.yew_log.specs.SeqLog.{visited_worth, visit_notes, seq_log}
use Rattle.yew_log.proofs.Growth.{worths-append}
use Rattle.yew_log.proofs.SeqLaws.{Exact, Part, visit-part}
use Rattle.yew_walk.specs.declared.keying.Keying.TheVariants.{Plain}
use Rattle.yew_walk.specs.Answers.{IsNear}
use Rattle.yew_walk.specs.FirstFound.{first_visit, found_worth, found_path}
use Rattle.yew_walk.specs.Hands.{numbers_of, best_after}
use Rattle.yew_walk.proofs.BestFinds.{nothing, best_after-best}
use Rattle.yew_walk.proofs.BestVisits.{answer_key-plain, best_after-worth, best_after-seq_log}
use Rattle.yew_walk.proofs.NearAnswers.{best-near}

is_below : (a b : ℕ) → a < b → nat_lt a b ≡ true
is_below a b l = grind (arith, nat_tests)

not_below : (a b : ℕ) → b ≤ a → nat_lt a b ≡ false
not_below a b l = grind (arith, nat_tests)

are_same : (a : ℕ) → (a == a) ≡ true
are_same a = grind (arith, nat_tests)

are_other : (a b : ℕ) → a < b → (a == b) ≡ false
are_other a b l = grind (arith, nat_tests)

below-true : (a b : ℕ) → nat_lt a b ≡ true → a < b
below-true a b e = grind (arith, nat_tests)

below-false : (a b : ℕ) → nat_lt a b ≡ false → b ≤ a
below-false a b e = grind (arith, nat_tests)

-- the path of the best visit, where this worth and path were held before
abbrev path_found : ℕ → Option (List ℕ) → ℕ → List Judgement → Option (List ℕ)
path_found held old top vs = if nat_lt held top then first_visit top vs else old

-- where the first visit has a greater worth than was held
path-taken : (held : ℕ) (old : Option (List ℕ)) (v : Judgement) (vs : List Judgement) (m : ℕ) → held < v.value → path_found v.value (Some v.path) m vs ≡ path_found held old (max v.value m) (v ∷ vs)
path-taken held old v vs m more = by (nat_lt v.value m) refl
  where
    at : ℕ → Option (List ℕ)
    at top = path_found held old top (v ∷ vs)

    by : (b : Bool) → nat_lt v.value m ≡ b → (if b then first_visit m vs else Some v.path) ≡ at (max v.value m)
    by true e =
        let greater = below-true v.value m e in
        let top : m ≡ max v.value m = omega (arith, greater) in
        sym (ap (λ b. if b then first_visit m (v ∷ vs) else old) (is_below held m (omega (arith, more, greater))) ∙ ap (λ b. if b then Some v.path else first_visit m vs) (are_other v.value m greater))
        ∙ ap at top
    by false e =
        let under = below-false v.value m e in
        let top : v.value ≡ max v.value m = omega (arith, under) in
        sym (ap (λ b. if b then first_visit v.value (v ∷ vs) else old) (is_below held v.value more) ∙ ap (λ b. if b then Some v.path else first_visit v.value vs) (are_same v.value))
        ∙ ap at top

-- where it has not
path-stays : (held : ℕ) (old : Option (List ℕ)) (v : Judgement) (vs : List Judgement) (m : ℕ) → v.value ≤ held → path_found held old m vs ≡ path_found held old (max v.value m) (v ∷ vs)
path-stays held old v vs m less = by (nat_lt held m) refl
  where
    at : ℕ → Option (List ℕ)
    at top = path_found held old top (v ∷ vs)

    by : (b : Bool) → nat_lt held m ≡ b → (if b then first_visit m vs else old) ≡ at (max v.value m)
    by true e =
        let greater = below-true held m e in
        let top : m ≡ max v.value m = omega (arith, greater, less) in
        sym (ap (λ b. if b then first_visit m (v ∷ vs) else old) e ∙ ap (λ b. if b then Some v.path else first_visit m vs) (are_other v.value m (omega (arith, greater, less))))
        ∙ ap at top
    by false e =
        let under = below-false held m e in
        sym (ap (λ b. if b then first_visit (max v.value m) (v ∷ vs) else old) (not_below held (max v.value m) (omega (arith, under, less))))

best_after-path : (incumbent : Incumbent) (vs : List Judgement) → (best_after Plain incumbent vs).path ≡ path_found incumbent.worth incumbent.path (maximum (values vs)) vs
best_after-path incumbent [] = sym (ap (λ b. if b then None else incumbent.path) (not_below incumbent.worth 0 (omega arith)))
best_after-path incumbent (v ∷ vs) =
    let m = maximum (values vs) in
    ap (λ key. (best_after Plain (improved incumbent key v.path) vs).path) (answer_key-plain v.value)
    ∙ best_after-path (improved incumbent v.value v.path) vs
    ∙ by (nat_lt incumbent.worth v.value) refl
  where
    found : Incumbent → Option (List ℕ)
    found i = path_found i.worth i.path (maximum (values vs)) vs

    by : (b : Bool) → nat_lt incumbent.worth v.value ≡ b → found (if b then record { worth = v.value; path = Some v.path } else incumbent) ≡ path_found incumbent.worth incumbent.path (maximum (values (v ∷ vs))) (v ∷ vs)
    by true e = path-taken incumbent.worth incumbent.path v vs (maximum (values vs)) (below-true incumbent.worth v.value e)
    by false e = path-stays incumbent.worth incumbent.path v vs (maximum (values vs)) (below-false incumbent.worth v.value e)

-- a worth above 0 is an answer
if-answer : {X : Type 0} (top : ℕ) (none first : X) → (if nat_lt 0 top then first else none) ≡ (if top == 0 then none else first)
if-answer zero none first = refl
if-answer (suc top) none first = ap (λ b. if b then first else none) (is_below 0 (suc top) (omega arith)) ∙ sym (ap (λ b. if b then none else first) (suc_not_zero top))

-- the best of these visits has their greatest worth, and the first path that has it
pub best_after-nothing : (vs : List Judgement) → best_after Plain nothing vs ≡ record { worth = maximum (values vs); path = if maximum (values vs) == 0 then None else first_visit (maximum (values vs)) vs }
best_after-nothing vs =
    ap₂ (λ (w : ℕ) (p : Option (List ℕ)). record { worth = w; path = p })
    (best_after-worth nothing vs ∙ omega arith)
    (best_after-path nothing vs ∙ if-answer (maximum (values vs)) None (first_visit (maximum (values vs)) vs))

-- the greatest of some numbers is 0 or one of them
maximum-or : (ns : List ℕ) → (maximum ns ≡ 0) ⊎ Contains ns (maximum ns)
maximum-or [] = inl refl
maximum-or (n ∷ ns) = by (maximum-or ns) (nat_lt n (maximum ns)) refl
  where
    by : (maximum ns ≡ 0) ⊎ Contains ns (maximum ns) → (b : Bool) → nat_lt n (maximum ns) ≡ b → (max n (maximum ns) ≡ 0) ⊎ Contains (n ∷ ns) (max n (maximum ns))
    by rest true e =
        let under = below-true n (maximum ns) e in
        let top : maximum ns ≡ max n (maximum ns) = omega (arith, under) in
        subst (λ k. (k ≡ 0) ⊎ Contains (n ∷ ns) k) top
        (elim rest as (λ o. (maximum ns ≡ 0) ⊎ Contains (n ∷ ns) (maximum ns)) [ inl none ↦ inl none | inr there ↦ inr (Contains-tail n ns (maximum ns) there) ])
    by rest false e =
        let over = below-false n (maximum ns) e in
        let top : n ≡ max n (maximum ns) = omega (arith, over) in
        inr (subst (Contains (n ∷ ns)) top (Contains-head n ns))

-- a held value is 0, or a visit has it as its worth
abbrev IsHeld : List Note → Judgement → Type 0
IsHeld all j = (j.held ≡ 0) ⊎ Contains (values (visits all)) j.held

exact-held : (all before rest : List Note) (j : Judgement) → before ++ rest ≡ all → Exact before j → IsHeld all j
exact-held all before rest j is exact =
    subst (λ h. (h ≡ 0) ⊎ Contains (values (visits all)) h) (sym exact)
    (elim (maximum-or (values (visits before))) as (λ o. (visited_worth before ≡ 0) ⊎ Contains (values (visits all)) (visited_worth before)) [
      | inl none ↦ inl none
      | inr there ↦ inr (subst (λ ns. Contains (values (visits ns)) (visited_worth before)) is
          (subst (λ ws. Contains ws (visited_worth before)) (sym (worths-append before rest)) (Contains-append_left (values (visits before)) (values (visits rest)) (visited_worth before) there)))
    ])

-- where each held value is the greatest worth before it, each is 0 or the worth of a visit
exact-all : (all before notes : List Note) → before ++ notes ≡ all → AtEach (λ b n a. AllByRecursion (Exact b) (judgement_in n)) before notes → AllByRecursion (IsHeld all) (visits notes) × AllByRecursion (IsHeld all) (cuts notes)
exact-all all before [] is a = (tt, tt)
exact-all all before (visited p w h ∷ ns) is a =
    let rest = exact-all all (before ++ visited p w h ∷ []) ns (append_assoc before (visited p w h ∷ []) ns ∙ is) a.1 in
    ((exact-held all before (visited p w h ∷ ns) (judgement p w h) is a.0.0, rest.0), rest.1)
exact-all all before (cut p b h ∷ ns) is a =
    let rest = exact-all all (before ++ cut p b h ∷ []) ns (append_assoc before (cut p b h ∷ []) ns ∙ is) a.1 in
    (rest.0, (exact-held all before (cut p b h ∷ ns) (judgement p b h) is a.0.0, rest.1))
exact-all all before (taken p ∷ ns) is a = exact-all all (before ++ taken p ∷ []) ns (append_assoc before (taken p ∷ []) ns ∙ is) a.1
exact-all all before (spawned p ∷ ns) is a = exact-all all (before ++ spawned p ∷ []) ns (append_assoc before (spawned p ∷ []) ns ∙ is) a.1
exact-all all before (handed p ∷ ns) is a = exact-all all (before ++ handed p ∷ []) ns (append_assoc before (handed p ∷ []) ns ∙ is) a.1
exact-all all before (ended p ∷ ns) is a = exact-all all (before ++ ended p ∷ []) ns (append_assoc before (ended p ∷ []) ns ∙ is) a.1

module _ {N : Type 0} (t : SearchTree N) where
  -- what the best of all visits of the log is
  pub best_after-found : (gap : ℕ) → best_after Plain nothing (visits (seq_log t gap)) ≡ record { worth = found_worth t gap; path = found_path t gap }
  best_after-found gap = best_after-nothing (visits (seq_log t gap))

  root-visited : (gap levels : ℕ) → Contains (visited_paths (visit_notes t gap levels [] t.root 0)) []
  root-visited gap zero = Contains-head [] []
  root-visited gap (suc levels) = Contains-head [] _

  module _ {sound : N → Type 0} (ranked : IsRanked sound t.children t.rank) (root : sound t.root) (gap : ℕ) where
    part : Part t gap [] 0 (visit_notes t gap (t.rank t.root) [] t.root 0)
    part = visit-part t gap ranked (t.rank t.root) [] t.root 0 refl root (omega arith) (λ ne. absurd (ne refl))

    -- the log covers the tree
    pub Cover-seq_log : Cover t (paths (visits (seq_log t gap))) (paths (cuts (seq_log t gap)))
    Cover-seq_log =
        let notes = visit_notes t gap (t.rank t.root) [] t.root 0 in
        record {
          root_visited = root-visited gap (t.rank t.root);
          each_once = subst (λ cs. SameBag (visited_paths notes ++ flat_map (below t) cs) (tree_paths t))
              (ap (λ ps. cut_paths notes ++ ps) part.is_made.unsent ∙ append-nil (cut_paths notes)) part.all_covered;
        }

    -- and each of its cuts has its cause
    pub Attained-seq_log : Attained t gap (visits (seq_log t gap)) (cuts (seq_log t gap))
    Attained-seq_log =
        let notes = visit_notes t gap (t.rank t.root) [] t.root 0 in
        let held = exact-all (seq_log t gap) (taken [] ∷ []) notes refl (part.is_made.exact (taken [] ∷ []) refl) in
        record {
          worths = part.is_made.valued.worths;
          bounds = part.is_made.valued.bounds;
          permitted = part.is_made.permitted;
          attained = AllByRecursion-append (IsHeld (seq_log t gap)) (visits notes) (cuts notes) held.0 held.1;
        }

    -- its best visit is within the gap of the best node
    pub found-near : IsBounded sound t.children t.worth t.bound → (path : Option PathValue) → numbers_of path ≡ found_path t gap → IsNear t gap (found_worth t gap) path
    found-near bounded path is =
        let vs = visits (seq_log t gap) in
        let found = best_after-found gap in
        subst (λ w. IsNear t gap w path) (ap (λ (i : Incumbent). i.worth) found)
        (best-near t ranked bounded root gap vs (cuts (seq_log t gap)) Cover-seq_log Attained-seq_log (best_after Plain nothing vs) path (best_after-best vs) (is ∙ sym (ap (λ (i : Incumbent). i.path) found)))

  module _ {sound : N → Type 0} (ranked : IsRanked sound t.children t.rank) (bounded : IsBounded sound t.children t.worth t.bound) (root : sound t.root) where
    found-none : ◌≡◌ {A = Incumbent} (record { worth = found_worth t 0; path = found_path t 0 }) (record { worth = greatest t; path = first_best t })
    found-none = sym (best_after-found 0) ∙ best_after-seq_log t ranked bounded root

    -- with no gap it is the greatest worth of the tree
    pub found_worth-none : found_worth t 0 ≡ greatest t
    found_worth-none = ap (λ (i : Incumbent). i.worth) found-none

    -- and the first path that has it
    pub found_path-none : found_path t 0 ≡ first_best t
    found_path-none = ap (λ (i : Incumbent). i.path) found-none
