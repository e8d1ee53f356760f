-- The best of the visits of the one sequential log: the greatest worth of the tree, and its first path.
use Rattle.std.proofs.Common.{◌≡◌, ℕ, zero, suc, ◌<◌, ◌≤◌, List, [], ◌∷◌, ◌++◌, max, Bool, true, false, Option, Some, None, nat_le, nat_lt, if◌then◌else◌, refl, ap, ap₂, sym, subst, ◌∙◌, ◌==◌, append-nil, arith, leb-true}
use Rattle.std.specs.List.{AllByRecursion}
use Rattle.std.proofs.lemmas.Bool.Decides.{nat_tests}
use Rattle.std.proofs.lemmas.List.Concat.{flat_map-append}
use Rattle.yew_laws.specs.Greatest.{greatest, first_best}
use Rattle.yew_laws.specs.Incumbent.{Incumbent, improved, incumbent_after}
use Rattle.yew_laws.specs.SearchTree.{SearchTree, preorder}
use Rattle.yew_laws.specs.Tree.{Member, forest, tree, prefixed, IsRanked, IsBounded}
use Rattle.yew_laws.proofs.Incumbents.{incumbent_after-tree, incumbent_after-cut, incumbent_after-forest, incumbent_after-greatest, incumbent_after-first, prefixed-nil}
use Rattle.yew_laws.proofs.Members.{AllByRecursion-weaker}
use Rattle.yew_log.specs.Attained.{limit}
use Rattle.yew_log.specs.Items.{in_turn}
use Rattle.yew_log.specs.HeldValues.{plain}
use Rattle.yew_log.specs.Notes.{Note, visited, cut, ended, Judgement, judgement, visits, values, visit_in, maximum}
use Rattle.yew_log.specs.SeqLog.{visited_worth, visit_notes, seq_log}
use Rattle.yew_walk.specs.declared.keying.Keying.{Keying}
use Rattle.yew_walk.specs.declared.keying.Keying.TheVariants.{Plain}
use Rattle.yew_walk.specs.Hands.{best_after}
use Rattle.yew_walk.specs.Keys.{answer_key, kind_of}
use Rattle.yew_walk.proofs.KeyOrder.{key_of-plain, limit-none}

-- under the plain key an answer's key is its worth
pub answer_key-plain : (worth : ℕ) → answer_key Plain worth ≡ worth
answer_key-plain worth = grind (arith, nat_tests)

-- and so under each key that is the worth
pub answer_key-worth : (keying : Keying) (worth : ℕ) → kind_of keying ≡ plain → answer_key keying worth ≡ worth
answer_key-worth keying worth is = ap (λ key. if worth == 0 then 0 else key) (key_of-plain keying worth is) ∙ answer_key-plain worth

pub best_after-append : (keying : Keying) (incumbent : Incumbent) (us vs : List Judgement) → best_after keying incumbent (us ++ vs) ≡ best_after keying (best_after keying incumbent us) vs
best_after-append keying incumbent [] vs = refl
best_after-append keying incumbent (u ∷ us) vs = best_after-append keying (improved incumbent (answer_key keying u.value) u.path) us vs

-- the best visit is the same under each key that is the worth
pub best_after-plain : (keying : Keying) (incumbent : Incumbent) (vs : List Judgement) → kind_of keying ≡ plain → best_after keying incumbent vs ≡ best_after Plain incumbent vs
best_after-plain keying incumbent [] is = refl
best_after-plain keying incumbent (v ∷ vs) is =
    best_after-plain keying (improved incumbent (answer_key keying v.value) v.path) vs is
    ∙ ap (λ key. best_after Plain (improved incumbent key v.path) vs) (answer_key-worth keying v.value is ∙ sym (answer_key-plain v.value))

pub improved-worth : (incumbent : Incumbent) (w : ℕ) (path : List ℕ) → (improved incumbent w path).worth ≡ max incumbent.worth w
improved-worth incumbent w path =
    elim (nat_lt incumbent.worth w) as (λ b. nat_lt incumbent.worth w ≡ b → (if b then record { worth = w; path = Some path } else incumbent).worth ≡ max incumbent.worth w) [ true ↦ λ e. grind (arith, nat_tests) | false ↦ λ e. grind (arith, nat_tests) ] refl

-- the greatest worth so far
pub best_after-worth : (incumbent : Incumbent) (vs : List Judgement) → (best_after Plain incumbent vs).worth ≡ max incumbent.worth (maximum (values vs))
best_after-worth incumbent [] = omega arith
best_after-worth incumbent (v ∷ vs) =
    let key = answer_key-plain v.value in
    let first : (improved incumbent (answer_key Plain v.value) v.path).worth ≡ max incumbent.worth (answer_key Plain v.value) = improved-worth incumbent (answer_key Plain v.value) v.path in
    let rest = best_after-worth (improved incumbent (answer_key Plain v.value) v.path) vs in
    omega (arith, key, first, rest)

-- the visits of the entries of a node: its own, and those inside
visits-closed : (path : List ℕ) (worth held : ℕ) (inside : List Note) → visits (visited path worth held ∷ inside ++ ended path ∷ []) ≡ judgement path worth held ∷ visits inside
visits-closed path worth held inside = ap (λ vs. judgement path worth held ∷ vs) (flat_map-append visit_in inside (ended path ∷ []) ∙ append-nil (visits inside))

-- a sound node of rank 0 has no children
pub leaf : {N : Type 0} {sound : N → Type 0} {children : N → List N} {rank : N → ℕ} → IsRanked sound children rank → (n : N) → sound n → rank n ≤ 0 → [] ≡ children n
leaf {N} {sound} {children} {rank} ranked n s low = by (children n) (ranked.rank_falls n s)
  where
    by : (cs : List N) → AllByRecursion (λ c. rank c < rank n) cs → [] ≡ cs
    by [] a = refl
    by (c ∷ cs) a = absurd (omega (arith, a.0))

module _ {N : Type 0} (t : SearchTree N) {sound : N → Type 0} (ranked : IsRanked sound t.children t.rank) (bounded : IsBounded sound t.children t.worth t.bound) where
  abbrev tree_of : N → List (Member N)
  tree_of = tree t.children t.rank

  -- the best of these visits is the best of the members of the tree of the node at the path
  abbrev IsTreeBest : List ℕ → N → Incumbent → List Note → Type 0
  IsTreeBest path n incumbent notes = best_after Plain incumbent (visits notes) ≡ incumbent_after t.worth incumbent (prefixed path (tree_of n))

  -- the best of these visits is the best of the members of the trees of these children, numbered from k on
  abbrev IsForestBest : List ℕ → ℕ → List N → Incumbent → List Note → Type 0
  IsForestBest path k cs incumbent notes = best_after Plain incumbent (visits notes) ≡ incumbent_after t.worth incumbent (prefixed path (forest tree_of k cs))

  -- a node whose children's entries stand inside
  closed-best : (path : List ℕ) (n : N) (incumbent : Incumbent) (inside : List Note) → sound n → IsForestBest path 0 (t.children n) (improved incumbent (t.worth n) path) inside → IsTreeBest path n incumbent (visited path (t.worth n) incumbent.worth ∷ inside ++ ended path ∷ [])
  closed-best path n incumbent inside s below =
      ap (best_after Plain incumbent) (visits-closed path (t.worth n) incumbent.worth inside)
      ∙ ap (λ key. best_after Plain (improved incumbent key path) (visits inside)) (answer_key-plain (t.worth n))
      ∙ below
      ∙ sym (incumbent_after-tree ranked t.worth incumbent path n s)

  -- a child that is cut changes nothing
  cut-best : (path : List ℕ) (c : N) (incumbent : Incumbent) → sound c → t.bound c ≤ limit 0 incumbent.worth → IsTreeBest path c incumbent (cut path (t.bound c) incumbent.worth ∷ [])
  cut-best path c incumbent s small =
      let same = limit-none incumbent.worth in
      sym (incumbent_after-cut ranked bounded incumbent path c s (omega (arith, small, same)))

  module _ (levels : ℕ) (made : List ℕ → N → ℕ → List Note) (each : (path : List ℕ) (c : N) (incumbent : Incumbent) → sound c → t.rank c ≤ levels → IsTreeBest path c incumbent (made path c incumbent.worth)) where
    in_turn-best : (path : List ℕ) (k : ℕ) (cs : List N) (incumbent : Incumbent) → AllByRecursion sound cs → AllByRecursion (λ c. t.rank c ≤ levels) cs → IsForestBest path k cs incumbent (in_turn visited_worth made path k cs incumbent.worth)
    in_turn-best path k [] incumbent s r = refl
    in_turn-best path k (c ∷ cs) incumbent s r =
        let first = made (path ++ k ∷ []) c incumbent.worth in
        let next = best_after Plain incumbent (visits first) in
        let held = max incumbent.worth (visited_worth first) in
        let others = in_turn visited_worth made path (suc k) cs in
        let is_held : next.worth ≡ held = best_after-worth incumbent (visits first) in
        let rest : IsForestBest path (suc k) cs next (others held) = subst (λ h. IsForestBest path (suc k) cs next (others h)) is_held (in_turn-best path (suc k) cs next s.1 r.1) in
        ap (best_after Plain incumbent) (flat_map-append visit_in first (others held))
        ∙ best_after-append Plain incumbent (visits first) (visits (others held))
        ∙ rest
        ∙ ap (λ i. incumbent_after t.worth i (prefixed path (forest tree_of (suc k) cs))) (each (path ++ k ∷ []) c incumbent s.0 r.0)
        ∙ sym (incumbent_after-forest t.worth tree_of incumbent path k c cs)

  -- a child, which is cut or visited
  child_notes-best : (levels : ℕ) → ((path : List ℕ) (n : N) (incumbent : Incumbent) → sound n → t.rank n ≤ levels → IsTreeBest path n incumbent (visit_notes t 0 levels path n incumbent.worth)) → (path : List ℕ) (c : N) (incumbent : Incumbent) → sound c → t.rank c ≤ levels → IsTreeBest path c incumbent (if nat_le (t.bound c) (limit 0 incumbent.worth) then cut path (t.bound c) incumbent.worth ∷ [] else visit_notes t 0 levels path c incumbent.worth)
  child_notes-best levels visit path c incumbent s low = by (nat_le (t.bound c) (limit 0 incumbent.worth)) refl
    where
      by : (v : Bool) → nat_le (t.bound c) (limit 0 incumbent.worth) ≡ v → IsTreeBest path c incumbent (if v then cut path (t.bound c) incumbent.worth ∷ [] else visit_notes t 0 levels path c incumbent.worth)
      by true e = cut-best path c incumbent s (leb-true (t.bound c) (limit 0 incumbent.worth) e)
      by false e = visit path c incumbent s low

  visit_notes-tree : (levels : ℕ) (path : List ℕ) (n : N) (incumbent : Incumbent) → sound n → t.rank n ≤ levels → IsTreeBest path n incumbent (visit_notes t 0 levels path n incumbent.worth)
  visit_notes-tree zero path n incumbent s low =
      closed-best path n incumbent [] s
      (subst (λ cs. IsForestBest path 0 cs (improved incumbent (t.worth n) path) []) (leaf ranked n s low) refl)
  visit_notes-tree (suc levels) path n incumbent s low =
      let made : List ℕ → N → ℕ → List Note = λ p c h. if nat_le (t.bound c) (limit 0 h) then cut p (t.bound c) h ∷ [] else visit_notes t 0 levels p c h in
      let next = improved incumbent (t.worth n) path in
      let inside = in_turn visited_worth made path 0 (t.children n) in
      let is_held : next.worth ≡ max incumbent.worth (t.worth n) = improved-worth incumbent (t.worth n) path in
      closed-best path n incumbent (inside (max incumbent.worth (t.worth n))) s
      (subst (λ h. IsForestBest path 0 (t.children n) next (inside h)) is_held
      (in_turn-best levels made (child_notes-best levels (visit_notes-tree levels)) path 0 (t.children n) next (ranked.stays_sound n s)
      (AllByRecursion-weaker (λ c. t.rank c < t.rank n) (λ c. t.rank c ≤ levels) (λ c l. omega (arith, l, low)) (t.children n) (ranked.rank_falls n s))))

  -- the best of the visits of a node's entries, made where the worth of the incumbent was held, is the best of its tree
  pub best_after-visit_notes : (levels : ℕ) (path : List ℕ) (n : N) (held : ℕ) (incumbent : Incumbent) → incumbent.worth ≡ held → sound n → t.rank n ≤ levels → best_after Plain incumbent (visits (visit_notes t 0 levels path n held)) ≡ incumbent_after t.worth incumbent (prefixed path (tree t.children t.rank n))
  best_after-visit_notes levels path n held incumbent is_held s low =
      subst (λ h. IsTreeBest path n incumbent (visit_notes t 0 levels path n h)) is_held (visit_notes-tree levels path n incumbent s low)

  -- the best of all visits has the greatest worth, and its first path
  pub best_after-seq_log : sound t.root → best_after Plain (record { worth = 0; path = None }) (visits (seq_log t 0)) ≡ record { worth = greatest t; path = first_best t }
  best_after-seq_log root =
      best_after-visit_notes (t.rank t.root) [] t.root 0 (record { worth = 0; path = None }) refl root (omega arith)
      ∙ ap (incumbent_after t.worth (record { worth = 0; path = None })) (prefixed-nil (preorder t))
      ∙ ap₂ (λ (w : ℕ) (p : Option (List ℕ)). record { worth = w; path = p }) (incumbent_after-greatest t.worth (preorder t)) (incumbent_after-first t.worth (preorder t))
