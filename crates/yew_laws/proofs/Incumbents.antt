-- The best so far, as a walk in preorder keeps it.
use Rattle.std.proofs.Common.{◌≡◌, ℕ, suc, ◌<◌, ◌≤◌, max, true, false, List, [], ◌∷◌, ◌++◌, map, Option, Some, None, nat_lt, ◌==◌, if◌then◌else◌, refl, ap, ap₂, sym, ◌∙◌, arith, append_assoc, append-nil, le_trans, ltb-true, ltb-false}
use Rattle.std.specs.List.{AllByRecursion}
use Rattle.std.proofs.lemmas.List.{map-append}
use Rattle.std.proofs.lemmas.Bool.Decides.{nat_tests}
use Rattle.yew_laws.specs.Tree.{Member, child_member, forest, tree, prefixed, IsRanked, IsBounded}
use Rattle.yew_laws.specs.Greatest.{greatest_of, first_with}
use Rattle.yew_laws.specs.Incumbent.{Incumbent, improved, incumbent_after}
use Rattle.yew_laws.proofs.Members.{AllByRecursion-map, AllByRecursion-weaker}
use Rattle.yew_laws.proofs.Trees.{tree-unfolds, tree-bounded}

pub incumbent_after-append : {N : Type 0} (worth : N → ℕ) (incumbent : Incumbent) (xs ys : List (Member N)) → incumbent_after worth incumbent (xs ++ ys) ≡ incumbent_after worth (incumbent_after worth incumbent xs) ys
incumbent_after-append worth incumbent [] ys = refl
incumbent_after-append worth incumbent (m ∷ ms) ys = incumbent_after-append worth (improved incumbent (worth m.node) m.path) ms ys

improved-kept : (incumbent : Incumbent) (w : ℕ) (path : List ℕ) → w ≤ incumbent.worth → improved incumbent w path ≡ incumbent
improved-kept incumbent w path small = grind (arith, nat_tests)

-- members of no more worth leave the incumbent
pub incumbent_after-kept : {N : Type 0} (worth : N → ℕ) (incumbent : Incumbent) (ms : List (Member N)) → AllByRecursion (λ m. worth m.node ≤ incumbent.worth) ms → incumbent_after worth incumbent ms ≡ incumbent
incumbent_after-kept worth incumbent [] a = refl
incumbent_after-kept worth incumbent (m ∷ ms) a =
    ap (λ l. incumbent_after worth l ms) (improved-kept incumbent (worth m.node) m.path a.0) ∙ incumbent_after-kept worth incumbent ms a.1

improved-worth : (incumbent : Incumbent) (w : ℕ) (path : List ℕ) → (improved incumbent w path).worth ≡ max incumbent.worth w
improved-worth incumbent w path =
    elim (nat_lt incumbent.worth w) as (λ b. nat_lt incumbent.worth w ≡ b → (if b then record { worth = w; path = Some path } else incumbent).worth ≡ max incumbent.worth w) [ true ↦ λ e. grind (arith, nat_tests) | false ↦ λ e. grind (arith, nat_tests) ] refl

pub incumbent_after-worth : {N : Type 0} (worth : N → ℕ) (incumbent : Incumbent) (ms : List (Member N)) → (incumbent_after worth incumbent ms).worth ≡ max incumbent.worth (greatest_of worth ms)
incumbent_after-worth worth incumbent [] = omega arith
incumbent_after-worth worth incumbent (m ∷ ms) =
    let first : (improved incumbent (worth m.node) m.path).worth ≡ max incumbent.worth (worth m.node) = improved-worth incumbent (worth m.node) m.path in
    let rest = incumbent_after-worth worth (improved incumbent (worth m.node) m.path) ms in
    omega arith

-- the path of the incumbent, by the greatest worth
abbrev incumbent_path : {N : Type 0} → (N → ℕ) → ℕ → Option (List ℕ) → List (Member N) → Option (List ℕ)
incumbent_path worth l path ms = if nat_lt l (greatest_of worth ms) then first_with worth (greatest_of worth ms) ms else path

incumbent_path-passes : {N : Type 0} (worth : N → ℕ) (l : ℕ) (path : Option (List ℕ)) (m : Member N) (ms : List (Member N)) → l < worth m.node → incumbent_path worth (worth m.node) (Some m.path) ms ≡ incumbent_path worth l path (m ∷ ms)
incumbent_path-passes worth l path m ms above = grind (arith, nat_tests)

incumbent_path-stays : {N : Type 0} (worth : N → ℕ) (l : ℕ) (path : Option (List ℕ)) (m : Member N) (ms : List (Member N)) → worth m.node ≤ l → incumbent_path worth l path ms ≡ incumbent_path worth l path (m ∷ ms)
incumbent_path-stays worth l path m ms below = grind (arith, nat_tests)

pub incumbent_after-path : {N : Type 0} (worth : N → ℕ) (incumbent : Incumbent) (ms : List (Member N)) → (incumbent_after worth incumbent ms).path ≡ incumbent_path worth incumbent.worth incumbent.path ms
incumbent_after-path worth incumbent [] = grind (arith, nat_tests)
incumbent_after-path worth incumbent (m ∷ ms) =
    elim (nat_lt incumbent.worth (worth m.node))
    as (λ b. nat_lt incumbent.worth (worth m.node) ≡ b → (incumbent_after worth (if b then record { worth = worth m.node; path = Some m.path } else incumbent) ms).path ≡ incumbent_path worth incumbent.worth incumbent.path (m ∷ ms)) [
      | true ↦ λ e. incumbent_after-path worth (record { worth = worth m.node; path = Some m.path }) ms ∙ incumbent_path-passes worth incumbent.worth incumbent.path m ms (ltb-true incumbent.worth (worth m.node) e)
      | false ↦ λ e. incumbent_after-path worth incumbent ms ∙ incumbent_path-stays worth incumbent.worth incumbent.path m ms (ltb-false incumbent.worth (worth m.node) e)
    ]
    refl

above_zero : (g : ℕ) (found : Option (List ℕ)) → (if nat_lt 0 g then found else None) ≡ (if g == 0 then None else found)
above_zero g found = grind (arith, nat_tests)

-- with nothing before, the incumbent is the greatest worth, and its first path
pub incumbent_after-greatest : {N : Type 0} (worth : N → ℕ) (ms : List (Member N)) → (incumbent_after worth (record { worth = 0; path = None }) ms).worth ≡ greatest_of worth ms
incumbent_after-greatest worth ms = let w = incumbent_after-worth worth (record { worth = 0; path = None }) ms in omega arith

pub incumbent_after-first : {N : Type 0} (worth : N → ℕ) (ms : List (Member N)) → (incumbent_after worth (record { worth = 0; path = None }) ms).path ≡ (if greatest_of worth ms == 0 then None else first_with worth (greatest_of worth ms) ms)
incumbent_after-first worth ms =
    incumbent_after-path worth (record { worth = 0; path = None }) ms ∙ above_zero (greatest_of worth ms) (first_with worth (greatest_of worth ms) ms)

pub prefixed-nil : {N : Type 0} (ms : List (Member N)) → prefixed [] ms ≡ ms
prefixed-nil [] = refl
prefixed-nil {N} (m ∷ ms) = ap (λ (rest : List (Member N)). m ∷ rest) (prefixed-nil ms)

prefixed-child_member : {N : Type 0} (path : List ℕ) (k : ℕ) (ms : List (Member N)) → prefixed path (map (child_member k) ms) ≡ prefixed (path ++ k ∷ []) ms
prefixed-child_member path k [] = refl
prefixed-child_member {N} path k (m ∷ ms) =
    let joined : path ++ (k ∷ m.path) ≡ (path ++ k ∷ []) ++ m.path = sym (append_assoc path (k ∷ []) m.path) in
    ap₂ (λ (p : List ℕ) (rest : List (Member N)). record { path = p; node = m.node } ∷ rest) joined (prefixed-child_member path k ms)

-- a forest below a path, one tree off its front
pub prefixed-forest : {N : Type 0} (tree_of : N → List (Member N)) (path : List ℕ) (k : ℕ) (c : N) (cs : List N) → prefixed path (forest tree_of k (c ∷ cs)) ≡ prefixed (path ++ k ∷ []) (tree_of c) ++ prefixed path (forest tree_of (suc k) cs)
prefixed-forest {N} tree_of path k c cs =
    map-append (λ (m : Member N). record { path = path ++ m.path; node = m.node }) (map (child_member k) (tree_of c)) (forest tree_of (suc k) cs)
    ∙ ap (λ ms. ms ++ prefixed path (forest tree_of (suc k) cs)) (prefixed-child_member path k (tree_of c))

-- the incumbent after a forest, one tree off its front
pub incumbent_after-forest : {N : Type 0} (worth : N → ℕ) (tree_of : N → List (Member N)) (incumbent : Incumbent) (path : List ℕ) (k : ℕ) (c : N) (cs : List N) → incumbent_after worth incumbent (prefixed path (forest tree_of k (c ∷ cs))) ≡ incumbent_after worth (incumbent_after worth incumbent (prefixed (path ++ k ∷ []) (tree_of c))) (prefixed path (forest tree_of (suc k) cs))
incumbent_after-forest worth tree_of incumbent path k c cs =
    ap (incumbent_after worth incumbent) (prefixed-forest tree_of path k c cs)
    ∙ incumbent_after-append worth incumbent (prefixed (path ++ k ∷ []) (tree_of c)) (prefixed path (forest tree_of (suc k) cs))

module _ {N : Type 0} {sound : N → Type 0} {children : N → List N} {rank : N → ℕ} (ranked : IsRanked sound children rank) where
  -- the incumbent after a tree: its root, and then the trees below
  pub incumbent_after-tree : (worth : N → ℕ) (incumbent : Incumbent) (path : List ℕ) (n : N) → sound n → incumbent_after worth incumbent (prefixed path (tree children rank n)) ≡ incumbent_after worth (improved incumbent (worth n) path) (prefixed path (forest (tree children rank) 0 (children n)))
  incumbent_after-tree worth incumbent path n s =
      ap (λ ms. incumbent_after worth incumbent (prefixed path ms)) (tree-unfolds ranked n s)
      ∙ ap (λ p. incumbent_after worth (improved incumbent (worth n) p) (prefixed path (forest (tree children rank) 0 (children n)))) (append-nil path)

  -- a tree whose bound is at most the worth so far leaves the incumbent
  pub incumbent_after-cut : {worth bound : N → ℕ} → IsBounded sound children worth bound → (incumbent : Incumbent) (path : List ℕ) (n : N) → sound n → bound n ≤ incumbent.worth → incumbent_after worth incumbent (prefixed path (tree children rank n)) ≡ incumbent
  incumbent_after-cut {worth} {bound} bounded incumbent path n s small =
      incumbent_after-kept worth incumbent (prefixed path (tree children rank n))
      (AllByRecursion-map (λ m. worth m.node ≤ incumbent.worth) (λ (m : Member N). record { path = path ++ m.path; node = m.node }) (tree children rank n)
      (AllByRecursion-weaker (λ m. worth m.node ≤ bound n) (λ m. worth m.node ≤ incumbent.worth) (λ m le. le_trans le small)
      (tree children rank n) (tree-bounded ranked bounded n s)))
