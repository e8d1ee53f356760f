-- Which paths have an entry, and which visits are open after one entry more.
use Rattle.std.proofs.Common.{◌≡◌, ◌≢◌, ℕ, List, [], ◌∷◌, ◌++◌, length, Bool, true, false, not, cond, ◌||◌, refl, ap, ap₂, ◌∙◌, append-nil, arith, length-append}
use Rattle.std.specs.List.{list_any, filter}
use Rattle.std.proofs.lemmas.List.Concat.{flat_map-append}
use Rattle.std.proofs.lemmas.List.Elements.{filter-append}
use Rattle.std.proofs.lemmas.List.Folds.{list_any-append}
use Rattle.yew_laws.specs.Order.{is_path}
use Rattle.yew_laws.proofs.PathTests.{is_path-same, is_path-is, is_path-not, apart-path}
use Rattle.yew_log.specs.Notes.{Note, taken, visited, cut, spawned, handed, ended, Judgement, path_of, visit_in, ended_in, paths, visited_paths, ended_paths}
use Rattle.yew_log.specs.Groups.{open_paths}
use Rattle.yew_log.proofs.Growth.{visited-append}
use Rattle.yew_walk.specs.Dealt.{has_entry}

-- paths
pub differ : (p q : List ℕ) → p ≢ q → is_path p q ≡ false
differ p q ne = elim (is_path p q) as (λ b. is_path p q ≡ b → b ≡ false) [ true ↦ λ e. absurd (ne (is_path-is p q e)) | false ↦ λ e. refl ] refl

pub not-below-itself : (path : List ℕ) (number : ℕ) (rest : List ℕ) → path ≢ path ++ number ∷ rest
not-below-itself path number rest e = let l = ap length e in let m = length-append path (number ∷ rest) in omega (arith, l, m)

pub apart : (path : List ℕ) (i j : ℕ) (r s : List ℕ) → i ≢ j → path ++ i ∷ r ≢ path ++ j ∷ s
apart path i j r s ne = is_path-not (path ++ i ∷ r) (path ++ j ∷ s) (apart-path path i r j s ne)

-- which paths have an entry
entry-append : (xs ys : List Note) (path : List ℕ) → has_entry (xs ++ ys) path ≡ (has_entry xs path || has_entry ys path)
entry-append xs ys path = list_any-append (λ note. is_path path (path_of note)) xs ys

or_yes : (a : Bool) → (a || true) ≡ true
or_yes true = refl
or_yes false = refl

pub entry-kept : (notes : List Note) (note : Note) (path : List ℕ) → has_entry notes path ≡ true → has_entry (notes ++ note ∷ []) path ≡ true
entry-kept notes note path e = entry-append notes (note ∷ []) path ∙ ap (λ b. b || has_entry (note ∷ []) path) e

pub entry-here : (notes : List Note) (note : Note) (path : List ℕ) → path_of note ≡ path → has_entry (notes ++ note ∷ []) path ≡ true
entry-here notes note path e =
    entry-append notes (note ∷ []) path
    ∙ ap (λ b. has_entry notes path || (b || false)) (ap (is_path path) e ∙ is_path-same path)
    ∙ or_yes (has_entry notes path)

pub entry-none : (notes : List Note) (note : Note) (path : List ℕ) → has_entry notes path ≡ false → path ≢ path_of note → has_entry (notes ++ note ∷ []) path ≡ false
entry-none notes note path e ne =
    entry-append notes (note ∷ []) path ∙ ap₂ (λ a b. a || (b || false)) e (differ path (path_of note) ne)

later_none : (a b : Bool) → (a || b) ≡ false → b ≡ false
later_none true b f = absurd (cc)
later_none false b f = f

first_none : (a b : Bool) → (a || b) ≡ false → a ≡ false
first_none true b f = absurd (cc)
first_none false b f = refl

-- what has no entry has not ended
no_entry-unended : (path : List ℕ) (notes : List Note) → has_entry notes path ≡ false → list_any (is_path path) (ended_paths notes) ≡ false
no_entry-unended path [] e = refl
no_entry-unended path (taken p ∷ ns) e = no_entry-unended path ns (later_none (is_path path p) (has_entry ns path) e)
no_entry-unended path (visited p w h ∷ ns) e = no_entry-unended path ns (later_none (is_path path p) (has_entry ns path) e)
no_entry-unended path (cut p b h ∷ ns) e = no_entry-unended path ns (later_none (is_path path p) (has_entry ns path) e)
no_entry-unended path (spawned p ∷ ns) e = no_entry-unended path ns (later_none (is_path path p) (has_entry ns path) e)
no_entry-unended path (handed p ∷ ns) e = no_entry-unended path ns (later_none (is_path path p) (has_entry ns path) e)
no_entry-unended path (ended p ∷ ns) e =
    ap₂ (λ a b. a || b) (first_none (is_path path p) (has_entry ns path) e) (no_entry-unended path ns (later_none (is_path path p) (has_entry ns path) e))

-- the open visits after one more entry
abbrev open_of : List (List ℕ) → List (List ℕ) → List (List ℕ)
open_of ends visited_ones = filter (λ p. not (list_any (is_path p) ends)) visited_ones

pub open-same : (notes : List Note) (note : Note) → visit_in note ≡ [] → ended_in note ≡ [] → open_paths (notes ++ note ∷ []) ≡ open_paths notes
open-same notes note no_visit no_end =
    ap₂ open_of
    (flat_map-append ended_in notes (note ∷ []) ∙ ap (λ ps. ended_paths notes ++ (ps ++ [])) no_end ∙ append-nil (ended_paths notes))
    (visited-append notes (note ∷ []) ∙ ap (λ (vs : List Judgement). visited_paths notes ++ paths (vs ++ [])) no_visit ∙ append-nil (visited_paths notes))

pub open-visit : (notes : List Note) (path : List ℕ) (worth held : ℕ) → has_entry notes path ≡ false → open_paths (notes ++ visited path worth held ∷ []) ≡ open_paths notes ++ path ∷ []
open-visit notes path worth held none =
    let test : List ℕ → Bool = λ p. not (list_any (is_path p) (ended_paths notes)) in
    ap₂ open_of
    (flat_map-append ended_in notes (visited path worth held ∷ []) ∙ append-nil (ended_paths notes))
    (visited-append notes (visited path worth held ∷ []))
    ∙ filter-append test (visited_paths notes) (path ∷ [])
    ∙ ap (λ b. open_paths notes ++ cond (not b) (path ∷ []) []) (no_entry-unended path notes none)

-- the paths but one
abbrev pub without : List ℕ → List (List ℕ) → List (List ℕ)
without path ps = filter (λ p. not (is_path p path)) ps

filter-twice : (ends : List (List ℕ)) (path : List ℕ) (ps : List (List ℕ)) → open_of (ends ++ path ∷ []) ps ≡ without path (open_of ends ps)
filter-twice ends path [] = refl
filter-twice ends path (p ∷ ps) =
    ap₂ (λ (b : Bool) (others : List (List ℕ)). cond (not b) (p ∷ others) others) (list_any-append (is_path p) ends (path ∷ [])) (filter-twice ends path ps)
    ∙ by (list_any (is_path p) ends)
  where
    last : (b : Bool) → cond (not (b || false)) (p ∷ without path (open_of ends ps)) (without path (open_of ends ps)) ≡ cond (not b) (p ∷ without path (open_of ends ps)) (without path (open_of ends ps))
    last true = refl
    last false = refl

    by : (a : Bool) → cond (not (a || (is_path p path || false))) (p ∷ without path (open_of ends ps)) (without path (open_of ends ps)) ≡ without path (cond (not a) (p ∷ open_of ends ps) (open_of ends ps))
    by true = refl
    by false = last (is_path p path)

pub open-end : (notes : List Note) (path : List ℕ) → open_paths (notes ++ ended path ∷ []) ≡ without path (open_paths notes)
open-end notes path =
    ap₂ open_of (flat_map-append ended_in notes (ended path ∷ [])) (visited-append notes (ended path ∷ []) ∙ append-nil (visited_paths notes))
    ∙ filter-twice (ended_paths notes) path (visited_paths notes)
