-- A log is full only where the tree is large: no path has more than four entries.
use Rattle.std.proofs.Common.{◌≡◌, ℕ, zero, suc, ◌+◌, ◌*◌, ◌<◌, ◌≤◌, List, [], ◌∷◌, ◌++◌, length, true, false, cond, inl, inr, Option, Some, None, refl, ap, sym, subst, ◌∙◌, arith, Contains, length-append}
use Rattle.std.specs.Prelude.{IsSome}
use Rattle.std.specs.List.{AllByRecursion, flat_map, sum_by}
use Rattle.std.proofs.lemmas.List.Sums.{sum_by-append, sum_by-cons}
use Rattle.std.proofs.lemmas.Option.{same_Some}
use Rattle.yew_laws.specs.Bag.{PartOfBag}
use Rattle.yew_laws.specs.Order.{is_path, only, occurs}
use Rattle.yew_laws.specs.Tree.{Member, tree, paths as member_paths, IsRanked}
use Rattle.yew_laws.specs.SearchTree.{SearchTree, at_path, tree_paths}
use Rattle.yew_laws.proofs.Bags.{IsTakenOut}
use Rattle.yew_laws.proofs.Incumbents.{prefixed-nil}
use Rattle.yew_laws.proofs.Members.{AllByRecursion-append, Contains-map}
use Rattle.yew_laws.proofs.PathTests.{is_path-same, is_path-is}
use Rattle.yew_laws.proofs.Trees.{tree-contains}
use Rattle.yew_laws.proofs.Weights.{all-weighs, contains-has_weight}
use Rattle.yew_log.specs.Groups.{Skeleton}
use Rattle.yew_log.specs.Notes.{Note, taken, visited, cut, spawned, handed, ended, path_of, path_numbers, paths, judgements, taken_in, sent_in, ended_in, taken_paths, sent_paths, ended_paths}
use Rattle.yew_log.specs.Segment.{IsOnce, OneOfAKind}
use Rattle.yew_log.specs.AuditFull.{IsAuditFull, IsLarge}
use Rattle.yew_log.proofs.Kept.{path_numbers-push}

occurs-takes_out : (path : List ℕ) (ps : List (List ℕ)) → 0 < occurs path ps → IsTakenOut path ps
occurs-takes_out path [] more = absurd (omega arith)
occurs-takes_out path (p ∷ ps) more =
    elim (is_path path p) as (λ b. is_path path p ≡ b → IsTakenOut path (p ∷ ps)) [
      | true ↦ λ e. record { front = []; back = ps; is = ap (λ q. q ∷ ps) (sym (is_path-is path p e)) }
      | false ↦ λ e.
          let here : ◌≡◌ {A = ℕ} (only path p) 0 = ap (λ b. cond b 1 0) e in
          let weighs = sum_by-cons (only path) p ps in
          let rest = occurs-takes_out path ps (omega arith) in
          record { front = p ∷ rest.front; back = rest.back; is = ap (λ qs. p ∷ qs) rest.is }
    ]
    refl

part-weighs : (h : List ℕ → ℕ) (ps qs : List (List ℕ)) → ((path : List ℕ) → occurs path ps ≤ occurs path qs) → sum_by h ps ≤ sum_by h qs
part-weighs h [] qs e = omega arith
part-weighs h (p ∷ ps) qs e =
    let i : ◌≡◌ {A = ℕ} (only p p) 1 = ap (λ b. cond b 1 0) (is_path-same p) in
    let k = e p in
    let w = sum_by-cons (only p) p ps in
    let out = occurs-takes_out p qs (omega arith) in
    let rest = part-weighs h ps (out.front ++ out.back) (λ path.
    let a = e path in
    let b = sum_by-cons (only path) p ps in
    let c = ap (sum_by (only path)) out.is in
    let d = sum_by-append (only path) out.front (p ∷ out.back) in
    let f = sum_by-cons (only path) p out.back in
    let g = sum_by-append (only path) out.front out.back in
    omega arith) in
    let a = sum_by-cons h p ps in
    let c = ap (sum_by h) out.is in
    let d = sum_by-append h out.front (p ∷ out.back) in
    let f = sum_by-cons h p out.back in
    let g = sum_by-append h out.front out.back in
    omega arith

-- paths of which none occurs more often than in other paths are a part of these
pub part-occurs : (ps qs : List (List ℕ)) → ((path : List ℕ) → occurs path ps ≤ occurs path qs) → PartOfBag ps qs
part-occurs ps qs e = record { weighs = λ h. part-weighs h ps qs e }

-- each entry is of one of four kinds
kinds-weigh : (w : List ℕ → ℕ) (notes : List Note) → sum_by (λ note. w (path_of note)) notes ≡ sum_by w (taken_paths notes) + sum_by w (paths (judgements notes)) + sum_by w (sent_paths notes) + sum_by w (ended_paths notes)
kinds-weigh w [] = omega arith
kinds-weigh w (taken p ∷ ns) =
    let a = sum_by-cons (λ note. w (path_of note)) (taken p) ns in let b = sum_by-cons w p (taken_paths ns) in let r = kinds-weigh w ns in a ∙ omega arith
kinds-weigh w (visited p v h ∷ ns) =
    let a = sum_by-cons (λ note. w (path_of note)) (visited p v h) ns in let b = sum_by-cons w p (paths (judgements ns)) in let r = kinds-weigh w ns in a ∙ omega arith
kinds-weigh w (cut p v h ∷ ns) =
    let a = sum_by-cons (λ note. w (path_of note)) (cut p v h) ns in let b = sum_by-cons w p (paths (judgements ns)) in let r = kinds-weigh w ns in a ∙ omega arith
kinds-weigh w (spawned p ∷ ns) =
    let a = sum_by-cons (λ note. w (path_of note)) (spawned p) ns in let b = sum_by-cons w p (sent_paths ns) in let r = kinds-weigh w ns in a ∙ omega arith
kinds-weigh w (handed p ∷ ns) =
    let a = sum_by-cons (λ note. w (path_of note)) (handed p) ns in let b = sum_by-cons w p (sent_paths ns) in let r = kinds-weigh w ns in a ∙ omega arith
kinds-weigh w (ended p ∷ ns) =
    let a = sum_by-cons (λ note. w (path_of note)) (ended p) ns in let b = sum_by-cons w p (ended_paths ns) in let r = kinds-weigh w ns in a ∙ omega arith

all-in : (P : List ℕ → Type 0) (f : Note → List (List ℕ)) → ((note : Note) → P (path_of note) → AllByRecursion P (f note)) → (notes : List Note) → AllByRecursion (λ note. P (path_of note)) notes → AllByRecursion P (flat_map f notes)
all-in P f each [] a = tt
all-in P f each (n ∷ ns) a = AllByRecursion-append P (f n) (flat_map f ns) (each n a.0) (all-in P f each ns a.1)

all-judged : (P : List ℕ → Type 0) (notes : List Note) → AllByRecursion (λ note. P (path_of note)) notes → AllByRecursion P (paths (judgements notes))
all-judged P [] a = tt
all-judged P (taken p ∷ ns) a = all-judged P ns a.1
all-judged P (spawned p ∷ ns) a = all-judged P ns a.1
all-judged P (handed p ∷ ns) a = all-judged P ns a.1
all-judged P (ended p ∷ ns) a = all-judged P ns a.1
all-judged P (visited p w h ∷ ns) a = (a.0, all-judged P ns a.1)
all-judged P (cut p w h ∷ ns) a = (a.0, all-judged P ns a.1)

in_taken : (P : List ℕ → Type 0) (note : Note) → P (path_of note) → AllByRecursion P (taken_in note)
in_taken P (taken p) a = (a, tt)
in_taken P (visited p w h) a = tt
in_taken P (cut p w h) a = tt
in_taken P (spawned p) a = tt
in_taken P (handed p) a = tt
in_taken P (ended p) a = tt

in_sent : (P : List ℕ → Type 0) (note : Note) → P (path_of note) → AllByRecursion P (sent_in note)
in_sent P (taken p) a = tt
in_sent P (visited p w h) a = tt
in_sent P (cut p w h) a = tt
in_sent P (spawned p) a = (a, tt)
in_sent P (handed p) a = (a, tt)
in_sent P (ended p) a = tt

in_ended : (P : List ℕ → Type 0) (note : Note) → P (path_of note) → AllByRecursion P (ended_in note)
in_ended P (taken p) a = tt
in_ended P (visited p w h) a = tt
in_ended P (cut p w h) a = tt
in_ended P (spawned p) a = tt
in_ended P (handed p) a = tt
in_ended P (ended p) a = (a, tt)

-- paths that occur once, each in other paths, are a part of these
once-part : (ps qs : List (List ℕ)) → IsOnce ps → AllByRecursion (λ p. 0 < occurs p qs) ps → PartOfBag ps qs
once-part ps qs once there = part-occurs ps qs (λ path. by path (occurs path ps) refl)
  where
    by : (path : List ℕ) (n : ℕ) → occurs path ps ≡ n → occurs path ps ≤ occurs path qs
    by path zero e = omega arith
    by path (suc n) e =
        let o = once path in
        let more : 0 < occurs path ps = omega arith in
        let h = all-weighs is_path is_path-same is_path-is (λ p. 0 < occurs p qs) ps path there more in
        omega arith

module _ {N : Type 0} (t : SearchTree N) {sound : N → Type 0} (ranked : IsRanked sound t.children t.rank) (root : sound t.root) where
  node-occurs : (path : List ℕ) (found : Option N) → at_path t path ≡ found → IsSome found → 0 < occurs path (tree_paths t)
  node-occurs path (Some n) e s =
      let inside = Contains-map (λ (m : Member N). m.path) (tree t.children t.rank t.root) (record { path = path; node = n }) (tree-contains ranked path t.root n root e) in
      let whole = subst (λ ms. Contains (member_paths ms) path) (sym (prefixed-nil (tree t.children t.rank t.root))) inside in
      contains-has_weight is_path is_path-same is_path-is (tree_paths t) path whole
  node-occurs path None e s = absurd (cc)

  -- however paths are weighed, the entries weigh at most four times what the tree weighs
  entries-weigh : (w : List ℕ → ℕ) (notes : List Note) → AllByRecursion (λ note. IsSome (at_path t (path_of note))) notes → OneOfAKind notes → sum_by (λ note. w (path_of note)) notes ≤ 4 * sum_by w (tree_paths t)
  entries-weigh w notes all once =
      let P : List ℕ → Type 0 = λ p. 0 < occurs p (tree_paths t) in
      let there = weaker notes all in
      let a = (once-part (taken_paths notes) (tree_paths t) once.taken_once (all-in P taken_in (in_taken P) notes there)).weighs w in
      let b = (once-part (paths (judgements notes)) (tree_paths t) once.judged_once (all-judged P notes there)).weighs w in
      let c = (once-part (sent_paths notes) (tree_paths t) once.sent_once (all-in P sent_in (in_sent P) notes there)).weighs w in
      let d = (once-part (ended_paths notes) (tree_paths t) once.ended_once (all-in P ended_in (in_ended P) notes there)).weighs w in
      let k = kinds-weigh w notes in
      omega arith
    where
      weaker : (ns : List Note) → AllByRecursion (λ note. IsSome (at_path t (path_of note))) ns → AllByRecursion (λ note. 0 < occurs (path_of note) (tree_paths t)) ns
      weaker [] a = tt
      weaker (n ∷ ns) a = (node-occurs (path_of n) (at_path t (path_of n)) refl a.0, weaker ns a.1)

  -- an audit is full only where the tree is large
  pub IsAuditFull-large : {gap : ℕ} {skeleton : Skeleton} {workers entries numbers : ℕ} → IsAuditFull t gap skeleton workers entries numbers → IsLarge t
  IsAuditFull-large late =
      let all = late.notes ++ late.next ∷ [] in
      let same = same_Some late.notes late.full.notes late.full.are_told in
      elim late.full.past [
        | inl many ↦
            let a = entries-weigh (λ p. 1) all late.in_tree late.one_of_a_kind in
            let b = ones all in
            let c = ones (tree_paths t) in
            let d = length-append late.notes (late.next ∷ []) in
            let e = ap length same in
            let f = late.full.entries_are in
            inl (omega arith)
        | inr long ↦
            let a = entries-weigh (λ p. length p) all late.in_tree late.one_of_a_kind in
            let b = path_numbers-push late.notes late.next in
            let c = ap path_numbers same in
            let d = late.full.numbers_are in
            inr (omega arith)
      ]
    where
      ones : {X : Type 0} (xs : List X) → sum_by (λ x. 1) xs ≡ length xs
      ones [] = refl
      ones (x ∷ xs) = let a = sum_by-cons (λ y. 1) x xs in let r = ones xs in a ∙ omega arith
