-- The walk above the depth of tasks visits and cuts nothing at that depth.
use Rattle.std.proofs.Common.{◌≡◌, ℕ, zero, suc, ◌+◌, ◌<◌, Bool, true, false, List, [], ◌∷◌, ◌++◌, map, length, max, nat_le, if◌then◌else◌, refl, sym, subst, arith}
use Rattle.std.specs.List.{AllByRecursion}
use Rattle.std.proofs.lemmas.List.{length-append}
use Rattle.std.proofs.lemmas.List.Concat.{flat_map-append}
use Rattle.yew_laws.specs.SearchTree.{SearchTree, numbered}
use Rattle.yew_laws.proofs.Members.{AllByRecursion-append}
use Rattle.yew_log.specs.Items.{in_turn}
use Rattle.yew_log.specs.Notes.{Note, taken, visited, cut, spawned, handed, ended, Judgement, judgement_in, judgements, visits, cuts}
use Rattle.yew_log.specs.SeqLog.{visited_worth}
use Rattle.yew_ranked.specs.Frontier.{frontier_notes, frontier_log}

-- what holds of all visits and cuts
judged-visits : (P : Judgement → Type 0) (notes : List Note) → AllByRecursion P (judgements notes) → AllByRecursion P (visits notes)
judged-visits P [] a = tt
judged-visits P (visited p w h ∷ ns) a = (a.0, judged-visits P ns a.1)
judged-visits P (cut p b h ∷ ns) a = judged-visits P ns a.1
judged-visits P (taken p ∷ ns) a = judged-visits P ns a
judged-visits P (spawned p ∷ ns) a = judged-visits P ns a
judged-visits P (handed p ∷ ns) a = judged-visits P ns a
judged-visits P (ended p ∷ ns) a = judged-visits P ns a

judged-cuts : (P : Judgement → Type 0) (notes : List Note) → AllByRecursion P (judgements notes) → AllByRecursion P (cuts notes)
judged-cuts P [] a = tt
judged-cuts P (visited p w h ∷ ns) a = judged-cuts P ns a.1
judged-cuts P (cut p b h ∷ ns) a = (a.0, judged-cuts P ns a.1)
judged-cuts P (taken p ∷ ns) a = judged-cuts P ns a
judged-cuts P (spawned p ∷ ns) a = judged-cuts P ns a
judged-cuts P (handed p ∷ ns) a = judged-cuts P ns a
judged-cuts P (ended p ∷ ns) a = judged-cuts P ns a

-- a visit or a cut above a depth
abbrev pub IsAbove : ℕ → Judgement → Type 0
IsAbove depth j = length j.path < depth

spawned-none : (path : List ℕ) (ps : List (List ℕ)) → judgements (map spawned ps ++ ended path ∷ []) ≡ []
spawned-none path [] = refl
spawned-none path (p ∷ ps) = spawned-none path ps

module _ {N : Type 0} (t : SearchTree N) where
  in_turn-above : (depth : ℕ) (made : List ℕ → N → ℕ → List Note) (path : List ℕ) → ((k : ℕ) (c : N) (h : ℕ) → AllByRecursion (IsAbove depth) (judgements (made (path ++ k ∷ []) c h)))
      → (k : ℕ) (cs : List N) (h : ℕ) → AllByRecursion (IsAbove depth) (judgements (in_turn visited_worth made path k cs h))
  in_turn-above depth made path each k [] h = tt
  in_turn-above depth made path each k (c ∷ cs) h =
      let first = made (path ++ k ∷ []) c h in
      let rest = in_turn visited_worth made path (suc k) cs (max h (visited_worth first)) in
      subst (AllByRecursion (IsAbove depth)) (sym (flat_map-append judgement_in first rest))
      (AllByRecursion-append (IsAbove depth) (judgements first) (judgements rest) (each k c h) (in_turn-above depth made path each (suc k) cs (max h (visited_worth first))))

  longer : (path : List ℕ) (k : ℕ) → length (path ++ k ∷ []) ≡ suc (length path)
  longer path k = let l = length-append path (k ∷ []) in omega (arith, l)

  notes-above : (depth levels : ℕ) (path : List ℕ) (n : N) (held : ℕ) → length path + suc levels ≡ depth → AllByRecursion (IsAbove depth) (judgements (frontier_notes t levels path n held))
  notes-above depth zero path n held at = (omega (arith, at), subst (AllByRecursion (IsAbove depth)) (sym (spawned-none path (numbered path 0 (t.children n)))) tt)
  notes-above depth (suc levels) path n held at =
      let made : List ℕ → N → ℕ → List Note = λ p c h. if nat_le (t.bound c) h then cut p (t.bound c) h ∷ [] else frontier_notes t levels p c h in
      let inner = in_turn visited_worth made path 0 (t.children n) (max held (t.worth n)) in (
        omega (arith, at),
        subst (AllByRecursion (IsAbove depth)) (sym (flat_map-append judgement_in inner (ended path ∷ [])))
            (AllByRecursion-append (IsAbove depth) (judgements inner) []
            (in_turn-above depth made path (λ k c h. either (nat_le (t.bound c) h) (path ++ k ∷ []) (t.bound c) h (frontier_notes t levels (path ++ k ∷ []) c h) (let l = longer path k in omega (arith, l, at))
            (notes-above depth levels (path ++ k ∷ []) c h (let l = longer path k in omega (arith, l, at)))) 0 (t.children n) (max held (t.worth n))) tt),
      )
    where
      either : (b : Bool) (p : List ℕ) (bound h : ℕ) (notes : List Note) → length p < depth → AllByRecursion (IsAbove depth) (judgements notes)
          → AllByRecursion (IsAbove depth) (judgements (if b then cut p bound h ∷ [] else notes))
      either true p bound h notes less a = (less, tt)
      either false p bound h notes less a = a

  pub frontier-visits_above : (levels : ℕ) → AllByRecursion (IsAbove (suc levels)) (visits (frontier_log t levels))
  frontier-visits_above levels = judged-visits (IsAbove (suc levels)) (frontier_notes t levels [] t.root 0) (notes-above (suc levels) levels [] t.root 0 (omega arith))

  pub frontier-cuts_above : (levels : ℕ) → AllByRecursion (IsAbove (suc levels)) (cuts (frontier_log t levels))
  frontier-cuts_above levels = judged-cuts (IsAbove (suc levels)) (frontier_notes t levels [] t.root 0) (notes-above (suc levels) levels [] t.root 0 (omega arith))
