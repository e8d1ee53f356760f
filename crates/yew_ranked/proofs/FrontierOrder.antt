-- The visits, the cuts and the tasks of the walk above the depth stand in preorder, so each cut stands between the items.
use Rattle.std.proofs.Common.{◌≡◌, ℕ, zero, suc, ◌<◌, List, [], ◌∷◌, ◌++◌, map, length, max, Bool, true, false, nat_le, if◌then◌else◌, Some, slice_get, sym, subst, ◌∙◌, append_assoc, append-nil, arith}
use Rattle.std.specs.Prelude.{IsTrue}
use Rattle.std.specs.List.{AllByRecursion, flat_map}
use Rattle.std.proofs.lemmas.List.Concat.{flat_map-append}
use Rattle.std.proofs.lemmas.Option.{same_Some}
use Rattle.yew_laws.specs.SearchTree.{SearchTree, numbered}
use Rattle.yew_laws.specs.Order.{comes_before}
use Rattle.yew_laws.proofs.Below.{AtOrBelow, InChild, in_child, wider}
use Rattle.yew_laws.proofs.Members.{AllByRecursion-append, AllByRecursion-weaker, AllByRecursion-at}
use Rattle.yew_laws.proofs.PathTests.{before-itself, before-siblings}
use Rattle.yew_log.specs.Items.{Item, in_turn}
use Rattle.yew_log.specs.Notes.{Note, taken, visited, cut, spawned, handed, ended}
use Rattle.yew_log.specs.SeqLog.{visited_worth}
use Rattle.yew_ranked.specs.Frontier.{frontier_notes, frontier_log}
use Rattle.yew_ranked.specs.FrontierStates.{noted_items}
use Rattle.yew_ranked.specs.Tasks.{IsBetween}

-- the path of a visit, a cut or a task
abbrev place_in : Note → List (List ℕ)
place_in (visited path worth held) = path ∷ []
place_in (cut path bound held) = path ∷ []
place_in (spawned path) = path ∷ []
place_in _ = []

abbrev places : List Note → List (List ℕ)
places notes = flat_map place_in notes

-- each path comes before the later ones
abbrev Rising : List (List ℕ) → Type 0
Rising [] = Unit {0}
Rising (p ∷ ps) = AllByRecursion (λ (q : List ℕ). IsTrue (comes_before p q)) ps × Rising ps

rising-append : (ps qs : List (List ℕ)) → Rising ps → Rising qs → AllByRecursion (λ (p : List ℕ). AllByRecursion (λ (q : List ℕ). IsTrue (comes_before p q)) qs) ps → Rising (ps ++ qs)
rising-append [] qs a b between = b
rising-append (p ∷ ps) qs a b between = (AllByRecursion-append (λ (q : List ℕ). IsTrue (comes_before p q)) ps qs a.0 between.0, rising-append ps qs a.1 b between.1)

-- paths at and below one
record AreAtOrBelow (path : List ℕ) (ps : List (List ℕ)) : Type 0 where
  pub inside : AllByRecursion (AtOrBelow path) ps
  pub rise : Rising ps

-- some child of this number or a later one has the path at or below it
abbrev IsFrom : List ℕ → ℕ → List ℕ → Type 0
IsFrom path low p = (high : ℕ) × InChild path low high p

-- paths below the children of one from a number on
record AreInChildren (path : List ℕ) (low : ℕ) (ps : List (List ℕ)) : Type 0 where
  pub inside : AllByRecursion (IsFrom path low) ps
  pub rise : Rising ps

before-later : (path : List ℕ) (k : ℕ) (p q : List ℕ) → AtOrBelow (path ++ k ∷ []) p → IsFrom path (suc k) q → IsTrue (comes_before p q)
before-later path k p q a (high, b) =
    let is : p ≡ path ++ k ∷ a.rest = a.is ∙ append_assoc path (k ∷ []) a.rest in
    let from = b.from in
    subst (λ (x : List ℕ). IsTrue (comes_before x q)) (sym is) (subst (λ (y : List ℕ). IsTrue (comes_before (path ++ k ∷ a.rest) y)) (sym b.is) (before-siblings path k a.rest b.number b.rest (omega arith)))

-- what lies at or below a child, and then what lies in later ones
children-append : (path : List ℕ) (k : ℕ) (ps qs : List (List ℕ)) → AreAtOrBelow (path ++ k ∷ []) ps → AreInChildren path (suc k) qs → AreInChildren path k (ps ++ qs)
children-append path k ps qs a b = record {
  inside = AllByRecursion-append (IsFrom path k) ps qs
      (AllByRecursion-weaker (AtOrBelow (path ++ k ∷ [])) (IsFrom path k) (λ p at. (suc k, in_child path k p at)) ps a.inside)
      (AllByRecursion-weaker (IsFrom path (suc k)) (IsFrom path k) (λ p f. (f.0, wider path (suc k) f.0 k f.0 (omega arith) (omega arith) p f.1)) qs b.inside);
  rise = rising-append ps qs a.rise b.rise
      (AllByRecursion-weaker (AtOrBelow (path ++ k ∷ [])) (λ (p : List ℕ). AllByRecursion (λ (q : List ℕ). IsTrue (comes_before p q)) qs)
      (λ p at. AllByRecursion-weaker (IsFrom path (suc k)) (λ (q : List ℕ). IsTrue (comes_before p q)) (λ q f. before-later path k p q at f) qs b.inside) ps a.inside);
}

alone : (path : List ℕ) → AreAtOrBelow path (path ∷ [])
alone path = record { inside = (record { rest = []; is = sym (append-nil path) }, tt); rise = (tt, tt) }

module _ {N : Type 0} where
  in_turn-places : (made : List ℕ → N → ℕ → List Note) → ((p : List ℕ) (c : N) (h : ℕ) → AreAtOrBelow p (places (made p c h))) → (path : List ℕ) (k : ℕ) (cs : List N) (h : ℕ) → AreInChildren path k (places
      (in_turn visited_worth made path k cs h))
  in_turn-places made each path k [] h = record { inside = tt; rise = tt }
  in_turn-places made each path k (c ∷ cs) h =
      let notes = made (path ++ k ∷ []) c h in
      let later = in_turn visited_worth made path (suc k) cs (max h (visited_worth notes)) in
      subst (AreInChildren path k) (sym (flat_map-append place_in notes later))
      (children-append path k (places notes) (places later) (each (path ++ k ∷ []) c h) (in_turn-places made each path (suc k) cs (max h (visited_worth notes))))

  spawned-places : (path : List ℕ) (k : ℕ) (cs : List N) → AreInChildren path k (places (map spawned (numbered path k cs)))
  spawned-places path k [] = record { inside = tt; rise = tt }
  spawned-places path k (c ∷ cs) = children-append path k ((path ++ k ∷ []) ∷ []) (places (map spawned (numbered path (suc k) cs))) (alone (path ++ k ∷ [])) (spawned-places path (suc k) cs)

-- a visit and its end, with the entries between them
visit-places : (path : List ℕ) (worth held : ℕ) (notes : List Note) → AreInChildren path 0 (places notes) → AreAtOrBelow path (places (visited path worth held ∷ (notes ++ ended path ∷ [])))
visit-places path worth held notes from =
    subst (λ (ps : List (List ℕ)). AreAtOrBelow path (path ∷ ps)) (sym (flat_map-append place_in notes (ended path ∷ []) ∙ append-nil (places notes))) record {
      inside = (
        record { rest = []; is = sym (append-nil path) },
        AllByRecursion-weaker (IsFrom path 0) (AtOrBelow path) (λ p f. record { rest = f.1.number ∷ f.1.rest; is = f.1.is }) (places notes) from.inside,
      );
      rise = (
        AllByRecursion-weaker (IsFrom path 0) (λ (q : List ℕ). IsTrue (comes_before path q)) (λ q f. subst (λ (y : List ℕ). IsTrue (comes_before path y)) (sym f.1.is) (before-itself path f.1.number f.1.rest)) (places notes) from.inside,
        from.rise,
      );
    }

module _ {N : Type 0} (t : SearchTree N) where
  frontier-places : (levels : ℕ) (path : List ℕ) (n : N) (held : ℕ) → AreAtOrBelow path (places (frontier_notes t levels path n held))
  frontier-places zero path n held = visit-places path (t.worth n) held (map spawned (numbered path 0 (t.children n))) (spawned-places path 0 (t.children n))
  frontier-places (suc levels) path n held =
      visit-places path (t.worth n) held (in_turn visited_worth (λ p c h. if nat_le (t.bound c) h then cut p (t.bound c) h ∷ [] else frontier_notes t levels p c h) path 0 (t.children n) (max held (t.worth n)))
      (in_turn-places (λ p c h. if nat_le (t.bound c) h then cut p (t.bound c) h ∷ [] else frontier_notes t levels p c h) (λ p c h. child p c h (nat_le (t.bound c) h) (frontier-places levels p c h)) path 0
      (t.children n) (max held (t.worth n)))
    where
      child : (p : List ℕ) (c : N) (h : ℕ) (b : Bool) → AreAtOrBelow p (places (frontier_notes t levels p c h)) → AreAtOrBelow p (places (if b then cut p (t.bound c) h ∷ [] else frontier_notes t levels p c h))
      child p c h true a = alone p
      child p c h false a = a

-- the paths around one of those that rise
record IsInside (before : List (List ℕ)) (path : List ℕ) (after : List (List ℕ)) : Type 0 where
  pub earlier : AllByRecursion (λ (q : List ℕ). IsTrue (comes_before q path)) before
  pub later : AllByRecursion (λ (q : List ℕ). IsTrue (comes_before path q)) after

rising-inside : (before : List (List ℕ)) (path : List ℕ) (after : List (List ℕ)) → Rising (before ++ path ∷ after) → IsInside before path after
rising-inside [] path after r = record { earlier = tt; later = r.0 }
rising-inside (p ∷ before) path after r =
    let rest = rising-inside before path after r.1 in
    record { earlier = (front (before) r.0, rest.earlier); later = rest.later }
  where
    front : (qs : List (List ℕ)) → AllByRecursion (λ (q : List ℕ). IsTrue (comes_before p q)) (qs ++ path ∷ after) → IsTrue (comes_before p path)
    front [] a = a.0
    front (q ∷ qs) a = front qs a.1

-- the items of entries have paths among theirs
items-places : (P : List ℕ → Type 0) (notes : List Note) → AllByRecursion P (places notes) → AllByRecursion (λ (i : Item). P i.path) (noted_items notes)
items-places P [] a = tt
items-places P (taken path ∷ notes) a = items-places P notes a
items-places P (visited path worth held ∷ notes) a = (a.0, items-places P notes a.1)
items-places P (cut path bound held ∷ notes) a = items-places P notes a.1
items-places P (spawned path ∷ notes) a = (a.0, items-places P notes a.1)
items-places P (handed path ∷ notes) a = items-places P notes a
items-places P (ended path ∷ notes) a = items-places P notes a

early : (xs ys : List Item) (r : ℕ) (x : Item) (P : Item → Type 0) → slice_get (xs ++ ys) r ≡ Some x → r < length xs → AllByRecursion P xs → P x
early [] ys r x P e less a = absurd (omega arith)
early (y ∷ xs) ys zero x P e less a = subst P (same_Some y x e) a.0
early (y ∷ xs) ys (suc r) x P e less a = early xs ys r x P e (omega arith) a.1

late : (xs ys : List Item) (r : ℕ) (x : Item) (P : Item → Type 0) → slice_get (xs ++ ys) r ≡ Some x → (r < length xs → ⊥) → AllByRecursion P ys → P x
late [] ys r x P e not a = AllByRecursion-at P ys r x e a
late (y ∷ xs) ys zero x P e not a = absurd (not (omega arith))
late (y ∷ xs) ys (suc r) x P e not a = late xs ys r x P e (λ less. not (omega (arith, less))) a

module _ {N : Type 0} (t : SearchTree N) where
  -- a cut stands between the items before it and those after it
  pub cut-between : (levels : ℕ) (before after : List Note) (path : List ℕ) (bound held : ℕ) → frontier_log t levels ≡ before ++ cut path bound held ∷ after
      → IsBetween (noted_items before ++ noted_items after) (length (noted_items before)) path
  cut-between levels before after path bound held stands =
      let inside = rising-inside (places before) path (places after) (subst Rising (flat_map-append place_in before (cut path bound held ∷ after)) (subst (λ (notes : List Note). Rising (places notes)) stands
      (frontier-places t levels [] t.root 0).rise)) in
      record {
        after = λ r item found less. early (noted_items before) (noted_items after) r item (λ (i : Item). IsTrue (comes_before i.path path)) found less (items-places (λ (q : List ℕ). IsTrue (comes_before q path)) before inside.earlier);
        before = λ r item found not. late (noted_items before) (noted_items after) r item (λ (i : Item). IsTrue (comes_before path i.path)) found not (items-places (λ (q : List ℕ). IsTrue (comes_before path q)) after inside.later);
      }
