-- Walks of tasks at rising places: each visits nodes of its own item, their keys rise, and their tasks are a part of all tasks.
use Rattle.std.proofs.Common.{◌≡◌, ℕ, zero, suc, ◌+◌, ◌<◌, ◌≤◌, ◌⊎◌, inl, inr, Some, None, Option, List, [], ◌∷◌, ◌++◌, map, refl, ap, sym, subst, ◌∙◌, append-nil, arith}
use Rattle.std.specs.Prelude.{IsTrue, IsSome, slice_get}
use Rattle.std.specs.List.{AllByRecursion, flat_map, sum_by}
use Rattle.std.proofs.lemmas.List.Sums.{sum_by-cons}
use Rattle.std.proofs.lemmas.Option.{none-some, same_Some}
use Rattle.yew_laws.specs.Order.{lies_below, is_path}
use Rattle.yew_laws.specs.SearchTree.{SearchTree, at_path, below}
use Rattle.yew_laws.specs.Tree.{IsRanked}
use Rattle.yew_laws.proofs.Below.{AtOrBelow}
use Rattle.yew_laws.proofs.Members.{AllByRecursion-weaker}
use Rattle.yew_laws.proofs.PathTests.{is_path-same, is_path-is, below-itself}
use Rattle.yew_laws.proofs.Weights.{part-all}
use Rattle.yew_log.specs.HeldValues.{ranked, HeldRises, IsJudged}
use Rattle.yew_log.specs.Items.{Item, items_of, IsInItem}
use Rattle.yew_log.specs.Notes.{visited_paths, cut_paths, sent_paths}
use Rattle.yew_log.specs.Segment.{Segment, entries_in, IsBroken}
use Rattle.yew_walk.specs.declared.keying.Keying.{Keying}
use Rattle.yew_walk.specs.declared.keying.Keying.TheVariants.{Ranked}
use Rattle.yew_walk.specs.Keys.{gap_in}
use Rattle.yew_walk.specs.WorkerLogs.{KeyedSegment, ComesFirst, KeysRise}
use Rattle.yew_ranked.specs.Stations.{AreRising}
use Rattle.yew_ranked.specs.Tasks.{Numbered, tasks_of_tree}
use Rattle.yew_ranked.proofs.BrokenFronts.{all-front}
use Rattle.yew_ranked.proofs.FirstBestVisits.{cut-inside}
use Rattle.yew_ranked.proofs.TaskRanks.{IsItem, ranks-rise, task-item}

-- a path at or below a task is in its item
pub in-item : (items : List Item) (task : Numbered) (path : List ℕ) → IsItem 0 items task → AtOrBelow task.path path → IsInItem items task.rank path
in-item items task path i a =
    let place : i.place ≡ task.rank = let e = i.rank_is in omega (arith, e) in
    record {
      item = i.item;
      found = subst (λ r. slice_get items r ≡ Some i.item) place i.found;
      within = by a.rest a.is;
    }
  where
    by : (rest : List ℕ) → path ≡ task.path ++ rest → (path ≡ i.item.path) ⊎ (IsTrue i.item.is_task × IsTrue (lies_below i.item.path path))
    by [] e = inl (e ∙ append-nil task.path ∙ sym i.path_is)
    by (k ∷ rest) e =
        inr (i.is_task, subst (λ (p : List ℕ). IsTrue (lies_below p path)) (sym i.path_is) (subst (λ (q : List ℕ). IsTrue (lies_below task.path q)) (sym e) (below-itself task.path k rest)))

-- the weight of the first ones of a list
module _ {X : Type 0} (h : X → ℕ) where
  abbrev firsts : List X → ℕ → ℕ
  firsts [] n = 0
  firsts (x ∷ xs) zero = 0
  firsts (x ∷ xs) (suc n) = h x + firsts xs n

  firsts-none : (xs : List X) → firsts xs 0 ≡ 0
  firsts-none [] = refl
  firsts-none (x ∷ xs) = refl

  firsts-next : (xs : List X) (p : ℕ) (x : X) → slice_get xs p ≡ Some x → firsts xs (suc p) ≡ firsts xs p + h x
  firsts-next [] p x e = absurd (none-some x e)
  firsts-next (y ∷ ys) zero x e = let same = ap h (same_Some y x e) in let none = firsts-none ys in omega (arith, same, none)
  firsts-next (y ∷ ys) (suc p) x e = let rest = firsts-next ys p x e in omega (arith, rest)

  firsts-grows : (xs : List X) (m n : ℕ) → m ≤ n → firsts xs m ≤ firsts xs n
  firsts-grows [] m n le = omega arith
  firsts-grows (x ∷ xs) zero n le = omega arith
  firsts-grows (x ∷ xs) (suc m) zero le = absurd (omega (arith, le))
  firsts-grows (x ∷ xs) (suc m) (suc n) le = let rest = firsts-grows xs m n (omega (arith, le)) in omega (arith, rest)

  firsts-all : (xs : List X) (n : ℕ) → firsts xs n ≤ sum_by h xs
  firsts-all [] n = omega arith
  firsts-all (x ∷ xs) zero = omega arith
  firsts-all (x ∷ xs) (suc n) = let rest = firsts-all xs n in let c = sum_by-cons h x xs in omega (arith, rest, c)

module _ {N : Type 0} (t : SearchTree N) where
  -- a walk of the task at this place of the list, which may have been broken off
  pub record IsPartAt (tasks : List Numbered) (place : ℕ) (walk : KeyedSegment) : Type 0 where
    pub task : Numbered
    pub there : slice_get tasks place ≡ Some task
    pub keys : walk.keying ≡ Ranked task.rank
    pub task_is : walk.segment.task ≡ task.path
    pub is_broken : IsBroken t walk.segment
    pub rises : HeldRises (entries_in walk.segment)
    pub judged : IsJudged t 0 ranked (entries_in walk.segment)

  abbrev pub ArePartsAt : List Numbered → List ℕ → List KeyedSegment → Type 0
  ArePartsAt tasks [] [] = Unit {0}
  ArePartsAt tasks [] (walk ∷ walks) = ⊥
  ArePartsAt tasks (place ∷ places) [] = ⊥
  ArePartsAt tasks (place ∷ places) (walk ∷ walks) = IsPartAt tasks place walk × ArePartsAt tasks places walks

  -- one more
  pub parts-push : (tasks : List Numbered) (places : List ℕ) (walks : List KeyedSegment) (place : ℕ) (walk : KeyedSegment) → ArePartsAt tasks places walks → IsPartAt tasks place walk
      → ArePartsAt tasks (places ++ place ∷ []) (walks ++ walk ∷ [])
  parts-push tasks [] [] place walk are is = (is, tt)
  parts-push tasks [] (w ∷ ws) place walk are is = absurd are
  parts-push tasks (p ∷ ps) [] place walk are is = absurd are
  parts-push tasks (p ∷ ps) (w ∷ ws) place walk are is = (are.0, parts-push tasks ps ws place walk are.1 is)

  -- their tasks are a part of all
  parts-weigh : (tasks : List Numbered) (h : List ℕ → ℕ) (n : ℕ) (places : List ℕ) (walks : List KeyedSegment) → ArePartsAt tasks places walks → AreRising places
      → AllByRecursion (λ p. n ≤ p) places
      → firsts (λ (task : Numbered). h task.path) tasks n + sum_by h (map (λ (w : KeyedSegment). w.segment.task) walks) ≤ sum_by (λ (task : Numbered). h task.path) tasks
  parts-weigh tasks h n [] [] are rising low = let all = firsts-all (λ (task : Numbered). h task.path) tasks n in omega (arith, all)
  parts-weigh tasks h n [] (w ∷ ws) are rising low = absurd are
  parts-weigh tasks h n (p ∷ ps) [] are rising low = absurd are
  parts-weigh tasks h n (p ∷ ps) (w ∷ ws) are rising low =
      let of_task : Numbered → ℕ = λ (task : Numbered). h task.path in
      let part = are.0 in
      let next = firsts-next of_task tasks p part.task part.there in
      let grows = firsts-grows of_task tasks n p low.0 in
      let rest = parts-weigh tasks h (suc p) ps ws are.1 rising.1 rising.0 in
      let same = ap h part.task_is in
      let c = sum_by-cons h w.segment.task (map (λ (v : KeyedSegment). v.segment.task) ws) in omega (arith, next, grows, rest, same, c)

  any-low : (places : List ℕ) → AllByRecursion (λ p. 0 ≤ p) places
  any-low [] = tt
  any-low (p ∷ ps) = (omega arith, any-low ps)

  pub parts-of_tasks : (tasks : List Numbered) (h : List ℕ → ℕ) (places : List ℕ) (walks : List KeyedSegment) → ArePartsAt tasks places walks → AreRising places
      → sum_by h (map (λ (w : KeyedSegment). w.segment.task) walks) ≤ sum_by (λ (task : Numbered). h task.path) tasks
  parts-of_tasks tasks h places walks are rising =
      let w = parts-weigh tasks h 0 places walks are rising (any-low places) in
      let none = firsts-none (λ (task : Numbered). h task.path) tasks in omega (arith, w, none)

  -- facts of all walks
  pub parts-all : (tasks : List Numbered) (P : KeyedSegment → Type 0) → ((place : ℕ) (walk : KeyedSegment) → IsPartAt tasks place walk → P walk)
      → (places : List ℕ) (walks : List KeyedSegment) → ArePartsAt tasks places walks → AllByRecursion P walks
  parts-all tasks P f [] [] are = tt
  parts-all tasks P f [] (w ∷ ws) are = absurd are
  parts-all tasks P f (p ∷ ps) [] are = absurd are
  parts-all tasks P f (p ∷ ps) (w ∷ ws) are = (f p w are.0, parts-all tasks P f ps ws are.1)

  -- no walk permits a gap
  pub parts-exact : (tasks : List Numbered) (places : List ℕ) (walks : List KeyedSegment) → ArePartsAt tasks places walks → AllByRecursion (λ (w : KeyedSegment). gap_in w.keying ≡ 0) walks
  parts-exact tasks = parts-all tasks (λ w. gap_in w.keying ≡ 0) (λ p w part. ap gap_in part.keys)

  -- the keys of walks at rising places of the tasks of the tree rise
  comes-first : (first second : Keying) (a b : ℕ) → first ≡ Ranked a → second ≡ Ranked b → a < b → ComesFirst first second
  comes-first first second a b e f less = subst (λ k. ComesFirst k second) (sym e) (subst (λ k. ComesFirst (Ranked a) k) (sym f) less)

  pub keys-rise : (depth : ℕ) (places : List ℕ) (walks : List KeyedSegment) → ArePartsAt (tasks_of_tree t depth) places walks → AreRising places → KeysRise walks
  keys-rise depth [] [] are rising = tt
  keys-rise depth [] (w ∷ ws) are rising = absurd are
  keys-rise depth (p ∷ ps) [] are rising = absurd are
  keys-rise depth (p ∷ ps) (w ∷ ws) are rising = (later ps ws are.1 rising.0, keys-rise depth ps ws are.1 rising.1)
    where
      later : (qs : List ℕ) (vs : List KeyedSegment) → ArePartsAt (tasks_of_tree t depth) qs vs → AllByRecursion (λ q. p < q) qs → AllByRecursion (λ (v : KeyedSegment). ComesFirst w.keying v.keying) vs
      later [] [] a l = tt
      later [] (v ∷ vs) a l = absurd a
      later (q ∷ qs) [] a l = absurd a
      later (q ∷ qs) (v ∷ vs) a l =
          let one = are.0 in let two = a.0 in
          (comes-first w.keying v.keying one.task.rank two.task.rank one.keys two.keys (ranks-rise t depth p q one.task two.task one.there two.there l.0), later qs vs a.1 l.1)

  module _ {sound : N → Type 0} (is_ranked : IsRanked sound t.children t.rank) (root : sound t.root) where
    -- what a segment visits lies at or below its task
    visited-below : (s : Segment) → IsBroken t s → AllByRecursion (AtOrBelow s.task) (visited_paths s.body)
    visited-below s is = by (at_path t s.task) refl is.in_tree.0
      where
        by : (o : Option N) → at_path t s.task ≡ o → IsSome o → AllByRecursion (AtOrBelow s.task) (visited_paths s.body)
        by None e some = absurd (cc)
        by (Some q) e some =
            all-front (AtOrBelow s.task) (visited_paths s.body) (flat_map (below t) (cut_paths s.body ++ sent_paths s.body))
            (part-all is_path is_path-same is_path-is (AtOrBelow s.task) is.part_covered (cut-inside t is_ranked root s.task q e))

    -- so the visits of a walk are of its item
    pub visited-in_item : (depth place : ℕ) (walk : KeyedSegment) (part : IsPartAt (tasks_of_tree t depth) place walk)
        → AllByRecursion (IsInItem (items_of t depth) part.task.rank) (visited_paths walk.segment.body)
    visited-in_item depth place walk part =
        AllByRecursion-weaker (AtOrBelow walk.segment.task) (IsInItem (items_of t depth) part.task.rank)
        (λ p a. in-item (items_of t depth) part.task p (task-item t depth place part.task part.there) (subst (λ (c : List ℕ). AtOrBelow c p) part.task_is a))
        (visited_paths walk.segment.body) (visited-below walk.segment part.is_broken)
