-- The entries of the walk above the depth are the items of the tree, in order, and its tasks are among them.
use Rattle.std.proofs.Common.{◌≡◌, ℕ, zero, suc, ◌+◌, List, [], ◌∷◌, ◌++◌, map, length, max, Bool, true, false, nat_le, nat_lt, if◌then◌else◌, Some, slice_get, refl, ap, ap₂, sym, ◌∙◌, append_assoc, append-nil, arith}
use Rattle.std.proofs.lemmas.Bool.Decides.{nat_tests}
use Rattle.std.proofs.lemmas.List.Concat.{flat_map-append}
use Rattle.yew_laws.specs.SearchTree.{SearchTree, numbered}
use Rattle.yew_log.specs.Items.{Item, in_turn, item_worth, items_from, items_of}
use Rattle.yew_log.specs.Notes.{Note, taken, visited, cut, spawned, handed, ended}
use Rattle.yew_log.specs.SeqLog.{visited_worth}
use Rattle.yew_ranked.specs.Frontier.{frontier_notes, frontier_log}
use Rattle.yew_ranked.specs.FrontierStates.{noted_item, noted_items, entered_notes, children_notes}
use Rattle.yew_ranked.specs.Tasks.{Numbered, tasks_from}

pub noted_items-append : (xs ys : List Note) → noted_items (xs ++ ys) ≡ noted_items xs ++ noted_items ys
noted_items-append xs ys = flat_map-append noted_item xs ys

-- the worth of entries is that of their items
pub noted_items-worth : (notes : List Note) → visited_worth notes ≡ item_worth (noted_items notes)
noted_items-worth [] = refl
noted_items-worth (taken path ∷ notes) = noted_items-worth notes
noted_items-worth (visited path worth held ∷ notes) = ap (max worth) (noted_items-worth notes)
noted_items-worth (cut path bound held ∷ notes) = noted_items-worth notes
noted_items-worth (spawned path ∷ notes) = let rest = noted_items-worth notes in omega (arith, rest)
noted_items-worth (handed path ∷ notes) = noted_items-worth notes
noted_items-worth (ended path ∷ notes) = noted_items-worth notes

-- the tasks among more items
pub tasks_from-append : (rank : ℕ) (xs ys : List Item) → tasks_from rank (xs ++ ys) ≡ tasks_from rank xs ++ tasks_from (rank + length xs) ys
tasks_from-append rank [] ys = ap (λ (r : ℕ). tasks_from r ys) (none rank)
  where
    none : (r : ℕ) → r ≡ r + 0
    none r = omega arith
tasks_from-append rank (x ∷ xs) ys =
    let own = if x.is_task then record { path = x.path; rank = rank } ∷ [] else [] in
    ap (λ (zs : List Numbered). own ++ zs) (tasks_from-append (suc rank) xs ys)
    ∙ (sym (append_assoc own (tasks_from (suc rank) xs) (tasks_from (suc rank + length xs) ys))
    ∙ ap (λ (r : ℕ). (own ++ tasks_from (suc rank) xs) ++ tasks_from r ys) (later rank (length xs)))
  where
    later : (r n : ℕ) → suc r + n ≡ r + suc n
    later r n = omega arith

-- an item stands behind those before it
pub item-at : (xs : List Item) (x : Item) (ys : List Item) → slice_get (xs ++ x ∷ ys) (length xs) ≡ Some x
item-at [] x ys = refl
item-at (y ∷ xs) x ys = item-at xs x ys

module _ {N : Type 0} where
  in_turn-noted : (notes_of : List ℕ → N → ℕ → List Note) (items_at : List ℕ → N → ℕ → List Item) (path : List ℕ)
      → ((k : ℕ) (c : N) (h : ℕ) → noted_items (notes_of (path ++ k ∷ []) c h) ≡ items_at (path ++ k ∷ []) c h)
      → (k : ℕ) (cs : List N) (h : ℕ) → noted_items (in_turn visited_worth notes_of path k cs h) ≡ in_turn item_worth items_at path k cs h
  in_turn-noted notes_of items_at path each k [] h = refl
  in_turn-noted notes_of items_at path each k (c ∷ cs) h =
      let notes = notes_of (path ++ k ∷ []) c h in
      let worth_is = noted_items-worth notes ∙ ap item_worth (each k c h) in
      noted_items-append notes (in_turn visited_worth notes_of path (suc k) cs (max h (visited_worth notes)))
      ∙ (ap₂ (λ (xs ys : List Item). xs ++ ys) (each k c h) (in_turn-noted notes_of items_at path each (suc k) cs (max h (visited_worth notes)))
      ∙ ap (λ (w : ℕ). items_at (path ++ k ∷ []) c h ++ in_turn item_worth items_at path (suc k) cs (max h w)) worth_is)

  -- the spawned children of a node are its tasks
  spawned-noted : (path : List ℕ) (k : ℕ) (cs : List N) (h : ℕ)
      → noted_items (map spawned (numbered path k cs)) ≡ in_turn item_worth (λ p c g. record { path = p; worth = 0; is_task = true } ∷ []) path k cs h
  spawned-noted path k [] h = refl
  spawned-noted path k (c ∷ cs) h = ap (λ (items : List Item). record { path = path ++ k ∷ []; worth = 0; is_task = true } ∷ items) (spawned-noted path (suc k) cs (max h 0))

-- a visit and its end, with the entries between them
visit-noted : (path : List ℕ) (worth held : ℕ) (notes : List Note) (items : List Item) → noted_items notes ≡ items
    → noted_items (visited path worth held ∷ (notes ++ ended path ∷ [])) ≡ record { path = path; worth = worth; is_task = false } ∷ items
visit-noted path worth held notes items are =
    ap (λ (is : List Item). record { path = path; worth = worth; is_task = false } ∷ is) (noted_items-append notes (ended path ∷ []) ∙ (append-nil (noted_items notes) ∙ are))

module _ {N : Type 0} (t : SearchTree N) where
  frontier-noted : (levels : ℕ) (path : List ℕ) (n : N) (held : ℕ) → noted_items (frontier_notes t levels path n held) ≡ items_from t (suc levels) path n held
  frontier-noted zero path n held = visit-noted path (t.worth n) held (map spawned (numbered path 0 (t.children n))) _ (spawned-noted path 0 (t.children n) (max held (t.worth n)))
  frontier-noted (suc levels) path n held =
      visit-noted path (t.worth n) held (in_turn visited_worth (λ p c h. if nat_le (t.bound c) h then cut p (t.bound c) h ∷ [] else frontier_notes t levels p c h) path 0 (t.children n) (max held (t.worth n))) _
      (in_turn-noted (λ p c h. if nat_le (t.bound c) h then cut p (t.bound c) h ∷ [] else frontier_notes t levels p c h) (λ p c h. if nat_lt h (t.bound c) then items_from t (suc levels) p c h else []) path
      (λ k c h. child k c h (nat_le (t.bound c) h) refl (frontier-noted levels (path ++ k ∷ []) c h)) 0 (t.children n) (max held (t.worth n)))
    where
      child : (k : ℕ) (c : N) (h : ℕ) (b : Bool) → nat_le (t.bound c) h ≡ b → noted_items (frontier_notes t levels (path ++ k ∷ []) c h) ≡ items_from t (suc levels) (path ++ k ∷ []) c h
          → noted_items (if b then cut (path ++ k ∷ []) (t.bound c) h ∷ [] else frontier_notes t levels (path ++ k ∷ []) c h) ≡ (if nat_lt h (t.bound c) then items_from t (suc levels) (path ++ k ∷ []) c h else [])
      child k c h true e are = ap (λ (b : Bool). if b then items_from t (suc levels) (path ++ k ∷ []) c h else []) (sym (not_above (t.bound c) h e))
        where
          not_above : (b h : ℕ) → nat_le b h ≡ true → nat_lt h b ≡ false
          not_above b h e = grind (arith, nat_tests)
      child k c h false e are = are ∙ ap (λ (b : Bool). if b then items_from t (suc levels) (path ++ k ∷ []) c h else []) (sym (above (t.bound c) h e))
        where
          above : (b h : ℕ) → nat_le b h ≡ false → nat_lt h b ≡ true
          above b h e = grind (arith, nat_tests)

  -- the entries of the log are the items of the tree
  pub frontier_log-noted : (levels : ℕ) → noted_items (frontier_log t levels) ≡ items_of t (suc levels)
  frontier_log-noted levels = frontier-noted levels [] t.root 0

  -- the entries of a visited node: its visit, those of its children, and its end
  pub frontier_notes-children : (levels : ℕ) (path : List ℕ) (n : N) (held : ℕ) → frontier_notes t levels path n held ≡ visited path (t.worth n) held ∷ (children_notes t levels path 0 (t.children n) (max held
      (t.worth n)) ++ ended path ∷ [])
  frontier_notes-children zero path n held = refl
  frontier_notes-children (suc levels) path n held = refl

  -- a child is no root
  pub entered_notes-child : (levels : ℕ) (path : List ℕ) (k : ℕ) (c : N) (h : ℕ) → entered_notes t levels (path ++ k ∷ []) c h ≡ (if nat_le (t.bound c) h then cut (path ++ k ∷ [])
      (t.bound c) h ∷ [] else frontier_notes t levels (path ++ k ∷ []) c h)
  entered_notes-child levels [] k c h = refl
  entered_notes-child levels (j ∷ path) k c h = refl

  -- the first child above the depth is entered, and then the others
  pub children_notes-first : (levels : ℕ) (path : List ℕ) (k : ℕ) (c : N) (cs : List N) (h : ℕ) → let first = entered_notes t levels (path ++ k ∷ []) c h in
      children_notes t (suc levels) path k (c ∷ cs) h ≡ first ++ children_notes t (suc levels) path (suc k) cs (max h (visited_worth first))
  children_notes-first levels path k c cs h =
      ap (λ (first : List Note). first ++ children_notes t (suc levels) path (suc k) cs (max h (visited_worth first))) (sym (entered_notes-child levels path k c h))
