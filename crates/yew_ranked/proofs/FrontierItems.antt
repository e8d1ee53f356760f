-- The visits and the spawned tasks of the walk above the depth are the items, and the spawned ones are the tasks.
use Rattle.std.proofs.Common.{◌≡◌, ℕ, zero, suc, ◌+◌, ◌<◌, List, [], ◌∷◌, ◌++◌, map, length, max, Bool, true, false, nat_le, nat_lt, if◌then◌else◌}
use Rattle.std.proofs.Common.{refl, ap, ap₂, sym, subst, ◌∙◌, append-nil, arith, length-append}
use Rattle.std.specs.List.{flat_map}
use Rattle.std.proofs.lemmas.Bool.Decides.{nat_tests}
use Rattle.std.proofs.lemmas.List.{map-append}
use Rattle.std.proofs.lemmas.List.Concat.{flat_map-append}
use Rattle.yew_laws.specs.SearchTree.{SearchTree, numbered}
use Rattle.yew_log.specs.Items.{Item, in_turn, item_paths, item_worth, items_from, items_of}
use Rattle.yew_log.specs.Lawful.{item_in}
use Rattle.yew_log.specs.Notes.{Note, visited, cut, spawned, ended, maximum, spawned_in, spawned_paths}
use Rattle.yew_log.specs.SeqLog.{visited_worth}
use Rattle.yew_log.proofs.SeqLaws.{worth-append}
use Rattle.yew_ranked.specs.Frontier.{frontier_notes, frontier_log}
use Rattle.yew_ranked.specs.Tasks.{Numbered, tasks_from, tasks_of_tree}

maximum-append : (xs ys : List ℕ) → maximum (xs ++ ys) ≡ max (maximum xs) (maximum ys)
maximum-append [] ys = omega arith
maximum-append (x ∷ xs) ys = let r = maximum-append xs ys in omega (arith, r)

item_worth-append : (xs ys : List Item) → item_worth (xs ++ ys) ≡ max (item_worth xs) (item_worth ys)
item_worth-append xs ys = ap maximum (map-append (λ (i : Item). i.worth) xs ys) ∙ maximum-append (map (λ (i : Item). i.worth) xs) (map (λ (i : Item). i.worth) ys)

-- the path of an item, if it is a task
abbrev task_in : Item → List (List ℕ)
task_in item = if item.is_task then item.path ∷ [] else []

-- the paths of the tasks among items
abbrev task_paths : List Item → List (List ℕ)
task_paths items = flat_map task_in items

-- these entries are of these items, in order
record AreOf (depth : ℕ) (notes : List Note) (items : List Item) : Type 0 where
  pub paths_are : flat_map (item_in depth) notes ≡ item_paths items
  pub tasks_are : spawned_paths notes ≡ task_paths items
  pub worth_is : visited_worth notes ≡ item_worth items

are-append : (depth : ℕ) (xs ys : List Note) (is js : List Item) → AreOf depth xs is → AreOf depth ys js → AreOf depth (xs ++ ys) (is ++ js)
are-append depth xs ys is js a b = record {
  paths_are = flat_map-append (item_in depth) xs ys ∙ (ap₂ (λ (ps qs : List (List ℕ)). ps ++ qs) a.paths_are b.paths_are ∙ sym (map-append (λ (i : Item). i.path) is js));
  tasks_are = flat_map-append spawned_in xs ys ∙ (ap₂ (λ (ps qs : List (List ℕ)). ps ++ qs) a.tasks_are b.tasks_are ∙ sym (flat_map-append task_in is js));
  worth_is = worth-append xs ys ∙ (ap₂ max a.worth_is b.worth_is ∙ sym (item_worth-append is js));
}

none-of : (depth : ℕ) → AreOf depth [] []
none-of depth = record { paths_are = refl; tasks_are = refl; worth_is = refl }

-- entries that are of no item
are-nothing : (depth : ℕ) (xs ys : List Note) (is : List Item) → AreOf depth xs is → AreOf depth ys [] → AreOf depth (xs ++ ys) is
are-nothing depth xs ys is a b = subst (λ (js : List Item). AreOf depth (xs ++ ys) js) (append-nil is) (are-append depth xs ys is [] a b)

module _ {N : Type 0} where
  in_turn-are : (depth : ℕ) (notes_of : List ℕ → N → ℕ → List Note) (items_at : List ℕ → N → ℕ → List Item) (path : List ℕ)
      → ((k : ℕ) (c : N) (h : ℕ) → AreOf depth (notes_of (path ++ k ∷ []) c h) (items_at (path ++ k ∷ []) c h))
      → (k : ℕ) (cs : List N) (h : ℕ) → AreOf depth (in_turn visited_worth notes_of path k cs h) (in_turn item_worth items_at path k cs h)
  in_turn-are depth notes_of items_at path each k [] h = none-of depth
  in_turn-are depth notes_of items_at path each k (c ∷ cs) h =
      let first = each k c h in
      are-append depth (notes_of (path ++ k ∷ []) c h) (in_turn visited_worth notes_of path (suc k) cs (max h (visited_worth (notes_of (path ++ k ∷ []) c h))))
      (items_at (path ++ k ∷ []) c h) (in_turn item_worth items_at path (suc k) cs (max h (item_worth (items_at (path ++ k ∷ []) c h)))) first
      (subst (λ (w : ℕ). AreOf depth (in_turn visited_worth notes_of path (suc k) cs (max h (visited_worth (notes_of (path ++ k ∷ []) c h)))) (in_turn item_worth items_at path (suc k) cs (max h w)))
      first.worth_is (in_turn-are depth notes_of items_at path each (suc k) cs (max h (visited_worth (notes_of (path ++ k ∷ []) c h)))))

  -- the spawned children of a node are its tasks
  spawned-are : (depth : ℕ) (path : List ℕ) (k : ℕ) (cs : List N) (h : ℕ)
      → AreOf depth (map spawned (numbered path k cs)) (in_turn item_worth (λ p c g. record { path = p; worth = 0; is_task = true } ∷ []) path k cs h)
  spawned-are depth path k [] h = none-of depth
  spawned-are depth path k (c ∷ cs) h = let rest = spawned-are depth path (suc k) cs (max h 0) in record {
    paths_are = ap (λ (ps : List (List ℕ)). (path ++ k ∷ []) ∷ ps) rest.paths_are;
    tasks_are = ap (λ (ps : List (List ℕ)). (path ++ k ∷ []) ∷ ps) rest.tasks_are;
    worth_is = (let w = rest.worth_is in omega (arith, w));
  }

-- a visit above the depth, and its end, with the entries between them
visit-are : (depth : ℕ) (path : List ℕ) (worth held : ℕ) (notes : List Note) (items : List Item) → length path < depth → AreOf depth notes items
    → AreOf depth (visited path worth held ∷ (notes ++ ended path ∷ [])) (record { path = path; worth = worth; is_task = false } ∷ items)
visit-are depth path worth held notes items above are =
    let inner = are-nothing depth notes (ended path ∷ []) items are record { paths_are = refl; tasks_are = refl; worth_is = refl } in record {
      paths_are = ap₂ (λ (ps qs : List (List ℕ)). ps ++ qs) (here (length path) depth above) inner.paths_are;
      tasks_are = inner.tasks_are;
      worth_is = (let w = inner.worth_is in omega (arith, w));
    }
  where
    here : (n d : ℕ) → n < d → (if nat_lt n d then path ∷ [] else []) ≡ path ∷ []
    here n d less = grind (arith, nat_tests)

-- however the items are numbered, the tasks have their paths
numbered-tasks : (rank : ℕ) (items : List Item) → map (λ (task : Numbered). task.path) (tasks_from rank items) ≡ task_paths items
numbered-tasks rank [] = refl
numbered-tasks rank (item ∷ items) =
    map-append (λ (task : Numbered). task.path) (if item.is_task then record { path = item.path; rank = rank } ∷ [] else []) (tasks_from (suc rank) items)
    ∙ ap₂ (λ (ps qs : List (List ℕ)). ps ++ qs) (here item.is_task) (numbered-tasks (suc rank) items)
  where
    here : (b : Bool) → map (λ (task : Numbered). task.path) (if b then record { path = item.path; rank = rank } ∷ [] else []) ≡ (if b then item.path ∷ [] else [])
    here true = refl
    here false = refl

module _ {N : Type 0} (t : SearchTree N) where
  frontier-are : (depth levels : ℕ) (path : List ℕ) (n : N) (held : ℕ) → length path + suc levels ≡ depth → AreOf depth (frontier_notes t levels path n held) (items_from t (suc levels) path n held)
  frontier-are depth zero path n held at =
      visit-are depth path (t.worth n) held (map spawned (numbered path 0 (t.children n))) _ (omega arith) (spawned-are depth path 0 (t.children n) (max held (t.worth n)))
  frontier-are depth (suc levels) path n held at =
      visit-are depth path (t.worth n) held _ _ (omega arith)
      (in_turn-are depth (λ p c h. if nat_le (t.bound c) h then cut p (t.bound c) h ∷ [] else frontier_notes t levels p c h) (λ p c h. if nat_lt h (t.bound c) then items_from t (suc levels) p c h else []) path
      (λ k c h. child k c h (nat_le (t.bound c) h) refl (frontier-are depth levels (path ++ k ∷ []) c h (let l = length-append path (k ∷ []) in omega (arith, l, at)))) 0 (t.children n) (max held (t.worth n)))
    where
      child : (k : ℕ) (c : N) (h : ℕ) (b : Bool) → nat_le (t.bound c) h ≡ b → AreOf depth (frontier_notes t levels (path ++ k ∷ []) c h) (items_from t (suc levels) (path ++ k ∷ []) c h)
          → AreOf depth (if b then cut (path ++ k ∷ []) (t.bound c) h ∷ [] else frontier_notes t levels (path ++ k ∷ []) c h) (if nat_lt h (t.bound c) then items_from t (suc levels) (path ++ k ∷ []) c h else [])
      child k c h true e are = subst (λ (b : Bool). AreOf depth (cut (path ++ k ∷ []) (t.bound c) h ∷ []) (if b then items_from t (suc levels) (path ++ k ∷ []) c h else []))
          (sym (not_above (t.bound c) h e)) record { paths_are = refl; tasks_are = refl; worth_is = refl }
        where
          not_above : (b h : ℕ) → nat_le b h ≡ true → nat_lt h b ≡ false
          not_above b h e = grind (arith, nat_tests)
      child k c h false e are = subst (λ (b : Bool). AreOf depth (frontier_notes t levels (path ++ k ∷ []) c h) (if b then items_from t (suc levels) (path ++ k ∷ []) c h else [])) (sym (above (t.bound c) h e)) are
        where
          above : (b h : ℕ) → nat_le b h ≡ false → nat_lt h b ≡ true
          above b h e = grind (arith, nat_tests)

  -- the visits above the depth and the spawned tasks of the log are the items, in order
  pub frontier_log-items : (levels : ℕ) → flat_map (item_in (suc levels)) (frontier_log t levels) ≡ item_paths (items_of t (suc levels))
  frontier_log-items levels = (frontier-are (suc levels) levels [] t.root 0 (omega arith)).paths_are

  -- its spawned tasks are those of the tree
  pub frontier_log-tasks : (levels : ℕ) → spawned_paths (frontier_notes t levels [] t.root 0) ≡ map (λ (task : Numbered). task.path) (tasks_of_tree t (suc levels))
  frontier_log-tasks levels = (frontier-are (suc levels) levels [] t.root 0 (omega arith)).tasks_are ∙ sym (numbered-tasks 0 (items_of t (suc levels)))
