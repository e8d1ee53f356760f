-- The items of an ordered search: the nodes above a depth that the greatest worth so far does not cut, and the tasks at that depth.
use Rattle.std.specs.Prelude.{◌≡◌, ℕ, zero, suc, ◌+◌, ◌-◌, ◌*◌, ◌^◌, List, [], ◌∷◌, ◌++◌, map, max, Bool, true, false, IsTrue, nat_lt, if◌then◌else◌, ◌⊎◌, Some, slice_get}
use Rattle.yew_laws.specs.SearchTree.{SearchTree}
use Rattle.yew_laws.specs.Order.{lies_below}
use Rattle.yew_log.specs.Notes.{maximum}

-- the lists of siblings one after another, from number k on: each is made with the greatest worth that stands before it
abbrev pub in_turn : {N X : Type 0} → (List X → ℕ) → (List ℕ → N → ℕ → List X) → List ℕ → ℕ → List N → ℕ → List X
in_turn worth_of made path k [] held = []
in_turn worth_of made path k (n ∷ ns) held =
    let first = made (path ++ k ∷ []) n held in
    first ++ in_turn worth_of made path (suc k) ns (max held (worth_of first))

-- an item: its path, its worth if it lies above the depth, and whether it is a task
pub record Item : Type 0 where
  pub path : List ℕ
  pub worth : ℕ
  pub is_task : Bool

-- the paths of items
abbrev pub item_paths : List Item → List (List ℕ)
item_paths items = map (λ (i : Item). i.path) items

-- the greatest worth of the items above the depth
abbrev pub item_worth : List Item → ℕ
item_worth items = maximum (map (λ (i : Item). i.worth) items)

module _ {N : Type 0} (t : SearchTree N) where
  -- the items at and below a node that is one, so many levels above the depth of tasks
  abbrev pub items_from : ℕ → List ℕ → N → ℕ → List Item
  items_from zero path n held = record { path = path; worth = 0; is_task = true } ∷ []
  items_from (suc levels) path n held =
      record { path = path; worth = t.worth n; is_task = false }
      ∷ in_turn item_worth (λ p c h. if passes levels c h then items_from levels p c h else []) path 0 (t.children n) (max held (t.worth n))
    where
      -- a node above the depth needs a bound above what is held, and a task needs nothing
      passes : ℕ → N → ℕ → Bool
      passes zero c h = true
      passes (suc l) c h = nat_lt h (t.bound c)

  -- the items of the tree, in preorder: the nodes above the depth that are items, and the tasks at the depth
  abbrev pub items_of : ℕ → List Item
  items_of depth = items_from depth [] t.root 0

-- the key of a visit in the item of number r
abbrev pub ranked_key : ℕ → ℕ → ℕ
ranked_key r worth = worth * 2 ^ 20 + (2 ^ 20 - 1 - r)

-- the node at a path is the item of number r, or lies at or below it where it is a task
pub record IsInItem (items : List Item) (r : ℕ) (path : List ℕ) : Type 0 where
  pub item : Item
  pub found : slice_get items r ≡ Some item
  pub within : (path ≡ item.path) ⊎ (IsTrue item.is_task × IsTrue (lies_below item.path path))
