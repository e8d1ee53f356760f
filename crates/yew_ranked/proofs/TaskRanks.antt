-- The tasks of a tree: their numbers rise, and each is an item at the depth of tasks.
use Rattle.std.proofs.Common.{◌≡◌, ℕ, zero, suc, ◌+◌, ◌<◌, ◌≤◌, ◌⊎◌, inl, inr, Bool, true, false, Some, if◌then◌else◌, List, [], ◌∷◌, ◌++◌, length, max, nat_lt, refl, ap, subst, arith}
use Rattle.std.specs.Prelude.{IsTrue, slice_get}
use Rattle.std.specs.List.{AllByRecursion}
use Rattle.std.proofs.lemmas.List.{length-append}
use Rattle.std.proofs.lemmas.Option.{none-some, same_Some}
use Rattle.yew_laws.specs.SearchTree.{SearchTree}
use Rattle.yew_laws.proofs.Members.{AllByRecursion-append, AllByRecursion-at}
use Rattle.yew_log.specs.Items.{Item, in_turn, item_worth, items_from, items_of}
use Rattle.yew_ranked.specs.Tasks.{Numbered, tasks_from, tasks_of_tree}

-- the item that a task is, among items whose first one has this number
pub record IsItem (rank : ℕ) (items : List Item) (task : Numbered) : Type 0 where
  pub place : ℕ
  pub item : Item
  pub rank_is : task.rank ≡ rank + place
  pub found : slice_get items place ≡ Some item
  pub path_is : item.path ≡ task.path
  pub is_task : IsTrue item.is_task

item-later : (rank : ℕ) (item : Item) (items : List Item) (task : Numbered) → IsItem (suc rank) items task → IsItem rank (item ∷ items) task
item-later rank item items task i = record {
  place = suc i.place;
  item = i.item;
  rank_is = (let e = i.rank_is in omega (arith, e));
  found = i.found;
  path_is = i.path_is;
  is_task = i.is_task;
}

-- each task is an item
pub tasks-items : (rank : ℕ) (items : List Item) → AllByRecursion (IsItem rank items) (tasks_from rank items)
tasks-items rank [] = tt
tasks-items rank (item ∷ items) =
    AllByRecursion-append (IsItem rank (item ∷ items)) (if item.is_task then record { path = item.path; rank = rank } ∷ [] else []) (tasks_from (suc rank) items)
    (first item.is_task refl) (later (tasks_from (suc rank) items) (tasks-items (suc rank) items))
  where
    first : (b : Bool) → item.is_task ≡ b → AllByRecursion (IsItem rank (item ∷ items)) (if b then record { path = item.path; rank = rank } ∷ [] else [])
    first true e = (record { place = 0; item = item; rank_is = omega arith; found = refl; path_is = refl; is_task = e }, tt)
    first false e = tt

    later : (ts : List Numbered) → AllByRecursion (IsItem (suc rank) items) ts → AllByRecursion (IsItem rank (item ∷ items)) ts
    later [] a = tt
    later (t ∷ ts) a = (item-later rank item items t a.0, later ts a.1)

-- the numbers of tasks are at least that of the first item
abbrev AreFrom : ℕ → List Numbered → Type 0
AreFrom rank ts = AllByRecursion (λ (t : Numbered). rank ≤ t.rank) ts

from-weaker : (low high : ℕ) → low ≤ high → (ts : List Numbered) → AreFrom high ts → AreFrom low ts
from-weaker low high le [] a = tt
from-weaker low high le (t ∷ ts) a = (let x = a.0 in omega (arith, x, le), from-weaker low high le ts a.1)

tasks-from : (rank : ℕ) (items : List Item) → AreFrom rank (tasks_from rank items)
tasks-from rank [] = tt
tasks-from rank (item ∷ items) = by item.is_task (tasks-from (suc rank) items)
  where
    by : (b : Bool) → AreFrom (suc rank) (tasks_from (suc rank) items) → AreFrom rank ((if b then record { path = item.path; rank = rank } ∷ [] else []) ++ tasks_from (suc rank) items)
    by true a = (omega arith, from-weaker rank (suc rank) (omega arith) (tasks_from (suc rank) items) a)
    by false a = from-weaker rank (suc rank) (omega arith) (tasks_from (suc rank) items) a

-- tasks whose numbers rise
abbrev TasksRise : List Numbered → Type 0
TasksRise [] = Unit {0}
TasksRise (t ∷ ts) = AreFrom (suc t.rank) ts × TasksRise ts

tasks-rise : (rank : ℕ) (items : List Item) → TasksRise (tasks_from rank items)
tasks-rise rank [] = tt
tasks-rise rank (item ∷ items) = by item.is_task (tasks-rise (suc rank) items)
  where
    by : (b : Bool) → TasksRise (tasks_from (suc rank) items) → TasksRise ((if b then record { path = item.path; rank = rank } ∷ [] else []) ++ tasks_from (suc rank) items)
    by true a = (tasks-from (suc rank) items, a)
    by false a = a

rise-at : (ts : List Numbered) (p q : ℕ) (a b : Numbered) → TasksRise ts → slice_get ts p ≡ Some a → slice_get ts q ≡ Some b → p < q → a.rank < b.rank
rise-at [] p q a b rise at to less = absurd (none-some a at)
rise-at (t ∷ ts) zero zero a b rise at to less = absurd (omega arith)
rise-at (t ∷ ts) zero (suc q) a b rise at to less =
    let same : t ≡ a = same_Some t a at in
    subst (λ (x : Numbered). x.rank < b.rank) same (AllByRecursion-at (λ (x : Numbered). suc t.rank ≤ x.rank) ts q b to rise.0)
rise-at (t ∷ ts) (suc p) zero a b rise at to less = absurd (omega arith)
rise-at (t ∷ ts) (suc p) (suc q) a b rise at to less = rise-at ts p q a b rise.1 at to (omega arith)

-- a task at a later place has the greater number
pub ranks-rise : {N : Type 0} (t : SearchTree N) (depth p q : ℕ) (a b : Numbered) → slice_get (tasks_of_tree t depth) p ≡ Some a → slice_get (tasks_of_tree t depth) q ≡ Some b → p < q → a.rank < b.rank
ranks-rise t depth p q a b = rise-at (tasks_of_tree t depth) p q a b (tasks-rise 0 (items_of t depth))

-- so tasks of one number are at one place
pub ranks-apart : {N : Type 0} (t : SearchTree N) (depth p q : ℕ) (a b : Numbered) → slice_get (tasks_of_tree t depth) p ≡ Some a → slice_get (tasks_of_tree t depth) q ≡ Some b → a.rank ≡ b.rank → p ≡ q
ranks-apart t depth p q a b at to e = by (order p q)
  where
    order : (p q : ℕ) → (p < q) ⊎ ((q < p) ⊎ (p ≡ q))
    order p q = grind arith

    by : (p < q) ⊎ ((q < p) ⊎ (p ≡ q)) → p ≡ q
    by (inl less) = let r = ranks-rise t depth p q a b at to less in absurd (omega (arith, r, e))
    by (inr (inl more)) = let r = ranks-rise t depth q p b a to at more in absurd (omega (arith, r, e))
    by (inr (inr same)) = same

-- the item of a task at a place of the list of tasks
pub task-item : {N : Type 0} (t : SearchTree N) (depth p : ℕ) (a : Numbered) → slice_get (tasks_of_tree t depth) p ≡ Some a → IsItem 0 (items_of t depth) a
task-item t depth p a at = AllByRecursion-at (IsItem 0 (items_of t depth)) (tasks_of_tree t depth) p a at (tasks-items 0 (items_of t depth))

-- a task stands at the depth of tasks, and the other items above it
abbrev AtDepth : ℕ → Item → Type 0
AtDepth depth i = IsTrue i.is_task → length i.path ≡ depth

module _ {N : Type 0} (t : SearchTree N) where
  in_turn-all : (P : Item → Type 0) (made : List ℕ → N → ℕ → List Item) (path : List ℕ) → ((k : ℕ) (c : N) (h : ℕ) → AllByRecursion P (made (path ++ k ∷ []) c h))
      → (k : ℕ) (cs : List N) (h : ℕ) → AllByRecursion P (in_turn item_worth made path k cs h)
  in_turn-all P made path each k [] h = tt
  in_turn-all P made path each k (c ∷ cs) h =
      AllByRecursion-append P (made (path ++ k ∷ []) c h) (in_turn item_worth made path (suc k) cs (max h (item_worth (made (path ++ k ∷ []) c h)))) (each k c h)
      (in_turn-all P made path each (suc k) cs (max h (item_worth (made (path ++ k ∷ []) c h))))

  longer : (path : List ℕ) (k : ℕ) → length (path ++ k ∷ []) ≡ suc (length path)
  longer path k = let l = length-append path (k ∷ []) in omega (arith, l)

  items-depth : (depth levels : ℕ) (path : List ℕ) (n : N) (held : ℕ) → length path + levels ≡ depth → AllByRecursion (AtDepth depth) (items_from t levels path n held)
  items-depth depth zero path n held at = ((λ e. omega (arith, at)), tt)
  items-depth depth (suc zero) path n held at = (
    (λ e. absurd (let no : IsTrue false → ⊥ = λ x. cc in no e)),
    in_turn-all (AtDepth depth) (λ p c h. if true then items_from t zero p c h else []) path (λ k c h. items-depth depth zero (path ++ k ∷ []) c h (let l = longer path k in omega (arith, l, at))) 0 (t.children n) (max held (t.worth n)),
  )
  items-depth depth (suc (suc levels)) path n held at = (
    (λ e. absurd (let no : IsTrue false → ⊥ = λ x. cc in no e)),
    in_turn-all (AtDepth depth) (λ p c h. if nat_lt h (t.bound c) then items_from t (suc levels) p c h else []) path
        (λ k c h. kept (nat_lt h (t.bound c)) (items_from t (suc levels) (path ++ k ∷ []) c h) (items-depth depth (suc levels) (path ++ k ∷ []) c h (let l = longer path k in omega (arith, l, at)))) 0 (t.children n) (max held (t.worth n)),
  )
    where
      kept : (b : Bool) (is : List Item) → AllByRecursion (AtDepth depth) is → AllByRecursion (AtDepth depth) (if b then is else [])
      kept true is a = a
      kept false is a = tt

  -- a task has the depth as its length
  pub task-depth : (depth p : ℕ) (a : Numbered) → slice_get (tasks_of_tree t depth) p ≡ Some a → length a.path ≡ depth
  task-depth depth p a at =
      let i = task-item t depth p a at in
      let d = AllByRecursion-at (AtDepth depth) (items_of t depth) i.place i.item i.found (items-depth depth depth [] t.root 0 (omega arith)) i.is_task in
      let e = ap (λ (l : List ℕ). length l) i.path_is in omega (arith, d, e)

  -- so has the item of a task
  pub item-depth : (levels k : ℕ) (item : Item) → slice_get (items_of t (suc levels)) k ≡ Some item → IsTrue item.is_task → length item.path ≡ suc levels
  item-depth levels k item at is_task = AllByRecursion-at (AtDepth (suc levels)) (items_of t (suc levels)) k item at (items-depth (suc levels) (suc levels) [] t.root 0 (omega arith)) is_task
