-- What the levels of a stack and the entries of a log have to do with each other.
use Rattle.std.specs.Prelude.{◌≡◌, ℕ, ◌<◌, ◌≤◌, List, [], ◌∷◌, ◌++◌, map, drop, Some, Bool, IsTrue, IsFalse}
use Rattle.std.specs.List.{AllByRecursion, list_any}
use Rattle.yew_laws.specs.Order.{is_path}
use Rattle.yew_laws.specs.SearchTree.{SearchTree, at_path, numbered}
use Rattle.yew_log.specs.Notes.{Note, path_of}
use Rattle.yew_log.specs.Groups.{Part, one, all, open_paths}
use Rattle.yew_stack.specs.Levels.{LevelView}
use Rattle.yew_stack.specs.declared.stacks.Chunk.{Chunk}
use Rattle.yew_stack.specs.declared.stacks.Chunk.TheVariants.{One, All}

-- the part of the children that are left which a chunk is
abbrev pub part_of_chunk : Chunk → Part
part_of_chunk One = one
part_of_chunk All = all

-- these paths, or the others where there are none
abbrev pub or_else : List (List ℕ) → List (List ℕ) → List (List ℕ)
or_else [] others = others
or_else (path ∷ paths) others = path ∷ paths

-- some entry has this path
abbrev pub has_entry : List Note → List ℕ → Bool
has_entry notes path = list_any (λ note. is_path path (path_of note)) notes

module _ {N : Type 0} where
  -- the paths of the nodes of the levels
  abbrev pub parents : List (LevelView N) → List (List ℕ)
  parents ls = map (λ (level : LevelView N). level.parent) ls

  -- the paths of the children that are left of a level, in order
  abbrev pub left_of : LevelView N → List (List ℕ)
  left_of level = numbered level.parent level.given level.remaining

  -- the paths of the children that are left of the lowest level that has any
  abbrev pub left_of_lowest : List (LevelView N) → List (List ℕ)
  left_of_lowest [] = []
  left_of_lowest (level ∷ upper) = or_else (left_of level) (left_of_lowest upper)

  -- the path is at or below a child that the level has given
  pub record IsInGiven (level : LevelView N) (path : List ℕ) : Type 0 where
    pub number : ℕ
    pub rest : List ℕ
    pub is : path ≡ level.parent ++ number ∷ rest
    pub given : number < level.given

  -- the node of each level is at or below a child that was given of each level that is lower
  abbrev pub AreNested : List (LevelView N) → Type 0
  AreNested [] = Unit {0}
  AreNested (level ∷ upper) = AllByRecursion (λ (u : LevelView N). IsInGiven level u.parent) upper × AreNested upper

  -- the level has the children of a node of the tree: each that it has given has an entry, and nothing at or below the others has one
  pub record IsDealtLevel (t : SearchTree N) (notes : List Note) (level : LevelView N) : Type 0 where
    pub node : N
    pub found : at_path t level.parent ≡ Some node
    pub remaining_is : level.remaining ≡ drop level.given (t.children node)
    pub noted : (number : ℕ) → number < level.given → IsTrue (has_entry notes (level.parent ++ number ∷ []))
    pub fresh : (number : ℕ) (rest : List ℕ) → level.given ≤ number → IsFalse (has_entry notes (level.parent ++ number ∷ rest))

  -- the levels are those of the open visits, and the entries so far are of what the levels have given
  pub record IsDealt (t : SearchTree N) (notes : List Note) (ls : List (LevelView N)) : Type 0 where
    pub open_is : open_paths notes ≡ parents ls
    pub nested : AreNested ls
    pub each : AllByRecursion (IsDealtLevel t notes) ls
