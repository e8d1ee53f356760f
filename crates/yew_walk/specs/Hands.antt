-- What a hand says of the best visit so far, and which nodes were visited.
use Rattle.std.specs.Prelude.{◌≡◌, ℕ, List, [], ◌∷◌, Option, Some, None, if◌then◌else◌}
use Rattle.std.specs.List.{AllByRecursion}
use Rattle.std.specs.Option.{option_map}
use Rattle.yew_laws.specs.Incumbent.{Incumbent, improved}
use Rattle.yew_laws.specs.PathValue.{PathValue}
use Rattle.yew_laws.specs.SearchTree.{SearchTree, at_path}
use Rattle.yew_laws.specs.Tree.{Member, paths}
use Rattle.yew_log.specs.Notes.{Note, Judgement, visited_paths}
use Rattle.yew_walk.specs.declared.hand.Hand.{Hand}
use Rattle.yew_walk.specs.declared.keying.Keying.{Keying}
use Rattle.yew_walk.specs.Keys.{answer_key}

-- the numbers of a path, if there is one
abbrev pub numbers_of : Option PathValue → Option (List ℕ)
numbers_of path = option_map (λ p. p.numbers) path

-- the best visit that a hand holds: its key, as the worth of an incumbent, and its path
abbrev pub incumbent_of : {S : Type 0} → Hand S → Incumbent
incumbent_of hand = if hand.holds then record { worth = hand.key; path = Some hand.path.numbers } else record { worth = 0; path = None }

-- the best visit after these, in order: each takes the place of the one before where its key is greater
abbrev pub best_after : Keying → Incumbent → List Judgement → Incumbent
best_after keying incumbent [] = incumbent
best_after keying incumbent (visit ∷ visits) = best_after keying (improved incumbent (answer_key keying visit.value) visit.path) visits

-- the nodes that these entries visit, in order
pub record AreVisited {N : Type 0} (t : SearchTree N) (notes : List Note) (members : List (Member N)) : Type 0 where
  pub paths_are : paths members ≡ visited_paths notes
  pub there : AllByRecursion (λ m. at_path t m.path ≡ Some m.node) members
