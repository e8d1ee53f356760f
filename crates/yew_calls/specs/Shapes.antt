-- The tree of a shape.
use Rattle.yew_calls.specs.declared.shape.Shape.{Ghosts}
use Rattle.yew_laws.specs.SearchTree.{SearchTree}

-- the tree that the meanings of a shape make
abbrev pub shape_tree : {S N : Type 0} → Ghosts S N → SearchTree N
shape_tree meaning = record { root = meaning.root; children = meaning.children; rank = meaning.rank; worth = meaning.worth; bound = meaning.bound }
