-- The children of a partial map that a generator has still to give.
use Rattle.std.specs.Prelude.{◌≡◌, ℕ, ◌+◌, ◌-◌, ◌*◌, ◌%◌, List, [], ◌∷◌, ◌++◌, ◌==◌, filter, map, length, if◌then◌else◌}
use Rattle.std.specs.Int.{bit_at}
use Rattle.std.specs.List.{range_with_len}
use Rattle.yew_lad.specs.declared.nodes.VertexWord.{VertexWord}
use Rattle.yew_lad.specs.Digraphs.{GraphPair, vertex_count}
use Rattle.yew_lad.specs.Nodes.{vertex_at, is_candidate, with_image}

-- a generator: a partial map, and a word of a set of target vertices
pub record Kids : Type 0 where
  pub parent : List ℕ
  pub number : ℕ
  pub bits : ℕ

abbrev pub kids_of : List ℕ → VertexWord → Kids
kids_of images word = record { parent = images; number = word.number; bits = word.bits }

-- the vertices in the word of a number, rising
unfoldable pub in_word : ℕ → ℕ → List ℕ
in_word number bits = filter (λ t. bit_at bits (t % 64) == 1) (range_with_len (64 * number) 64)

-- the candidates for the next vertex from a target vertex on, rising
abbrev pub candidates_from : GraphPair → List ℕ → ℕ → List ℕ
candidates_from pair images low = filter (is_candidate pair images (vertex_at pair (length images))) (range_with_len low (vertex_count pair.target - low))

-- the vertices to which the next vertex is still to go: those in the word, and then the candidates past it; none is left
-- where the word is empty
abbrev pub left_from : GraphPair → Kids → List ℕ
left_from pair kids = if kids.bits == 0 then [] else in_word kids.number kids.bits ++ candidates_from pair kids.parent (64 * (kids.number + 1))

-- the children that are still to be given
abbrev pub remaining_of : GraphPair → Kids → List (List ℕ)
remaining_of pair kids = map (with_image kids.parent) (left_from pair kids)

-- the least vertex in the word is taken off
pub record Takes (old : Kids) (image : ℕ) (new : Kids) : Type 0 where
  pub first : in_word old.number old.bits ≡ image ∷ in_word new.number new.bits
  pub same_parent : new.parent ≡ old.parent
  pub same_number : new.number ≡ old.number
