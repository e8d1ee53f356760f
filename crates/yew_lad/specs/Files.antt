-- Graph files, and their first offence.
use Rattle.std.specs.Prelude.{◌≡◌, ℕ, suc, zero, ◌<◌, ◌⊎◌, List, [], ◌∷◌, length, drop, filter, flat_map, map, nat_lt, if◌then◌else◌}
use Rattle.std.specs.List.{AllZip, AllByRecursion, range_with_len}
use Rattle.yew_laws.specs.Sets.{contains}
use Rattle.yew_text.specs.declared.text.TextKind.{TextKind}
use Rattle.yew_text.specs.declared.text.FileEnd.{FileEnd}
use Rattle.yew_text.specs.declared.text.FileEnd.TheVariants.{Refused, TooLarge, Memory}
use Rattle.yew_text.specs.Words.{words_of, end_line}
use Rattle.yew_text.specs.Numbers.{IsNumber}
use Rattle.yew_text.specs.Grammar.{DueBelow, DueEnd, due_number, Shape, HasOffence}
use Rattle.yew_lad.specs.Digraphs.{Digraph, vertex_count}

-- the number of the successors that a file names for a vertex, and these successors
abbrev pub vertex_numbers : List ℕ → List ℕ
vertex_numbers named = length named ∷ named

-- the number of vertices, and the numbers of each vertex
abbrev pub graph_numbers : List (List ℕ) → List ℕ
graph_numbers named = length named ∷ flat_map vertex_numbers named

-- each successor is one of n vertices
abbrev pub AreVertices : ℕ → List (List ℕ) → Type 0
AreVertices n named = AllByRecursion (AllByRecursion (λ v. v < n)) named

-- the graph with these successors, of which one that is named twice counts once
abbrev pub digraph_of : List (List ℕ) → Digraph
digraph_of named = record { successors = map (λ successors. filter (contains successors) (range_with_len 0 (length named))) named }

-- the words of the file are the numbers of successors that are vertices, and these are those of the graph
pub record IsGraphFile (bytes : List ℕ) (graph : Digraph) : Type 0 where
  pub named : List (List ℕ)
  pub numbers : AllZip IsNumber (words_of bytes) (graph_numbers named)
  pub vertices : AreVertices (length named) named
  pub graph_is : graph ≡ digraph_of named

-- what is due where the numbers of so many of n vertices are left: the number of successors, then each of them, below n
abbrev pub vertices_shape : ℕ → ℕ → Shape
vertices_shape n zero numbers = DueEnd
vertices_shape n (suc left) [] = due_number
vertices_shape n (suc left) (count ∷ numbers) = if nat_lt (length numbers) count then DueBelow n else vertices_shape n left (drop count numbers)

abbrev pub graph_shape : Shape
graph_shape [] = due_number
graph_shape (n ∷ numbers) = vertices_shape n n numbers

-- the first offence of the file
abbrev pub IsGraphOffence : List ℕ → TextKind → ℕ → Type 0
IsGraphOffence bytes kind line = HasOffence graph_shape (end_line bytes) (words_of bytes) kind line

-- a file that has a graph, of more vertices than the limit
pub record IsPastLimit (most : ℕ) (bytes : List ℕ) (number limit : ℕ) : Type 0 where
  pub graph : Digraph
  pub is_file : IsGraphFile bytes graph
  pub number_is : number ≡ vertex_count graph
  pub limit_is : limit ≡ most
  pub past : most < number

-- why a file gives no graph: its first offence, or too many vertices. Want of memory may come at any file
abbrev pub EndsReading : ℕ → List ℕ → FileEnd → Type 0
EndsReading most bytes (Refused fault) = IsGraphOffence bytes fault.kind fault.line
EndsReading most bytes (TooLarge number limit) = IsPastLimit most bytes number limit
EndsReading most bytes Memory = Unit {0}

-- A file has at most one graph, at most one first offence, and exactly one of the two.
pub record FileLaws : Type 0 where
  pub one_graph : (bytes : List ℕ) (a b : Digraph) → IsGraphFile bytes a → IsGraphFile bytes b → a ≡ b
  pub one_kind : (bytes : List ℕ) (kind other : TextKind) (line other_line : ℕ) → IsGraphOffence bytes kind line → IsGraphOffence bytes other other_line → kind ≡ other
  pub one_line : (bytes : List ℕ) (kind other : TextKind) (line other_line : ℕ) → IsGraphOffence bytes kind line → IsGraphOffence bytes other other_line → line ≡ other_line
  pub not_both : (bytes : List ℕ) (graph : Digraph) (kind : TextKind) (line : ℕ) → IsGraphFile bytes graph → ¬ IsGraphOffence bytes kind line
  pub either : (bytes : List ℕ) → ((graph : Digraph) × IsGraphFile bytes graph) ⊎ ((kind : TextKind) × (line : ℕ) × IsGraphOffence bytes kind line)
