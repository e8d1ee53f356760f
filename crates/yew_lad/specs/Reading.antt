-- What the parts of a reading of a graph file answer.
use Rattle.std.specs.Prelude.{◌≡◌, ℕ, ◌<◌, ◌≤◌, ◌&&◌, ◌||◌, ◌==◌, List, [], ◌∷◌, ◌++◌, length, flat_map, slice_index_or, Err}
use Rattle.std.specs.List.{AllByRecursion}
use Rattle.yew_laws.specs.Sets.{contains}
use Rattle.yew_text.specs.declared.text.TextFault.{TextFault}
use Rattle.yew_text.specs.declared.text.FileEnd.{FileEnd}
use Rattle.yew_text.specs.declared.text.FileEnd.TheVariants.{Refused, TooLarge, Memory}
use Rattle.yew_text.specs.Grammar.{reading}
use Rattle.yew_text.specs.Position.{Position}
use Rattle.yew_text.specs.Reading.{text_fault}
use Rattle.yew_lad.specs.Bits.{BitTable, in_row, HasVertices}
use Rattle.yew_lad.specs.Files.{vertex_numbers, graph_shape}

-- the numbers of a file up to here, of n vertices of which these were read
abbrev pub numbers_so_far : ℕ → List (List ℕ) → List ℕ
numbers_so_far n named = n ∷ flat_map vertex_numbers named

-- the table has further arcs from u, where it has a row for each of n vertices
pub record AddsArcs (n u : ℕ) (old : BitTable) (named : List ℕ) (new : BitTable) : Type 0 where
  pub same_rows : new.rows ≡ old.rows
  pub same_width : new.width ≡ old.width
  pub bits : HasVertices n old → (a b : ℕ) → b < n → in_row new a b ≡ (in_row old a b || (a == u && contains named b))

-- So many successors of vertex u were read, of as many as it has: the reading goes on behind them.
pub record SuccessorsRead (n u count read : ℕ) (old : Position) (table : BitTable) (new : Position) (after : BitTable) : Type 0 where
  pub named : List ℕ
  pub read_are : length named ≡ read
  pub vertices : AllByRecursion (λ v. v < n) named
  pub goes_on : (before : List (List ℕ)) → length before ≡ u → reading graph_shape (numbers_so_far n before) old ≡ reading graph_shape (numbers_so_far n before ++ count ∷ named) new
  pub adds : AddsArcs n u table named after

-- Vertex u was read.
pub record VertexRead (n u : ℕ) (old : Position) (table : BitTable) (new : Position) (after : BitTable) : Type 0 where
  pub count : ℕ
  pub read : SuccessorsRead n u count count old table new after

-- The reading of vertex u ends with a fault.
abbrev pub EndsVertex : ℕ → ℕ → Position → TextFault → Type 0
EndsVertex n u old fault = (before : List (List ℕ)) → length before ≡ u → reading graph_shape (numbers_so_far n before) old ≡ Err (text_fault fault)

-- So many of n vertices were read, and the table has their arcs, where it has a row for each of the n.
pub record VerticesRead (n read : ℕ) (old new : Position) (table : BitTable) : Type 0 where
  pub named : List (List ℕ)
  pub read_are : length named ≡ read
  pub vertices : AllByRecursion (AllByRecursion (λ v. v < n)) named
  pub goes_on : reading graph_shape (n ∷ []) old ≡ reading graph_shape (numbers_so_far n named) new
  pub bits : HasVertices n table → (a b : ℕ) → b < n → in_row table a b ≡ contains (slice_index_or named a []) b

-- the table has a row for each of n vertices where they are within the limit
abbrev pub IsSized : ℕ → ℕ → BitTable → Type 0
IsSized n most table = n ≤ most → HasVertices n table

-- The reading of the vertices ends with a fault, unless memory ran out.
abbrev pub EndsVertices : ℕ → Position → FileEnd → Type 0
EndsVertices n old (Refused fault) = reading graph_shape (n ∷ []) old ≡ Err (text_fault fault)
EndsVertices n old (TooLarge number limit) = ⊥
EndsVertices n old Memory = Unit {0}
