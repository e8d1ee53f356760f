-- What two files of graphs mean: which files are good, what is searched for, and which lines are right.
use Rattle.std.specs.Prelude.{◌≡◌, ℕ, ◌≤◌, ◌⊎◌, List, [], ◌∷◌, Option, Some, None}
use Rattle.yew_kinds.specs.declared.kind.Kind.TheVariants.{Reach}
use Rattle.yew_io.specs.Shelf.{File}
use Rattle.yew_lad.specs.Digraphs.{Digraph, GraphPair, vertex_count}
use Rattle.yew_lad.specs.Files.{IsGraphFile, IsGraphOffence, IsPastLimit}
use Rattle.yew_lad.specs.Nodes.{images_of, maps_tree}
use Rattle.yew_lad.specs.Texts.{yes_lines, no_line, IsYesText, IsNoText}
use Rattle.yew_words.specs.Word.{Word}
use Rattle.yew_app.specs.Judging.{IsRead, IsRefusedFile}
use Rattle.yew_app.specs.Meanings.{Meaning}

-- the file is in its grammar, has at most so many vertices, and this is its graph
abbrev pub IsGoodGraph : ℕ → List ℕ → Digraph → Type 0
IsGoodGraph most bytes graph = IsGraphFile bytes graph × (vertex_count graph ≤ most)

-- two graphs that were read from the files of these names, the pattern first
pub record ReadsPair (told : List File) (pattern target : Word) (pair : GraphPair) : Type 0 where
  pub pattern_read : IsRead (IsGoodGraph 64) told pattern pair.pattern
  pub target_read : IsRead (IsGoodGraph 1024) told target pair.target

-- the file of the pattern is read
abbrev pub ReadsPattern : List File → Word → Type 0
ReadsPattern told pattern = (graph : Digraph) × IsRead (IsGoodGraph 64) told pattern graph

-- the lines of the answer whose solution is this node
abbrev pub map_lines : GraphPair → Option (List ℕ) → List ℕ
map_lines pair None = no_line
map_lines pair (Some node) = yes_lines (images_of pair node)

abbrev pub maps_meaning : Word → Word → Meaning GraphPair (List ℕ)
maps_meaning pattern target = record {
  names = pattern ∷ target ∷ [];
  Reads = λ told pair. ReadsPair told pattern target pair;
  Opens = λ told file. (file ≡ pattern) ⊎ ((file ≡ target) × ReadsPattern told pattern);
  Refuses = λ told reason. IsRefusedFile IsGraphOffence (IsPastLimit 64) told pattern reason
      ⊎ (ReadsPattern told pattern × IsRefusedFile IsGraphOffence (IsPastLimit 1024) told target reason);
  tree = maps_tree;
  kind = Reach 1;
  lines = map_lines;
  IsRight = λ pair text. IsYesText pair text ⊎ IsNoText pair text;
}
