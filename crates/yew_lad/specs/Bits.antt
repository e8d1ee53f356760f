-- Rows of bits: bit v % 64 of word v / 64 of a row says whether v is in the row.
use Rattle.std.specs.Prelude.{◌≡◌, ℕ, ◌+◌, ◌*◌, ◌/◌, ◌%◌, ◌<◌, ◌≤◌, Bool, ◌&&◌, ◌||◌, List, ◌==◌, filter, map, slice_index, replicate}
use Rattle.std.specs.Int.{bit_at}
use Rattle.std.specs.List.{range_with_len}
use Rattle.yew_lad.specs.Digraphs.{Digraph}

-- a bit of a list of words
unfoldable pub has_bit : List ℕ → ℕ → Bool
has_bit words v = bit_at (slice_index words (v / 64)) (v % 64) == 1

-- rows of the same number of words, one after another
pub record BitTable : Type 0 where
  pub rows : ℕ
  pub width : ℕ
  pub words : List ℕ

-- whether v is in a row
unfoldable pub in_row : BitTable → ℕ → ℕ → Bool
in_row table row v = bit_at (slice_index table.words (row * table.width + v / 64)) (v % 64) == 1

-- the bits of a word are those of a test at 0 to 63
abbrev pub AreBits : ℕ → (ℕ → Bool) → Type 0
AreBits word test = (k : ℕ) → k < 64 → (bit_at word k == 1) ≡ test k

-- no row has a bit
abbrev pub empty_table : ℕ → ℕ → BitTable
empty_table rows width = record { rows = rows; width = width; words = replicate (rows * width) 0 }

-- one more bit is set
pub record SetsBit (old : BitTable) (row v : ℕ) (new : BitTable) : Type 0 where
  pub same_rows : new.rows ≡ old.rows
  pub same_width : new.width ≡ old.width
  pub bits : (a b : ℕ) → b < 64 * old.width → in_row new a b ≡ (in_row old a b || (a == row && b == v))

-- one more bit is set where a value is true
pub record PutsBit (old : BitTable) (row v : ℕ) (value : Bool) (new : BitTable) : Type 0 where
  pub same_rows : new.rows ≡ old.rows
  pub same_width : new.width ≡ old.width
  pub bits : (a b : ℕ) → b < 64 * old.width → in_row new a b ≡ (in_row old a b || ((a == row && b == v) && value))

-- the members below n of a row
abbrev pub row_members : BitTable → ℕ → ℕ → List ℕ
row_members table n row = filter (in_row table row) (range_with_len 0 n)

-- the graph of n vertices whose arcs are the bits of a table
abbrev pub digraph_in : ℕ → BitTable → Digraph
digraph_in n table = record { successors = map (row_members table n) (range_with_len 0 n) }

-- the table has a row and a bit for each of n vertices
pub record HasVertices (n : ℕ) (table : BitTable) : Type 0 where
  pub rows_are : table.rows ≡ n
  pub width_is : table.width ≡ (n + 63) / 64
  pub few : n ≤ 1024
