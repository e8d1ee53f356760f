-- What a problem keeps beside its graphs: tables of bits, each a test of two numbers.
use Rattle.std.specs.Prelude.{◌≡◌, ℕ, ◌+◌, ◌*◌, ◌/◌, ◌<◌, Bool, true, false, not, ◌&&◌, ◌||◌, ◌==◌, List, length, slice_index_or, nat_lt}
use Rattle.yew_lad.specs.declared.profiles.Profile.{Profile}
use Rattle.yew_lad.specs.Bits.{BitTable, in_row}
use Rattle.yew_lad.specs.Digraphs.{Digraph, GraphPair, IsWithinLimits, vertex_count, is_arc}
use Rattle.yew_lad.specs.Nodes.{vertex_at, has_room}
use Rattle.yew_lad.specs.SearchedOrder.{profile_of, searched_profiles}

-- the table has the bits of a test in its first rows, and those before a column in the next row
pub record IsFilled (rows width : ℕ) (test : ℕ → ℕ → Bool) (row column : ℕ) (table : BitTable) : Type 0 where
  pub rows_are : table.rows ≡ rows
  pub width_is : table.width ≡ width
  pub bits : (a b : ℕ) → b < 64 * width → in_row table a b ≡ ((nat_lt a row || (a == row && nat_lt b column)) && test a b)

-- the table has the bits of a test
pub record HasTest (rows width : ℕ) (test : ℕ → ℕ → Bool) (table : BitTable) : Type 0 where
  pub rows_are : table.rows ≡ rows
  pub width_is : table.width ≡ width
  pub bits : (a b : ℕ) → a < rows → b < 64 * width → in_row table a b ≡ test a b

-- no vertex
abbrev pub blank : Profile
blank = record { vertex = 0; successors = 0; predecessors = 0; looped = false }

-- the vertex at a place of an order
abbrev pub vertex_in : List Profile → ℕ → ℕ
vertex_in order place = (slice_index_or order place blank).vertex

-- the profile at t of a list has room for that at a place of an order
abbrev pub has_room_in : List Profile → List Profile → ℕ → ℕ → Bool
has_room_in order images place t = nat_lt t (length images) && has_room (slice_index_or order place blank) (slice_index_or images t blank)

-- there is an arc from t to v
abbrev pub is_arc_back : Digraph → ℕ → ℕ → Bool
is_arc_back graph v t = nat_lt t (vertex_count graph) && is_arc graph t v

-- there are arcs from u to v and back
abbrev pub are_joined : Digraph → ℕ → ℕ → Bool
are_joined graph u v = is_arc graph u v && is_arc graph v u

-- there is an arc from u to v, and none back
abbrev pub is_one_way : Digraph → ℕ → ℕ → Bool
is_one_way graph u v = is_arc graph u v && not (is_arc graph v u)

-- some arc has none back
pub record HasOneWay (graph : Digraph) : Type 0 where
  pub from : ℕ
  pub to : ℕ
  pub from_within : from < vertex_count graph
  pub to_within : to < vertex_count graph
  pub is : is_one_way graph from to ≡ true

-- each arc has one back
abbrev pub IsTwoWay : Digraph → Type 0
IsTwoWay graph = (u v : ℕ) → u < vertex_count graph → v < vertex_count graph → is_one_way graph u v ≡ false

-- there are arcs from v to t and back
abbrev pub is_joined : Digraph → ℕ → ℕ → Bool
is_joined graph v t = nat_lt t (vertex_count graph) && are_joined graph v t

-- there is an arc from an earlier place of an order and none back, or one to an earlier place and none back, or there
-- are both
abbrev pub is_source : Digraph → List Profile → ℕ → ℕ → Bool
is_source graph order place earlier = nat_lt earlier place && is_one_way graph (vertex_in order earlier) (vertex_in order place)

abbrev pub is_aim : Digraph → List Profile → ℕ → ℕ → Bool
is_aim graph order place earlier = nat_lt earlier place && is_one_way graph (vertex_in order place) (vertex_in order earlier)

abbrev pub is_partner : Digraph → List Profile → ℕ → ℕ → Bool
is_partner graph order place earlier = nat_lt earlier place && are_joined graph (vertex_in order earlier) (vertex_in order place)

-- how many words a set of n vertices has
abbrev pub words_for : ℕ → ℕ
words_for n = (n + 63) / 64

-- The tables of a pair of graphs: which target vertices have room for the pattern's; the target's arcs turned round, and
-- those that go both ways; and the earlier places with an arc to a place alone, from it alone, and with both. Beside them
-- stands whether some arc of the pattern may have none back.
pub record AreTables (pair : GraphPair) (order : List Profile) (room_table predecessor_table joined_table source_table aim_table partner_table : BitTable) (one_way : Bool) : Type 0 where
  pub limits : IsWithinLimits pair
  pub order_is : order ≡ searched_profiles pair.pattern
  pub rooms : HasTest (vertex_count pair.pattern) (words_for (vertex_count pair.target)) (λ place t. nat_lt t (vertex_count pair.target) && has_room (profile_of pair.pattern (vertex_at pair place)) (profile_of pair.target t)) room_table
  pub predecessors : HasTest (vertex_count pair.target) (words_for (vertex_count pair.target)) (is_arc_back pair.target) predecessor_table
  pub joined : HasTest (vertex_count pair.target) (words_for (vertex_count pair.target)) (is_joined pair.target) joined_table
  pub sources : HasTest (vertex_count pair.pattern) 1 (λ place earlier. nat_lt earlier place && is_one_way pair.pattern (vertex_at pair earlier) (vertex_at pair place)) source_table
  pub aims : HasTest (vertex_count pair.pattern) 1 (λ place earlier. nat_lt earlier place && is_one_way pair.pattern (vertex_at pair place) (vertex_at pair earlier)) aim_table
  pub partners : HasTest (vertex_count pair.pattern) 1 (λ place earlier. nat_lt earlier place && are_joined pair.pattern (vertex_at pair earlier) (vertex_at pair place)) partner_table
  pub two_way : one_way ≡ false → IsTwoWay pair.pattern

-- the table has the arcs of a graph
pub record HasArcs (graph : Digraph) (table : BitTable) : Type 0 where
  pub rows_are : table.rows ≡ vertex_count graph
  pub width_is : table.width ≡ words_for (vertex_count graph)
  pub bits : (u v : ℕ) → u < vertex_count graph → v < vertex_count graph → in_row table u v ≡ is_arc graph u v
