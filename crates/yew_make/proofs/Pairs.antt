-- The graph of the pairs that are kept.
use Rattle.std.proofs.Common.{◌≡◌, ℕ, ◌+◌, ◌-◌, ◌*◌, ◌/◌, ◌<◌, ◌≤◌, Bool, false, List, [], ◌∷◌, ◌++◌, length, map, get_or, refl, sym, ap, ◌∙◌, inl, inr, arith, append_assoc, decimal}
use Rattle.std.specs.Prelude.{nat_lt, if◌then◌else◌}
use Rattle.std.specs.List.{range_with_len}
use Rattle.std.proofs.lemmas.Bool.{cases_lt, lt-ltb, le-ltb}
use Rattle.std.proofs.lemmas.List.FromFn.{length-map-range_with_len, map-range_with_len_more, get_or-map-range_with_len}
use Rattle.std.proofs.lemmas.List.{append-nil}
use Rattle.yew_lad.specs.Files.{vertex_numbers}
use Rattle.yew_make.specs.Draws.{state_after, word_of, word_from}
use Rattle.yew_knap.specs.Rows.{row_line, row_lines}
use Rattle.yew_make.specs.Pairs.{pairs_before, pair_place}
use Rattle.yew_make.specs.Graphs.{joins, kept, are_joined, successors_of, graph_of, graph_from, graph_text}
use Rattle.yew_make.proofs.Ranges.{filter-agree, map-agree}
use Rattle.yew_make.proofs.RowSteps.{row_lines-more}
use Rattle.yew_make.proofs.Triangles.{pair_place-lt, pairs_before-all}

-- what is asked of a pair
pub are_joined-first : (joined : ℕ → Bool) (size u v : ℕ) → u < v → are_joined joined size u v ≡ joined (pair_place size u v)
are_joined-first joined size u v l = ap (λ b. if b then joined (pair_place size u v) else (if nat_lt v u then joined (pair_place size v u) else false)) (lt-ltb u v l)

pub are_joined-second : (joined : ℕ → Bool) (size u v : ℕ) → v < u → are_joined joined size u v ≡ joined (pair_place size v u)
are_joined-second joined size u v l =
    ap (λ b. if b then joined (pair_place size u v) else (if nat_lt v u then joined (pair_place size v u) else false)) (le-ltb u v (omega arith))
    ∙ ap (λ b. if b then joined (pair_place size v u) else false) (lt-ltb v u l)

pub are_joined-none : (joined : ℕ → Bool) (size u v : ℕ) → v ≤ u → u ≤ v → are_joined joined size u v ≡ false
are_joined-none joined size u v l m =
    ap (λ b. if b then joined (pair_place size u v) else (if nat_lt v u then joined (pair_place size v u) else false)) (le-ltb u v l)
    ∙ ap (λ b. if b then joined (pair_place size v u) else false) (le-ltb v u m)

-- two that say the same of each pair
are_joined-agree : (p q : ℕ → Bool) (size u v : ℕ) → ((k : ℕ) → k < pairs_before size size → p k ≡ q k) → u < size → v < size → are_joined p size u v ≡ are_joined q size u v
are_joined-agree p q size u v same lu lv =
    elim (cases_lt u v) [
      | inl l ↦ are_joined-first p size u v l ∙ same (pair_place size u v) (pair_place-lt size u v l lv) ∙ sym (are_joined-first q size u v l)
      | inr m ↦
          elim (cases_lt v u) [
            | inl l ↦ are_joined-second p size u v l ∙ same (pair_place size v u) (pair_place-lt size v u l lu) ∙ sym (are_joined-second q size u v l)
            | inr n ↦ are_joined-none p size u v m n ∙ sym (are_joined-none q size u v m n)
          ]
    ]

graph_of-agree : (p q : ℕ → Bool) (size : ℕ) → ((k : ℕ) → k < pairs_before size size → p k ≡ q k) → graph_of p size ≡ graph_of q size
graph_of-agree p q size same =
    map-agree (successors_of p size) (successors_of q size) 0 size
    (λ u lu. filter-agree (are_joined p size u) (are_joined q size u) 0 size (λ v lv. are_joined-agree p q size u v same (omega arith) (omega arith)))

-- the graph of the words that were drawn
pub graph_of-drawn : (state size : ℕ) (pairs : List Bool) → pairs ≡ map (λ place. joins (word_from state place)) (range_with_len 0 (pairs_before size size)) → graph_of (kept pairs) size ≡ graph_from state size
graph_of-drawn state size pairs e =
    graph_of-agree (kept pairs) (λ place. joins (word_from state place)) size
    (λ k l. ap (λ (ps : List Bool). get_or ps k false) e ∙ get_or-map-range_with_len (λ place. joins (word_from state place)) 0 (pairs_before size size) k k false l (omega arith))

-- one more line
pub vertex_lines-more : (old : List ℕ) (joined : ℕ → Bool) (size u : ℕ) → (old ++ row_lines (map vertex_numbers (map (successors_of joined size) (range_with_len 0 u)))) ++ row_line (vertex_numbers (successors_of joined size u)) ≡ old ++ row_lines (map vertex_numbers (map (successors_of joined size) (range_with_len 0 (u + 1))))
vertex_lines-more old joined size u =
    row_lines-more old (map vertex_numbers (map (successors_of joined size) (range_with_len 0 u))) (vertex_numbers (successors_of joined size u))
    ∙ ap (λ (rows : List (List ℕ)). old ++ row_lines rows)
    (sym (map_push vertex_numbers (map (successors_of joined size) (range_with_len 0 u)) (successors_of joined size u)) ∙ ap (map vertex_numbers) (sym (map-range_with_len_more (successors_of joined size) 0 u u (omega arith))))
  where
    map_push : {X Y : Type 0} (f : X → Y) (xs : List X) (y : X) → map f (xs ++ y ∷ []) ≡ map f xs ++ f y ∷ []
    map_push f [] y = refl
    map_push f (x ∷ xs) y = ap (λ l. f x ∷ l) (map_push f xs y)

-- how many pairs are kept
pub pairs-many : (size count : ℕ) (f : ℕ → Bool) (pairs : List Bool) → count ≡ size * (size - 1) / 2 → pairs ≡ map f (range_with_len 0 count) → length pairs ≡ pairs_before size size
pairs-many size count f pairs all e = ap (λ (l : List Bool). length l) e ∙ length-map-range_with_len f 0 count ∙ all ∙ pairs_before-all size

-- the first line and those of the vertices
pub graph-pushed : (state size count : ℕ) (pairs : List Bool) (old one two three : List ℕ) → count ≡ size * (size - 1) / 2 → pairs ≡ map (λ place. joins (word_from state place)) (range_with_len 0 count) → one ≡ old ++ decimal size → two ≡ one ++ 10 ∷ [] → three ≡ two ++ row_lines (map vertex_numbers (graph_of (kept pairs) size)) → three ≡ old ++ graph_text (graph_from state size)
graph-pushed state size count pairs old one two three all are first second third =
    let many : count ≡ pairs_before size size = all ∙ pairs_before-all size in
    let drawn = graph_of-drawn state size pairs (are ∙ ap (λ (n : ℕ). map (λ place. joins (word_from state place)) (range_with_len 0 n)) many) in
    let vertices : size ≡ length (graph_from state size) = sym (length-map-range_with_len (successors_of (λ place. joins (word_from state place)) size) 0 size) in
    let head : two ≡ old ++ row_line (size ∷ []) =
    second ∙ ap (λ (t : List ℕ). t ++ 10 ∷ []) first ∙ append_assoc old (decimal size) (10 ∷ []) ∙ ap (λ (t : List ℕ). old ++ (t ++ 10 ∷ [])) (sym (append-nil (decimal size))) in
    third
    ∙ ap (λ (g : List (List ℕ)). two ++ row_lines (map vertex_numbers g)) drawn
    ∙ ap (λ (t : List ℕ). t ++ row_lines (map vertex_numbers (graph_from state size))) head
    ∙ append_assoc old (row_line (size ∷ [])) (row_lines (map vertex_numbers (graph_from state size)))
    ∙ ap (λ (n : ℕ). old ++ (row_line (n ∷ []) ++ row_lines (map vertex_numbers (graph_from state size)))) vertices

-- one more pair
pub pairs-more : (state k now word : ℕ) (pairs : List Bool) → now ≡ state_after state k → word ≡ word_of now → pairs ≡ map (λ place. joins (word_from state place)) (range_with_len 0 k) → pairs ++ joins word ∷ [] ≡ map (λ place. joins (word_from state place)) (range_with_len 0 (k + 1))
pairs-more state k now word pairs at drawn are =
    let joined = λ (place : ℕ). joins (word_from state place) in
    ap (λ (ps : List Bool). ps ++ joins word ∷ []) are
    ∙ ap (λ (w : ℕ). map joined (range_with_len 0 k) ++ joins w ∷ []) (drawn ∙ ap (λ (s : ℕ). word_of s) at)
    ∙ sym (map-range_with_len_more joined 0 k k (omega arith))
