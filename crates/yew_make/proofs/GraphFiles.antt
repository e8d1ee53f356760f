-- A made graph is a graph file.
use Rattle.std.proofs.Common.{◌≡◌, ◌≢◌, ℕ, zero, suc, ◌+◌, ◌<◌, ◌≤◌, Bool, true, false, cond, ◌==◌, ◌||◌, List, [], ◌∷◌, length, map, refl, sym, ap, subst, ◌∙◌, inl, inr, arith}
use Rattle.std.specs.Prelude.{filter}
use Rattle.std.specs.List.{AllZip, AllByRecursion, range_with_len}
use Rattle.std.proofs.lemmas.List.Folds.{flat_map-map}
use Rattle.std.proofs.lemmas.Bool.{cases_lt, cases_eq}
use Rattle.std.proofs.lemmas.Bool.Decides.{nat_tests}
use Rattle.std.proofs.lemmas.List.FromFn.{length-map-range_with_len, get_or-map-range_with_len}
use Rattle.std.proofs.lemmas.Simd.{map-map}
use Rattle.yew_laws.specs.Sets.{contains}
use Rattle.yew_text.specs.Words.{words_from}
use Rattle.yew_text.specs.Numbers.{greatest, IsNumber}
use Rattle.yew_lad.specs.Digraphs.{Digraph, is_arc}
use Rattle.yew_lad.specs.Files.{vertex_numbers, graph_numbers, AreVertices, digraph_of}
use Rattle.yew_make.specs.Graphs.{is_joined, are_joined, successors_of, graph_of, made_graph, made_digraph, graph_rows}
use Rattle.yew_knap.specs.Rows.{row_lines, row_numbers}
use Rattle.yew_make.specs.Laws.{MadeGraph}
use Rattle.yew_make.proofs.Ranges.{map-agree, filter-agree}
use Rattle.yew_knap.proofs.NumberWords.{AllFit, rows-words}
use Rattle.yew_make.proofs.KnapsackFiles.{map-all, map-all_of, all-weaker}
use Rattle.yew_make.proofs.Pairs.{are_joined-first, are_joined-second, are_joined-none}

-- what a test keeps of a range is below its end, and no longer than the range
record IsPart (end n : ℕ) (xs : List ℕ) : Type 0 where
  below : AllByRecursion (λ x. x < end) xs
  short : length xs ≤ n

filter-part : (p : ℕ → Bool) (a n end : ℕ) → a + n ≤ end → IsPart end n (filter p (range_with_len a n))
filter-part p a zero end l = record { below = tt; short = omega arith }
filter-part p a (suc n) end l =
    let rest = filter-part p (a + 1) n end (omega arith) in
    let short = rest.short in
    elim (p a) as (λ b. IsPart end (suc n) (cond b (a ∷ filter p (range_with_len (a + 1) n)) (filter p (range_with_len (a + 1) n)))) [
      | true ↦ record { below = (omega arith, rest.below); short = omega (arith, short) }
      | false ↦ record { below = rest.below; short = omega (arith, short) }
    ]

-- joined in both directions, and no vertex with itself
pub are_joined-both : (joined : ℕ → Bool) (size u v : ℕ) → are_joined joined size u v ≡ are_joined joined size v u
are_joined-both joined size u v =
    elim (cases_lt u v) [
      | inl l ↦ are_joined-first joined size u v l ∙ sym (are_joined-second joined size v u l)
      | inr m ↦
          elim (cases_lt v u) [
            | inl l ↦ are_joined-second joined size u v l ∙ sym (are_joined-first joined size v u l)
            | inr n ↦ are_joined-none joined size u v m n ∙ sym (are_joined-none joined size v u n m)
          ]
    ]

-- ---- what a test keeps of a range, as a set

apart : (a v : ℕ) → a ≢ v → (a == v) ≡ false
apart a v other = grind (arith, nat_tests)

together : (a : ℕ) → (a == a) ≡ true
together a = grind (arith, nat_tests)

contains-below : (p : ℕ → Bool) (a n v : ℕ) → v < a → contains (filter p (range_with_len a n)) v ≡ false
contains-below p a zero v l = refl
contains-below p a (suc n) v l =
    let kept = filter p (range_with_len (a + 1) n) in
    let rest = contains-below p (a + 1) n v (omega arith) in
    elim (p a) as (λ b. contains (cond b (a ∷ kept) kept) v ≡ false) [
      | true ↦ ap (λ (b : Bool). b || contains kept v) (apart a v (λ e. absurd (omega arith))) ∙ rest
      | false ↦ rest
    ]

contains-first : (p : ℕ → Bool) (a n : ℕ) → contains (filter p (range_with_len a (suc n))) a ≡ p a
contains-first p a n =
    let kept = filter p (range_with_len (a + 1) n) in
    elim (p a) as (λ b. contains (cond b (a ∷ kept) kept) a ≡ b) [
      | true ↦ ap (λ (b : Bool). b || contains kept a) (together a)
      | false ↦ contains-below p (a + 1) n a (omega arith)
    ]

contains-filter : (p : ℕ → Bool) (a n v : ℕ) → a ≤ v → v < a + n → contains (filter p (range_with_len a n)) v ≡ p v
contains-filter p a zero v l m = absurd (omega arith)
contains-filter p a (suc n) v l m =
    elim (cases_eq a v) [
      | inl same ↦ subst (λ (k : ℕ). contains (filter p (range_with_len a (suc n))) k ≡ p k) same (contains-first p a n)
      | inr other ↦
          let kept = filter p (range_with_len (a + 1) n) in
          let rest = contains-filter p (a + 1) n v (omega arith) (omega arith) in
          elim (p a) as (λ b. contains (cond b (a ∷ kept) kept) v ≡ p v) [
            | true ↦ ap (λ (b : Bool). b || contains kept v) (apart a v other) ∙ rest
            | false ↦ rest
          ]
    ]

-- no successor stands twice, and they rise
successors-are : (joined : ℕ → Bool) (size : ℕ) → map (λ successors. filter (contains successors) (range_with_len 0 (length (graph_of joined size)))) (graph_of joined size) ≡ graph_of joined size
successors-are joined size =
    let among = λ (successors : List ℕ). filter (contains successors) (range_with_len 0 size) in
    ap (λ (n : ℕ). map (λ successors. filter (contains successors) (range_with_len 0 n)) (graph_of joined size)) (length-map-range_with_len (successors_of joined size) 0 size)
    ∙ map-map among (successors_of joined size) (range_with_len 0 size)
    ∙ map-agree (λ u. among (successors_of joined size u)) (successors_of joined size) 0 size
    (λ u _. filter-agree (contains (successors_of joined size u)) (are_joined joined size u) 0 size (λ v l. contains-filter (are_joined joined size u) 0 size v (omega arith) l))

digraph_of-made : (seed size : ℕ) → made_digraph seed size ≡ digraph_of (made_graph seed size)
digraph_of-made seed size =
    let with_successors : List (List ℕ) → Digraph = λ successors. record { successors = successors } in
    ap with_successors (sym (successors-are (is_joined seed) size))

arcs-joined : (seed size u v : ℕ) → u < size → v < size → is_arc (made_digraph seed size) u v ≡ are_joined (is_joined seed) size u v
unfolding is_arc
arcs-joined seed size u v lu lv =
    ap (λ (successors : List ℕ). contains successors v) (get_or-map-range_with_len (successors_of (is_joined seed) size) 0 size u u [] lu (omega arith))
    ∙ contains-filter (are_joined (is_joined seed) size u) 0 size v (omega arith) (omega arith)

-- ---- the file

pub made_graph_law : (seed size : ℕ) → size ≤ 1024 → MadeGraph seed size
made_graph_law seed size small =
    let joined = is_joined seed in
    let graph = made_graph seed size in
    let count = length-map-range_with_len (successors_of joined size) 0 size in
    let parts : AllByRecursion (IsPart size size) graph = map-all (IsPart size size) (successors_of joined size) (range_with_len 0 size) (λ u. filter-part (are_joined joined size u) 0 size size (omega arith)) in
    let fit : AllByRecursion AllFit (graph_rows graph) =
    ((omega (arith, count), tt), map-all_of (IsPart size size) AllFit vertex_numbers graph (λ successors part. (let short = part.short in omega (arith, short), all-weaker (λ v. v < size) (λ v. v ≤ greatest) successors (λ v l. omega arith) part.below)) parts) in
    let numbers : row_numbers (graph_rows graph) ≡ graph_numbers graph = ap (λ (ns : List ℕ). length graph ∷ ns) (flat_map-map (λ (row : List ℕ). row) vertex_numbers graph) in
    let words = subst (λ (ns : List ℕ). AllZip IsNumber (words_from 1 (row_lines (graph_rows graph))) ns) numbers (rows-words (graph_rows graph) 1 fit) in
    let vertices = all-weaker (IsPart size size) (AllByRecursion (λ v. v < size)) graph (λ successors part. part.below) parts in
    record {
      file = record { named = graph; numbers = words; vertices = subst (λ (n : ℕ). AreVertices n graph) (sym count) vertices; graph_is = digraph_of-made seed size };
      numbers = words;
      count = count;
      vertices = vertices;
      arcs = λ u v. arcs-joined seed size u v;
      alike = λ u v. are_joined-both joined size u v;
      no_loops = λ u. are_joined-none joined size u u (omega arith) (omega arith);
    }
