-- The facts of the problem: the children of a node are nodes, of less rank and no greater bound, and there are few of them.
use Rattle.std.specs.Prelude.{◌≡◌, ℕ, ◌+◌, ◌-◌, ◌<◌, ◌≤◌, ◌^◌, max, Bool, true, false, not, ◌&&◌, ◌==◌, nat_lt, cond, List, [], ◌∷◌, length, map, filter, if◌then◌else◌, refl}
use Rattle.std.specs.List.{AllByRecursion, list_all, range_with_len}
use Rattle.std.proofs.Common.{zero, suc, ap, ◌∙◌, arith}
use Rattle.std.proofs.lemmas.Bool.{and_parts, and_from, lt-ltb, ltb-true}
use Rattle.std.proofs.lemmas.Bool.Decides.{nat_tests}
use Rattle.std.proofs.lemmas.List.{length-append, length-map}
use Rattle.std.proofs.lemmas.List.Folds.{list_all-append}
use Rattle.yew_laws.specs.Tree.{IsRanked, IsBounded}
use Rattle.yew_laws.proofs.Bounds.{IsBounded-from_steps}
use Rattle.yew_laws.proofs.Members.{AllByRecursion-map, AllByRecursion-weaker}
use Rattle.yew_example.specs.declared.graph.Graph.{Graph}
use Rattle.yew_example.specs.Graphs.{clashes, is_proper, are_below, colours_used}
use Rattle.yew_example.specs.Nodes.{with_colour, children_of, rank_of, worth_of, bound_of, IsNode}

-- what holds of each number of a range that passes a test, and how many pass at most
pub picked-all : (P : ℕ → Type 0) (p : ℕ → Bool) (low n : ℕ) → ((k : ℕ) → low ≤ k → k < low + n → p k ≡ true → P k) → AllByRecursion P (filter p (range_with_len low n))
picked-all P p low zero h = tt
picked-all P p low (suc n) h =
    let rest = picked-all P p (low + 1) n (λ k a b e. h k (omega arith) (omega arith) e) in
    elim (p low) as (λ b. p low ≡ b → AllByRecursion P (cond b (low ∷ filter p (range_with_len (low + 1) n)) (filter p (range_with_len (low + 1) n)))) [
      | true ↦ λ e. (h low (omega arith) (omega arith) e, rest)
      | false ↦ λ e. rest
    ]
    refl

pub picked-few : (p : ℕ → Bool) (low n : ℕ) → length (filter p (range_with_len low n)) ≤ n
picked-few p low zero = omega arith
picked-few p low (suc n) =
    let rest = picked-few p (low + 1) n in
    elim (p low) as (λ b. length (cond b (low ∷ filter p (range_with_len (low + 1) n)) (filter p (range_with_len (low + 1) n))) ≤ suc n) [
      | true ↦ omega (arith, rest)
      | false ↦ omega (arith, rest)
    ]

-- one more vertex has a colour, which no neighbour before it has
pub record IsChild (graph : Graph) (number : ℕ) (colours child : List ℕ) : Type 0 where
  pub room : length colours < graph.vertices
  pub colour : ℕ
  pub below : colour < number
  pub proper : is_proper graph child ≡ true
  pub is : child ≡ with_colour colours colour

pub colours_used-push : (colours : List ℕ) (colour : ℕ) → colours_used (with_colour colours colour) ≡ max (colours_used colours) (colour + 1)
colours_used-push [] colour = omega arith
colours_used-push (first ∷ colours) colour = let rest = colours_used-push colours colour in omega (arith, rest)

-- colours below a number are among so many
pub colours_used-below : (number : ℕ) (colours : List ℕ) → are_below number colours ≡ true → colours_used colours ≤ number
colours_used-below number [] e = omega arith
colours_used-below number (colour ∷ colours) e =
    let both = and_parts (nat_lt colour number) (are_below number colours) e in
    let here = ltb-true colour number both.0 in
    let rest = colours_used-below number colours both.1 in
    omega (arith, here, rest)

module _ (graph : Graph) (number : ℕ) where
  pub children-are : (colours : List ℕ) → AllByRecursion (IsChild graph number colours) (children_of graph number colours)
  children-are colours =
      elim (nat_lt (length colours) graph.vertices)
      as (λ b. nat_lt (length colours) graph.vertices ≡ b
      → AllByRecursion (IsChild graph number colours) (if b then map (with_colour colours) (filter (λ c. is_proper graph (with_colour colours c)) (range_with_len 0 (number - 0))) else [])) [
        | true ↦ λ e.
            let room = ltb-true (length colours) graph.vertices e in
            AllByRecursion-map (IsChild graph number colours) (with_colour colours) (filter (λ c. is_proper graph (with_colour colours c)) (range_with_len 0 (number - 0)))
            (picked-all (λ c. IsChild graph number colours (with_colour colours c)) (λ c. is_proper graph (with_colour colours c)) 0 (number - 0)
            (λ c low high passes. record { room = room; colour = c; below = omega arith; proper = passes; is = refl }))
        | false ↦ λ e. tt
      ]
      refl

  length-child : (colours child : List ℕ) → IsChild graph number colours child → length child ≡ length colours + 1
  length-child colours child a = let e = ap length a.is in let l = length-append colours (a.colour ∷ []) in omega (arith, e, l)

  pub child-sound : (colours child : List ℕ) → IsNode graph number colours → IsChild graph number colours child → IsNode graph number child
  child-sound colours child sound a = record {
    within = let l = length-child colours child a in let room = a.room in omega (arith, l, room);
    below = ap (are_below number) a.is ∙ list_all-append (λ c. nat_lt c number) colours (a.colour ∷ [])
        ∙ and_from (are_below number colours) (are_below number (a.colour ∷ [])) sound.below (and_from (nat_lt a.colour number) true (lt-ltb a.colour number a.below) refl);
    proper = a.proper;
  }

  -- the children of a node are nodes, and of less rank
  pub colouring-ranked : IsRanked (IsNode graph number) (children_of graph number) (rank_of graph)
  colouring-ranked = record {
    stays_sound = λ colours sound.
        AllByRecursion-weaker (IsChild graph number colours) (IsNode graph number) (λ child a. child-sound colours child sound a) (children_of graph number colours) (children-are colours);
    rank_falls = λ colours sound.
        AllByRecursion-weaker (IsChild graph number colours) (λ child. rank_of graph child < rank_of graph colours)
        (λ child a. let l = length-child colours child a in let room = a.room in omega (arith, l, room)) (children_of graph number colours) (children-are colours);
  }

  own-bound : (colours : List ℕ) → worth_of graph number colours ≤ bound_of number colours
  own-bound colours = elim (length colours == graph.vertices) as (λ b. (if b then number + 1 - colours_used colours else 0) ≤ bound_of number colours) [ true ↦ omega arith | false ↦ omega arith ]

  child-bound : (colours child : List ℕ) → IsChild graph number colours child → bound_of number child ≤ bound_of number colours
  child-bound colours child a = let e = ap colours_used a.is ∙ colours_used-push colours a.colour in omega (arith, e)

  -- no node at or below a node is worth more than the bound
  pub colouring-bounded : number ≤ 16 → IsBounded (IsNode graph number) (children_of graph number) (worth_of graph number) (bound_of number)
  colouring-bounded few =
      IsBounded-from_steps colouring-ranked
      (λ colours sound. own-bound colours)
      (λ colours sound.
      AllByRecursion-weaker (IsChild graph number colours) (λ child. bound_of number child ≤ bound_of number colours) (λ child a. child-bound colours child a)
      (children_of graph number colours) (children-are colours))
      (λ colours sound. omega (arith, few))

  -- a node has at most as many children as there are colours
  pub colouring-countable : number ≤ 16 → (colours : List ℕ) → length (children_of graph number colours) + 1 < 2 ^ 32
  colouring-countable few colours =
      let l = length-map (filter (λ c. is_proper graph (with_colour colours c)) (range_with_len 0 (number - 0))) (with_colour colours) in
      let most = picked-few (λ c. is_proper graph (with_colour colours c)) 0 (number - 0) in
      elim (nat_lt (length colours) graph.vertices)
      as (λ b. length (if b then map (with_colour colours) (filter (λ c. is_proper graph (with_colour colours c)) (range_with_len 0 (number - 0))) else []) + 1 < 2 ^ 32)
      [ true ↦ omega (arith, few, l, most) | false ↦ omega arith ]

  -- where no vertex has a colour, no edge clashes
  none-clash : (edges : List (ℕ × ℕ)) → list_all (λ edge. not (clashes [] edge)) edges ≡ true
  none-clash [] = refl
  none-clash (edge ∷ edges) = and_from (not (clashes [] edge)) (list_all (λ e. not (clashes [] e)) edges) (none edge.0) (none-clash edges)
    where
      none : (u : ℕ) → not (nat_lt u 0 && nat_lt edge.1 0 && (0 == 0)) ≡ true
      none u = grind (arith, nat_tests)

  pub empty_sound : IsNode graph number []
  empty_sound = record { within = omega arith; below = refl; proper = none-clash graph.edges.now }

pub root_rank-small : (graph : Graph) → graph.vertices ≤ 16 → rank_of graph [] ≤ 65535
root_rank-small graph few = omega (arith, few)
