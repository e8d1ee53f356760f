-- The bits of the candidates for a vertex, from those of the tables.
use Rattle.std.proofs.Common.{◌≡◌, ℕ, zero, suc, ◌+◌, ◌-◌, ◌*◌, ◌%◌, ◌^◌, ◌<◌, ◌≤◌, Bool, true, false, not, ◌&&◌, ◌||◌, ◌==◌, cond, List, [], ◌∷◌, length, nat_lt, slice_index, bit_and, refl, ap, ap₂, sym, ◌∙◌, inl, inr, arith}
use Rattle.std.specs.Int.{bit_at}
use Rattle.std.specs.List.{AllByRecursion, filter, list_all, range_with_len}
use Rattle.std.proofs.Math.Nat.{mod-eq_of_lt}
use Rattle.std.proofs.Math.Pow.{pow-lt}
use Rattle.std.proofs.lemmas.Bool.{cases_lt, lt-ltb, le-ltb}
use Rattle.std.proofs.lemmas.Nat.Bits.{bit_at-zero, bit_at_and, bit_at_ones, bit_at_ones_above}
use Rattle.yew_laws.specs.Sets.{contains}
use Rattle.yew_lad.specs.Bits.{BitTable, in_row, AreBits}
use Rattle.yew_lad.specs.Candidates.{ArePlaces, places_in}
use Rattle.yew_lad.specs.Digraphs.{GraphPair, vertex_count, is_arc}
use Rattle.yew_lad.specs.Nodes.{vertex_at, has_room, keeps_all, is_candidate, with_image, AreNext, IsNode}
use Rattle.yew_lad.specs.SearchedOrder.{profile_of}
use Rattle.yew_lad.specs.Tables.{HasTest}
use Rattle.yew_lad.proofs.Orders.{each-at}
use Rattle.yew_lad.proofs.PlaceLaws.{bits_both, places-none}

-- the images of a node are vertices of the target
images-below-from : (pair : GraphPair) (before images : List ℕ) → AreNext pair before images → AllByRecursion (λ t. t < vertex_count pair.target) images
images-below-from pair before [] a = tt
images-below-from pair before (t ∷ ts) a = (a.0.vertex, images-below-from pair (with_image before t) ts a.1)

pub image-below : (pair : GraphPair) (images : List ℕ) → IsNode pair images → (place : ℕ) → place < length images → slice_index images place < vertex_count pair.target
image-below pair images sound place l = each-at (λ t. t < vertex_count pair.target) images place 0 (images-below-from pair [] images sound.chosen) l

-- the places below a count: the ones of a word
pub mask-is : (count k : ℕ) → k < 64 → (bit_at (2 ^ count - 1) k == 1) ≡ nat_lt k count
mask-is count k l =
    elim (cases_lt k count) [
      | inl less ↦ ap (λ n. n == 1) (bit_at_ones count k less) ∙ sym (lt-ltb k count less)
      | inr more ↦ ap (λ n. n == 1) (bit_at_ones_above count k more) ∙ sym (le-ltb k count more)
    ]

-- the word of the places below a count, as it is computed
pub mask-word : (n count : ℕ) → n ≡ count → count < 64 → 1 * 2 ^ n % 2 ^ 64 - 1 ≡ 2 ^ count - 1
mask-word n count is l =
    let low : 1 * 2 ^ count < 2 ^ 64 = omega (arith, pow-lt l) in
    ap (λ k. 1 * 2 ^ k % 2 ^ 64 - 1) is ∙ ap (λ k. k - 1) (mod-eq_of_lt low ∙ omega arith)

-- the bits of the one word of a row of places
pub places-only : (rows : ℕ) (test : ℕ → ℕ → Bool) (table : BitTable) → HasTest rows 1 test table → (place : ℕ) → place < rows → (word : ℕ) → AreBits word (in_row table place) → AreBits word (test place)
places-only rows test table has place l word bits k small = bits k small ∙ has.bits place k l (omega arith)

-- ---- all places that pass

all-picked : (b p : ℕ → Bool) (low n : ℕ) → list_all b (filter p (range_with_len low n)) ≡ list_all (λ q. not (p q) || b q) (range_with_len low n)
all-picked b p low zero = refl
all-picked b p low (suc n) =
    pick (p low) (b low) (filter p (range_with_len (low + 1) n))
    ∙ ap (λ c. (not (p low) || b low) && c) (all-picked b p (low + 1) n)
  where
    pick : (c d : Bool) (xs : List ℕ) → list_all b (cond c (low ∷ xs) xs) ≡ ((not c || b low) && list_all b xs)
    pick true d xs = refl
    pick false d xs = refl

all-agree : (f g : ℕ → Bool) (low n : ℕ) → ((q : ℕ) → low ≤ q → q < low + n → f q ≡ g q) → list_all f (range_with_len low n) ≡ list_all g (range_with_len low n)
all-agree f g low zero h = refl
all-agree f g low (suc n) h = ap₂ (λ a b. a && b) (h low (omega arith) (omega arith)) (all-agree f g (low + 1) n (λ q a b. h q (omega arith) (omega arith)))

all-true : (f : ℕ → Bool) (low n : ℕ) → ((q : ℕ) → low ≤ q → f q ≡ true) → list_all f (range_with_len low n) ≡ true
all-true f low zero h = refl
all-true f low (suc n) h = ap₂ (λ a b. a && b) (h low (omega arith)) (all-true f (low + 1) n (λ q a. h q (omega arith)))

all-shorter : (f : ℕ → Bool) (low n m : ℕ) → ((q : ℕ) → low + n ≤ q → f q ≡ true) → list_all f (range_with_len low (n + m)) ≡ list_all f (range_with_len low n)
all-shorter f low zero m h =
    let same : 0 + m ≡ m = omega arith in
    ap (λ k. list_all f (range_with_len low k)) same ∙ all-true f low m (λ q a. h q (omega arith))
all-shorter f low (suc n) m h =
    let same : suc n + m ≡ suc (n + m) = omega arith in
    ap (λ k. list_all f (range_with_len low k)) same ∙ ap (λ b. f low && b) (all-shorter f (low + 1) n m (λ q a. h q (omega arith)))

all-both : (f g : ℕ → Bool) (low n : ℕ) → list_all (λ q. f q && g q) (range_with_len low n) ≡ (list_all f (range_with_len low n) && list_all g (range_with_len low n))
all-both f g low zero = refl
all-both f g low (suc n) = ap (λ b. (f low && g low) && b) (all-both f g (low + 1) n) ∙ turn (f low) (g low) (list_all f (range_with_len (low + 1) n)) (list_all g (range_with_len (low + 1) n))
  where
    turn : (a b c d : Bool) → ((a && b) && (c && d)) ≡ ((a && c) && (b && d))
    turn a b c d = grind arith

-- a test of the places in a word that are mapped and have an arc
pub kept-places : (word count : ℕ) (arc row kept : ℕ → Bool) → count ≤ 64 → ((q : ℕ) → q < 64 → (bit_at word q == 1) ≡ (nat_lt q count && arc q)) → ((q : ℕ) → q < count → row q ≡ kept q) → list_all row (places_in word) ≡ list_all (λ q. not (arc q) || kept q) (range_with_len 0 count)
kept-places word count arc row kept few bits agree =
    let long : count + (64 - count) ≡ 64 = omega arith in
    all-picked row (λ q. bit_at word q == 1) 0 64
    ∙ all-agree (λ q. not (bit_at word q == 1) || row q) (λ q. not (nat_lt q count && arc q) || kept q) 0 64 (λ q a b. one q (omega arith))
    ∙ ap (λ n. list_all (λ q. not (nat_lt q count && arc q) || kept q) (range_with_len 0 n)) (sym long)
    ∙ all-shorter (λ q. not (nat_lt q count && arc q) || kept q) 0 count (64 - count) (λ q a. let l : count ≤ q = omega arith in past q (arc q) (kept q) (le-ltb q count l))
    ∙ all-agree (λ q. not (nat_lt q count && arc q) || kept q) (λ q. not (arc q) || kept q) 0 count (λ q a b. let l : q < count = omega arith in here q (arc q) (kept q) (lt-ltb q count l))
  where
    past : (q : ℕ) (a b : Bool) → nat_lt q count ≡ false → (not (nat_lt q count && a) || b) ≡ true
    past q a b e = ap (λ c. not (c && a) || b) e

    here : (q : ℕ) (a b : Bool) → nat_lt q count ≡ true → (not (nat_lt q count && a) || b) ≡ (not a || b)
    here q a b e = ap (λ c. not (c && a) || b) e

    one : (q : ℕ) → q < 64 → (not (bit_at word q == 1) || row q) ≡ (not (nat_lt q count && arc q) || kept q)
    one q l =
        ap (λ c. not c || row q) (bits q l)
        ∙ elim (cases_lt q count) [
          | inl less ↦ ap (λ c. not (nat_lt q count && arc q) || c) (agree q less)
          | inr more ↦ ap (λ c. not (c && arc q) || row q) (le-ltb q count more) ∙ sym (ap (λ c. not (c && arc q) || kept q) (le-ltb q count more))
        ]

-- ---- one candidate

module _ (pair : GraphPair) (images : List ℕ) (sound : IsNode pair images) (place : ℕ) (later : length images ≤ place) (within : place < vertex_count pair.pattern) where
  abbrev count : ℕ
  count = length images

  pub count-small : count < 64
  count-small = let few = sound.limits.pattern in omega arith

  -- the places in a word of a table and among those that are mapped
  pub mapped-bits : (row : ℕ) (arc : ℕ → Bool) → AreBits row (λ q. nat_lt q place && arc q) → (q : ℕ) → q < 64 → (bit_at (bit_and row (2 ^ count - 1)) q == 1) ≡ (nat_lt q count && arc q)
  mapped-bits row arc bits q l =
      bits_both row (2 ^ count - 1) q
      ∙ ap₂ (λ a b. a && b) (bits q l) (mask-is count q l)
      ∙ elim (cases_lt q count) [
        | inl less ↦
            let before : q < place = omega arith in
            ap₂ (λ a b. (a && arc q) && b) (lt-ltb q place before) (lt-ltb q count less) ∙ both (arc q) ∙ sym (ap (λ a. a && arc q) (lt-ltb q count less))
        | inr more ↦ ap (λ b. (nat_lt q place && arc q) && b) (le-ltb q count more) ∙ none (nat_lt q place && arc q) ∙ sym (ap (λ a. a && arc q) (le-ltb q count more))
      ]
    where
      both : (a : Bool) → ((true && a) && true) ≡ (true && a)
      both a = grind arith

      none : (a : Bool) → (a && false) ≡ false
      none a = grind arith

  pub are-places : (rows row : ℕ) (arc : ℕ → Bool) → rows ≡ vertex_count pair.target → AreBits row (λ q. nat_lt q place && arc q) → ArePlaces rows images (bit_and row (2 ^ count - 1))
  are-places rows row arc size bits = record {
    mapped = λ q e. in_count q e;
    rows_are = λ q e. let l = image-below pair images sound q (in_count q e) in omega (arith, l, size);
  }
    where
      in_count : (q : ℕ) → bit_at (bit_and row (2 ^ count - 1)) q ≡ 1 → q < count
      in_count q e =
          elim (cases_lt q count) [
            | inl less ↦ less
            | inr more ↦
                let both = bit_at_and row (2 ^ count - 1) q in
                let none = bit_at_ones_above count q more in
                absurd (omega (arith, both, none, e))
          ]

  -- no place has an arc of a kind that the pattern lacks
  pub no-places : (arc : ℕ → Bool) → ((q : ℕ) → q < count → arc q ≡ false) → (q : ℕ) → q < 64 → (bit_at 0 q == 1) ≡ (nat_lt q count && arc q)
  no-places arc none q l =
      ap (λ n. n == 1) (bit_at-zero q)
      ∙ sym (elim (cases_lt q count) [
        | inl less ↦ ap (λ b. nat_lt q count && b) (none q less) ∙ neither (nat_lt q count)
        | inr more ↦ ap (λ b. b && arc q) (le-ltb q count more)
      ])
    where
      neither : (b : Bool) → (b && false) ≡ false
      neither b = grind arith

  pub all-of_none : (b : Bool) (f : ℕ → Bool) → b ≡ (b && list_all f (places_in 0))
  all-of_none b f = all b ∙ ap (λ ps. b && list_all f ps) (sym (places-none 0 refl))
    where
      all : (b : Bool) → b ≡ (b && true)
      all b = grind arith

  module _ (t : ℕ) where
    abbrev arcs_in : ℕ → Bool
    arcs_in q = is_arc pair.pattern (vertex_at pair q) (vertex_at pair place)

    abbrev arcs_out : ℕ → Bool
    arcs_out q = is_arc pair.pattern (vertex_at pair place) (vertex_at pair q)

    abbrev own_room : Bool
    own_room = has_room (profile_of pair.pattern (vertex_at pair place)) (profile_of pair.target t)

    -- the bit of a target vertex that has room, is unused and keeps the arcs of each kind
    pub candidate-is : (room free joined kept all : Bool) (both from to : ℕ) (joins successors predecessors : BitTable)
        → free ≡ (room && not (contains images t))
        → room ≡ (nat_lt t (vertex_count pair.target) && own_room)
        → joined ≡ (free && list_all (λ q. in_row joins (slice_index images q) t) (places_in both))
        → kept ≡ (joined && list_all (λ q. in_row successors (slice_index images q) t) (places_in from))
        → all ≡ (kept && list_all (λ q. in_row predecessors (slice_index images q) t) (places_in to))
        → ((q : ℕ) → q < 64 → (bit_at both q == 1) ≡ (nat_lt q count && (arcs_in q && arcs_out q)))
        → ((q : ℕ) → q < 64 → (bit_at from q == 1) ≡ (nat_lt q count && (arcs_in q && not (arcs_out q))))
        → ((q : ℕ) → q < 64 → (bit_at to q == 1) ≡ (nat_lt q count && (arcs_out q && not (arcs_in q))))
        → ((q : ℕ) → q < count → t < vertex_count pair.target → in_row joins (slice_index images q) t ≡ (is_arc pair.target (slice_index images q) t && is_arc pair.target t (slice_index images q)))
        → ((q : ℕ) → q < count → t < vertex_count pair.target → in_row successors (slice_index images q) t ≡ is_arc pair.target (slice_index images q) t)
        → ((q : ℕ) → q < count → t < vertex_count pair.target → in_row predecessors (slice_index images q) t ≡ is_arc pair.target t (slice_index images q))
        → all ≡ (nat_lt t (vertex_count pair.target) && is_candidate pair images (vertex_at pair place) t)
    unfolding is_candidate
    candidate-is room free joined kept all both from to joins successors predecessors free_is room_is joined_is kept_is all_is both_are from_are to_are join succ pred =
        let few : count ≤ 64 = let l = count-small in omega arith in
        let unused = not (contains images t) in
        let s : ℕ → Bool = λ q. is_arc pair.target (slice_index images q) t in
        let p : ℕ → Bool = λ q. is_arc pair.target t (slice_index images q) in
        let bits_both = list_all (λ q. in_row joins (slice_index images q) t) (places_in both) in
        let bits_from = list_all (λ q. in_row successors (slice_index images q) t) (places_in from) in
        let bits_to = list_all (λ q. in_row predecessors (slice_index images q) t) (places_in to) in
        let in_both : ℕ → Bool = λ q. not (arcs_in q && arcs_out q) || (s q && p q) in
        let in_from : ℕ → Bool = λ q. not (arcs_in q && not (arcs_out q)) || s q in
        let in_to : ℕ → Bool = λ q. not (arcs_out q && not (arcs_in q)) || p q in
        let whole : all ≡ (((((nat_lt t (vertex_count pair.target) && own_room) && unused) && bits_both) && bits_from) && bits_to) =
        all_is
        ∙ ap (λ x. x && bits_to) kept_is
        ∙ ap (λ x. (x && bits_from) && bits_to) joined_is
        ∙ ap (λ x. ((x && bits_both) && bits_from) && bits_to) free_is
        ∙ ap (λ x. (((x && unused) && bits_both) && bits_from) && bits_to) room_is in
        elim (cases_lt t (vertex_count pair.target)) [
          | inl less ↦
              let here = lt-ltb t (vertex_count pair.target) less in
              whole
              ∙ ap (λ x. ((((x && own_room) && unused) && bits_both) && bits_from) && bits_to) here
              ∙ ap (λ x. (((((true && own_room) && unused) && x) && bits_from) && bits_to))
              (kept-places both count (λ q. arcs_in q && arcs_out q) (λ q. in_row joins (slice_index images q) t) (λ q. s q && p q) few both_are (λ q l. join q l less))
              ∙ ap₂ (λ x y. ((((true && own_room) && unused) && list_all in_both (range_with_len 0 count)) && x) && y)
              (kept-places from count (λ q. arcs_in q && not (arcs_out q)) (λ q. in_row successors (slice_index images q) t) s few from_are (λ q l. succ q l less))
              (kept-places to count (λ q. arcs_out q && not (arcs_in q)) (λ q. in_row predecessors (slice_index images q) t) p few to_are (λ q l. pred q l less))
              ∙ turn own_room unused (list_all in_both (range_with_len 0 count)) (list_all in_from (range_with_len 0 count)) (list_all in_to (range_with_len 0 count))
              ∙ ap (λ b. true && ((unused && own_room) && b))
              (ap (λ b. b && list_all in_to (range_with_len 0 count)) (sym (all-both in_both in_from 0 count))
              ∙ sym (all-both (λ q. in_both q && in_from q) in_to 0 count)
              ∙ all-agree (λ q. (in_both q && in_from q) && in_to q) (λ q. (not (arcs_in q) || s q) && (not (arcs_out q) || p q)) 0 count (λ q a b. kinds (arcs_in q) (arcs_out q) (s q) (p q)))
              ∙ ap (λ a. a && ((unused && own_room) && keeps_all pair images (vertex_at pair place) t)) (sym here)
          | inr more ↦
              let past = le-ltb t (vertex_count pair.target) more in
              whole
              ∙ ap (λ x. ((((x && own_room) && unused) && bits_both) && bits_from) && bits_to) past
              ∙ sym (ap (λ a. a && ((unused && own_room) && keeps_all pair images (vertex_at pair place) t)) past)
        ]
      where
        turn : (a b c d e : Bool) → (((((true && a) && b) && c) && d) && e) ≡ (true && ((b && a) && ((c && d) && e)))
        turn a b c d e = grind arith

        kinds : (a b s p : Bool) → (((not (a && b) || (s && p)) && (not (a && not b) || s)) && (not (b && not a) || p)) ≡ ((not a || s) && (not b || p))
        kinds true true s p = both_ways (s && p)
          where
            both_ways : (c : Bool) → ((c && true) && true) ≡ c
            both_ways c = grind arith
        kinds true false s p = refl
        kinds false true s p = refl
        kinds false false s p = refl

-- what stands before a limit that is met falls away
pub met-limit : (t n : ℕ) (b : Bool) → t < n → (nat_lt t n && b) ≡ b
met-limit t n b l = ap (λ a. a && b) (lt-ltb t n l)
