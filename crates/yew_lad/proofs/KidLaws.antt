-- The children of a partial map, word by word.
use Rattle.std.proofs.Common.{◌≡◌, ◌≢◌, ℕ, ◌+◌, ◌-◌, ◌*◌, ◌%◌, ◌^◌, ◌<◌, ◌≤◌, Bool, false, ◌&&◌, ◌==◌, List, [], ◌∷◌, ◌++◌, length, map, drop, nat_lt, if◌then◌else◌, ap, ap₂, sym, subst, ◌∙◌, inl, inr, append-nil, arith}
use Rattle.std.specs.Int.{bit_at}
use Rattle.std.specs.List.{AllByRecursion, filter, range_with_len}
use Rattle.std.proofs.lemmas.Bool.{cases_lt, lt-ltb, le-ltb, ne_eqb}
use Rattle.std.proofs.lemmas.List.{drop_more, drop_all, length-append}
use Rattle.std.proofs.lemmas.Nat.Bits.{bit_at-zero}
use Rattle.yew_lad.specs.Bits.{AreBits}
use Rattle.yew_lad.specs.Digraphs.{GraphPair, vertex_count}
use Rattle.yew_lad.specs.Kids.{Kids, Takes, in_word, candidates_from, left_from, remaining_of}
use Rattle.yew_lad.specs.Nodes.{vertex_at, is_candidate, with_image, mapping_first, unmapped_of, children_of, AreNext, IsNode}
use Rattle.yew_lad.specs.OrderLaws.{length-searched_order}
use Rattle.yew_lad.specs.SearchedOrder.{searched_order}
use Rattle.yew_lad.proofs.PlaceLaws.{lowest_of, after_of, low, gone, kept}
use Rattle.yew_lad.proofs.Ranges.{filter-agree, filter-none, filter-parts, filter-pop}

-- ---- a word

-- no vertex is in an empty word
pub word-empty : (number : ℕ) → in_word number 0 ≡ []
unfolding in_word
word-empty number = filter-none (λ t. bit_at 0 (t % 64) == 1) (64 * number) 64 (λ t a b. ap (λ n. n == 1) (bit_at-zero (t % 64)))

-- the least vertex in a word taken off
pub word-pop : (number bits : ℕ) → bits ≢ 0 → bits < 2 ^ 64 → in_word number bits ≡ (64 * number + lowest_of bits) ∷ in_word number (after_of bits)
unfolding in_word
word-pop number bits some fits =
    let least = low bits some fits in
    let small : lowest_of bits < 64 = least.0 in
    let place : lowest_of bits ≡ (64 * number + lowest_of bits) % 64 = omega arith in
    filter-pop (λ t. bit_at bits (t % 64) == 1) (λ t. bit_at (after_of bits) (t % 64) == 1) (64 * number) 64 (64 * number + lowest_of bits) (omega arith) (omega arith)
    (λ t a l other. ap (λ n. n == 1) (sym (kept bits some fits (t % 64) (omega arith) (λ e. other (omega arith)))))
    (ap (λ k. bit_at bits k == 1) (sym place) ∙ ap (λ n. n == 1) least.1)
    (ap (λ k. bit_at (after_of bits) k == 1) (sym place) ∙ ap (λ n. n == 1) (gone bits some fits))
    (λ t a l. ap (λ n. n == 1) (least.2 (t % 64) (omega arith)))

-- what is left where the word is not empty
pub left-some : (pair : GraphPair) (kids : Kids) → kids.bits ≢ 0 → left_from pair kids ≡ in_word kids.number kids.bits ++ candidates_from pair kids.parent (64 * (kids.number + 1))
left-some pair kids some = ap (λ b. if b then [] else in_word kids.number kids.bits ++ candidates_from pair kids.parent (64 * (kids.number + 1))) (ne_eqb kids.bits 0 some)

-- nothing is left where it is empty
pub left-none : (pair : GraphPair) (kids : Kids) → kids.bits ≡ 0 → left_from pair kids ≡ []
left-none pair kids empty = ap (λ n. if n == 0 then [] else in_word kids.number kids.bits ++ candidates_from pair kids.parent (64 * (kids.number + 1))) empty

module _ (pair : GraphPair) (images : List ℕ) where
  abbrev test : ℕ → Bool
  test = is_candidate pair images (vertex_at pair (length images))

  abbrev m : ℕ
  m = vertex_count pair.target

  -- past the target's vertices there is no candidate
  pub candidates-past : (low : ℕ) → m ≤ low → candidates_from pair images low ≡ []
  candidates-past low past = let none : m - low ≡ 0 = omega arith in ap (λ n. filter test (range_with_len low n)) none

  module _ (number bits : ℕ) (are : AreBits bits (λ k. nat_lt (64 * number + k) m && test (64 * number + k))) where
    abbrev first : ℕ
    first = 64 * number

    bit : (t : ℕ) → first ≤ t → t < first + 64 → (bit_at bits (t % 64) == 1) ≡ (nat_lt t m && test t)
    bit t a b = let at : first + t % 64 ≡ t = omega arith in are (t % 64) (omega arith) ∙ ap (λ s. nat_lt s m && test s) at

    inside : (t : ℕ) → first ≤ t → t < first + 64 → t < m → test t ≡ (bit_at bits (t % 64) == 1)
    inside t a b l = sym (bit t a b ∙ ap (λ c. c && test t) (lt-ltb t m l))

    outside : (t : ℕ) → first ≤ t → t < first + 64 → m ≤ t → (bit_at bits (t % 64) == 1) ≡ false
    outside t a b l = bit t a b ∙ ap (λ c. c && test t) (le-ltb t m l)

    -- the candidates from a word on are those of the word and those past it
    pub candidates-word : candidates_from pair images (64 * number) ≡ in_word number bits ++ candidates_from pair images (64 * (number + 1))
    unfolding in_word
    candidates-word =
        let next : 64 * (number + 1) ≡ first + 64 = omega arith in
        elim (cases_lt (first + 64) m) [
          | inl more ↦
              let size : m - first ≡ 64 + (m - 64 * (number + 1)) = omega arith in
              ap (λ n. filter test (range_with_len first n)) size
              ∙ filter-parts test first 64 (m - 64 * (number + 1))
              ∙ ap₂ (λ xs low. xs ++ filter test (range_with_len low (m - 64 * (number + 1))))
              (filter-agree test (λ t. bit_at bits (t % 64) == 1) first 64 (λ t a b. inside t a b (omega arith))) (sym next)
          | inr last ↦
              let size : m - first + (64 - (m - first)) ≡ 64 = omega arith in
              let rest : m - 64 * (number + 1) ≡ 0 = omega arith in
              filter-agree test (λ t. bit_at bits (t % 64) == 1) first (m - first) (λ t a b. inside t a (omega arith) (omega arith))
              ∙ sym (part (m - first) (64 - (m - first)) (λ t a b. outside t (omega arith) (omega arith) (omega arith)))
              ∙ ap (λ n. filter (λ t. bit_at bits (t % 64) == 1) (range_with_len first n)) size
              ∙ nothing (in_word number bits)
              ∙ ap (λ n. in_word number bits ++ filter test (range_with_len (64 * (number + 1)) n)) (sym rest)
        ]
      where
        nothing : (xs : List ℕ) → xs ≡ xs ++ []
        nothing xs = sym (append-nil xs)

        part : (n k : ℕ) → ((t : ℕ) → first + n ≤ t → t < first + n + k → (bit_at bits (t % 64) == 1) ≡ false) → filter (λ t. bit_at bits (t % 64) == 1) (range_with_len first (n + k)) ≡ filter (λ t. bit_at bits (t % 64) == 1) (range_with_len first n)
        part n k none =
            filter-parts (λ t. bit_at bits (t % 64) == 1) first n k
            ∙ ap (λ xs. filter (λ t. bit_at bits (t % 64) == 1) (range_with_len first n) ++ xs) (filter-none (λ t. bit_at bits (t % 64) == 1) (first + n) k none)
            ∙ append-nil (filter (λ t. bit_at bits (t % 64) == 1) (range_with_len first n))

    -- a word without candidates is passed over
    pub candidates-skip : bits ≡ 0 → candidates_from pair images (64 * number) ≡ candidates_from pair images (64 * (number + 1))
    candidates-skip empty = candidates-word ∙ ap (λ b. in_word number b ++ candidates_from pair images (64 * (number + 1))) empty ∙ ap (λ xs. xs ++ candidates_from pair images (64 * (number + 1))) (word-empty number)

    -- one with candidates is the word of a generator
    pub candidates-left : bits ≢ 0 → candidates_from pair images (64 * number) ≡ left_from pair (record { parent = images; number = number; bits = bits })
    candidates-left some = candidates-word ∙ sym (left-some pair (record { parent = images; number = number; bits = bits }) some)

  -- the children of a node send the next vertex to the candidates
  pub children-next : length images < vertex_count pair.pattern → map (with_image images) (candidates_from pair images 0) ≡ children_of pair images
  children-next some =
      let order = length-searched_order pair.pattern in
      let next : unmapped_of pair images ≡ vertex_at pair (length images) ∷ drop (length images + 1) (searched_order pair.pattern) = drop_more (searched_order pair.pattern) (length images) 0 (omega arith) in
      let all : m - 0 ≡ m = omega arith in
      ap (λ n. map (with_image images) (filter test (range_with_len 0 n))) all
      ∙ ap (mapping_first pair images) (sym next)

  -- a whole map has no children
  pub children-whole : vertex_count pair.pattern ≤ length images → [] ≡ children_of pair images
  children-whole all = ap (mapping_first pair images) (sym (drop_all (length images) (searched_order pair.pattern) (let order = length-searched_order pair.pattern in omega arith)))

-- ---- a generator

next-before : (pair : GraphPair) (before images : List ℕ) (t : ℕ) → AreNext pair before (images ++ t ∷ []) → AreNext pair before images
next-before pair before [] t a = tt
next-before pair before (s ∷ images) t a = (a.0, next-before pair (with_image before s) images t a.1)

-- a map of which one image more is a node is a node that is not whole
pub node-before : (pair : GraphPair) (images : List ℕ) (t : ℕ) → IsNode pair (with_image images t) → IsNode pair images × (length images < vertex_count pair.pattern)
node-before pair images t sound =
    let longer = length-append images (t ∷ []) in
    let within = sound.within in
    let some : length images < vertex_count pair.pattern = omega (arith, longer, within) in
    (record { limits = sound.limits; within = omega arith; chosen = next-before pair [] images t sound.chosen }, some)

-- the map whose children are left is a node that is not whole
pub parent-sound : (pair : GraphPair) (kids : Kids) → kids.bits ≢ 0 → kids.bits < 2 ^ 64 → AllByRecursion (IsNode pair) (remaining_of pair kids) → IsNode pair kids.parent × (length kids.parent < vertex_count pair.pattern)
parent-sound pair kids some fits sound =
    let t = 64 * kids.number + lowest_of kids.bits in
    let others = in_word kids.number (after_of kids.bits) ++ candidates_from pair kids.parent (64 * (kids.number + 1)) in
    let left : left_from pair kids ≡ t ∷ others = left-some pair kids some ∙ ap (λ xs. xs ++ candidates_from pair kids.parent (64 * (kids.number + 1))) (word-pop kids.number kids.bits some fits) in
    let is : remaining_of pair kids ≡ with_image kids.parent t ∷ map (with_image kids.parent) others = ap (map (with_image kids.parent)) left in
    node-before pair kids.parent t (subst (AllByRecursion (IsNode pair)) is sound).0

-- what is left after a vertex was taken
pub remaining-taken : (pair : GraphPair) (old new : Kids) (image : ℕ) → old.bits ≢ 0 → Takes old image new → remaining_of pair old ≡ map (with_image new.parent) (image ∷ (in_word new.number new.bits ++ candidates_from pair new.parent (64 * (new.number + 1))))
remaining-taken pair old new image some takes =
    ap (map (with_image old.parent)) (left-some pair old some ∙ ap (λ xs. xs ++ candidates_from pair old.parent (64 * (old.number + 1))) takes.first)
    ∙ ap₂ (λ (parent : List ℕ) (number : ℕ). map (with_image parent) (image ∷ (in_word new.number new.bits ++ candidates_from pair parent (64 * (number + 1))))) (sym takes.same_parent) (sym takes.same_number)
