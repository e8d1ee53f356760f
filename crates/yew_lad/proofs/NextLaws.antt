-- The candidates for a vertex as words, and what they say of the bound.
use Rattle.std.proofs.Common.{◌≡◌, ◌≢◌, ℕ, zero, suc, ◌+◌, ◌*◌, ◌/◌, ◌%◌, ◌^◌, ◌<◌, ◌≤◌, Bool, true, false, ◌&&◌, ◌||◌, ◌==◌, List, drop, nat_lt, refl, ap, ap₂, sym, ◌∙◌, inl, inr, arith}
use Rattle.std.specs.Int.{bit_at, trailing_zeros, w64}
use Rattle.std.specs.List.{list_all, list_any, range_with_len}
use Rattle.std.proofs.lemmas.Bool.{and_parts, cases_eq, lt-ltb, ltb-true}
use Rattle.std.proofs.lemmas.List.{drop_more, drop_all}
use Rattle.std.proofs.lemmas.Nat.Bits.{bit_at-zero, bit_at-trailing_zeros}
use Rattle.yew_lad.specs.Bits.{AreBits}
use Rattle.yew_lad.specs.Digraphs.{GraphPair, vertex_count}
use Rattle.yew_lad.specs.Lists.{range-any}
use Rattle.yew_lad.specs.Nodes.{vertex_at, has_candidate}
use Rattle.yew_lad.specs.OrderLaws.{length-searched_order}
use Rattle.yew_lad.specs.SearchedOrder.{searched_order}

module _ (m : ℕ) (test : ℕ → Bool) (number word : ℕ) (bits : AreBits word (λ k. nat_lt (64 * number + k) m && test (64 * number + k))) where
  -- a word that is 0 has no candidate
  pub word-none : word ≡ 0 → ((t : ℕ) → t < 64 * number → t < m → test t ≡ false) → (t : ℕ) → t < 64 * (number + 1) → t < m → test t ≡ false
  word-none empty before t l small =
      elim (cases_eq (t / 64) number) [
        | inl same ↦
            let at : 64 * number + t % 64 ≡ t = omega arith in
            let none : (nat_lt (64 * number + t % 64) m && test (64 * number + t % 64)) ≡ false = sym (bits (t % 64) (omega arith)) ∙ ap (λ w. bit_at w (t % 64) == 1) empty ∙ ap (λ n. n == 1) (bit_at-zero (t % 64)) in
            sym (ap (λ b. b && test t) (lt-ltb t m small)) ∙ ap (λ s. nat_lt s m && test s) (sym at) ∙ none
        | inr other ↦ before t (omega arith) small
      ]

  -- another word has one
  pub word-some : word ≢ 0 → word < 2 ^ 64 → list_any test (range_with_len 0 m) ≡ true
  word-some some fits =
      let low = bit_at-trailing_zeros w64 word (omega arith) fits in
      let k = trailing_zeros w64 word in
      let both = and_parts (nat_lt (64 * number + k) m) (test (64 * number + k)) (sym (bits k low.0) ∙ ap (λ n. n == 1) low.1) in
      let below : 64 * number + k < m = ltb-true (64 * number + k) m both.0 in
      range-any test 0 m (64 * number + k) (omega arith) (omega arith) both.1

pub none-any : (test : ℕ → Bool) (low n : ℕ) → ((t : ℕ) → low ≤ t → t < low + n → test t ≡ false) → list_any test (range_with_len low n) ≡ false
none-any test low zero h = refl
none-any test low (suc n) h = ap₂ (λ a b. a || b) (h low (omega arith) (omega arith)) (none-any test (low + 1) n (λ t a b. h t (omega arith) (omega arith)))

module _ (pair : GraphPair) (images : List ℕ) where
  -- one vertex more of those that are not mapped
  pub bound-step : (place : ℕ) → place < vertex_count pair.pattern → has_candidate pair images (vertex_at pair place) ≡ true → list_all (has_candidate pair images) (drop place (searched_order pair.pattern)) ≡ list_all (has_candidate pair images) (drop (place + 1) (searched_order pair.pattern))
  bound-step place l can =
      let order = length-searched_order pair.pattern in
      ap (list_all (has_candidate pair images)) (drop_more (searched_order pair.pattern) place 0 (omega arith))
      ∙ ap (λ b. b && list_all (has_candidate pair images) (drop (place + 1) (searched_order pair.pattern))) can

  pub bound-stop : (place : ℕ) → place < vertex_count pair.pattern → has_candidate pair images (vertex_at pair place) ≡ false → list_all (has_candidate pair images) (drop place (searched_order pair.pattern)) ≡ false
  bound-stop place l cannot =
      let order = length-searched_order pair.pattern in
      ap (list_all (has_candidate pair images)) (drop_more (searched_order pair.pattern) place 0 (omega arith))
      ∙ ap (λ b. b && list_all (has_candidate pair images) (drop (place + 1) (searched_order pair.pattern))) cannot

  pub bound-end : (place : ℕ) → vertex_count pair.pattern ≤ place → list_all (has_candidate pair images) (drop place (searched_order pair.pattern)) ≡ true
  bound-end place l =
      ap (list_all (has_candidate pair images)) (drop_all place (searched_order pair.pattern) (let order = length-searched_order pair.pattern in omega arith))
