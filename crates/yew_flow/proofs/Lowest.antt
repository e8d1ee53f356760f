-- The lowest bit of a word.
use Rattle.std.proofs.Common.{◌≡◌, ◌≢◌, ℕ, suc, ◌+◌, ◌-◌, ◌^◌, ◌<◌, ◌≤◌, Bool, true, false, cond, ◌==◌, [], ◌∷◌, ◌++◌, filter, refl, ap, sym, ◌∙◌, arith}
use Rattle.std.specs.Int.{bit_at, trailing_zeros, w64}
use Rattle.std.specs.List.{range_with_len}
use Rattle.std.proofs.lemmas.Bool.Decides.{nat_tests}
use Rattle.std.proofs.lemmas.Nat.Bits.{bit_at-trailing_zeros}
use Rattle.yew_flow.specs.Bits.{bits_of}
use Rattle.yew_flow.specs.Lists.{filter-all, filter-append, filter-every, filter-nothing, range-all, range-append, is_other}
use Rattle.yew_flow.specs.NodeLaws.{bits_of-cleared}
use Rattle.yew_flow.specs.Nodes.{cleared}
use Rattle.yew_laws.proofs.Members.{AllByRecursion-weaker}

-- no bit is set in 0
pub bits_of-zero : bits_of 0 ≡ []
unfolding bits_of
bits_of-zero = refl

bit_test : (b : ℕ) → b ≡ 1 → (b == 1) ≡ true
bit_test b e = grind (arith, nat_tests)

no_bit_test : (b : ℕ) → b ≡ 0 → (b == 1) ≡ false
no_bit_test b e = grind (arith, nat_tests)

above-other : (c x : ℕ) → c + 1 ≤ x → is_other c x ≡ true
above-other c x l = grind (arith, nat_tests)

own-other : (c : ℕ) → is_other c c ≡ false
own-other c = grind (arith, nat_tests)

-- the places of the bits by the lowest one
bits_of-first : (word c : ℕ) → c < 64 → bit_at word c ≡ 1 → ((i : ℕ) → i < c → bit_at word i ≡ 0) → bits_of word ≡ c ∷ filter (λ x. bit_at word x == 1) (range_with_len (c + 1) (63 - c))
unfolding bits_of
bits_of-first word c within set low =
    let p : ℕ → Bool = λ x. bit_at word x == 1 in
    let long : 64 ≡ c + suc (63 - c) = omega arith in
    let none : 0 + c ≡ c = omega arith in
    ap (λ k. filter p (range_with_len 0 k)) long
    ∙ ap (filter p) (range-append 0 c (suc (63 - c)))
    ∙ filter-append p (range_with_len 0 c) (range_with_len (0 + c) (suc (63 - c)))
    ∙ ap (λ ks. ks ++ filter p (range_with_len (0 + c) (suc (63 - c)))) (filter-nothing p (range_with_len 0 c) (range-all (λ x. p x ≡ false) 0 c (λ k l m. no_bit_test (bit_at word k) (low k (omega arith)))))
    ∙ ap (λ k. filter p (range_with_len k (suc (63 - c)))) none
    ∙ ap (λ b. cond b (c ∷ filter p (range_with_len (c + 1) (63 - c))) (filter p (range_with_len (c + 1) (63 - c)))) (bit_test (bit_at word c) set)

-- the lowest bit taken off
pub bits_of-lowest : (word c : ℕ) → c < 64 → bit_at word c ≡ 1 → ((i : ℕ) → i < c → bit_at word i ≡ 0) → bits_of word ≡ c ∷ bits_of (cleared word c)
bits_of-lowest word c within set low =
    let p : ℕ → Bool = λ x. bit_at word x == 1 in
    let rest = filter p (range_with_len (c + 1) (63 - c)) in
    let first = bits_of-first word c within set low in
    first
    ∙ ap (λ xs. c ∷ xs)
    (sym (bits_of-cleared word c within ∙ ap (filter (is_other c)) first
    ∙ ap (λ b. cond b (c ∷ filter (is_other c) rest) (filter (is_other c) rest)) (own-other c)
    ∙ filter-every (is_other c) rest
    (AllByRecursion-weaker (λ x. c + 1 ≤ x) (λ x. is_other c x ≡ true) (above-other c) rest
    (filter-all (λ x. c + 1 ≤ x) p (range_with_len (c + 1) (63 - c)) (range-all (λ x. c + 1 ≤ x) (c + 1) (63 - c) (λ k l m. l))))))

above_zero : (n : ℕ) → n ≢ 0 → 0 < n
above_zero n other = omega arith

-- the place of the lowest bit, as a processor counts it
pub bits_of-trailing : (word : ℕ) → word ≢ 0 → word < 2 ^ 64 → bits_of word ≡ trailing_zeros w64 word ∷ bits_of (cleared word (trailing_zeros w64 word))
bits_of-trailing word some fits =
    let low = bit_at-trailing_zeros w64 word (above_zero word some) fits in
    bits_of-lowest word (trailing_zeros w64 word) low.0 low.1 low.2
