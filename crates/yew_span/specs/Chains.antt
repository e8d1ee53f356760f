-- Chains of pairs: one after another, turned round, in a longer list; and that labels which agree are the same along them.
use Rattle.std.specs.Prelude.{◌≡◌, ℕ, Bool, true, false, ◌&&◌, ◌||◌, ◌==◌, List, [], ◌∷◌, ◌++◌, refl}
use Rattle.std.proofs.Common.{ap, sym, subst, ◌∙◌, arith, inl, inr, ◌⊎◌}
use Rattle.std.proofs.lemmas.Bool.{and_from, and_parts, true≢false}
use Rattle.std.proofs.lemmas.Bool.Decides.{nat_tests}
use Rattle.yew_span.specs.Exchange.{Agrees}
use Rattle.yew_span.specs.Span.{is_listed, is_chain, IsJoined}

or_cases : (b d : Bool) → (b || d) ≡ true → (b ≡ true) ⊎ (d ≡ true)
or_cases true d e = inl refl
or_cases false d e = inr e

or_right : (b d : Bool) → d ≡ true → (b || d) ≡ true
or_right b d e = grind (arith, nat_tests)

or_left : (b d : Bool) → b ≡ true → (b || d) ≡ true
or_left b d e = grind (arith, nat_tests)

equal : (a b : ℕ) → (a == b) ≡ true → a ≡ b
equal a b e = grind (arith, nat_tests)

itself : (a : ℕ) → (a == a) ≡ true
itself a = grind (arith, nat_tests)

-- ---- labels

listed-agree : (label : ℕ → ℕ) (pairs : List (ℕ × ℕ)) (a b : ℕ) → Agrees label pairs → is_listed pairs a b ≡ true → label a ≡ label b
listed-agree label [] a b g h = absurd (true≢false (sym h))
listed-agree label (pair ∷ pairs) a b g h =
    elim (or_cases ((pair.0 == a && pair.1 == b) || (pair.0 == b && pair.1 == a)) (is_listed pairs a b) h) [
      | inl here ↦
          elim (or_cases (pair.0 == a && pair.1 == b) (pair.0 == b && pair.1 == a) here) [
            | inl so ↦
                let p = and_parts (pair.0 == a) (pair.1 == b) so in
                sym (ap label (equal pair.0 a p.0)) ∙ g.0 ∙ ap label (equal pair.1 b p.1)
            | inr so ↦
                let p = and_parts (pair.0 == b) (pair.1 == a) so in
                sym (ap label (equal pair.1 a p.1)) ∙ sym g.0 ∙ ap label (equal pair.0 b p.0)
          ]
      | inr there ↦ listed-agree label pairs a b g.1 there
    ]

chain-agree : (label : ℕ → ℕ) (pairs : List (ℕ × ℕ)) (through : List ℕ) (a b : ℕ) → Agrees label pairs → is_chain pairs a through b ≡ true → label a ≡ label b
chain-agree label pairs [] a b g h = ap label (equal a b h)
chain-agree label pairs (c ∷ cs) a b g h =
    let p = and_parts (is_listed pairs a c) (is_chain pairs c cs b) h in
    listed-agree label pairs a c g p.0 ∙ chain-agree label pairs cs c b g p.1

-- what a chain joins has the same label
pub joined-agree : (label : ℕ → ℕ) (pairs : List (ℕ × ℕ)) (a b : ℕ) → Agrees label pairs → IsJoined pairs a b → label a ≡ label b
joined-agree label pairs a b g j = chain-agree label pairs j.0 a b g j.1

-- ---- chains

pub joined-self : (pairs : List (ℕ × ℕ)) (a : ℕ) → IsJoined pairs a a
joined-self pairs a = ([], itself a)

chain-append : (pairs : List (ℕ × ℕ)) (through more : List ℕ) (a b c : ℕ) → is_chain pairs a through b ≡ true → is_chain pairs b more c ≡ true → is_chain pairs a (through ++ more) c ≡ true
chain-append pairs [] more a b c h k = subst (λ x. is_chain pairs x more c ≡ true) (sym (equal a b h)) k
chain-append pairs (d ∷ ds) more a b c h k =
    let p = and_parts (is_listed pairs a d) (is_chain pairs d ds b) h in
    and_from (is_listed pairs a d) (is_chain pairs d (ds ++ more) c) p.0 (chain-append pairs ds more d b c p.1 k)

pub joined-through : (pairs : List (ℕ × ℕ)) (a b c : ℕ) → IsJoined pairs a b → IsJoined pairs b c → IsJoined pairs a c
joined-through pairs a b c j k = (j.0 ++ k.0, chain-append pairs j.0 k.0 a b c j.1 k.1)

listed-turned : (pairs : List (ℕ × ℕ)) (a b : ℕ) → is_listed pairs a b ≡ true → is_listed pairs b a ≡ true
listed-turned [] a b h = h
listed-turned (pair ∷ pairs) a b h =
    elim (or_cases ((pair.0 == a && pair.1 == b) || (pair.0 == b && pair.1 == a)) (is_listed pairs a b) h) [
      | inl here ↦ or_left ((pair.0 == b && pair.1 == a) || (pair.0 == a && pair.1 == b)) (is_listed pairs b a) (swapped (pair.0 == a && pair.1 == b) (pair.0 == b && pair.1 == a) here)
      | inr there ↦ or_right ((pair.0 == b && pair.1 == a) || (pair.0 == a && pair.1 == b)) (is_listed pairs b a) (listed-turned pairs a b there)
    ]
  where
    swapped : (x y : Bool) → (x || y) ≡ true → (y || x) ≡ true
    swapped x y e = grind (arith, nat_tests)

joined-listed : (pairs : List (ℕ × ℕ)) (a b : ℕ) → is_listed pairs a b ≡ true → IsJoined pairs a b
joined-listed pairs a b h = (b ∷ [], and_from (is_listed pairs a b) (b == b) h (itself b))

chain-turned : (pairs : List (ℕ × ℕ)) (through : List ℕ) (a b : ℕ) → is_chain pairs a through b ≡ true → IsJoined pairs b a
chain-turned pairs [] a b h = ([], sym_test a b h)
  where
    sym_test : (x y : ℕ) → (x == y) ≡ true → (y == x) ≡ true
    sym_test x y e = grind (arith, nat_tests)
chain-turned pairs (c ∷ cs) a b h =
    let p = and_parts (is_listed pairs a c) (is_chain pairs c cs b) h in
    joined-through pairs b c a (chain-turned pairs cs c b p.1) (joined-listed pairs c a (listed-turned pairs a c p.0))

pub joined-turned : (pairs : List (ℕ × ℕ)) (a b : ℕ) → IsJoined pairs a b → IsJoined pairs b a
joined-turned pairs a b j = chain-turned pairs j.0 a b j.1

-- ---- one more pair

chain-more : (pair : ℕ × ℕ) (pairs : List (ℕ × ℕ)) (through : List ℕ) (a b : ℕ) → is_chain pairs a through b ≡ true → is_chain (pair ∷ pairs) a through b ≡ true
chain-more pair pairs [] a b h = h
chain-more pair pairs (c ∷ cs) a b h =
    let p = and_parts (is_listed pairs a c) (is_chain pairs c cs b) h in
    and_from (is_listed (pair ∷ pairs) a c) (is_chain (pair ∷ pairs) c cs b)
    (or_right ((pair.0 == a && pair.1 == c) || (pair.0 == c && pair.1 == a)) (is_listed pairs a c) p.0)
    (chain-more pair pairs cs c b p.1)

pub joined-more : (pair : ℕ × ℕ) (pairs : List (ℕ × ℕ)) (a b : ℕ) → IsJoined pairs a b → IsJoined (pair ∷ pairs) a b
joined-more pair pairs a b j = (j.0, chain-more pair pairs j.0 a b j.1)

-- the cities of the first pair are joined
pub joined-first : (pairs : List (ℕ × ℕ)) (a b : ℕ) → IsJoined ((a, b) ∷ pairs) a b
joined-first pairs a b =
    joined-listed ((a, b) ∷ pairs) a b
    (or_left ((a == a && b == b) || (a == b && b == a)) (is_listed pairs a b)
    (or_left (a == a && b == b) (a == b && b == a) (and_from (a == a) (b == b) (itself a) (itself b))))
