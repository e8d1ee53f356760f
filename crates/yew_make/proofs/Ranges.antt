-- Lists over ranges of numbers.
use Rattle.std.proofs.Common.{◌≡◌, ℕ, zero, suc, ◌+◌, ◌<◌, Bool, true, false, cond, List, [], ◌∷◌, ◌++◌, length, map, take, refl, sym, ap, ◌∙◌, arith}
use Rattle.std.specs.Prelude.{filter}
use Rattle.std.specs.List.{range_with_len}
use Rattle.std.proofs.Math.ListN.{set}
use Rattle.std.proofs.Math.Seq.{take-suc-set}
use Rattle.std.proofs.lemmas.List.{take-set}
use Rattle.std.proofs.lemmas.List.Elements.{filter-append}

-- one more number
pub range_with_len-more : (a n j : ℕ) → a + n ≡ j → range_with_len a (n + 1) ≡ range_with_len a n ++ j ∷ []
range_with_len-more a n j e = let on : n + 1 ≡ suc n = omega arith in ap (range_with_len a) on ∙ last a n j e
  where
    last : (a n j : ℕ) → a + n ≡ j → range_with_len a (suc n) ≡ range_with_len a n ++ j ∷ []
    last a zero j e = let same : a ≡ j = omega arith in ap (λ (k : ℕ). k ∷ []) same
    last a (suc n) j e = ap (λ (l : List ℕ). a ∷ l) (last (a + 1) n j (omega arith))

-- those of one more number that pass a test
pub filter-yes : (p : ℕ → Bool) (n : ℕ) → p n ≡ true → filter p (range_with_len 0 (n + 1)) ≡ filter p (range_with_len 0 n) ++ n ∷ []
filter-yes p n passes =
    ap (filter p) (range_with_len-more 0 n n (omega arith))
    ∙ filter-append p (range_with_len 0 n) (n ∷ [])
    ∙ ap (λ (b : Bool). filter p (range_with_len 0 n) ++ cond b (n ∷ []) []) passes

pub filter-no : (p : ℕ → Bool) (n : ℕ) → p n ≡ false → filter p (range_with_len 0 (n + 1)) ≡ filter p (range_with_len 0 n)
filter-no p n fails =
    ap (filter p) (range_with_len-more 0 n n (omega arith))
    ∙ filter-append p (range_with_len 0 n) (n ∷ [])
    ∙ ap (λ (b : Bool). filter p (range_with_len 0 n) ++ cond b (n ∷ []) []) fails
    ∙ append-none (filter p (range_with_len 0 n))
  where
    append-none : (xs : List ℕ) → xs ++ [] ≡ xs
    append-none [] = refl
    append-none (x ∷ xs) = ap (λ (l : List ℕ). x ∷ l) (append-none xs)

-- tests and functions that agree on a range
pub filter-agree : (p q : ℕ → Bool) (a n : ℕ) → ((v : ℕ) → v < a + n → p v ≡ q v) → filter p (range_with_len a n) ≡ filter q (range_with_len a n)
filter-agree p q a zero same = refl
filter-agree p q a (suc n) same =
    ap (λ (b : Bool). cond b (a ∷ filter p (range_with_len (a + 1) n)) (filter p (range_with_len (a + 1) n))) (same a (omega arith))
    ∙ ap (λ (l : List ℕ). cond (q a) (a ∷ l) l) (filter-agree p q (a + 1) n (λ v l. same v (omega arith)))

pub map-agree : {X : Type 0} (f g : ℕ → X) (a n : ℕ) → ((v : ℕ) → v < a + n → f v ≡ g v) → map f (range_with_len a n) ≡ map g (range_with_len a n)
map-agree f g a zero same = refl
map-agree f g a (suc n) same =
    ap (λ x. x ∷ map f (range_with_len (a + 1) n)) (same a (omega arith))
    ∙ ap (λ l. g a ∷ l) (map-agree f g (a + 1) n (λ v l. same v (omega arith)))

-- a number that is written behind those found, and kept where it passes
pub found-kept : (p : ℕ → Bool) (found : List ℕ) (count v : ℕ) → p v ≡ true → count < length found → take count found ≡ filter p (range_with_len 0 v) → take (count + 1) (set found count v) ≡ filter p (range_with_len 0 (v + 1))
found-kept p found count v passes within e =
    let one_more : count + 1 ≡ suc count = omega arith in
    ap (λ (k : ℕ). take k (set found count v)) one_more ∙ take-suc-set found count v within ∙ ap (λ (l : List ℕ). l ++ v ∷ []) e ∙ sym (filter-yes p v passes)

pub found-passed : (p : ℕ → Bool) (found : List ℕ) (count v : ℕ) → p v ≡ false → take count found ≡ filter p (range_with_len 0 v) → take (count + 0) (set found count v) ≡ filter p (range_with_len 0 (v + 1))
found-passed p found count v fails e =
    let same : count + 0 ≡ count = omega arith in
    ap (λ (k : ℕ). take k (set found count v)) same ∙ take-set found count v ∙ e ∙ sym (filter-no p v fails)

-- a range and the one behind it
pub range_with_len-append : (a m n : ℕ) → range_with_len a (m + n) ≡ range_with_len a m ++ range_with_len (a + m) n
range_with_len-append a zero n =
    let e : 0 + n ≡ n = omega arith in
    let start : a ≡ a + 0 = omega arith in
    ap (range_with_len a) e ∙ ap (λ (k : ℕ). range_with_len k n) start
range_with_len-append a (suc m) n =
    let e : suc m + n ≡ suc (m + n) = omega arith in
    let start : a + 1 + m ≡ a + suc m = omega arith in
    ap (range_with_len a) e
    ∙ ap (λ (l : List ℕ). a ∷ l) (range_with_len-append (a + 1) m n)
    ∙ ap (λ (k : ℕ). a ∷ (range_with_len (a + 1) m ++ range_with_len k n)) start
