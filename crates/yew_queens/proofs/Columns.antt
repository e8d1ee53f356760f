-- The free columns, with one column more.
use Rattle.std.proofs.Common.{◌≡◌, ℕ, zero, suc, ◌+◌, true, false, cond, List, [], ◌∷◌, ◌++◌, map, ap, ◌∙◌, arith, append-nil}
use Rattle.std.specs.List.{filter, range_with_len}
use Rattle.std.proofs.lemmas.List.Elements.{filter-append}
use Rattle.std.proofs.lemmas.List.{map-append}
use Rattle.yew_queens.specs.BoardTree.{is_free}

range_more : (a n j : ℕ) → a + n ≡ j → range_with_len a (n + 1) ≡ range_with_len a n ++ j ∷ []
range_more a zero j e = let same : a ≡ j = omega (arith, e) in ap (λ x. x ∷ []) same
range_more a (suc n) j e =
    let next : suc n + 1 ≡ suc (n + 1) = omega arith in
    ap (range_with_len a) next ∙ ap (λ xs. a ∷ xs) (range_more (a + 1) n j (omega (arith, e)))

-- each free column below k, added to the placement
abbrev pub added : List ℕ → ℕ → List (List ℕ)
added columns k = map (λ c. columns ++ c ∷ []) (filter (is_free columns) (range_with_len 0 k))

added-more : (columns : List ℕ) (k : ℕ) → added columns (k + 1) ≡ added columns k ++ map (λ c. columns ++ c ∷ []) (cond (is_free columns k) (k ∷ []) [])
added-more columns k =
    ap (λ ns. map (λ c. columns ++ c ∷ []) (filter (is_free columns) ns)) (range_more 0 k k (omega arith))
    ∙ ap (map (λ c. columns ++ c ∷ [])) (filter-append (is_free columns) (range_with_len 0 k) (k ∷ []))
    ∙ map-append (λ c. columns ++ c ∷ []) (filter (is_free columns) (range_with_len 0 k)) (cond (is_free columns k) (k ∷ []) [])

pub added_free : (columns : List ℕ) (k : ℕ) → is_free columns k ≡ true → added columns (k + 1) ≡ added columns k ++ (columns ++ k ∷ []) ∷ []
added_free columns k free =
    added-more columns k ∙ ap (λ b. added columns k ++ map (λ c. columns ++ c ∷ []) (cond b (k ∷ []) [])) free

pub added_attacked : (columns : List ℕ) (k : ℕ) → is_free columns k ≡ false → added columns (k + 1) ≡ added columns k
added_attacked columns k attacked =
    added-more columns k
    ∙ ap (λ b. added columns k ++ map (λ c. columns ++ c ∷ []) (cond b (k ∷ []) [])) attacked
    ∙ append-nil (added columns k)
