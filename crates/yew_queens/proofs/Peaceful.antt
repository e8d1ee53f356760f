-- One queen more: a placement stays peaceful exactly where the column is free.
use Rattle.std.proofs.Common.{◌≡◌, ℕ, suc, ◌+◌, Bool, true, false, not, ◌&&◌, List, [], ◌∷◌, ◌++◌, length, refl, ap, ap₂, ◌∙◌, arith}
use Rattle.yew_queens.specs.Boards.{attacks, spares, is_peaceful}
use Rattle.yew_queens.specs.BoardTree.{is_free}

and-true : (b : Bool) → (b && true) ≡ b
and-true true = refl
and-true false = refl

and-assoc : (a b c : Bool) → (a && (b && c)) ≡ (a && b && c)
and-assoc true b c = refl
and-assoc false b c = refl

and-shuffles : (a x p f : Bool) → ((a && x) && (p && f)) ≡ ((a && p) && (x && f))
and-shuffles true true p f = refl
and-shuffles true false true f = refl
and-shuffles true false false f = refl
and-shuffles false x p f = refl

spares-more : (c rows : ℕ) (ds : List ℕ) (e : ℕ) → spares c rows (ds ++ e ∷ []) ≡ (spares c rows ds && not (attacks (rows + length ds) c e))
spares-more c rows [] e =
    let same : rows ≡ rows + 0 = omega arith in
    and-true (not (attacks rows c e)) ∙ ap (λ r. not (attacks r c e)) same
spares-more c rows (d ∷ ds) e =
    let same : suc rows + length ds ≡ rows + suc (length ds) = omega arith in
    ap (λ b. not (attacks rows c d) && b) (spares-more c (suc rows) ds e ∙ ap (λ r. spares c (suc rows) ds && not (attacks r c e)) same)
    ∙ and-assoc (not (attacks rows c d)) (spares c (suc rows) ds) (not (attacks (rows + suc (length ds)) c e))

pub peaceful-more : (cs : List ℕ) (e : ℕ) → is_peaceful (cs ++ e ∷ []) ≡ (is_peaceful cs && is_free cs e)
peaceful-more [] e = refl
peaceful-more (d ∷ ds) e =
    let same : 1 + length ds ≡ suc (length ds) = omega arith in
    ap₂ (λ a b. a && b) (spares-more d 1 ds e ∙ ap (λ r. spares d 1 ds && not (attacks r d e)) same) (peaceful-more ds e)
    ∙ and-shuffles (spares d 1 ds) (not (attacks (suc (length ds)) d e)) (is_peaceful ds) (is_free ds e)
