-- The paths of visits and cuts that were sorted.
use Rattle.std.proofs.Common.{◌≡◌, ◌≢◌, ℕ, zero, suc, ◌+◌, ◌-◌, ◌<◌, List, [], ◌∷◌, map, length, get_or, false, refl, sym, subst, arith, inl, inr}
use Rattle.std.specs.Prelude.{IsTrue}
use Rattle.std.proofs.lemmas.Bool.{cases_lt}
use Rattle.std.proofs.lemmas.List.Sums.{sum_by-cons}
use Rattle.yew_laws.specs.Order.{comes_before, only}
use Rattle.yew_laws.proofs.Bags.{only-itself}
use Rattle.yew_laws.proofs.Members.{AllByRecursion-weaker}
use Rattle.yew_check.specs.Marks.{Mark, mark_paths, InOrder, IsTwice, Rises}
use Rattle.yew_check.proofs.Rising.{before-trans, before-total}

pub in-order : {X : Type 0} (f : X → Mark) (xs : List X) → ((k : ℕ) (d : X) → k + 1 < length xs → comes_before (f (get_or xs (k + 1) d)).path (f (get_or xs k d)).path ≡ false) → InOrder (mark_paths (map f xs))
in-order f [] h = tt
in-order f (x ∷ []) h = tt
in-order f (x ∷ y ∷ xs) h =
    (h 0 x (omega arith), in-order f (y ∷ xs) (λ k d less. let e : suc k + 1 ≡ suc (k + 1) = omega arith in subst (λ j. comes_before (f (get_or (x ∷ y ∷ xs) j d)).path (f (get_or (y ∷ xs) k d)).path ≡ false) e (h (suc k) d (omega arith))))

pub path-at : {X : Type 0} (f : X → Mark) (xs : List X) (k : ℕ) (d : X) → k < length xs → (f (get_or xs k d)).path ≡ get_or (mark_paths (map f xs)) k []
path-at f [] k d less = absurd (omega arith)
path-at f (y ∷ ys) zero d less = refl
path-at f (y ∷ ys) (suc k) d less = path-at f ys k d (omega arith)

pub twice-at : (ps : List (List ℕ)) (k : ℕ) → k + 1 < length ps → get_or ps k [] ≡ get_or ps (k + 1) [] → IsTwice ps
twice-at [] k less e = absurd (omega arith)
twice-at (p ∷ []) k less e = absurd (omega arith)
twice-at (p ∷ q ∷ ps) zero less e =
    let same : p ≡ q = e in
    let a = sum_by-cons (only p) p (q ∷ ps) in
    let b = sum_by-cons (only p) q ps in
    let i = only-itself p in
    let j : ◌≡◌ {A = ℕ} (only p q) 1 = subst (λ z. ◌≡◌ {A = ℕ} (only p z) 1) same (only-itself p) in
    (p, omega arith)
twice-at (p ∷ q ∷ ps) (suc k) less e =
    let shift : suc k + 1 ≡ suc (k + 1) = omega arith in
    let r = twice-at (q ∷ ps) k (omega arith) (subst (λ j. get_or (q ∷ ps) k [] ≡ get_or (p ∷ q ∷ ps) j []) shift e) in
    let w = sum_by-cons (only r.0) p (q ∷ ps) in
    let h = r.1 in
    (r.0, omega arith)

pub rises-from : (ps : List (List ℕ)) → InOrder ps → ((k : ℕ) → k + 1 < length ps → get_or ps k [] ≢ get_or ps (k + 1) []) → Rises ps
rises-from [] o h = tt
rises-from (p ∷ []) o h = (tt, tt)
rises-from (p ∷ q ∷ ps) o h =
    let rest = rises-from (q ∷ ps) o.1 (λ k less e. let shift : suc k + 1 ≡ suc (k + 1) = omega arith in h (suc k) (omega arith) (subst (λ j. get_or (q ∷ ps) k [] ≡ get_or (p ∷ q ∷ ps) j []) (sym shift) e)) in
    let less = before-total p q o.0 (h 0 (omega arith)) in
    ((less, AllByRecursion-weaker (λ r. IsTrue (comes_before q r)) (λ r. IsTrue (comes_before p r)) (λ r later. before-trans p q r less later) ps rest.0), rest)

-- one neighbour more that differs
pub differs-more : (ps : List (List ℕ)) (k : ℕ) → 0 < k → ((j : ℕ) → j + 1 < k → get_or ps j [] ≢ get_or ps (j + 1) []) → get_or ps (k - 1) [] ≢ get_or ps k [] → (j : ℕ) → j + 1 < k + 1 → get_or ps j [] ≢ get_or ps (j + 1) []
differs-more ps k some h ne j less e =
    elim (cases_lt (j + 1) k) [
      | inl before ↦ h j before e
      | inr le ↦
          let here : j + 1 ≡ k = omega arith in
          let at : j ≡ k - 1 = omega arith in
          ne (subst (λ i. get_or ps i [] ≡ get_or ps k []) at (subst (λ i. get_or ps j [] ≡ get_or ps i []) here e))
    ]
