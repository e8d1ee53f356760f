-- An addition keeps the rule of the claims, and what it tells its seat.
use Rattle.std.proofs.Common.{◌≡◌, ℕ, ◌+◌, ◌*◌, ◌%◌, ◌<◌, ◌≤◌, ◌≢◌, ◌∙◌, List, [], ◌∷◌, length, set, refl, sym, subst, ⊎_elim, arith, slice_index, nat_lt, get_or, suc}
use Rattle.std.specs.Prelude.{sum_by, All, ◌==◌, if◌then◌else◌}
use Rattle.std.proofs.lemmas.Bool.Decides.{nat_tests}
use Rattle.std.proofs.Math.ListN.{length-set, length-append}
use Rattle.std.proofs.lemmas.List.{get_or-set_same}
use Rattle.std.proofs.lemmas.List.Sums.{sum_by_push, sum_by-cons, get_or-le-sum_by}
use mathlib.Core.Option.{some}
use lib.ListN.{get_elem?}
use Rattle.atomic_table.specs.Table.{State, Me, keeps, Allows}
use Rattle.yew_laws.proofs.Views.{at_set, total_set, one_part, two_parts, total_alone}
use Rattle.yew_ranked.specs.declared.claim_view.ClaimView.{ClaimView}
use Rattle.yew_ranked.specs.ClaimViews.{has_claimed}
use Rattle.yew_ranked.specs.ClaimSeats.{times}
use Rattle.yew_ranked.specs.ClaimRule.{Fits, IsCount, Keeps, Tells}

-- all seats together have claimed at most their shares times 2^57 numbers
few_claimed : (seats : ℕ) (views : List ClaimView) → ((seat : ℕ) (v : ClaimView) → get_elem? views seat ≡ some v → Fits seats v)
    → sum_by (λ (v : ClaimView). length v.claimed) views ≤ sum_by (λ (v : ClaimView). v.share) views * 144115188075855872
few_claimed seats [] each = omega arith
few_claimed seats (v ∷ views) each =
    let here = (each 0 v refl).few in
    let rest = few_claimed seats views (λ seat u e. each (suc seat) u e) in
    let a = sum_by-cons (λ (u : ClaimView). length u.claimed) v views in
    let b = sum_by-cons (λ (u : ClaimView). u.share) v views in
    omega (arith, here, rest, a, b)

-- the counter is far from its end
pub no_wrap : (seats next : ℕ) (views : List ClaimView) → IsCount seats next views → (next + 1) % 18446744073709551616 ≡ next + 1
no_wrap seats next views is = let f = few_claimed seats views is.each in let m = is.many in let s = is.shares in let few = is.few_seats in omega (arith, f, m, s, few)

-- the numbers below n and n itself are those below n + 1
once_more : (x n : ℕ) → (if nat_lt x n then 1 else 0) + (if n == x then 1 else 0) ≡ (if nat_lt x (n + 1) then 1 else 0)
once_more x n = grind (arith, nat_tests)

claimed_more : (seats next : ℕ) (views : List ClaimView) (seat : ℕ) (v : ClaimView) → v.share ≡ 1 → length v.claimed < 144115188075855872 → IsCount seats next views → get_elem? views seat ≡ some v
    → IsCount seats (next + 1) (set views seat (has_claimed v next))
claimed_more seats next views seat v one few is at =
    let w = has_claimed v next in
    let was = is.each seat v at in
    let more : length w.claimed ≡ length v.claimed + 1 = length-append v.claimed (next ∷ []) in
    record {
      few_seats = is.few_seats;
      shares = (let t = total_set (λ (u : ClaimView). u.share) views seat v w at in let e = is.shares in omega (arith, t, e));
      many = (let t = total_set (λ (u : ClaimView). length u.claimed) views seat v w at in let e = is.many in omega (arith, t, e, more));
      once = λ x. (let t = total_set (λ (u : ClaimView). times x u.claimed) views seat v w at in let e = is.once x in
          let p = sum_by_push (λ y. if y == x then 1 else 0) v.claimed next in let o = once_more x next in omega (arith, t, e, p, o));
      each = λ j u e. ⊎_elim (λ (t : (j ≡ seat) × (w ≡ u)). subst (Fits seats) t.1 record { whole = was.whole; few = omega (arith, more, few, one) })
          (λ (t : (j ≢ seat) × (get_elem? views j ≡ some u)). is.each j u t.1) (at_set views seat j w u e);
    }

-- a number that a seat has claimed is below the counter
below_next : (seats next : ℕ) (views : List ClaimView) (seat : ℕ) (v : ClaimView) → IsCount seats next views → get_elem? views seat ≡ some v → All (λ x. x < next) v.claimed
below_next seats next views seat v is at k d h =
    let x = get_or v.claimed k d in
    let there = get_or-le-sum_by (λ y. if y == x then 1 else 0) v.claimed k d h in
    let part = one_part (λ (u : ClaimView). times x u.claimed) views seat v at in
    let e = is.once x in
    is_below x next _ _ there part e
  where
    is_below : (x next some_of total : ℕ) → (if x == x then 1 else 0) ≤ some_of → some_of ≤ total → total ≡ (if nat_lt x next then 1 else 0) → x < next
    is_below x next some_of total b c d = grind (arith, nat_tests)

-- where one seat has the whole share, the others have claimed nothing
pub alone : (seats next : ℕ) (views : List ClaimView) (seat : ℕ) (v : ClaimView) → IsCount seats next views → get_elem? views seat ≡ some v → v.share ≡ seats
    → (j : ℕ) (u : ClaimView) → j ≢ seat → get_elem? views j ≡ some u → length u.claimed ≡ 0
alone seats next views seat v is at whole j u other e =
    let both = two_parts (λ (t : ClaimView). t.share) views seat j v u other at e in
    let total = is.shares in let few = (is.each j u e).few in omega (arith, both, total, whole, few)

pub many_alone : (seats next : ℕ) (views : List ClaimView) (seat : ℕ) (v : ClaimView) → IsCount seats next views → get_elem? views seat ≡ some v → v.share ≡ seats → length v.claimed ≡ next
many_alone seats next views seat v is at whole = sym (total_alone (λ (u : ClaimView). length u.claimed) views seat v at (alone seats next views seat v is at whole)) ∙ is.many

pub once_alone : (seats next : ℕ) (views : List ClaimView) (seat : ℕ) (v : ClaimView) → IsCount seats next views → get_elem? views seat ≡ some v → v.share ≡ seats
    → (x : ℕ) → times x v.claimed ≡ (if nat_lt x next then 1 else 0)
once_alone seats next views seat v is at whole x =
    sym (total_alone (λ (u : ClaimView). times x u.claimed) views seat v at (λ j u other e. none x u.claimed (alone seats next views seat v is at whole j u other e))) ∙ is.once x
  where
    none : (x : ℕ) (xs : List ℕ) → length xs ≡ 0 → times x xs ≡ 0
    none x [] e = refl
    none x (y ∷ ys) e = absurd (omega arith)

-- a new view and a new counter keep the rule of the table
placed : (seats m : ℕ) (words : List ℕ) (views : List ClaimView) → 16 < length words → IsCount seats m views → Keeps seats (set words 16 m) views
placed seats m words views at is = record {
  placed = omega (arith, length-set words 16 m);
  count = subst (λ (k : ℕ). IsCount seats k views) (sym (get_or-set_same words 16 m 0 at)) is;
}

-- an addition, which claims the number that it found
pub takes : {S : Type 0} (seats slots seat : ℕ) (me : Me S ClaimView) → me.0.share ≡ 1 → length me.0.claimed < 144115188075855872
    → Allows (λ (s : State S ClaimView). Keeps seats s.words s.views) slots seat me 16 (λ n. (n + 1) % 18446744073709551616) (λ n after. (after ≡ (has_claimed me.0 n, me.1)) × Tells me.0 n)
takes seats slots seat me one few s holds count at small =
    let v = me.0 in let n = slice_index s.words 16 in let w = has_claimed v n in let is = holds.count in
    let knows : v.seats ≡ seats = (is.each seat v at).whole (omega arith) in (
      w,
      keeps,
      tt,
      placed seats ((n + 1) % 18446744073709551616) s.words (set s.views seat w) holds.placed
          (subst (λ (m : ℕ). IsCount seats m (set s.views seat w)) (sym (no_wrap seats n s.views is)) (claimed_more seats n s.views seat v one few is at)),
      (
        refl,
        record {
          above = below_next seats n s.views seat v is at;
          alone = λ whole. sym (many_alone seats n s.views seat v is at (whole ∙ knows));
        },
      ),
    )
