-- Splitting a seat of the claims and joining two keep the rule, and what the last counter says of the whole seat.
use Rattle.std.proofs.Common.{◌≡◌, ℕ, ◌+◌, ◌<◌, ◌≢◌, ◌∙◌, List, [], ◌∷◌, ◌++◌, length, set, sym, ap, subst, ⊎_elim, arith, slice_index, zero, suc}
use Rattle.std.specs.Prelude.{◌==◌, if◌then◌else◌}
use Rattle.std.proofs.Math.ListN.{length-append}
use Rattle.std.proofs.lemmas.List.Sums.{sum_by-append}
use mathlib.Core.Option.{some, some-injective, some-ne-none}
use lib.ListN.{get_elem?}
use Rattle.atomic_table.specs.Table.{State, Splits, Joins, Final, Seen}
use Rattle.yew_laws.proofs.Views.{at_set, at_snoc, set_else, total_split, total_join}
use Rattle.yew_ranked.specs.declared.claim_view.ClaimView.{ClaimView}
use Rattle.yew_ranked.specs.ClaimViews.{view_of, left_of, right_of, both_of}
use Rattle.yew_ranked.specs.ClaimSeats.{times, AreBelow}
use Rattle.yew_ranked.specs.ClaimRule.{Fits, IsCount, Keeps}
use Rattle.yew_ranked.proofs.Claiming.{many_alone, once_alone}

-- a seat that has claimed nothing is split in two
split_rule : (seats n : ℕ) (views : List ClaimView) (seat : ℕ) (v : ClaimView) → 1 < v.share → v.claimed ≡ [] → IsCount seats n views → get_elem? views seat ≡ some v
    → IsCount seats n (set views seat (left_of v) ++ right_of v ∷ [])
split_rule seats n views seat v two none is at =
    let w = left_of v in let x = right_of v in
    let middle = set views seat w in
    let empty : length v.claimed ≡ 0 = ap length none in
    let zero_times : (y : ℕ) → times y v.claimed ≡ 0 = λ y. ap (times y) none in
    let has : v.seats ≡ seats = (is.each seat v at).whole (omega arith) in
    let left : Fits seats w = record { whole = λ _. has; few = omega arith } in
    let right : Fits seats x = record { whole = λ _. has; few = omega arith } in
    record {
      few_seats = is.few_seats;
      shares = (let t = total_split (λ (u : ClaimView). u.share) views seat v w x at in let e = is.shares in omega (arith, t, e));
      many = (let t = total_split (λ (u : ClaimView). length u.claimed) views seat v w x at in let e = is.many in omega (arith, t, e, empty));
      once = λ y. (let t = total_split (λ (u : ClaimView). times y u.claimed) views seat v w x at in let e = is.once y in let z = zero_times y in omega (arith, t, e, z));
      each = λ j u e. ⊎_elim (λ (t : get_elem? middle j ≡ some u). ⊎_elim (λ (h : (j ≡ seat) × (w ≡ u)). subst (Fits seats) h.1 left)
          (λ (h : (j ≢ seat) × (get_elem? views j ≡ some u)). is.each j u h.1) (at_set views seat j w u t))
          (λ (t : x ≡ u). subst (Fits seats) t right) (at_snoc middle x u j e);
    }

-- a seat takes in another, which is left with nothing
join_rule : (seats n : ℕ) (views : List ClaimView) (seat other : ℕ) (v w : ClaimView) → 0 < v.share → IsCount seats n views → get_elem? views seat ≡ some v → other ≢ seat
    → get_elem? (set views seat (both_of v w)) other ≡ some w → IsCount seats n (set (set views seat (both_of v w)) other (view_of 0 0 []))
join_rule seats n views seat other v w some_share is at apart to' =
    let b = both_of v w in let z = view_of 0 0 [] in
    let middle = set views seat b in
    let to : get_elem? views other ≡ some w = sym (set_else views seat other b apart) ∙ to' in
    let old_v = is.each seat v at in let old_w = is.each other w to in
    let longer : length b.claimed ≡ length v.claimed + length w.claimed = length-append v.claimed w.claimed in
    let both : Fits seats b = record { whole = λ _. old_v.whole some_share; few = (let f = old_v.few in let g = old_w.few in omega (arith, f, g, longer)) } in
    let spent : Fits seats z = record { whole = λ (h : 0 < 0). absurd (omega arith); few = omega arith } in
    record {
      few_seats = is.few_seats;
      shares = (let t = total_join (λ (u : ClaimView). u.share) views seat other v w b z at to' in let e = is.shares in omega (arith, t, e));
      many = (let t = total_join (λ (u : ClaimView). length u.claimed) views seat other v w b z at to' in let e = is.many in omega (arith, t, e, longer));
      once = λ y. (let t = total_join (λ (u : ClaimView). times y u.claimed) views seat other v w b z at to' in let e = is.once y in
          let p = sum_by-append (λ k. if k == y then 1 else 0) v.claimed w.claimed in omega (arith, t, e, p));
      each = λ j u e. ⊎_elim (λ (h : (j ≡ other) × (z ≡ u)). subst (Fits seats) h.1 spent)
          (λ (h : (j ≢ other) × (get_elem? middle j ≡ some u)). ⊎_elim (λ (g : (j ≡ seat) × (b ≡ u)). subst (Fits seats) g.1 both)
          (λ (g : (j ≢ seat) × (get_elem? views j ≡ some u)). is.each j u g.1) (at_set views seat j b u h.1)) (at_set middle other j z u e);
    }

pub splits : {S : Type 0} (seats seat : ℕ) (v : ClaimView) → 1 < v.share → v.claimed ≡ [] → Splits {S = S} (λ (s : State S ClaimView). Keeps seats s.words s.views) seat v (left_of v) (right_of v)
splits seats seat v two none s holds at = record { placed = holds.placed; count = split_rule seats (slice_index s.words 16) s.views seat v two none holds.count at }

pub joins : {S : Type 0} (seats seat other : ℕ) (v w : ClaimView) → 0 < v.share → Joins {S = S} (λ (s : State S ClaimView). Keeps seats s.words s.views) seat v other w (both_of v w) (view_of 0 0 [])
joins seats seat other v w some_share s holds at apart to = record { placed = holds.placed; count = join_rule seats (slice_index s.words 16) s.views seat other v w some_share holds.count at apart to }

index_is : (words : List ℕ) (i n : ℕ) → get_elem? words i ≡ some n → slice_index words i ≡ n
index_is [] i n e = absurd (some-ne-none n (sym e))
index_is (x ∷ xs) zero n e = some-injective x n e
index_is (x ∷ xs) (suc i) n e = index_is xs i n e

-- the seat with the whole share has claimed the numbers below the last counter
pub closes : {S : Type 0} (seats seat word : ℕ) (v : ClaimView) (words : List ℕ) (slots : List S) → v.share ≡ seats
    → Final (Seen (λ (s : State S ClaimView). Keeps seats s.words s.views) seat v) words slots → get_elem? words 16 ≡ some word → AreBelow word v.claimed
closes seats seat word v words slots whole last at =
    let s = last.0 in let is = last.1.0.count in let there = last.1.1 in let n = slice_index s.words 16 in
    let is_word : n ≡ word = ap (λ (l : List ℕ). slice_index l 16) last.2 ∙ index_is words 16 word at in
    subst (λ (m : ℕ). AreBelow m v.claimed) is_word record {
      many = many_alone seats n s.views seat v is there whole;
      once = once_alone seats n s.views seat v is there whole;
    }
