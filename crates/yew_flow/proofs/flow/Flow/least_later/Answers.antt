use Rattle.std.proofs.Common.{◌≡◌, ◌≢◌, ℕ, zero, suc, ◌+◌, ◌%◌, ◌<◌, ◌≤◌, Bool, true, false, cond, ◌==◌, List, [], ◌∷◌, length, drop, get_or, Some, refl, ap, sym, ◌∙◌, arith}
use Rattle.std.specs.Int.{bit_at}
use Rattle.std.specs.List.{find}
use Rattle.std.proofs.lemmas.Bool.Decides.{nat_tests}
use Rattle.std.proofs.lemmas.List.{drop_more}
use Rattle.std.proofs.lemmas.Nat.Bits.{shr_and_one}
use Rattle.yew_flow.specs.Nodes.{later_table, places_by}
use Rattle.yew_flow.proofs.FirstLeast.{is_absent, found-least, found-none, length-places}
use Rattle.yew_flow.proofs.flow.Flow.least_later.Goals as goal

set_test : (b : ℕ) → b ≡ 1 → (b == 1) ≡ true
set_test b e = grind (arith, nat_tests)

clear_test : (b : ℕ) → b ≢ 1 → (b == 1) ≡ false
clear_test b e = grind (arith, nat_tests)

drop-end : (xs : List ℕ) (k : ℕ) → length xs ≤ k → drop k xs ≡ []
drop-end [] zero l = refl
drop-end [] (suc k) l = refl
drop-end (x ∷ xs) zero l = absurd (omega (arith, l))
drop-end (x ∷ xs) (suc k) l = drop-end xs k (omega (arith, l))

module _ (p : ℕ → Bool) (row : List ℕ) (rank place : ℕ) (within : rank < length row) (is : place ≡ get_or row rank 0) where
  front : find p (drop rank row) ≡ cond (p place) (Some place) (find p (drop (rank + 1) row))
  front = ap (find p) (drop_more row rank 0 within) ∙ ap (λ x. cond (p x) (Some x) (find p (drop (rank + 1) row))) (sym is)

  stops : find p (drop rank row) ≡ find p row → p place ≡ true → find p row ≡ Some place
  stops e own = sym e ∙ front ∙ ap (λ b. cond b (Some place) (find p (drop (rank + 1) row))) own

  goes_on : find p (drop rank row) ≡ find p row → p place ≡ false → find p (drop (rank + 1) row) ≡ find p row
  goes_on e own = sym (front ∙ ap (λ b. cond b (Some place) (find p (drop (rank + 1) row))) own) ∙ e

pub returns-then-absent-place-eq1 : goal.returns-then-absent-place-eq1
returns-then-absent-place-eq1 c =
    let row = places_by (later_table c.args.self.now) c.args.self.now.jobs c.args.machine in
    let place = c.ranked-place.result in
    let long = length-places (later_table c.args.self.now) c.args.self.now.jobs c.args.machine in
    let within : c.loop-rank.rank < length row = omega (arith, long) in
    let own = set_test (bit_at c.args.absent (place % 64)) (sym (shr_and_one c.args.absent (place % 64)) ∙ c.if-absent-place-eq1.true) in
    c.later.ensures
    ∙ found-least c.args.self.now c.requires.limits c.args.machine c.requires.machine.0 c.requires.machine.1 c.args.absent c.requires.absent place
    (stops (is_absent c.args.absent) row c.loop-rank.rank place within c.ranked-place.ensures c.loop-rank.invariant own)

pub loop-rank-preserved : goal.loop-rank-preserved
loop-rank-preserved c =
    let row = places_by (later_table c.args.self.now) c.args.self.now.jobs c.args.machine in
    let place = c.ranked-place.result in
    let long = length-places (later_table c.args.self.now) c.args.self.now.jobs c.args.machine in
    let within : c.loop-rank.rank < length row = omega (arith, long) in
    let own = clear_test (bit_at c.args.absent (place % 64)) (λ e. c.if-absent-place-eq1.false (shr_and_one c.args.absent (place % 64) ∙ e)) in
    goes_on (is_absent c.args.absent) row c.loop-rank.rank place within c.ranked-place.ensures c.loop-rank.invariant own

pub returns : goal.returns
returns c =
    let row = places_by (later_table c.args.self.now) c.args.self.now.jobs c.args.machine in
    let long = length-places (later_table c.args.self.now) c.args.self.now.jobs c.args.machine in
    let past : length row ≤ c.loop-rank.rank = omega (arith, long) in
    found-none c.args.self.now c.requires.limits c.args.machine c.requires.machine.0 c.requires.machine.1 c.args.absent c.requires.absent
    (sym c.loop-rank.invariant ∙ ap (find (is_absent c.args.absent)) (drop-end row c.loop-rank.rank past))
