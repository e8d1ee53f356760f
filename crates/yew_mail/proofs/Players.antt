-- The workers of tests: their seats are taken from a list one after another, and put into another.
use Rattle.std.proofs.Common.{◌≡◌, ℕ, ◌+◌, ◌-◌, ◌<◌, ◌≤◌, ◌∙◌, List, [], ◌∷◌, ◌++◌, length, map, get_or, refl, sym, ap, subst, arith, zero, suc}
use Rattle.std.specs.Prelude.{◌^◌, All, sum_by, None, Some, remove}
use Rattle.std.specs.List.{AllByRecursion}
use Rattle.std.proofs.lemmas.List.{length-append}
use Rattle.std.proofs.lemmas.List.Sums.{sum_by-cons}
use Rattle.std.proofs.lemmas.List.Elements.{All-from_recursion, recursion_from_All, All-push}
use Rattle.yew_laws.specs.Tasks.{IsAmong}
use Rattle.yew_laws.specs.Tree.{node_at}
use Rattle.yew_laws.specs.declared.problem.Task.{Task}
use Rattle.yew_laws.proofs.TaskMembers.{task-among}
use Rattle.yew_mail.specs.Star.{children_of, star_tree, star_members, star-ranked, leaf_found}
use Rattle.yew_mail.specs.Seats.{MailId, SeatView, new_seat}
use Rattle.yew_mail.specs.Views.{counted_from}
use Rattle.yew_mail.specs.Players.{IsSeatOf}
use Rattle.yew_laws.proofs.Members.{AllByRecursion-append}
use Rattle.yew_mail.proofs.Gathering.{all_parts}

module _ {X : Type 0} where
  pub all_popped : (all rest : List X) (x : X) (P : X → Type 0) → all ≡ rest ++ x ∷ [] → All P all → All P rest × P x
  all_popped all rest x P is each =
      let parts = all_parts P rest (x ∷ []) (recursion_from_All P (rest ++ x ∷ []) (subst (All P) is each)) in
      (All-from_recursion P rest parts.0, parts.1.0)

  pub all_pushed : (before after : List X) (x : X) (P : X → Type 0) → after ≡ before ++ x ∷ [] → All P before → P x → All P after
  all_pushed before after x P is each here = subst (All P) (sym is) (All-push P before x each here)

  pub one_more : (before after : List X) (x : X) (n : ℕ) → after ≡ before ++ x ∷ [] → length before ≡ n → length after ≡ n + 1
  one_more before after x n is count = let a = ap (λ (l : List X). length l) is in let b = length-append before (x ∷ []) in omega (arith, a, b, count)

  pub one_moved : {Y : Type 0} (all rest : List X) (x : X) (before after : List Y) (y : Y) (n : ℕ) → all ≡ rest ++ x ∷ [] → after ≡ before ++ y ∷ []
      → length before + length all ≡ n → length after + length rest ≡ n
  one_moved {Y} all rest x before after y n off on count =
      let a = ap (λ (l : List X). length l) off in let b = length-append rest (x ∷ []) in
      let d = ap (λ (l : List Y). length l) on in let e = length-append before (y ∷ []) in omega (arith, a, b, d, e, count)

  -- the first of a row
  pub next_of : (f : ℕ → X) (k count : ℕ) (all : List X) → all ≡ map f (counted_from k count) → 0 < count → all ≡ f k ∷ map f (counted_from (k + 1) (count - 1))
  next_of f k zero all is some = absurd (omega arith)
  next_of f k (suc count) all is some =
      let a : suc k ≡ k + 1 = omega arith in let b : count ≡ suc count - 1 = omega arith in
      is ∙ ap (λ j. f k ∷ map f (counted_from j count)) a ∙ ap (λ n. f k ∷ map f (counted_from (k + 1) n)) b

  pub some_there : (all rest : List X) (x : X) → all ≡ x ∷ rest → 0 < length all
  some_there all rest x is = let a = ap (λ (l : List X). length l) is in omega (arith, a)

  pub first_taken : (all rest : List X) (x y : X) → all ≡ x ∷ rest → y ≡ get_or all 0 y → y ≡ x
  first_taken all rest x y is e = e ∙ ap (λ (l : List X). get_or l 0 y) is

  pub rest_left : (all rest after : List X) (x : X) → all ≡ x ∷ rest → after ≡ remove all 0 → after ≡ rest
  rest_left all rest after x is e = e ∙ ap (λ (l : List X). remove l 0) is

module _ {T Q : Type 0} where
  pub new_is_seat : (mail : MailId) (members : Q) (number : ℕ) (seat : SeatView T Q) → seat ≡ new_seat mail members number → 0 < number
      → number ≤ mail.workers → IsSeatOf mail members number None seat
  new_is_seat mail members number seat is above within = subst (IsSeatOf mail members number None) (sym is) record {
    same_mail = refl;
    share = refl;
    made_for = refl;
    own = refl;
    above = above;
    within = within;
    asking = refl;
  }

  -- seats with a share of 1 have together as much as they are
  whole_of : (mail : MailId) (seats : List (SeatView T Q)) → AllByRecursion (λ (s : SeatView T Q). (s.mail ≡ mail) × (s.share ≡ 1)) seats
      → sum_by (λ (s : SeatView T Q). s.share) seats ≡ length seats
  whole_of mail [] each = refl
  whole_of mail (s ∷ seats) each =
      let a = sum_by-cons (λ (t : SeatView T Q). t.share) s seats in let b = each.0.1 in let r = whole_of mail seats each.1 in omega (arith, a, b, r)

  pub whole_share : (mail : MailId) (seats : List (SeatView T Q)) → All (λ (s : SeatView T Q). (s.mail ≡ mail) × (s.share ≡ 1)) seats
      → sum_by (λ (s : SeatView T Q). s.share) seats ≡ length seats
  whole_share mail seats each = whole_of mail seats (recursion_from_All (λ (s : SeatView T Q). (s.mail ≡ mail) × (s.share ≡ 1)) seats each)

-- the members of two lists together
pub both_lists : {X : Type 0} (xs ys all : List X) (n m : ℕ) (P : X → Type 0) → all ≡ xs ++ ys → All P xs × (length xs ≡ n) → All P ys × (length ys ≡ m)
    → All P all × (length all ≡ n + m)
both_lists {X} xs ys all n m P is left right =
    let a = ap (λ (l : List X). length l) is in let b = length-append xs ys in let c = left.1 in let d = right.1 in (
      subst (All P) (sym is) (All-from_recursion P (xs ++ ys)
          (AllByRecursion-append P xs ys (recursion_from_All P xs left.0) (recursion_from_All P ys right.0))),
      omega (arith, a, b, c, d),
    )

-- the task of a child of the root
pub leaf_among : (leaves k : ℕ) (task : Task ℕ) → leaves + 1 < 2 ^ 32 → k < leaves → task.path.numbers ≡ k ∷ [] → task.node ≡ k + 1
    → IsAmong (star_members leaves) task
leaf_among leaves k task few low path node = task-among (star_tree leaves) (star-ranked leaves) (few, omega arith) task
    (ap (λ (p : List ℕ). node_at (children_of leaves) 0 p) path ∙ leaf_found leaves k low ∙ ap Some (sym node))
