-- What the calls of a handing outlet keep, one after another.
use Rattle.std.proofs.Common.{◌≡◌, ℕ, ◌++◌, ◌∙◌, List, [], ◌∷◌, Bool, refl, sym, ap, append-nil, append_assoc, arith}
use Rattle.yew_laws.specs.Tasks.{Members}
use Rattle.yew_laws.specs.declared.problem.Task.{Task}
use Rattle.yew_mail.specs.Seats.{SeatView}
use Rattle.yew_mail.specs.Views.{first_of, found}
use Rattle.yew_mail.specs.declared.boxes.Seen.{Seen}
use Rattle.yew_mail.specs.declared.view.Call.TheVariants.{Look}
use Rattle.yew_crew.specs.Looks.{is_shut, NeverShutTwice}
use Rattle.yew_crew.specs.Outlets.{HandingView, KeepsHanding, IsLaterHanding, looks_at, ends_shut}
use Rattle.yew_crew.specs.OutletLaws.{made_none, made_twice}

pub looks_at-append : (number : ℕ) (xs ys : List Seen) → looks_at number (xs ++ ys) ≡ looks_at number xs ++ looks_at number ys
looks_at-append number [] ys = refl
looks_at-append number (x ∷ xs) ys = ap (λ l. found Look number x ∷ l) (looks_at-append number xs ys)

pub ends_shut-append : (shut : Bool) (xs ys : List Seen) → ends_shut shut (xs ++ ys) ≡ ends_shut (ends_shut shut xs) ys
ends_shut-append shut [] ys = refl
ends_shut-append shut (x ∷ xs) ys = ends_shut-append (is_shut x) xs ys

pub never-append : (shut : Bool) (xs ys : List Seen) → NeverShutTwice shut xs → NeverShutTwice (ends_shut shut xs) ys → NeverShutTwice shut (xs ++ ys)
never-append shut [] ys a b = b
never-append shut (x ∷ xs) ys a b = (a.0, never-append (is_shut x) xs ys a.1 b)

module _ {P N : Type 0} where
  pub keeps_handing_same : (a : HandingView P N) → KeepsHanding a a
  keeps_handing_same a = record { problem = refl; seat = refl; tasks = made_none a.tasks }

  pub keeps_handing_twice : (a b c : HandingView P N) → KeepsHanding a b → KeepsHanding b c → KeepsHanding a c
  keeps_handing_twice a b c p q = record {
    problem = q.problem ∙ p.problem;
    seat = q.seat ∙ ap (λ (x : SeatView (Task N) (Members N)). record x { given = c.seat.given; found = c.seat.found; own = c.seat.own }) p.seat;
    tasks = made_twice a.tasks b.tasks c.tasks p.tasks q.tasks;
  }

  pub later_handing_same : (a : HandingView P N) → IsLaterHanding a a
  later_handing_same a = record { made = refl; numbers = refl; looks = []; found_are = sym (append-nil a.seat.found); opened = λ shut waits. (tt, waits) }

  pub later_handing_twice : (a b c : HandingView P N) → IsLaterHanding a b → IsLaterHanding b c → IsLaterHanding a c
  later_handing_twice a b c p q = record {
    made = (let e = p.made in let f = q.made in omega arith);
    numbers = q.numbers ∙ p.numbers;
    looks = p.looks ++ q.looks;
    found_are =
        let number = first_of a.seat.numbers in
        q.found_are ∙ (ap (λ l. l ++ looks_at (first_of b.seat.numbers) q.looks) p.found_are
        ∙ (ap (λ ns. (a.seat.found ++ looks_at number p.looks) ++ looks_at (first_of ns) q.looks) p.numbers
        ∙ (append_assoc a.seat.found (looks_at number p.looks) (looks_at number q.looks)
        ∙ ap (λ l. a.seat.found ++ l) (sym (looks_at-append number p.looks q.looks)))));
    opened = λ shut waits.
        let first = p.opened shut waits in
        let then = q.opened (ends_shut shut p.looks) first.1 in
        (never-append shut p.looks q.looks first.0 then.0, λ e. then.1 (sym (ends_shut-append shut p.looks q.looks) ∙ e));
  }
