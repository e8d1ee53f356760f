-- The end of the mailboxes: what their seats have done, and what is left in the slots.
use Rattle.std.specs.Prelude.{◌≡◌, ℕ, ◌+◌, Bool, true, List, ◌++◌, take, Some, sum_by}
use Rattle.std.specs.List.{AllByRecursion, flat_map}
use Rattle.std.specs.Global.{Vec}
use Rattle.yew_laws.specs.Bag.{SameBag, PartOfBag}
use Rattle.yew_mail.specs.Seats.{MailId, SeatView}

-- the tasks in these slots
abbrev pub tasks_in : {T : Type 0} → List (Vec T) → List T
tasks_in slots = flat_map (λ slot. slot.items) slots

module _ {T Q : Type 0} where
  -- what these seats gave
  abbrev pub given_by : List (SeatView T Q) → List T
  given_by seats = flat_map (λ seat. seat.given) seats

  -- what they got
  abbrev pub got_by : List (SeatView T Q) → List T
  got_by seats = flat_map (λ seat. seat.got) seats

  -- all these seats are made for this members
  abbrev pub AreFor : Q → List (SeatView T Q) → Type 0
  AreFor members seats = AllByRecursion (λ seat. seat.members ≡ Some members) seats

  -- what is left of all seats' gifts was appended: with what they got, it is the bag of what they gave
  pub record IsLeft (sound : Q → T → Type 0) (seats : List (SeatView T Q)) (before after : List T) : Type 0 where
    pub rest : List T
    pub appended : after ≡ before ++ rest
    pub bag : SameBag (got_by seats ++ rest) (given_by seats)
    pub are_sound : (members : Q) → AreFor members seats → AllByRecursion (sound members) rest

  -- some of it was appended
  pub record IsPartLeft (sound : Q → T → Type 0) (seats : List (SeatView T Q)) (before after : List T) : Type 0 where
    pub rest : List T
    pub appended : after ≡ before ++ rest
    pub bag : PartOfBag (got_by seats ++ rest) (given_by seats)
    pub are_sound : (members : Q) → AreFor members seats → AllByRecursion (sound members) rest

  -- one seat has taken in all of these seats but the rest
  pub record IsGathering (mail : MailId) (all rest : List (SeatView T Q)) (seat : SeatView T Q) : Type 0 where
    pub same : AllByRecursion (λ other. other.mail ≡ mail) rest
    pub mine : seat.mail ≡ mail
    pub shares : seat.share + sum_by (λ other. other.share) rest ≡ sum_by (λ other. other.share) all
    pub given : (h : T → ℕ) → sum_by h seat.given + sum_by (λ other. sum_by h other.given) rest ≡ sum_by (λ other. sum_by h other.given) all
    pub got : (h : T → ℕ) → sum_by h seat.got + sum_by (λ other. sum_by h other.got) rest ≡ sum_by (λ other. sum_by h other.got) all
    pub made_for : (members : Q) → AreFor members all → (seat.members ≡ Some members) × AreFor members rest

-- the slots before this one were taken, and what the first of them had was appended: what all had, as long as memory lasted
pub record IsEmptying {T : Type 0} (slots : List (Vec T)) (before : List T) (next : ℕ) (lasts : Bool) (after : List T) : Type 0 where
  pub count : ℕ
  pub appended : after ≡ before ++ tasks_in (take count slots)
  pub all : lasts ≡ true → count ≡ next
