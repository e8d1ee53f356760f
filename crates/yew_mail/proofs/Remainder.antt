-- What the last state says of the seat that has the whole share, and of what is left in the slots.
use Rattle.std.proofs.Common.{◌≡◌, ◌≢◌, ℕ, ◌+◌, ◌-◌, ◌<◌, ◌∙◌, List, [], ◌∷◌, ◌++◌, length, take, drop, refl, sym, ap, subst, arith, suc}
use Rattle.std.specs.Prelude.{sum_by, Some, Result, Ok, Err, OnOk, OnErr}
use Rattle.std.specs.List.{AllByRecursion}
use Rattle.std.proofs.lemmas.List.{take-append-drop}
use Rattle.std.proofs.lemmas.List.Sums.{sum_by-cons, sum_by-append}
use Rattle.std.proofs.lemmas.Grind.{flat_map-append}
use mathlib.Core.Option.{Option, some, some-injective}
use lib.ListN.{get_elem?}
use Rattle.std.specs.Global.{Vec}
use Rattle.atomic_table.specs.Seated.{TableId}
use Rattle.atomic_table.specs.Table.{State, Final, Seen}
use Rattle.yew_laws.proofs.Bags.{sum_by-flat_map}
use Rattle.yew_laws.proofs.Views.{two_parts, total_alone, within}
use Rattle.yew_mail.specs.declared.view.Known.{Known}
use Rattle.yew_mail.specs.Tasks.{Told, AreSoundFor}
use Rattle.yew_mail.specs.Rule.{weigh_home, Keeps, Rests}
use Rattle.yew_mail.specs.Seats.{MailId, SeatView, seat_view}
use Rattle.yew_mail.specs.Closing.{tasks_in, given_by, got_by, AreFor, IsLeft, IsPartLeft, IsGathering}
use Rattle.yew_mail.proofs.Slots.{nobody_holds, slot_home}
use Rattle.yew_mail.proofs.Gathering.{all_parts}

module _ {T : Type 0} where
  -- slots that are all at home weigh what their values weigh
  homes_are : (h : T → ℕ) (homes : List (Option (Vec T))) (slots : List (Vec T)) → length homes ≡ length slots
      → ((i : ℕ) → i < length homes → (x : Vec T) × (get_elem? homes i ≡ some (some x)) × (get_elem? slots i ≡ some x))
      → sum_by (weigh_home h) homes ≡ sum_by (λ (x : Vec T). sum_by h x.items) slots
  homes_are h [] [] same there = refl
  homes_are h [] (y ∷ slots) same there = absurd (omega arith)
  homes_are h (o ∷ homes) [] same there = absurd (omega arith)
  homes_are h (o ∷ homes) (y ∷ slots) same there =
      let first = there 0 (omega arith) in
      let a = sum_by-cons (weigh_home h) o homes in let b = sum_by-cons (λ (x : Vec T). sum_by h x.items) y slots in
      let c = ap (weigh_home h) (some-injective o (some first.0) first.1) in let d = ap (λ (x : Vec T). sum_by h x.items) (some-injective y first.0 first.2) in
      let r = homes_are h homes slots (omega (arith, same)) (λ i low. there (suc i) (omega (arith, low))) in omega (arith, a, b, c, d, r)

  -- a fact of the tasks in each slot
  all_in : (P : T → Type 0) (slots : List (Vec T)) → ((i : ℕ) (x : Vec T) → get_elem? slots i ≡ some x → AllByRecursion P x.items)
      → AllByRecursion P (tasks_in slots)
  all_in P [] each = tt
  all_in P (y ∷ slots) each = joined y.items (tasks_in slots) (each 0 y refl) (all_in P slots (λ i x e. each (suc i) x e))
    where
      joined : (xs ys : List T) → AllByRecursion P xs → AllByRecursion P ys → AllByRecursion P (xs ++ ys)
      joined [] ys a b = b
      joined (x ∷ xs) ys a b = (a.0, joined xs ys a.1 b)

-- what the rule says at the end, where one seat has the whole share: what it gave is, as a bag, what it got and what the slots have, all sound
pub record IsSettled {T Q : Type 0} (sound : Q → T → Type 0) (members : Told Q) (v : Known T Q) (slots : List (Vec T)) : Type 0 where
  pub bag : (h : T → ℕ) → sum_by h v.given ≡ sum_by h v.got + sum_by (λ (x : Vec T). sum_by h x.items) slots
  pub made_for : v.members ≡ members
  pub are_sound : AreSoundFor sound members (tasks_in slots)

module _ {T Q : Type 0} (sound : Q → T → Type 0) where
  pub settles : (workers seat : ℕ) (v : Known T Q) (words : List ℕ) (slots : List (Vec T)) → 0 < workers → v.share ≡ workers → Rests v
      → (last : Final (Seen (λ (s : State (Vec T) (Known T Q)). Keeps sound workers s.words s.homes s.views) seat v) words slots)
      → IsSettled sound last.1.0.0 v slots
  settles workers seat v words slots some_worker whole rests last = record {
    bag = λ h.
        (let given = total_alone (λ (u : Known T Q). sum_by h u.given) last.0.views seat v last.1.1
        (λ j u ne e. ap (λ (w : Known T Q). sum_by h w.given) ((last.1.0.3.each j u e).idle (none_left j u ne e))) in
        let got = total_alone (λ (u : Known T Q). sum_by h u.got) last.0.views seat v last.1.1
        (λ j u ne e. ap (λ (w : Known T Q). sum_by h w.got) ((last.1.0.3.each j u e).idle (none_left j u ne e))) in
        let bag = last.1.0.3.bag h in
        let homes = homes_are h last.0.homes slots last.3 (λ i low. (let x = there i low in (x.0, x.1, last.4 i x.0 x.1))) in
        omega (arith, given, got, bag, homes));
    made_for = ((last.1.0.3.each seat v last.1.1).whole (omega (arith, some_worker, whole))).1;
    are_sound = λ all told. all_in (sound all) slots
        (λ i x e. good i x e (there i (let w = within slots i x e in let n = last.3 in omega (arith, w, n))) all told);
  }
    where
      none_left : (j : ℕ) (u : Known T Q) → j ≢ seat → get_elem? last.0.views j ≡ some u → u.share ≡ 0
      none_left j u ne e = let t = two_parts (λ (w : Known T Q). w.share) last.0.views seat j v u ne last.1.1 e in let s = last.1.0.3.shares in
          omega (arith, t, s, whole)

      there : (i : ℕ) → i < length last.0.homes → (x : Vec T) × (get_elem? last.0.homes i ≡ some (some x))
      there i low =
          let count = last.1.0.3.slots in
          let e : i + 1 - 1 ≡ i = omega arith in
          let none_out = nobody_holds sound last.1.0.0 workers last.1.0.1 last.0.homes last.0.views seat (i + 1) v last.1.0.3 last.1.1 rests
          (λ j u ne to some_u _. let n = none_left j u ne to in absurd (omega (arith, n, some_u))) in
          let home = slot_home sound last.1.0.0 workers last.1.0.1 last.0.homes last.0.views (i + 1) last.1.0.3
          (omega arith, omega (arith, low, count)) none_out in
          (home.0, subst (λ m. get_elem? last.0.homes m ≡ some (some home.0)) e home.1)

      good : (i : ℕ) (x : Vec T) → get_elem? slots i ≡ some x → (y : Vec T) × (get_elem? last.0.homes i ≡ some (some y))
          → AreSoundFor sound last.1.0.0 x.items
      good i x e home =
          let count = last.1.0.3.slots in let long = last.3 in let low = within slots i x e in
          let n : i + 1 - 1 ≡ i = omega arith in
          let at = last.1.0.3.at_home (i + 1) home.0 (omega arith, omega (arith, low, count, long))
          (subst (λ m. get_elem? last.0.homes m ≡ some (some home.0)) (sym n) home.1) in
          let same : home.0 ≡ x = some-injective home.0 x (sym (last.4 i home.0 home.1) ∙ e) in
          subst (λ (z : Vec T). AreSoundFor sound last.1.0.0 z.items) same at.1

  -- the seat that took in all others, in the words of the contracts
  bags : (mail : MailId) (mine : TableId) (members : Told Q) (v : Known T Q) (all : List (SeatView T Q)) (seat : SeatView T Q) (slots : List (Vec T))
      → seat_view mine v ≡ seat → IsGathering mail all [] seat → IsSettled sound members v slots
      → (h : T → ℕ) → sum_by h (given_by all) ≡ sum_by h (got_by all) + sum_by h (tasks_in slots)
  bags mail mine members v all seat slots view gathered settled h =
      let a = gathered.given h in let b = gathered.got h in let c = settled.bag h in
      let d = ap (λ (s : SeatView T Q). sum_by h s.given) view in let e = ap (λ (s : SeatView T Q). sum_by h s.got) view in
      let f = sum_by-flat_map h (λ (s : SeatView T Q). s.given) all in let g = sum_by-flat_map h (λ (s : SeatView T Q). s.got) all in
      let t = sum_by-flat_map h (λ (x : Vec T). x.items) slots in omega (arith, a, b, c, d, e, f, g, t)

  told_by : (mail : MailId) (mine : TableId) (told : Told Q) (members : Q) (v : Known T Q) (all : List (SeatView T Q)) (seat : SeatView T Q)
      → seat_view mine v ≡ seat → IsGathering mail all [] seat → v.members ≡ told → AreFor members all → told ≡ Some members
  told_by mail mine told members v all seat view gathered made_for are =
      sym made_for ∙ ap (λ (s : SeatView T Q). s.members) view ∙ (gathered.made_for members are).0

  -- all of it was appended
  pub all_left : (mail : MailId) (mine : TableId) (members : Told Q) (v : Known T Q) (all : List (SeatView T Q)) (seat : SeatView T Q) (slots : List (Vec T))
      (before after : List T) → seat_view mine v ≡ seat → IsGathering mail all [] seat
      → IsSettled sound members v slots → after ≡ before ++ tasks_in slots → IsLeft sound all before after
  all_left mail mine members v all seat slots before after view gathered settled appended = record {
    rest = tasks_in slots;
    appended = appended;
    bag = record {
      weighs = λ h. (let a = sum_by-append h (got_by all) (tasks_in slots) in
          let b = bags mail mine members v all seat slots view gathered settled h in omega (arith, a, b));
    };
    are_sound = λ all_members are. settled.are_sound all_members (told_by mail mine members all_members v all seat view gathered settled.made_for are);
  }

  -- what the first slots had was appended
  pub part_left : (mail : MailId) (mine : TableId) (members : Told Q) (v : Known T Q) (all : List (SeatView T Q)) (seat : SeatView T Q) (slots : List (Vec T))
      (before after : List T) → seat_view mine v ≡ seat → IsGathering mail all [] seat
      → IsSettled sound members v slots → (count : ℕ) × (after ≡ before ++ tasks_in (take count slots)) → IsPartLeft sound all before after
  part_left mail mine members v all seat slots before after view gathered settled (count, appended) =
      let parts : tasks_in slots ≡ tasks_in (take count slots) ++ tasks_in (drop count slots) = ap (λ l. tasks_in l) (sym (take-append-drop count slots))
      ∙ flat_map-append (λ (x : Vec T). x.items) (take count slots) (drop count slots) in
      record {
        rest = tasks_in (take count slots);
        appended = appended;
        bag = record {
          weighs = λ h.
              (let a = sum_by-append h (got_by all) (tasks_in (take count slots)) in let b = bags mail mine members v all seat slots view gathered settled h in
              let c = ap (sum_by h) parts in let d = sum_by-append h (tasks_in (take count slots)) (tasks_in (drop count slots)) in omega (arith, a, b, c, d));
        };
        are_sound = λ all_members are.
            (all_parts (sound all_members) (tasks_in (take count slots)) (tasks_in (drop count slots))
            (subst (λ l. AllByRecursion (sound all_members) l) parts
            (settled.are_sound all_members (told_by mail mine members all_members v all seat view gathered settled.made_for are)))).0;
      }

-- the seat that took in all others has the whole share
pub is_whole : {T Q : Type 0} (mine of : TableId) (workers : ℕ) (v : Known T Q) (m : MailId) (all : List (SeatView T Q)) (seat : SeatView T Q)
    → seat_view mine v ≡ seat → record { table = of; workers = workers } ≡ m → IsGathering m all [] seat
    → sum_by (λ (s : SeatView T Q). s.share) all ≡ m.workers → v.share ≡ workers
is_whole {T} {Q} mine of workers v m all seat view self gathered whole =
    let a = gathered.shares in let b = ap (λ (s : SeatView T Q). s.share) view in let c = ap (λ (i : MailId). i.workers) self in omega (arith, a, b, c, whole)

pub on_ok : {X E A B : Type 0} (result : Result X E) → (A → B) → OnOk result A → OnOk result B
on_ok (Ok x) f a = f a
on_ok (Err e) f a = tt

pub on_err : {X E A B : Type 0} (result : Result X E) → (A → B) → OnErr result A → OnErr result B
on_err (Ok x) f a = tt
on_err (Err e) f a = f a
