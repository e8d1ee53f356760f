-- The first seat is told the members of the tree, and from then on the rule holds for these.
use Rattle.std.proofs.Common.{◌≡◌, ◌≢◌, ℕ, ◌-◌, ◌<◌, List, [], ◌∷◌, set, refl, sym, ap, subst, ⊎_elim, arith}
use Rattle.std.specs.Prelude.{sum_by, Some}
use Rattle.std.proofs.lemmas.List.Sums.{sum_by-cons}
use mathlib.Core.Option.{Option, some}
use lib.ListN.{get_elem?}
use Rattle.std.specs.Global.{Vec}
use Rattle.atomic_table.specs.Table.{State, Me, keeps, Allows}
use Rattle.yew_laws.proofs.Views.{at_set, total_set, total_alone, one_part, two_parts}
use Rattle.yew_mail.specs.declared.boxes.Seen.{Seen}
use Rattle.yew_mail.specs.declared.view.Known.{Known}
use Rattle.yew_mail.specs.Tasks.{Told, AreSoundFor}
use Rattle.yew_mail.specs.Views.{started, has_learnt}
use Rattle.yew_mail.specs.Rule.{weigh_home, slot, holds_slot, Fits, IsMail, Keeps}
use Rattle.yew_mail.proofs.Changing.{says_same}

weightless : {T : Type 0} (tasks : List T) → sum_by (λ _. 1) tasks ≡ 0 → tasks ≡ []
weightless {T} [] none = refl
weightless {T} (x ∷ tasks) none = let a = sum_by-cons (λ (y : T). 1) x tasks in absurd (omega (arith, a, none))

module _ {T Q : Type 0} (sound : Q → T → Type 0) (workers seat : ℕ) (boxes : ℕ → Seen) (homes : List (Option (Vec T))) (views : List (Known T Q))
    (told : Told Q) (some_worker : 0 < workers) (is : IsMail sound told workers boxes homes views) (at : get_elem? views seat ≡ some (started workers)) where
  abbrev first : Known T Q
  first = started workers

  others_none : (j : ℕ) (u : Known T Q) → j ≢ seat → get_elem? views j ≡ some u → u.share ≡ 0
  others_none j u ne e = let t = two_parts (λ (w : Known T Q). w.share) views seat j first u ne at e in let s = is.shares in omega (arith, t, s)

  -- nothing was given so far, so no slot has tasks
  nothing_in : (k : ℕ) (x : Vec T) → slot homes k ≡ some (some x) → x.items ≡ []
  nothing_in k x e =
      let given = total_alone (λ (u : Known T Q). sum_by (λ _. 1) u.given) views seat first at
      (λ j u ne to. ap (λ (w : Known T Q). sum_by (λ _. 1) w.given) ((is.each j u to).idle (others_none j u ne to))) in
      let part = one_part (weigh_home (λ _. 1)) homes (k - 1) (some x) e in let bag = is.bag (λ _. 1) in
      weightless x.items (omega (arith, given, part, bag))

  learnt_rule : (members : Q) → IsMail sound (Some members) workers boxes homes (set views seat (has_learnt first members))
  learnt_rule members =
      let w = has_learnt first members in let was = is.each seat first at in record {
        shares = (let t = total_set (λ (u : Known T Q). u.share) views seat first w at in let s = is.shares in omega (arith, t, s));
        numbers = λ h. (let t = total_set (λ (u : Known T Q). sum_by h u.numbers) views seat first w at in let s = is.numbers h in omega (arith, t, s));
        bag = λ h. (let t = total_set (λ (u : Known T Q). sum_by h u.given) views seat first w at in
            let s = total_set (λ (u : Known T Q). sum_by h u.got) views seat first w at in let e = is.bag h in omega (arith, t, s, e));
        slots = is.slots;
        out = λ k worker. (let t = total_set (holds_slot k) views seat first w at in let e = is.out k worker in omega (arith, t, e));
        at_home = λ k x worker e. ((is.at_home k x worker e).0, subst (λ l. AreSoundFor sound (Some members) l) (sym (nothing_in k x e)) (λ _ _. tt));
        named = is.named;
        each = λ j u e. ⊎_elim (λ (t : (j ≡ seat) × (w ≡ u)). subst (λ (k : Known T Q). Fits (Some members) workers boxes k) t.1 record {
          whole = λ share. ((was.whole share).0, refl);
          idle = λ none. absurd (omega (arith, some_worker, none));
          counted = was.counted;
          stands = λ share. record { own_box = (was.stands share).own_box; ask_is = (was.stands share).ask_is };
        }) (λ (t : (j ≢ seat) × (get_elem? views j ≡ some u)). let f = is.each j u t.1 in let none = others_none j u t.0 t.1 in record {
          whole = λ share. absurd (omega (arith, share, none));
          idle = f.idle;
          counted = f.counted;
          stands = f.stands;
        }) (at_set views seat j w u e);
      }

module _ {T Q : Type 0} (sound : Q → T → Type 0) where
  -- the load by which the first seat is told
  pub learns : (members : Q) (workers slots seat : ℕ) (me : Me (Vec T) (Known T Q)) → 0 < workers → me.0 ≡ started workers
      → Allows (λ (s : State (Vec T) (Known T Q)). Keeps sound workers s.words s.homes s.views) slots seat me 0 (λ n. n)
      (λ _ after. after ≡ (has_learnt me.0 members, me.1))
  learns members workers slots seat me some_worker e s (told, boxes, says, is) count at small = (
    has_learnt me.0 members,
    keeps,
    tt,
    (
      Some members,
      boxes,
      says_same workers s.words boxes 0 says,
      subst (λ (v : Known T Q). IsMail sound (Some members) workers boxes s.homes (set s.views seat (has_learnt v members))) (sym e)
          (learnt_rule sound workers seat boxes s.homes s.views told some_worker is
          (subst (λ (v : Known T Q). get_elem? s.views seat ≡ some v) e at) members),
    ),
    refl,
  )
