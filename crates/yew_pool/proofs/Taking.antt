-- What a take does to a pass.
use Rattle.std.proofs.Common.{◌≡◌, ◌≢◌, ℕ, ◌+◌, ◌<◌, ◌∙◌, suc, List, [], ◌∷◌, ◌++◌, length, map, set, get_or, sym, refl, ap, subst, arith}
use Rattle.std.specs.Prelude.{Option, Some, None, IfSome, IfNone, sum_by}
use Rattle.std.proofs.lemmas.List.{get_or-set_same, get_or-set_other, get_or-map, get_or_default, set-get_or, length-map}
use Rattle.std.proofs.lemmas.List.Sums.{sum_by_push, sum_by-cons, sum_by-append, sum_by-set}
use Rattle.std.proofs.Math.Seq.{map-set_same}
use Rattle.std.proofs.Math.ListN.{length-set}
use native.Mathlib.Decide.{ℕ_discrete}
use Rattle.yew_laws.specs.Bag.{SameBag, PartOfBag}
use Rattle.yew_laws.proofs.Bags.{sum_by-flat_map}
use Rattle.yew_pool.specs.Rule.{has_taken, Balances}
use Rattle.yew_pool.specs.declared.rule.Hand.{Hand}
use Rattle.yew_pool.specs.Places.{DequeId, PlaceView, once_more}
use Rattle.yew_pool.specs.Passes.{PassView, taken_at, pass_view, IsPlaced, AreSeated, IsSeated, HasTaken}
use Rattle.yew_pool.specs.Tasks.{IsSoundFor}

module _ {T Q : Type 0} where
  abbrev pub taken : PlaceView T Q → T → PlaceView T Q
  taken place x = record { deque = place.deque; hand = has_taken place.hand x; found_empty = place.found_empty }

  abbrev pub counted : PlaceView T Q → PlaceView T Q
  counted place = record { deque = place.deque; hand = place.hand; found_empty = once_more place.found_empty }

  -- what was taken at the places, weighed
  weigh_taken : (h : T → ℕ) (places : List (PlaceView T Q)) → sum_by h (taken_at places) ≡ sum_by (λ (p : PlaceView T Q). sum_by h p.hand.took) places
  weigh_taken h places = sum_by-flat_map h (λ (p : PlaceView T Q). p.hand.took) places

  own_took : (own : PlaceView T Q) (places : List (PlaceView T Q)) (x : T)
      → SameBag ((own.hand.took ++ x ∷ []) ++ taken_at places) (x ∷ (own.hand.took ++ taken_at places))
  own_took own places x = record {
    weighs = λ h. (
        let a = sum_by-append h (own.hand.took ++ x ∷ []) (taken_at places) in
        let b = sum_by-append h own.hand.took (taken_at places) in
        let c = sum_by_push h own.hand.took x in
        let d = sum_by-cons h x (own.hand.took ++ taken_at places) in omega (arith, a, b, c, d));
  }

  popped : (number : ℕ) (own new : PlaceView T Q) (places later : List (PlaceView T Q)) (pass : PassView T Q) (x : T) → pass_view number own places ≡ pass
      → new ≡ taken own x → later ≡ places → HasTaken pass x (pass_view number new later)
  popped number own new places later pass x view step same =
      subst (λ (t : PassView T Q × PlaceView T Q × List (PlaceView T Q)). HasTaken t.0 x (pass_view number t.1 t.2))
      (λ i. (view i, sym step i, sym same i)) record { same = refl; took = own_took own places x; long = refl }

  -- the owner has popped a task, and its place is as before
  pub has_popped : (sound : Q → T → Type 0) (number : ℕ) (own new p w : PlaceView T Q) (places : List (PlaceView T Q)) (pass : PassView T Q) (r : Option T)
      → pass_view number own places ≡ pass → get_or places number p ≡ p
      → IfSome r (λ x. (new ≡ taken own x) × (w ≡ p)) → IfSome r (λ x. IsSoundFor sound own.hand.members x)
      → IfSome r (λ x. HasTaken pass x (pass_view number new (set places number w)) × IsSoundFor sound pass.members x)
  has_popped sound number own new p w places pass None view here step good = tt
  has_popped sound number own new p w places pass (Some x) view here step good = (
    popped number own new places (set places number w) pass x view step.0
        (ap (λ (t : PlaceView T Q). set places number t) (step.1 ∙ sym here) ∙ set-get_or places number p),
    λ members about. good members (ap (λ (t : PassView T Q). t.members) view ∙ about),
  )

  alone_idle : (f : PlaceView T Q → ℕ) (places : List (PlaceView T Q)) (d : PlaceView T Q) → length places ≡ 1 → f (get_or places 0 d) ≡ 0 → sum_by f places ≡ 0
  alone_idle f [] d one none = absurd (omega arith)
  alone_idle f (p ∷ []) d one none = omega (arith, none, sum_by-cons f p [])
  alone_idle f (p ∷ (q ∷ qs)) d one none = absurd (omega arith)

  -- the one pass of a pool has taken nothing at its place
  nothing_taken : (number : ℕ) (own : PlaceView T Q) (places : List (PlaceView T Q)) → AreSeated number own places → length places ≡ 1 → (h : T → ℕ)
      → sum_by h (taken_at places) ≡ 0
  nothing_taken number own places are one h =
      let first : 0 ≡ number = (let w = are.within in omega (arith, w, one)) in
      let idle = ((are.each 0 own (omega (arith, one))).idle first).1 in
      weigh_taken h places ∙ alone_idle (λ (p : PlaceView T Q). sum_by h p.hand.took) places own one (ap (λ (l : List T). sum_by h l) idle)

  length_map : (places : List (PlaceView T Q)) → length (map (λ (p : PlaceView T Q). p.deque) places) ≡ length places
  length_map [] = refl
  length_map (p ∷ ps) = ap suc (length_map ps)

  is_one : (number : ℕ) (own : PlaceView T Q) (places : List (PlaceView T Q)) (pass : PassView T Q) → pass_view number own places ≡ pass
      → length pass.pool.deques ≡ 1 → length places ≡ 1
  is_one number own places pass view one = sym (length_map places) ∙ (ap (λ (t : PassView T Q). length t.pool.deques) view ∙ one)

  -- the one pass of a pool has the whole share
  has_whole : (number : ℕ) (own : PlaceView T Q) (places : List (PlaceView T Q)) → AreSeated number own places → length places ≡ 1
      → own.hand.share ≡ own.hand.whole
  has_whole number own places are one = let a = are.share in let b = are.whole in omega (arith, a, b, one)

  none_left : (number : ℕ) (own : PlaceView T Q) (places : List (PlaceView T Q)) → AreSeated number own places → length places ≡ 1 → Balances own.hand []
      → SameBag own.hand.put (own.hand.took ++ taken_at places)
  none_left number own places are one balances = record {
    weighs = λ h. (
        let whole = balances (has_whole number own places are one) h in
        let a = sum_by-append h own.hand.took (taken_at places) in
        let n = nothing_taken number own places are one h in omega (arith, whole, a, n));
  }

  one_left : (number : ℕ) (own : PlaceView T Q) (places : List (PlaceView T Q)) (x : T) → AreSeated number own places → length places ≡ 1
      → (own.hand.share ≡ own.hand.whole → PartOfBag (own.hand.took ++ x ∷ []) own.hand.put) → PartOfBag (x ∷ (own.hand.took ++ taken_at places)) own.hand.put
  one_left number own places x are one part = record {
    weighs = λ h. (
        let whole = (part (has_whole number own places are one)).weighs h in
        let a = sum_by-append h own.hand.took (taken_at places) in
        let b = sum_by_push h own.hand.took x in
        let c = sum_by-cons h x (own.hand.took ++ taken_at places) in
        let n = nothing_taken number own places are one h in omega (arith, whole, a, b, c, n));
  }

  pub none_left_as : (number : ℕ) (own new : PlaceView T Q) (places : List (PlaceView T Q)) (pass : PassView T Q) (r : Option T)
      → pass_view number own places ≡ pass → AreSeated number own places
      → IfNone r ((new ≡ own) × Balances own.hand []) → IfNone r (length pass.pool.deques ≡ 1 → SameBag pass.put pass.took)
  none_left_as number own new places pass None view are told =
      λ one. subst (λ (t : PassView T Q). SameBag t.put t.took) view (none_left number own places are (is_one number own places pass view one) told.1)
  none_left_as number own new places pass (Some x) view are told = tt

  pub one_left_as : (number : ℕ) (own : PlaceView T Q) (places : List (PlaceView T Q)) (pass : PassView T Q) (r : Option T)
      → pass_view number own places ≡ pass → AreSeated number own places
      → IfSome r (λ x. own.hand.share ≡ own.hand.whole → PartOfBag (own.hand.took ++ x ∷ []) own.hand.put)
      → IfSome r (λ x. length pass.pool.deques ≡ 1 → PartOfBag (x ∷ pass.took) pass.put)
  one_left_as number own places pass None view are told = tt
  one_left_as number own places pass (Some x) view are told =
      λ one. subst (λ (t : PassView T Q). PartOfBag (x ∷ t.took) t.put) view (one_left number own places x are (is_one number own places pass view one) told)

  -- a place with a share has a task more, or is as it was
  seated_set : (number at : ℕ) (own : PlaceView T Q) (places : List (PlaceView T Q)) (p w : PlaceView T Q) → AreSeated number own places
      → at < length places → at ≢ number → get_or places at p ≡ p
      → w.deque ≡ p.deque → w.hand.share ≡ p.hand.share → w.hand.members ≡ p.hand.members → w.hand.put ≡ p.hand.put → AreSeated number own (set places at w)
  seated_set number at own places p w are within other is deque share members put =
      let old = subst (λ (t : PlaceView T Q). IsPlaced own.hand.members number at t) is (are.each at p within) in
      let long = length-set places at w in record {
        within = (let a = are.within in omega (arith, a, long));
        here = λ d. ap (λ (t : PlaceView T Q). t.deque) (get_or-set_other places at number w d (λ e. other (sym e))) ∙ are.here d;
        share = are.share ∙ sym long;
        whole = (let a = are.whole in omega (arith, a, long));
        shares = (let s = sum_by-set (λ (t : PlaceView T Q). t.hand.share) places at w p within in let e = ap (λ (t : PlaceView T Q). t.hand.share) is in
            let a = are.shares in omega (arith, s, e, a, long, share));
        each = λ j d below. seat_at j d (omega (arith, below, long)) (ℕ_discrete j at) old;
      }
    where
      seat_at : (j : ℕ) (d : PlaceView T Q) → j < length places → Dec (j ≡ at) → IsPlaced own.hand.members number at p
          → IsPlaced own.hand.members number j (get_or (set places at w) j d)
      seat_at j d below (yes same) old =
          subst (λ (t : ℕ × PlaceView T Q). IsPlaced own.hand.members number t.0 t.1)
          (λ i. (sym same i, sym (ap (λ k. get_or (set places at w) k d) same ∙ get_or-set_same places at w d within) i)) record {
            puts_nothing = put ∙ old.puts_nothing;
            idle = λ e. absurd (other e);
            other = λ ne. (share ∙ (old.other ne).0, members ∙ (old.other ne).1);
          }
      seat_at j d below (no ne) old =
          subst (λ (t : PlaceView T Q). IsPlaced own.hand.members number j t) (sym (get_or-set_other places at j w d ne)) (are.each j d below)

  placed_alike : (members : Option Q) (number at : ℕ) (p w : PlaceView T Q) → w.hand ≡ p.hand → IsPlaced members number at p → IsPlaced members number at w
  placed_alike members number at p w hand is = record {
    puts_nothing = ap (λ (v : Hand T Q). v.put) hand ∙ is.puts_nothing;
    idle = λ e. (ap (λ (v : Hand T Q). v.share) hand ∙ (is.idle e).0, ap (λ (v : Hand T Q). v.took) hand ∙ (is.idle e).1);
    other = λ ne. (ap (λ (v : Hand T Q). v.share) hand ∙ (is.other ne).0, ap (λ (v : Hand T Q). v.members) hand ∙ (is.other ne).1);
  }

  -- a place knows what it knew before
  seated_alike : (number at : ℕ) (own : PlaceView T Q) (places : List (PlaceView T Q)) (p w : PlaceView T Q) → AreSeated number own places
      → at < length places → get_or places at p ≡ p
      → w.deque ≡ p.deque → w.hand ≡ p.hand → AreSeated number own (set places at w)
  seated_alike number at own places p w are within is deque hand =
      let long = length-set places at w in record {
        within = (let a = are.within in omega (arith, a, long));
        here = λ d. (alike number d are.within (ℕ_discrete number at)).0 ∙ are.here d;
        share = are.share ∙ sym long;
        whole = (let a = are.whole in omega (arith, a, long));
        shares = (
            let s = sum_by-set (λ (t : PlaceView T Q). t.hand.share) places at w p within in let e = ap (λ (t : PlaceView T Q). t.hand.share) is in
            let f = ap (λ (v : Hand T Q). v.share) hand in let a = are.shares in omega (arith, s, e, a, f)
            );
        each = λ j d below. (
            let less : j < length places = omega (arith, below, long) in
            placed_alike own.hand.members number j (get_or places j d) (get_or (set places at w) j d) (alike j d less (ℕ_discrete j at)).1 (are.each j d less)
            );
      }
    where
      alike : (j : ℕ) (d : PlaceView T Q) → j < length places → Dec (j ≡ at)
          → ((get_or (set places at w) j d).deque ≡ (get_or places j d).deque) × ((get_or (set places at w) j d).hand ≡ (get_or places j d).hand)
      alike j d below (yes same) =
          let there : get_or places j d ≡ p = ap (λ k. get_or places k d) same ∙ (get_or_default places at d p within ∙ is) in
          let now : get_or (set places at w) j d ≡ w = ap (λ k. get_or (set places at w) k d) same ∙ get_or-set_same places at w d within in (
            ap (λ (t : PlaceView T Q). t.deque) now ∙ (deque ∙ sym (ap (λ (t : PlaceView T Q). t.deque) there)),
            ap (λ (t : PlaceView T Q). t.hand) now ∙ (hand ∙ sym (ap (λ (t : PlaceView T Q). t.hand) there)),
          )
      alike j d below (no ne) = let e = get_or-set_other places at j w d ne in (ap (λ (t : PlaceView T Q). t.deque) e, ap (λ (t : PlaceView T Q). t.hand) e)

  -- an owner with the same share
  seated_owner : (number : ℕ) (own new : PlaceView T Q) (places : List (PlaceView T Q)) → AreSeated number own places → new.deque ≡ own.deque
      → new.hand.share ≡ own.hand.share → new.hand.whole ≡ own.hand.whole
      → new.hand.members ≡ own.hand.members → AreSeated number new places
  seated_owner number own new places are deque share whole members = record {
    within = are.within;
    here = λ d. are.here d ∙ sym deque;
    share = share ∙ are.share;
    whole = (let w = are.whole in omega (arith, w, whole));
    shares = (let s = are.shares in omega (arith, s, share, whole));
    each = λ at d below. subst (λ (p : Option Q). IsPlaced p number at (get_or places at d)) (sym members) (are.each at d below);
  }

  pub seated : (number at : ℕ) (own : PlaceView T Q) (places : List (PlaceView T Q)) (p w : PlaceView T Q) (r : Option T) → AreSeated number own places
      → at < length places → at ≢ number → get_or places at p ≡ p
      → IfSome r (λ x. w ≡ taken p x) → IfNone r (w ≡ counted p) → AreSeated number own (set places at w)
  seated number at own places p w None are within other is some none =
      seated_alike number at own places p w are within is (ap (λ (t : PlaceView T Q). t.deque) none) (ap (λ (t : PlaceView T Q). t.hand) none)
  seated number at own places p w (Some x) are within other is some none =
      seated_set number at own places p w are within other is (ap (λ (t : PlaceView T Q). t.deque) some) (ap (λ (t : PlaceView T Q). t.hand.share) some)
      (ap (λ (t : PlaceView T Q). t.hand.members) some) (ap (λ (t : PlaceView T Q). t.hand.put) some)

  pub seated_pop : (number : ℕ) (own new p w : PlaceView T Q) (places : List (PlaceView T Q)) (r : Option T) → AreSeated number own places
      → get_or places number p ≡ p
      → IfSome r (λ x. (new ≡ taken own x) × (w ≡ p)) → IfNone r ((new ≡ own) × Balances own.hand []) → IfNone r (w ≡ counted p)
      → AreSeated number new (set places number w)
  seated_pop number own new p w places None are is some none counts =
      seated_owner number own new (set places number w)
      (seated_alike number number own places p w are are.within is (ap (λ (t : PlaceView T Q). t.deque) counts) (ap (λ (t : PlaceView T Q). t.hand) counts))
      (ap (λ (t : PlaceView T Q). t.deque) none.0) (ap (λ (t : PlaceView T Q). t.hand.share) none.0) (ap (λ (t : PlaceView T Q). t.hand.whole) none.0)
      (ap (λ (t : PlaceView T Q). t.hand.members) none.0)
  seated_pop number own new p w places (Some x) are is some none counts =
      seated_owner number own new (set places number w)
      (seated_alike number number own places p w are are.within is (ap (λ (t : PlaceView T Q). t.deque) some.1) (ap (λ (t : PlaceView T Q). t.hand) some.1))
      (ap (λ (t : PlaceView T Q). t.deque) some.0) (ap (λ (t : PlaceView T Q). t.hand.share) some.0) (ap (λ (t : PlaceView T Q). t.hand.whole) some.0)
      (ap (λ (t : PlaceView T Q). t.hand.members) some.0)

  -- one of the places has changed, and the room is the same
  pub is_seated : (number : ℕ) (own : PlaceView T Q) (places : List (PlaceView T Q)) (room : ℕ) → IsSeated number own places room
      → (at : ℕ) (w new : PlaceView T Q) → AreSeated number new (set places at w) → IsSeated number new (set places at w) room
  is_seated number own places room is at w new seated =
      record { seated = seated; enough = (let l = length-set places at w in let r = is.enough in omega (arith, l, r)) }

  stole : (number at : ℕ) (own : PlaceView T Q) (places : List (PlaceView T Q)) (p : PlaceView T Q) (x : T) → at < length places → get_or places at p ≡ p
      → HasTaken (pass_view number own places) x (pass_view number own (set places at (taken p x)))
  stole number at own places p x within is = record {
    long = let l = length-set places at (taken p x) in
        length-map (set places at (taken p x)) (λ (t : PlaceView T Q). t.found_empty) ∙ (l ∙ sym (length-map places (λ (t : PlaceView T Q). t.found_empty)));
    same = ap (λ l. record {
      pool = record { deques = l };
      number = number;
      share = 1;
      members = own.hand.members;
      put = own.hand.put;
      took = own.hand.took ++ taken_at (set places at (taken p x));
      found_empty = map (λ (t : PlaceView T Q). t.found_empty) (set places at (taken p x));
    })
        (map-set_same (λ (t : PlaceView T Q). t.deque) places at (taken p x) p (sym (ap (λ (t : PlaceView T Q). t.deque) is)));
    took = record {
      weighs = λ h. (
          let f : PlaceView T Q → ℕ = λ t. sum_by h t.hand.took in
          let later = set places at (taken p x) in
          let a = sum_by-append h own.hand.took (taken_at later) in
          let b = sum_by-append h own.hand.took (taken_at places) in
          let c = weigh_taken h later in
          let d = weigh_taken h places in
          let s = sum_by-set f places at (taken p x) p within in
          let e : f (get_or places at p) ≡ f p = ap f is in
          let t : f (taken p x) ≡ f p + h x = sum_by_push h p.hand.took x in
          let u = sum_by-cons h x (own.hand.took ++ taken_at places) in omega (arith, a, b, c, d, s, e, t, u));
    };
  }

  pub has_stolen : (sound : Q → T → Type 0) (number at : ℕ) (own : PlaceView T Q) (places : List (PlaceView T Q)) (p w : PlaceView T Q)
      (pass : PassView T Q) (r : Option T) → pass_view number own places ≡ pass → AreSeated number own places
      → at < length places → at ≢ number → get_or places at p ≡ p → IfSome r (λ x. w ≡ taken p x) → IfSome r (λ x. IsSoundFor sound p.hand.members x)
      → IfSome r (λ x. HasTaken pass x (pass_view number own (set places at w)) × IsSoundFor sound pass.members x)
  has_stolen sound number at own places p w pass None view are within other is step good = tt
  has_stolen sound number at own places p w pass (Some x) view are within other is step good =
      let old = subst (λ (t : PlaceView T Q). IsPlaced own.hand.members number at t) is (are.each at p within) in (
        subst (λ (t : PassView T Q × PlaceView T Q). HasTaken t.0 x (pass_view number own (set places at t.1))) (λ i. (view i, sym step i))
            (stole number at own places p x within is),
        λ members about. good members ((old.other other).1 ∙ (ap (λ (t : PassView T Q). t.members) view ∙ about)),
      )

  -- the pass has as many places as its pool has deques
  pub in_places : (number at : ℕ) (own : PlaceView T Q) (places : List (PlaceView T Q)) (pass : PassView T Q) → pass_view number own places ≡ pass
      → at < length pass.pool.deques → at < length places
  in_places number at own places pass view within =
      let e = ap (λ (t : PassView T Q). length t.pool.deques) view in let l = length_map places in omega (arith, e, l, within)

  pub not_own : (number at : ℕ) (own : PlaceView T Q) (places : List (PlaceView T Q)) (pass : PassView T Q) → pass_view number own places ≡ pass
      → at ≢ pass.number → at ≢ number
  not_own number at own places pass view other same = other (same ∙ ap (λ (t : PassView T Q). t.number) view)

  pub number_within : (number : ℕ) (own : PlaceView T Q) (places : List (PlaceView T Q)) (pass : PassView T Q) → pass_view number own places ≡ pass
      → AreSeated number own places → (number ≡ pass.number) × (number < length pass.pool.deques)
  number_within number own places pass view are = (
    ap (λ (t : PassView T Q). t.number) view,
    (let e = ap (λ (t : PassView T Q). length t.pool.deques) view in let l = length_map places in let w = are.within in omega (arith, e, l, w)),
  )

  -- the deque at a pass's number is its own
  pub owned : (number : ℕ) (own : PlaceView T Q) (places : List (PlaceView T Q)) (pass : PassView T Q) (d : DequeId) → pass_view number own places ≡ pass
      → AreSeated number own places → get_or pass.pool.deques pass.number d ≡ own.deque
  owned number own places pass d view are =
      subst (λ (t : PassView T Q). get_or t.pool.deques t.number d ≡ own.deque) view
      (get_or-map (λ (p : PlaceView T Q). p.deque) places number own d are.within ∙ are.here own)

  -- passes of one pool with one number own one deque
  pub same_owned : (n m : ℕ) (own other : PlaceView T Q) (places more : List (PlaceView T Q)) (x y : PassView T Q) → pass_view n own places ≡ x
      → pass_view m other more ≡ y → AreSeated n own places → AreSeated m other more → y.pool ≡ x.pool → y.number ≡ x.number
      → other.deque ≡ own.deque
  same_owned n m own other places more x y view view' are are' pool number =
      sym (owned m other more y own.deque view' are') ∙ ((λ i. get_or (pool i).deques (number i) own.deque) ∙ owned n own places x own.deque view are)

  pub has_share : (number : ℕ) (own : PlaceView T Q) (places : List (PlaceView T Q)) (pass : PassView T Q) → pass_view number own places ≡ pass → pass.share ≡ 1
  has_share number own places pass view = sym (ap (λ (t : PassView T Q). t.share) view)
