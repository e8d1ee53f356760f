-- From what a step tells of a place to what contracts see.
use Rattle.std.proofs.Common.{◌≡◌, ℕ, ◌<◌, ◌∙◌, [], ◌∷◌, sym, ap, arith}
use Rattle.std.specs.Prelude.{Option, Some, None, IfSome, MatchOption}
use Rattle.yew_pool.specs.declared.rule.Hand.{Hand}
use Rattle.yew_pool.specs.Rule.{Takes, has_taken}
use Rattle.crossbeam_deque.specs.Steals.{MatchSteal}
use Rattle.crossbeam_deque.specs.declared.steal.Steal.{Steal}
use Rattle.crossbeam_deque.specs.declared.steal.Steal.TheVariants.{Empty, Success, Retry}
use Rattle.yew_pool.specs.Places.{DequeId, PlaceView}
use Rattle.yew_pool.specs.Tasks.{IsSoundFor}

module _ {T Q : Type 0} (sound : Q → T → Type 0) where
  -- what a place knows is what its hand knows
  pub members_are : (deque : DequeId) (n : ℕ) (v : Hand T Q) (place : PlaceView T Q) → record { deque = deque; hand = v; found_empty = n } ≡ place
      → v.members ≡ place.hand.members
  members_are deque n v place view = ap (λ (t : PlaceView T Q). t.hand.members) view

  pub sound_for : (deque : DequeId) (n : ℕ) (v : Hand T Q) (place : PlaceView T Q) (x : T) → record { deque = deque; hand = v; found_empty = n } ≡ place
      → IsSoundFor sound place.hand.members x → IsSoundFor sound v.members x
  sound_for deque n v place x view good = λ members told. good members (sym (members_are deque n v place view) ∙ told)

  -- a task that was taken is sound by the members that the place knows
  pub one_sound : (deque : DequeId) (n : ℕ) (v w : Hand T Q) (place : PlaceView T Q) (x : T) → record { deque = deque; hand = v; found_empty = n } ≡ place
      → Takes sound v (x ∷ []) w → IsSoundFor sound place.hand.members x
  one_sound deque n v w place x view told = λ members about. told.is_sound members (members_are deque n v place view ∙ about) 0 x (omega arith)

  pub taken_sound : (deque : DequeId) (n : ℕ) (v w : Hand T Q) (place : PlaceView T Q) (none : Type 0) (r : Option T)
      → record { deque = deque; hand = v; found_empty = n } ≡ place → MatchOption r none (λ x. Takes sound v (x ∷ []) w)
      → IfSome r (λ x. IsSoundFor sound place.hand.members x)
  taken_sound deque n v w place none None view told = tt
  taken_sound deque n v w place none (Some x) view told = one_sound deque n v w place x view told

  -- what one try to steal tells of a place
  pub stolen : (deque : DequeId) (n : ℕ) (v w : Hand T Q) (place : PlaceView T Q) (retry : Type 0) (r : Steal T)
      → record { deque = deque; hand = v; found_empty = n } ≡ place
      → MatchSteal r ((w ≡ v) × Unit {0}) ((w ≡ v) × retry) (λ x. Takes sound v (x ∷ []) w)
      → MatchSteal r (record { deque = deque; hand = w; found_empty = n } ≡ place) (record { deque = deque; hand = w; found_empty = n } ≡ place)
      (λ x. (◌≡◌ {A = PlaceView T Q} (record { deque = deque; hand = w; found_empty = n })
      (record { deque = place.deque; hand = has_taken place.hand x; found_empty = place.found_empty })) × IsSoundFor sound place.hand.members x)
  stolen deque n v w place retry Empty view told = ap (λ (u : Hand T Q). record { deque = deque; hand = u; found_empty = n }) told.0 ∙ view
  stolen deque n v w place retry Retry view told = ap (λ (u : Hand T Q). record { deque = deque; hand = u; found_empty = n }) told.0 ∙ view
  stolen deque n v w place retry (Success x) view told = (
    ap (λ (u : Hand T Q). record { deque = deque; hand = u; found_empty = n }) told.view
        ∙ ap (λ (t : PlaceView T Q). record { deque = t.deque; hand = has_taken t.hand x; found_empty = t.found_empty }) view,
    one_sound deque n v w place x view told,
  )

-- a place has more than k shares where its hand does
pub many_shares : {T Q : Type 0} (k : ℕ) (deque : DequeId) (n : ℕ) (v : Hand T Q) (place : PlaceView T Q)
    → record { deque = deque; hand = v; found_empty = n } ≡ place → k < place.hand.share → k < v.share
many_shares k deque n v place view more = let e = ap (λ (t : PlaceView _ _). t.hand.share) view in omega arith
