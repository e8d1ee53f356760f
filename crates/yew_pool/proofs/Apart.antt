-- The passes are taken apart.
use Rattle.std.proofs.Common.{◌≡◌, ℕ, ◌+◌, ◌<◌, ◌≤◌, ◌∙◌, suc, List, [], ◌∷◌, ◌++◌, length, take, get_or, sym, refl, ap, subst, length-append, arith}
use Rattle.std.specs.Prelude.{All, sum_by}
use Rattle.std.proofs.lemmas.List.{get_or_append_left, length-map, map-append, take_all, take_more}
use Rattle.std.proofs.lemmas.List.Elements.{All-push, All-nil}
use Rattle.std.proofs.lemmas.List.Sums.{sum_by_push, sum_by-cons, sum_by-append}
use Rattle.std.proofs.Math.Seq.{get_or-append_seam}
use Rattle.yew_laws.proofs.Bags.{sum_by-flat_map}
use Rattle.yew_pool.specs.Places.{PlaceView}
use Rattle.yew_pool.specs.Closing.{deques, share_of, weigh_put, weigh_took, IsTakingApart, IsApart}
use Rattle.yew_pool.specs.Passes.{PassView, PoolId, taken_at, pass_view, AreSeated}
use Rattle.yew_pool.specs.Ordering.{AreInOrder}
use Rattle.yew_pool.proofs.Emptying.{All-front, All-last}
use Rattle.yew_pool.proofs.Taking.{owned}

module _ {T Q : Type 0} where
  none_put : (h : T → ℕ) (places : List (PlaceView T Q)) → ((k : ℕ) (d : PlaceView T Q) → k < length places → (get_or places k d).hand.put ≡ [])
      → weigh_put h places ≡ 0
  none_put h [] none = refl
  none_put h (p ∷ ps) none =
      let a = ap (λ (l : List T). sum_by h l) (none 0 p (omega arith)) in let b = none_put h ps (λ k d below. none (suc k) d (omega arith)) in
      let c = sum_by-cons (λ (q : PlaceView T Q). sum_by h q.hand.put) p ps in omega (arith, a, b, c)

  pub apart_begins : (pool : PoolId) (all : List (PassView T Q)) → AreInOrder pool (length pool.deques) all → length all ≡ length pool.deques
      → IsTakingApart pool all all [] []
  apart_begins pool all ordered long = record {
    ordered = ordered;
    long = omega (arith, long);
    rows_long = refl;
    ids = refl;
    each = All-nil (λ (row : List (PlaceView T Q)). deques row ≡ pool.deques);
    shares = refl;
    put = λ h. omega arith;
    took = λ h. omega arith;
    told = λ about a. (All-nil (λ (own : PlaceView T Q). own.hand.members ≡ about), a);
  }

  -- one more pass was taken apart
  pub apart_more : (pool : PoolId) (all more rest : List (PassView T Q)) (owns later_owns : List (PlaceView T Q))
      (rows later_rows : List (List (PlaceView T Q))) (pass : PassView T Q) (own : PlaceView T Q) (row : List (PlaceView T Q))
      → IsTakingApart pool all more owns rows → more ≡ rest ++ pass ∷ [] → AreSeated pass.number own row → pass_view pass.number own row ≡ pass
      → later_owns ≡ owns ++ own ∷ [] → later_rows ≡ rows ++ row ∷ []
      → IsTakingApart pool all rest later_owns later_rows
  apart_more pool all more rest owns later_owns rows later_rows pass own row is' e are view owns_are rows_are =
      let is : IsTakingApart pool all (rest ++ pass ∷ []) owns rows = subst (λ (l : List (PassView T Q)). IsTakingApart pool all l owns rows) e is' in
      let longer = length-append rest (pass ∷ []) in
      let pool_is : pass.pool ≡ pool = last (λ (p : PassView T Q). p.pool ≡ pool) is.ordered.pools in
      let number_is : pass.number ≡ length owns = (
      let p = is.ordered.placed (length rest) pass (omega (arith, longer)) in
      let q = ap (λ (t : PassView T Q). t.number) (get_or-append_seam rest pass [] pass) in let l = is.long in omega (arith, p, q, l, longer)
      ) in
      let id : get_or pool.deques (length owns) own.deque ≡ own.deque =
      (λ i. get_or (sym pool_is i).deques (sym number_is i) own.deque) ∙ owned pass.number own row pass own.deque view are in
      let more_ids : length owns < length pool.deques = (let l = is.long in omega (arith, l, longer)) in
      subst (λ (t : List (PlaceView T Q) × List (List (PlaceView T Q))). IsTakingApart pool all rest t.0 t.1) (λ i. (sym owns_are i, sym rows_are i)) record {
        ordered = record {
          pools = front (λ (p : PassView T Q). p.pool ≡ pool) is.ordered.pools;
          placed = λ k d below. subst (λ (p : PassView T Q). p.number + k + 1 ≡ length pool.deques) (get_or_append_left rest (pass ∷ []) d k below)
              (is.ordered.placed k d (omega (arith, below, longer)));
        };
        long = (let l = is.long in omega (arith, l, longer, length-append owns (own ∷ [])));
        rows_long = (let l = is.rows_long in omega (arith, l, length-append owns (own ∷ []), length-append rows (row ∷ [])));
        ids = map-append (λ (p : PlaceView T Q). p.deque) owns (own ∷ []) ∙ ((λ i. is.ids i ++ sym id i ∷ [])
            ∙ (sym (take_more pool.deques (length owns) own.deque more_ids) ∙ ap (λ n. take n pool.deques) (sym (length-append owns (own ∷ [])))));
        each = All-push (λ (r : List (PlaceView T Q)). deques r ≡ pool.deques) rows row is.each
            (ap (λ (t : PassView T Q). t.pool.deques) view ∙ ap (λ (p : PoolId). p.deques) pool_is);
        shares = (
            let a = sum_by_push (λ (p : PlaceView T Q). p.hand.share) owns own in let b = sum_by_push share_of rows row in
            let c = sum_by_push (λ (p : PlaceView T Q). p.hand.whole) owns own in let d = is.shares in let s = are.shares in omega (arith, a, b, c, d, s)
            );
        put = λ h. (
            let a = sum_by_push (λ (p : PlaceView T Q). sum_by h p.hand.put) owns own in let b = sum_by_push (weigh_put h) rows row in
            let c = sum_by_push (λ (p : PassView T Q). sum_by h p.put) rest pass in
            let d = none_put h row (λ k o below. (are.each k o below).puts_nothing) in
            let f = ap (λ (t : PassView T Q). sum_by h t.put) view in let i = is.put h in omega (arith, a, b, c, d, f, i)
            );
        took = λ h. (
            let a = sum_by_push (λ (p : PlaceView T Q). sum_by h p.hand.took) owns own in let b = sum_by_push (weigh_took h) rows row in
            let c = sum_by_push (λ (p : PassView T Q). sum_by h p.took) rest pass in
            let d = sum_by-append h own.hand.took (taken_at row) in let j = sum_by-flat_map h (λ (p : PlaceView T Q). p.hand.took) row in
            let f = ap (λ (t : PassView T Q). sum_by h t.took) view in let i = is.took h in omega (arith, a, b, c, d, f, i, j)
            );
        told = λ about a. (
          All-push (λ (o : PlaceView T Q). o.hand.members ≡ about) owns own (is.told about a).0
              (ap (λ (t : PassView T Q). t.members) view ∙ last (λ (p : PassView T Q). p.members ≡ about) (is.told about a).1),
          front (λ (p : PassView T Q). p.members ≡ about) (is.told about a).1,
        );
      }
    where
      front : (P : PassView T Q → Type 0) → All P (rest ++ pass ∷ []) → All P rest
      front P a = All-front P rest pass a

      last : (P : PassView T Q → Type 0) → All P (rest ++ pass ∷ []) → P pass
      last P a = All-last P rest pass a

  -- the room of a pass is for all deques
  pub has_room : (pool : PoolId) (count room cap : ℕ) (more rest : List (PassView T Q)) (pass : PassView T Q) (own : PlaceView T Q)
      (row : List (PlaceView T Q)) → AreInOrder pool count more → more ≡ rest ++ pass ∷ [] → pass_view pass.number own row ≡ pass
      → length row ≤ room → room ≤ cap → length pool.deques ≤ cap
  has_room pool count room cap more rest pass own row ordered e view enough wide =
      let pool_is : pass.pool ≡ pool =
      All-last (λ (p : PassView T Q). p.pool ≡ pool) rest pass
      (subst (λ (l : List (PassView T Q)). All (λ (p : PassView T Q). p.pool ≡ pool) l) e ordered.pools) in
      let a = ap (λ (t : PassView T Q). length t.pool.deques) view in let b = ap (λ (p : PoolId). length p.deques) pool_is in
      let c = length-map row (λ (p : PlaceView T Q). p.deque) in omega (arith, a, b, c, enough, wide)

  pub apart_ends : (pool : PoolId) (all rest : List (PassView T Q)) (owns : List (PlaceView T Q)) (rows : List (List (PlaceView T Q)))
      → IsTakingApart pool all rest owns rows → rest ≡ [] → IsApart pool all owns rows
  apart_ends pool all rest owns rows is' e =
      let is : IsTakingApart pool all [] owns rows = subst (λ (l : List (PassView T Q)). IsTakingApart pool all l owns rows) e is' in
      let ids : deques owns ≡ pool.deques = is.ids ∙ take_all (length owns) pool.deques (let l = is.long in omega (arith, l)) in record {
        each = λ k d below. is.each k d below ∙ sym ids;
        shares = is.shares;
        put = λ h. (let i = is.put h in omega (arith, i));
        took = λ h. (let i = is.took h in omega (arith, i));
        told = λ about a. (is.told about a).0;
      }
