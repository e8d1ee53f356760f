-- What a pass counts that finds deques empty.
use Rattle.std.proofs.Common.{◌≡◌, ◌≢◌, ◌⊎◌, ℕ, ◌+◌, ◌<◌, ◌≤◌, ◌∙◌, List, [], ◌∷◌, ◌++◌, inl, inr, ⊎_elim, length, map, set, get_or, sym, refl, ap, subst}
use Rattle.std.proofs.Common.{ext_get_or, arith}
use Rattle.std.specs.Prelude.{Option, Some, None, IfNone}
use Rattle.std.specs.List.{flat_map}
use Rattle.std.proofs.lemmas.Bool.{cases_lt}
use Rattle.std.proofs.lemmas.List.{get_or-set_same, get_or-set_other, get_or-map, get_or_default, length-map, map-set}
use Rattle.std.proofs.lemmas.List.Folds.{flat_map-map}
use Rattle.std.proofs.Math.Seq.{map-set_same}
use Rattle.std.proofs.Math.ListN.{length-set}
use native.Mathlib.Decide.{ℕ_discrete}
use Rattle.yew_laws.specs.Bag.{SameBag}
use Rattle.yew_pool.specs.Rule.{Balances}
use Rattle.yew_pool.specs.Places.{PlaceView, once_more}
use Rattle.yew_pool.specs.Passes.{PassView, taken_at, pass_view, HasTaken, HasLooked, HasLookedRound}
use Rattle.yew_pool.specs.Tasks.{IsSoundFor}
use Rattle.yew_pool.specs.Takes.{OnEmpty}
use Rattle.yew_pool.specs.declared.pool.Take.{Take}
use Rattle.yew_pool.specs.declared.pool.Take.TheVariants.{Empty, Task as Taken}
use Rattle.yew_pool.proofs.Taking.{counted}

module _ {T Q : Type 0} where
  found : PlaceView T Q → ℕ
  found place = place.found_empty

  same_taken : (places : List (PlaceView T Q)) (at : ℕ) (w : PlaceView T Q) → w.hand.took ≡ (get_or places at w).hand.took
      → taken_at (set places at w) ≡ taken_at places
  same_taken places at w same =
      let took = λ (p : PlaceView T Q). p.hand.took in
      sym (flat_map-map (λ l. l) took (set places at w))
      ∙ (ap (λ (ls : List (List T)). flat_map (λ l. l) ls) (map-set_same took places at w w same) ∙ flat_map-map (λ l. l) took places)

  -- one deque was found empty
  look : (number at : ℕ) (own p : PlaceView T Q) (places : List (PlaceView T Q)) → at < length places → get_or places at p ≡ p
      → HasLooked at (at + 1) (pass_view number own places) (pass_view number own (set places at (counted p)))
  unfolding found
  look number at own p places within here =
      let later = set places at (counted p) in
      let before : get_or places at (counted p) ≡ p = get_or_as places at (counted p) p within here in
      let moved : map found later ≡ set (map found places) at (once_more p.found_empty) = map-set found places at (counted p) in
      let long = length-map places found in
      let was : get_or (map found places) at 0 ≡ p.found_empty = get_or-map found places at p 0 within ∙ ap (λ (t : PlaceView T Q). t.found_empty) here in
      record {
        same = λ i. record {
          pool = record {
            deques = map-set_same (λ (t : PlaceView T Q). t.deque) places at (counted p) (counted p)
                (sym (ap (λ (t : PlaceView T Q). t.deque) before)) i;
          };
          number = number;
          share = 1;
          members = own.hand.members;
          put = own.hand.put;
          took = own.hand.took ++ same_taken places at (counted p) (sym (ap (λ (t : PlaceView T Q). t.hand.took) before)) i;
          found_empty = map found later;
        };
        long = length-map later found ∙ (length-set places at (counted p) ∙ sym long);
        within = λ k first end. (
            let same : k ≡ at = omega arith in
            ap (λ (l : List ℕ). get_or l k 0) moved ∙ (ap (λ j. get_or (set (map found places) at (once_more p.found_empty)) j 0) same
            ∙ (get_or-set_same (map found places) at (once_more p.found_empty) 0 (omega (arith, long, within))
            ∙ (ap once_more (sym was) ∙ ap (λ j. once_more (get_or (map found places) j 0)) (sym same))))
            );
        outside = λ k out. (
            let other : k ≢ at = ⊎_elim (λ (h : k < at). omega arith) (λ (h : at + 1 ≤ k). omega arith) out in
            ap (λ (l : List ℕ). get_or l k 0) moved ∙ get_or-set_other (map found places) at k (once_more p.found_empty) 0 other
            );
      }
    where
      get_or_as : (xs : List (PlaceView T Q)) (j : ℕ) (d e : PlaceView T Q) → j < length xs → get_or xs j e ≡ e → get_or xs j d ≡ e
      get_or_as xs j d e below is = get_or_default xs j d e below ∙ is

  -- the same, from what is known of the pass and of the place
  pub looked : (number at : ℕ) (own new p w : PlaceView T Q) (places : List (PlaceView T Q)) (pass : PassView T Q) → pass_view number own places ≡ pass
      → at < length places → get_or places at p ≡ p → new ≡ own → w ≡ counted p
      → HasLooked at (at + 1) pass (pass_view number new (set places at w))
  looked number at own new p w places pass view within here same step =
      subst (λ (t : PassView T Q × PlaceView T Q × PlaceView T Q). HasLooked at (at + 1) t.0 (pass_view number t.1 (set places at t.2)))
      (λ i. (view i, sym same i, sym step i)) (look number at own p places within here)

  pub looked_as : (number at : ℕ) (own p w : PlaceView T Q) (places : List (PlaceView T Q)) (pass : PassView T Q) (r : Option T)
      → pass_view number own places ≡ pass → at < length places → get_or places at p ≡ p
      → IfNone r (w ≡ counted p) → IfNone r (HasLooked at (at + 1) pass (pass_view number own (set places at w)))
  looked_as number at own p w places pass None view within here step = looked number at own own p w places pass view within here refl step
  looked_as number at own p w places pass (Some x) view within here step = tt

  pub looked_pop : (number : ℕ) (own new p w : PlaceView T Q) (places : List (PlaceView T Q)) (pass : PassView T Q) (r : Option T)
      → pass_view number own places ≡ pass → number < length places → get_or places number p ≡ p
      → IfNone r ((new ≡ own) × Balances own.hand []) → IfNone r (w ≡ counted p)
      → IfNone r (HasLooked pass.number (pass.number + 1) pass (pass_view number new (set places number w)))
  looked_pop number own new p w places pass None view within here none step =
      subst (λ (k : ℕ). HasLooked k (k + 1) pass (pass_view number new (set places number w))) (ap (λ (t : PassView T Q). t.number) view)
      (looked number number own new p w places pass view within here none.0 step)
  looked_pop number own new p w places pass (Some x) view within here none step = tt

  -- a pass counts at as many deques as its pool has
  pub counts_each : (number : ℕ) (own : PlaceView T Q) (places : List (PlaceView T Q)) (pass : PassView T Q) → pass_view number own places ≡ pass
      → length pass.found_empty ≡ length pass.pool.deques
  counts_each number own places pass view =
      subst (λ (t : PassView T Q). length t.found_empty ≡ length t.pool.deques) view
      (length-map places (λ (t : PlaceView T Q). t.found_empty) ∙ sym (length-map places (λ (t : PlaceView T Q). t.deque)))

  pub looks_begin : (first : ℕ) (x : PassView T Q) → HasLooked first first x x
  looks_begin first x = record { same = refl; long = refl; within = λ at low high. absurd (omega arith); outside = λ at out. refl }

  pub looks_join : (first middle end : ℕ) (x y z : PassView T Q) → first ≤ middle → middle ≤ end → HasLooked first middle x y → HasLooked middle end y z
      → HasLooked first end x z
  looks_join first middle end x y z low high a b = record {
    same = b.same ∙ ap (λ (t : PassView T Q). record t { found_empty = z.found_empty }) a.same;
    long = b.long ∙ a.long;
    within = λ at lo hi. ⊎_elim (λ (h : at < middle). b.outside at (inl h) ∙ a.within at lo h)
        (λ (h : middle ≤ at). b.within at h hi ∙ ap once_more (a.outside at (inr h))) (cases_lt at middle);
    outside = λ at out. ⊎_elim (λ (h : at < first). b.outside at (inl (omega arith)) ∙ a.outside at (inl h))
        (λ (h : end ≤ at). b.outside at (inr h) ∙ a.outside at (inr (omega arith))) out;
  }

  pub looks_more : (first at : ℕ) (x y z : PassView T Q) → first ≤ at → HasLooked first at x y → HasLooked at (at + 1) y z → HasLooked first (at + 1) x z
  looks_more first at x y z low a b = looks_join first at (at + 1) x y z low (omega arith) a b

  -- a task was taken after deques were found empty
  pub takes_after : (first end : ℕ) (x y z : PassView T Q) (task : T) → HasLooked first end x y → HasTaken y task z → HasTaken x task z
  takes_after first end x y z task a b = record {
    same = b.same ∙ ap (λ (t : PassView T Q). record t { took = z.took; found_empty = z.found_empty }) a.same;
    took = subst (λ (l : List T). SameBag z.took (task ∷ l)) (ap (λ (t : PassView T Q). t.took) a.same) b.took;
    long = b.long ∙ a.long;
  }

  pub sound_after : (sound : Q → T → Type 0) (first end : ℕ) (x y : PassView T Q) (task : T) → HasLooked first end x y → IsSoundFor sound y.members task
      → IsSoundFor sound x.members task
  sound_after sound first end x y task a good = λ members about. good members (ap (λ (t : PassView T Q). t.members) a.same ∙ about)

  pub pool_after : (first end : ℕ) (x y : PassView T Q) → HasLooked first end x y → (y.pool ≡ x.pool) × (y.number ≡ x.number)
  pool_after first end x y a = (ap (λ (t : PassView T Q). t.pool) a.same, ap (λ (t : PassView T Q). t.number) a.same)

  -- from the next deque to the last, and from the first to the one before
  pub looks_round : (own count : ℕ) (x y z : PassView T Q) → own ≡ x.number → count ≡ length x.pool.deques → HasLooked (own + 1) count x y
      → HasLooked 0 own y z → HasLookedRound x z
  looks_round own count x y z is long a b = record {
    same = b.same ∙ ap (λ (t : PassView T Q). record t { found_empty = z.found_empty }) a.same;
    long = b.long ∙ a.long;
    others = λ at below other. ⊎_elim (λ (h : at < own). b.within at (omega arith) h ∙ ap once_more (a.outside at (inl (omega arith))))
        (λ (h : own ≤ at). b.outside at (inr h) ∙ a.within at (apart at own h (λ e. other (e ∙ is))) (omega (arith, below, long))) (cases_lt at own);
    own = b.outside x.number (inr (omega arith)) ∙ a.outside x.number (inl (omega arith));
  }
    where
      apart : (at own : ℕ) → own ≤ at → at ≢ own → own + 1 ≤ at
      apart at own low other = omega arith

  -- each deque was found empty
  pub looks_all : (x y z : PassView T Q) → length x.found_empty ≡ length x.pool.deques → HasLooked x.number (x.number + 1) x y → HasLookedRound y z
      → z ≡ record x { found_empty = map once_more x.found_empty }
  looks_all x y z counts a b =
      b.same ∙ (ap (λ (t : PassView T Q). record t { found_empty = z.found_empty }) a.same
      ∙ ap (λ (l : List ℕ). record x { found_empty = l }) (ext_get_or 0 z.found_empty (map once_more x.found_empty) long each))
    where
      number : y.number ≡ x.number
      number = ap (λ (t : PassView T Q). t.number) a.same

      deques : length y.pool.deques ≡ length x.pool.deques
      deques = ap (λ (t : PassView T Q). length t.pool.deques) a.same

      long : length z.found_empty ≡ length (map once_more x.found_empty)
      long = b.long ∙ (a.long ∙ sym (length-map x.found_empty once_more))

      at_own : (k : ℕ) → k ≡ x.number → get_or z.found_empty k 0 ≡ once_more (get_or x.found_empty k 0)
      at_own k same =
          ap (λ j. get_or z.found_empty j 0) (same ∙ sym number)
          ∙ (b.own ∙ (ap (λ j. get_or y.found_empty j 0) number
          ∙ (a.within x.number (omega arith) (omega arith) ∙ ap (λ j. once_more (get_or x.found_empty j 0)) (sym same))))

      at_other : (k : ℕ) → k < length x.found_empty → k ≢ x.number → get_or z.found_empty k 0 ≡ once_more (get_or x.found_empty k 0)
      at_other k below other = b.others k (omega (arith, below, counts, deques)) (λ e. other (e ∙ number)) ∙ ap once_more (a.outside k (off k x.number other))
        where
          off : (i j : ℕ) → i ≢ j → (i < j) ⊎ (j + 1 ≤ i)
          off i j ne = ⊎_elim (λ (h : i < j). inl h) (λ (h : j ≤ i). inr (omega arith)) (cases_lt i j)

      each : (k : ℕ) → k < length z.found_empty → get_or z.found_empty k 0 ≡ get_or (map once_more x.found_empty) k 0
      each k below =
          let less : k < length x.found_empty = omega (arith, below, b.long, a.long) in
          here k less (ℕ_discrete k x.number) ∙ sym (get_or-map once_more x.found_empty k 0 0 less)
        where
          here : (k : ℕ) → k < length x.found_empty → Dec (k ≡ x.number) → get_or z.found_empty k 0 ≡ once_more (get_or x.found_empty k 0)
          here k less (yes same) = at_own k same
          here k less (no other) = at_other k less other

pub on_empty : {N : Type 0} {A B : Type 0} (r : Take N) → (A → B) → OnEmpty r A → OnEmpty r B
on_empty (Taken task) f a = tt
on_empty Empty f a = f a
