-- Splitting a seat and joining two keep the rule.
use Rattle.std.proofs.Common.{◌≡◌, ℕ, ◌<◌, ◌≤◌, ◌≢◌, ◌⊎◌, ◌∙◌, List, [], ◌∷◌, ◌++◌, set, refl, sym, subst, inl, inr, ⊎_elim, le_refl, arith, slice_index}
use Rattle.std.specs.Prelude.{All, Contains}
use Rattle.std.proofs.lemmas.List.Elements.{All-append, All-nil, Contains-append_left, Contains-append_right}
use mathlib.Core.Option.{some, some-injective}
use native.Mathlib.Decide.{ℕ_discrete}
use lib.ListN.{get_elem?}
use Rattle.atomic_table.specs.Table.{State, Splits, Joins}
use Rattle.atomic_table.proofs.Lists.{at_longer}
use Rattle.yew_laws.proofs.Views.{at_set, at_snoc, set_here, set_else, total_split, total_join}
use Rattle.yew_best.specs.declared.view.View.{View}
use Rattle.yew_best.specs.Views.{view_of, left_of, right_of, both_of}
use Rattle.yew_best.specs.Rule.{IsOfferedBy, IsOffered, IsOfferedElse, Fits, IsBest, Keeps}
use Rattle.yew_best.proofs.Growth.{All-weaken, Grows, GrowsElse, Stays, grows-stays, stays_set, fits_later, fits-stays, fits-moved, cause_later}
use Rattle.yew_best.proofs.Heard.{heard_by_both-cause}

-- a seat is split in two
split_rule : (seats n : ℕ) (views : List View) (seat : ℕ) (v : View) → 1 < v.share → IsBest seats n views → get_elem? views seat ≡ some v → IsBest seats n (set views seat (left_of v) ++ right_of v ∷ [])
split_rule seats n views seat v two is at =
    let w = left_of v in let x = right_of v in
    let middle = set views seat w in let later = middle ++ x ∷ [] in
    let stays : Stays views later = λ j y o. longer_stays middle (x ∷ []) j y (stays_set views seat v w at (λ z h. h) j y o) in
    let was = fits-stays seats views later n n seat v stays (le_refl n) (is.each seat v at) in
    let has : v.seats ≡ seats = was.whole (omega arith) in
    let left : Fits seats later n seat w = record {
      whole = λ _. has;
      read_below = was.read_below;
      offered_below = was.offered_below;
      read_cause = was.read_cause;
      heard_cause = was.heard_cause;
      idle = λ none. absurd (omega arith);
    } in
    let right : (j : ℕ) → Fits seats later n j x = λ j. record {
      whole = λ _. has;
      read_below = was.read_below;
      offered_below = All-nil _;
      read_cause = was.read_cause;
      heard_cause = All-nil _;
      idle = λ none. absurd (omega arith);
    } in
    record {
      shares = (let t = total_split (λ (u : View). u.share) views seat v w x at in let e = is.shares in omega (arith, t, e));
      word_cause = cause_later n views later (grows-stays views later stays) is.word_cause;
      each = λ j u e. ⊎_elim (λ (t : get_elem? middle j ≡ some u). ⊎_elim (λ (h : (j ≡ seat) × (w ≡ u)). fits-moved seats later n w u seat j h.0 h.1 left)
          (λ (h : (j ≢ seat) × (get_elem? views j ≡ some u)). fits-stays seats views later n n j u stays (le_refl n) (is.each j u h.1)) (at_set views seat j w u t))
          (λ (t : x ≡ u). subst (λ (k : View). Fits seats later n j k) t (right j)) (at_snoc middle x u j e);
    }
  where
    longer_stays : (views more : List View) → Stays views (views ++ more)
    longer_stays views more j x (u, e, has) = (u, at_longer views more j u e, has)

-- a join: the seat has become both, the other seats than the two are as they were
module _ (views last : List View) (seat other : ℕ) (v w : View) (both_at : get_elem? last seat ≡ some (both_of v w)) (at : get_elem? views seat ≡ some v)
    (to : get_elem? views other ≡ some w) (stays : (j : ℕ) (u : View) → j ≢ seat → j ≢ other → get_elem? views j ≡ some u → get_elem? last j ≡ some u) where
  -- what a seat has offered, it or the joined seat has offered afterwards
  joined_offer : (j x : ℕ) → IsOfferedBy views j x → (k : ℕ) × ((k ≡ j) ⊎ (k ≡ seat)) × IsOfferedBy last k x
  joined_offer j x (u, e, has) = go (ℕ_discrete j seat) (ℕ_discrete j other)
    where
      go : Dec (j ≡ seat) → Dec (j ≡ other) → (k : ℕ) × ((k ≡ j) ⊎ (k ≡ seat)) × IsOfferedBy last k x
      go (yes same) d =
          let here : get_elem? views seat ≡ some u = subst (λ k. get_elem? views k ≡ some u) same e in
          (seat, inr refl, (both_of v w, both_at, Contains-append_left v.offered w.offered x (subst (λ (t : View). Contains t.offered x) (some-injective u v (sym here ∙ at)) has)))
      go (no ne) (yes same) =
          let here : get_elem? views other ≡ some u = subst (λ k. get_elem? views k ≡ some u) same e in
          (seat, inr refl, (both_of v w, both_at, Contains-append_right v.offered w.offered x (subst (λ (t : View). Contains t.offered x) (some-injective u w (sym here ∙ to)) has)))
      go (no ne) (no nf) = (j, inl refl, (u, stays j u ne nf e, has))

  joined_grows : Grows views last
  joined_grows x (j, offer) = let k = joined_offer j x offer in (k.0, k.2)

  joined_grows_else : (i : ℕ) → i ≢ seat → GrowsElse views last i
  joined_grows_else i apart x (j, ne, offer) =
      let k = joined_offer j x offer in (k.0, ⊎_elim (λ (e : k.0 ≡ j). λ same. ne (sym e ∙ same)) (λ (e : k.0 ≡ seat). λ same. apart (sym same ∙ e)) k.1, k.2)

  joined_reads : (xs : List ℕ) → All (λ x. (x ≡ 0) ⊎ IsOffered views x) xs → All (λ x. (x ≡ 0) ⊎ IsOffered last x) xs
  joined_reads xs = All-weaken (λ x. (x ≡ 0) ⊎ IsOffered views x) (λ x. (x ≡ 0) ⊎ IsOffered last x) xs (λ x h. cause_later x views last joined_grows h)

-- a seat takes in another, which is left with nothing
join_rule : (seats n : ℕ) (views : List View) (seat other : ℕ) (v w : View) → 0 < v.share → IsBest seats n views → get_elem? views seat ≡ some v → other ≢ seat
    → get_elem? (set views seat (both_of v w)) other ≡ some w → IsBest seats n (set (set views seat (both_of v w)) other (view_of 0 0 [] [] []))
join_rule seats n views seat other v w some_share is at apart to' =
    let b = both_of v w in let z = view_of 0 0 [] [] [] in
    let middle = set views seat b in let last = set middle other z in
    let to : get_elem? views other ≡ some w = sym (set_else views seat other b apart) ∙ to' in
    let both_at : get_elem? last seat ≡ some b = set_else middle other seat z (λ e. apart (sym e)) ∙ set_here views seat b v at in
    let stays : (j : ℕ) (u : View) → j ≢ seat → j ≢ other → get_elem? views j ≡ some u → get_elem? last j ≡ some u = λ j u ne nf e. set_else middle other j z nf ∙ (set_else views seat j b ne ∙ e) in
    let grows : Grows views last = joined_grows views last seat other v w both_at at to stays in
    let grows_else : (i : ℕ) → i ≢ seat → GrowsElse views last i = joined_grows_else views last seat other v w both_at at to stays in
    let reads = joined_reads views last seat other v w both_at at to stays in
    let old_v = is.each seat v at in
    let old_w = is.each other w to in
    let both : Fits seats last n seat b = record {
      whole = λ _. old_v.whole some_share;
      read_below = All-append (λ x. x ≤ n) v.read w.read old_v.read_below old_w.read_below;
      offered_below = All-append (λ x. x ≤ n) v.offered w.offered old_v.offered_below old_w.offered_below;
      read_cause = All-append (λ x. (x ≡ 0) ⊎ IsOffered last x) v.read w.read (reads v.read old_v.read_cause) (reads w.read old_w.read_cause);
      heard_cause = heard_by_both-cause views last seat other v w at to (λ j x ne nf o. (o.0, stays j o.0 ne nf o.1, o.2)) old_v.heard_cause old_w.heard_cause;
      idle = λ none. absurd (omega arith);
    } in
    let spent : (j : ℕ) → Fits seats last n j z = λ j. record {
      whole = λ h. absurd (omega arith);
      read_below = All-nil (λ x. x ≤ n);
      offered_below = All-nil (λ x. x ≤ n);
      read_cause = All-nil (λ x. (x ≡ 0) ⊎ IsOffered last x);
      heard_cause = All-nil (λ x. (x ≡ 0) ⊎ IsOfferedElse last j x);
      idle = λ _. (refl, refl, refl);
    } in
    record {
      shares = (let t = total_join (λ (u : View). u.share) views seat other v w b z at to' in let e = is.shares in omega (arith, t, e));
      word_cause = cause_later n views last grows is.word_cause;
      each = λ j u e. ⊎_elim (λ (h : (j ≡ other) × (z ≡ u)). subst (λ (k : View). Fits seats last n j k) h.1 (spent j))
          (λ (h : (j ≢ other) × (get_elem? middle j ≡ some u)). ⊎_elim (λ (g : (j ≡ seat) × (b ≡ u)). fits-moved seats last n b u seat j g.0 g.1 both)
          (λ (g : (j ≢ seat) × (get_elem? views j ≡ some u)). fits_later seats views last n n j u grows (grows_else j g.0) (le_refl n) (is.each j u g.1)) (at_set views seat j b u h.1)) (at_set middle other j z u e);
    }

pub splits : {S : Type 0} (seats seat : ℕ) (v : View) → 1 < v.share → Splits {S = S} (λ (s : State S View). Keeps seats s.words s.views) seat v (left_of v) (right_of v)
splits seats seat v two s holds at = record { placed = holds.placed; best = split_rule seats (slice_index s.words 16) s.views seat v two holds.best at }

pub joins : {S : Type 0} (seats seat other : ℕ) (v w : View) → 0 < v.share → Joins {S = S} (λ (s : State S View). Keeps seats s.words s.views) seat v other w (both_of v w) (view_of 0 0 [] [] [])
joins seats seat other v w some_share s holds at apart to = record { placed = holds.placed; best = join_rule seats (slice_index s.words 16) s.views seat other v w some_share holds.best at apart to }
