-- A pool is made.
use Rattle.std.proofs.Common.{◌≡◌, ◌≢◌, ℕ, ◌+◌, ◌<◌, ◌≤◌, ◌∙◌, List, [], ◌∷◌, ◌++◌, ⊎_elim, length, set, get_or, sym, refl, ap, subst, length-append, arith}
use Rattle.std.specs.Prelude.{Option, false, sum_by}
use Rattle.std.proofs.lemmas.Bool.{cases_lt}
use Rattle.std.proofs.lemmas.List.{get_or_append_left, get_or-set_same, get_or-set_other, get_or-map, get_or_default, length-map, map-append}
use Rattle.std.proofs.lemmas.List.Elements.{All-push, All-nil}
use Rattle.std.proofs.lemmas.List.Sums.{sum_by_push}
use Rattle.std.proofs.Math.Seq.{map-set_same, get_or-append_seam}
use Rattle.std.proofs.Math.ListN.{length-set}
use native.Mathlib.Decide.{ℕ_discrete}
use Rattle.yew_pool.specs.declared.rule.Hand.{Hand}
use Rattle.yew_pool.specs.Rule.{hand, started, spent, left_of, right_of}
use Rattle.yew_pool.specs.Places.{DequeId, PlaceView}
use Rattle.yew_pool.specs.Closing.{deques}
use Rattle.yew_pool.specs.Making.{whole_among, AreOpened, IsOwner, AreOwners, IsNewPlace, IsRow, IsLaying, IsRowing}

pub at_front : {X : Type 0} (P : X → Type 0) (xs : List X) (x d : X) (k : ℕ) → k < length xs → P (get_or xs k d) → P (get_or (xs ++ x ∷ []) k d)
at_front P xs x d k below p = subst P (sym (get_or_append_left xs (x ∷ []) d k below)) p

pub at_end : {X : Type 0} (P : X → Type 0) (xs : List X) (x d : X) (k : ℕ) → k ≡ length xs → P x → P (get_or (xs ++ x ∷ []) k d)
at_end P xs x d k end p = subst P (sym (ap (λ j. get_or (xs ++ x ∷ []) j d) end ∙ get_or-append_seam xs x [] d)) p

module _ {T Q : Type 0} where
  pub opened_begins : (members : Option Q) (whole : ℕ) → AreOpened {T = T} members whole 0 [] []
  opened_begins members whole = record { told = All-nil (λ (own : PlaceView T Q). own.hand ≡ started whole members); long = refl; same = refl }

  pub opened_more : (members : Option Q) (whole count : ℕ) (ids : List DequeId) (owns : List (PlaceView T Q)) (own : PlaceView T Q)
      → AreOpened members whole count ids owns → own.hand ≡ started whole members
      → AreOpened members whole (count + 1) (ids ++ own.deque ∷ []) (owns ++ own ∷ [])
  opened_more members whole count ids owns own is told = record {
    told = All-push (λ (o : PlaceView T Q). o.hand ≡ started whole members) owns own is.told told;
    long = (let l = is.long in omega (arith, l, length-append owns (own ∷ [])));
    same = ap (λ (l : List DequeId). l ++ own.deque ∷ []) is.same ∙ sym (map-append (λ (p : PlaceView T Q). p.deque) owns (own ∷ []));
  }

  -- the same, as calls push a handle and an owner
  pub opened_more_as : (members : Option Q) (whole count : ℕ) (ids later_ids : List DequeId) (owns later : List (PlaceView T Q)) (id : DequeId)
      (own : PlaceView T Q) → AreOpened members whole count ids owns → own.hand ≡ started whole members
      → id ≡ own.deque → later_ids ≡ ids ++ id ∷ [] → later ≡ owns ++ own ∷ [] → AreOpened members whole (count + 1) later_ids later
  opened_more_as members whole count ids later_ids owns later id own is told same ids_are owns_are =
      subst (λ (t : List DequeId × List (PlaceView T Q)). AreOpened members whole (count + 1) t.0 t.1)
      (λ i. (sym (ids_are ∙ ap (λ (d : DequeId). ids ++ d ∷ []) same) i, sym owns_are i))
      (opened_more members whole count ids owns own is told)

  pub opened_ends : (members : Option Q) (whole count : ℕ) (ids : List DequeId) (owns : List (PlaceView T Q)) → AreOpened members whole count ids owns
      → AreOwners members whole 0 0 (deques owns) owns
  opened_ends members whole count ids owns is = record {
    ids_are = refl;
    done = λ number other less. absurd (omega arith);
    ahead = λ number other low below. owner number (get_or owns number other) (is.told number other below);
  }
    where
      owner : (number : ℕ) (own : PlaceView T Q) → own.hand ≡ started whole members → IsOwner members whole 0 number own
      owner number own told = record {
        hand = told ∙ ap (λ share. hand false whole share members [] []) (sym (ap (λ (v : Hand T Q). v.share) told));
        past = λ less. absurd (omega arith);
        coming = λ low. (let s = ap (λ (v : Hand T Q). v.share) told in omega (arith, s));
      }

  pub lays_begin : (members : Option Q) (whole number count : ℕ) (ids : List DequeId) (owns : List (PlaceView T Q))
      → AreOwners members whole number 0 ids owns → length owns ≡ count → IsLaying members whole number 0 count ids owns []
  lays_begin members whole number count ids owns are many = record {
    owners = are;
    places = record { each = λ at other below. absurd (omega arith); past = λ less. absurd (omega arith); coming = λ low. refl };
    long = refl;
    many = many;
  }

  owner_at : (members : Option Q) (whole number at count : ℕ) (ids : List DequeId) (owns row : List (PlaceView T Q)) (own : PlaceView T Q)
      → IsLaying members whole number at count ids owns row → at < count → own ≡ get_or owns at own
      → IsOwner members whole number at own
  owner_at members whole number at count ids owns row own is below here =
      subst (λ (o : PlaceView T Q). IsOwner members whole number at o) (sym here)
      (is.owners.ahead at own (omega arith) (let m = is.many in omega (arith, m, below)))

  -- an owner gives a part of its share away, and keeps one
  pub lays_at : (members : Option Q) (whole number at count : ℕ) (ids : List DequeId) (owns row : List (PlaceView T Q)) (own : PlaceView T Q)
      → IsLaying members whole number at count ids owns row → at < count → own ≡ get_or owns at own
      → whole ≡ whole_among count → number < count → at ≢ number → 1 < own.hand.share
  lays_at members whole number at count ids owns row own is below here all within other =
      let o = owner_at members whole number at count ids owns row own is below here in
      ⊎_elim (λ (h : at < number). let p = o.past h in omega (arith, p, all, within))
      (λ (h : number ≤ at). let p = o.coming h in omega (arith, p, all, within, below, other)) (cases_lt at number)

  owner_next : (members : Option Q) (whole number at : ℕ) (own new : PlaceView T Q) → IsOwner members whole number at own → (at ≢ number → 1 < own.hand.share)
      → (at ≡ number → new ≡ own) → (at ≢ number → new ≡ record own { hand = left_of own.hand }) → IsOwner members whole (number + 1) at new
  owner_next members whole number at own new is more own_place other_place = by_case (ℕ_discrete at number)
    where
      by_case : Dec (at ≡ number) → IsOwner members whole (number + 1) at new
      by_case (yes same) = subst (λ (o : PlaceView T Q). IsOwner members whole (number + 1) at o) (sym (own_place same)) record {
        hand = is.hand;
        past = λ less. (let c = is.coming (omega (arith, same)) in omega (arith, c));
        coming = λ low. absurd (omega (arith, same));
      }
      by_case (no other) = subst (λ (o : PlaceView T Q). IsOwner members whole (number + 1) at o) (sym (other_place other)) record {
        hand = ap (λ (v : Hand T Q). left_of v) is.hand;
        past = λ less. (let p = is.past (omega (arith, other)) in let m = more other in omega (arith, p, m));
        coming = λ low. (let p = is.coming (omega arith) in let m = more other in omega (arith, p, m));
      }

  new_place : (members : Option Q) (whole number at : ℕ) (ids : List DequeId) (own place : PlaceView T Q) → IsOwner members whole number at own
      → own.deque ≡ get_or ids at own.deque
      → (at ≡ number → place ≡ record { deque = own.deque; hand = spent; found_empty = 0 })
      → (at ≢ number → place ≡ record { deque = own.deque; hand = right_of own.hand; found_empty = 0 })
      → IsNewPlace members whole number at ids place
  new_place members whole number at ids own place is id idle other = by_case (ℕ_discrete at number)
    where
      by_case : Dec (at ≡ number) → IsNewPlace members whole number at ids place
      by_case (yes same) = subst (λ (p : PlaceView T Q). IsNewPlace members whole number at ids p)
          (sym (idle same)) record { deque = id; idle = λ _. refl; other = λ ne. absurd (ne same); found = refl }
      by_case (no ne) =
          subst (λ (p : PlaceView T Q). IsNewPlace members whole number at ids p)
          (sym (other ne)) record { deque = id; idle = λ e. absurd (ne e); other = λ _. ap (λ (v : Hand T Q). right_of v) is.hand; found = refl }

  row_more : (members : Option Q) (whole number at : ℕ) (ids : List DequeId) (row : List (PlaceView T Q)) (place : PlaceView T Q)
      → IsRow members whole number ids row → length row ≡ at → IsNewPlace members whole number at ids place
      → IsRow members whole number ids (row ++ place ∷ [])
  row_more members whole number at ids row place is long new = record {
    each = λ k d below. ⊎_elim (λ (h : k < length row). at_front (λ (p : PlaceView T Q). IsNewPlace members whole number k ids p) row place d k h
        (is.each k d h))
        (λ (h : length row ≤ k). last k d (omega (arith, below, h, length-append row (place ∷ [])))) (cases_lt k (length row));
    past = λ less. past_case less (ℕ_discrete at number);
    coming = λ low. (
        let l = length-append row (place ∷ []) in
        let c = is.coming (omega (arith, low, l)) in let o = ap (λ (v : Hand T Q). v.share) (new.other (omega (arith, low, l, long))) in
        let s = sum_by_push (λ (p : PlaceView T Q). p.hand.share) row place in omega (arith, c, o, s, l)
        );
  }
    where
      last : (k : ℕ) (d : PlaceView T Q) → k ≡ length row → IsNewPlace members whole number k ids (get_or (row ++ place ∷ []) k d)
      last k d end = at_end (λ (p : PlaceView T Q). IsNewPlace members whole number k ids p) row place d k end
          (subst (λ j. IsNewPlace members whole number j ids place) (sym (end ∙ long)) new)

      past_case : number < length (row ++ place ∷ []) → Dec (at ≡ number)
          → sum_by (λ (p : PlaceView T Q). p.hand.share) (row ++ place ∷ []) + 1 ≡ length (row ++ place ∷ [])
      past_case less (yes same) =
          let l = length-append row (place ∷ []) in let o = ap (λ (v : Hand T Q). v.share) (new.idle same) in let c = is.coming (omega (arith, same, long)) in
          let s = sum_by_push (λ (p : PlaceView T Q). p.hand.share) row place in omega (arith, c, o, s, l)
      past_case less (no other) =
          let l = length-append row (place ∷ []) in let o = ap (λ (v : Hand T Q). v.share) (new.other other) in
          let c = is.past (omega (arith, other, long, less, l)) in
          let s = sum_by_push (λ (p : PlaceView T Q). p.hand.share) row place in omega (arith, c, o, s, l)

  pub id_at : (ids : List DequeId) (owns : List (PlaceView T Q)) (at : ℕ) (own : PlaceView T Q) (d : DequeId) → deques owns ≡ ids → at < length owns
      → get_or ids at d ≡ (get_or owns at own).deque
  id_at ids owns at own d are below = ap (λ (l : List DequeId). get_or l at d) (sym are) ∙ get_or-map (λ (p : PlaceView T Q). p.deque) owns at own d below

  pub lays_more : (members : Option Q) (whole number at count : ℕ) (ids : List DequeId) (owns row : List (PlaceView T Q)) (own new place : PlaceView T Q)
      → IsLaying members whole number at count ids owns row → at < count
      → own ≡ get_or owns at own → whole ≡ whole_among count → number < count
      → (at ≡ number → new ≡ own) × (at ≢ number → new ≡ record own { hand = left_of own.hand })
      → (at ≡ number → place ≡ record { deque = own.deque; hand = spent; found_empty = 0 })
      → (at ≢ number → place ≡ record { deque = own.deque; hand = right_of own.hand; found_empty = 0 })
      → IsLaying members whole number (at + 1) count ids (set owns at new) (row ++ place ∷ [])
  lays_more members whole number at count ids owns row own new place is below here all within moved idle other =
      let below' : at < length owns = (let m = is.many in omega (arith, m, below)) in
      let is_owner = owner_at members whole number at count ids owns row own is below here in
      let next = owner_next members whole number at own new is_owner
      (lays_at members whole number at count ids owns row own is below here all within) moved.0 moved.1 in
      let here' : get_or owns at new ≡ own = get_or_default owns at new own below' ∙ sym here in
      let deque : new.deque ≡ own.deque = same_deque (ℕ_discrete at number) in record {
        owners = record {
          ids_are = map-set_same (λ (p : PlaceView T Q). p.deque) owns at new new (deque ∙ sym (ap (λ (p : PlaceView T Q). p.deque) here')) ∙ is.owners.ids_are;
          done = λ j d less long. done_at j d next (omega (arith, long, length-set owns at new)) less (ℕ_discrete j at);
          ahead = λ j d low long. subst (λ (o : PlaceView T Q). IsOwner members whole number j o) (sym (get_or-set_other owns at j new d (apart j low)))
              (is.owners.ahead j d (omega arith) (omega (arith, long, length-set owns at new)));
        };
        places = row_more members whole number at ids row place is.places is.long
            (new_place members whole number at ids own place is_owner
            (sym (id_at ids owns at own own.deque is.owners.ids_are below' ∙ ap (λ (p : PlaceView T Q). p.deque) (sym here))) idle other);
        long = (let l = is.long in omega (arith, l, length-append row (place ∷ [])));
        many = (let m = is.many in omega (arith, m, length-set owns at new));
      }
    where
      same_deque : Dec (at ≡ number) → new.deque ≡ own.deque
      same_deque (yes e) = ap (λ (p : PlaceView T Q). p.deque) (moved.0 e)
      same_deque (no ne) = ap (λ (p : PlaceView T Q). p.deque) (moved.1 ne)

      apart : (j : ℕ) → at + 1 ≤ j → j ≢ at
      apart j low = omega arith

      done_at : (j : ℕ) (d : PlaceView T Q) → IsOwner members whole (number + 1) at new → j < length owns → j < at + 1 → Dec (j ≡ at)
          → IsOwner members whole (number + 1) j (get_or (set owns at new) j d)
      done_at j d next long less (yes e) =
          subst (λ (t : ℕ × PlaceView T Q). IsOwner members whole (number + 1) t.0 t.1)
          (λ i. (sym e i, sym (ap (λ k. get_or (set owns at new) k d) e ∙ get_or-set_same owns at new d (omega (arith, long, e))) i)) next
      done_at j d next long less (no ne) =
          subst (λ (o : PlaceView T Q). IsOwner members whole (number + 1) j o) (sym (get_or-set_other owns at j new d ne))
          (is.owners.done j d (omega (arith, less, ne)) long)

  -- the same, as a call pushes the place
  pub lays_more_as : (members : Option Q) (whole number at count : ℕ) (ids : List DequeId) (owns row later : List (PlaceView T Q))
      (own new place : PlaceView T Q) → IsLaying members whole number at count ids owns row → at < count
      → own ≡ get_or owns at own → whole ≡ whole_among count → number < count
      → (at ≡ number → new ≡ own) × (at ≢ number → new ≡ record own { hand = left_of own.hand })
      → (at ≡ number → place ≡ record { deque = own.deque; hand = spent; found_empty = 0 })
      → (at ≢ number → place ≡ record { deque = own.deque; hand = right_of own.hand; found_empty = 0 })
      → later ≡ row ++ place ∷ [] → IsLaying members whole number (at + 1) count ids (set owns at new) later
  lays_more_as members whole number at count ids owns row later own new place is below here all within moved idle other pushed =
      subst (λ (l : List (PlaceView T Q)). IsLaying members whole number (at + 1) count ids (set owns at new) l) (sym pushed)
      (lays_more members whole number at count ids owns row own new place is below here all within moved idle other)

  pub lays_end : (members : Option Q) (whole number at count : ℕ) (ids : List DequeId) (owns row : List (PlaceView T Q))
      → IsLaying members whole number at count ids owns row → at ≡ count → AreOwners members whole (number + 1) 0 ids owns
  lays_end members whole number at count ids owns row is end = record {
    ids_are = is.owners.ids_are;
    done = λ j d less. absurd (omega arith);
    ahead = λ j d low below. is.owners.done j d (let m = is.many in omega (arith, m, end, below)) below;
  }

  -- the same owners, with what they are told by other names
  pub owners_as : (members : Option Q) (whole whole' made : ℕ) (ids ids' : List DequeId) (owns : List (PlaceView T Q)) → whole ≡ whole' → ids ≡ ids'
      → AreOwners members whole made 0 ids owns → AreOwners members whole' made 0 ids' owns
  owners_as members whole whole' made ids ids' owns same same_ids are =
      subst (λ (t : ℕ × List DequeId). AreOwners members t.0 made 0 t.1 owns) (λ i. (same i, same_ids i)) are

  pub rows_begin : (members : Option Q) (whole : ℕ) (owns : List (PlaceView T Q)) → AreOwners members whole 0 0 (deques owns) owns
      → IsRowing members whole 0 (deques owns) owns []
  rows_begin members whole owns are = record {
    owners = are;
    made = record { each = λ number row below. absurd (omega arith); long = λ number row below. absurd (omega arith) };
    long = refl;
    many = sym (length-map owns (λ (p : PlaceView T Q). p.deque));
  }

  pub rows_more : (members : Option Q) (whole number : ℕ) (ids : List DequeId) (owns later row : List (PlaceView T Q)) (rows : List (List (PlaceView T Q)))
      → IsRowing members whole number ids owns rows
      → AreOwners members (whole_among (length owns)) (number + 1) 0 (deques owns) later
      → IsRow members (whole_among (length owns)) number (deques owns) row → length row ≡ length owns → whole ≡ whole_among (length ids)
      → IsRowing members whole (number + 1) ids later (rows ++ row ∷ [])
  rows_more members whole number ids owns later row rows is owners' places' long' all =
      let whole_is : whole_among (length owns) ≡ whole = ap whole_among is.many ∙ sym all in
      let owners = owners_as members _ whole (number + 1) (deques owns) ids later whole_is is.owners.ids_are owners' in
      let places : IsRow members whole number ids row =
      subst (λ (t : ℕ × List DequeId). IsRow members t.0 number t.1 row) (λ i. (whole_is i, is.owners.ids_are i)) places' in record {
        owners = owners;
        made = record {
          each = λ k d below. ⊎_elim (λ (h : k < length rows). at_front (λ (r : List (PlaceView T Q)). IsRow members whole k ids r) rows row d k h
              (is.made.each k d h))
              (λ (h : length rows ≤ k). last k d (omega (arith, below, h, length-append rows (row ∷ []))) places) (cases_lt k (length rows));
          long = λ k d below. ⊎_elim (λ (h : k < length rows). at_front (λ (r : List (PlaceView T Q)). length r ≡ length ids) rows row d k h
              (is.made.long k d h))
              (λ (h : length rows ≤ k). at_end (λ (r : List (PlaceView T Q)). length r ≡ length ids) rows row d k
              (omega (arith, below, h, length-append rows (row ∷ []))) (long' ∙ is.many)) (cases_lt k (length rows));
        };
        long = (let l = is.long in omega (arith, l, length-append rows (row ∷ [])));
        many = sym (length-map later (λ (p : PlaceView T Q). p.deque)) ∙ ap (λ (l : List DequeId). length l) owners.ids_are;
      }
    where
      last : (k : ℕ) (d : List (PlaceView T Q)) → k ≡ length rows → IsRow members whole number ids row
          → IsRow members whole k ids (get_or (rows ++ row ∷ []) k d)
      last k d end places = at_end (λ (r : List (PlaceView T Q)). IsRow members whole k ids r) rows row d k end
          (subst (λ j. IsRow members whole j ids row) (sym (end ∙ is.long)) places)

  -- the same, as a call pushes the row
  pub rows_more_as : (members : Option Q) (whole number : ℕ) (ids : List DequeId) (owns later row : List (PlaceView T Q))
      (rows more : List (List (PlaceView T Q))) → IsRowing members whole number ids owns rows
      → AreOwners members (whole_among (length owns)) (number + 1) 0 (deques owns) later
      → IsRow members (whole_among (length owns)) number (deques owns) row → length row ≡ length owns → whole ≡ whole_among (length ids)
      → more ≡ rows ++ row ∷ [] → IsRowing members whole (number + 1) ids later more
  rows_more_as members whole number ids owns later row rows more is owners places long all pushed =
      subst (λ (l : List (List (PlaceView T Q))). IsRowing members whole (number + 1) ids later l) (sym pushed)
      (rows_more members whole number ids owns later row rows is owners places long all)
