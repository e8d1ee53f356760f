-- All passes are put together, deque by deque, and each deque is emptied.
use Rattle.std.proofs.Common.{◌≡◌, ℕ, ◌+◌, ◌<◌, ◌≤◌, ◌∙◌, ◌-◌, zero, suc, List, [], ◌∷◌, ◌++◌, length, set, get_or, sym, refl, ap, subst, append_assoc}
use Rattle.std.proofs.Common.{append-nil, length-append, arith}
use Rattle.std.specs.Prelude.{All, sum_by}
use Rattle.std.proofs.lemmas.List.Elements.{All-push, All-nil}
use Rattle.std.proofs.lemmas.List.Sums.{sum_by_push, sum_by-cons, sum_by-append, sum_by-set}
use Rattle.std.proofs.Math.Seq.{map-set_same}
use Rattle.std.proofs.lemmas.List.{map-append, get_or_append_left}
use Rattle.std.proofs.Math.Seq.{get_or-append_seam}
use native.Mathlib.Decide.{ℕ_discrete}
use Rattle.yew_laws.specs.Bag.{SameBag, PartOfBag}
use Rattle.yew_pool.specs.Rule.{both_of, Balances}
use Rattle.yew_pool.specs.Places.{DequeId, PlaceView}
use Rattle.yew_pool.specs.Closing.{deques, share_of, whole_of, IsFolding, IsDraining, Settled, AreSettled}
use Rattle.yew_pool.proofs.Taking.{taken}

tail : {X : Type 0} → List X → List X
tail [] = []
tail (x ∷ xs) = xs

module _ {T Q : Type 0} where
  abbrev pub joined : PlaceView T Q → PlaceView T Q → PlaceView T Q
  joined own place = record { deque = own.deque; hand = both_of own.hand place.hand; found_empty = own.found_empty }

  -- where the next place is of the deque with its number
  pub at_seam : (now rest : List (PlaceView T Q)) (place d : PlaceView T Q) (more : List DequeId) → deques now ≡ deques (rest ++ place ∷ []) ++ more
      → (length rest < length now) × ((get_or now (length rest) d).deque ≡ place.deque)
  unfolding tail
  at_seam [] [] place d more e = absurd (let l = ap (λ (xs : List DequeId). length xs) e in omega arith)
  at_seam [] (r ∷ rs) place d more e = absurd (let l = ap (λ (xs : List DequeId). length xs) e in omega arith)
  at_seam (n ∷ ns) [] place d more e = (omega arith, ap (λ (xs : List DequeId). get_or xs 0 place.deque) e)
  at_seam (n ∷ ns) (r ∷ rs) place d more e = let next = at_seam ns rs place d more (ap (λ (xs : List DequeId). tail xs) e) in (omega (arith, next.0), next.1)

  pub fold_begins : (before row : List (PlaceView T Q)) → deques before ≡ deques row → IsFolding before row row before
  fold_begins before row e = record {
    more = [];
    ahead = e ∙ sym (append-nil _);
    same = refl;
    members = refl;
    wholes = refl;
    shares = refl;
    put = λ h. refl;
    took = λ h. refl;
  }

  -- the next place of the row belongs to the owner at its number
  pub fold_at : (before row more rest now : List (PlaceView T Q)) (place d : PlaceView T Q) → IsFolding before row more now → more ≡ rest ++ place ∷ []
      → (length rest < length now) × ((get_or now (length rest) d).deque ≡ place.deque)
  fold_at before row more rest now place d is e =
      at_seam now rest place d is.more (is.same ∙ (is.ahead ∙ ap (λ (l : List (PlaceView T Q)). deques l ++ is.more) e))

  pub fold_more : (before row more rest now : List (PlaceView T Q)) (place own : PlaceView T Q) → IsFolding before row more now → more ≡ rest ++ place ∷ []
      → get_or now (length rest) own ≡ own
      → IsFolding before row rest (set now (length rest) (joined own place))
  fold_more before row more rest now place own is' e here =
      let is : IsFolding before row (rest ++ place ∷ []) now = subst (λ (l : List (PlaceView T Q)). IsFolding before row l now) e is' in
      let k = length rest in let w = joined own place in
      let within = (at_seam now rest place own is.more (is.same ∙ is.ahead)).0 in record {
        more = place.deque ∷ is.more;
        ahead = is.ahead ∙ (ap (λ (l : List DequeId). l ++ is.more) (map-append (λ (p : PlaceView T Q). p.deque) rest (place ∷ []))
            ∙ append_assoc (deques rest) (place.deque ∷ []) is.more);
        same = map-set_same (λ (p : PlaceView T Q). p.deque) now k w own (sym (ap (λ (p : PlaceView T Q). p.deque) here)) ∙ is.same;
        members = map-set_same (λ (p : PlaceView T Q). p.hand.members) now k w own (sym (ap (λ (p : PlaceView T Q). p.hand.members) here)) ∙ is.members;
        wholes = (let f : PlaceView T Q → ℕ = λ p. p.hand.whole in let s = sum_by-set f now k w own within in let a = ap f here in let i = is.wholes in
            omega (arith, s, a, i));
        shares = (
            let f : PlaceView T Q → ℕ = λ p. p.hand.share in let s = sum_by-set f now k w own within in let a = ap f here in
            let b = sum_by_push f rest place in let i = is.shares in omega (arith, s, a, b, i)
            );
        put = λ h. (
            let f : PlaceView T Q → ℕ = λ p. sum_by h p.hand.put in let s = sum_by-set f now k w own within in let a = ap f here in
            let b = sum_by_push f rest place in let c = sum_by-append h own.hand.put place.hand.put in let i = is.put h in omega (arith, s, a, b, c, i)
            );
        took = λ h. (
            let f : PlaceView T Q → ℕ = λ p. sum_by h p.hand.took in let s = sum_by-set f now k w own within in let a = ap f here in
            let b = sum_by_push f rest place in let c = sum_by-append h own.hand.took place.hand.took in let i = is.took h in omega (arith, s, a, b, c, i)
            );
      }

  -- the same, as a call picks the number and the new owner
  pub fold_at_as : (before row more rest now : List (PlaceView T Q)) (place d : PlaceView T Q) (k : ℕ) → k ≡ length rest → IsFolding before row more now
      → more ≡ rest ++ place ∷ [] → (k < length now) × ((get_or now k d).deque ≡ place.deque)
  fold_at_as before row more rest now place d k len is e =
      subst (λ (j : ℕ). (j < length now) × ((get_or now j d).deque ≡ place.deque)) (sym len) (fold_at before row more rest now place d is e)

  pub fold_more_as : (before row more rest now : List (PlaceView T Q)) (place own w : PlaceView T Q) (k : ℕ) → k ≡ length rest
      → IsFolding before row more now → more ≡ rest ++ place ∷ [] → own ≡ get_or now k own
      → w ≡ joined own place → IsFolding before row rest (set now k w)
  fold_more_as before row more rest now place own w k len is e here step =
      subst (λ (t : ℕ × PlaceView T Q). IsFolding before row rest (set now t.0 t.1)) (λ i. (sym len i, sym step i))
      (fold_more before row more rest now place own is e (sym (here ∙ ap (λ (j : ℕ). get_or now j own) len)))

  pub drain_begins : (sound : T → Type 0) (before : List T) (own : PlaceView T Q) → PartOfBag own.hand.took own.hand.put
      → IsDraining sound before before own own
  drain_begins sound before own part = record {
    rest = [];
    appended = sym (append-nil _);
    share = refl;
    whole = refl;
    members = refl;
    put = refl;
    took = sym (append-nil _);
    sound_rest = All-nil sound;
    part = part;
  }

  pub drain_more : (sound : T → Type 0) (before after later : List T) (first now next : PlaceView T Q) (x : T) → IsDraining sound before after first now
      → next ≡ taken now x → sound x → PartOfBag (now.hand.took ++ x ∷ []) now.hand.put
      → later ≡ after ++ x ∷ [] → IsDraining sound before later first next
  drain_more sound before after later first now next x is step good part longer = record {
    rest = is.rest ++ x ∷ [];
    appended = longer ∙ (ap (λ l. l ++ x ∷ []) is.appended ∙ append_assoc before is.rest (x ∷ []));
    share = ap (λ (t : PlaceView T Q). t.hand.share) step ∙ is.share;
    whole = ap (λ (t : PlaceView T Q). t.hand.whole) step ∙ is.whole;
    members = ap (λ (t : PlaceView T Q). t.hand.members) step ∙ is.members;
    put = ap (λ (t : PlaceView T Q). t.hand.put) step ∙ is.put;
    took = ap (λ (t : PlaceView T Q). t.hand.took) step ∙ (ap (λ l. l ++ x ∷ []) is.took ∙ append_assoc first.hand.took is.rest (x ∷ []));
    sound_rest = All-push sound is.rest x is.sound_rest good;
    part = subst (λ (t : PlaceView T Q). PartOfBag t.hand.took t.hand.put) (sym step) part;
  }

  -- with the whole share each task that is taken lessens what can still be taken
  pub drains_less : (now next : PlaceView T Q) (x : T) → next ≡ taken now x → PartOfBag (now.hand.took ++ x ∷ []) now.hand.put
      → length next.hand.put - length next.hand.took < length now.hand.put - length now.hand.took
  drains_less now next x step part =
      let a = ap (λ (t : PlaceView T Q). length t.hand.put) step in let b = ap (λ (t : PlaceView T Q). length t.hand.took) step in
      let c = part.weighs (λ _. 1) in let d = ones (now.hand.took ++ x ∷ []) in let e = ones now.hand.put in let f = longer now.hand.took x in
      omega (arith, a, b, c, d, e, f)
    where
      ones : (xs : List T) → sum_by (λ _. 1) xs ≡ length xs
      ones [] = refl
      ones (y ∷ ys) = let n = ones ys in omega (arith, n, sum_by-cons (λ _. 1) y ys)

      longer : (xs : List T) (y : T) → length (xs ++ y ∷ []) ≡ length xs + 1
      longer [] y = refl
      longer (z ∷ zs) y = let n = longer zs y in omega (arith, n)

  pub drain_ends : (own : PlaceView T Q) → own.hand.share ≡ own.hand.whole → Balances own.hand [] → SameBag own.hand.took own.hand.put
  drain_ends own whole balances = record { weighs = λ h. (let b = balances whole h in omega (arith, b)) }

  -- owners none of whom has more than the whole share, and whose shares add up to the wholes, have the whole share each
  pub last_whole : (owns : List (PlaceView T Q)) (own : PlaceView T Q) → All (λ (o : PlaceView T Q). o.hand.share ≤ o.hand.whole) (owns ++ own ∷ [])
      → share_of (owns ++ own ∷ []) ≡ whole_of (owns ++ own ∷ [])
      → (own.hand.share ≡ own.hand.whole) × (share_of owns ≡ whole_of owns)
  last_whole owns own most same =
      let a = sum_by_push (λ (o : PlaceView T Q). o.hand.share) owns own in let b = sum_by_push (λ (o : PlaceView T Q). o.hand.whole) owns own in
      let l = below owns (λ k d h. subst (λ (o : PlaceView T Q). o.hand.share ≤ o.hand.whole) (get_or_append_left owns (own ∷ []) d k h)
      (most k d (omega (arith, h, length-append owns (own ∷ []))))) in
      let m = subst (λ (o : PlaceView T Q). o.hand.share ≤ o.hand.whole) (get_or-append_seam owns own [] own)
      (most (length owns) own (omega (arith, length-append owns (own ∷ [])))) in
      (omega (arith, a, b, l, m, same), omega (arith, a, b, l, m, same))
    where
      below : (os : List (PlaceView T Q)) → All (λ (o : PlaceView T Q). o.hand.share ≤ o.hand.whole) os → share_of os ≤ whole_of os
      below [] all = omega arith
      below (o ∷ os) all =
          let h : o.hand.share ≤ o.hand.whole = all 0 o (omega arith) in let r = below os (λ k d h. all (suc k) d (omega (arith, h))) in
          let a = sum_by-cons (λ (p : PlaceView T Q). p.hand.share) o os in let b = sum_by-cons (λ (p : PlaceView T Q). p.hand.whole) o os in
          omega (arith, h, r, a, b)

  set_same : (l : List (PlaceView T Q)) (k : ℕ) (w d : PlaceView T Q) → w ≡ get_or l k d → set l k w ≡ l
  set_same [] k w d e = refl
  set_same (x ∷ xs) zero w d e = ap (λ (y : PlaceView T Q). y ∷ xs) e
  set_same (x ∷ xs) (suc k) w d e = ap (λ (l : List (PlaceView T Q)). x ∷ l) (set_same xs k w d e)

  same_default : (l : List (PlaceView T Q)) (i : ℕ) (a b : PlaceView T Q) → i < length l → get_or l i a ≡ get_or l i b
  same_default [] i a b h = absurd (omega arith)
  same_default (x ∷ xs) zero a b h = refl
  same_default (x ∷ xs) (suc i) a b h = same_default xs i a b (omega (arith, h))

  pub settle_begins : (before : List (PlaceView T Q)) → AreSettled before 0 before
  settle_begins before = record { same = refl; each = λ number d below within. absurd (omega arith) }

  pub settle_more : (before now : List (PlaceView T Q)) (k : ℕ) (own w : PlaceView T Q) → AreSettled before k now → own ≡ get_or now k own → w ≡ own
      → own.hand.share ≤ own.hand.whole → (own.hand.share ≡ own.hand.whole → PartOfBag own.hand.took own.hand.put)
      → k < length now → AreSettled before (suc k) (set now k w)
  settle_more before now k own w is here step most part within = record {
    same = set_same now k w own (step ∙ here) ∙ is.same;
    each = λ j d below inside. pick j d inside (ℕ_discrete j k) below;
  }
    where
      pick : (j : ℕ) (d : PlaceView T Q) → j < length before → Dec (j ≡ k) → j < suc k → Settled (get_or before j d)
      pick j d inside (yes e) below =
          subst (λ (t : PlaceView T Q). Settled t)
          (here ∙ (same_default now k own d within
          ∙ (ap (λ (l : List (PlaceView T Q)). get_or l k d) is.same ∙ ap (λ (i : ℕ). get_or before i d) (sym e)))) record { most = most; part = part }
      pick j d inside (no ne) below = is.each j d (omega arith) inside

  pub settle_ends : (before now : List (PlaceView T Q)) (k : ℕ) → AreSettled before k now → length before ≤ k → All Settled before
  settle_ends before now k is enough = λ j d h. is.each j d (omega (arith, h, enough)) h
