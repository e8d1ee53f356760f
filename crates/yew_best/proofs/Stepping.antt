-- A load, a load on behalf of a key, and a greatest-value exchange keep the rule.
use Rattle.std.proofs.Common.{◌≡◌, ℕ, ◌<◌, ◌≤◌, ◌≢◌, ◌⊎◌, List, [], ◌∷◌, length, set, refl, sym, subst, inl, inr, ⊎_elim, le_refl, arith, slice_index, max}
use Rattle.std.specs.Prelude.{Contains}
use Rattle.std.proofs.Math.ListN.{length-set}
use Rattle.std.proofs.lemmas.List.{get_or-set_same}
use Rattle.std.proofs.lemmas.List.Elements.{All-append, Contains-append_left}
use mathlib.Core.Option.{some}
use native.Mathlib.Decide.{dec_le}
use lib.ListN.{get_elem?}
use Rattle.atomic_table.specs.Table.{State, Me, keeps, Allows}
use Rattle.atomic_table.proofs.Lists.{set_again}
use Rattle.yew_laws.proofs.Views.{at_set, set_here, total_set}
use Rattle.yew_best.specs.declared.view.View.{View}
use Rattle.yew_best.specs.Views.{has_read, has_offered}
use Rattle.yew_best.specs.Rule.{IsOffered, Fits, IsBest, Keeps, Tells}
use Rattle.yew_best.proofs.Growth.{All-single, Contains-last, Stays, grows-stays, stays_set, fits-stays, fits-moved, cause_later, tells}
use Rattle.yew_best.proofs.Heard.{heard_after-cause}

-- one seat's view has changed and the word has not fallen
changed : (seats n m : ℕ) (views : List View) (seat : ℕ) (v w : View) → IsBest seats n views → get_elem? views seat ≡ some v
    → w.share ≡ v.share → n ≤ m → ((x : ℕ) → Contains v.offered x → Contains w.offered x)
    → (m ≡ 0) ⊎ IsOffered (set views seat w) m → Fits seats (set views seat w) m seat w → IsBest seats m (set views seat w)
changed seats n m views seat v w is at share up more cause fits = record {
  shares = (let t = total_set (λ (u : View). u.share) views seat v w at in let s = is.shares in omega (arith, t, s, share));
  word_cause = cause;
  each = λ j u e. ⊎_elim (λ (t : (j ≡ seat) × (w ≡ u)). fits-moved seats (set views seat w) m w u seat j t.0 t.1 fits)
      (λ (t : (j ≢ seat) × (get_elem? views j ≡ some u)). fits-stays seats views (set views seat w) n m j u (stays_set views seat v w at more) up (is.each j u t.1))
      (at_set views seat j w u e);
}

-- a seat has read the word
read_more : (seats n : ℕ) (views : List View) (seat : ℕ) (v : View) → 0 < v.share → IsBest seats n views → get_elem? views seat ≡ some v → IsBest seats n (set views seat (has_read v n))
read_more seats n views seat v some_share is at =
    let w = has_read v n in let later = set views seat w in
    let stays : Stays views later = stays_set views seat v w at (λ x h. h) in
    let was = fits-stays seats views later n n seat v stays (le_refl n) (is.each seat v at) in
    let cause : (n ≡ 0) ⊎ IsOffered later n = cause_later n views later (grows-stays views later stays) is.word_cause in
    changed seats n n views seat v w is at refl (le_refl n) (λ x h. h) cause record {
      whole = was.whole;
      read_below = All-append (λ x. x ≤ n) v.read (n ∷ []) was.read_below (All-single (λ x. x ≤ n) n (le_refl n));
      offered_below = was.offered_below;
      read_cause = All-append (λ x. (x ≡ 0) ⊎ IsOffered later x) v.read (n ∷ []) was.read_cause (All-single (λ x. (x ≡ 0) ⊎ IsOffered later x) n cause);
      heard_cause = heard_after-cause later seat w n v.heard (set_here views seat w v at) cause was.heard_cause;
      idle = λ none. absurd (omega arith);
    }

-- a seat has offered a key, after which the word is at least the key and is the word before or the key
offered_more : (seats n m key : ℕ) (views : List View) (seat : ℕ) (v : View) → 0 < v.share → IsBest seats n views → get_elem? views seat ≡ some v
    → n ≤ m → key ≤ m → (m ≡ n) ⊎ (m ≡ key) → IsBest seats m (set views seat (has_offered v key))
offered_more seats n m key views seat v some_share is at up over which =
    let w = has_offered v key in let later = set views seat w in
    let more : (x : ℕ) → Contains v.offered x → Contains w.offered x = λ x h. Contains-append_left v.offered (key ∷ []) x h in
    let stays : Stays views later = stays_set views seat v w at more in
    let was = fits-stays seats views later n m seat v stays up (is.each seat v at) in
    let here : IsOffered later key = (seat, (w, set_here views seat w v at, Contains-last v.offered key)) in
    let cause : (m ≡ 0) ⊎ IsOffered later m =
    ⊎_elim (λ (e : m ≡ n). subst (λ (k : ℕ). (k ≡ 0) ⊎ IsOffered later k) (sym e) (cause_later n views later (grows-stays views later stays) is.word_cause))
    (λ (e : m ≡ key). inr (subst (λ (k : ℕ). IsOffered later k) (sym e) here)) which in
    changed seats n m views seat v w is at refl up more cause record {
      whole = was.whole;
      read_below = was.read_below;
      offered_below = All-append (λ x. x ≤ m) v.offered (key ∷ []) was.offered_below (All-single (λ x. x ≤ m) key over);
      read_cause = was.read_cause;
      heard_cause = was.heard_cause;
      idle = λ none. absurd (omega arith);
    }

-- a new view and a new word keep the rule of the table
placed : (seats m : ℕ) (words : List ℕ) (views : List View) → 16 < length words → IsBest seats m views → Keeps seats (set words 16 m) views
placed seats m words views at is = record {
  placed = omega (arith, length-set words 16 m);
  best = subst (λ (k : ℕ). IsBest seats k views) (sym (get_or-set_same words 16 m 0 at)) is;
}

-- a load, which is read
pub reads : {S : Type 0} (seats slots seat : ℕ) (me : Me S View) → 0 < me.0.share
    → Allows (λ (s : State S View). Keeps seats s.words s.views) slots seat me 16 (λ n. n) (λ n after. (after ≡ (has_read me.0 n, me.1)) × Tells me.0 n)
reads seats slots seat me some_share s holds count at small =
    let v = me.0 in let n = slice_index s.words 16 in let w = has_read v n in
    let told = tells seats n s.views seat v some_share holds.best at in (
      w,
      keeps,
      tt,
      placed seats n s.words (set s.views seat w) holds.placed (read_more seats n s.views seat v some_share holds.best at),
      (refl, told),
    )

-- a load on behalf of a key, which is offered where the word is at least the key
pub compares : {S : Type 0} (seats slots seat key : ℕ) (me : Me S View) → 0 < me.0.share
    → Allows (λ (s : State S View). Keeps seats s.words s.views) slots seat me 16 (λ n. n) (λ n after. (key ≤ n → after ≡ (has_offered me.0 key, me.1)) × (n < key → after ≡ me) × Tells me.0 n)
compares seats slots seat key me some_share s holds count at small =
    let v = me.0 in let n = slice_index s.words 16 in
    let told = tells seats n s.views seat v some_share holds.best at in
    elim (dec_le key n) [
      | yes over ↦ (let w = has_offered v key in (
        w,
        keeps,
        tt,
        placed seats n s.words (set s.views seat w) holds.placed (offered_more seats n n key s.views seat v some_share holds.best at (le_refl n) over (inl refl)),
        ((λ _. refl), (λ (below : n < key). absurd (omega arith)), told),
      ))
      | no under ↦ (
        v,
        keeps,
        tt,
        placed seats n s.words (set s.views seat v) holds.placed (subst (λ (l : List View). IsBest seats n l) (sym (set_again s.views seat v at)) holds.best),
        ((λ over. absurd (under over)), (λ _. refl), told),
      )
    ]

-- a greatest-value exchange, whose key is offered
pub raises : {S : Type 0} (seats slots seat key : ℕ) (me : Me S View) → 0 < me.0.share
    → Allows (λ (s : State S View). Keeps seats s.words s.views) slots seat me 16 (λ n. max n key) (λ n after. (after ≡ (has_offered me.0 key, me.1)) × Tells me.0 n)
raises seats slots seat key me some_share s holds count at small =
    let v = me.0 in let n = slice_index s.words 16 in let w = has_offered v key in let m = max n key in
    let told = tells seats n s.views seat v some_share holds.best at in
    let up : n ≤ m = omega arith in
    let over : key ≤ m = omega arith in (
      w,
      keeps,
      tt,
      placed seats m s.words (set s.views seat w) holds.placed (offered_more seats n m key s.views seat v some_share holds.best at up over (max_is n key)),
      (refl, told),
    )
  where
    max_is : (a b : ℕ) → (max a b ≡ a) ⊎ (max a b ≡ b)
    max_is a b = grind arith
