-- Each step of a pass keeps the rule of a deque.
use Rattle.std.proofs.Common.{length-append, ◌≡◌, ℕ, ◌+◌, ◌<◌, ◌≢◌, ◌∙◌, true, false, List, [], ◌∷◌, ◌++◌, set, refl, sym, ap, subst, inl, inr, ⊎_elim}
use Rattle.std.proofs.Common.{arith, zero, suc}
use Rattle.std.specs.Prelude.{All, sum_by, Option, Some, None}
use Rattle.std.proofs.lemmas.List.Elements.{All-append, All-nil}
use Rattle.std.proofs.lemmas.List.Sums.{sum_by_push, sum_by-append}
use mathlib.Core.Option.{some, some-injective, some-ne-none}
use Rattle.std.proofs.lemmas.List.{get_or_append_left}
use lib.ListN.{get_elem?}
use Rattle.crossbeam_deque.specs.Tasks as tasks
use Rattle.crossbeam_deque.specs.Tasks.{Pushes, Finds, FindsFew, Forks, Merges, Learns}
use Rattle.yew_laws.proofs.Views.{at_set, at_snoc, total_set, total_split, total_join, one_part, two_parts, total_alone}
use Rattle.yew_pool.specs.declared.rule.Hand.{Hand}
use Rattle.yew_pool.specs.Rule.{hand, unopened, spent, started, has_put, left_of, right_of, both_of, Fits, IsUnopened, IsOpen, Conserved, Balances, Takes}
use Rattle.yew_pool.specs.Rule.{Settles}

All-single : {X : Type 0} (P : X → Type 0) (x : X) → P x → All P (x ∷ [])
All-single P x p zero d h = p
All-single P x p (suc k) d h = absurd (omega arith)

All-left : {X : Type 0} (P : X → Type 0) (xs ys : List X) → All P (xs ++ ys) → All P xs
All-left P xs ys a k d h = subst P (get_or_append_left xs ys d k h) (a k d (omega (arith, length-append xs ys)))

All-right : {X : Type 0} (P : X → Type 0) (xs ys : List X) → All P (xs ++ ys) → All P ys
All-right P [] ys a = a
All-right P (x ∷ xs) ys a = All-right P xs ys (λ k d h. a (suc k) d (omega arith))

module _ {T Q : Type 0} (sound : Q → T → Type 0) where
  -- a pass with a share has been told the members
  open_of : (items : List T) (views : List (Hand T Q)) (pass : ℕ) (v : Hand T Q) → 0 < v.share → Conserved sound items views → get_elem? views pass ≡ some v
      → (members : Q) × (whole : ℕ) × IsOpen sound members whole items views
  open_of items views pass v some_share holds at =
      ⊎_elim (λ (u : IsUnopened sound items views). absurd
      (shareless pass v some_share (subst (λ (l : List (Hand T Q)). get_elem? l pass ≡ some v) u.alone at))) (λ o. o) holds
    where
      shareless : (j : ℕ) (u : Hand T Q) → 0 < u.share → get_elem? (unopened ∷ []) j ≡ some u → ⊥
      shareless zero u h e = let s = ap (λ (w : Hand T Q). w.share) (some-injective unopened u e) in omega arith
      shareless (suc j) u h e = some-ne-none u (sym e)

  fits_spent : (members : Q) (whole : ℕ) → Fits {T = T} members whole spent
  fits_spent members whole = record { told = refl; mine = λ (h : 0 < 0). absurd (omega arith); idle = λ _. (refl, refl) }

  fits_started : (members : Q) (whole : ℕ) → Fits {T = T} members whole (started whole (Some members))
  fits_started members whole = record { told = refl; mine = λ _. (refl, refl); idle = λ _. (refl, refl) }

  -- one pass's view and the contents have changed
  changed : (members : Q) (whole : ℕ) (items after : List T) (views : List (Hand T Q)) (pass : ℕ) (v w : Hand T Q) → IsOpen sound members whole items views
      → get_elem? views pass ≡ some v
      → w.share ≡ v.share → Fits members whole w
      → ((h : T → ℕ) → (sum_by h w.put + sum_by h v.took) + sum_by h items ≡ (sum_by h v.put + sum_by h w.took) + sum_by h after)
      → All (sound members) after → Conserved sound after (set views pass w)
  changed members whole items after views pass v w is at share fits moved sounds = inr (
    members,
    whole,
    record {
      shares = (let t = total_set (λ (u : Hand T Q). u.share) views pass v w at in let e = is.shares in omega (arith, t, e, share));
      bag = λ h. (
          let t = total_set (λ (u : Hand T Q). sum_by h u.put) views pass v w at in
          let s = total_set (λ (u : Hand T Q). sum_by h u.took) views pass v w at in
          let e = is.bag h in let m = moved h in omega (arith, t, s, e, m)
          );
      sound_items = sounds;
      each = λ j u e. ⊎_elim (λ (t : (j ≡ pass) × (w ≡ u)). subst (λ (k : Hand T Q). Fits members whole k) t.1 fits)
          (λ (t : (j ≢ pass) × (get_elem? views j ≡ some u)). is.each j u t.1) (at_set views pass j w u e);
    },
  )

  pub some_injective : (a b : Q) → Some a ≡ Some b → a ≡ b
  some_injective a b e = ap (λ (o : Option Q). elim o as (λ _. Q) [ Some x ↦ x | None ↦ a ]) e

  -- with the whole share, only this pass has put and taken
  balances : (members : Q) (whole : ℕ) (items : List T) (views : List (Hand T Q)) (pass : ℕ) (v : Hand T Q) → 0 < v.share
      → IsOpen sound members whole items views → get_elem? views pass ≡ some v → Balances v items
  balances members whole items views pass v some_share is at all h =
      let mine = (is.each pass v at).mine some_share in
      let others : (j : ℕ) (u : Hand T Q) → j ≢ pass → get_elem? views j ≡ some u → (u.put ≡ []) × (u.took ≡ []) = λ j u ne e. (is.each j u e).idle (
      let t = two_parts (λ (u : Hand T Q). u.share) views pass j v u ne at e in let s = is.shares in let m = mine.1 in omega (arith, t, s, m, all)) in
      let put = total_alone (λ (u : Hand T Q). sum_by h u.put) views pass v at (λ j u ne e. ap (λ (l : List T). sum_by h l) (others j u ne e).0) in
      let took = total_alone (λ (u : Hand T Q). sum_by h u.took) views pass v at (λ j u ne e. ap (λ (l : List T). sum_by h l) (others j u ne e).1) in
      let e = is.bag h in omega (arith, put, took, e)

  pub pushes : (pass : ℕ) (v : Hand T Q) (x : T) → 0 < v.share → ((members : Q) → v.members ≡ Some members → sound members x)
      → Pushes (Conserved sound) pass v (x ∷ []) (λ w. w ≡ hand v.fresh v.whole v.share v.members (v.put ++ x ∷ []) v.took)
  pushes pass v x some_share good items views holds at =
      let o = open_of items views pass v some_share holds at in let is = o.2 in let fits = is.each pass v at in let mine = fits.mine some_share in (
        has_put v x,
        changed o.0 o.1 items (items ++ x ∷ []) views pass v (has_put v x) is at refl
            record { told = fits.told; mine = λ _. mine; idle = λ none. absurd (omega arith) }
            (λ h. let a = sum_by_push h v.put x in let b = sum_by_push h items x in omega (arith, a, b))
            (All-append (sound o.0) items (x ∷ []) is.sound_items (All-single (sound o.0) x (good o.0 mine.0))),
        refl,
      )

  pub takes : (pass : ℕ) (v : Hand T Q) → 0 < v.share → tasks.Takes (Conserved sound) pass v 1 (Takes sound v)
  takes pass v some_share xs items views any one holds at =
      let o = open_of (xs ++ items) views pass v some_share holds at in let is = o.2 in let fits = is.each pass v at in let mine = fits.mine some_share in
      let w = hand v.fresh v.whole v.share v.members v.put (v.took ++ xs) in (
        w,
        changed o.0 o.1 (xs ++ items) items views pass v w is at refl
            record { told = fits.told; mine = λ _. mine; idle = λ none. absurd (omega arith) }
            (λ h. let a = sum_by-append h v.took xs in let b = sum_by-append h xs items in omega (arith, a, b))
            (All-right (sound o.0) xs items is.sound_items),
        record {
          view = refl;
          is_sound = λ members told. subst (λ (p : Q). All (sound p) xs) (some_injective o.0 members (sym mine.0 ∙ told))
              (All-left (sound o.0) xs items is.sound_items);
          more = λ all h. (let e = balances o.0 o.1 (xs ++ items) views pass v some_share is at all h in let b = sum_by-append h xs items in
              let d = sum_by-append h v.took xs in omega (arith, e, b, d));
        },
      )

  pub learns : (pass : ℕ) (v : Hand T Q) → 0 < v.share → Learns (Conserved sound) pass v (Balances v)
  learns pass v some_share items views holds at =
      let o = open_of items views pass v some_share holds at in balances o.0 o.1 items views pass v some_share o.2 at

  pub finds : (pass : ℕ) (v : Hand T Q) → 0 < v.share → Finds (Conserved sound) pass v (Balances v [])
  finds pass v some_share views holds at = learns pass v some_share [] views holds at

  pub settles : (pass : ℕ) (v : Hand T Q) → 0 < v.share → Learns (Conserved sound) pass v (λ _. Settles v)
  settles pass v some_share items views holds at =
      let o = open_of items views pass v some_share holds at in let mine = (o.2.each pass v at).mine some_share in record {
        most = (let t = one_part (λ (u : Hand T Q). u.share) views pass v at in let s = o.2.shares in let m = mine.1 in omega (arith, t, s, m));
        part = λ all h. (let b = balances o.0 o.1 items views pass v some_share o.2 at all h in omega (arith, b));
      }

  pub forks : (pass : ℕ) (v : Hand T Q) → 1 < v.share → Forks (Conserved sound) pass v (left_of v) (right_of v)
  forks pass v two items views holds at =
      let o = open_of items views pass v (omega arith) holds at in let is = o.2 in let fits = is.each pass v at in let mine = fits.mine (omega arith) in
      let w = left_of v in let x = right_of v in let middle = set views pass w in
      let left : Fits o.0 o.1 w = record { told = fits.told; mine = λ _. mine; idle = λ none. absurd (omega arith) } in
      let right : Fits o.0 o.1 x = record { told = fits.told; mine = λ _. mine; idle = λ none. absurd (omega arith) } in
      inr (
        o.0,
        o.1,
        record {
          shares = (let t = total_split (λ (u : Hand T Q). u.share) views pass v w x at in let e = is.shares in omega (arith, t, e));
          bag = λ h. (
              let t = total_split (λ (u : Hand T Q). sum_by h u.put) views pass v w x at in
              let s = total_split (λ (u : Hand T Q). sum_by h u.took) views pass v w x at in let e = is.bag h in omega (arith, t, s, e)
              );
          sound_items = is.sound_items;
          each = λ j u e. ⊎_elim (λ (t : get_elem? middle j ≡ some u). ⊎_elim (λ (g : (j ≡ pass) × (w ≡ u)). subst (λ (k : Hand T Q). Fits o.0 o.1 k) g.1 left)
              (λ (g : (j ≢ pass) × (get_elem? views j ≡ some u)). is.each j u g.1) (at_set views pass j w u t))
              (λ (t : x ≡ u). subst (λ (k : Hand T Q). Fits o.0 o.1 k) t right) (at_snoc middle x u j e);
        },
      )

  -- an idle pass is made
  pub rests : (pass : ℕ) (v : Hand T Q) → 0 < v.share → Forks (Conserved sound) pass v v spent
  rests pass v some_share items views holds at =
      let o = open_of items views pass v some_share holds at in let is = o.2 in let fits = is.each pass v at in let mine = fits.mine some_share in
      let x = spent {T = T} {Q = Q} in let middle = set views pass v in
      inr (
        o.0,
        o.1,
        record {
          shares = (let t = total_split (λ (u : Hand T Q). u.share) views pass v v x at in let e = is.shares in omega (arith, t, e));
          bag = λ h. (
              let t = total_split (λ (u : Hand T Q). sum_by h u.put) views pass v v x at in
              let s = total_split (λ (u : Hand T Q). sum_by h u.took) views pass v v x at in let e = is.bag h in omega (arith, t, s, e)
              );
          sound_items = is.sound_items;
          each = λ j u e. ⊎_elim (λ (t : get_elem? middle j ≡ some u). ⊎_elim (λ (g : (j ≡ pass) × (v ≡ u)). subst (λ (k : Hand T Q). Fits o.0 o.1 k) g.1 fits)
              (λ (g : (j ≢ pass) × (get_elem? views j ≡ some u)). is.each j u g.1) (at_set views pass j v u t))
              (λ (t : x ≡ u). subst (λ (k : Hand T Q). Fits o.0 o.1 k) t (fits_spent o.0 o.1)) (at_snoc middle x u j e);
        },
      )

  -- all that a pass knows goes to a new one
  pub moves : (pass : ℕ) (v : Hand T Q) → 0 < v.share → Forks (Conserved sound) pass v spent v
  moves pass v some_share items views holds at =
      let o = open_of items views pass v some_share holds at in let is = o.2 in let fits = is.each pass v at in
      let w = spent {T = T} {Q = Q} in let middle = set views pass w in
      inr (
        o.0,
        o.1,
        record {
          shares = (let t = total_split (λ (u : Hand T Q). u.share) views pass v w v at in let e = is.shares in omega (arith, t, e));
          bag = λ h. (
              let t = total_split (λ (u : Hand T Q). sum_by h u.put) views pass v w v at in
              let s = total_split (λ (u : Hand T Q). sum_by h u.took) views pass v w v at in let e = is.bag h in omega (arith, t, s, e)
              );
          sound_items = is.sound_items;
          each = λ j u e. ⊎_elim (λ (t : get_elem? middle j ≡ some u). ⊎_elim
              (λ (g : (j ≡ pass) × (w ≡ u)). subst (λ (k : Hand T Q). Fits o.0 o.1 k) g.1 (fits_spent o.0 o.1))
              (λ (g : (j ≢ pass) × (get_elem? views j ≡ some u)). is.each j u g.1) (at_set views pass j w u t))
              (λ (t : v ≡ u). subst (λ (k : Hand T Q). Fits o.0 o.1 k) t fits) (at_snoc middle v u j e);
        },
      )

  pub merges : (pass other : ℕ) (v w : Hand T Q) → 0 < v.share → Merges (Conserved sound) pass v other w (both_of v w) spent
  merges pass other v w some_share items views holds at apart to =
      let o = open_of items views pass v some_share holds at in let is = o.2 in let fits = is.each pass v at in let mine = fits.mine some_share in
      let b = both_of v w in let middle = set views pass b in
      let both : Fits o.0 o.1 b = record { told = fits.told; mine = λ _. mine; idle = λ none. absurd (omega arith) } in
      let gone = fits_spent o.0 o.1 in
      inr (
        o.0,
        o.1,
        record {
          shares = (let t = total_join (λ (u : Hand T Q). u.share) views pass other v w b spent at to in let e = is.shares in omega (arith, t, e));
          bag = λ h. (
              let t = total_join (λ (u : Hand T Q). sum_by h u.put) views pass other v w b spent at to in
              let s = total_join (λ (u : Hand T Q). sum_by h u.took) views pass other v w b spent at to in
              let a = sum_by-append h v.put w.put in let c = sum_by-append h v.took w.took in
              let e = is.bag h in omega (arith, t, s, e, a, c)
              );
          sound_items = is.sound_items;
          each = λ j u e. ⊎_elim (λ (g : (j ≡ other) × (spent ≡ u)). subst (λ (k : Hand T Q). Fits o.0 o.1 k) g.1 gone)
              (λ (t : (j ≢ other) × (get_elem? middle j ≡ some u)). ⊎_elim (λ (g : (j ≡ pass) × (b ≡ u)). subst (λ (k : Hand T Q). Fits o.0 o.1 k) g.1 both)
              (λ (g : (j ≢ pass) × (get_elem? views j ≡ some u)). is.each j u g.1) (at_set views pass j b u t.1)) (at_set middle other j spent u e);
        },
      )

  -- the first pass is told the members and the whole share
  pub starts : (pass whole : ℕ) (members : Q) → Forks (Conserved sound) pass unopened (started whole (Some members)) spent
  starts pass whole members items views holds at =
      ⊎_elim (λ (u : IsUnopened sound items views). opened u.empty u.alone) (λ o. absurd (untold ((o.2.each pass unopened at).told))) holds
    where
      untold : true ≡ false → ⊥
      untold e = cc

      first_alone : (j : ℕ) → get_elem? (unopened {T = T} {Q = Q} ∷ []) j ≡ some unopened → j ≡ 0
      first_alone zero e = refl
      first_alone (suc j) e = absurd (some-ne-none unopened (sym e))

      each : (j : ℕ) (u : Hand T Q) → get_elem? (started whole (Some members) ∷ spent ∷ []) j ≡ some u → Fits members whole u
      each zero u e = subst (λ (k : Hand T Q). Fits members whole k) (some-injective (started whole (Some members)) u e) (fits_started members whole)
      each (suc zero) u e = subst (λ (k : Hand T Q). Fits members whole k) (some-injective spent u e) (fits_spent members whole)
      each (suc (suc j)) u e = absurd (some-ne-none u (sym e))

      made : IsOpen sound members whole [] (started whole (Some members) ∷ spent ∷ [])
      made = record { shares = omega arith; bag = λ h. refl; sound_items = All-nil (sound members); each = each }

      opened : items ≡ [] → views ≡ unopened ∷ [] → Conserved sound items (set views pass (started whole (Some members)) ++ spent ∷ [])
      opened empty alone =
          let first : pass ≡ 0 = first_alone pass (subst (λ (l : List (Hand T Q)). get_elem? l pass ≡ some unopened) alone at) in
          let P : List T → List (Hand T Q) → ℕ → Type 0 = λ xs l j. Conserved sound xs (set l j (started whole (Some members)) ++ spent ∷ []) in
          subst (λ (t : List T × List (Hand T Q) × ℕ). P t.0 t.1 t.2) (λ i. (sym empty i, sym alone i, sym first i)) (inr (members, whole, made))

  pub opens : Conserved sound [] (unopened ∷ [])
  opens = inl record { empty = refl; alone = refl }

  -- the same, as a call picks them
  pub starts_as : (pass whole whole' : ℕ) (members : Q) (about : Option Q) (v : Hand T Q) → v ≡ unopened → about ≡ Some members → whole' ≡ whole
      → Forks (Conserved sound) pass v (started whole' about) spent
  starts_as pass whole whole' members about v fresh is same =
      subst (λ (t : Hand T Q × Option Q × ℕ). Forks (Conserved sound) pass t.0 (started t.2 t.1) spent) (λ i. (sym fresh i, sym is i, sym same i))
      (starts pass whole members)
