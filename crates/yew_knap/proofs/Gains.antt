-- Dantzig's bound by the place where taking items ends.
use Rattle.std.proofs.Common.{◌≡◌, ℕ, zero, suc, ◌+◌, ◌-◌, ◌*◌, ◌/◌, ◌<◌, ◌≤◌, ◌^◌, ◌∙◌, List, [], ◌∷◌, length, take, drop, if◌then◌else◌, refl, ap, ap₂, sym, subst, length-drop, inl, inr, arith}
use Rattle.std.specs.List.{AllByRecursion, sum_by}
use Rattle.std.proofs.Math.Nat.{mul-le-mul}
use Rattle.std.proofs.Math.Seq.{take-add}
use Rattle.std.proofs.lemmas.Bool.{cases_lt, le-leb, lt-leb}
use Rattle.std.proofs.lemmas.List.{get_or-drop}
use Rattle.std.proofs.lemmas.List.Sums.{sum_by-cons, sum_by-append}
use Rattle.yew_knap.specs.declared.copies.ItemCopy.{ItemCopy}
use Rattle.yew_knap.specs.BoundLaws.{dantzig-fits, dantzig-stops}
use Rattle.yew_knap.specs.declared.places.Place.{Place}
use Rattle.yew_knap.specs.CopyLaws.{IsSmallCopy}
use Rattle.yew_knap.specs.Places.{all_places, reciprocal_of}
use Rattle.yew_knap.proofs.PlaceTable.{place_at, item-at, end-at, profit-at, weight-at}
use Rattle.yew_knap.specs.Nodes.{breaking_place, item_of, dantzig}

abbrev profits : List ItemCopy → ℕ
profits items = sum_by (λ item. item.profit) items

abbrev weights : List ItemCopy → ℕ
weights items = sum_by (λ item. item.weight) items

-- how many items are taken, which fit, and what is gained
pub record Taken (room place : ℕ) (items : List ItemCopy) : Type 0 where
  pub count : ℕ
  pub is : breaking_place room place items ≡ place + count
  pub within : count ≤ length items
  pub fits : weights (take count items) ≤ room
  pub heavy : count < length items → room < weights (take count items) + (item_of items count).weight
  pub whole : count ≡ length items → dantzig room items ≡ profits (take count items)
  pub part : count < length items → dantzig room items ≡ profits (take count items) + (item_of items count).profit * (room - weights (take count items)) / (item_of items count).weight

pub taken : (room place : ℕ) (items : List ItemCopy) → Taken room place items
taken room place [] = record {
  count = 0;
  is = omega arith;
  within = omega arith;
  fits = omega arith;
  heavy = λ l. absurd (omega arith);
  whole = λ e. refl;
  part = λ l. absurd (omega arith);
}
taken room place (x ∷ xs) =
    elim (cases_lt room x.weight) [
      | inl stops ↦ record {
        count = 0;
        is = ap (λ b. if b then breaking_place (room - x.weight) (place + 1) xs else place) (lt-leb x.weight room stops) ∙ omega arith;
        within = omega arith;
        fits = omega arith;
        heavy = λ l. omega arith;
        whole = λ e. absurd (omega arith);
        part = λ l.
            let gain = dantzig-stops room x xs stops in
            let left : room ≡ room - weights (take 0 (x ∷ xs)) = omega arith in
            let same = ap (λ r. x.profit * r / x.weight) left in
            omega (arith, gain, same);
      }
      | inr fits ↦
          let t = taken (room - x.weight) (place + 1) xs in
          let profit = sum_by-cons (λ (item : ItemCopy). item.profit) x (take t.count xs) in
          let weight = sum_by-cons (λ (item : ItemCopy). item.weight) x (take t.count xs) in
          let gain = dantzig-fits room x xs fits in
          record {
            count = suc t.count;
            is = ap (λ b. if b then breaking_place (room - x.weight) (place + 1) xs else place) (le-leb x.weight room fits) ∙ (let e = t.is in omega (arith, e));
            within = let l = t.within in omega (arith, l);
            fits = let l = t.fits in omega (arith, l, weight);
            heavy = λ l. let h = t.heavy (omega arith) in omega (arith, h, weight);
            whole = λ e. let w = t.whole (omega arith) in omega (arith, w, gain, profit);
            part = λ l.
                let p = t.part (omega arith) in
                let left : room - x.weight - weights (take t.count xs) ≡ room - weights (x ∷ take t.count xs) = omega (arith, weight) in
                let same = ap (λ r. (item_of xs t.count).profit * r / (item_of xs t.count).weight) left in
                omega (arith, p, gain, profit, same);
          }
    ]

item_of-drop : (n k : ℕ) (items : List ItemCopy) → item_of (drop n items) k ≡ item_of items (n + k)
item_of-drop n k items = get_or-drop n items k (record { profit = 0; weight = 0; item = 0; turn = 0; index = 0 })

before-more : (items : List ItemCopy) (next : ℕ) (f : ItemCopy → ℕ) (count : ℕ) → sum_by f (take (next + count) items) ≡ sum_by f (take next items) + sum_by f (take count (drop next items))
before-more items next f count = ap (sum_by f) (take-add next count items) ∙ sum_by-append f (take next items) (take count (drop next items))

item-small : (n : ℕ) (items : List ItemCopy) (k : ℕ) → AllByRecursion (IsSmallCopy n) items → k < length items → IsSmallCopy n (item_of items k)
item-small n [] k a l = absurd (omega arith)
item-small n (x ∷ xs) zero a l = a.0
item-small n (x ∷ xs) (suc k) a l = item-small n xs k a.1 (omega arith)

-- the same over the items from a place on, by the table of places
pub record Gains (items : List ItemCopy) (places : List Place) (next breaking room : ℕ) : Type 0 where
  pub within : breaking ≤ length items
  pub profits_rise : (place_at places next).profit_before ≤ (place_at places breaking).profit_before
  pub weights_rise : (place_at places next).weight_before ≤ (place_at places breaking).weight_before
  pub fits : (place_at places breaking).weight_before - (place_at places next).weight_before ≤ room
  pub weighs : 0 < (place_at places breaking).weight
  pub reciprocal : (place_at places breaking).reciprocal ≡ reciprocal_of (place_at places breaking).weight
  pub product : (place_at places breaking).profit * (room - ((place_at places breaking).weight_before - (place_at places next).weight_before)) < 2 ^ 64
  pub gain : dantzig room (drop next items) ≡ (place_at places breaking).profit_before - (place_at places next).profit_before + (place_at places breaking).profit * (room - ((place_at places breaking).weight_before - (place_at places next).weight_before)) / (place_at places breaking).weight

module _ (items : List ItemCopy) (places : List Place) (are : places ≡ all_places 0 0 items) (n : ℕ) (small : AllByRecursion (IsSmallCopy n) items) (next room : ℕ) (within : next ≤ length items) where
  at_count : (t : Taken room next (drop next items)) → Gains items places next (next + t.count) room
  at_count t =
      let long : length (drop next items) ≡ length items - next = length-drop next items in
      let short = t.within in
      let p_next = profit-at items places are next within in
      let w_next = weight-at items places are next within in
      let p_end = profit-at items places are (next + t.count) (omega (arith, long, short, within)) in
      let w_end = weight-at items places are (next + t.count) (omega (arith, long, short, within)) in
      let p_more = before-more items next (λ item. item.profit) t.count in
      let w_more = before-more items next (λ item. item.weight) t.count in
      let left : room - weights (take t.count (drop next items)) ≡ room - ((place_at places (next + t.count)).weight_before - (place_at places next).weight_before) = omega (arith, w_next, w_end, w_more) in
      let rise : (place_at places (next + t.count)).profit_before - (place_at places next).profit_before ≡ profits (take t.count (drop next items)) = omega (arith, p_next, p_end, p_more) in
      let fits : (place_at places (next + t.count)).weight_before - (place_at places next).weight_before ≤ room = let f = t.fits in omega (arith, w_next, w_end, w_more, f) in
      elim (cases_lt (next + t.count) (length items)) [
        | inl less ↦
            let out = item-at items places are (next + t.count) less in
            let profit = ap (λ (p : Place). p.profit) out in
            let weight = ap (λ (p : Place). p.weight) out in
            let item = item_of-drop next t.count items in
            let light = item-small n items (next + t.count) small less in
            let heavy = t.heavy (omega (arith, less, long)) in
            let heavy_item = ap (λ (i : ItemCopy). i.weight) item in
            let gain = t.part (omega (arith, less, long)) in
            let same : (item_of (drop next items) t.count).profit * (room - weights (take t.count (drop next items))) / (item_of (drop next items) t.count).weight ≡ (place_at places (next + t.count)).profit * (room - ((place_at places (next + t.count)).weight_before - (place_at places next).weight_before)) / (place_at places (next + t.count)).weight =
            ap₂ (λ (i : ItemCopy) (r : ℕ). i.profit * r / i.weight) item left
            ∙ ap₂ (λ p w. p * (room - ((place_at places (next + t.count)).weight_before - (place_at places next).weight_before)) / w) (sym profit) (sym weight)
            in
            let few : (place_at places (next + t.count)).profit ≤ 2 ^ 31 = let l = light.1 in omega (arith, profit, l) in
            let little : room - ((place_at places (next + t.count)).weight_before - (place_at places next).weight_before) ≤ 2 ^ 31 = let l = light.2 in omega (arith, left, heavy, heavy_item, l) in
            let product = mul-le-mul few little in
            record {
              within = omega arith;
              profits_rise = omega (arith, p_next, p_end, p_more);
              weights_rise = omega (arith, w_next, w_end, w_more);
              fits = fits;
              weighs = let f = t.fits in omega (arith, weight, heavy, heavy_item, f);
              reciprocal = ap (λ (p : Place). p.reciprocal) out ∙ ap reciprocal_of (sym weight);
              product = omega (arith, product);
              gain = omega (arith, gain, rise, same);
            }
        | inr most ↦
            let out = end-at items places are (next + t.count) (omega (arith, long, short, within, most)) in
            let profit = ap (λ (p : Place). p.profit) out in
            let weight = ap (λ (p : Place). p.weight) out in
            let gain = t.whole (omega (arith, long, short, most, within)) in
            let none : (place_at places (next + t.count)).profit * (room - ((place_at places (next + t.count)).weight_before - (place_at places next).weight_before)) ≡ 0 = ap (λ p. p * (room - ((place_at places (next + t.count)).weight_before - (place_at places next).weight_before))) profit ∙ omega arith in
            let nothing : (place_at places (next + t.count)).profit * (room - ((place_at places (next + t.count)).weight_before - (place_at places next).weight_before)) / (place_at places (next + t.count)).weight ≡ 0 = ap₂ (λ x w. x / w) none weight ∙ omega arith in
            record {
              within = omega (arith, long, short, within);
              profits_rise = omega (arith, p_next, p_end, p_more);
              weights_rise = omega (arith, w_next, w_end, w_more);
              fits = fits;
              weighs = omega (arith, weight);
              reciprocal = ap (λ (p : Place). p.reciprocal) out ∙ ap reciprocal_of (sym weight);
              product = omega (arith, none);
              gain = omega (arith, gain, rise, nothing);
            }
      ]

  pub gains : (breaking : ℕ) → breaking ≡ breaking_place room next (drop next items) → Gains items places next breaking room
  gains breaking is =
      let t = taken room next (drop next items) in
      let at : breaking ≡ next + t.count = is ∙ t.is in
      subst (λ b. Gains items places next b room) (sym at) (at_count t)
