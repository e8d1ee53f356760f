-- The tables that are made of two graphs.
use Rattle.std.proofs.Common.{◌≡◌, ℕ, ◌*◌, ◌<◌, ◌≤◌, Bool, ◌&&◌, List, length, slice_index_or, nat_lt, ap, ap₂, sym, subst, ◌∙◌, inl, inr, arith}
use Rattle.std.specs.List.{AllByRecursion}
use Rattle.std.proofs.lemmas.Bool.{cases_lt, le-ltb}
use Rattle.std.proofs.lemmas.List.FromFn.{get_or-map-range_with_len, length-map-range_with_len}
use Rattle.yew_lad.specs.declared.profiles.Profile.{Profile}
use Rattle.yew_lad.specs.Bits.{BitTable}
use Rattle.yew_lad.specs.Digraphs.{GraphPair, IsWithinLimits, vertex_count}
use Rattle.yew_lad.specs.Nodes.{vertex_at, has_room}
use Rattle.yew_lad.specs.OrderLaws.{length-searched_profiles}
use Rattle.yew_lad.specs.SearchedOrder.{profile_of, profiles_of, searched_profiles}
use Rattle.yew_lad.specs.Tables.{HasTest, blank, vertex_in, has_room_in, are_joined, is_one_way, is_source, is_aim, is_partner, words_for}
use Rattle.yew_lad.proofs.Orders.{order-vertices, vertex_in-order, profile-at}

-- a test that is the same of a table
same-test : (rows columns width : ℕ) (test other : ℕ → ℕ → Bool) (table : BitTable) → rows ≡ columns → ((a b : ℕ) → a < rows → test a b ≡ other a b) → HasTest rows width test table → HasTest columns width other table
same-test rows columns width test other table size agree has = record {
  rows_are = has.rows_are ∙ size;
  width_is = has.width_is;
  bits = λ a b l m. let k : a < rows = omega arith in has.bits a b k m ∙ agree a b k;
}

-- tests that agree below a limit
below-limit : (b n m : ℕ) (x y : Bool) → n ≡ m → (b < m → x ≡ y) → (nat_lt b n && x) ≡ (nat_lt b m && y)
below-limit b n m x y e h =
    ap (λ k. nat_lt b k && x) e
    ∙ elim (cases_lt b m) [
      | inl less ↦ ap (λ c. nat_lt b m && c) (h less)
      | inr more ↦ ap (λ c. c && x) (le-ltb b m more) ∙ sym (ap (λ c. c && y) (le-ltb b m more))
    ]

module _ (pair : GraphPair) (limits : IsWithinLimits pair) (order : List Profile) (order_is : order ≡ searched_profiles pair.pattern) where
  size : length order ≡ vertex_count pair.pattern
  size = ap length order_is ∙ length-searched_profiles pair.pattern

  pub order-few : length order ≤ 64
  order-few = let few = limits.pattern in omega (arith, size, few)

  pub order-below : AllByRecursion (λ x. x.vertex < vertex_count pair.pattern) order
  order-below = subst (AllByRecursion (λ x. x.vertex < vertex_count pair.pattern)) (sym order_is) (order-vertices pair.pattern)

  vertex-is : (place : ℕ) → vertex_in order place ≡ vertex_at pair place
  vertex-is place = ap (λ xs. vertex_in xs place) order_is ∙ vertex_in-order pair.pattern place

  own-is : (place : ℕ) → place < length order → slice_index_or order place blank ≡ profile_of pair.pattern (vertex_at pair place)
  own-is place l = ap (λ xs. slice_index_or xs place blank) order_is ∙ profile-at pair.pattern place (omega (arith, size, l))

  pub sources-of : (table : BitTable) → HasTest (length order) 1 (is_source pair.pattern order) table → HasTest (vertex_count pair.pattern) 1 (λ place earlier. nat_lt earlier place && is_one_way pair.pattern (vertex_at pair earlier) (vertex_at pair place)) table
  sources-of table has =
      same-test (length order) (vertex_count pair.pattern) 1 (is_source pair.pattern order) (λ place earlier. nat_lt earlier place && is_one_way pair.pattern (vertex_at pair earlier) (vertex_at pair place)) table size
      (λ a b l. ap₂ (λ u v. nat_lt b a && is_one_way pair.pattern u v) (vertex-is b) (vertex-is a)) has

  pub aims-of : (table : BitTable) → HasTest (length order) 1 (is_aim pair.pattern order) table → HasTest (vertex_count pair.pattern) 1 (λ place earlier. nat_lt earlier place && is_one_way pair.pattern (vertex_at pair place) (vertex_at pair earlier)) table
  aims-of table has =
      same-test (length order) (vertex_count pair.pattern) 1 (is_aim pair.pattern order) (λ place earlier. nat_lt earlier place && is_one_way pair.pattern (vertex_at pair place) (vertex_at pair earlier)) table size
      (λ a b l. ap₂ (λ u v. nat_lt b a && is_one_way pair.pattern u v) (vertex-is a) (vertex-is b)) has

  pub partners-of : (table : BitTable) → HasTest (length order) 1 (is_partner pair.pattern order) table → HasTest (vertex_count pair.pattern) 1 (λ place earlier. nat_lt earlier place && are_joined pair.pattern (vertex_at pair earlier) (vertex_at pair place)) table
  partners-of table has =
      same-test (length order) (vertex_count pair.pattern) 1 (is_partner pair.pattern order) (λ place earlier. nat_lt earlier place && are_joined pair.pattern (vertex_at pair earlier) (vertex_at pair place)) table size
      (λ a b l. ap₂ (λ u v. nat_lt b a && are_joined pair.pattern u v) (vertex-is b) (vertex-is a)) has

  module _ (images : List Profile) (images_are : images ≡ profiles_of pair.target) where
    images-size : length images ≡ vertex_count pair.target
    images-size = ap length images_are ∙ length-map-range_with_len (profile_of pair.target) 0 (vertex_count pair.target)

    pub images-fit : length images ≤ 64 * words_for (vertex_count pair.target)
    images-fit = omega (arith, images-size)

    image-is : (t : ℕ) → t < vertex_count pair.target → slice_index_or images t blank ≡ profile_of pair.target t
    image-is t l = ap (λ xs. slice_index_or xs t blank) images_are ∙ get_or-map-range_with_len (profile_of pair.target) 0 (vertex_count pair.target) t t blank l (omega arith)

    pub rooms-of : (table : BitTable) → HasTest (length order) (words_for (vertex_count pair.target)) (has_room_in order images) table → HasTest (vertex_count pair.pattern) (words_for (vertex_count pair.target)) (λ place t. nat_lt t (vertex_count pair.target) && has_room (profile_of pair.pattern (vertex_at pair place)) (profile_of pair.target t)) table
    rooms-of table has =
        same-test (length order) (vertex_count pair.pattern) (words_for (vertex_count pair.target)) (has_room_in order images) (λ place t. nat_lt t (vertex_count pair.target) && has_room (profile_of pair.pattern (vertex_at pair place)) (profile_of pair.target t)) table size
        (λ a t l.
        below-limit t (length images) (vertex_count pair.target) (has_room (slice_index_or order a blank) (slice_index_or images t blank)) (has_room (profile_of pair.pattern (vertex_at pair a)) (profile_of pair.target t)) images-size
        (λ less. ap₂ has_room (own-is a l) (image-is t less)))
        has
