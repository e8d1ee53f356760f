-- The numbers of cities place by place: those that are left out of a list, its last one, and the steps between them.
use Rattle.std.proofs.Common.{◌≡◌, ℕ, ◌+◌, ◌-◌, ◌*◌, ◌<◌, ◌≤◌, Bool, true, false, cond, not, List, [], ◌∷◌, ◌++◌, length, take, filter, get_or, append_assoc, refl, ap, ap₂, sym, ◌∙◌, arith}
use Rattle.std.specs.List.{range_with_len}
use Rattle.std.proofs.lemmas.List.{take_more, length-take-le, length_push}
use Rattle.yew_laws.specs.Sets.{contains}
use Rattle.yew_tsp.specs.declared.nodes.TourNode.{TourNode}
use Rattle.yew_tsp.specs.BoundLaws.{way-small}
use Rattle.yew_tsp.specs.Instance.{Instance, IsWithinLimits, weight_between}
use Rattle.yew_tsp.specs.Lists.{filter-append, range-push}
use Rattle.yew_tsp.specs.NodeLaws.{length-cities, way_length-push}
use Rattle.yew_tsp.specs.Nodes.{cities_of, unvisited_of, IsNode}
use Rattle.yew_tsp.specs.Routes.{way_length}
use Rattle.yew_span.specs.Bounds.{ends, still_to_join}
use Rattle.yew_span.specs.Growth.{span}
use Rattle.yew_span.specs.Places.{last_of, left_out}
use Rattle.yew_span.specs.SpannedLaws.{join-some, join-within, join-length}
use Rattle.yew_span.proofs.Taking.{span-small}

left_out-step : (listed : List ℕ) (city : ℕ) (b : Bool) → 1 ≤ city → contains listed city ≡ b → left_out (city + 1 - 1) listed ≡ left_out (city - 1) listed ++ cond (not b) (city ∷ []) []
left_out-step listed city b some is =
    ap (filter (λ c. not (contains listed c))) (range-push city some)
    ∙ filter-append (λ c. not (contains listed c)) (range_with_len 1 (city - 1)) (city ∷ [])
    ∙ ap (λ t. left_out (city - 1) listed ++ cond (not t) (city ∷ []) []) is

append-none : (xs : List ℕ) → xs ++ [] ≡ xs
append-none [] = refl
append-none (x ∷ xs) = ap (λ ys. x ∷ ys) (append-none xs)

-- a city that is not in the list
pub left_out-more : (listed front : List ℕ) (city : ℕ) → 1 ≤ city → contains listed city ≡ false → (front ++ left_out (city - 1) listed) ++ city ∷ [] ≡ front ++ left_out (city + 1 - 1) listed
left_out-more listed front city some is = append_assoc front (left_out (city - 1) listed) (city ∷ []) ∙ ap (λ xs. front ++ xs) (sym (left_out-step listed city false some is))

-- and one that is
pub left_out-same : (listed : List ℕ) (city : ℕ) → 1 ≤ city → contains listed city ≡ true → left_out (city - 1) listed ≡ left_out (city + 1 - 1) listed
left_out-same listed city some is = sym (left_out-step listed city true some is ∙ append-none (left_out (city - 1) listed))

last-at : (xs : List ℕ) (x : ℕ) → get_or (xs ++ x ∷ []) (length xs) 0 ≡ x
last-at [] x = refl
last-at (y ∷ ys) x = last-at ys x

pub last_of-push : (xs : List ℕ) (x : ℕ) → last_of (xs ++ x ∷ []) ≡ x
last_of-push xs x =
    let long = length_push xs x in
    let place : length (xs ++ x ∷ []) - 1 ≡ length xs = omega (arith, long) in
    ap (λ k. get_or (xs ++ x ∷ []) k 0) place ∙ last-at xs x

-- one more step
pub way-more : (instance : Instance) (xs : List ℕ) (place : ℕ) → 1 ≤ place → place < length xs → way_length instance (take (place + 1) xs) ≡ way_length instance (take place xs) + weight_between instance (get_or xs (place - 1) 0) (get_or xs place 0)
way-more instance xs place some there =
    let back : place - 1 + 1 ≡ place = omega arith in
    let before : take place xs ≡ take (place - 1) xs ++ get_or xs (place - 1) 0 ∷ [] = ap (λ k. take k xs) (sym back) ∙ take_more xs (place - 1) 0 (omega arith) in
    ap (way_length instance) (take_more xs place 0 there ∙ ap (λ ys. ys ++ get_or xs place 0 ∷ []) before)
    ∙ way_length-push instance (take (place - 1) xs) (get_or xs (place - 1) 0) (get_or xs place 0)
    ∙ ap (λ ys. way_length instance ys + weight_between instance (get_or xs (place - 1) 0) (get_or xs place 0)) (sym before)

pub way-front : (instance : Instance) → IsWithinLimits instance → (xs : List ℕ) (place : ℕ) → place ≤ length xs → length xs ≤ 60 → way_length instance (take place xs) ≤ 60 * 2147483647
way-front instance limits xs place there few =
    let small = way-small instance limits (take place xs) in let long = length-take-le place xs there in omega (arith, small, long, few)

-- what is known where every city is in the list
pub way-first : (instance : Instance) (xs : List ℕ) → way_length instance (take 1 xs) ≡ 0
way-first instance [] = refl
way-first instance (x ∷ xs) = refl

module _ (instance : Instance) (node : TourNode) (sound : IsNode instance node) where
  -- what is written is what is still to be joined
  pub rest-is : (listed written : List ℕ) (cities : ℕ) → listed ≡ cities_of node → cities ≡ instance.cities → written ≡ ends (last_of listed) ++ left_out cities listed → written ≡ still_to_join instance node
  rest-is listed written cities is count e =
      e ∙ ap₂ (λ xs n. ends (last_of xs) ++ left_out n xs) is count
      ∙ ap (λ c. ends c ++ unvisited_of instance node) (last_of-push (take node.steps node.cities) node.last)

  -- the length so far and the span fit
  pub way-and-span : way_length instance (cities_of node) + span instance (still_to_join instance node) ≤ 61 * 2147483647
  way-and-span =
      let way = way-small instance sound.limits (cities_of node) in
      let long = length-cities instance node sound in
      let small = span-small instance (still_to_join instance node) sound.limits (join-some instance node) (join-within instance node sound) in
      let some = join-some instance node in
      let rest = join-length instance node in
      let count = sound.count in let few = sound.limits.few in
      omega (arith, way, long, small, some, rest, count, few)
