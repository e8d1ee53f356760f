use Rattle.std.proofs.Common.{◌≡◌, ℕ, ◌≤◌, Bool, true, false, MatchBool, List, [], length, ap, subst, ◌∙◌, arith}
use Rattle.yew_lad.specs.declared.profiles.Profile.{Profile}
use Rattle.yew_lad.specs.Digraphs.{Digraph, GraphPair, IsWithinLimits, vertex_count}
use Rattle.yew_lad.specs.SearchedOrder.{all_placed, profiles_of, searched_profiles}
use Rattle.yew_lad.specs.Tables.{HasTest, HasOneWay, IsTwoWay, has_room_in}
use Rattle.yew_lad.proofs.PairTables.{order-few, order-below, sources-of, aims-of, partners-of, rooms-of, images-fit}
use Rattle.yew_lad.proofs.subgraph.pair.Goals as goal

abbrev pair_of : Digraph → Digraph → GraphPair
pair_of pattern target = record { pattern = pattern; target = target }

limits_of : (pattern target : Digraph) → vertex_count pattern ≤ 64 → vertex_count target ≤ 1024 → IsWithinLimits (pair_of pattern target)
limits_of pattern target few small = record { pattern = few; target = small }

-- the order that is made of the profiles
order-is : (pattern : Digraph) (own slice order other : List Profile) → own ≡ profiles_of pattern → slice ≡ own → order ≡ all_placed [] slice → other ≡ order → other ≡ searched_profiles pattern
order-is pattern own slice order other is same placed copy = copy ∙ placed ∙ ap (all_placed []) (same ∙ is)

-- where no one-way arc was found there is none
two-way : (pattern : Digraph) (found : Bool) → MatchBool found (HasOneWay pattern) (IsTwoWay pattern) → found ≡ false → IsTwoWay pattern
two-way pattern true m e = absurd cc
two-way pattern false m e = m

pub rooms-requires-clause-order : goal.rooms-requires-clause-order
rooms-requires-clause-order c =
    order-few (pair_of c.args.pattern c.args.target) (limits_of c.args.pattern c.args.target c.requires.pattern c.requires.target) c.as_slice-2.result.now
    (order-is c.args.pattern c.in_ok-own.own.items c.as_slice.result.now c.in_ok-order.order.items c.as_slice-2.result.now c.in_ok-own.ensures c.as_slice.ensures.value c.in_ok-order.ensures c.as_slice-2.ensures.value)

pub rooms-requires-clause-images : goal.rooms-requires-clause-images
rooms-requires-clause-images c =
    let width = c.width.ensures in
    let fit = images-fit (pair_of c.args.pattern c.args.target) (limits_of c.args.pattern c.args.target c.requires.pattern c.requires.target) c.as_slice-2.result.now
    (order-is c.args.pattern c.in_ok-own.own.items c.as_slice.result.now c.in_ok-order.order.items c.as_slice-2.result.now c.in_ok-own.ensures c.as_slice.ensures.value c.in_ok-order.ensures c.as_slice-2.ensures.value)
    c.as_slice-3.result.now (c.as_slice-3.ensures.value ∙ c.in_ok-images.ensures) in
    omega (arith, width, fit)

pub sources-requires-clause-few : goal.sources-requires-clause-few
sources-requires-clause-few c =
    order-few (pair_of c.args.pattern c.args.target) (limits_of c.args.pattern c.args.target c.requires.pattern c.requires.target) c.as_slice-4.result.now
    (order-is c.args.pattern c.in_ok-own.own.items c.as_slice.result.now c.in_ok-order.order.items c.as_slice-4.result.now c.in_ok-own.ensures c.as_slice.ensures.value c.in_ok-order.ensures c.as_slice-4.ensures.value)

pub sources-requires-clause-vertices : goal.sources-requires-clause-vertices
sources-requires-clause-vertices c =
    order-below (pair_of c.args.pattern c.args.target) (limits_of c.args.pattern c.args.target c.requires.pattern c.requires.target) c.as_slice-4.result.now
    (order-is c.args.pattern c.in_ok-own.own.items c.as_slice.result.now c.in_ok-order.order.items c.as_slice-4.result.now c.in_ok-own.ensures c.as_slice.ensures.value c.in_ok-order.ensures c.as_slice-4.ensures.value)

pub aims-requires-clause-few : goal.aims-requires-clause-few
aims-requires-clause-few c =
    order-few (pair_of c.args.pattern c.args.target) (limits_of c.args.pattern c.args.target c.requires.pattern c.requires.target) c.as_slice-5.result.now
    (order-is c.args.pattern c.in_ok-own.own.items c.as_slice.result.now c.in_ok-order.order.items c.as_slice-5.result.now c.in_ok-own.ensures c.as_slice.ensures.value c.in_ok-order.ensures c.as_slice-5.ensures.value)

pub aims-requires-clause-vertices : goal.aims-requires-clause-vertices
aims-requires-clause-vertices c =
    order-below (pair_of c.args.pattern c.args.target) (limits_of c.args.pattern c.args.target c.requires.pattern c.requires.target) c.as_slice-5.result.now
    (order-is c.args.pattern c.in_ok-own.own.items c.as_slice.result.now c.in_ok-order.order.items c.as_slice-5.result.now c.in_ok-own.ensures c.as_slice.ensures.value c.in_ok-order.ensures c.as_slice-5.ensures.value)

pub partners-requires-clause-few : goal.partners-requires-clause-few
partners-requires-clause-few c =
    order-few (pair_of c.args.pattern c.args.target) (limits_of c.args.pattern c.args.target c.requires.pattern c.requires.target) c.as_slice-6.result.now
    (order-is c.args.pattern c.in_ok-own.own.items c.as_slice.result.now c.in_ok-order.order.items c.as_slice-6.result.now c.in_ok-own.ensures c.as_slice.ensures.value c.in_ok-order.ensures c.as_slice-6.ensures.value)

pub partners-requires-clause-vertices : goal.partners-requires-clause-vertices
partners-requires-clause-vertices c =
    order-below (pair_of c.args.pattern c.args.target) (limits_of c.args.pattern c.args.target c.requires.pattern c.requires.target) c.as_slice-6.result.now
    (order-is c.args.pattern c.in_ok-own.own.items c.as_slice.result.now c.in_ok-order.order.items c.as_slice-6.result.now c.in_ok-own.ensures c.as_slice.ensures.value c.in_ok-order.ensures c.as_slice-6.ensures.value)

pub invariant_of-result : goal.invariant_of-result
invariant_of-result c =
    let pair = pair_of c.args.pattern c.args.target in
    let limits = limits_of c.args.pattern c.args.target c.requires.pattern c.requires.target in
    let own = c.in_ok-own.ensures in
    let slice = c.as_slice.ensures.value in
    let placed = c.in_ok-order.ensures in
    let is = λ (other : List Profile) (copy : other ≡ c.in_ok-order.order.items). order-is c.args.pattern c.in_ok-own.own.items c.as_slice.result.now c.in_ok-order.order.items other own slice placed copy in
    record {
      limits = limits;
      order_is = is c.in_ok-order.order.items (λ i. c.in_ok-order.order.items);
      rooms =
          rooms-of pair limits c.as_slice-2.result.now (is c.as_slice-2.result.now c.as_slice-2.ensures.value) c.as_slice-3.result.now (c.as_slice-3.ensures.value ∙ c.in_ok-images.ensures) c.in_ok-rooms.rooms
          (subst (λ (w : ℕ). HasTest (length c.as_slice-2.result.now) w (has_room_in c.as_slice-2.result.now c.as_slice-3.result.now) c.in_ok-rooms.rooms) c.width.ensures c.in_ok-rooms.ensures);
      predecessors = c.in_ok-predecessors.ensures;
      joined = c.in_ok-joined.ensures;
      sources = sources-of pair limits c.as_slice-4.result.now (is c.as_slice-4.result.now c.as_slice-4.ensures.value) c.in_ok-sources.sources c.in_ok-sources.ensures;
      aims = aims-of pair limits c.as_slice-5.result.now (is c.as_slice-5.result.now c.as_slice-5.ensures.value) c.in_ok-aims.aims c.in_ok-aims.ensures;
      partners = partners-of pair limits c.as_slice-6.result.now (is c.as_slice-6.result.now c.as_slice-6.ensures.value) c.in_ok-partners.partners c.in_ok-partners.ensures;
      two_way = two-way c.args.pattern c.has_one_way-one_way.result c.has_one_way-one_way.ensures;
    }
