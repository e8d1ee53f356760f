use Rattle.std.proofs.Common.{◌≡◌, ◌∙◌, take, ap, sym, subst, true, arith}
use Rattle.std.proofs.lemmas.List.{length-take-le}
use Rattle.yew_laws.specs.Sets.{are_different, are_within}
use Rattle.yew_tsp.specs.BoundLaws.{lower-small}
use Rattle.yew_tsp.specs.Lists.{within-all}
use Rattle.yew_tsp.specs.Nodes.{cities_of}
use Rattle.yew_tsp.specs.Routes.{way_length}
use Rattle.yew_span.specs.Bounds.{still_to_join, spanned_bound}
use Rattle.yew_span.specs.Growth.{span}
use Rattle.yew_span.specs.Span.{IsSpan}
use Rattle.yew_span.specs.SpanLaws.{span-one}
use Rattle.yew_span.specs.SpannedLaws.{join-different, join-within, join-span}
use Rattle.yew_span.proofs.Placing.{rest-is, way-and-span}
use Rattle.yew_span.proofs.spanned.SpannedProblem.bound.Goals as goal

pub slice_bounds-rest-end : goal.slice_bounds-rest-end
slice_bounds-rest-end c = let few = c.put_rest-count.ensures.few in let long = c.put_rest-count.auto.rest in omega (arith, few, long)

pub slice_bounds-least_span-end : goal.slice_bounds-least_span-end
slice_bounds-least_span-end c =
    let few = c.put_rest-count.ensures.few in let long = c.put_rest-count.auto.rest in
    sym (length-take-le c.put_rest-count.result c.put_rest-count.new.rest (omega (arith, few, long)))

pub least_span-span-requires-clause-different : goal.least_span-span-requires-clause-different
least_span-span-requires-clause-different c =
    let instance = c.args.self.now.inner.now in
    let node = c.args.node.now in
    let sound = c.requires.node in
    let listed_is = c.as_slice-listed.ensures ∙ c.list-list.ensures in
    let same : take c.put_rest-count.result c.put_rest-count.new.rest ≡ still_to_join instance node =
    rest-is instance node sound c.as_slice-listed.result.now (take c.put_rest-count.result c.put_rest-count.new.rest) c.cities.result listed_is c.cities.ensures c.put_rest-count.ensures.rest in
    subst (λ xs. are_different xs ≡ true) (sym same) (join-different instance node sound)

pub least_span-span-requires-clause-within : goal.least_span-span-requires-clause-within
least_span-span-requires-clause-within c =
    let instance = c.args.self.now.inner.now in
    let node = c.args.node.now in
    let sound = c.requires.node in
    let listed_is = c.as_slice-listed.ensures ∙ c.list-list.ensures in
    let same : take c.put_rest-count.result c.put_rest-count.new.rest ≡ still_to_join instance node =
    rest-is instance node sound c.as_slice-listed.result.now (take c.put_rest-count.result c.put_rest-count.new.rest) c.cities.result listed_is c.cities.ensures c.put_rest-count.ensures.rest in
    subst (λ xs. are_within 1 instance.cities xs ≡ true) (sym same) (within-all 1 instance.cities (still_to_join instance node) (join-within instance node sound))

pub overflow_sub-result : goal.overflow_sub-result
overflow_sub-result c =
    let instance = c.args.self.now.inner.now in
    let node = c.args.node.now in
    let sound = c.requires.node in
    let way : c.length_so_far-length.result ≡ way_length instance (cities_of node) = c.length_so_far-length.ensures ∙ ap (way_length instance) (c.as_slice-listed.ensures ∙ c.list-list.ensures) in
    let inner = c.bound-inner.ensures in
    let small = lower-small instance node sound in
    omega (arith, way, small)

pub overflow_sub-inner-2 : goal.overflow_sub-inner-2
overflow_sub-inner-2 c =
    let instance = c.args.self.now.inner.now in
    let node = c.args.node.now in
    let sound = c.requires.node in
    let way : c.length_so_far-length.result ≡ way_length instance (cities_of node) = c.length_so_far-length.ensures ∙ ap (way_length instance) (c.as_slice-listed.ensures ∙ c.list-list.ensures) in
    let inner = c.bound-inner.ensures in
    let small = lower-small instance node sound in
    omega (arith, way, inner, small)

pub overflow_sub-result-2 : goal.overflow_sub-result-2
overflow_sub-result-2 c =
    let instance = c.args.self.now.inner.now in
    let node = c.args.node.now in
    let sound = c.requires.node in
    let listed_is = c.as_slice-listed.ensures ∙ c.list-list.ensures in
    let same : take c.put_rest-count.result c.put_rest-count.new.rest ≡ still_to_join instance node =
    rest-is instance node sound c.as_slice-listed.result.now (take c.put_rest-count.result c.put_rest-count.new.rest) c.cities.result listed_is c.cities.ensures c.put_rest-count.ensures.rest in
    let symmetric : c.args.self.now.symmetric ≡ true = c.if-not-self.false in
    let spanned : c.least_span-span.result ≡ span instance (still_to_join instance node) =
    span-one instance (still_to_join instance node) c.least_span-span.result (span instance (still_to_join instance node))
    (subst (λ xs. IsSpan instance xs c.least_span-span.result) same c.least_span-span.ensures)
    (join-span instance node sound (c.args.self.now.symmetric_is.0 symmetric)) in
    let way : c.length_so_far-length.result ≡ way_length instance (cities_of node) = c.length_so_far-length.ensures ∙ ap (way_length instance) (c.as_slice-listed.ensures ∙ c.list-list.ensures) in
    let inner = c.bound-inner.ensures in
    let small = lower-small instance node sound in
    let fits = way-and-span instance node sound in
    let greater = c.max.ensures in
    omega (arith, way, inner, small, spanned, fits, greater)

pub returns : goal.returns
returns c =
    let instance = c.args.self.now.inner.now in
    let node = c.args.node.now in
    let sound = c.requires.node in
    let listed_is = c.as_slice-listed.ensures ∙ c.list-list.ensures in
    let same : take c.put_rest-count.result c.put_rest-count.new.rest ≡ still_to_join instance node =
    rest-is instance node sound c.as_slice-listed.result.now (take c.put_rest-count.result c.put_rest-count.new.rest) c.cities.result listed_is c.cities.ensures c.put_rest-count.ensures.rest in
    let symmetric : c.args.self.now.symmetric ≡ true = c.if-not-self.false in
    let spanned : c.least_span-span.result ≡ span instance (still_to_join instance node) =
    span-one instance (still_to_join instance node) c.least_span-span.result (span instance (still_to_join instance node))
    (subst (λ xs. IsSpan instance xs c.least_span-span.result) same c.least_span-span.ensures)
    (join-span instance node sound (c.args.self.now.symmetric_is.0 symmetric)) in
    let way : c.length_so_far-length.result ≡ way_length instance (cities_of node) = c.length_so_far-length.ensures ∙ ap (way_length instance) (c.as_slice-listed.ensures ∙ c.list-list.ensures) in
    let inner = c.bound-inner.ensures in
    let small = lower-small instance node sound in
    let fits = way-and-span instance node sound in
    let greater = c.max.ensures in
    let is : spanned_bound c.args.self.now.symmetric instance node ≡ spanned_bound true instance node = ap (λ b. spanned_bound b instance node) symmetric in
    omega (arith, way, inner, small, spanned, fits, greater, is)
