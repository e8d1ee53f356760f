use Rattle.std.proofs.Common.{◌≡◌, ℕ, ◌+◌, ◌<◌, ◌∙◌, ◌++◌, ◌∷◌, [], List, length, map, slice_index, append_assoc, append-nil, ap, ap₂, sym, arith}
use Rattle.std.specs.List.{flat_map, range_with_len}
use Rattle.std.proofs.lemmas.Grind.{flat_map-append}
use Rattle.std.proofs.lemmas.List.FromFn.{map-range_with_len_more}
use Rattle.yew_lines.specs.Spelling.{spaced}
use Rattle.yew_lad.specs.Digraphs.{GraphPair, vertex_count}
use Rattle.yew_lad.specs.Nodes.{place_of, IsNode}
use Rattle.yew_lad.specs.OrderLaws.{length-searched_order}
use Rattle.yew_lad.specs.SearchedOrder.{searched_order}
use Rattle.yew_lad.proofs.Chosen.{same_count}
use Rattle.yew_lad.proofs.MapTree.{worth-whole}
use Rattle.yew_lad.proofs.Orders.{place-found, order-contains}
use Rattle.yew_lad.proofs.subgraph.Subgraph.push_map.Goals as goal

-- the images of one vertex more
one-more : (f : ℕ → ℕ) (start out new : List ℕ) (v image : ℕ) → out ≡ start ++ flat_map spaced (map f (range_with_len 0 v)) → image ≡ f v → new ≡ out ++ spaced image → new ≡ start ++ flat_map spaced (map f (range_with_len 0 (v + 1)))
one-more f start out new v image so_far is pushed =
    pushed
    ∙ ap₂ (λ (xs : List ℕ) (i : ℕ). xs ++ spaced i) so_far is
    ∙ append_assoc start (flat_map spaced (map f (range_with_len 0 v))) (spaced (f v))
    ∙ ap (λ xs. start ++ xs)
    (ap (λ xs. flat_map spaced (map f (range_with_len 0 v)) ++ xs) (sym (append-nil (spaced (f v))))
    ∙ sym (flat_map-append spaced (map f (range_with_len 0 v)) (f v ∷ []))
    ∙ ap (flat_map spaced) (sym (map-range_with_len_more f 0 v v (omega arith))))

-- in a whole map each vertex has an image
mapped : (pair : GraphPair) (images : List ℕ) (v : ℕ) → IsNode pair images → length images ≡ vertex_count pair.pattern → v < vertex_count pair.pattern → (place_of pair v < length images) × (place_of pair v < 64)
mapped pair images v sound whole l =
    let found = place-found (searched_order pair.pattern) v (order-contains pair.pattern v l) in
    let n = length-searched_order pair.pattern in
    let few = sound.limits.pattern in
    (omega (arith, found.0, n, whole), omega (arith, found.0, n, few))

pub loop-v-preserved : goal.loop-v-preserved
loop-v-preserved c =
    one-more (λ v. slice_index c.args.node.now (place_of c.args.self.now v)) c.push_text.new.out.items c.loop-v.out.items c.push_spaced.new.out.items c.loop-v.v c.image.result
    c.loop-v.invariant (c.image.ensures ∙ ap (slice_index c.args.node.now) c.place_of.ensures) c.in_ok-push_spaced.ensures

pub image-requires-clause-place : goal.image-requires-clause-place
image-requires-clause-place c =
    let n = c.places-v-end.ensures.value in
    let l = c.loop-v-test.true in
    let both = mapped c.args.self.now c.args.node.now c.loop-v.v c.requires.node (same_count (length c.args.node.now) (vertex_count c.args.self.now.pattern) (worth-whole c.args.self.now c.requires.node.limits c.args.node.now c.requires.whole)) (omega arith) in
    let is = c.place_of.ensures in
    omega (arith, both.1, is)

pub image-requires-clause-mapped : goal.image-requires-clause-mapped
image-requires-clause-mapped c =
    let n = c.places-v-end.ensures.value in
    let l = c.loop-v-test.true in
    let both = mapped c.args.self.now c.args.node.now c.loop-v.v c.requires.node (same_count (length c.args.node.now) (vertex_count c.args.self.now.pattern) (worth-whole c.args.self.now c.requires.node.limits c.args.node.now c.requires.whole)) (omega arith) in
    let is = c.place_of.ensures in
    omega (arith, both.0, is)
