use Rattle.std.proofs.Common.{◌≡◌, ℕ, ◌+◌, ◌-◌, ◌*◌, ◌/◌, ◌%◌, ◌^◌, ◌<◌, Bool, ◌&&◌, ◌==◌, nat_lt, length, slice_index, bit_and, ap, sym, subst, ◌∙◌, arith}
use Rattle.std.specs.Int.{bit_at}
use Rattle.yew_lad.specs.Bits.{in_row}
use Rattle.yew_lad.specs.Candidates.{ArePlaces}
use Rattle.yew_lad.specs.Digraphs.{Digraph, GraphPair, vertex_count, is_arc}
use Rattle.yew_lad.specs.Nodes.{vertex_at, is_candidate, IsNode}
use Rattle.yew_lad.specs.Tables.{are_joined, is_one_way}
use Rattle.yew_lad.proofs.CandidateLaws.{image-below, count-small, mask-word, places-only, mapped-bits, no-places, all-of_none, are-places, candidate-is, met-limit}
use Rattle.yew_lad.proofs.Orders.{vertex-below}
use Rattle.yew_lad.proofs.PlaceLaws.{bits_both}
use Rattle.yew_lad.proofs.WordLaws.{word_bits}
use Rattle.yew_lad.proofs.subgraph.Subgraph.candidates.Goals as goal

abbrev pair_of : Digraph → Digraph → GraphPair
pair_of pattern target = record { pattern = pattern; target = target }

-- a place of one pair of graphs is one of the same pair
same-place : (a b : GraphPair) (place : ℕ) → a ≡ b → place < vertex_count b.pattern → place < vertex_count a.pattern
same-place a b place e l = subst (λ (p : GraphPair). place < vertex_count p.pattern) (sym e) l

pub keep_images-joined-requires-clause-places : goal.keep_images-joined-requires-clause-places
keep_images-joined-requires-clause-places c =
    let s = c.self.inside in
    let pair = pair_of s.pattern s.target in
    let images = c.args.node.now in
    let place = c.args.place in
    let sound = subst (λ (p : GraphPair). IsNode p images) (sym c.self.view_is) c.requires.node in
    let within = same-place pair c.args.self.now place c.self.view_is c.requires.within in
    let arc : ℕ → Bool = λ q. are_joined s.pattern (vertex_at pair q) (vertex_at pair place) in
    subst (λ m. ArePlaces s.joined.rows images (bit_and c.only_word.result m)) (sym (mask-word c.count.result (length images) c.count.ensures.value (count-small pair images sound place c.requires.place within)))
    (are-places pair images sound place c.requires.place within s.joined.rows c.only_word.result arc c.self.invariant.joined.rows_are
    (places-only (vertex_count s.pattern) (λ p q. nat_lt q p && are_joined s.pattern (vertex_at pair q) (vertex_at pair p)) s.partners c.self.invariant.partners place within c.only_word.result c.only_word.ensures))

pub keep_images-kept-requires-clause-places : goal.keep_images-kept-requires-clause-places
keep_images-kept-requires-clause-places c =
    let s = c.self.inside in
    let pair = pair_of s.pattern s.target in
    let images = c.args.node.now in
    let place = c.args.place in
    let sound = subst (λ (p : GraphPair). IsNode p images) (sym c.self.view_is) c.requires.node in
    let within = same-place pair c.args.self.now place c.self.view_is c.requires.within in
    let arc : ℕ → Bool = λ q. is_one_way s.pattern (vertex_at pair q) (vertex_at pair place) in
    subst (λ m. ArePlaces c.arcs-successors.result.now.rows images (bit_and c.only_word-2.result m)) (sym (mask-word c.count.result (length images) c.count.ensures.value (count-small pair images sound place c.requires.place within)))
    (are-places pair images sound place c.requires.place within c.arcs-successors.result.now.rows c.only_word-2.result arc c.arcs-successors.ensures.rows_are
    (places-only (vertex_count s.pattern) (λ p q. nat_lt q p && is_one_way s.pattern (vertex_at pair q) (vertex_at pair p)) s.sources c.self.invariant.sources place within c.only_word-2.result c.only_word-2.ensures))

pub keep_images-requires-clause-places : goal.keep_images-requires-clause-places
keep_images-requires-clause-places c =
    let s = c.self.inside in
    let pair = pair_of s.pattern s.target in
    let images = c.args.node.now in
    let place = c.args.place in
    let sound = subst (λ (p : GraphPair). IsNode p images) (sym c.self.view_is) c.requires.node in
    let within = same-place pair c.args.self.now place c.self.view_is c.requires.within in
    let arc : ℕ → Bool = λ q. is_one_way s.pattern (vertex_at pair place) (vertex_at pair q) in
    subst (λ m. ArePlaces s.predecessors.rows images (bit_and c.only_word-3.result m)) (sym (mask-word c.count.result (length images) c.count.ensures.value (count-small pair images sound place c.requires.place within)))
    (are-places pair images sound place c.requires.place within s.predecessors.rows c.only_word-3.result arc c.self.invariant.predecessors.rows_are
    (places-only (vertex_count s.pattern) (λ p q. nat_lt q p && is_one_way s.pattern (vertex_at pair p) (vertex_at pair q)) s.aims c.self.invariant.aims place within c.only_word-3.result c.only_word-3.ensures))

pub returns-then-not-self : goal.returns-then-not-self
returns-then-not-self c = λ k small.
    let s = c.self.inside in
    let pair = pair_of s.pattern s.target in
    let images = c.args.node.now in
    let place = c.args.place in
    let number = c.args.number in
    let t = 64 * number + k in
    let sound = subst (λ (p : GraphPair). IsNode p images) (sym c.self.view_is) c.requires.node in
    let within = same-place pair c.args.self.now place c.self.view_is c.requires.within in
    let mask = mask-word c.count.result (length images) c.count.ensures.value (count-small pair images sound place c.requires.place within) in
    let last : t < 64 * ((vertex_count s.target + 63) / 64) = let m = ap (λ (p : GraphPair). vertex_count p.target) c.self.view_is in let n = c.requires.number in omega arith in
    let two_way = c.self.invariant.two_way c.if-not-self.true in
    let arcs_both : ℕ → Bool = λ q. are_joined s.pattern (vertex_at pair q) (vertex_at pair place) in
    let kept = bit_at c.keep_images-joined.result k == 1 in
    candidate-is pair images sound place c.requires.place within t
    (bit_at c.word.result k == 1) (bit_at (bit_and c.word.result (slice_index c.args.unused.now number)) k == 1) kept kept kept
    (bit_and c.only_word.result (1 * 2 ^ c.count.result % 2 ^ 64 - 1)) 0 0 s.joined c.arcs-successors.result.now s.predecessors
    (bits_both c.word.result (slice_index c.args.unused.now number) k ∙ ap (λ b. (bit_at c.word.result k == 1) && b) (word_bits c.args.unused.now number k small ∙ c.requires.unused.each t (let m = sound.limits.target in omega (arith, last, m))))
    (c.word.ensures k small ∙ c.self.invariant.rooms.bits place t within last)
    (c.keep_images-joined.ensures k small)
    (all-of_none pair images sound place c.requires.place within kept (λ q. in_row c.arcs-successors.result.now (slice_index images q) t))
    (all-of_none pair images sound place c.requires.place within kept (λ q. in_row s.predecessors (slice_index images q) t))
    (λ q l. ap (λ m. bit_at (bit_and c.only_word.result m) q == 1) mask ∙ mapped-bits pair images sound place c.requires.place within c.only_word.result arcs_both (places-only (vertex_count s.pattern) (λ p q. nat_lt q p && are_joined s.pattern (vertex_at pair q) (vertex_at pair p)) s.partners c.self.invariant.partners place within c.only_word.result c.only_word.ensures) q l)
    (no-places pair images sound place c.requires.place within (λ q. is_one_way s.pattern (vertex_at pair q) (vertex_at pair place)) (λ q l. two_way (vertex_at pair q) (vertex_at pair place) (vertex-below s.pattern q (let p = c.requires.place in omega (arith, l, p, within))) (vertex-below s.pattern place within)))
    (no-places pair images sound place c.requires.place within (λ q. is_one_way s.pattern (vertex_at pair place) (vertex_at pair q)) (λ q l. two_way (vertex_at pair place) (vertex_at pair q) (vertex-below s.pattern place within) (vertex-below s.pattern q (let p = c.requires.place in omega (arith, l, p, within)))))
    (λ q l less. c.self.invariant.joined.bits (slice_index images q) t (image-below pair images sound q l) last ∙ met-limit t (vertex_count s.target) (are_joined s.target (slice_index images q) t) less)
    (λ q l less. c.arcs-successors.ensures.bits (slice_index images q) t (image-below pair images sound q l) less)
    (λ q l less. c.self.invariant.predecessors.bits (slice_index images q) t (image-below pair images sound q l) last ∙ met-limit t (vertex_count s.target) (is_arc s.target t (slice_index images q)) less)
    ∙ ap (λ (p : GraphPair). nat_lt t (vertex_count p.target) && is_candidate p images (vertex_at p place) t) c.self.view_is

pub returns : goal.returns
returns c = λ k small.
    let s = c.self.inside in
    let pair = pair_of s.pattern s.target in
    let images = c.args.node.now in
    let place = c.args.place in
    let number = c.args.number in
    let t = 64 * number + k in
    let sound = subst (λ (p : GraphPair). IsNode p images) (sym c.self.view_is) c.requires.node in
    let within = same-place pair c.args.self.now place c.self.view_is c.requires.within in
    let mask = mask-word c.count.result (length images) c.count.ensures.value (count-small pair images sound place c.requires.place within) in
    let last : t < 64 * ((vertex_count s.target + 63) / 64) = let m = ap (λ (p : GraphPair). vertex_count p.target) c.self.view_is in let n = c.requires.number in omega arith in
    let arcs_both : ℕ → Bool = λ q. are_joined s.pattern (vertex_at pair q) (vertex_at pair place) in
    let arcs_in : ℕ → Bool = λ q. is_one_way s.pattern (vertex_at pair q) (vertex_at pair place) in
    let arcs_out : ℕ → Bool = λ q. is_one_way s.pattern (vertex_at pair place) (vertex_at pair q) in
    candidate-is pair images sound place c.requires.place within t
    (bit_at c.word.result k == 1) (bit_at (bit_and c.word.result (slice_index c.args.unused.now number)) k == 1) (bit_at c.keep_images-joined.result k == 1) (bit_at c.keep_images-kept.result k == 1) (bit_at c.keep_images.result k == 1)
    (bit_and c.only_word.result (1 * 2 ^ c.count.result % 2 ^ 64 - 1)) (bit_and c.only_word-2.result (1 * 2 ^ c.count.result % 2 ^ 64 - 1)) (bit_and c.only_word-3.result (1 * 2 ^ c.count.result % 2 ^ 64 - 1)) s.joined c.arcs-successors.result.now s.predecessors
    (bits_both c.word.result (slice_index c.args.unused.now number) k ∙ ap (λ b. (bit_at c.word.result k == 1) && b) (word_bits c.args.unused.now number k small ∙ c.requires.unused.each t (let m = sound.limits.target in omega (arith, last, m))))
    (c.word.ensures k small ∙ c.self.invariant.rooms.bits place t within last)
    (c.keep_images-joined.ensures k small)
    (c.keep_images-kept.ensures k small)
    (c.keep_images.ensures k small)
    (λ q l. ap (λ m. bit_at (bit_and c.only_word.result m) q == 1) mask ∙ mapped-bits pair images sound place c.requires.place within c.only_word.result arcs_both (places-only (vertex_count s.pattern) (λ p q. nat_lt q p && are_joined s.pattern (vertex_at pair q) (vertex_at pair p)) s.partners c.self.invariant.partners place within c.only_word.result c.only_word.ensures) q l)
    (λ q l. ap (λ m. bit_at (bit_and c.only_word-2.result m) q == 1) mask ∙ mapped-bits pair images sound place c.requires.place within c.only_word-2.result arcs_in (places-only (vertex_count s.pattern) (λ p q. nat_lt q p && is_one_way s.pattern (vertex_at pair q) (vertex_at pair p)) s.sources c.self.invariant.sources place within c.only_word-2.result c.only_word-2.ensures) q l)
    (λ q l. ap (λ m. bit_at (bit_and c.only_word-3.result m) q == 1) mask ∙ mapped-bits pair images sound place c.requires.place within c.only_word-3.result arcs_out (places-only (vertex_count s.pattern) (λ p q. nat_lt q p && is_one_way s.pattern (vertex_at pair p) (vertex_at pair q)) s.aims c.self.invariant.aims place within c.only_word-3.result c.only_word-3.ensures) q l)
    (λ q l less. c.self.invariant.joined.bits (slice_index images q) t (image-below pair images sound q l) last ∙ met-limit t (vertex_count s.target) (are_joined s.target (slice_index images q) t) less)
    (λ q l less. c.arcs-successors.ensures.bits (slice_index images q) t (image-below pair images sound q l) less)
    (λ q l less. c.self.invariant.predecessors.bits (slice_index images q) t (image-below pair images sound q l) last ∙ met-limit t (vertex_count s.target) (is_arc s.target t (slice_index images q)) less)
    ∙ ap (λ (p : GraphPair). nat_lt t (vertex_count p.target) && is_candidate p images (vertex_at p place) t) c.self.view_is
