use Rattle.std.proofs.Common.{◌≢◌, ◌<◌, ◌^◌, ◌∷◌, length, map, ap, ap₂, sym, subst, ◌∙◌, rules, arith}
use Rattle.yew_lad.specs.Digraphs.{vertex_count}
use Rattle.yew_lad.specs.Kids.{Kids, remaining_of}
use Rattle.yew_lad.specs.Nodes.{with_image, IsNode}
use Rattle.yew_lad.proofs.KidLaws.{left-none, parent-sound, remaining-taken}
use Rattle.yew_lad.proofs.problem.SubgraphProblem.next.Goals as goal

pub fill-requires-clause-parent : goal.fill-requires-clause-parent
fill-requires-clause-parent c =
    let kids = c.args.kids.now in
    let same = c.word.ensures.bits in
    let some : kids.bits ≢ 0 = λ e. c.if-word-eq0.false (same ∙ e) in
    let fits : c.word.result.bits < 2 ^ 64 = search rules in
    let parent = parent-sound c.args.self.now kids some (omega (arith, fits, same)) c.requires.kids in
    subst (IsNode c.args.self.now) (sym c.take-image.ensures.taken.same_parent) parent.0

pub fill-requires-clause-within : goal.fill-requires-clause-within
fill-requires-clause-within c =
    let kids = c.args.kids.now in
    let same = c.word.ensures.bits in
    let some : kids.bits ≢ 0 = λ e. c.if-word-eq0.false (same ∙ e) in
    let fits : c.word.result.bits < 2 ^ 64 = search rules in
    let parent = parent-sound c.args.self.now kids some (omega (arith, fits, same)) c.requires.kids in
    subst (λ images. length images < vertex_count c.args.self.now.pattern) (sym c.take-image.ensures.taken.same_parent) parent.1

pub child-requires-clause-count : goal.child-requires-clause-count
child-requires-clause-count c =
    let kids = c.args.kids.now in
    let same = c.word.ensures.bits in
    let some : kids.bits ≢ 0 = λ e. c.if-word-eq0.false (same ∙ e) in
    let fits : c.word.result.bits < 2 ^ 64 = search rules in
    let parent = parent-sound c.args.self.now kids some (omega (arith, fits, same)) c.requires.kids in
    let few = c.requires.root.limits.pattern in
    let size = ap length (c.fill.ensures.parent ∙ c.take-image.ensures.taken.same_parent) in
    omega (arith, parent.1, few, size)

pub returns-then-word-eq0-clause-ok : goal.returns-then-word-eq0-clause-ok
returns-then-word-eq0-clause-ok c =
    let kids = c.args.kids.now in
    let none = ap (map (with_image kids.parent)) (left-none c.args.self.now kids (sym c.word.ensures.bits ∙ c.if-word-eq0.true)) in
    (none, none)

pub returns-clause-ok : goal.returns-clause-ok
returns-clause-ok c =
    let pair = c.args.self.now in
    let kids = c.args.kids.now in
    let taken = c.take-image.new.self in
    let filled = c.fill.new.kids in
    let some : kids.bits ≢ 0 = λ e. c.if-word-eq0.false (c.word.ensures.bits ∙ e) in
    remaining-taken pair kids taken c.take-image.result some c.take-image.ensures.taken
    ∙ ap₂ (λ parent xs. map (with_image parent) (c.take-image.result ∷ xs)) (sym c.fill.ensures.parent) (sym c.fill.ensures.left)
    ∙ ap₂ (λ child (k : Kids). child ∷ remaining_of pair k) (sym c.child.ensures.child) (sym c.child.ensures.same)
