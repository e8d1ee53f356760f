use Rattle.std.proofs.Common.{◌≡◌, ◌≢◌, ℕ, ◌+◌, ◌*◌, ◌++◌, ap, ap₂, sym, ◌∙◌, arith}
use Rattle.yew_lad.specs.Kids.{in_word, candidates_from, left_from, kids_of}
use Rattle.yew_lad.proofs.KidLaws.{left-some, left-none, word-empty, candidates-past}
use Rattle.yew_lad.proofs.subgraph.Subgraph.fill.Goals as goal
use Rattle.yew_lad.proofs.subgraph.Subgraph.fill.Goals.{else-word-eq0-via-then-word-eq0+else-word-width, else-word-eq0-via-else-word-eq0}

pub returns-then-word-width-clause-left : goal.returns-then-word-width-clause-left
returns-then-word-width-clause-left c =
    let pair = c.args.self.now in
    let kids = c.args.kids.now in
    let past = candidates_from pair kids.parent (64 * (kids.number + 1)) in
    let empty : kids.bits ≡ 0 = sym c.word-word.ensures.bits ∙ c.if-word-eq0.true in
    ap (left_from pair) c.go_on.ensures
    ∙ ap (λ parent. left_from pair (kids_of parent c.next_word-next.result)) (sym c.parent.ensures)
    ∙ sym c.next_word-next.ensures.candidates
    ∙ ap₂ (λ parent (number : ℕ). candidates_from pair parent (64 * (number + 1))) c.parent.ensures c.word-word.ensures.number
    ∙ sym (ap (λ xs. xs ++ past) (ap (in_word kids.number) empty ∙ word-empty kids.number))

pub returns-else-word-eq0-clause-left : goal.returns-else-word-eq0-clause-left
returns-else-word-eq0-clause-left c =
    let pair = c.args.self.now in
    let kids = c.args.kids.now in
    let number = c.word-word.ensures.number in
    elim c.else-word-eq0.branch [
      | else-word-eq0-via-then-word-eq0+else-word-width w ↦
          let empty : kids.bits ≡ 0 = sym c.word-word.ensures.bits ∙ w.if-word-eq0.true in
          let width = w.width.ensures in
          let last = w.if-word-width.false in
          left-none pair kids empty
          ∙ sym (ap₂ (λ xs ys. xs ++ ys) (ap (in_word kids.number) empty ∙ word-empty kids.number) (candidates-past pair kids.parent (64 * (kids.number + 1)) (omega (arith, width, last, number))))
      | else-word-eq0-via-else-word-eq0 w ↦
          let some : kids.bits ≢ 0 = λ e. w.if-word-eq0.false (c.word-word.ensures.bits ∙ e) in
          left-some pair kids some
    ]
