use Rattle.std.proofs.Common.{ℕ, ◌∙◌, sym, ap, ap₂, inl, inr, arith}
use Rattle.std.proofs.lemmas.List.{nil_from_length}
use Rattle.yew_laws.proofs.PathTests.{nat-is}
use Rattle.yew_best.specs.Seats.{BestId, SeatView}
use Rattle.yew_walk.specs.Keys.{key_of}
use Rattle.yew_walk.specs.Seats.{has_offered}
use Rattle.yew_walk.proofs.KeyOrder.{key_of-small}
use Rattle.yew_walk.proofs.verdict.judge.Goals as goal
use Rattle.yew_walk.proofs.verdict.judge.Goals.{then-not-is_empty+else-key-limit, else-not-is_empty}

pub returns : goal.returns
returns g c = record {
  word = c.read-word.result;
  is_read = record {
    at_least_read = c.read-word.ensures.at_least_read;
    at_least_offered = c.read-word.ensures.at_least_offered;
    whole = λ share. c.read-word.ensures.whole (share ∙ ap (λ (b : BestId). b.seats) c.requires.seat);
  };
  worth_is = c.worth-worth.ensures;
  held_is = c.held-read.ensures;
  due = elim c.if-not-is_empty.branch [
    | then-not-is_empty+else-key-limit w ↦
        (let key = w.key.ensures ∙ ap (key_of c.args.keying) w.bound-bound.ensures in
        let small = key_of-small c.args.keying (g.P.Problem.bound c.args.problem.now c.args.node.now) c.requires.keying ((g.P.Problem.bounded c.args.problem.now).fits c.args.node.now c.requires.task.is_sound) in
        inr (omega (arith, key, small, w.limit.ensures, w.if-key-limit.false)))
    | else-not-is_empty w ↦ inl (sym c.numbers.ensures.value ∙ nil_from_length _ (nat-is _ 0 (sym c.is_empty.ensures ∙ w.if-not-is_empty.false)))
  ];
  seat_is = c.raise.ensures.offered ∙ ap₂ (λ (s : SeatView) (key : ℕ). has_offered s key) c.read-word.ensures.read c.key-2.ensures;
}
