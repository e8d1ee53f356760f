use Rattle.std.proofs.Common.{◌⊎◌, refl, subst, ap, ◌∙◌, inl, inr, ⊎_elim}
use Rattle.yew_words.specs.Word.{texts}
use Rattle.yew_app.specs.Asks.{IsSequential}
use Rattle.yew_app.specs.Reasons.{reason_of}
use Rattle.yew_app.specs.Refusals.{CannotWrite, status_of}
use Rattle.yew_app.specs.Outcomes.{outside, Says}
use Rattle.yew_app.proofs.Causes.{has-cause}
use Rattle.yew_app.proofs.FullAudits.{full-says}
use Rattle.yew_app.proofs.top.run_plain.Goals as goal

pub returns-in-Ok-write_whole-clause-files_refused : goal.returns-in-Ok-write_whole-clause-files_refused
returns-in-Ok-write_whole-clause-files_refused g c = λ no_fault reason refused. absurd (c.in-Ok.ensures.files_refused no_fault reason refused)

pub returns-in-Ok-clause-files_refused : goal.returns-in-Ok-clause-files_refused
returns-in-Ok-clause-files_refused g c = λ no_fault reason refused. absurd (c.in-Ok.ensures.files_refused no_fault reason refused)

pub returns-in-Ok-clause-refused : goal.returns-in-Ok-clause-refused
returns-in-Ok-clause-refused g c = λ not_zero. (
  CannotWrite,
  record {
    says = record { status_is = c.refuse.ensures.status; prefix = c.refuse.ensures.prefix; whole = c.refuse.ensures.whole };
    cause = record {
      text = c.in-Ok.text.items;
      answers = c.in-Ok.ensures.answers;
      prefix = rw c.deref.ensures.value at c.in-Err-write_whole.ensures.prefix;
      rose = c.in-Err-write_whole.ensures.cause;
    };
  },
)

pub returns-clause-files_refused : goal.returns-clause-files_refused
returns-clause-files_refused g c = λ no_fault.
    let reason_is = reason_of c.in-Err.refusal in
    let before = outside g.S.Shelf g.K.Sink g.E.Sink c.args.shelf.now c.args.out.now c.args.err.now in
    let after = outside g.S.Shelf g.K.Sink g.E.Sink c.plain_text.new.shelf c.args.out.now c.refuse-in-Err.new.sink in
    let status = c.refuse-in-Err.result in
    let says : Says before after status reason_is = record { status_is = c.refuse-in-Err.ensures.status; prefix = c.refuse-in-Err.ensures.prefix; whole = c.refuse-in-Err.ensures.whole } in
    λ reason refused. ⊎_elim
    (λ same. inl (subst (Says before after status) same says))
    (λ none. inr (says.status_is ∙ ap status_of none))
    (c.in-Err.ensures.files_refused no_fault reason refused)

pub returns-clause-refused : goal.returns-clause-refused
returns-clause-refused g c = λ not_zero. (
  reason_of c.in-Err.refusal,
  record {
    says = record { status_is = c.refuse-in-Err.ensures.status; prefix = c.refuse-in-Err.ensures.prefix; whole = c.refuse-in-Err.ensures.whole };
    cause =
        has-cause IsSequential (texts c.args.words.now)
        (outside g.S.Shelf g.K.Sink g.E.Sink c.args.shelf.now c.args.out.now c.args.err.now)
        (outside g.S.Shelf g.K.Sink g.E.Sink c.plain_text.new.shelf c.args.out.now c.refuse-in-Err.new.sink)
        (reason_of c.in-Err.refusal) c.in-Err.ensures.cause c.in-Err.ensures.read_fault refl;
  },
)

pub returns-clause-audit_full : goal.returns-clause-audit_full
returns-clause-audit_full g c = λ no_fault.
    let reason_is = reason_of c.in-Err.refusal in
    let before = outside g.S.Shelf g.K.Sink g.E.Sink c.args.shelf.now c.args.out.now c.args.err.now in
    let after = outside g.S.Shelf g.K.Sink g.E.Sink c.plain_text.new.shelf c.args.out.now c.refuse-in-Err.new.sink in
    let says : Says before after c.refuse-in-Err.result reason_is = record { status_is = c.refuse-in-Err.ensures.status; prefix = c.refuse-in-Err.ensures.prefix; whole = c.refuse-in-Err.ensures.whole } in
    λ fills. full-says before after c.refuse-in-Err.result reason_is (c.in-Err.ensures.audit_full no_fault fills) says

pub returns-in-Ok-write_whole-clause-audit_full : goal.returns-in-Ok-write_whole-clause-audit_full
returns-in-Ok-write_whole-clause-audit_full g c = λ no_fault fills. absurd (c.in-Ok.ensures.audit_full no_fault fills)

pub returns-in-Ok-clause-audit_full : goal.returns-in-Ok-clause-audit_full
returns-in-Ok-clause-audit_full g c = λ no_fault fills. absurd (c.in-Ok.ensures.audit_full no_fault fills)
