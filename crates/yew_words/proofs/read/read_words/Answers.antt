-- Each plan and each offence is answered.
use Rattle.std.proofs.Common.{rules, Result, Ok, Err, ◌≡◌, ◌++◌, ap, sym, subst, ◌∙◌, append_assoc}
use Rattle.std.specs.Prelude.{IfOk, IfErr, IsErrAnd}
use Rattle.yew_words.specs.declared.plan.Usage.{Usage}
use Rattle.yew_words.specs.Word.{texts}
use Rattle.yew_words.specs.Plans.{planned, PlanOf}
use Rattle.yew_words.specs.Table.{head_words}
use Rattle.yew_words.specs.Offences.{Offending}
use Rattle.yew_words.proofs.PlansInRange.{plan_within}
use Rattle.yew_words.proofs.OneAnswer.{each_plan, each_offence}
use Rattle.yew_words.proofs.read.read_words.Goals as goal

-- what holds of the usage that is answered
told-of : {A : Type 0} (r : Result A Usage) (told : Usage) (P : Usage → Type 0) → IsErrAnd r (λ usage. usage ≡ told) → P told → IfErr r P
told-of (Ok a) told P is p = absurd is
told-of (Err usage) told P is p = subst P (sym is) p

pub returns-in_err-head-clause-each_plan : goal.returns-in_err-head-clause-each_plan
returns-in_err-head-clause-each_plan c =
    let is_plan : IfOk c.from_residual.result (λ plan. PlanOf (texts c.args.words.now) (planned plan)) = search rules in
    let is_offence : IfErr c.from_residual.result (λ usage. Offending (texts c.args.words.now) usage.place usage.kind) = search rules in
    each_plan (texts c.args.words.now) c.from_residual.result is_plan is_offence

pub returns-in_err-head-clause-each_offence : goal.returns-in_err-head-clause-each_offence
returns-in_err-head-clause-each_offence c =
    let is_plan : IfOk c.from_residual.result (λ plan. PlanOf (texts c.args.words.now) (planned plan)) = search rules in
    let is_offence : IfErr c.from_residual.result (λ usage. Offending (texts c.args.words.now) usage.place usage.kind) = search rules in
    each_offence (texts c.args.words.now) c.from_residual.result is_plan is_offence

pub returns-in_err-files-clause-each_plan : goal.returns-in_err-files-clause-each_plan
returns-in_err-files-clause-each_plan c =
    let is_plan : IfOk c.from_residual-in_err-files.result (λ plan. PlanOf (texts c.args.words.now) (planned plan)) = search rules in
    let is_offence : IfErr c.from_residual-in_err-files.result (λ usage. Offending (texts c.args.words.now) usage.place usage.kind) = search rules in
    each_plan (texts c.args.words.now) c.from_residual-in_err-files.result is_plan is_offence

pub returns-in_err-files-clause-each_offence : goal.returns-in_err-files-clause-each_offence
returns-in_err-files-clause-each_offence c =
    let is_plan : IfOk c.from_residual-in_err-files.result (λ plan. PlanOf (texts c.args.words.now) (planned plan)) = search rules in
    let is_offence : IfErr c.from_residual-in_err-files.result (λ usage. Offending (texts c.args.words.now) usage.place usage.kind) = search rules in
    each_offence (texts c.args.words.now) c.from_residual-in_err-files.result is_plan is_offence

pub returns-in_err-settings-clause-each_plan : goal.returns-in_err-settings-clause-each_plan
returns-in_err-settings-clause-each_plan c =
    let is_plan : IfOk c.from_residual-in_err-settings.result (λ plan. PlanOf (texts c.args.words.now) (planned plan)) = search rules in
    let head = head_words c.in_ok-head.head in
    let files = texts c.in_ok-files.files.now in
    let rest = texts c.in_ok-files.rest.now in
    let whole : texts c.args.words.now ≡ head ++ files ++ rest = c.in_ok-head.ensures.head ∙ ap (λ ws. head ++ ws) c.in_ok-files.ensures.files.1 ∙ sym (append_assoc head files rest) in
    let told : IfErr c.from_residual-in_err-settings.result (λ usage. Offending (head ++ files ++ rest) usage.place usage.kind) =
    told-of c.from_residual-in_err-settings.result c.in_err-settings.field-0.0 (λ usage. Offending (head ++ files ++ rest) usage.place usage.kind) c.from_residual-in_err-settings.ensures.1 c.in_err-settings.ensures.offence in
    let is_offence : IfErr c.from_residual-in_err-settings.result (λ usage. Offending (texts c.args.words.now) usage.place usage.kind) =
    subst (λ ws. IfErr c.from_residual-in_err-settings.result (λ usage. Offending ws usage.place usage.kind)) (sym whole) told in
    each_plan (texts c.args.words.now) c.from_residual-in_err-settings.result is_plan is_offence

pub returns-in_err-settings-clause-each_offence : goal.returns-in_err-settings-clause-each_offence
returns-in_err-settings-clause-each_offence c =
    let is_plan : IfOk c.from_residual-in_err-settings.result (λ plan. PlanOf (texts c.args.words.now) (planned plan)) = search rules in
    let head = head_words c.in_ok-head.head in
    let files = texts c.in_ok-files.files.now in
    let rest = texts c.in_ok-files.rest.now in
    let whole : texts c.args.words.now ≡ head ++ files ++ rest = c.in_ok-head.ensures.head ∙ ap (λ ws. head ++ ws) c.in_ok-files.ensures.files.1 ∙ sym (append_assoc head files rest) in
    let told : IfErr c.from_residual-in_err-settings.result (λ usage. Offending (head ++ files ++ rest) usage.place usage.kind) =
    told-of c.from_residual-in_err-settings.result c.in_err-settings.field-0.0 (λ usage. Offending (head ++ files ++ rest) usage.place usage.kind) c.from_residual-in_err-settings.ensures.1 c.in_err-settings.ensures.offence in
    let is_offence : IfErr c.from_residual-in_err-settings.result (λ usage. Offending (texts c.args.words.now) usage.place usage.kind) =
    subst (λ ws. IfErr c.from_residual-in_err-settings.result (λ usage. Offending ws usage.place usage.kind)) (sym whole) told in
    each_offence (texts c.args.words.now) c.from_residual-in_err-settings.result is_plan is_offence

pub returns-clause-each_plan : goal.returns-clause-each_plan
returns-clause-each_plan c =
    let is_plan : PlanOf (texts c.args.words.now) (planned c.make_plan.result) = search rules in
    each_plan (texts c.args.words.now) (Ok c.make_plan.result) is_plan tt

pub returns-clause-each_offence : goal.returns-clause-each_offence
returns-clause-each_offence c =
    let is_plan : PlanOf (texts c.args.words.now) (planned c.make_plan.result) = search rules in
    each_offence (texts c.args.words.now) (Ok c.make_plan.result) is_plan tt

pub returns-clause-within : goal.returns-clause-within
returns-clause-within c =
    let is_plan : PlanOf (texts c.args.words.now) (planned c.make_plan.result) = search rules in
    plan_within (texts c.args.words.now) (planned c.make_plan.result) is_plan
