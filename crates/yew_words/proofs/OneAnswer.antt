-- Exactly one answer.
use Rattle.std.proofs.Common.{◌≡◌, ℕ, List, Result, Ok, Err, refl, sym, ap, ◌∙◌, inl, inr}
use Rattle.yew_words.specs.declared.plan.UsageKind.{UsageKind}
use Rattle.yew_words.specs.Word.{Word}
use Rattle.std.specs.Prelude.{IfOk, IfErr, IsOkAnd}
use Rattle.yew_words.specs.declared.plan.Plan.{Plan}
use Rattle.yew_words.specs.declared.plan.Usage.{Usage}
use Rattle.yew_words.specs.Plans.{Planned, planned, PlanOf}
use Rattle.yew_words.specs.Offences.{Offending}
use Rattle.yew_words.proofs.JudgingFunction.{Fault, judge}
use Rattle.yew_words.specs.Laws.{HasOneAnswer}
use Rattle.yew_words.proofs.EachWordJudged.{ok_is, err_is, ok_err, err_ok}
use Rattle.yew_words.proofs.JudgedRightly.{Answers, judge_answers}
use Rattle.yew_words.proofs.JudgedWholly.{plan_judged, offence_judged}

answered : (words : List Word) (r : Result Planned Fault) → judge words ≡ r → Answers words r → HasOneAnswer words
answered words (Ok plan) e h = inl (record {
  plan = plan;
  is_plan = h;
  only = λ other p. ok_is other plan (sym (plan_judged words other p) ∙ e);
  in_order = λ place kind o. err_ok (record { place = place; kind = kind }) plan (sym (offence_judged words place kind o) ∙ e);
})
answered words (Err fault) e h = inr (record {
  place = fault.place;
  kind = fault.kind;
  is_offence = h;
  only_place = λ place kind o. ap (λ (f : Fault). f.place) (err_is (record { place = place; kind = kind }) fault
      (sym (offence_judged words place kind o) ∙ e));
  only_kind = λ place kind o. ap (λ (f : Fault). f.kind) (err_is (record { place = place; kind = kind }) fault (sym (offence_judged words place kind o) ∙ e));
  no_plan = λ plan p. ok_err plan fault (sym (plan_judged words plan p) ∙ e);
})

pub one_answer : (words : List Word) → HasOneAnswer words
one_answer words = answered words (judge words) refl (judge_answers words)

-- ---- a reader that answers a plan of the words or their first offence answers each one that there is

pub each_plan : (words : List Word) (result : Result Plan Usage) → IfOk result (λ plan. PlanOf words (planned plan))
    → IfErr result (λ usage. Offending words usage.place usage.kind) → (plan : Planned) → PlanOf words plan
    → IsOkAnd result (λ answered. planned answered ≡ plan)
each_plan words (Ok answered) is_plan is_offence plan p = ok_is (planned answered) plan
    (sym (plan_judged words (planned answered) is_plan) ∙ plan_judged words plan p)
each_plan words (Err usage) is_plan is_offence plan p = absurd
    (ok_err plan (record { place = usage.place; kind = usage.kind })
    (sym (plan_judged words plan p) ∙ offence_judged words usage.place usage.kind is_offence))

pub each_offence : (words : List Word) (result : Result Plan Usage) → IfOk result (λ plan. PlanOf words (planned plan))
    → IfErr result (λ usage. Offending words usage.place usage.kind) → (place : ℕ) (kind : UsageKind) → Offending words place kind
    → result ≡ Err (record { place = place; kind = kind })
each_offence words (Ok answered) is_plan is_offence place kind o =
    absurd (ok_err (planned answered) (record { place = place; kind = kind })
    (sym (plan_judged words (planned answered) is_plan) ∙ offence_judged words place kind o))
each_offence words (Err usage) is_plan is_offence place kind o =
    ap (λ (f : Fault). Err (record { place = f.place; kind = f.kind }))
    (err_is (record { place = usage.place; kind = usage.kind }) (record { place = place; kind = kind })
    (sym (offence_judged words usage.place usage.kind is_offence) ∙ offence_judged words place kind o))
