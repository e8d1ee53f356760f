-- A plan for a search in preorder has one worker.
use Rattle.std.proofs.Common.{◌≡◌, List, refl, sym, ap, ◌∙◌}
use Rattle.yew_words.specs.declared.table.Coordination.TheVariants as coordinations
use Rattle.yew_words.specs.declared.table.Head.{Head}
use Rattle.yew_words.specs.declared.table.Head.TheVariants.{Search, Make}
use Rattle.yew_words.specs.Word.{Word}
use Rattle.yew_words.specs.Plans.{Planned, PlanOf, Values, values_of, skeleton_of, workers_of}
use Rattle.yew_app.specs.Asks.{IsSequential}

sequential-one : (head : Head) (said : Values) → IsSequential (skeleton_of head said) → workers_of head said ≡ 1
sequential-one (Search problem coordinations.Sequential) said is = refl
sequential-one (Search problem coordinations.Depth) said is = absurd (cc)
sequential-one (Search problem coordinations.Budget) said is = absurd (cc)
sequential-one (Search problem coordinations.Steal) said is = absurd (cc)
sequential-one (Search problem coordinations.Ordered) said is = absurd (cc)
sequential-one (Make kind) said is = refl

pub one-worker : (words : List Word) (plan : Planned) → PlanOf words plan → IsSequential plan.skeleton → plan.workers ≡ 1
one-worker words plan is sequential =
    let said = values_of is.head is.settings in
    ap (λ (p : Planned). p.workers) is.plan_is
    ∙ sequential-one is.head said (sym (ap (λ (p : Planned). p.skeleton) is.plan_is) ∙ sequential)
