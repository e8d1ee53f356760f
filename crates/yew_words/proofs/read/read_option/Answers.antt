-- An option's name, and its value.
use Rattle.std.proofs.Common.{rules, ◌≡◌, ◌+◌, ◌∷◌, true, false, Result, Ok, Err, is_ok, ap, sym, ◌∙◌, subst}
use Rattle.std.specs.Prelude.{IfOk, IfErr, MatchResult}
use Rattle.yew_words.specs.declared.table.Takes.{Takes}
use Rattle.yew_words.specs.Word.{Word, texts}
use Rattle.yew_words.specs.Table.{takes}
use Rattle.yew_words.specs.Kept.{NamesOption, RefusesName, TakesValue, RefusesValue, TakesSetting}
use Rattle.yew_words.proofs.OptionsRead.{name_refused, value_refused, taken}
use Rattle.yew_words.proofs.read.read_option.Goals as goal

-- where the error alone is mapped an answer is the one before
ok_before : {T E D : Type 0} (before : Result T E) (after : Result T D) (x : T) (P : T → Type 0) (Q : E → Type 0) → MatchResult before (λ y. after ≡ Ok y) Q
    → is_ok after ≡ is_ok before → after ≡ Ok x → IfOk before P → P x
ok_before (Ok y) after x P Q is variant e holds = subst P (let f : Ok y ≡ Ok x = sym is ∙ e in cc) holds
ok_before {E = E} (Err fault) after x P Q is variant e holds = absurd (let f : true ≡ false = sym (ap (λ r. is_ok r) e) ∙ variant in cc)

pub returns-in_err-name-clause-offence : goal.returns-in_err-name-clause-offence
returns-in_err-name-clause-offence c =
    let kind : IfErr c.from_residual.result (λ usage. RefusesName c.args.head c.args.settings.now c.deref.result.now usage.kind) = search rules in
    let place : IfErr c.from_residual.result (λ usage. usage.place ≡ c.args.place) = search rules in
    name_refused c.from_residual.result c.args.head c.args.settings.now c.args.place c.deref.result.now _ (texts c.args.behind.now) c.deref.ensures kind place

pub returns-in_err-value-clause-offence : goal.returns-in_err-value-clause-offence
returns-in_err-value-clause-offence c =
    let names : NamesOption c.args.head c.args.settings.now c.deref.result.now c.in_ok-name.name =
    ok_before c.read_name.result c.map_err.result c.in_ok-name.name
    (λ name. NamesOption c.args.head c.args.settings.now c.deref.result.now name) _ c.map_err.ensures.cases c.map_err.ensures.variant c.in_ok-name.was
    c.read_name.ensures.option in
    let kind : IfErr c.from_residual-in_err-value.result (λ usage. RefusesValue (takes c.args.head c.in_ok-name.name) (texts c.args.behind.now) usage.kind) =
    search rules in
    let place : IfErr c.from_residual-in_err-value.result (λ usage. usage.place ≡ c.args.place + 1) = search rules in
    value_refused c.from_residual-in_err-value.result c.args.head c.args.settings.now c.args.place c.deref.result.now _
    (texts c.args.behind.now) c.in_ok-name.name c.deref.ensures names kind place

pub returns-clause-option : goal.returns-clause-option
returns-clause-option c =
    let names : NamesOption c.args.head c.args.settings.now c.deref.result.now c.in_ok-name.name =
    ok_before c.read_name.result c.map_err.result c.in_ok-name.name
    (λ name. NamesOption c.args.head c.args.settings.now c.deref.result.now name) _ c.map_err.ensures.cases c.map_err.ensures.variant c.in_ok-name.was
    c.read_name.ensures.option in
    let value : TakesValue c.follows.result (texts c.args.behind.now) c.in_ok-value.value (texts c.in_ok-value.rest.now) = search rules in
    let rest = texts c.in_ok-value.rest.now in
    let takes_value : TakesValue (takes c.args.head c.in_ok-name.name) (texts c.args.behind.now) c.in_ok-value.value rest =
    subst (λ (t : Takes). TakesValue t (texts c.args.behind.now) c.in_ok-value.value rest) c.follows.ensures value in
    subst (λ (w : Word). TakesSetting c.args.head c.args.settings.now (w ∷ texts c.args.behind.now) c.in_ok-name.name c.in_ok-value.value rest)
    c.deref.ensures
    (taken c.args.head c.args.settings.now c.deref.result.now (texts c.args.behind.now) c.in_ok-name.name c.in_ok-value.value rest names takes_value)
