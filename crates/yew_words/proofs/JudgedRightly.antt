-- What the function on the words answers is a plan, or the first offence.
use Rattle.std.proofs.Common.{◌≡◌, ℕ, suc, Bool, true, cond, List, [], ◌∷◌, ◌++◌, length, Result, Ok, Err, refl, sym, ap, subst, ◌∙◌, append_assoc, arith}
use Rattle.std.proofs.Common.{inl, inr}
use Rattle.std.specs.Prelude.{IsTrue}
use Rattle.std.specs.List.{AllByRecursion, list_all}
use Rattle.std.proofs.lemmas.Bool.{cases_Bool, both_ways, and_parts, and_from}
use Rattle.std.proofs.lemmas.List.{append-nil, length-append}
use Rattle.yew_words.specs.declared.plan.UsageKind.{UsageKind}
use Rattle.yew_words.specs.declared.plan.UsageKind.TheVariants.{Missing}
use Rattle.yew_words.specs.Word.{Word}
use Rattle.yew_words.specs.declared.table.OptionName.{OptionName}
use Rattle.yew_words.specs.Table.{required}
use Rattle.yew_words.specs.Plans.{Planned, is_given, values_of, plan_of, PlanOf}
use Rattle.yew_words.specs.Offences.{Due, DueJob, DueSkeleton, DueMade, DueFile, DueOption, DueValue, words_before, IsDue, MayNotEnd, Offending}
use Rattle.yew_words.proofs.JudgingFunction.{Fault, after, at_end, ended, go_on, judge_from, judge}
use Rattle.yew_words.proofs.EachWordJudged.{after_next, after_fault}

-- what an answer says of the words
abbrev pub Answers : List Word → Result Planned Fault → Type 0
Answers words (Ok plan) = PlanOf words plan
Answers words (Err fault) = Offending words fault.place fault.kind

-- each of these is given
pub list_all-true : (test : OptionName → Bool) (names : List OptionName) → list_all test names ≡ true → AllByRecursion (λ name. IsTrue (test name)) names
list_all-true test [] e = tt
list_all-true test (name ∷ names) e = let p = and_parts (test name) (list_all test names) e in (p.0, list_all-true test names p.1)

pub all-list_all : (test : OptionName → Bool) (names : List OptionName) → AllByRecursion (λ name. IsTrue (test name)) names → list_all test names ≡ true
all-list_all test [] all = refl
all-list_all test (name ∷ names) all = and_from (test name) (list_all test names) all.0 (all-list_all test names all.1)

missing : (due : Due) → IsDue due → MayNotEnd due → Offending (words_before due) (suc (length (words_before due))) Missing
missing due d may = record { due = due; rest = []; is_due = d; words_are = sym (append-nil (words_before due)); place_is = refl; is_refused = (refl, may) }

-- where the words end
ends : (due : Due) → IsDue due → Answers (words_before due) (ended (suc (length (words_before due))) (at_end due))
ends DueJob d = missing DueJob d tt
ends (DueSkeleton problem) d = missing (DueSkeleton problem) d tt
ends DueMade d = missing DueMade d tt
ends (DueFile head files) d = missing (DueFile head files) d tt
ends (DueValue head files ss name) d = missing (DueValue head files ss name) d tt
ends (DueOption head files ss) d =
    let words = words_before (DueOption head files ss) in
    let place = suc (length words) in
    let P : Bool → Type 0 = λ b. Answers words (ended place (cond b (Ok (plan_of head files (values_of head ss))) (Err Missing))) in
    elim (cases_Bool (list_all (is_given ss) (required head (is_given ss)))) [
      | inl all ↦ subst P (sym all) (record {
        head = head;
        files = files;
        settings = ss;
        words_are = refl;
        are_files = d.0;
        are_settings = d.1;
        has_required =
            list_all-true (is_given ss) (required head (is_given ss)) all;
        plan_is = refl;
      })
      | inr not_all ↦ subst P (sym not_all) (missing (DueOption head files ss) d
          (λ has. both_ways (list_all (is_given ss) (required head (is_given ss))) not_all (all-list_all (is_given ss) (required head (is_given ss)) has)))
    ]

pub judge_step : (due : Due) (place : ℕ) (word : Word) (words : List Word) (next : Due) → after due word ≡ Ok next
    → judge_from due place (word ∷ words) ≡ judge_from next (suc place) words
unfolding judge_from
judge_step due place word words next e = ap (λ r. go_on place r (λ next. judge_from next (suc place) words)) e

pub judge_stop : (due : Due) (place : ℕ) (word : Word) (words : List Word) (kind : UsageKind) → after due word ≡ Err kind
    → judge_from due place (word ∷ words) ≡ Err (record { place = place; kind = kind })
unfolding judge_from
judge_stop due place word words kind e = ap (λ r. go_on place r (λ next. judge_from next (suc place) words)) e

pub judge_end : (due : Due) (place : ℕ) → judge_from due place [] ≡ ended place (at_end due)
unfolding judge_from
judge_end due place = refl

longer : (before next : List Word) (word : Word) → next ≡ before ++ word ∷ [] → suc (length next) ≡ suc (suc (length before))
longer before next word e = ap (λ (ws : List Word). suc (length ws)) e ∙ omega (arith, length-append before (word ∷ []))

abbrev From : List Word → Due → Type 0
From words due = Answers (words_before due ++ words) (judge_from due (suc (length (words_before due))) words)

step_ok : (due : Due) (word : Word) (words : List Word) (next : Due) → IsDue due → after due word ≡ Ok next → From words next → From (word ∷ words) due
step_ok due word words next d e h =
    let f = after_next due word next d e in
    let words_are : words_before next ++ words ≡ words_before due ++ word ∷ words = ap (λ (ws : List Word). ws ++ words) f.1
    ∙ append_assoc (words_before due) (word ∷ []) words in
    let place_is : suc (length (words_before next)) ≡ suc (suc (length (words_before due))) = longer (words_before due) (words_before next) word f.1 in
    rw (judge_step due (suc (length (words_before due))) word words next e, ← place_is, ← words_are) h

step_err : (due : Due) (word : Word) (words : List Word) (kind : UsageKind) → IsDue due → after due word ≡ Err kind → From (word ∷ words) due
step_err due word words kind d e = rw (judge_stop due (suc (length (words_before due))) word words kind e)
    (record { due = due; rest = word ∷ words; is_due = d; words_are = refl; place_is = refl; is_refused = after_fault due word kind e })

step : (due : Due) (word : Word) (words : List Word) → IsDue due → ((next : Due) → IsDue next → From words next) → (r : Result Due UsageKind)
    → after due word ≡ r → From (word ∷ words) due
step due word words d rest (Ok next) e = step_ok due word words next d e (rest next (after_next due word next d e).0)
step due word words d rest (Err kind) e = step_err due word words kind d e

sound : (words : List Word) (due : Due) → IsDue due → From words due
sound [] due d = rw (append-nil (words_before due), judge_end due (suc (length (words_before due)))) (ends due d)
sound (word ∷ words) due d = step due word words d (λ next e. sound words next e) (after due word) refl

-- The answer is right.
pub judge_answers : (words : List Word) → Answers words (judge words)
judge_answers words = sound words DueJob tt
