-- The first two words.
use Rattle.std.proofs.Common.{◌≡◌, List, [], ◌∷◌, length, Some, None, Result, Ok, Err, refl, sym, ap, subst, ◌∙◌, arith}
use Rattle.std.specs.Prelude.{String, string_bytes, IfErr}
use Rattle.std.specs.declared.alloc.Global.{Global}
use Rattle.yew_words.specs.declared.plan.UsageKind.{UsageKind}
use Rattle.yew_words.specs.declared.plan.UsageKind.TheVariants.{Missing, Unknown}
use Rattle.yew_words.specs.declared.table.Problem.{Problem}
use Rattle.yew_words.specs.declared.table.Coordination.{Coordination}
use Rattle.yew_words.specs.declared.table.Takes.{Takes}
use Rattle.yew_words.specs.Word.{Word, texts}
use Rattle.yew_words.specs.Table.{problem_word, coordination_word}
use Rattle.yew_words.specs.Offences.{DueSkeleton, Offending}
use Rattle.yew_words.specs.Table.{named, every_problem, every_coordination}
use Rattle.yew_words.proofs.JudgingFunction.{after_coordination}
use Rattle.yew_words.proofs.OneNameAWord.{named_is}
use Rattle.yew_words.specs.Kept.{value_fault, RefusesValue}
use Rattle.yew_words.proofs.EachWordJudged.{after_fault, fault_is}

abbrev Strings : Type 0
Strings = List (String Global)

pub first_and_rest : (words : Strings) (word : String Global) (rest : Strings) (name : Word) → words ≡ word ∷ rest → string_bytes word ≡ name
    → texts words ≡ name ∷ texts rest
first_and_rest words word rest name e is = ap texts e ∙ ap (λ (w : Word). w ∷ texts rest) is

-- the word of a problem
pub is_problem : (word : Word) (problem : Problem) → named problem_word every_problem word ≡ Some problem → word ≡ problem_word problem
is_problem word problem e = named_is problem_word every_problem word problem e

pub is_coordination : (word : Word) (coordination : Coordination) → named coordination_word every_coordination word ≡ Some coordination
    → word ≡ coordination_word coordination
is_coordination word coordination e = named_is coordination_word every_coordination word coordination e

-- no second word
pub second_missing : (problem : Problem) (words : Strings) → length words ≡ 0 → Offending (problem_word problem ∷ texts words) 2 Missing
second_missing problem [] e = record { due = DueSkeleton problem; rest = []; is_due = tt; words_are = refl; place_is = refl; is_refused = (refl, tt) }
second_missing problem (word ∷ words) e = absurd (omega arith)

-- another second word
pub second_unknown : (problem : Problem) (words : Strings) (word : Word) (rest : List Word) → texts words ≡ word ∷ rest
    → named coordination_word every_coordination word ≡ None → Offending (problem_word problem ∷ texts words) 2 Unknown
second_unknown problem words word rest e none =
    record {
      due = DueSkeleton problem;
      rest = word ∷ rest;
      is_due = tt;
      words_are = ap (λ (ws : List Word). problem_word problem ∷ ws) e;
      place_is =
          refl;
      is_refused = after_fault (DueSkeleton problem) word Unknown (ap (after_coordination problem) none);
    }

-- where a value is due, the fault of the first word
pub first_fault : {A : Type 0} (r : Result A UsageKind) (t : Takes) (words : Strings) (word : Word) (rest : List Word) → texts words ≡ word ∷ rest
    → IfErr r (λ kind. value_fault t word ≡ Some kind) → IfErr r (RefusesValue t (texts words))
first_fault (Ok a) t words word rest words_are fault = tt
first_fault (Err kind) t words word rest words_are fault = subst (λ (ws : List Word). RefusesValue t ws kind) (sym words_are) (fault_is t word kind fault)
