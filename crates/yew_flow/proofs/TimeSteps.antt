-- One time more of a file.
use Rattle.std.proofs.Common.{◌≡◌, ℕ, ◌+◌, ◌*◌, ◌<◌, List, [], ◌∷◌, ◌++◌, length, Option, Some, None, Result, Ok, Err, true, false, cond, refl, sym, ap, ◌∙◌, arith}
use Rattle.std.specs.Option.{option_map}
use Rattle.std.proofs.lemmas.Bool.{lt-ltb}
use Rattle.std.proofs.lemmas.List.{length-append, map_push}
use Rattle.yew_text.specs.declared.text.TextFault.{TextFault}
use Rattle.yew_text.specs.Numbers.{Fault}
use Rattle.yew_text.specs.Position.{Position, SameText}
use Rattle.yew_text.specs.Reading.{TakesNumber, text_fault}
use Rattle.yew_text.specs.Grammar.{DueEnd, due_number, Limited, is_past, first_past, reading}
use Rattle.yew_text.proofs.Steps.{reading_next, reading_fault}
use Rattle.yew_flow.specs.declared.reading.Past.{Past}
use Rattle.yew_flow.specs.Files.{flow_shape, head_limits, time_limits}
use Rattle.yew_flow.specs.Reading.{limited, first_of, KeepsTime, SomeTimes}

-- the first of joined lists is the first of the one, and else of the other
first_past-append : (xs ys : List Limited) → first_past (xs ++ ys) ≡ first_of (first_past xs) (first_past ys)
first_past-append [] ys = refl
first_past-append (x ∷ xs) ys =
    elim (is_past x) as (λ b. cond b (Some x) (first_past (xs ++ ys)) ≡ first_of (cond b (Some x) (first_past xs)) (first_past ys)) [
      | true ↦ refl
      | false ↦ first_past-append xs ys
    ]

still_none : (past after : Option Past) (own : Option Limited) → option_map limited after ≡ first_of (option_map limited past) own → after ≡ None → past ≡ None
still_none None after own e none = refl
still_none (Some p) after own e none = absurd (let f : option_map limited None ≡ Some (limited p) = ap (option_map limited) (sym none) ∙ e in cc)

abbrev limit_of : ℕ → Limited
limit_of time = record { number = time; limit = 1048575 }

module _ (jobs machines : ℕ) where
  module _ (count : ℕ) (few : count < jobs * machines) (start at : Position) (kept : List ℕ) (past : Option Past) (read : SomeTimes start jobs machines count kept past at) where
    due : flow_shape (jobs ∷ machines ∷ read.times) ≡ due_number
    due =
        let long = read.count_is in
        ap (λ b. cond b due_number DueEnd) (lt-ltb (length read.times) (jobs * machines) (omega (arith, long, few)))

    pub time-fault : (new : Position) (f : TextFault) → TakesNumber at (Err f) new → ◌≡◌ {A = Result (List ℕ) Fault} (reading flow_shape (jobs ∷ machines ∷ []) start) (Err (text_fault f))
    time-fault new f takes = read.goes_on ∙ reading_fault flow_shape (jobs ∷ machines ∷ read.times) at new due f takes

    pub time-read : (new : Position) (n : ℕ) → TakesNumber at (Ok n) new → SameText at new → (kept_now : List ℕ) (after : Option Past) → KeepsTime kept past n kept_now after → SomeTimes start jobs machines (count + 1) kept_now after new
    time-read new n takes same kept_now after keeps = record {
      times = read.times ++ n ∷ [];
      goes_on = read.goes_on ∙ reading_next flow_shape (jobs ∷ machines ∷ read.times) at new due n takes same;
      count_is = let e = length-append read.times (n ∷ []) in let d = read.count_is in omega (arith, e, d);
      past_is =
          keeps.past_is
          ∙ ap (λ o. first_of o (first_past (limit_of n ∷ []))) read.past_is
          ∙ sym (first_past-append (head_limits jobs machines ++ time_limits read.times) (limit_of n ∷ []))
          ∙ ap (λ ls. first_past (head_limits jobs machines ++ ls)) (sym (map_push limit_of read.times n));
      kept_are = λ none. keeps.kept none ∙ ap (λ ns. ns ++ n ∷ []) (read.kept_are (still_none past after (first_past (limit_of n ∷ [])) keeps.past_is none));
    }
