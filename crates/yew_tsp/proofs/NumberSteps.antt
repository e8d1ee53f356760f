-- One number more of a matrix.
use Rattle.std.proofs.Common.{◌≡◌, ℕ, ◌+◌, ◌<◌, List, [], ◌∷◌, ◌++◌, length, Option, Some, None, Result, Ok, Err, true, false, cond, refl, sym, ap, ◌∙◌, arith}
use Rattle.std.specs.Option.{option_map}
use Rattle.std.proofs.lemmas.Bool.{lt-ltb}
use Rattle.std.proofs.lemmas.List.{length-append, map_push}
use Rattle.yew_text.specs.declared.text.TextFault.{TextFault}
use Rattle.yew_text.specs.Numbers.{Fault}
use Rattle.yew_text.specs.Position.{Position, SameText}
use Rattle.yew_text.specs.Reading.{text_fault}
use Rattle.yew_text.specs.Grammar.{DueEnd, due_number, Limited, is_past, first_past}
use Rattle.yew_tsp.specs.declared.header.Specification.{Specification}
use Rattle.yew_tsp.specs.declared.reading.Past.{Past}
use Rattle.yew_tsp.specs.Files.{number_limits}
use Rattle.yew_tsp.specs.Matrices.{matrix_count, matrix_shape}
use Rattle.yew_tsp.specs.Reading.{TakesMatrixNumber, matrix_reading, limited, first_of, KeepsNumber, SomeNumbers}
use Rattle.yew_tsp.proofs.MatrixWords.{matrix-next, matrix-fault}

-- the first of joined lists is the first of the one, and else of the other
first_past-append : (xs ys : List Limited) → first_past (xs ++ ys) ≡ first_of (first_past xs) (first_past ys)
first_past-append [] ys = refl
first_past-append (x ∷ xs) ys =
    elim (is_past x) as (λ b. cond b (Some x) (first_past (xs ++ ys)) ≡ first_of (cond b (Some x) (first_past xs)) (first_past ys)) [
      | true ↦ refl
      | false ↦ first_past-append xs ys
    ]

still_none : (past after : Option Past) (own : Option Limited) → option_map limited after ≡ first_of (option_map limited past) own → after ≡ None → past ≡ None
still_none None after own e none = refl
still_none (Some p) after own e none = absurd (let f : option_map limited None ≡ Some (limited p) = ap (option_map limited) (sym none) ∙ e in cc)

abbrev limit_of : ℕ → Limited
limit_of n = record { number = n; limit = 2147483647 }

module _ (said : Specification) where
  abbrev cities_limit : Limited
  cities_limit = record { number = said.cities; limit = 60 }

  -- no numbers are read yet
  pub no_numbers : (at : Position) (past : Option Past) → option_map limited past ≡ first_past (cities_limit ∷ []) → SomeNumbers at said 0 [] past at
  no_numbers at past is = record { numbers = []; goes_on = refl; count_is = refl; past_is = is; kept_are = λ none. refl }

  module _ (count : ℕ) (few : count < matrix_count said.format said.cities) (start at : Position) (kept : List ℕ) (past : Option Past) (read : SomeNumbers start said count kept past at) where
    due : matrix_shape said.format said.cities read.numbers ≡ due_number
    due =
        let long = read.count_is in
        ap (λ b. cond b due_number DueEnd) (lt-ltb (length read.numbers) (matrix_count said.format said.cities) (omega (arith, long, few)))

    pub number-fault : (new : Position) (f : TextFault) → TakesMatrixNumber at (Err f) new → ◌≡◌ {A = Result (List ℕ) Fault} (matrix_reading (matrix_shape said.format said.cities) [] start) (Err (text_fault f))
    number-fault new f takes = read.goes_on ∙ matrix-fault (matrix_shape said.format said.cities) read.numbers at new due f takes

    pub number-read : (new : Position) (n : ℕ) → TakesMatrixNumber at (Ok n) new → SameText at new → (kept_now : List ℕ) (after : Option Past) → KeepsNumber kept past n kept_now after → SomeNumbers start said (count + 1) kept_now after new
    number-read new n takes same kept_now after keeps = record {
      numbers = read.numbers ++ n ∷ [];
      goes_on = read.goes_on ∙ matrix-next (matrix_shape said.format said.cities) read.numbers at new due n takes same;
      count_is = let e = length-append read.numbers (n ∷ []) in let d = read.count_is in omega (arith, e, d);
      past_is =
          keeps.past_is
          ∙ ap (λ o. first_of o (first_past (limit_of n ∷ []))) read.past_is
          ∙ sym (first_past-append (cities_limit ∷ number_limits read.numbers) (limit_of n ∷ []))
          ∙ ap (λ ls. first_past (cities_limit ∷ ls)) (sym (map_push limit_of read.numbers n));
      kept_are = λ none. keeps.kept none ∙ ap (λ ns. ns ++ n ∷ []) (read.kept_are (still_none past after (first_past (limit_of n ∷ [])) keeps.past_is none));
    }
