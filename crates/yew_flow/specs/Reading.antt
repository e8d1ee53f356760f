-- What the parts of a reading of a file of a flow shop answer.
use Rattle.std.specs.Prelude.{◌≡◌, ℕ, ◌*◌, ◌≤◌, ◌⊎◌, List, [], ◌∷◌, ◌++◌, length, Option, Some, None, Result, Ok, Err}
use Rattle.std.specs.Option.{option_map}
use Rattle.yew_text.specs.declared.text.TextKind.TheVariants.{BadLine}
use Rattle.yew_text.specs.declared.text.TextFault.{TextFault}
use Rattle.yew_text.specs.declared.text.FileEnd.{FileEnd}
use Rattle.yew_text.specs.declared.text.FileEnd.TheVariants.{Refused, TooLarge, Memory}
use Rattle.yew_text.specs.Grammar.{Limited, first_past, reading}
use Rattle.yew_text.specs.Position.{Position}
use Rattle.yew_text.specs.Reading.{TakesNumber, text_fault}
use Rattle.yew_flow.specs.declared.reading.Past.{Past}
use Rattle.yew_flow.specs.Files.{flow_shape, head_limits, time_limits}

-- the next word was read as the number 0, which is a bad line
pub record IsZero (old : Position) (f : TextFault) (new : Position) : Type 0 where
  pub takes : TakesNumber old (Ok 0) new
  pub fault_is : text_fault f ≡ record { kind = BadLine; line = new.line }

-- the next word was read as a number that is not 0, or refused
abbrev pub TakesCount : Position → Result ℕ TextFault → Position → Type 0
TakesCount old (Ok n) new = TakesNumber old (Ok n) new × (1 ≤ n)
TakesCount old (Err f) new = TakesNumber old (Err f) new ⊎ IsZero old f new

-- a number past its limit, as a number with its limit
abbrev pub limited : Past → Limited
limited past = record { number = past.number; limit = past.limit }

-- the first of two that is there
abbrev pub first_of : Option Limited → Option Limited → Option Limited
first_of (Some l) other = Some l
first_of None other = other

-- One more time is kept while no number is past its limit.
pub record KeepsTime (old : List ℕ) (past : Option Past) (time : ℕ) (new : List ℕ) (after : Option Past) : Type 0 where
  pub past_is : option_map limited after ≡ first_of (option_map limited past) (first_past (record { number = time; limit = 1048575 } ∷ []))
  pub kept : after ≡ None → new ≡ old ++ time ∷ []

-- So many times of the file were read: the reading goes on behind them, the first number past its limit is known, and as
-- long as there is none the times are kept.
pub record SomeTimes (old : Position) (jobs machines count : ℕ) (kept : List ℕ) (past : Option Past) (new : Position) : Type 0 where
  pub times : List ℕ
  pub goes_on : reading flow_shape (jobs ∷ machines ∷ []) old ≡ reading flow_shape (jobs ∷ machines ∷ times) new
  pub count_is : length times ≡ count
  pub past_is : option_map limited past ≡ first_past (head_limits jobs machines ++ time_limits times)
  pub kept_are : past ≡ None → kept ≡ times

-- all times were read
abbrev pub TimesRead : Position → ℕ → ℕ → List ℕ → Option Past → Position → Type 0
TimesRead old jobs machines kept past new = SomeTimes old jobs machines (jobs * machines) kept past new

-- The reading of the times ends with a fault, unless memory ran out.
abbrev pub EndsTimes : Position → ℕ → ℕ → FileEnd → Type 0
EndsTimes old jobs machines (Refused fault) = reading flow_shape (jobs ∷ machines ∷ []) old ≡ Err (text_fault fault)
EndsTimes old jobs machines (TooLarge number limit) = ⊥
EndsTimes old jobs machines Memory = Unit {0}
