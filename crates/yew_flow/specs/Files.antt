-- Files of flow shops, their first offence, and their first number past its limit.
use Rattle.std.specs.Prelude.{◌≡◌, ℕ, ◌*◌, ◌≤◌, Bool, ◌&&◌, ◌⊎◌, List, [], ◌∷◌, ◌++◌, length, map, Option, Some, None, nat_le, nat_lt, ◌==◌, if◌then◌else◌}
use Rattle.std.specs.List.{AllZip}
use Rattle.yew_text.specs.declared.text.TextKind.{TextKind}
use Rattle.yew_text.specs.declared.text.TextKind.TheVariants.{BadLine}
use Rattle.yew_text.specs.declared.text.FileEnd.{FileEnd}
use Rattle.yew_text.specs.declared.text.FileEnd.TheVariants.{Refused, TooLarge, Memory}
use Rattle.yew_text.specs.Words.{TextWord, words_of, end_line}
use Rattle.yew_text.specs.Numbers.{is_digits, value_of, greatest, IsNumber}
use Rattle.yew_text.specs.Grammar.{DueEnd, due_number, Shape, HasOffence, Limited, first_past}
use Rattle.yew_flow.specs.Instance.{Instance, IsWithinLimits}

-- the numbers of jobs and of machines, and the times of each job on the machines in order
abbrev pub instance_numbers : Instance → List ℕ
instance_numbers instance = instance.jobs ∷ instance.machines ∷ instance.times

-- the words of the file are these numbers, and there are some jobs and some machines
pub record IsFlowFile (bytes : List ℕ) (instance : Instance) : Type 0 where
  pub some_jobs : 1 ≤ instance.jobs
  pub some_machines : 1 ≤ instance.machines
  pub numbers : AllZip IsNumber (words_of bytes) (instance_numbers instance)
  pub count : length instance.times ≡ instance.jobs * instance.machines

-- ---- the first offence

-- n and m are due first, and then m numbers for each of n jobs
abbrev pub flow_shape : Shape
flow_shape [] = due_number
flow_shape (n ∷ []) = due_number
flow_shape (n ∷ m ∷ times) = if nat_lt (length times) (n * m) then due_number else DueEnd

-- a word is the number 0, or another number
abbrev pub is_zero : TextWord → Bool
is_zero word = is_digits word.text && value_of word.text == 0

abbrev pub is_some : TextWord → Bool
is_some word = is_digits word.text && (nat_le 1 (value_of word.text) && nat_le (value_of word.text) greatest)

-- the line of the first of the two numbers at the head that is 0, if what stands before it is a number
abbrev pub first_zero : List TextWord → Option ℕ
first_zero [] = None
first_zero (word ∷ words) = if is_zero word then Some word.line else None

abbrev pub zero_line : List TextWord → Option ℕ
zero_line [] = None
zero_line (word ∷ words) = if is_zero word then Some word.line else (if is_some word then first_zero words else None)

-- the first offence of the file: a number of jobs or of machines that is 0, or else the first word that is not what is due
abbrev pub Offends : Option ℕ → List ℕ → TextKind → ℕ → Type 0
Offends (Some first) bytes kind line = (kind ≡ BadLine) × (line ≡ first)
Offends None bytes kind line = HasOffence flow_shape (end_line bytes) (words_of bytes) kind line

abbrev pub IsFlowOffence : List ℕ → TextKind → ℕ → Type 0
IsFlowOffence bytes kind line = Offends (zero_line (words_of bytes)) bytes kind line

-- ---- limits

-- the numbers of the file with their limits, in order: first those of jobs and of machines, then the times
abbrev pub head_limits : ℕ → ℕ → List Limited
head_limits jobs machines = record { number = jobs; limit = 64 } ∷ record { number = machines; limit = 32 } ∷ []

abbrev pub time_limits : List ℕ → List Limited
time_limits times = map (λ time. record { number = time; limit = 1048575 }) times

abbrev pub instance_limits : Instance → List Limited
instance_limits instance = head_limits instance.jobs instance.machines ++ time_limits instance.times

-- the first number past its limit, of a file that has an instance
pub record IsPastLimit (bytes : List ℕ) (number limit : ℕ) : Type 0 where
  pub instance : Instance
  pub is_file : IsFlowFile bytes instance
  pub first : first_past (instance_limits instance) ≡ Some (record { number = number; limit = limit })

-- the file has an instance, and none of its numbers is past its limit
pub record HasNonePast (bytes : List ℕ) : Type 0 where
  pub instance : Instance
  pub is_file : IsFlowFile bytes instance
  pub none : first_past (instance_limits instance) ≡ None

-- why a file gives no problem: its first offence, or its first number past its limit. Want of memory may come at any file
abbrev pub EndsReading : List ℕ → FileEnd → Type 0
EndsReading bytes (Refused fault) = IsFlowOffence bytes fault.kind fault.line
EndsReading bytes (TooLarge number limit) = IsPastLimit bytes number limit
EndsReading bytes Memory = Unit {0}

-- A file has at most one instance, at most one first offence, and exactly one of the two. A file that has an instance has
-- exactly one of these: a first number past its limit, and none past; where none is, its instance is within its limits.
pub record FileLaws : Type 0 where
  pub one_instance : (bytes : List ℕ) (a b : Instance) → IsFlowFile bytes a → IsFlowFile bytes b → a ≡ b
  pub one_kind : (bytes : List ℕ) (kind other : TextKind) (line other_line : ℕ) → IsFlowOffence bytes kind line → IsFlowOffence bytes other other_line → kind ≡ other
  pub one_line : (bytes : List ℕ) (kind other : TextKind) (line other_line : ℕ) → IsFlowOffence bytes kind line → IsFlowOffence bytes other other_line → line ≡ other_line
  pub not_both : (bytes : List ℕ) (instance : Instance) (kind : TextKind) (line : ℕ) → IsFlowFile bytes instance → ¬ IsFlowOffence bytes kind line
  pub either : (bytes : List ℕ) → ((instance : Instance) × IsFlowFile bytes instance) ⊎ ((kind : TextKind) × (line : ℕ) × IsFlowOffence bytes kind line)
  pub within : (bytes : List ℕ) (instance : Instance) → IsFlowFile bytes instance → HasNonePast bytes → IsWithinLimits instance
  pub one_past : (bytes : List ℕ) (number other limit other_limit : ℕ) → IsPastLimit bytes number limit → IsPastLimit bytes other other_limit → (number ≡ other) × (limit ≡ other_limit)
  pub none_past : (bytes : List ℕ) (number limit : ℕ) → HasNonePast bytes → ¬ IsPastLimit bytes number limit
  pub past_or_none : (bytes : List ℕ) (instance : Instance) → IsFlowFile bytes instance → HasNonePast bytes ⊎ ((number : ℕ) × (limit : ℕ) × IsPastLimit bytes number limit)
