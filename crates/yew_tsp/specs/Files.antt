-- Files of tours, their first offence, and their first number past its limit.
use Rattle.std.specs.Prelude.{◌≡◌, ℕ, ◌≤◌, ◌⊎◌, List, ◌∷◌, length, map, zip, Some, None}
use Rattle.std.specs.List.{AllZip}
use Rattle.yew_text.specs.declared.text.TextKind.{TextKind}
use Rattle.yew_text.specs.declared.text.FileEnd.{FileEnd}
use Rattle.yew_text.specs.declared.text.FileEnd.TheVariants.{Refused, TooLarge, Memory}
use Rattle.yew_text.specs.Words.{end_line}
use Rattle.yew_text.specs.Numbers.{value_of, IsNumber}
use Rattle.yew_text.specs.Grammar.{HasOffence, Limited, first_past}
use Rattle.yew_text.specs.Fields.{TextField}
use Rattle.yew_tsp.specs.declared.header.Format.{Format}
use Rattle.yew_tsp.specs.declared.header.Key.TheVariants.{Dimension, WeightFormat}
use Rattle.yew_tsp.specs.Headers.{Header, HasHeader, HasHeaderOffence}
use Rattle.yew_tsp.specs.Instance.{Instance, weight_between, IsWithinLimits}
use Rattle.yew_tsp.specs.Keys.{format_word, value_at}
use Rattle.yew_tsp.specs.Matrices.{matrix_words, matrix_end, places, matrix_count, matrix_shape, weight_from, weights_of}

-- what a file gives: the number of cities, the format, and the numbers of the matrix in order
pub record Contents : Type 0 where
  pub cities : ℕ
  pub format : Format
  pub numbers : List ℕ

-- what the lines before the section say
pub record Says (given : List TextField) (cities : ℕ) (format : Format) : Type 0 where
  pub cities_are : cities ≡ value_of (value_at given Dimension)
  pub format_is : value_at given WeightFormat ≡ format_word format

pub record HasContents (bytes : List ℕ) (contents : Contents) : Type 0 where
  pub header : Header
  pub has_header : HasHeader bytes header
  pub says : Says header.given contents.cities contents.format
  pub numbers : AllZip IsNumber (matrix_words header.section.behind) contents.numbers
  pub count : length contents.numbers ≡ matrix_count contents.format contents.cities

-- the instance of these contents: 0 is the weight from a city to itself, whatever the file has there
abbrev pub instance_of : Contents → Instance
instance_of contents = record { cities = contents.cities; weights = weights_of contents.format contents.cities contents.numbers }

-- the instance of a file
pub record IsTourFile (bytes : List ℕ) (instance : Instance) : Type 0 where
  pub contents : Contents
  pub has : HasContents bytes contents
  pub instance_is : instance ≡ instance_of contents

-- an offence in the matrix
pub record HasMatrixOffence (bytes : List ℕ) (kind : TextKind) (line : ℕ) : Type 0 where
  pub header : Header
  pub cities : ℕ
  pub format : Format
  pub has_header : HasHeader bytes header
  pub says : Says header.given cities format
  pub offence : HasOffence (matrix_shape format cities) (matrix_end (end_line bytes) header.section.behind) (matrix_words header.section.behind) kind line

-- the first offence of the file
abbrev pub IsTourOffence : List ℕ → TextKind → ℕ → Type 0
IsTourOffence bytes kind line = HasHeaderOffence bytes kind line ⊎ HasMatrixOffence bytes kind line

-- the numbers of the file with their limits, in order: the number of cities, and each number of the matrix
abbrev pub number_limits : List ℕ → List Limited
number_limits numbers = map (λ n. record { number = n; limit = 2147483647 }) numbers

abbrev pub contents_limits : Contents → List Limited
contents_limits contents = record { number = contents.cities; limit = 60 } ∷ number_limits contents.numbers

-- the first number past its limit, of a file that has an instance
pub record IsPastLimit (bytes : List ℕ) (number limit : ℕ) : Type 0 where
  pub contents : Contents
  pub has : HasContents bytes contents
  pub first : first_past (contents_limits contents) ≡ Some (record { number = number; limit = limit })

-- the file has an instance, and none of its numbers is past its limit, those of the diagonal included
pub record HasNonePast (bytes : List ℕ) : Type 0 where
  pub contents : Contents
  pub has : HasContents bytes contents
  pub none : first_past (contents_limits contents) ≡ None

-- why a file gives no problem: its first offence, or its first number past its limit. Want of memory may come at any file
abbrev pub EndsReading : List ℕ → FileEnd → Type 0
EndsReading bytes (Refused fault) = IsTourOffence bytes fault.kind fault.line
EndsReading bytes (TooLarge number limit) = IsPastLimit bytes number limit
EndsReading bytes Memory = Unit {0}

-- A file has at most one instance, at most one first offence, and exactly one of the two. A file that has an instance has
-- exactly one of these: a first number past its limit, and none past; where none is, its instance is within its limits.
-- The numbers of a matrix are as many as its format says, and each weight is the number at its place.
pub record FileLaws : Type 0 where
  pub one_instance : (bytes : List ℕ) (a b : Instance) → IsTourFile bytes a → IsTourFile bytes b → a ≡ b
  pub one_kind : (bytes : List ℕ) (kind other : TextKind) (line other_line : ℕ) → IsTourOffence bytes kind line → IsTourOffence bytes other other_line → kind ≡ other
  pub one_line : (bytes : List ℕ) (kind other : TextKind) (line other_line : ℕ) → IsTourOffence bytes kind line → IsTourOffence bytes other other_line → line ≡ other_line
  pub not_both : (bytes : List ℕ) (instance : Instance) (kind : TextKind) (line : ℕ) → IsTourFile bytes instance → ¬ IsTourOffence bytes kind line
  pub either : (bytes : List ℕ) → ((instance : Instance) × IsTourFile bytes instance) ⊎ ((kind : TextKind) × (line : ℕ) × IsTourOffence bytes kind line)
  pub within : (bytes : List ℕ) (instance : Instance) → IsTourFile bytes instance → HasNonePast bytes → IsWithinLimits instance
  pub one_past : (bytes : List ℕ) (number other limit other_limit : ℕ) → IsPastLimit bytes number limit → IsPastLimit bytes other other_limit → (number ≡ other) × (limit ≡ other_limit)
  pub none_past : (bytes : List ℕ) (number limit : ℕ) → HasNonePast bytes → ¬ IsPastLimit bytes number limit
  pub past_or_none : (bytes : List ℕ) (instance : Instance) → IsTourFile bytes instance → HasNonePast bytes ⊎ ((number : ℕ) × (limit : ℕ) × IsPastLimit bytes number limit)
  pub how_many : (format : Format) (n : ℕ) → length (places format n) ≡ matrix_count format n
  pub weights : (contents : Contents) (i j : ℕ) → 1 ≤ i → i ≤ contents.cities → 1 ≤ j → j ≤ contents.cities → weight_between (instance_of contents) i j ≡ weight_from (zip (places contents.format contents.cities) contents.numbers) i j
