-- Knapsack files of both forms, their first offence, and their first number past its limit.
use Rattle.std.specs.Prelude.{◌≡◌, ℕ, ◌+◌, ◌*◌, ◌⊎◌, ◌≢◌, List, [], ◌∷◌, ◌++◌, length, flat_map, Some, None, nat_lt, MatchResult, bytes_eq, codes, if◌then◌else◌}
use Rattle.std.specs.List.{AllZip, AllByRecursion}
use Rattle.yew_text.specs.declared.text.TextKind.{TextKind}
use Rattle.yew_text.specs.declared.text.TextKind.TheVariants.{BadLine}
use Rattle.yew_text.specs.declared.text.FileEnd.{FileEnd}
use Rattle.yew_text.specs.declared.text.FileEnd.TheVariants.{Refused, TooLarge, Memory}
use Rattle.yew_text.specs.Words.{TextWord, words_of, end_line}
use Rattle.yew_text.specs.Numbers.{IsNumber, first_number}
use Rattle.yew_text.specs.Grammar.{DueEnd, due_number, Shape, HasOffence, Limited, first_past}
use Rattle.yew_knap.specs.declared.form.Form.{Form}
use Rattle.yew_knap.specs.declared.form.Form.TheVariants.{Pairs, Triples}
use Rattle.yew_knap.specs.declared.knapsack.Item.{Item}
use Rattle.yew_knap.specs.Instance.{Instance, IsWithinLimits}

-- ---- the numbers of a file

-- how many numbers an item has
abbrev pub width : Form → ℕ
width Pairs = 2
width Triples = 3

abbrev pub item_numbers : Form → Item → List ℕ
item_numbers Pairs item = item.profit ∷ item.weight ∷ []
item_numbers Triples item = item.profit ∷ item.weight ∷ item.copies ∷ []

-- the number of items, the capacity, and the numbers of each item
abbrev pub instance_numbers : Form → Instance → List ℕ
instance_numbers form instance = length instance.items ∷ instance.capacity ∷ flat_map (item_numbers form) instance.items

-- an item of a file of this form: in one of pairs there is one copy of each
abbrev pub IsOfForm : Form → Item → Type 0
IsOfForm Pairs item = item.copies ≡ 1
IsOfForm Triples item = Unit {0}

-- the words are the numbers of an instance
pub record IsBody (form : Form) (words : List TextWord) (instance : Instance) : Type 0 where
  pub numbers : AllZip IsNumber words (instance_numbers form instance)
  pub of_form : AllByRecursion (IsOfForm form) instance.items

-- n and c are due first, and then the numbers of n items
abbrev pub knapsack_shape : Form → Shape
knapsack_shape form [] = due_number
knapsack_shape form (n ∷ []) = due_number
knapsack_shape form (n ∷ c ∷ rest) = if nat_lt (length rest) (width form * n) then due_number else DueEnd

-- the first offence of such words, where the line of the end is the first number given
abbrev pub IsBodyOffence : Form → ℕ → List TextWord → TextKind → ℕ → Type 0
IsBodyOffence form end words kind line = HasOffence (knapsack_shape form) end words kind line

-- ---- the form

-- a file that begins with the word `knapsack` is one of triples, and any other is one of pairs
abbrev pub form_of : List TextWord → Form
form_of [] = Pairs
form_of (word ∷ words) = if bytes_eq (codes "knapsack") word.text then Triples else Pairs

-- what stands behind that word: the number 2 and the numbers of an instance
abbrev pub IsTriplesFile : List TextWord → Instance → Type 0
IsTriplesFile [] instance = ⊥
IsTriplesFile (number ∷ words) instance = IsNumber number 2 × IsBody Triples words instance

abbrev pub IsFileOf : Form → List TextWord → Instance → Type 0
IsFileOf Pairs words instance = IsBody Pairs words instance
IsFileOf Triples [] instance = ⊥
IsFileOf Triples (word ∷ words) instance = IsTriplesFile words instance

-- the words of the file are these numbers
abbrev pub IsKnapsackFile : List ℕ → Instance → Type 0
IsKnapsackFile bytes instance = IsFileOf (form_of (words_of bytes)) (words_of bytes) instance

-- an offence at the number of the form, which is not 2, or behind it
abbrev pub IsFormOffence : ℕ → ℕ → List TextWord → TextKind → ℕ → Type 0
IsFormOffence end form [] kind line = ⊥
IsFormOffence end form (number ∷ words) kind line = ((form ≡ 2) × IsBodyOffence Triples end words kind line) ⊎ ((form ≢ 2) × (kind ≡ BadLine) × (line ≡ number.line))

-- the first offence behind the word `knapsack`
abbrev pub IsTriplesOffence : ℕ → List TextWord → TextKind → ℕ → Type 0
IsTriplesOffence end words kind line = MatchResult (first_number end words) (λ form. IsFormOffence end form words kind line) (λ fault. (kind ≡ fault.kind) × (line ≡ fault.line))

abbrev pub IsOffenceOf : Form → ℕ → List TextWord → TextKind → ℕ → Type 0
IsOffenceOf Pairs end words kind line = IsBodyOffence Pairs end words kind line
IsOffenceOf Triples end [] kind line = ⊥
IsOffenceOf Triples end (word ∷ words) kind line = IsTriplesOffence end words kind line

-- the first offence of the file
abbrev pub IsKnapsackOffence : List ℕ → TextKind → ℕ → Type 0
IsKnapsackOffence bytes kind line = IsOffenceOf (form_of (words_of bytes)) (end_line bytes) (words_of bytes) kind line

-- ---- limits

-- the numbers of the file with their limits, in order: first the number of items and the capacity, then the items. The number of
-- an item's copies is past its limit where the sum of the copies up to it is past 256, and the number that is past it is that sum
abbrev pub head_limits : ℕ → ℕ → List Limited
head_limits n capacity = record { number = n; limit = 256 } ∷ record { number = capacity; limit = 1099511627775 } ∷ []

abbrev pub item_limits : ℕ → Item → List Limited
item_limits before item = record { number = item.profit; limit = 2147483647 } ∷ record { number = item.weight; limit = 2147483647 } ∷ record { number = before + item.copies; limit = 256 } ∷ []

-- those of items, where so many copies stand before them
abbrev pub limits_from : ℕ → List Item → List Limited
limits_from before [] = []
limits_from before (item ∷ items) = item_limits before item ++ limits_from (before + item.copies) items

abbrev pub instance_limits : Instance → List Limited
instance_limits instance = head_limits (length instance.items) instance.capacity ++ limits_from 0 instance.items

-- the first number past its limit, of what has an instance
pub record IsPast (is : Instance → Type 0) (number limit : ℕ) : Type 0 where
  pub instance : Instance
  pub is_file : is instance
  pub first : first_past (instance_limits instance) ≡ Some (record { number = number; limit = limit })

-- the first number past its limit, of a file that has an instance
abbrev pub IsPastLimit : List ℕ → ℕ → ℕ → Type 0
IsPastLimit bytes number limit = IsPast (IsKnapsackFile bytes) number limit

-- why a file gives no problem: its first offence, or its first number past its limit. Want of memory may come at any file
abbrev pub EndsReading : List ℕ → FileEnd → Type 0
EndsReading bytes (Refused fault) = IsKnapsackOffence bytes fault.kind fault.line
EndsReading bytes (TooLarge number limit) = IsPastLimit bytes number limit
EndsReading bytes Memory = Unit {0}

-- A file has at most one instance, at most one first offence, and exactly one of the two; and an instance is within its
-- limits exactly where no number is past its limit.
pub record FileLaws : Type 0 where
  pub one_instance : (bytes : List ℕ) (a b : Instance) → IsKnapsackFile bytes a → IsKnapsackFile bytes b → a ≡ b
  pub one_kind : (bytes : List ℕ) (kind other : TextKind) (line other_line : ℕ) → IsKnapsackOffence bytes kind line → IsKnapsackOffence bytes other other_line → kind ≡ other
  pub one_line : (bytes : List ℕ) (kind other : TextKind) (line other_line : ℕ) → IsKnapsackOffence bytes kind line → IsKnapsackOffence bytes other other_line → line ≡ other_line
  pub not_both : (bytes : List ℕ) (instance : Instance) (kind : TextKind) (line : ℕ) → IsKnapsackFile bytes instance → ¬ IsKnapsackOffence bytes kind line
  pub either : (bytes : List ℕ) → ((instance : Instance) × IsKnapsackFile bytes instance) ⊎ ((kind : TextKind) × (line : ℕ) × IsKnapsackOffence bytes kind line)
  pub within : (instance : Instance) → first_past (instance_limits instance) ≡ None → IsWithinLimits instance
  pub none_past : (instance : Instance) → IsWithinLimits instance → first_past (instance_limits instance) ≡ None
