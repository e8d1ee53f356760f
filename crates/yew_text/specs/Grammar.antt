-- Files that are lists of numbers: what is due after the numbers so far, and the first offence.
use Rattle.std.specs.Prelude.{◌≡◌, ℕ, suc, ◌<◌, ◌≤◌, Bool, List, [], ◌∷◌, ◌++◌, Option, Result, Ok, Err, IsTrue, IsFalse, nat_lt, find, if◌then◌else◌}
use Rattle.std.specs.List.{AllZip, AllByRecursion}
use Rattle.yew_text.specs.declared.text.TextKind.{TextKind}
use Rattle.yew_text.specs.declared.text.TextKind.TheVariants.{NotNumber, TooBig, EndsEarly, Surplus}
use Rattle.yew_text.specs.Words.{TextWord, end_line}
use Rattle.yew_text.specs.Numbers.{is_digits, value_of, greatest, IsNumber, Fault}
use Rattle.yew_text.specs.Position.{Position, words_left}

-- what is to stand next: a number below a limit, or nothing more
pub data Due : Type 0 where
  DueBelow : ℕ → Due
  DueEnd : Due

-- the limit is at most that of any number
abbrev pub HasBound : Due → Type 0
HasBound (DueBelow limit) = limit ≤ suc greatest
HasBound DueEnd = Unit {0}

-- any number
abbrev pub due_number : Due
due_number = DueBelow (suc greatest)

-- a kind of file: what is due after these numbers
abbrev pub Shape : Type 0
Shape = List ℕ → Due

-- a number is what is due
abbrev pub Fits : Due → ℕ → Type 0
Fits (DueBelow limit) n = n < limit
Fits DueEnd n = ⊥

-- each of the numbers was due behind those before it
abbrev pub AreDue : Shape → List ℕ → List ℕ → Type 0
AreDue shape before [] = Unit {0}
AreDue shape before (n ∷ ns) = Fits (shape before) n × AreDue shape (before ++ n ∷ []) ns

-- a word that is not what is due, or the end where something is due, or a word where nothing is: the kind and the line.
-- The first number is the line of the end
abbrev pub IsOffence : ℕ → Due → List TextWord → TextKind → ℕ → Type 0
IsOffence end (DueBelow limit) [] EndsEarly line = line ≡ end
IsOffence end (DueBelow limit) (word ∷ words) NotNumber line = IsFalse (is_digits word.text) × (line ≡ word.line)
IsOffence end (DueBelow limit) (word ∷ words) TooBig line = IsTrue (is_digits word.text) × (limit ≤ value_of word.text) × (line ≡ word.line)
IsOffence end DueEnd (word ∷ words) Surplus line = line ≡ word.line
IsOffence end _ words _ line = ⊥

-- The words are numbers, each due in its place, up to the first offence.
pub record HasOffence (shape : Shape) (end : ℕ) (words : List TextWord) (kind : TextKind) (line : ℕ) : Type 0 where
  pub before : List TextWord
  pub numbers : List ℕ
  pub rest : List TextWord
  pub words_are : words ≡ before ++ rest
  pub are_numbers : AllZip IsNumber before numbers
  pub are_due : AreDue shape [] numbers
  pub is_offence : IsOffence end (shape numbers) rest kind line

-- The words are numbers, each due in its place, and nothing more is due.
pub record IsWhole (shape : Shape) (words : List TextWord) (numbers : List ℕ) : Type 0 where
  pub are_numbers : AllZip IsNumber words numbers
  pub are_due : AreDue shape [] numbers
  pub ends : shape numbers ≡ DueEnd

-- No limit of the shape is past what a number may be, whatever numbers stand before.
abbrev pub IsBounded : Shape → Type 0
IsBounded shape = (ns : List ℕ) → AllByRecursion (λ n. n ≤ greatest) ns → HasBound (shape ns)

-- a number with its limit
pub record Limited : Type 0 where
  pub number : ℕ
  pub limit : ℕ

abbrev pub is_past : Limited → Bool
is_past l = nat_lt l.limit l.number

-- the first number that is past its limit
abbrev pub first_past : List Limited → Option Limited
first_past = find is_past

-- The same as a function on the words: the numbers, or the first offence.
abbrev pub read_end : ℕ → Due → List ℕ → Result (List ℕ) Fault
read_end end (DueBelow limit) numbers = Err (record { kind = EndsEarly; line = end })
read_end end DueEnd numbers = Ok numbers

abbrev pub read_word : Due → TextWord → Result ℕ Fault
read_word (DueBelow limit) word = if is_digits word.text then (if nat_lt (value_of word.text) limit then Ok (value_of word.text) else Err (record { kind = TooBig; line = word.line })) else Err (record { kind = NotNumber; line = word.line })
read_word DueEnd word = Err (record { kind = Surplus; line = word.line })

abbrev pub read_on : Result ℕ Fault → (ℕ → Result (List ℕ) Fault) → Result (List ℕ) Fault
read_on (Ok n) rest = rest n
read_on (Err fault) rest = Err fault

unfoldable pub read_from : Shape → ℕ → List ℕ → List TextWord → Result (List ℕ) Fault
read_from shape end numbers [] = read_end end (shape numbers) numbers
read_from shape end numbers (word ∷ words) = read_on (read_word (shape numbers) word) (λ n. read_from shape end (numbers ++ n ∷ []) words)

-- the reading from these numbers on, with the words that are left at a position
abbrev pub reading : Shape → List ℕ → Position → Result (List ℕ) Fault
reading shape numbers at = read_from shape (end_line at.bytes) numbers (words_left at)

-- what an answer on the words says: the numbers of the whole file, or its first offence
abbrev pub Says : Shape → ℕ → List TextWord → Result (List ℕ) Fault → Type 0
Says shape end words (Ok numbers) = IsWhole shape words numbers
Says shape end words (Err fault) = HasOffence shape end words fault.kind fault.line
