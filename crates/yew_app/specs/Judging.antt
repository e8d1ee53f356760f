-- How a run judges a file of one kind: which bytes are good, and why others are refused.
use Rattle.std.specs.Prelude.{◌≡◌, ℕ, ◌<◌, ◌≤◌, ◌^◌, List, length, Option, Some, IfSome}
use Rattle.yew_io.specs.Shelf.{File, bytes_of}
use Rattle.yew_io.specs.Reading.{IsLonger}
use Rattle.yew_text.specs.declared.text.TextKind.{TextKind}
use Rattle.yew_text.specs.declared.text.FileEnd.{FileEnd}
use Rattle.yew_text.specs.declared.text.FileEnd.TheVariants as ends
use Rattle.yew_app.specs.Refusals.{Reason, CannotRead, NotInGrammar, TooLong, TooLarge, NoMemory}

-- a kind of file: these bytes are of it and within its limits, and this is what they say
module _ {X : Type 0} (IsGood : List ℕ → X → Type 0) where
  -- the file of this name is there, within 2^24 bytes, good, and says this
  pub record IsRead (told : List File) (name : List ℕ) (value : X) : Type 0 where
    pub bytes : List ℕ
    pub there : bytes_of told name ≡ Some bytes
    pub short : length bytes ≤ 2 ^ 24
    pub good : IsGood bytes value

-- its first offence, and its first number past its limit
module _ (IsOffence : List ℕ → TextKind → ℕ → Type 0) (IsPast : List ℕ → ℕ → ℕ → Type 0) where
  -- why a file of these bytes is refused: it is too long, or not in its grammar, or has a number past its limit
  abbrev pub RefusesBytes : List ℕ → List ℕ → Reason → Type 0
  RefusesBytes name bytes (TooLong file) = (file ≡ name) × (2 ^ 24 < length bytes)
  RefusesBytes name bytes (NotInGrammar file line kind) = (file ≡ name) × (length bytes ≤ 2 ^ 24) × IsOffence bytes kind line
  RefusesBytes name bytes (TooLarge file number limit) = (file ≡ name) × (length bytes ≤ 2 ^ 24) × IsPast bytes number limit
  RefusesBytes name bytes _ = ⊥

  -- the end of reading is that of these bytes
  abbrev pub IsEndOf : List ℕ → FileEnd → Type 0
  IsEndOf bytes (ends.Refused fault) = IsOffence bytes fault.kind fault.line
  IsEndOf bytes (ends.TooLarge number limit) = IsPast bytes number limit
  IsEndOf bytes ends.Memory = Unit {0}

  -- the file of this name is there, and is refused for this reason
  pub record IsRefusedFile (told : List File) (name : List ℕ) (reason : Reason) : Type 0 where
    pub bytes : List ℕ
    pub there : bytes_of told name ≡ Some bytes
    pub why : RefusesBytes name bytes reason

  -- why the file of this name gives nothing: the shelf failed at it, memory ran out, or its bytes, where they are told, are refused
  abbrev pub IsFileReason : Option (List File) → List ℕ → Reason → Type 0
  IsFileReason files name (CannotRead file) = file ≡ name
  IsFileReason files name (TooLong file) = (file ≡ name) × IfSome files (λ told. IsRefusedFile told name (TooLong file))
  IsFileReason files name (NotInGrammar file line kind) = (file ≡ name) × IfSome files (λ told. IsRefusedFile told name (NotInGrammar file line kind))
  IsFileReason files name (TooLarge file number limit) = (file ≡ name) × IfSome files (λ told. IsRefusedFile told name (TooLarge file number limit))
  IsFileReason files name NoMemory = Unit {0}
  IsFileReason files name _ = ⊥

-- why the bytes of a file were not read: the shelf failed at it, it is too long, or memory ran out
abbrev pub IsUnread : Option (List File) → List ℕ → Reason → Type 0
IsUnread files name (CannotRead file) = file ≡ name
IsUnread files name (TooLong file) = (file ≡ name) × IsLonger files name (2 ^ 24)
IsUnread files name NoMemory = Unit {0}
IsUnread files name _ = ⊥
