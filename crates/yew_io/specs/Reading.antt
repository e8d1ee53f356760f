-- A file that is read whole, within a limit.
use Rattle.std.specs.Prelude.{◌≡◌, ◌⊎◌, ℕ, ◌<◌, ◌≤◌, List, length, Option, Some, IfSome, IsSomeAnd, Result, Vec, IsOkAnd, IsErrOf}
use Rattle.std.specs.declared.alloc.Global.{Global}
use Rattle.yew_io.specs.Shelf.{File, bytes_of}
use Rattle.yew_io.specs.declared.reading.ReadEnd.{ReadEnd}
use Rattle.yew_io.specs.declared.reading.ReadEnd.TheVariants.{TooLong, Memory}

-- these are all bytes of the file of that name
abbrev pub IsWhole : Option (List File) → List ℕ → List ℕ → Type 0
IsWhole files name bytes = IfSome files (λ told. bytes_of told name ≡ Some bytes)

-- the file of that name is there and has more bytes than the limit
abbrev pub IsLonger : Option (List File) → List ℕ → ℕ → Type 0
IsLonger files name limit = IfSome files (λ told. IsSomeAnd (bytes_of told name) (λ bytes. limit < length bytes))

-- The answer for a file of these bytes: the bytes where they are within the limit, and otherwise that they are too many.
-- Want of memory may come in place of either.
pub record Answers (bytes : List ℕ) (limit : ℕ) (result : Result (Vec ℕ Global) ReadEnd) : Type 0 where
  pub short : length bytes ≤ limit → IsOkAnd result (λ read. read.items ≡ bytes) ⊎ IsErrOf result Memory
  pub long : limit < length bytes → IsErrOf result TooLong ⊎ IsErrOf result Memory

-- the file of that name is there, and the answer is the one for its bytes
abbrev pub IsAnswer : Option (List File) → List ℕ → ℕ → Result (Vec ℕ Global) ReadEnd → Type 0
IsAnswer files name limit result = IfSome files (λ told. IsSomeAnd (bytes_of told name) (λ bytes. Answers bytes limit result))
