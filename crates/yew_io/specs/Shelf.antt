-- What the calls of a shelf of files do, where the shelf tells its files.
use Rattle.std.specs.Prelude.{◌≡◌, ℕ, List, [], ◌∷◌, ◌++◌, Option, Some, None, IsSomeAnd, IfSome, if◌then◌else◌, bytes_eq}

-- a file: the bytes of its name, and its bytes
pub record File : Type 0 where
  pub name : List ℕ
  pub bytes : List ℕ

-- the finite map from names to bytes that a list of files stands for: the first file of a name counts
abbrev pub bytes_of : List File → List ℕ → Option (List ℕ)
bytes_of [] name = None
bytes_of (file ∷ files) name = if bytes_eq file.name name then Some file.bytes else bytes_of files name

-- a file of this name is there, and all its bytes are left to be read
abbrev pub Opens : Option (List File) → List ℕ → Option (List ℕ) → Type 0
Opens files name left = IfSome files (λ told. IsSomeAnd (bytes_of told name) (λ bytes. left ≡ Some bytes))

-- what was left is what was given, and then what is left now
abbrev pub Gives : Option (List ℕ) → List ℕ → Option (List ℕ) → Type 0
Gives before given now = IfSome before (λ rest. IsSomeAnd now (λ left. rest ≡ given ++ left))

-- nothing is left
abbrev pub IsAtEnd : Option (List ℕ) → Type 0
IsAtEnd left = IfSome left (λ rest. rest ≡ [])
