-- What the calls of a sink do, where the sink tells what was written.
use Rattle.std.specs.Prelude.{◌≡◌, ℕ, List, ◌++◌, length, ◌≤◌, take, Option, Some, IfSome}

-- these bytes were written after what stood there
abbrev pub Appends : Option (List ℕ) → List ℕ → Option (List ℕ) → Type 0
Appends before bytes now = IfSome before (λ written. now ≡ Some (written ++ bytes))

-- a prefix of these bytes was written after what stood there
abbrev pub AppendsPrefix : Option (List ℕ) → List ℕ → Option (List ℕ) → Type 0
AppendsPrefix before bytes now = (count : ℕ) × (count ≤ length bytes) × Appends before (take count bytes) now
