-- The files of a shelf in memory, by their index.
use Rattle.std.proofs.Common.{◌≡◌, ◌<◌, ℕ, zero, suc, List, [], ◌∷◌, length, get_or, take, drop, true, false, Option, Some, None, IsSome, is_some, is_none, ◌&&◌, String, Vec, string_bytes, option_copied, refl, sym, ◌∙◌, ap, subst, arith, Bor, Contains, Bool, ◌-◌, length-drop}
use Rattle.std.proofs.lemmas.List.{length-map, take_all}
use Rattle.std.specs.declared.alloc.Global.{Global}
use Rattle.std.specs.Str.{bytes_eq}
use Rattle.yew_io.specs.Shelf.{File, bytes_of}
use Rattle.yew_io.specs.MemoryShelf.{file_of, files_of, bytes_at, IsPlace}

abbrev Pair : Type 0
Pair = String Global × Vec ℕ Global

-- the file at an index, where its name is the one that is sought
pub found_at : (pairs : List Pair) (index : ℕ) (name : List ℕ) (pair : Pair) → index < length pairs → pair ≡ get_or pairs index pair → bytes_eq (string_bytes pair.0) name ≡ true
    → bytes_of (files_of (drop index pairs)) name ≡ Some (bytes_at (files_of pairs) index)
found_at [] index name pair there is equal = absurd (omega arith)
found_at (p ∷ ps) zero name pair there is equal =
    let here : bytes_eq (string_bytes p.0) name ≡ true = subst (λ (q : Pair). bytes_eq (string_bytes q.0) name ≡ true) is equal in
    rw here refl
found_at (p ∷ ps) (suc index) name pair there is equal = found_at ps index name pair (omega arith) is equal

-- the bytes of the file at an index
pub bytes_at-files_of : (pairs : List Pair) (index : ℕ) (pair : Pair) → index < length pairs → pair ≡ get_or pairs index pair → bytes_at (files_of pairs) index ≡ pair.1.items
bytes_at-files_of [] index pair there is = absurd (omega arith)
bytes_at-files_of (p ∷ ps) zero pair there is = ap (λ (q : Pair). q.1.items) (sym is)
bytes_at-files_of (p ∷ ps) (suc index) pair there is = bytes_at-files_of ps index pair (omega arith) is

-- the same number in the same list
pub contained : (numbers others : List ℕ) (number other : ℕ) → numbers ≡ others → number ≡ other → Contains numbers number → Contains others other
contained numbers others number other same_list same_number has =
    subst (λ (xs : List ℕ). Contains xs other) same_list (subst (λ (n : ℕ). Contains numbers n) same_number has)

-- where a name was opened and the last call did not fail, a file is open
pub is_open : {P : Type 0} (name : Option (Bor (List ℕ))) (place : Option P) (seen : Option (List ℕ)) (failed : Bool)
    → option_copied name ≡ seen → (is_some name && is_none place) ≡ failed → IsSome seen → failed ≡ false → place ≡ None → ⊥
is_open None place seen failed copied fails some whole none = let h : IsSome {T = List ℕ} None = subst (λ (o : Option (List ℕ)). IsSome o) (sym copied) some in cc
is_open (Some n) (Some p) seen failed copied fails some whole none = cc
is_open (Some n) None seen failed copied fails some whole none = let h : true ≡ false = fails ∙ whole in cc

-- the bytes from a place on
pub range_all : (from : ℕ) (bytes : List ℕ) → take (length bytes - from) (drop from bytes) ≡ drop from bytes
range_all from bytes = take_all _ _ (omega (arith, length-drop from bytes))

-- a place is in the list of pairs
pub place_there : (pairs : List Pair) (index at : ℕ) → IsPlace (files_of pairs) index at → index < length pairs
place_there pairs index at place = omega (arith, place.there, length-map {B = File} pairs file_of)
