-- Files that are read, and texts that are written, piece by piece.
use Rattle.std.proofs.Common.{◌≡◌, ◌<◌, ◌≤◌, ℕ, List, [], ◌++◌, ◌+◌, ◌-◌, length, take, drop, Option, Some, None, IfSome, IsSomeAnd, Vec, Ok, Err, refl, sym, ◌∙◌, ap, subst, inl, inr, arith, append_assoc, length-append, length-drop}
use Rattle.std.proofs.lemmas.List.{append-nil, take_all}
use lib.Seq.{take-add}
use Rattle.std.specs.declared.alloc.Global.{Global}
use Rattle.yew_io.specs.Shelf.{File, bytes_of, Opens, Gives, IsAtEnd}
use Rattle.yew_io.specs.Sink.{Appends}
use Rattle.yew_io.specs.Reading.{IsWhole, IsLonger, Answers, IsAnswer}
use Rattle.yew_io.specs.declared.reading.ReadEnd.TheVariants.{TooLong, Memory}

-- the file of that name is these bytes, and then what is left
abbrev pub IsReadTo : Option (List File) → List ℕ → List ℕ → Option (List ℕ) → Type 0
IsReadTo files name bytes left = IfSome files (λ told. IsSomeAnd left (λ rest. bytes_of told name ≡ Some (bytes ++ rest)))

opens_all : (found left : Option (List ℕ)) → IsSomeAnd found (λ bytes. left ≡ Some bytes) → IsSomeAnd left (λ rest. found ≡ Some rest)
opens_all None left opens = absurd opens
opens_all (Some bytes) left opens = subst (λ (l : Option (List ℕ)). IsSomeAnd l (λ rest. Some bytes ≡ Some rest)) (sym opens) refl

-- nothing was read yet
pub read_none : (files : Option (List File)) (name : List ℕ) (left : Option (List ℕ)) → Opens files name left → IsReadTo files name [] left
read_none None name left opens = tt
read_none (Some told) name left opens = opens_all (bytes_of told name) left opens

-- one piece more
pub read_more : (files : Option (List File)) (name bytes given : List ℕ) (before now : Option (List ℕ)) → IsReadTo files name bytes before → Gives before given now → IsReadTo files name (bytes ++ given) now
read_more None name bytes given before now so_far gives = tt
read_more (Some told) name bytes given None now so_far gives = absurd so_far
read_more (Some told) name bytes given (Some rest) None so_far gives = absurd gives
read_more (Some told) name bytes given (Some rest) (Some left) so_far gives =
    so_far ∙ ap (λ (r : List ℕ). Some (bytes ++ r)) gives ∙ ap (λ (r : List ℕ). Some r) (sym (append_assoc bytes given left))

-- at the end nothing is missing
pub read_whole : (files : Option (List File)) (name bytes : List ℕ) (left : Option (List ℕ)) → IsReadTo files name bytes left → IsAtEnd left → IsWhole files name bytes
read_whole None name bytes left so_far ended = tt
read_whole (Some told) name bytes None so_far ended = absurd so_far
read_whole (Some told) name bytes (Some rest) so_far ended = so_far ∙ ap (λ (r : List ℕ). Some (bytes ++ r)) ended ∙ ap (λ (r : List ℕ). Some r) (append-nil bytes)

-- what was read is past the limit
pub read_longer : (files : Option (List File)) (name bytes : List ℕ) (left : Option (List ℕ)) (limit : ℕ) → IsReadTo files name bytes left → limit < length bytes → IsLonger files name limit
read_longer None name bytes left limit so_far more = tt
read_longer (Some told) name bytes None limit so_far more = absurd so_far
read_longer (Some told) name bytes (Some rest) limit so_far more =
    subst (λ (found : Option (List ℕ)). IsSomeAnd found (λ all. limit < length all)) (sym so_far) (omega (arith, length-append bytes rest))

weaken : (found : Option (List ℕ)) (P Q : List ℕ → Type 0) → ((bytes : List ℕ) → P bytes → Q bytes) → IsSomeAnd found P → IsSomeAnd found Q
weaken None P Q then has = absurd has
weaken (Some bytes) P Q then has = then bytes has

-- the answer is the whole file
pub answer_whole : (files : Option (List File)) (name : List ℕ) (limit : ℕ) (bytes : Vec ℕ Global) → IsWhole files name bytes.items → length bytes.items ≤ limit → IsAnswer files name limit (Ok bytes)
answer_whole None name limit bytes whole within = tt
answer_whole (Some told) name limit bytes whole within =
    let answer : Answers bytes.items limit (Ok bytes) = record { short = λ le. inl refl; long = λ more. absurd (omega arith) } in
    subst (λ (found : Option (List ℕ)). IsSomeAnd found (λ all. Answers all limit (Ok bytes))) (sym whole) answer

-- the answer is that it is too long
pub answer_longer : (files : Option (List File)) (name : List ℕ) (limit : ℕ) → IsLonger files name limit → IsAnswer files name limit (Err TooLong)
answer_longer None name limit longer = tt
answer_longer (Some told) name limit longer = weaken (bytes_of told name) _ _ (λ bytes more. record { short = λ le. absurd (omega arith); long = λ less. inl refl }) longer

-- the answer is that memory ran out
pub answer_memory : (files : Option (List File)) (name bytes : List ℕ) (limit : ℕ) (left : Option (List ℕ)) → IsReadTo files name bytes left → IsAnswer files name limit (Err Memory)
answer_memory None name bytes limit left so_far = tt
answer_memory (Some told) name bytes limit None so_far = absurd so_far
answer_memory (Some told) name bytes limit (Some rest) so_far =
    let answer : Answers (bytes ++ rest) limit (Err Memory) = record { short = λ le. inr refl; long = λ more. inr refl } in
    subst (λ (found : Option (List ℕ)). IsSomeAnd found (λ all. Answers all limit (Err Memory))) (sym so_far) answer

-- one piece more is written
pub append_more : (before mid now : Option (List ℕ)) (bytes given : List ℕ) → Appends before bytes mid → Appends mid given now → Appends before (bytes ++ given) now
append_more None mid now bytes given first next = tt
append_more (Some written) mid now bytes given first next =
    let from : Appends (Some (written ++ bytes)) given now = subst (λ (m : Option (List ℕ)). Appends m given now) first next in
    from ∙ ap (λ (w : List ℕ). Some w) (append_assoc written bytes given)

-- nothing was written yet
pub append_none : (before : Option (List ℕ)) → Appends before [] before
append_none None = tt
append_none (Some written) = ap (λ (w : List ℕ). Some w) (sym (append-nil written))

-- the bytes up to a place, and then some of those from it on, are the bytes up to a later place
pub next_piece : (taken count : ℕ) (bytes : List ℕ) → take taken bytes ++ take count (take (length bytes - taken) (drop taken bytes)) ≡ take (taken + count) bytes
next_piece taken count bytes =
    let rest : take (length bytes - taken) (drop taken bytes) ≡ drop taken bytes = take_all _ _ (omega (arith, length-drop taken bytes)) in
    ap (λ (l : List ℕ). take taken bytes ++ take count l) rest ∙ sym (take-add taken count bytes)

-- a piece of the rest does not go past the end
pub piece_within : (taken count : ℕ) (bytes : List ℕ) → taken ≤ length bytes → count ≤ length (take (length bytes - taken) (drop taken bytes)) → taken + count ≤ length bytes
piece_within taken count bytes before fits =
    let rest : take (length bytes - taken) (drop taken bytes) ≡ drop taken bytes = take_all _ _ (omega (arith, length-drop taken bytes)) in
    omega (arith, fits, ap length rest, length-drop taken bytes)
