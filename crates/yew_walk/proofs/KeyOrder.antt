-- Keys and held values keep the order of worths.
use Rattle.std.proofs.Common.{◌≡◌, ℕ, ◌+◌, ◌<◌, ◌≤◌, ◌^◌, refl, sym, arith}
use Rattle.std.proofs.lemmas.Bool.Decides.{nat_tests}
use Rattle.yew_log.specs.Attained.{limit}
use Rattle.yew_log.specs.HeldValues.{plain, IsUncut}
use Rattle.yew_walk.specs.declared.keying.Keying.{Keying}
use Rattle.yew_walk.specs.declared.keying.Keying.TheVariants.{Plain, Ranked, Gap}
use Rattle.yew_walk.specs.Keys.{IsKeying, key_of, held_of, limit_of, kind_of, gap_in}

-- a greater word holds at least as much
pub held_of-grows : (keying : Keying) (a b : ℕ) → a ≤ b → held_of keying a ≤ held_of keying b
held_of-grows Plain a b le = le
held_of-grows (Ranked rank) a b le = omega arith
held_of-grows (Gap gap) a b le = le

-- a word that is at least a key holds at least its worth
pub held_of-key_of : (keying : Keying) (worth word : ℕ) → key_of keying worth ≤ word → worth ≤ held_of keying word
held_of-key_of Plain worth word le = le
held_of-key_of (Ranked rank) worth word le = omega arith
held_of-key_of (Gap gap) worth word le = le

-- with no gap, what a held value permits to cut is the value itself
pub limit-none : (held : ℕ) → limit 0 held ≡ held
limit-none held = grind (arith, nat_tests)

-- a greater held value permits to cut as much
pub limit-grows : (gap a b : ℕ) → a ≤ b → limit gap a ≤ limit gap b
limit-grows gap a b le = grind (arith, nat_tests)

-- what is permitted is what is held, and no more than the gap above it
pub limit-least : (gap held : ℕ) → held ≤ limit gap held
limit-least gap held = grind (arith, nat_tests)

pub limit-most : (gap held : ℕ) → limit gap held ≤ held + gap
limit-most gap held = grind (arith, nat_tests)

-- a bound whose key is above what the word permits to cut is not cut by what the word holds
pub uncut-above : (keying : Keying) (bound word : ℕ) → limit_of keying word < key_of keying bound → IsUncut (kind_of keying) (gap_in keying) (held_of keying word) bound
uncut-above Plain bound word above = let l = limit-none word in omega (arith, above, l)
uncut-above (Ranked rank) bound word above = omega arith
uncut-above (Gap gap) bound word above = above

-- and a worth whose key is at most the word does not permit to cut it
pub worth-permits : (keying : Keying) (worth bound word : ℕ) → key_of keying worth ≤ word → limit_of keying word < key_of keying bound → limit (gap_in keying) worth < bound
worth-permits Plain worth bound word low above = let l = limit-none worth in omega (arith, low, above, l)
worth-permits (Ranked rank) worth bound word low above = let l = limit-none worth in omega (arith, low, above, l)
worth-permits (Gap gap) worth bound word low above = let l = limit-grows gap worth word low in omega (arith, above, l)

-- a bound whose key the word permits to cut is one that the held value permits to cut
pub bound-permitted : (keying : Keying) (bound word : ℕ) → key_of keying bound ≤ limit_of keying word → bound ≤ limit (gap_in keying) (held_of keying word)
bound-permitted Plain bound word under = let l = limit-none word in omega (arith, under, l)
bound-permitted (Ranked rank) bound word under =
    let l = limit-none (held_of (Ranked rank) word) in
    let h = held_of-key_of (Ranked rank) bound word under in
    omega (arith, l, h)
bound-permitted (Gap gap) bound word under = under

-- under a plain key, a worth is its key, a word holds itself, and permits what the held value permits
pub key_of-plain : (keying : Keying) (worth : ℕ) → kind_of keying ≡ plain → key_of keying worth ≡ worth
key_of-plain Plain worth is = refl
key_of-plain (Ranked rank) worth is = absurd (cc)
key_of-plain (Gap gap) worth is = refl

pub held_of-plain : (keying : Keying) (word : ℕ) → kind_of keying ≡ plain → held_of keying word ≡ word
held_of-plain Plain word is = refl
held_of-plain (Ranked rank) word is = absurd (cc)
held_of-plain (Gap gap) word is = refl

pub limit_of-plain : (keying : Keying) (word : ℕ) → kind_of keying ≡ plain → limit_of keying word ≡ limit (gap_in keying) word
limit_of-plain Plain word is = sym (limit-none word)
limit_of-plain (Ranked rank) word is = absurd (cc)
limit_of-plain (Gap gap) word is = refl

-- the key of a worth or a bound is a word
pub key_of-small : (keying : Keying) (worth : ℕ) → IsKeying keying → worth < 2 ^ 40 → key_of keying worth ≤ 18446744073709551615
key_of-small Plain worth is small = omega (arith, small)
key_of-small (Ranked rank) worth is small = omega (arith, is, small)
key_of-small (Gap gap) worth is small = omega (arith, small)
