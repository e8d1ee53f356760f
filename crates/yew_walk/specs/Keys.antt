-- The keys of the incumbent word: what a worth is offered as, and what a word says of the worth that is held.
use Rattle.std.specs.Prelude.{ℕ, ◌/◌, ◌<◌, ◌≤◌, ◌^◌, ◌==◌, if◌then◌else◌}
use Rattle.yew_log.specs.Attained.{limit}
use Rattle.yew_log.specs.HeldValues.{KeyKind, plain, ranked}
use Rattle.yew_log.specs.Items.{ranked_key}
use Rattle.yew_walk.specs.declared.keying.Keying.{Keying}
use Rattle.yew_walk.specs.declared.keying.Keying.TheVariants.{Plain, Ranked, Gap}

-- the number of an item is below 2^20, and a gap at most 2^40 - 2
abbrev pub IsKeying : Keying → Type 0
IsKeying Plain = Unit {0}
IsKeying (Ranked rank) = rank < 2 ^ 20
IsKeying (Gap gap) = gap ≤ 1099511627774

-- a worth as a key: the worth itself, or with the number of its item, of which a smaller one is the greater key
abbrev pub key_of : Keying → ℕ → ℕ
key_of Plain worth = worth
key_of (Ranked rank) worth = ranked_key rank worth
key_of (Gap gap) worth = worth

-- the worth that a word holds
abbrev pub held_of : Keying → ℕ → ℕ
held_of Plain word = word
held_of (Ranked rank) word = word / 2 ^ 20
held_of (Gap gap) word = word

-- the greatest key of a bound that is cut where this word is read
abbrev pub limit_of : Keying → ℕ → ℕ
limit_of Plain word = word
limit_of (Ranked rank) word = word
limit_of (Gap gap) word = limit gap word

-- the key of an answer: a worth of 0 is none
abbrev pub answer_key : Keying → ℕ → ℕ
answer_key keying worth = if worth == 0 then 0 else key_of keying worth

-- by which rule held values are judged
abbrev pub kind_of : Keying → KeyKind
kind_of Plain = plain
kind_of (Ranked rank) = ranked
kind_of (Gap gap) = plain

-- the gap that is permitted
abbrev pub gap_in : Keying → ℕ
gap_in Plain = 0
gap_in (Ranked rank) = 0
gap_in (Gap gap) = gap
