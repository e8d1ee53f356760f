-- A log that keeps its entries, one entry longer.
use Rattle.std.proofs.Common.{◌≡◌, ℕ, ◌+◌, ◌<◌, ◌≤◌, ◌^◌, List, [], ◌∷◌, ◌++◌, length, Some, inl, inr, refl, ap, ◌∙◌, arith, length-append}
use Rattle.std.proofs.lemmas.List.{map-append}
use Rattle.std.proofs.lemmas.List.Sums.{sum_by-append, sum_by-cons}
use Rattle.yew_log.specs.declared.entry.What.{What}
use Rattle.yew_log.specs.declared.entry.What.TheVariants.{Taken, Visited, Cut, Spawned, Handed, Ended}
use Rattle.yew_log.specs.declared.entry.Entry.{Entry}
use Rattle.yew_log.specs.Notes.{Note, path_of, path_numbers}
use Rattle.yew_log.specs.Recording.{note_of, Fits, IsFull}
use Rattle.yew_log.specs.AuditFull.{MeetsLimits}
use Rattle.std.proofs.lemmas.Option.{same_Some}
use Rattle.yew_log.specs.Entries.{entry_note, entry_notes}
use Rattle.yew_log.specs.Logs.{IsKept}

path_of-note_of : (what : What) (path : List ℕ) (first second : ℕ) → path_of (note_of what path first second) ≡ path
path_of-note_of Taken path first second = refl
path_of-note_of Visited path first second = refl
path_of-note_of Cut path first second = refl
path_of-note_of Spawned path first second = refl
path_of-note_of Handed path first second = refl
path_of-note_of Ended path first second = refl

pub path_numbers-push : (notes : List Note) (note : Note) → path_numbers (notes ++ note ∷ []) ≡ path_numbers notes + length (path_of note)
path_numbers-push notes note =
    let a = sum_by-append (λ n. length (path_of n)) notes (note ∷ []) in omega arith

pub IsKept-push : (entries : List Entry) (numbers : ℕ) (entry : Entry) (what : What) (path : List ℕ) (first second : ℕ) → IsKept entries numbers → entry_note entry ≡ note_of what path first second → length entries < 2 ^ 18 → numbers + length path ≤ 2 ^ 22 → IsKept (entries ++ entry ∷ []) (numbers + length path)
IsKept-push entries numbers entry what path first second kept e few small =
    let as_path : length (path_of (entry_note entry)) ≡ length path = ap (λ n. length (path_of n)) e ∙ ap length (path_of-note_of what path first second) in
    let counts : path_numbers (entry_notes (entries ++ entry ∷ [])) ≡ path_numbers (entry_notes entries) + length (path_of (entry_note entry)) =
    ap path_numbers (map-append entry_note entries (entry ∷ [])) ∙ path_numbers-push (entry_notes entries) (entry_note entry) in
    let before = kept.numbers_are in
    let longer = length-append entries (entry ∷ []) in
    record { numbers_are = omega arith; entries_fit = omega arith; numbers_fit = small }

-- entries that a log had room for, one after another, are within its limits
pub Fits-push : (notes : List Note) (note : Note) → Fits (path_of note) notes → (length (notes ++ note ∷ []) ≤ 2 ^ 18) × (path_numbers (notes ++ note ∷ []) ≤ 2 ^ 22)
Fits-push notes note fits =
    let a = length-append notes (note ∷ []) in
    let b = path_numbers-push notes note in
    let c = fits.entries in
    let d = fits.numbers in
    (omega arith, omega arith)

-- a log that had no room for an entry, with that entry and whatever comes after it, meets the limits
pub IsFull-meets : (notes : List Note) (note : Note) (rest : List Note) (entries numbers : ℕ) → IsFull (Some notes) (path_of note) entries numbers → MeetsLimits (notes ++ note ∷ rest)
IsFull-meets notes note rest entries numbers full =
    let same = same_Some notes full.notes full.are_told in
    let a = length-append notes (note ∷ rest) in
    let b = sum_by-append (λ n. length (path_of n)) notes (note ∷ rest) in
    let c = sum_by-cons (λ n. length (path_of n)) note rest in
    let d = full.entries_are in
    let e = full.numbers_are in
    let f = ap length same in
    let g = ap path_numbers same in
    elim full.past [ inl many ↦ inl (omega arith) | inr long ↦ inr (omega arith) ]
