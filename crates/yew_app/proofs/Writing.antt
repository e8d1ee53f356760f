-- Texts that are written in pieces.
use Rattle.std.proofs.Common.{◌≡◌, ◌≤◌, ◌<◌, ◌+◌, ℕ, List, get_or, ◌∷◌, ◌++◌, length, take, drop, Option, sym, ◌∙◌, ap, subst, arith, length-append}
use Rattle.std.proofs.Math.Seq.{take-append-add}
use Rattle.std.specs.List.{flat_map}
use Rattle.std.proofs.lemmas.List.{take_all, take-append-le, take-append-drop, drop_more}
use Rattle.std.proofs.lemmas.List.Concat.{flat_map-append}
use Rattle.yew_io.specs.Sink.{Appends, AppendsPrefix}
use Rattle.yew_io.proofs.Pieces.{append_more}

-- a prefix of one more piece: a prefix of it and all that stands behind it
pub prefix_more : (before mid now : Option (List ℕ)) (bytes piece behind : List ℕ) → Appends before bytes mid → AppendsPrefix mid piece now → AppendsPrefix before (bytes ++ (piece ++ behind)) now
prefix_more before mid now bytes piece behind first next =
    let count = next.0 in
    let within : count ≤ length piece = next.1 in
    let front : take (length bytes + count) (bytes ++ (piece ++ behind)) ≡ bytes ++ take count (piece ++ behind) = take-append-add bytes (piece ++ behind) count in
    let same : take count (piece ++ behind) ≡ take count piece = take-append-le count piece behind within in (
      length bytes + count,
      omega (arith, length-append bytes (piece ++ behind), length-append piece behind),
      subst (λ (text : List ℕ). Appends before text now) (sym (front ∙ ap (λ (t : List ℕ). bytes ++ t) same))
          (append_more before mid now bytes (take count piece) first next.2),
    )

-- the pieces up to a place, the piece there, and those behind it
pub pieces_at : {X : Type 0} (text : X → List ℕ) (xs : List X) (i : ℕ) (d : X) → i < length xs → flat_map text xs ≡ flat_map text (take i xs) ++ (text (get_or xs i d) ++ flat_map text (drop (i + 1) xs))
pieces_at text xs i d within =
    let parts : take i xs ++ drop i xs ≡ xs = take-append-drop i xs in
    let front : drop i xs ≡ get_or xs i d ∷ drop (i + 1) xs = drop_more xs i d within in
    ap (flat_map text) (sym (ap (λ ys. take i xs ++ ys) (sym front) ∙ parts)) ∙ flat_map-append text (take i xs) (get_or xs i d ∷ drop (i + 1) xs)

-- what was written whole was written as a prefix
pub prefix_whole : (before now : Option (List ℕ)) (text : List ℕ) → Appends before text now → AppendsPrefix before text now
prefix_whole before now text whole = (length text, omega arith, subst (λ (t : List ℕ). Appends before t now) (sym (take_all (length text) text (omega arith))) whole)
