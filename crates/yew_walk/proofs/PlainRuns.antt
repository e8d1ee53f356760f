-- What the entries of a walk make of a log that was fresh.
use Rattle.std.proofs.Common.{◌≡◌, ℕ, ◌+◌, List, [], ◌∷◌, ◌++◌, Option, Some, None, refl, ap, sym, subst, ◌∙◌, arith, append_assoc, append-nil}
use Rattle.std.specs.Prelude.{IfSome}
use Rattle.std.specs.Option.{option_map}
use Rattle.yew_log.specs.declared.entry.Totals.{Totals}
use Rattle.yew_log.specs.declared.entry.What.{What}
use Rattle.yew_log.specs.declared.entry.What.TheVariants.{Taken, Visited, Cut, Spawned, Handed, Ended}
use Rattle.yew_log.specs.Notes.{Note, taken, visited, cut, spawned, handed, ended}
use Rattle.yew_log.specs.Recording.{note_of}
use Rattle.yew_log.specs.Totals.{no_totals, make_totals, next_totals, totals_after, saturated_count}
use Rattle.yew_log.proofs.Walks.{AreSmall, next_totals-totals_after, totals_after-append}
use Rattle.yew_walk.specs.LogViews.{LogView, noted, log_after}

told-push : (told : Option (List Note)) (note : Note) (notes : List Note) → option_map (λ old. old ++ notes) (option_map (λ old. old ++ note ∷ []) told) ≡ option_map (λ old. old ++ note ∷ notes) told
told-push None note notes = refl
told-push (Some old) note notes = ap (λ (ns : List Note). Some ns) (append_assoc old (note ∷ []) notes)

told-none : (told : Option (List Note)) → told ≡ option_map (λ old. old ++ []) told
told-none None = refl
told-none (Some old) = ap (λ (ns : List Note). Some ns) (sym (append-nil old))

-- the entries are told, and the worker stays
pub log_after-told : (log : LogView) (notes : List Note) → (log_after log notes).told ≡ option_map (λ old. old ++ notes) log.told
log_after-told log [] = told-none log.told
log_after-told log (taken p ∷ ns) = log_after-told (noted log Taken p 0 0) ns ∙ told-push log.told (taken p) ns
log_after-told log (visited p w h ∷ ns) = log_after-told (noted log Visited p w h) ns ∙ told-push log.told (visited p w h) ns
log_after-told log (cut p b h ∷ ns) = log_after-told (noted log Cut p b h) ns ∙ told-push log.told (cut p b h) ns
log_after-told log (spawned p ∷ ns) = log_after-told (noted log Spawned p 0 0) ns ∙ told-push log.told (spawned p) ns
log_after-told log (handed p ∷ ns) = log_after-told (noted log Handed p 0 0) ns ∙ told-push log.told (handed p) ns
log_after-told log (ended p ∷ ns) = log_after-told (noted log Ended p 0 0) ns ∙ told-push log.told (ended p) ns

pub log_after-number : (log : LogView) (notes : List Note) → (log_after log notes).number ≡ log.number
log_after-number log [] = refl
log_after-number log (taken p ∷ ns) = log_after-number (noted log Taken p 0 0) ns
log_after-number log (visited p w h ∷ ns) = log_after-number (noted log Visited p w h) ns
log_after-number log (cut p b h ∷ ns) = log_after-number (noted log Cut p b h) ns
log_after-number log (spawned p ∷ ns) = log_after-number (noted log Spawned p 0 0) ns
log_after-number log (handed p ∷ ns) = log_after-number (noted log Handed p 0 0) ns
log_after-number log (ended p ∷ ns) = log_after-number (noted log Ended p 0 0) ns

small-next : (t : Totals) (what : What) → AreSmall t → AreSmall (next_totals t what)
small-next t Taken s = record { taken = omega arith; spawned = s.spawned; handed = s.handed; visited = s.visited; cut = s.cut }
small-next t Spawned s = record { taken = s.taken; spawned = omega arith; handed = s.handed; visited = s.visited; cut = s.cut }
small-next t Handed s = record { taken = s.taken; spawned = s.spawned; handed = omega arith; visited = s.visited; cut = s.cut }
small-next t Visited s = record { taken = s.taken; spawned = s.spawned; handed = s.handed; visited = omega arith; cut = s.cut }
small-next t Cut s = record { taken = s.taken; spawned = s.spawned; handed = s.handed; visited = s.visited; cut = omega arith }
small-next t Ended s = s

all_fields : {a b c d e a' b' c' d' e' : ℕ} → a ≡ a' → b ≡ b' → c ≡ c' → d ≡ d' → e ≡ e' → make_totals a b c d e ≡ make_totals a' b' c' d' e'
all_fields p q r s u = cc

kept-all : (t : Totals) → AreSmall t → t ≡ totals_after t []
kept-all t s =
    let a : t.taken ≡ saturated_count (t.taken + 0) = let h = s.taken in omega (arith, h) in
    let b : t.spawned ≡ saturated_count (t.spawned + 0) = let h = s.spawned in omega (arith, h) in
    let c : t.handed ≡ saturated_count (t.handed + 0) = let h = s.handed in omega (arith, h) in
    let d : t.visited ≡ saturated_count (t.visited + 0) = let h = s.visited in omega (arith, h) in
    let e : t.cut ≡ saturated_count (t.cut + 0) = let h = s.cut in omega (arith, h) in
    all_fields a b c d e

one-first : (t : Totals) (what : What) (path : List ℕ) (first second : ℕ) (notes : List Note) → AreSmall t → totals_after (next_totals t what) notes ≡ totals_after t (note_of what path first second ∷ notes)
one-first t what path first second notes s =
    ap (λ u. totals_after u notes) (next_totals-totals_after t what path first second s)
    ∙ totals_after-append t (note_of what path first second ∷ []) notes

-- the totals grow by one entry after another as by all at once
pub log_after-totals : (log : LogView) (notes : List Note) → AreSmall log.totals → (log_after log notes).totals ≡ totals_after log.totals notes
log_after-totals log [] s = kept-all log.totals s
log_after-totals log (taken p ∷ ns) s = log_after-totals (noted log Taken p 0 0) ns (small-next log.totals Taken s) ∙ one-first log.totals Taken p 0 0 ns s
log_after-totals log (visited p w h ∷ ns) s = log_after-totals (noted log Visited p w h) ns (small-next log.totals Visited s) ∙ one-first log.totals Visited p w h ns s
log_after-totals log (cut p b h ∷ ns) s = log_after-totals (noted log Cut p b h) ns (small-next log.totals Cut s) ∙ one-first log.totals Cut p b h ns s
log_after-totals log (spawned p ∷ ns) s = log_after-totals (noted log Spawned p 0 0) ns (small-next log.totals Spawned s) ∙ one-first log.totals Spawned p 0 0 ns s
log_after-totals log (handed p ∷ ns) s = log_after-totals (noted log Handed p 0 0) ns (small-next log.totals Handed s) ∙ one-first log.totals Handed p 0 0 ns s
log_after-totals log (ended p ∷ ns) s = log_after-totals (noted log Ended p 0 0) ns (small-next log.totals Ended s) ∙ one-first log.totals Ended p 0 0 ns s

pub small-none : AreSmall no_totals
small-none = record { taken = omega arith; spawned = omega arith; handed = omega arith; visited = omega arith; cut = omega arith }

-- a log that was fresh tells just these entries
pub fresh-told : (old new : Option (List Note)) (notes : List Note) → IfSome old (λ ns. ns ≡ []) → new ≡ option_map (λ ns. ns ++ notes) old → IfSome new (λ ns. ns ≡ notes)
fresh-told None new notes f e = subst (λ o. IfSome o (λ ns. ns ≡ notes)) (sym e) tt
fresh-told (Some old) new notes f e = subst (λ o. IfSome o (λ ns. ns ≡ notes)) (sym e) (ap (λ ns. ns ++ notes) f)
