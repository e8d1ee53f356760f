-- The walks of a worker one after another keep rules 7, 8 and 9 together: its seat knows what was read and offered before.
use Rattle.std.proofs.Common.{◌≡◌, ◌≢◌, ℕ, ◌/◌, ◌^◌, ◌<◌, ◌≤◌, ◌⊎◌, inl, inr, List, [], ◌∷◌, ◌++◌, map, Some, None, Option, refl, ap, sym, subst, ◌∙◌, append_assoc, append-nil, arith}
use Rattle.std.specs.Prelude.{Contains, IfSome}
use Rattle.std.specs.List.{AllByRecursion}
use Rattle.std.proofs.lemmas.List.{map-append}
use Rattle.std.proofs.lemmas.List.Concat.{flat_map-append}
use Rattle.std.proofs.lemmas.List.Elements.{All-contains, All-from_recursion, recursion_from_All, Contains-append_left}
use Rattle.yew_best.specs.Seats.{SeatView, has_read}
use Rattle.yew_laws.specs.SearchTree.{SearchTree, bound_at}
use Rattle.yew_laws.proofs.Members.{AllByRecursion-append, AllByRecursion-weaker, Contains-map}
use Rattle.yew_log.specs.Attained.{limit}
use Rattle.yew_log.specs.HeldValues.{KeyKind, plain, ranked, HeldRises, HeldIsMaximum, IsJudged, IsLater}
use Rattle.yew_log.specs.Notes.{Note, taken, visited, cut, spawned, handed, ended, Judgement, judgement, visit_in, judgement_in, judgements, visits, values, held_values, maximum}
use Rattle.yew_log.specs.Places.{AtEach}
use Rattle.yew_log.specs.Segment.{entries, entries_in}
use Rattle.yew_log.proofs.Growth.{HeldRises-append, worths-append}
use Rattle.yew_log.proofs.Places.{AtEach-append}
use Rattle.yew_log.proofs.Walks.{IsJudged-join}
use Rattle.yew_walk.specs.declared.keying.Keying.{Keying}
use Rattle.yew_walk.specs.declared.keying.Keying.TheVariants.{Plain, Ranked, Gap}
use Rattle.yew_walk.specs.Keys.{key_of, held_of, limit_of, kind_of, gap_in}
use Rattle.yew_walk.specs.Seats.{has_offered, IsRead, SeatGoes}
use Rattle.yew_walk.specs.WorkerLogs.{KeyedSegment, segments_of, SeatGoesOn, ComesFirst, KeysRise}
use Rattle.yew_walk.proofs.KeyOrder.{limit-none, limit-grows}
use Rattle.yew_walk.proofs.PlainLogs.{maximum-one}
use Rattle.yew_walk.proofs.SeatWays.{Keeps, Knows, knows-later, goes-keeps, goes-knows, goes-stays}

-- a worth whose key stands before, of an item with a smaller number, permits no cut of a bound whose key is above what the word permits
below-bound : (first second : Keying) (worth bound word : ℕ) → ComesFirst first second → key_of first worth ≤ word → limit_of second word < key_of second bound → limit (gap_in second) worth < bound
below-bound Plain Plain worth bound word c low high = let l = limit-none worth in omega (arith, low, high, l)
below-bound (Ranked a) (Ranked b) worth bound word c low high = let l = limit-none worth in omega (arith, c, low, high, l)
below-bound (Gap a) (Gap b) worth bound word c low high = let l = limit-grows b worth word low in omega (arith, high, l)
below-bound Plain (Ranked b) worth bound word c low high = absurd c
below-bound Plain (Gap b) worth bound word c low high = absurd c
below-bound (Ranked a) Plain worth bound word c low high = absurd c
below-bound (Ranked a) (Gap b) worth bound word c low high = absurd c
below-bound (Gap a) Plain worth bound word c low high = absurd c
below-bound (Gap a) (Ranked b) worth bound word c low high = absurd c

same-kind : (first second : Keying) → ComesFirst first second → kind_of second ≡ kind_of first
same-kind Plain Plain c = refl
same-kind (Ranked a) (Ranked b) c = refl
same-kind (Gap a) (Gap b) c = refl
same-kind Plain (Ranked b) c = absurd c
same-kind Plain (Gap b) c = absurd c
same-kind (Ranked a) Plain c = absurd c
same-kind (Ranked a) (Gap b) c = absurd c
same-kind (Gap a) Plain c = absurd c
same-kind (Gap a) (Ranked b) c = absurd c

-- the worth that a word holds, by the kind of keys
abbrev held_by : KeyKind → ℕ → ℕ
held_by plain word = word
held_by ranked word = word / 2 ^ 20

held_of-held_by : (keying : Keying) (kind : KeyKind) (word : ℕ) → kind_of keying ≡ kind → held_of keying word ≡ held_by kind word
held_of-held_by Plain plain word e = refl
held_of-held_by (Ranked r) ranked word e = refl
held_of-held_by Plain ranked word e = absurd (cc)
held_of-held_by (Ranked r) plain word e = absurd (cc)
held_of-held_by (Gap g) plain word e = refl
held_of-held_by (Gap g) ranked word e = absurd (cc)

held_by-key_of : (keying : Keying) (kind : KeyKind) (worth : ℕ) → kind_of keying ≡ kind → held_by kind (key_of keying worth) ≡ worth
held_by-key_of Plain plain worth e = refl
held_by-key_of (Ranked r) ranked worth e = omega arith
held_by-key_of Plain ranked worth e = absurd (cc)
held_by-key_of (Ranked r) plain worth e = absurd (cc)
held_by-key_of (Gap g) plain worth e = refl
held_by-key_of (Gap g) ranked worth e = absurd (cc)

held_by-grows : (kind : KeyKind) (a b : ℕ) → a ≤ b → held_by kind a ≤ held_by kind b
held_by-grows plain a b le = le
held_by-grows ranked a b le = omega arith

held_by-zero : (kind : KeyKind) → held_by kind 0 ≡ 0
held_by-zero plain = refl
held_by-zero ranked = omega arith

-- with the same kind of keys, what is known of the earlier entries makes a held value later
later : (first second : Keying) → ComesFirst first second → (seat : SeatView) (notes : List Note) (word : ℕ) (j : Judgement) → Knows first seat notes → IsRead seat word → j.held ≡ held_of second word → IsLater notes j
later first second c seat notes word j knows read is =
    knows-later first seat notes word j knows read (is ∙ held_of-held_by second (kind_of first) word (same-kind first second c) ∙ sym (held_of-held_by first (kind_of first) word refl))

knows-keeps : (keying : Keying) (a b : SeatView) (notes : List Note) → Keeps a b → Knows keying a notes → Knows keying b notes
knows-keeps keying a b notes keeps k = record {
  helds = AllByRecursion-weaker (λ held. (word : ℕ) × (Contains a.read word × (held ≡ held_of keying word))) (λ held. (word : ℕ) × (Contains b.read word × (held ≡ held_of keying word)))
      (λ held u. (u.0, (keeps.read u.0 u.1.0, u.1.1))) (held_values (judgements notes)) k.helds;
  worths = AllByRecursion-weaker (λ worth. Contains a.offered (key_of keying worth)) (λ worth. Contains b.offered (key_of keying worth))
      (λ worth u. keeps.offered (key_of keying worth) u) (values (visits notes)) k.worths;
}

visited-keeps : (a : SeatView) (word key : ℕ) → Keeps a (has_offered (has_read a word) key)
visited-keeps a word key = record {
  read = λ x c. Contains-append_left a.read (word ∷ []) x c;
  offered = λ x c. Contains-append_left a.offered (key ∷ []) x c;
}

cut-keeps : (a : SeatView) (word : ℕ) → Keeps a (has_read a word)
cut-keeps a word = record { read = λ x c. Contains-append_left a.read (word ∷ []) x c; offered = λ x c. c }

module _ {N : Type 0} (t : SearchTree N) where
  -- along a later walk each held value is later than what the seat knew before
  goes-later : (first second : Keying) → ComesFirst first second → (before : List Note) (a b : SeatView) (notes : List Note) → Knows first a before → SeatGoes t second a notes b → AllByRecursion (IsLater before) (judgements notes)
  goes-later first second c before a b [] knows g = tt
  goes-later first second c before a b (visited p w h ∷ ns) knows g =
      let mid = has_offered (has_read a g.0) (key_of second w) in
      (later first second c a before g.0 (judgement p w h) knows g.1.is_read g.1.held_is, goes-later first second c before mid b ns (knows-keeps first a mid before (visited-keeps a g.0 (key_of second w)) knows) g.2)
  goes-later first second c before a b (cut p v h ∷ ns) knows g =
      let mid = has_read a g.0 in
      (later first second c a before g.0 (judgement p v h) knows g.1.is_read g.1.held_is, goes-later first second c before mid b ns (knows-keeps first a mid before (cut-keeps a g.0) knows) g.2)
  goes-later first second c before a b (taken p ∷ ns) knows g = goes-later first second c before a b ns knows g
  goes-later first second c before a b (spawned p ∷ ns) knows g = goes-later first second c before a b ns knows g
  goes-later first second c before a b (handed p ∷ ns) knows g = goes-later first second c before a b ns knows g
  goes-later first second c before a b (ended p ∷ ns) knows g = goes-later first second c before a b ns knows g

  -- a visit of a later walk has a bound above what the worths that were offered before permit to cut
  abbrev IsOver : ℕ → List Note → Judgement → Type 0
  IsOver gap before v = v.path ≢ [] → AllByRecursion (λ u. IfSome (bound_at t v.path) (λ b. limit gap u.value < b)) (visits before)

  over-one : (first second : Keying) → ComesFirst first second → (before : List Note) (a : SeatView) (path : List ℕ) (word : ℕ) → Knows first a before → IsRead a word → IfSome (bound_at t path) (λ b. limit_of second word < key_of second b) → AllByRecursion (λ u. IfSome (bound_at t path) (λ b. limit (gap_in second) u.value < b)) (visits before)
  over-one first second c before a path word knows read due = by (bound_at t path) refl due
    where
      each : (bound : ℕ) → limit_of second word < key_of second bound → (us : List Judgement) → AllByRecursion (λ worth. Contains a.offered (key_of first worth)) (values us) → AllByRecursion (λ u. limit (gap_in second) u.value < bound) us
      each bound high [] k = tt
      each bound high (u ∷ us) k =
          let low = All-contains (λ x. x ≤ word) a.offered (key_of first u.value) read.at_least_offered k.0 in
          let under = below-bound first second u.value bound word c low high in
          (under, each bound high us k.1)

      by : (o : Option ℕ) → bound_at t path ≡ o → IfSome o (λ b. limit_of second word < key_of second b) → AllByRecursion (λ u. IfSome (bound_at t path) (λ b. limit (gap_in second) u.value < b)) (visits before)
      by None e d = subst (λ o. AllByRecursion (λ u. IfSome o (λ b. limit (gap_in second) u.value < b)) (visits before)) (sym e) (nothing (visits before))
        where
          nothing : (us : List Judgement) → AllByRecursion (λ u. IfSome None (λ b. limit (gap_in second) u.value < b)) us
          nothing [] = tt
          nothing (u ∷ us) = (tt, nothing us)
      by (Some bound) e d = subst (λ o. AllByRecursion (λ u. IfSome o (λ b. limit (gap_in second) u.value < b)) (visits before)) (sym e) (each bound d (visits before) knows.worths)

  goes-over : (first second : Keying) → ComesFirst first second → (before : List Note) (a b : SeatView) (notes : List Note) → Knows first a before → SeatGoes t second a notes b → AllByRecursion (IsOver (gap_in second) before) (visits notes)
  goes-over first second c before a b [] knows g = tt
  goes-over first second c before a b (visited p w h ∷ ns) knows g =
      let mid = has_offered (has_read a g.0) (key_of second w) in
      ((λ inner. over-one first second c before a p g.0 knows g.1.is_read (g.1.due inner)), goes-over first second c before mid b ns (knows-keeps first a mid before (visited-keeps a g.0 (key_of second w)) knows) g.2)
  goes-over first second c before a b (cut p v h ∷ ns) knows g = goes-over first second c before (has_read a g.0) b ns (knows-keeps first a (has_read a g.0) before (cut-keeps a g.0) knows) g.2
  goes-over first second c before a b (taken p ∷ ns) knows g = goes-over first second c before a b ns knows g
  goes-over first second c before a b (spawned p ∷ ns) knows g = goes-over first second c before a b ns knows g
  goes-over first second c before a b (handed p ∷ ns) knows g = goes-over first second c before a b ns knows g
  goes-over first second c before a b (ended p ∷ ns) knows g = goes-over first second c before a b ns knows g

  abbrev all_entries : List KeyedSegment → List Note
  all_entries walks = entries (segments_of walks)

  -- the same along all later walks
  module _ (first : Keying) (before : List Note) where
    all-later : (a b : SeatView) (walks : List KeyedSegment) → AllByRecursion (λ w. ComesFirst first w.keying) walks → Knows first a before → SeatGoesOn t a walks b → AllByRecursion (IsLater before) (judgements (all_entries walks))
    all-later a b [] c knows g = tt
    all-later a b (w ∷ ws) c knows g =
        subst (AllByRecursion (IsLater before)) (sym (flat_map-append judgement_in (entries_in w.segment) (all_entries ws)))
        (AllByRecursion-append (IsLater before) (judgements (entries_in w.segment)) (judgements (all_entries ws))
        (goes-later first w.keying c.0 before a g.0 (entries_in w.segment) knows g.1)
        (all-later g.0 b ws c.1 (knows-keeps first a g.0 before (goes-keeps t w.keying a g.0 (entries_in w.segment) g.1) knows) g.2))

    all-over : (gap : ℕ) (a b : SeatView) (walks : List KeyedSegment) → AllByRecursion (λ w. gap_in w.keying ≡ gap) walks → AllByRecursion (λ w. ComesFirst first w.keying) walks → Knows first a before → SeatGoesOn t a walks b → AllByRecursion (IsOver gap before) (visits (all_entries walks))
    all-over gap a b [] is c knows g = tt
    all-over gap a b (w ∷ ws) is c knows g =
        subst (AllByRecursion (IsOver gap before)) (sym (flat_map-append visit_in (entries_in w.segment) (all_entries ws)))
        (AllByRecursion-append (IsOver gap before) (visits (entries_in w.segment)) (visits (all_entries ws))
        (subst (λ k. AllByRecursion (IsOver k before) (visits (entries_in w.segment))) is.0 (goes-over first w.keying c.0 before a g.0 (entries_in w.segment) knows g.1))
        (all-over gap g.0 b ws is.1 c.1 (knows-keeps first a g.0 before (goes-keeps t w.keying a g.0 (entries_in w.segment) g.1) knows) g.2))

  -- rule 7 of all walks together
  pub walks-rise : (walks : List KeyedSegment) (first now : SeatView) → SeatGoesOn t first walks now → KeysRise walks → AllByRecursion (λ w. HeldRises (entries_in w.segment)) walks → HeldRises (all_entries walks)
  walks-rise [] first now g keys each = tt
  walks-rise (w ∷ ws) first now g keys each =
      HeldRises-append (entries_in w.segment) (all_entries ws) each.0 (walks-rise ws g.0 now g.2 keys.1 each.1)
      (all-later w.keying (entries_in w.segment) g.0 now ws keys.0 (goes-knows t w.keying first g.0 (entries_in w.segment) g.1) g.2)

  -- rule 8 of all walks together, which have one gap
  pub walks-judged : (gap : ℕ) (kind : KeyKind) (walks : List KeyedSegment) (first now : SeatView) → AllByRecursion (λ w. gap_in w.keying ≡ gap) walks → SeatGoesOn t first walks now → KeysRise walks → AllByRecursion (λ w. IsJudged t gap kind (entries_in w.segment)) walks → IsJudged t gap kind (all_entries walks)
  walks-judged gap kind [] first now is g keys each = record { visits_due = tt; cuts_below = tt; cuts_permitted = tt }
  walks-judged gap kind (w ∷ ws) first now is g keys each =
      IsJudged-join t gap kind (entries_in w.segment) (all_entries ws) each.0 (walks-judged gap kind ws g.0 now is.1 g.2 keys.1 each.1)
      (all-over w.keying (entries_in w.segment) gap g.0 now ws is.1 keys.0 (goes-knows t w.keying first g.0 (entries_in w.segment) g.1) g.2)

  -- the worths that a seat has offered, with keys of one kind
  abbrev offered_worths : KeyKind → SeatView → List ℕ
  offered_worths kind seat = map (held_by kind) seat.offered

  -- with the whole share, the word that is read holds the greatest worth that was offered
  read-maximum : (kind : KeyKind) (seat : SeatView) (word : ℕ) → seat.share ≡ seat.best.seats → IsRead seat word → held_by kind word ≡ maximum (offered_worths kind seat)
  read-maximum kind seat word whole read =
      maximum-one (offered_worths kind seat) (held_by kind word)
      (All-from_recursion (λ n. n ≤ held_by kind word) (offered_worths kind seat) (below seat.offered (recursion_from_All (λ x. x ≤ word) seat.offered read.at_least_offered)))
      (elim (read.whole whole) as (λ o. (held_by kind word ≡ 0) ⊎ Contains (offered_worths kind seat) (held_by kind word)) [
        | inl zero ↦ inl (ap (held_by kind) zero ∙ held_by-zero kind)
        | inr there ↦ inr (Contains-map (held_by kind) seat.offered word there)
      ])
    where
      below : (xs : List ℕ) → AllByRecursion (λ x. x ≤ word) xs → AllByRecursion (λ n. n ≤ held_by kind word) (map (held_by kind) xs)
      below [] a = tt
      below (x ∷ xs) a = (held_by-grows kind x word a.0, below xs a.1)

  module _ (kind : KeyKind) (keying : Keying) (same : kind_of keying ≡ kind) where
    offers : (a : SeatView) (word worth : ℕ) (path : List ℕ) (held : ℕ) (before : List Note) → offered_worths kind a ≡ values (visits before) → offered_worths kind (has_offered (has_read a word) (key_of keying worth)) ≡ values (visits (before ++ visited path worth held ∷ []))
    offers a word worth path held before e =
        map-append (held_by kind) a.offered (key_of keying worth ∷ [])
        ∙ ap (λ ws. ws ++ held_by kind (key_of keying worth) ∷ []) e
        ∙ ap (λ w. values (visits before) ++ w ∷ []) (held_by-key_of keying kind worth same)
        ∙ sym (worths-append before (visited path worth held ∷ []))

    quiet : (before : List Note) (note : Note) (ws : List ℕ) → values (visits (note ∷ [])) ≡ [] → ws ≡ values (visits before) → ws ≡ values (visits (before ++ note ∷ []))
    quiet before note ws none e = e ∙ sym (append-nil (values (visits before))) ∙ ap (λ vs. values (visits before) ++ vs) (sym none) ∙ sym (worths-append before (note ∷ []))

    -- along one walk each held value is the greatest worth before it, and the seat has offered the worths of the visits
    record IsExact (before notes : List Note) (new : SeatView) : Type 0 where
      pub held : AtEach (λ b n a. AllByRecursion (λ j. j.held ≡ maximum (values (visits b))) (judgement_in n)) before notes
      pub worths : offered_worths kind new ≡ values (visits (before ++ notes))

    exact : (a b : SeatView) (before notes : List Note) → a.share ≡ a.best.seats → offered_worths kind a ≡ values (visits before) → SeatGoes t keying a notes b → IsExact before notes b
    exact a b before [] whole e g = record { held = tt; worths = ap (offered_worths kind) g ∙ e ∙ ap (λ ns. values (visits ns)) (sym (append-nil before)) }
    exact a b before (visited p w h ∷ ns) whole e g =
        let rest = exact (has_offered (has_read a g.0) (key_of keying w)) b (before ++ visited p w h ∷ []) ns whole (offers a g.0 w p h before e) g.2 in
        record {
          held = ((g.1.held_is ∙ held_of-held_by keying kind g.0 same ∙ read-maximum kind a g.0 whole g.1.is_read ∙ ap maximum e, tt), rest.held);
          worths = rest.worths ∙ ap (λ ms. values (visits ms)) (append_assoc before (visited p w h ∷ []) ns);
        }
    exact a b before (cut p v h ∷ ns) whole e g =
        let rest = exact (has_read a g.0) b (before ++ cut p v h ∷ []) ns whole (quiet before (cut p v h) (offered_worths kind a) refl e) g.2 in
        record {
          held = ((g.1.held_is ∙ held_of-held_by keying kind g.0 same ∙ read-maximum kind a g.0 whole g.1.is_read ∙ ap maximum e, tt), rest.held);
          worths = rest.worths ∙ ap (λ ms. values (visits ms)) (append_assoc before (cut p v h ∷ []) ns);
        }
    exact a b before (taken p ∷ ns) whole e g =
        let rest = exact a b (before ++ taken p ∷ []) ns whole (quiet before (taken p) (offered_worths kind a) refl e) g in
        record { held = (tt, rest.held); worths = rest.worths ∙ ap (λ ms. values (visits ms)) (append_assoc before (taken p ∷ []) ns) }
    exact a b before (spawned p ∷ ns) whole e g =
        let rest = exact a b (before ++ spawned p ∷ []) ns whole (quiet before (spawned p) (offered_worths kind a) refl e) g in
        record { held = (tt, rest.held); worths = rest.worths ∙ ap (λ ms. values (visits ms)) (append_assoc before (spawned p ∷ []) ns) }
    exact a b before (handed p ∷ ns) whole e g =
        let rest = exact a b (before ++ handed p ∷ []) ns whole (quiet before (handed p) (offered_worths kind a) refl e) g in
        record { held = (tt, rest.held); worths = rest.worths ∙ ap (λ ms. values (visits ms)) (append_assoc before (handed p ∷ []) ns) }
    exact a b before (ended p ∷ ns) whole e g =
        let rest = exact a b (before ++ ended p ∷ []) ns whole (quiet before (ended p) (offered_worths kind a) refl e) g in
        record { held = (tt, rest.held); worths = rest.worths ∙ ap (λ ms. values (visits ms)) (append_assoc before (ended p ∷ []) ns) }

  all-exact : (kind : KeyKind) (a b : SeatView) (before : List Note) (walks : List KeyedSegment) → a.share ≡ a.best.seats → offered_worths kind a ≡ values (visits before) → AllByRecursion (λ w. kind_of w.keying ≡ kind) walks → SeatGoesOn t a walks b → AtEach (λ b' n a'. AllByRecursion (λ j. j.held ≡ maximum (values (visits b'))) (judgement_in n)) before (all_entries walks)
  all-exact kind a b before [] whole e k g = tt
  all-exact kind a b before (w ∷ ws) whole e k g =
      let one = exact kind w.keying k.0 a g.0 before (entries_in w.segment) whole e g.1 in
      let stays = goes-stays t w.keying a g.0 (entries_in w.segment) g.1 in
      AtEach-append (λ b' n. AllByRecursion (λ j. j.held ≡ maximum (values (visits b'))) (judgement_in n)) before (entries_in w.segment) (all_entries ws) one.held
      (all-exact kind g.0 b (before ++ entries_in w.segment) ws (stays.share ∙ whole ∙ ap (λ b'. b'.seats) (sym stays.best)) one.worths k.1 g.2)

  kinds : (walks : List KeyedSegment) → KeysRise walks → (kind : KeyKind) × AllByRecursion (λ w. kind_of w.keying ≡ kind) walks
  kinds [] keys = (plain, tt)
  kinds (w ∷ ws) keys = (kind_of w.keying, (refl, AllByRecursion-weaker (λ v. ComesFirst w.keying v.keying) (λ v. kind_of v.keying ≡ kind_of w.keying) (λ v c. same-kind w.keying v.keying c) ws keys.0))

  -- rule 9 of all walks together, where nobody else has a part of the word
  pub walks-exact : (walks : List KeyedSegment) (first now : SeatView) → SeatGoesOn t first walks now → KeysRise walks → first.offered ≡ [] → first.share ≡ first.best.seats → HeldIsMaximum (all_entries walks)
  walks-exact walks first now g keys nothing whole = let k = kinds walks keys in all-exact k.0 first now [] walks whole (ap (map (held_by k.0)) nothing) k.1 g

  -- one more walk
  pub goes_on-push : (walks : List KeyedSegment) (first mid now : SeatView) (walk : KeyedSegment) → SeatGoesOn t first walks mid → SeatGoes t walk.keying mid (entries_in walk.segment) now → SeatGoesOn t first (walks ++ walk ∷ []) now
  goes_on-push [] first mid now walk g h = (now, subst (λ s. SeatGoes t walk.keying s (entries_in walk.segment) now) g h, refl)
  goes_on-push (w ∷ ws) first mid now walk g h = (g.0, g.1, goes_on-push ws g.0 mid now walk g.2 h)

pub keys_rise-push : (walks : List KeyedSegment) (walk : KeyedSegment) → KeysRise walks → AllByRecursion (λ w. ComesFirst w.keying walk.keying) walks → KeysRise (walks ++ walk ∷ [])
keys_rise-push [] walk keys c = (tt, tt)
keys_rise-push (w ∷ ws) walk keys c = (AllByRecursion-append (λ v. ComesFirst w.keying v.keying) ws (walk ∷ []) keys.0 (c.0, tt), keys_rise-push ws walk keys.1 c.1)
