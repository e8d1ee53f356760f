-- A worker that has the whole share of the incumbent word: behind the walk above the depth of tasks, each held value is the greatest worth of all visits before it.
use Rattle.std.proofs.Common.{◌≡◌, ℕ, ◌/◌, ◌^◌, ◌≤◌, ◌⊎◌, inl, inr, List, [], ◌∷◌, ◌++◌, map, refl, ap, ap₂, sym, subst, ◌∙◌, append_assoc, append-nil, arith}
use Rattle.std.specs.Prelude.{Contains}
use Rattle.std.specs.List.{AllByRecursion}
use Rattle.std.proofs.lemmas.List.{map-append}
use Rattle.std.proofs.lemmas.List.Elements.{All-from_recursion, recursion_from_All}
use Rattle.yew_best.specs.Seats.{SeatView, has_read}
use Rattle.yew_laws.specs.SearchTree.{SearchTree}
use Rattle.yew_laws.proofs.Members.{Contains-map}
use Rattle.yew_log.specs.HeldValues.{HeldIsMaximum}
use Rattle.yew_log.specs.Notes.{Note, taken, visited, cut, spawned, handed, ended, Judgement, judgement_in, visits, values, maximum}
use Rattle.yew_log.specs.Places.{AtEach}
use Rattle.yew_log.specs.Segment.{entries, entries_in}
use Rattle.yew_log.proofs.Growth.{worths-append}
use Rattle.yew_log.proofs.Places.{AtEach-append}
use Rattle.yew_walk.specs.declared.keying.Keying.TheVariants.{Ranked}
use Rattle.yew_walk.specs.Keys.{key_of}
use Rattle.yew_walk.specs.Seats.{has_offered, IsRead, SeatGoes}
use Rattle.yew_walk.specs.WorkerLogs.{KeyedSegment, segments_of, SeatGoesOn}
use Rattle.yew_walk.proofs.PlainLogs.{maximum-one}
use Rattle.yew_walk.proofs.SeatWays.{goes-stays}
use Rattle.yew_ranked.specs.RankedSearch.{RankedJudgement, key_of_judgement, plain_judgement}
use Rattle.yew_ranked.specs.Tasks.{Numbered}
use Rattle.yew_ranked.proofs.ItemWalks.{ArePartsAt}

-- the worths of the keys that a seat has offered
abbrev worths_of : SeatView → List ℕ
worths_of seat = map (λ key. key / 2 ^ 20) seat.offered

key-worth : (rank worth : ℕ) → key_of (Ranked rank) worth / 2 ^ 20 ≡ worth
key-worth rank worth = omega arith

-- with the whole share, the word that is read holds the greatest worth that was offered
read-greatest : (seat : SeatView) (word : ℕ) → seat.share ≡ seat.best.seats → IsRead seat word → word / 2 ^ 20 ≡ maximum (worths_of seat)
read-greatest seat word whole read =
    maximum-one (worths_of seat) (word / 2 ^ 20)
    (All-from_recursion (λ n. n ≤ word / 2 ^ 20) (worths_of seat) (below seat.offered (recursion_from_All (λ x. x ≤ word) seat.offered read.at_least_offered)))
    (elim (read.whole whole) as (λ o. (word / 2 ^ 20 ≡ 0) ⊎ Contains (worths_of seat) (word / 2 ^ 20)) [
      | inl zero ↦ inl (omega (arith, zero))
      | inr there ↦ inr (Contains-map (λ key. key / 2 ^ 20) seat.offered word there)
    ])
  where
    below : (xs : List ℕ) → AllByRecursion (λ x. x ≤ word) xs → AllByRecursion (λ n. n ≤ word / 2 ^ 20) (map (λ key. key / 2 ^ 20) xs)
    below [] a = tt
    below (x ∷ xs) a = ((let le = a.0 in omega (arith, le)), below xs a.1)

offers-visit : (rank : ℕ) (a : SeatView) (word worth : ℕ) (path : List ℕ) (held : ℕ) (before : List Note) → worths_of a ≡ values (visits before)
    → worths_of (has_offered (has_read a word) (key_of (Ranked rank) worth)) ≡ values (visits (before ++ visited path worth held ∷ []))
offers-visit rank a word worth path held before e =
    map-append (λ key. key / 2 ^ 20) a.offered (key_of (Ranked rank) worth ∷ [])
    ∙ (ap (λ ws. ws ++ key_of (Ranked rank) worth / 2 ^ 20 ∷ []) e
    ∙ (ap (λ (w : ℕ). values (visits before) ++ w ∷ []) (key-worth rank worth)
    ∙ sym (worths-append before (visited path worth held ∷ []))))

quiet : (before : List Note) (note : Note) (ws : List ℕ) → values (visits (note ∷ [])) ≡ [] → ws ≡ values (visits before) → ws ≡ values (visits (before ++ note ∷ []))
quiet before note ws none e = e ∙ (sym (append-nil (values (visits before))) ∙ (ap (λ vs. values (visits before) ++ vs) (sym none) ∙ sym (worths-append before (note ∷ []))))

-- each held value of these entries is the greatest worth before it, and the seat has offered the worths of all visits
record IsExact (before notes : List Note) (new : SeatView) : Type 0 where
  pub held : AtEach (λ b n a. AllByRecursion (λ (j : Judgement). j.held ≡ maximum (values (visits b))) (judgement_in n)) before notes
  pub worths : worths_of new ≡ values (visits (before ++ notes))

module _ {N : Type 0} (t : SearchTree N) where
  exact : (rank : ℕ) (a b : SeatView) (before notes : List Note) → a.share ≡ a.best.seats → worths_of a ≡ values (visits before) → SeatGoes t (Ranked rank) a notes b → IsExact before notes b
  exact rank a b before [] whole e g = record { held = tt; worths = ap worths_of g ∙ (e ∙ ap (λ ns. values (visits ns)) (sym (append-nil before))) }
  exact rank a b before (visited p w h ∷ ns) whole e g =
      let rest = exact rank (has_offered (has_read a g.0) (key_of (Ranked rank) w)) b (before ++ visited p w h ∷ []) ns whole (offers-visit rank a g.0 w p h before e) g.2 in
      record {
        held = ((g.1.held_is ∙ (read-greatest a g.0 whole g.1.is_read ∙ ap maximum e), tt), rest.held);
        worths = rest.worths ∙ ap (λ ms. values (visits ms)) (append_assoc before (visited p w h ∷ []) ns);
      }
  exact rank a b before (cut p v h ∷ ns) whole e g =
      let rest = exact rank (has_read a g.0) b (before ++ cut p v h ∷ []) ns whole (quiet before (cut p v h) (worths_of a) refl e) g.2 in
      record {
        held = ((g.1.held_is ∙ (read-greatest a g.0 whole g.1.is_read ∙ ap maximum e), tt), rest.held);
        worths = rest.worths ∙ ap (λ ms. values (visits ms)) (append_assoc before (cut p v h ∷ []) ns);
      }
  exact rank a b before (taken p ∷ ns) whole e g =
      let rest = exact rank a b (before ++ taken p ∷ []) ns whole (quiet before (taken p) (worths_of a) refl e) g in
      record { held = (tt, rest.held); worths = rest.worths ∙ ap (λ ms. values (visits ms)) (append_assoc before (taken p ∷ []) ns) }
  exact rank a b before (spawned p ∷ ns) whole e g =
      let rest = exact rank a b (before ++ spawned p ∷ []) ns whole (quiet before (spawned p) (worths_of a) refl e) g in
      record { held = (tt, rest.held); worths = rest.worths ∙ ap (λ ms. values (visits ms)) (append_assoc before (spawned p ∷ []) ns) }
  exact rank a b before (handed p ∷ ns) whole e g =
      let rest = exact rank a b (before ++ handed p ∷ []) ns whole (quiet before (handed p) (worths_of a) refl e) g in
      record { held = (tt, rest.held); worths = rest.worths ∙ ap (λ ms. values (visits ms)) (append_assoc before (handed p ∷ []) ns) }
  exact rank a b before (ended p ∷ ns) whole e g =
      let rest = exact rank a b (before ++ ended p ∷ []) ns whole (quiet before (ended p) (worths_of a) refl e) g in
      record { held = (tt, rest.held); worths = rest.worths ∙ ap (λ ms. values (visits ms)) (append_assoc before (ended p ∷ []) ns) }

  all-exact : (tasks : List Numbered) (places : List ℕ) (walks : List KeyedSegment) (a b : SeatView) (before : List Note) → ArePartsAt t tasks places walks
      → a.share ≡ a.best.seats → worths_of a ≡ values (visits before) → SeatGoesOn t a walks b
      → AtEach (λ b' n a'. AllByRecursion (λ (j : Judgement). j.held ≡ maximum (values (visits b'))) (judgement_in n)) before (entries (segments_of walks))
  all-exact tasks [] [] a b before are whole e g = tt
  all-exact tasks [] (w ∷ ws) a b before are whole e g = absurd are
  all-exact tasks (p ∷ ps) [] a b before are whole e g = absurd are
  all-exact tasks (p ∷ ps) (w ∷ ws) a b before are whole e g =
      let mid = g.0 in
      let one = exact are.0.task.rank a mid before (entries_in w.segment) whole e (subst (λ k. SeatGoes t k a (entries_in w.segment) mid) are.0.keys g.1) in
      let stays = goes-stays t w.keying a mid (entries_in w.segment) g.1 in
      AtEach-append (λ b' n. AllByRecursion (λ (j : Judgement). j.held ≡ maximum (values (visits b'))) (judgement_in n)) before (entries_in w.segment) (entries (segments_of ws)) one.held
      (all-exact tasks ps ws mid b (before ++ entries_in w.segment) are.1 (stays.share ∙ (whole ∙ ap (λ b'. b'.seats) (sym stays.best))) one.worths g.2)

  -- rule 9 behind the walk above the depth of tasks
  pub behind-exact : (front : List Note) (earlier : List RankedJudgement) → map plain_judgement earlier ≡ visits front → HeldIsMaximum front
      → (tasks : List Numbered) (places : List ℕ) (walks : List KeyedSegment) (a b : SeatView) → ArePartsAt t tasks places walks
      → a.share ≡ a.best.seats → a.offered ≡ map key_of_judgement earlier → SeatGoesOn t a walks b → HeldIsMaximum (front ++ entries (segments_of walks))
  behind-exact front earlier earlier_are maxima tasks places walks a b are whole offered g =
      AtEach-append (λ b' n. AllByRecursion (λ (j : Judgement). j.held ≡ maximum (values (visits b'))) (judgement_in n)) [] front (entries (segments_of walks)) maxima
      (all-exact tasks places walks a b front are whole (ap (map (λ key. key / 2 ^ 20)) offered ∙ (each earlier ∙ ap values earlier_are)) g)
    where
      each : (us : List RankedJudgement) → map (λ key. key / 2 ^ 20) (map key_of_judgement us) ≡ values (map plain_judgement us)
      each [] = refl
      each (u ∷ us) = ap₂ (λ (w : ℕ) (ws : List ℕ). w ∷ ws) (key-worth u.item u.value) (each us)
