-- The walks of a worker behind the walk above the depth of tasks keep rules 7, 8 and 9 together with it, since its seat has offered the keys of all visits there.
use Rattle.std.proofs.Common.{◌≡◌, ◌≢◌, ℕ, ◌+◌, ◌-◌, ◌*◌, ◌^◌, ◌<◌, ◌≤◌, ◌⊎◌, inl, inr, Some, None, Option, List, [], ◌∷◌, ◌++◌, map, refl, ap, sym, subst, ◌∙◌, append_assoc, append-nil, arith}
use Rattle.std.specs.Prelude.{Contains, IsTrue, IfSome}
use Rattle.std.specs.List.{AllByRecursion}
use Rattle.std.proofs.lemmas.List.Concat.{flat_map-append}
use Rattle.std.proofs.lemmas.List.Elements.{All-contains, Contains-append_left}
use Rattle.yew_best.specs.Seats.{SeatView, has_read}
use Rattle.yew_laws.specs.Order.{comes_before}
use Rattle.yew_laws.specs.SearchTree.{SearchTree, bound_at}
use Rattle.yew_laws.specs.Tree.{IsRanked}
use Rattle.yew_laws.proofs.Members.{AllByRecursion-append, AllByRecursion-weaker}
use Rattle.yew_log.specs.Attained.{limit}
use Rattle.yew_log.specs.HeldValues.{ranked, CountsFor, HeldRises, HeldIsMaximum, IsJudged, IsDue, IsLater}
use Rattle.yew_log.specs.Items.{items_of, IsInItem}
use Rattle.yew_log.specs.Notes.{Note, taken, visited, cut, spawned, handed, ended, Judgement, judgement, visit_in, cut_in, judgement_in, judgements, visits, paths, visited_paths, values, held_values, maximum}
use Rattle.yew_log.specs.Places.{AtEach}
use Rattle.yew_log.specs.Segment.{entries, entries_in}
use Rattle.yew_log.proofs.Growth.{HeldRises-append, worths-append}
use Rattle.yew_log.proofs.Nesting.{all-flat}
use Rattle.yew_log.proofs.Places.{AtEach-append}
use Rattle.yew_walk.specs.declared.keying.Keying.TheVariants.{Ranked}
use Rattle.yew_walk.specs.Keys.{key_of, held_of}
use Rattle.yew_walk.specs.Seats.{has_offered, IsRead, IsVisitWord, IsCutWord, SeatGoes}
use Rattle.yew_walk.specs.WorkerLogs.{KeyedSegment, segments_of, SeatGoesOn}
use Rattle.yew_walk.proofs.KeyOrder.{limit-none, held_of-key_of}
use Rattle.yew_walk.proofs.SeatWays.{goes-keeps}
use Rattle.yew_walk.proofs.WorkerLogs.{walks-rise, walks-judged}
use Rattle.yew_ranked.specs.RankedSearch.{RankedJudgement, key_of_judgement, plain_judgement}
use Rattle.yew_ranked.specs.Stations.{AreRising}
use Rattle.yew_ranked.specs.Tasks.{tasks_of_tree}
use Rattle.yew_ranked.proofs.ItemPlaces.{in_items-rise}
use Rattle.yew_ranked.proofs.ItemWalks.{ArePartsAt, parts-all, parts-exact, keys-rise, visited-in_item}
use Rattle.yew_ranked.proofs.PathOrder.{before-not_both}

-- the keys of all these visits were offered
abbrev pub AreOffered : SeatView → List RankedJudgement → Type 0
AreOffered seat earlier = AllByRecursion (λ (u : RankedJudgement). Contains seat.offered (key_of_judgement u)) earlier

offered-push : (seat : SeatView) (key : ℕ) (earlier : List RankedJudgement) → AreOffered seat earlier → AreOffered (has_offered seat key) earlier
offered-push seat key earlier a =
    AllByRecursion-weaker (λ (u : RankedJudgement). Contains seat.offered (key_of_judgement u)) (λ (u : RankedJudgement). Contains (seat.offered ++ key ∷ []) (key_of_judgement u))
    (λ u c. Contains-append_left seat.offered (key ∷ []) (key_of_judgement u) c) earlier a

module _ {N : Type 0} (t : SearchTree N) (rank : ℕ) (earlier : List RankedJudgement) (P Q : Judgement → Type 0)
    (visit : (seat : SeatView) (p : List ℕ) (worth held word : ℕ) → AreOffered seat earlier → IsVisitWord t (Ranked rank) seat p held word → P (judgement p worth held) × Q (judgement p worth held))
    (leave : (seat : SeatView) (p : List ℕ) (bound held word : ℕ) → AreOffered seat earlier → IsCutWord t (Ranked rank) seat bound held word → P (judgement p bound held)) where
  -- a fact of each visit and each cut along a walk, whose seat had offered these keys before
  goes-each : (a b : SeatView) (notes : List Note) → AreOffered a earlier → SeatGoes t (Ranked rank) a notes b → AllByRecursion P (judgements notes) × AllByRecursion Q (visits notes)
  goes-each a b [] offered g = (tt, tt)
  goes-each a b (visited p w h ∷ ns) offered g =
      let mid = has_offered (has_read a g.0) (key_of (Ranked rank) w) in
      let here = visit a p w h g.0 offered g.1 in
      let more = goes-each mid b ns (offered-push (has_read a g.0) (key_of (Ranked rank) w) earlier offered) g.2 in ((here.0, more.0), (here.1, more.1))
  goes-each a b (cut p v h ∷ ns) offered g =
      let here = leave a p v h g.0 offered g.1 in
      let more = goes-each (has_read a g.0) b ns offered g.2 in ((here, more.0), more.1)
  goes-each a b (taken p ∷ ns) offered g = goes-each a b ns offered g
  goes-each a b (spawned p ∷ ns) offered g = goes-each a b ns offered g
  goes-each a b (handed p ∷ ns) offered g = goes-each a b ns offered g
  goes-each a b (ended p ∷ ns) offered g = goes-each a b ns offered g

maximum-front : (xs ys : List ℕ) → maximum xs ≤ maximum (xs ++ ys)
maximum-front [] ys = omega arith
maximum-front (x ∷ xs) ys = let rest = maximum-front xs ys in omega (arith, rest)

-- where each held value is the greatest worth before it, all are at most the greatest worth
module _ (whole : List Note) where
  abbrev Most : ℕ
  Most = maximum (values (visits whole))

  most-over : (before rest : List Note) → before ++ rest ≡ whole → (h : ℕ) → h ≡ maximum (values (visits before)) → h ≤ Most
  most-over before rest is h e =
      let grows = maximum-front (values (visits before)) (values (visits rest)) in
      let same = ap maximum (sym (worths-append before rest) ∙ ap (λ ns. values (visits ns)) is) in omega (arith, e, grows, same)

  helds-below : (before notes : List Note) → before ++ notes ≡ whole → AtEach (λ b n a. AllByRecursion (λ (j : Judgement). j.held ≡ maximum (values (visits b))) (judgement_in n)) before notes
      → AllByRecursion (λ h. h ≤ Most) (held_values (judgements notes))
  helds-below before [] is exact = tt
  helds-below before (visited p w h ∷ ns) is exact = (most-over before (visited p w h ∷ ns) is h exact.0.0, helds-below (before ++ visited p w h ∷ []) ns (append_assoc before (visited p w h ∷ []) ns ∙ is) exact.1)
  helds-below before (cut p w h ∷ ns) is exact = (most-over before (cut p w h ∷ ns) is h exact.0.0, helds-below (before ++ cut p w h ∷ []) ns (append_assoc before (cut p w h ∷ []) ns ∙ is) exact.1)
  helds-below before (taken p ∷ ns) is exact = helds-below (before ++ taken p ∷ []) ns (append_assoc before (taken p ∷ []) ns ∙ is) exact.1
  helds-below before (spawned p ∷ ns) is exact = helds-below (before ++ spawned p ∷ []) ns (append_assoc before (spawned p ∷ []) ns ∙ is) exact.1
  helds-below before (handed p ∷ ns) is exact = helds-below (before ++ handed p ∷ []) ns (append_assoc before (handed p ∷ []) ns ∙ is) exact.1
  helds-below before (ended p ∷ ns) is exact = helds-below (before ++ ended p ∷ []) ns (append_assoc before (ended p ∷ []) ns ∙ is) exact.1

maximum-below : (ns : List ℕ) (w : ℕ) → AllByRecursion (λ n. n ≤ w) ns → maximum ns ≤ w
maximum-below [] w a = omega arith
maximum-below (n ∷ ns) w a = let rest = maximum-below ns w a.1 in omega (arith, a.0, rest)

-- a worth whose key is at most a word is below a bound whose key is above it, where the worth's item has no greater number
under-bound : (u rank value bound word : ℕ) → u ≤ rank → value * 2 ^ 20 + (2 ^ 20 - 1 - u) ≤ word → word < bound * 2 ^ 20 + (2 ^ 20 - 1 - rank) → value < bound
under-bound u rank value bound word le low high = omega arith

module _ {N : Type 0} (t : SearchTree N) (front : List Note) (earlier : List RankedJudgement) (earlier_are : map plain_judgement earlier ≡ visits front) (exact : HeldIsMaximum front) where
  -- a word of a seat that has offered the keys of the front's visits holds at least what was held and visited there
  word-later : (rank : ℕ) (seat : SeatView) (word : ℕ) (j : Judgement) → AreOffered seat earlier → IsRead seat word → j.held ≡ held_of (Ranked rank) word → IsLater front j
  word-later rank seat word j offered read is =
      let worths : AllByRecursion (λ w. w ≤ j.held) (values (visits front)) = subst (λ (js : List Judgement). AllByRecursion (λ w. w ≤ j.held) (values js)) earlier_are (each earlier offered) in
      let most = maximum-below (values (visits front)) j.held worths in
      record {
        of_helds = AllByRecursion-weaker (λ h. h ≤ maximum (values (visits front))) (λ h. h ≤ j.held) (λ h le. omega (arith, le, most)) (held_values (judgements front)) (helds-below front [] front refl exact);
        of_worths = worths;
      }
    where
      each : (us : List RankedJudgement) → AreOffered seat us → AllByRecursion (λ w. w ≤ j.held) (values (map plain_judgement us))
      each [] o = tt
      each (u ∷ us) o =
          let low = All-contains (λ x. x ≤ word) seat.offered (key_of_judgement u) read.at_least_offered o.0 in
          let holds = held_of-key_of (Ranked u.item) u.value word low in (omega (arith, holds, is), each us o.1)

  -- no visit of the front that comes before a later one permits to cut it
  abbrev pub IsOver : Judgement → Type 0
  IsOver v = v.path ≢ [] → AllByRecursion (λ (u : Judgement). CountsFor ranked u v → IfSome (bound_at t v.path) (λ b. limit 0 u.value < b)) (visits front)

  -- rule 8 of entries behind the front, of which no visit could be cut by an earlier visit of the front that counts for it
  judged-join : (ys : List Note) → IsJudged t 0 ranked front → IsJudged t 0 ranked ys → AllByRecursion IsOver (visits ys) → IsJudged t 0 ranked (front ++ ys)
  judged-join ys a b over =
      record {
        visits_due = AtEach-append (λ before n. Due before n) [] front ys a.visits_due
            (subst (λ before. AtEach (λ b' n a'. Due b' n) before ys) (append-nil front) (behind [] ys b.visits_due over));
        cuts_below = all-flat (λ (c : Judgement). c.path ≢ []) cut_in front ys a.cuts_below b.cuts_below;
        cuts_permitted = all-flat (λ (c : Judgement). c.value ≤ limit 0 c.held) cut_in front ys a.cuts_permitted b.cuts_permitted;
      }
    where
      Due : List Note → Note → Type 0
      Due before n = AllByRecursion (λ (v : Judgement). v.path ≢ [] → IsDue t 0 ranked before v) (visit_in n)

      due : (before : List Note) (v : Judgement) → IsOver v → IsDue t 0 ranked before v → v.path ≢ [] → IsDue t 0 ranked (front ++ before) v
      due before v over d inner = record {
        over_worths = subst (AllByRecursion (λ (u : Judgement). CountsFor ranked u v → IfSome (bound_at t v.path) (λ b. limit 0 u.value < b))) (sym (flat_map-append visit_in front before))
            (AllByRecursion-append (λ (u : Judgement). CountsFor ranked u v → IfSome (bound_at t v.path) (λ b. limit 0 u.value < b)) (visits front) (visits before) (over inner) d.over_worths);
        over_held = d.over_held;
      }

      next : (before : List Note) (n : Note) (ns : List Note) → AtEach (λ b' n' a'. Due b' n') (front ++ (before ++ n ∷ [])) ns → AtEach (λ b' n' a'. Due b' n') ((front ++ before) ++ n ∷ []) ns
      next before n ns r = subst (λ b'. AtEach (λ b'' n' a'. Due b'' n') b' ns) (sym (append_assoc front before (n ∷ []))) r

      behind : (before ns : List Note) → AtEach (λ b' n a'. Due b' n) before ns → AllByRecursion IsOver (visits ns) → AtEach (λ b' n a'. Due b' n) (front ++ before) ns
      behind before [] d o = tt
      behind before (visited p w h ∷ ns) d o =
          (((λ inner. due before (judgement p w h) o.0 (d.0.0 inner) inner), tt), next before (visited p w h) ns (behind (before ++ visited p w h ∷ []) ns d.1 o.1))
      behind before (cut p w h ∷ ns) d o = (tt, next before (cut p w h) ns (behind (before ++ cut p w h ∷ []) ns d.1 o))
      behind before (taken p ∷ ns) d o = (tt, next before (taken p) ns (behind (before ++ taken p ∷ []) ns d.1 o))
      behind before (spawned p ∷ ns) d o = (tt, next before (spawned p) ns (behind (before ++ spawned p ∷ []) ns d.1 o))
      behind before (handed p ∷ ns) d o = (tt, next before (handed p) ns (behind (before ++ handed p ∷ []) ns d.1 o))
      behind before (ended p ∷ ns) d o = (tt, next before (ended p) ns (behind (before ++ ended p ∷ []) ns d.1 o))

  module _ (depth : ℕ) (in_items : AllByRecursion (λ (u : RankedJudgement). IsInItem (items_of t depth) u.item u.path) earlier) where
    visit-over : (rank : ℕ) (seat : SeatView) (v : Judgement) (word : ℕ) → AreOffered seat earlier → IsRead seat word → (v.path ≢ [] → IfSome (bound_at t v.path) (λ b. word < key_of (Ranked rank) b))
        → IsInItem (items_of t depth) rank v.path → IsOver v
    visit-over rank seat v word offered read due inside ne =
        subst (λ (js : List Judgement). AllByRecursion (λ (u : Judgement). CountsFor ranked u v → IfSome (bound_at t v.path) (λ b. limit 0 u.value < b)) js) earlier_are (each earlier offered in_items)
      where
        one : (u : RankedJudgement) → key_of_judgement u ≤ word → IsInItem (items_of t depth) u.item u.path → IsTrue (comes_before u.path v.path)
            → (o : Option ℕ) → IfSome o (λ b. word < key_of (Ranked rank) b) → IfSome o (λ b. limit 0 u.value < b)
        one u low at before None d = tt
        one u low at before (Some b) d = by (order u.item rank)
          where
            order : (m n : ℕ) → (m ≤ n) ⊎ (n < m)
            order m n = grind arith

            by : (u.item ≤ rank) ⊎ (rank < u.item) → limit 0 u.value < b
            by (inl le) = let under = under-bound u.item rank u.value b word le low d in let same = limit-none u.value in omega (arith, under, same)
            by (inr more) = absurd (before-not_both u.path v.path before (in_items-rise t depth rank u.item v.path u.path inside at more))

        each : (us : List RankedJudgement) → AreOffered seat us → AllByRecursion (λ (u : RankedJudgement). IsInItem (items_of t depth) u.item u.path) us
            → AllByRecursion (λ (u : Judgement). CountsFor ranked u v → IfSome (bound_at t v.path) (λ b. limit 0 u.value < b)) (map plain_judgement us)
        each [] o i = tt
        each (u ∷ us) o i =
            let low = All-contains (λ x. x ≤ word) seat.offered (key_of_judgement u) read.at_least_offered o.0 in
            ((λ before. one u low i.0 before (bound_at t v.path) (due ne)), each us o.1 i.1)

    -- along one walk of an item
    walk-behind : (rank : ℕ) (a b : SeatView) (notes : List Note) → AreOffered a earlier → SeatGoes t (Ranked rank) a notes b → AllByRecursion (IsInItem (items_of t depth) rank) (visited_paths notes)
        → AllByRecursion (IsLater front) (judgements notes) × AllByRecursion IsOver (visits notes)
    walk-behind rank a b notes offered g inside =
        let both = goes-each t rank earlier (IsLater front) (λ (v : Judgement). IsInItem (items_of t depth) rank v.path → IsOver v)
        (λ seat p worth held word o is. (
          word-later rank seat word (judgement p worth held) o is.is_read is.held_is,
          visit-over rank seat (judgement p worth held) word o is.is_read is.due,
        ))
        (λ seat p bound held word o is. word-later rank seat word (judgement p bound held) o is.is_read is.held_is) a b notes offered g in
        (both.0, meet (visits notes) both.1 inside)
      where
        meet : (vs : List Judgement) → AllByRecursion (λ (v : Judgement). IsInItem (items_of t depth) rank v.path → IsOver v) vs → AllByRecursion (IsInItem (items_of t depth) rank) (paths vs) → AllByRecursion IsOver vs
        meet [] f i = tt
        meet (v ∷ vs) f i = (f.0 i.0, meet vs f.1 i.1)

    module _ {sound : N → Type 0} (is_ranked : IsRanked sound t.children t.rank) (root : sound t.root) where
      abbrev all_entries : List KeyedSegment → List Note
      all_entries walks = entries (segments_of walks)

      -- along all walks of tasks
      walks-behind : (places : List ℕ) (walks : List KeyedSegment) (a b : SeatView) → ArePartsAt t (tasks_of_tree t depth) places walks → AreOffered a earlier → SeatGoesOn t a walks b
          → AllByRecursion (IsLater front) (judgements (all_entries walks)) × AllByRecursion IsOver (visits (all_entries walks))
      walks-behind [] [] a b are offered g = (tt, tt)
      walks-behind [] (w ∷ ws) a b are offered g = absurd are
      walks-behind (p ∷ ps) [] a b are offered g = absurd are
      walks-behind (p ∷ ps) (w ∷ ws) a b are offered g =
          let part = are.0 in
          let mid = g.0 in
          let goes = subst (λ k. SeatGoes t k a (entries_in w.segment) mid) part.keys g.1 in
          let one = walk-behind part.task.rank a mid (entries_in w.segment) offered goes (visited-in_item t is_ranked root depth p w part) in
          let keeps = goes-keeps t w.keying a mid (entries_in w.segment) g.1 in
          let more = walks-behind ps ws mid b are.1
          (AllByRecursion-weaker (λ (u : RankedJudgement). Contains a.offered (key_of_judgement u)) (λ (u : RankedJudgement). Contains mid.offered (key_of_judgement u)) (λ u c. keeps.offered (key_of_judgement u) c) earlier offered) g.2 in (
            subst (AllByRecursion (IsLater front)) (sym (flat_map-append judgement_in (entries_in w.segment) (all_entries ws)))
                (AllByRecursion-append (IsLater front) (judgements (entries_in w.segment)) (judgements (all_entries ws)) one.0 more.0),
            subst (AllByRecursion IsOver) (sym (flat_map-append visit_in (entries_in w.segment) (all_entries ws)))
                (AllByRecursion-append IsOver (visits (entries_in w.segment)) (visits (all_entries ws)) one.1 more.1),
          )

      -- rule 7
      pub behind-rises : (places : List ℕ) (walks : List KeyedSegment) (a b : SeatView) → ArePartsAt t (tasks_of_tree t depth) places walks → AreRising places → AreOffered a earlier → SeatGoesOn t a walks b
          → HeldRises front → HeldRises (front ++ all_entries walks)
      behind-rises places walks a b are rising offered g rises =
          HeldRises-append front (all_entries walks) rises
          (walks-rise t walks a b g (keys-rise t depth places walks are rising)
          (parts-all t (tasks_of_tree t depth) (λ w. HeldRises (entries_in w.segment)) (λ p w part. part.rises) places walks are))
          (walks-behind places walks a b are offered g).0

      -- rule 8
      pub behind-judged : (places : List ℕ) (walks : List KeyedSegment) (a b : SeatView) → ArePartsAt t (tasks_of_tree t depth) places walks → AreRising places → AreOffered a earlier → SeatGoesOn t a walks b
          → IsJudged t 0 ranked front → IsJudged t 0 ranked (front ++ all_entries walks)
      behind-judged places walks a b are rising offered g judged =
          judged-join (all_entries walks) judged
          (walks-judged t 0 ranked walks a b (parts-exact t (tasks_of_tree t depth) places walks are) g (keys-rise t depth places walks are rising)
          (parts-all t (tasks_of_tree t depth) (λ w. IsJudged t 0 ranked (entries_in w.segment)) (λ p w part. part.judged) places walks are))
          (walks-behind places walks a b are offered g).1
