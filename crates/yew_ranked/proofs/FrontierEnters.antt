-- What the walk above the depth makes of a node: it is visited or cut as the tree says, or refused.
use Rattle.std.proofs.Common.{◌≡◌, ◌≢◌, ℕ, suc, ◌+◌, ◌/◌, ◌^◌, ◌<◌, ◌≤◌, ◌⊎◌, List, [], ◌∷◌, ◌++◌, length, max, Bool, true, false, nat_le, if◌then◌else◌, Some, refl, ap, ap₂, sym, subst, ◌∙◌, inl, inr, append-nil, arith}
use Rattle.std.specs.List.{AllByRecursion, Contains}
use Rattle.std.proofs.lemmas.Bool.Decides.{nat_tests}
use Rattle.std.proofs.lemmas.List.{length-map}
use Rattle.yew_best.specs.Seats.{SeatView}
use Rattle.yew_laws.specs.declared.problem.Problem.{Ghosts}
use Rattle.yew_laws.specs.Fold.{IsTally}
use Rattle.yew_laws.specs.Incumbent.{improved}
use Rattle.yew_laws.specs.SearchTree.{SearchTree, search_tree, at_path}
use Rattle.yew_log.specs.Notes.{Note, visited, cut, ended, maximum, values, visits}
use Rattle.yew_log.specs.Items.{ranked_key}
use Rattle.yew_log.specs.SeqLog.{visited_worth}
use Rattle.yew_walk.specs.Hands.{incumbent_of}
use Rattle.yew_walk.specs.Keys.{answer_key}
use Rattle.yew_walk.specs.LogViews.{LogView, log_after, RefusesNote}
use Rattle.yew_walk.specs.Seats.{IsRead}
use Rattle.yew_walk.specs.Verdicts.{IsVisit, IsCut}
use Rattle.yew_walk.specs.declared.fault.SearchFault.{SearchFault}
use Rattle.yew_walk.specs.declared.fault.SearchFault.TheVariants.{Memory, AuditFull, TooManyTasks}
use Rattle.yew_walk.specs.declared.keying.Keying.TheVariants.{Ranked}
use Rattle.yew_ranked.specs.Frontier.{frontier_notes}
use Rattle.yew_ranked.specs.FrontierStates.{FrontierState, IsSoFar, IsAfterRoot, IsEntered, IsPastFault, StopsIn, entered_notes, children_notes, noted_items}
use Rattle.yew_ranked.specs.RankedSearch.{RankedJudgement, key_of_judgement, plain_judgement, IsOfferedBefore}
use Rattle.yew_ranked.proofs.FrontierSteps.{IsWord, of-contained, read-word, held-greatest, word-of_visit, key-permits, key-refuses, IsVisitStep, so_far-visit, IsOtherStep, so_far-other}
use Rattle.yew_ranked.proofs.FrontierStops.{refused-stops}
use Rattle.yew_ranked.proofs.NotedItems.{frontier_notes-children}

at_most-true : (a b : ℕ) → a ≤ b → nat_le a b ≡ true
at_most-true a b h = grind (arith, nat_tests)

above-false : (a b : ℕ) → b < a → nat_le a b ≡ false
above-false a b h = grind (arith, nat_tests)

module _ {N : Type 0} (t : SearchTree N) where
  -- the root, and a node whose bound is above the worth that was held, are visited
  entered-visit : (levels : ℕ) (path : List ℕ) (n : N) (held : ℕ) → (path ≡ []) ⊎ (held < t.bound n) → entered_notes t levels path n held ≡ frontier_notes t levels path n held
  entered-visit levels [] n held due = refl
  entered-visit levels (k ∷ path) n held due = by due
    where
      by : ((k ∷ path) ≡ []) ⊎ (held < t.bound n) → entered_notes t levels (k ∷ path) n held ≡ frontier_notes t levels (k ∷ path) n held
      by (inl root) = absurd (cc)
      by (inr above) = ap (λ (b : Bool). if b then cut (k ∷ path) (t.bound n) held ∷ [] else frontier_notes t levels (k ∷ path) n held) (above-false (t.bound n) held above)

  -- any other node is cut
  entered-cut : (levels : ℕ) (path : List ℕ) (n : N) (held : ℕ) → path ≢ [] → t.bound n ≤ held → entered_notes t levels path n held ≡ cut path (t.bound n) held ∷ []
  entered-cut levels [] n held inner le = absurd (inner refl)
  entered-cut levels (k ∷ path) n held inner le = ap (λ (b : Bool). if b then cut (k ∷ path) (t.bound n) held ∷ [] else frontier_notes t levels (k ∷ path) n held) (at_most-true (t.bound n) held le)

after-root : (path : List ℕ) (notes : List Note) → path ≢ [] → IsAfterRoot path notes → 0 < length (visits notes)
after-root [] notes inner a = absurd (inner refl)
after-root (k ∷ path) notes inner a = a

module _ {S M K Sum : Type 0} (meaning : Ghosts S M K) (problem : S) (join : Sum → Sum → Sum) (none : Sum) (of : M → ℕ → Sum) where
  -- what the word of a node says: the worth that it holds, and where a visit stands before, whose key it is
  record IsReadWord (notes : List Note) (w : List RankedJudgement) (word : ℕ) : Type 0 where
    pub is_word : IsWord w word
    pub held_is : word / 2 ^ 20 ≡ visited_worth notes

  word-read : (begun : LogView) (notes : List Note) (old : FrontierState Sum) (word : ℕ) (w : IsSoFar (search_tree meaning problem) join none of begun notes old) → old.seat.share ≡ old.seat.best.seats
      → IsRead old.seat word → IsReadWord notes w.visited word
  word-read begun notes old word w whole r =
      let is_word = read-word w.visited old.seat word w.offered_is whole r in
      record { is_word = is_word; held_is = held-greatest w.visited word is_word ∙ ap (λ js. maximum (values js)) w.visits_are }

  -- the key of an earlier visit is the word
  earlier-visit : (begun : LogView) (notes : List Note) (old : FrontierState Sum) (path : List ℕ) (word : ℕ) (w : IsSoFar (search_tree meaning problem) join none of begun notes old) → path ≢ []
      → IsAfterRoot path notes → IsReadWord notes w.visited word
      → (v : RankedJudgement) × Contains w.visited v × (word ≡ key_of_judgement v)
  earlier-visit begun notes old path word w inner after r =
      let some = after-root path notes inner after in
      let same : length w.visited ≡ length (visits notes) = sym (length-map w.visited plain_judgement) ∙ ap length w.visits_are in
      word-of_visit w.visited word (omega (arith, some, same)) r.is_word

  due-held : (begun : LogView) (notes : List Note) (old : FrontierState Sum) (path : List ℕ) (node : M) (word : ℕ) (w : IsSoFar (search_tree meaning problem) join none of begun notes old) → IsAfterRoot path notes
      → IsReadWord notes w.visited word
      → (path ≡ []) ⊎ (word < ranked_key old.next (meaning.bound problem node)) → (path ≡ []) ⊎ (visited_worth notes < meaning.bound problem node)
  due-held begun notes old [] node word w after r due = inl refl
  due-held begun notes old (k ∷ path) node word w after r (inl root) = absurd (cc)
  due-held begun notes old (k ∷ path) node word w after r (inr above) =
      let v = earlier-visit begun notes old (k ∷ path) word w (λ root. absurd (cc)) after r in
      let less = of-contained (λ (u : RankedJudgement). u.item < old.next) w.visited v.0 w.numbers_below v.1 in
      let few = w.few in
      let over = key-refuses old.next v.0.item v.0.value (meaning.bound problem node) word less few v.2 above in
      let held = r.held_is in
      inr (omega (arith, over, held))

  cut-held : (begun : LogView) (notes : List Note) (old : FrontierState Sum) (path : List ℕ) (node : M) (word : ℕ) (w : IsSoFar (search_tree meaning problem) join none of begun notes old) → path ≢ []
      → IsAfterRoot path notes → IsReadWord notes w.visited word
      → ranked_key old.next (meaning.bound problem node) ≤ word → meaning.bound problem node ≤ visited_worth notes
  cut-held begun notes old path node word w inner after r permitted =
      let v = earlier-visit begun notes old path word w inner after r in
      let less = of-contained (λ (u : RankedJudgement). u.item < old.next) w.visited v.0 w.numbers_below v.1 in
      let few = w.few in
      let under = key-permits old.next v.0.item v.0.value (meaning.bound problem node) word less few v.2 permitted in
      let held = r.held_is in
      omega (arith, under, held)

  -- the first entry of a node that is visited
  visit-first : (levels : ℕ) (path : List ℕ) (node : M) (held : ℕ) → (path ≡ []) ⊎ (held < meaning.bound problem node)
      → let t = search_tree meaning problem in entered_notes t levels path node held ≡ visited path (meaning.worth problem node) held ∷ (children_notes t levels path 0 (meaning.children problem node) (max held
      (meaning.worth problem node)) ++ ended path ∷ [])
  visit-first levels path node held due =
      entered-visit (search_tree meaning problem) levels path node held due ∙ frontier_notes-children (search_tree meaning problem) levels path node held

  -- a visit is an entry of the tree
  pub enters-visit : {fits : Sum → Type 0} → IsTally fits join none → ((n : M) (depth : ℕ) → fits (of n depth))
      → (begun : LogView) (notes : List Note) (old now : FrontierState Sum) (path : List ℕ) (node : M) (worth held : ℕ)
      → old.seat.share ≡ old.seat.best.seats → at_path (search_tree meaning problem) path ≡ Some node → old.next < 2 ^ 20 → IsVisit meaning problem (Ranked old.next) path node worth held old.seat now.seat
      → now.log ≡ log_after old.log (visited path worth held ∷ []) → now.next ≡ suc old.next → now.tasks ≡ old.tasks → now.hand.sum ≡ join old.hand.sum (of node (length path))
      → incumbent_of now.hand ≡ improved (incumbent_of old.hand) (answer_key (Ranked old.next) worth) path
      → IsSoFar (search_tree meaning problem) join none of begun notes old → IsAfterRoot path notes → IsEntered (search_tree meaning problem) join none of begun notes path node true now
  enters-visit tally of_fits begun notes old now path node worth held whole found few v log_is next_is tasks_are sum_is best_is w after =
      let t = search_tree meaning problem in
      let r = word-read begun notes old v.word w whole v.is_read in
      let entry : visited path worth held ≡ visited path (meaning.worth problem node) (v.word / 2 ^ 20) = ap₂ (λ (a b : ℕ). visited path a b) v.worth_is v.held_is in
      let step : IsVisitStep t tally of of_fits path node v.word old now = record {
        found = found;
        few = few;
        log_is = log_is ∙ ap (λ (n : Note). log_after old.log (n ∷ [])) entry;
        offered_is = ap (λ (s : SeatView). s.offered) v.seat_is ∙ ap (λ (a : ℕ). old.seat.offered ++ ranked_key old.next a ∷ []) v.worth_is;
        next_is = next_is;
        tasks_are = tasks_are;
        sum_is = sum_is;
        best_is = best_is ∙ ap (λ (a : ℕ). improved (incumbent_of old.hand) (answer_key (Ranked old.next) a) path) v.worth_is;
      } in
      record {
        note = visited path (meaning.worth problem node) (visited_worth notes);
        so_far = subst (λ (h : ℕ). IsSoFar t join none of begun (notes ++ visited path (meaning.worth problem node) h ∷ []) now) r.held_is (so_far-visit t tally of of_fits begun notes old now path node v.word w step);
        note_is = refl;
        entered = λ levels. entered-visit t levels path node (visited_worth notes) (due-held begun notes old path node v.word w after r v.due);
      }

  -- a cut is an entry of the tree
  pub enters-cut : (begun : LogView) (notes : List Note) (old now : FrontierState Sum) (path : List ℕ) (node : M) (bound held : ℕ)
      → old.seat.share ≡ old.seat.best.seats → IsCut meaning problem (Ranked old.next) path node bound held old.seat now.seat
      → now.log ≡ log_after old.log (cut path bound held ∷ []) → now.next ≡ old.next → now.tasks ≡ old.tasks → now.hand ≡ old.hand
      → IsSoFar (search_tree meaning problem) join none of begun notes old → IsAfterRoot path notes → IsEntered (search_tree meaning problem) join none of begun notes path node false now
  enters-cut begun notes old now path node bound held whole c log_is next_is tasks_are hand_is w after =
      let t = search_tree meaning problem in
      let r = word-read begun notes old c.word w whole c.is_read in
      let few = w.few in
      let j : RankedJudgement = record { path = path; value = meaning.bound problem node; item = old.next; word = c.word } in
      let entry : cut path bound held ≡ cut path (meaning.bound problem node) (c.word / 2 ^ 20) = ap₂ (λ (a b : ℕ). cut path a b) c.bound_is c.held_is in
      let entry_held : cut path (meaning.bound problem node) (c.word / 2 ^ 20) ≡ cut path (meaning.bound problem node) (visited_worth notes) = ap (cut path (meaning.bound problem node)) r.held_is in
      let known = earlier-visit begun notes old path c.word w c.inner after r in
      let step : IsOtherStep t join none of (cut path (meaning.bound problem node) (c.word / 2 ^ 20)) (j ∷ []) old now = record {
        no_visit = refl;
        cuts_are = refl;
        entries_are = ((refl, refl), tt);
        permitted = (c.permitted, tt);
        offered = λ vs is below. (by vs below (read-word vs old.seat c.word is whole c.is_read), tt);
        next_is = next_is ∙ same old.next;
        few = omega (arith, next_is, few);
        tasks_are = tasks_are ∙ sym (append-nil old.tasks);
        tasks_there = tt;
        log_is = log_is ∙ ap (λ (n : Note). log_after old.log (n ∷ [])) entry;
        offered_is = ap (λ (s : SeatView). s.offered) c.seat_is;
        hand_is = hand_is;
      } in
      record {
        note = cut path (meaning.bound problem node) (visited_worth notes);
        so_far = subst (λ (n : Note). IsSoFar t join none of begun (notes ++ n ∷ []) now) entry_held (so_far-other t join none of begun notes old now (cut path (meaning.bound problem node) (c.word / 2 ^ 20)) (j ∷ []) w step);
        note_is = refl;
        entered = λ levels. entered-cut t levels path node (visited_worth notes) c.inner (cut-held begun notes old path node c.word w c.inner after r c.permitted);
      }
    where
      same : (n : ℕ) → n ≡ n + 0
      same n = omega arith

      by : (vs : List RankedJudgement) → AllByRecursion (λ (v : RankedJudgement). v.item < old.next) vs → IsWord vs c.word
          → (c.word ≡ 0) ⊎ IsOfferedBefore vs record { path = path; value = meaning.bound problem node; item = old.next; word = c.word }
      by vs below is = offered-by vs below is.cause
        where
          offered-by : (us : List RankedJudgement) → AllByRecursion (λ (v : RankedJudgement). v.item < old.next) us → (c.word ≡ 0) ⊎ ((v : RankedJudgement) × Contains us v × (c.word ≡ key_of_judgement v))
              → (c.word ≡ 0) ⊎ IsOfferedBefore us record { path = path; value = meaning.bound problem node; item = old.next; word = c.word }
          offered-by us below (inl none) = inl none
          offered-by us below (inr (v, among, is)) =
              let less = of-contained (λ (u : RankedJudgement). u.item < old.next) us v below among in
              inr record { visit = v; among = among; word_is = is; earlier = λ equal. absurd (omega (arith, equal, less)) }

  -- the entry of a visit was refused
  pub enters-visit-refused : (begun : LogView) (notes : List Note) (old : FrontierState Sum) (new_seat : SeatView) (now : LogView) (levels : ℕ) (path : List ℕ) (node : M) (worth held : ℕ) (fault : SearchFault)
      → old.seat.share ≡ old.seat.best.seats → IsVisit meaning problem (Ranked old.next) path node worth held old.seat new_seat → now ≡ old.log → RefusesNote old.log path fault
      → IsSoFar (search_tree meaning problem) join none of begun notes old → IsAfterRoot path notes → StopsIn (entered_notes (search_tree meaning problem) levels path node (visited_worth notes)) old.next old.log now fault
  enters-visit-refused begun notes old new_seat now levels path node worth held fault whole v same refused w after =
      let r = word-read begun notes old v.word w whole v.is_read in
      refused-stops _ [] _ (visited path (meaning.worth problem node) (visited_worth notes)) old.next old.log old.log now fault
      (visit-first levels path node (visited_worth notes) (due-held begun notes old path node v.word w after r v.due)) refl same refused

  -- the entry of a cut was refused
  pub enters-cut-refused : (begun : LogView) (notes : List Note) (old : FrontierState Sum) (new_seat : SeatView) (now : LogView) (levels : ℕ) (path : List ℕ) (node : M) (bound held : ℕ) (fault : SearchFault)
      → old.seat.share ≡ old.seat.best.seats → IsCut meaning problem (Ranked old.next) path node bound held old.seat new_seat → now ≡ old.log → RefusesNote old.log path fault
      → IsSoFar (search_tree meaning problem) join none of begun notes old → IsAfterRoot path notes → StopsIn (entered_notes (search_tree meaning problem) levels path node (visited_worth notes)) old.next old.log now fault
  enters-cut-refused begun notes old new_seat now levels path node bound held fault whole c same refused w after =
      let r = word-read begun notes old c.word w whole c.is_read in
      refused-stops _ [] [] (cut path (meaning.bound problem node) (visited_worth notes)) old.next old.log old.log now fault
      (entered-cut (search_tree meaning problem) levels path node (visited_worth notes) c.inner (cut-held begun notes old path node c.word w c.inner after r c.permitted)) refl same refused

  -- there are too many items
  pub enters-past : (begun : LogView) (notes : List Note) (old : FrontierState Sum) (now : LogView) (levels : ℕ) (path : List ℕ) (node : M) (fault : SearchFault)
      → old.seat.share ≡ old.seat.best.seats → IsPastFault (search_tree meaning problem) old.next node old.seat fault
      → IsSoFar (search_tree meaning problem) join none of begun notes old → StopsIn (entered_notes (search_tree meaning problem) levels path node (visited_worth notes)) old.next old.log now fault
  enters-past begun notes old now levels path node Memory whole p w = absurd p
  enters-past begun notes old now levels path node (AuditFull worker entries numbers) whole p w = absurd p
  enters-past begun notes old now levels path node (TooManyTasks number) whole p w =
      let r = word-read begun notes old p.1.word w whole p.1.is_read in
      let above = p.1.above in
      let held = r.held_is in
      let next_is = p.1.next_is in
      let items = ap (λ (ns : List Note). length (noted_items ns)) (visit-first levels path node (visited_worth notes) (inr (omega (arith, above, held)))) in
      (p.0, omega (arith, next_is, items))
