-- The steps of the walk above the depth: a node is visited or cut, a child becomes a task, and a visit ends.
use Rattle.std.proofs.Common.{◌≡◌, ℕ, zero, suc, ◌+◌, ◌/◌, ◌^◌, ◌<◌, ◌≤◌, ◌⊎◌, List, [], ◌∷◌, ◌++◌, map, length, max}
use Rattle.std.proofs.Common.{◌==◌, if◌then◌else◌, Some, None, refl, ap, ap₂, sym, subst, ◌∙◌, inl, inr, append_assoc, append-nil, arith, length-append, All}
use Rattle.std.specs.Prelude.{IsTrue}
use Rattle.std.specs.List.{AllByRecursion, Contains, flat_map}
use Rattle.std.proofs.lemmas.List.{map-append}
use Rattle.std.proofs.lemmas.List.Concat.{flat_map-append}
use Rattle.std.proofs.lemmas.List.Elements.{All-contains, All-tail, All-from_recursion, Contains-append_left}
use Rattle.yew_best.specs.Seats.{SeatView}
use Rattle.yew_laws.specs.Fold.{fold_of, of_member, IsTally}
use Rattle.yew_laws.specs.Incumbent.{Incumbent, improved}
use Rattle.yew_laws.specs.Order.{comes_before}
use Rattle.yew_laws.specs.SearchTree.{SearchTree, at_path}
use Rattle.yew_laws.specs.Tree.{Member}
use Rattle.yew_laws.proofs.Folds.{fold-append}
use Rattle.yew_laws.proofs.Members.{AllByRecursion-append, AllByRecursion-weaker, Contains-head, Contains-tail}
use Rattle.yew_log.specs.Items.{ranked_key}
use Rattle.yew_log.specs.Notes.{Note, visited, Judgement, maximum, values, visits, cuts, visit_in, cut_in}
use Rattle.yew_walk.specs.Hands.{incumbent_of}
use Rattle.yew_walk.specs.LogViews.{LogView, log_after}
use Rattle.yew_walk.specs.Seats.{IsRead}
use Rattle.yew_walk.specs.declared.hand.Hand.{Hand}
use Rattle.yew_walk.proofs.Sending.{log_after-append}
use Rattle.yew_ranked.specs.FrontierStates.{FrontierState, IsSoFar, IsPlaced, IsTaskThere, noted_item, noted_items, visit_note, cut_note}
use Rattle.yew_ranked.specs.RankedSearch.{RankedJudgement, key_of_judgement, plain_judgement, answer_key_of, ItemsInOrder, IsOfferedBefore}
use Rattle.yew_ranked.specs.Tasks.{Numbered, tasks_from}
use Rattle.yew_ranked.proofs.GatheredAnswers.{answer-append}
use Rattle.yew_ranked.proofs.NotedItems.{tasks_from-append}

-- one entry more
flat_map-last : {X A : Type 0} (f : X → List A) (xs : List X) (x : X) → flat_map f (xs ++ x ∷ []) ≡ flat_map f xs ++ f x
flat_map-last f xs x = flat_map-append f xs (x ∷ []) ∙ ap (λ ys. flat_map f xs ++ ys) (append-nil (f x))

placed-more : (notes more : List Note) (f : RankedJudgement → Note) (j : RankedJudgement) → IsPlaced notes f j → IsPlaced (notes ++ more) f j
placed-more notes more f j p = record {
  before = p.before;
  after = p.after ++ more;
  stands = ap (λ ns. ns ++ more) p.stands ∙ append_assoc p.before (f j ∷ p.after) more;
  item_is = p.item_is;
}

all-placed : (notes more : List Note) (f : RankedJudgement → Note) (js : List RankedJudgement) → AllByRecursion (IsPlaced notes f) js → AllByRecursion (IsPlaced (notes ++ more) f) js
all-placed notes more f js a = AllByRecursion-weaker (IsPlaced notes f) (IsPlaced (notes ++ more) f) (placed-more notes more f) js a

placed-last : (notes : List Note) (f : RankedJudgement → Note) (j : RankedJudgement) → j.item ≡ length (noted_items notes) → IsPlaced (notes ++ f j ∷ []) f j
placed-last notes f j e = record { before = notes; after = []; stands = refl; item_is = e }

-- what was offered before is so still
offered-more : (vs more : List RankedJudgement) (c : RankedJudgement) → (c.word ≡ 0) ⊎ IsOfferedBefore vs c → (c.word ≡ 0) ⊎ IsOfferedBefore (vs ++ more) c
offered-more vs more c (inl none) = inl none
offered-more vs more c (inr o) = inr record { visit = o.visit; among = Contains-append_left vs more o.visit o.among; word_is = o.word_is; earlier = o.earlier }

-- a visit of a greater number comes last
in_order-last : (vs : List RankedJudgement) (v : RankedJudgement) → ItemsInOrder vs → AllByRecursion (λ (u : RankedJudgement). u.item < v.item) vs → ItemsInOrder (vs ++ v ∷ [])
in_order-last [] v o below = (tt, tt)
in_order-last (u ∷ us) v o below = (
  AllByRecursion-append (λ (w : RankedJudgement). u.item ≡ w.item → IsTrue (comes_before u.path w.path)) us (v ∷ []) o.0 ((λ same. absurd (let less = below.0 in omega (arith, same, less))), tt),
  in_order-last us v o.1 below.1,
)

-- a word that was read is the key of a visit, and the worth that it holds is the greatest that was visited
key-of_some : (vs : List RankedJudgement) (word : ℕ) → Contains (map key_of_judgement vs) word → (v : RankedJudgement) × Contains vs v × (word ≡ key_of_judgement v)
key-of_some [] word (k, less, at) = absurd (omega arith)
key-of_some (v ∷ vs) word (zero, less, at) = (v, Contains-head v vs, sym at)
key-of_some (v ∷ vs) word (suc k, less, at) =
    let rest = key-of_some vs word (k, omega arith, at) in
    (rest.0, Contains-tail v vs rest.0 rest.1, rest.2)

-- what a word says of the visits: it is 0 or the key of one, and no key is above it
pub record IsWord (vs : List RankedJudgement) (word : ℕ) : Type 0 where
  pub cause : (word ≡ 0) ⊎ ((v : RankedJudgement) × Contains vs v × (word ≡ key_of_judgement v))
  pub above : AllByRecursion (λ (v : RankedJudgement). key_of_judgement v ≤ word) vs

-- with the whole share a word that is read is such a one
pub read-word : (vs : List RankedJudgement) (seat : SeatView) (word : ℕ) → seat.offered ≡ map key_of_judgement vs → seat.share ≡ seat.best.seats → IsRead seat word → IsWord vs word
read-word vs seat word is whole r = record {
  cause = by (r.whole whole);
  above = each vs (subst (All (λ x. x ≤ word)) is r.at_least_offered);
}
  where
    by : (word ≡ 0) ⊎ Contains seat.offered word → (word ≡ 0) ⊎ ((v : RankedJudgement) × Contains vs v × (word ≡ key_of_judgement v))
    by (inl none) = inl none
    by (inr some) = inr (key-of_some vs word (subst (λ (xs : List ℕ). Contains xs word) is some))

    each : (us : List RankedJudgement) → All (λ x. x ≤ word) (map key_of_judgement us) → AllByRecursion (λ (v : RankedJudgement). key_of_judgement v ≤ word) us
    each [] a = tt
    each (u ∷ us) a = (
      All-contains (λ x. x ≤ word) (map key_of_judgement (u ∷ us)) (key_of_judgement u) a (Contains-head (key_of_judgement u) (map key_of_judgement us)),
      each us (All-tail (λ x. x ≤ word) (key_of_judgement u) (map key_of_judgement us) a),
    )

greatest-at_most : (vs : List RankedJudgement) (b : ℕ) → AllByRecursion (λ (v : RankedJudgement). v.value ≤ b) vs → maximum (values (map plain_judgement vs)) ≤ b
greatest-at_most [] b a = omega arith
greatest-at_most (v ∷ vs) b a = let rest = greatest-at_most vs b a.1 in let first = a.0 in omega (arith, rest, first)

greatest-each : (vs : List RankedJudgement) → AllByRecursion (λ (v : RankedJudgement). v.value ≤ maximum (values (map plain_judgement vs))) vs
greatest-each [] = tt
greatest-each (v ∷ vs) = (
  omega arith,
  AllByRecursion-weaker (λ (u : RankedJudgement). u.value ≤ maximum (values (map plain_judgement vs))) (λ (u : RankedJudgement). u.value ≤ max v.value (maximum (values
      (map plain_judgement vs)))) (λ u h. omega (arith, h)) vs (greatest-each vs),
)

pub of-contained : {X : Type 0} (P : X → Type 0) (xs : List X) (x : X) → AllByRecursion P xs → Contains xs x → P x
of-contained P xs x a c = All-contains P xs x (All-from_recursion P xs a) c

key-holds : (rank worth word : ℕ) → ranked_key rank worth ≤ word → worth ≤ word / 2 ^ 20
key-holds rank worth word le = omega arith

key-held : (rank worth word : ℕ) → word ≡ ranked_key rank worth → word / 2 ^ 20 ≤ worth
key-held rank worth word is = omega arith

held-antisym : (a b : ℕ) → a ≤ b → b ≤ a → a ≡ b
held-antisym a b x y = omega arith

-- the worth that the word holds is the greatest one that was visited
pub held-greatest : (vs : List RankedJudgement) (word : ℕ) → IsWord vs word → word / 2 ^ 20 ≡ maximum (values (map plain_judgement vs))
held-greatest vs word w =
    held-antisym (word / 2 ^ 20) (maximum (values (map plain_judgement vs))) (by w.cause)
    (greatest-at_most vs (word / 2 ^ 20) (AllByRecursion-weaker (λ (v : RankedJudgement). key_of_judgement v ≤ word) (λ (v : RankedJudgement). v.value ≤ word / 2 ^ 20) (λ v le. key-holds v.item v.value word le) vs w.above))
  where
    none : (m : ℕ) → word ≡ 0 → word / 2 ^ 20 ≤ m
    none m e = omega arith

    by : (word ≡ 0) ⊎ ((v : RankedJudgement) × Contains vs v × (word ≡ key_of_judgement v)) → word / 2 ^ 20 ≤ maximum (values (map plain_judgement vs))
    by (inl e) = none (maximum (values (map plain_judgement vs))) e
    by (inr (v, among, is)) =
        let own = of-contained (λ (u : RankedJudgement). u.value ≤ maximum (values (map plain_judgement vs))) vs v (greatest-each vs) among in
        let held = key-held v.item v.value word is in
        omega (arith, own, held)

-- where there was a visit, the word is the key of one
pub word-of_visit : (vs : List RankedJudgement) (word : ℕ) → 0 < length vs → IsWord vs word → (v : RankedJudgement) × Contains vs v × (word ≡ key_of_judgement v)
word-of_visit [] word some w = absurd (omega arith)
word-of_visit (v ∷ vs) word some w = by w.cause
  where
    zero-key : (k : ℕ) → k ≤ word → word ≡ 0 → word ≡ k
    zero-key k le e = omega arith

    by : (word ≡ 0) ⊎ ((u : RankedJudgement) × Contains (v ∷ vs) u × (word ≡ key_of_judgement u)) → (u : RankedJudgement) × Contains (v ∷ vs) u × (word ≡ key_of_judgement u)
    by (inl e) = (v, Contains-head v vs, zero-key (key_of_judgement v) w.above.0 e)
    by (inr is) = is

-- a later item is cut exactly where its bound is at most the worth that the key of an earlier visit holds
pub key-permits : (next rank worth bound word : ℕ) → rank < next → next ≤ 2 ^ 20 → word ≡ ranked_key rank worth → ranked_key next bound ≤ word → bound ≤ word / 2 ^ 20
key-permits next rank worth bound word less few is le = omega arith

pub key-refuses : (next rank worth bound word : ℕ) → rank < next → next ≤ 2 ^ 20 → word ≡ ranked_key rank worth → word < ranked_key next bound → word / 2 ^ 20 < bound
key-refuses next rank worth bound word less few is above = omega arith

module _ {N S : Type 0} (t : SearchTree N) {fits : S → Type 0} {join : S → S → S} {none : S} (tally : IsTally fits join none) (of : N → ℕ → S) (of_fits : (n : N) (depth : ℕ) → fits (of n depth)) where
  sum-last : (members : List (Member N)) (m : Member N) → join (fold_of join none (of_member of) members) (of_member of m) ≡ fold_of join none (of_member of) (members ++ m ∷ [])
  sum-last members m =
      let own = of_member of m in
      ap (join (fold_of join none (of_member of) members)) (sym (tally.unit own (of_fits m.node (length m.path))) ∙ tally.comm none own tally.none_fits (of_fits m.node (length m.path)))
      ∙ sym (fold-append tally (of_member of) (λ (x : Member N). of_fits x.node (length x.path)) members (m ∷ []))

  -- what a visit makes of the walk
  pub record IsVisitStep (path : List ℕ) (node : N) (word : ℕ) (old now : FrontierState S) : Type 0 where
    pub found : at_path t path ≡ Some node
    pub few : old.next < 2 ^ 20
    pub log_is : now.log ≡ log_after old.log (visited path (t.worth node) (word / 2 ^ 20) ∷ [])
    pub offered_is : now.seat.offered ≡ old.seat.offered ++ ranked_key old.next (t.worth node) ∷ []
    pub next_is : now.next ≡ suc old.next
    pub tasks_are : now.tasks ≡ old.tasks
    pub sum_is : now.hand.sum ≡ join old.hand.sum (of node (length path))
    pub best_is : incumbent_of now.hand ≡ improved (incumbent_of old.hand) (if t.worth node == 0 then 0 else ranked_key old.next (t.worth node)) path

  pub so_far-visit : (begun : LogView) (notes : List Note) (old now : FrontierState S) (path : List ℕ) (node : N) (word : ℕ)
      → IsSoFar t join none of begun notes old → IsVisitStep path node word old now → IsSoFar t join none of begun (notes ++ visited path (t.worth node) (word / 2 ^ 20) ∷ []) now
  so_far-visit begun notes old now path node word w step =
      let note = visited path (t.worth node) (word / 2 ^ 20) in
      let v : RankedJudgement = record { path = path; value = t.worth node; item = old.next; word = word } in
      let m : Member N = record { path = path; node = node } in
      let next_is = step.next_is in
      let few = step.few in
      let items = flat_map-last noted_item notes note in
      record {
        visited = w.visited ++ v ∷ [];
        cut = w.cut;
        members = w.members ++ m ∷ [];
        visits_are = map-append plain_judgement w.visited (v ∷ []) ∙ (ap (λ (js : List Judgement). js ++ plain_judgement v ∷ []) w.visits_are ∙ sym (flat_map-last visit_in notes note));
        cuts_are = w.cuts_are ∙ sym (flat_map-last cut_in notes note ∙ append-nil (cuts notes));
        visits_placed = AllByRecursion-append (IsPlaced (notes ++ note ∷ []) visit_note) w.visited (v ∷ []) (all-placed notes (note ∷ []) visit_note w.visited w.visits_placed) (placed-last notes visit_note v w.next_is, tt);
        cuts_placed = all-placed notes (note ∷ []) cut_note w.cut w.cuts_placed;
        in_order = in_order-last w.visited v w.in_order w.numbers_below;
        numbers_below = AllByRecursion-append (λ (u : RankedJudgement). u.item < now.next) w.visited (v ∷ [])
            (AllByRecursion-weaker (λ (u : RankedJudgement). u.item < old.next) (λ (u : RankedJudgement). u.item < now.next) (λ u less. omega (arith, less, next_is)) w.visited w.numbers_below) (omega (arith, next_is), tt);
        permitted = w.permitted;
        offered = AllByRecursion-weaker (λ (c : RankedJudgement). (c.word ≡ 0) ⊎ IsOfferedBefore w.visited c) (λ (c : RankedJudgement). (c.word ≡ 0) ⊎ IsOfferedBefore (w.visited ++ v ∷ []) c) (offered-more w.visited
            (v ∷ [])) w.cut w.offered;
        next_is = next_is ∙ (ap suc w.next_is ∙ (one (length (noted_items notes)) ∙ sym (ap length items ∙ length-append (noted_items notes) (noted_item note))));
        few = omega (arith, next_is, few);
        tasks_are = step.tasks_are ∙ (w.tasks_are ∙ sym (ap (tasks_from 0) items ∙ (tasks_from-append 0 (noted_items notes) (noted_item note) ∙ append-nil (tasks_from 0 (noted_items notes)))));
        tasks_there = subst (AllByRecursion (IsTaskThere t)) (sym step.tasks_are) w.tasks_there;
        log_is = step.log_is ∙ (ap (λ (log : LogView). log_after log (note ∷ [])) w.log_is ∙ sym (log_after-append begun notes (note ∷ [])));
        offered_is = step.offered_is ∙ (ap (λ (xs : List ℕ). xs ++ key_of_judgement v ∷ []) w.offered_is ∙ sym (map-append key_of_judgement w.visited (v ∷ [])));
        are_visited = record {
          paths_are = map-append (λ (x : Member N). x.path) w.members (m ∷ []) ∙ (ap (λ (ps : List (List ℕ)). ps ++ path ∷ []) w.are_visited.paths_are
              ∙ sym (ap (map (λ (j : Judgement). j.path)) (flat_map-last visit_in notes note) ∙ map-append (λ (j : Judgement). j.path) (visits notes) (visit_in note)));
          there = AllByRecursion-append (λ (x : Member N). at_path t x.path ≡ Some x.node) w.members (m ∷ []) w.are_visited.there (step.found, tt);
        };
        sum_is = step.sum_is ∙ (ap (λ (s : S). join s (of node (length path))) w.sum_is ∙ sum-last w.members m);
        answer_is = step.best_is ∙ (ap (λ (i : Incumbent). improved i (answer_key_of v) path) w.answer_is ∙ sym (answer-append (record { worth = 0; path = None }) w.visited (v ∷ [])));
      }
    where
      one : (n : ℕ) → suc n ≡ n + 1
      one n = omega arith

module _ {N S : Type 0} (t : SearchTree N) (join : S → S → S) (none : S) (of : N → ℕ → S) where
  -- what an entry that is no visit makes of the walk
  pub record IsOtherStep (note : Note) (cs : List RankedJudgement) (old now : FrontierState S) : Type 0 where
    pub no_visit : visit_in note ≡ []
    pub cuts_are : map plain_judgement cs ≡ cut_in note
    pub entries_are : AllByRecursion (λ (c : RankedJudgement). (cut_note c ≡ note) × (c.item ≡ old.next)) cs
    pub permitted : AllByRecursion (λ (c : RankedJudgement). key_of_judgement c ≤ c.word) cs
    pub offered : (vs : List RankedJudgement) → old.seat.offered ≡ map key_of_judgement vs → AllByRecursion (λ (v : RankedJudgement). v.item < old.next) vs → AllByRecursion (λ (c : RankedJudgement).
        (c.word ≡ 0) ⊎ IsOfferedBefore vs c) cs
    pub next_is : now.next ≡ old.next + length (noted_item note)
    pub few : now.next ≤ 2 ^ 20
    pub tasks_are : now.tasks ≡ old.tasks ++ tasks_from old.next (noted_item note)
    pub tasks_there : AllByRecursion (IsTaskThere t) (tasks_from old.next (noted_item note))
    pub log_is : now.log ≡ log_after old.log (note ∷ [])
    pub offered_is : now.seat.offered ≡ old.seat.offered
    pub hand_is : now.hand ≡ old.hand

  pub so_far-other : (begun : LogView) (notes : List Note) (old now : FrontierState S) (note : Note) (cs : List RankedJudgement)
      → IsSoFar t join none of begun notes old → IsOtherStep note cs old now → IsSoFar t join none of begun (notes ++ note ∷ []) now
  so_far-other begun notes old now note cs w step =
      let next_is = step.next_is in
      let items = flat_map-last noted_item notes note in
      let no_visits : visits (notes ++ note ∷ []) ≡ visits notes = flat_map-last visit_in notes note ∙ (ap (λ (js : List Judgement). visits notes ++ js) step.no_visit ∙ append-nil (visits notes)) in
      record {
        visited = w.visited;
        cut = w.cut ++ cs;
        members = w.members;
        visits_are = w.visits_are ∙ sym no_visits;
        cuts_are = map-append plain_judgement w.cut cs ∙ (ap₂ (λ (is js : List Judgement). is ++ js) w.cuts_are step.cuts_are ∙ sym (flat_map-last cut_in notes note));
        visits_placed = all-placed notes (note ∷ []) visit_note w.visited w.visits_placed;
        cuts_placed = AllByRecursion-append (IsPlaced (notes ++ note ∷ []) cut_note) w.cut cs (all-placed notes (note ∷ []) cut_note w.cut w.cuts_placed)
            (AllByRecursion-weaker (λ (c : RankedJudgement). (cut_note c ≡ note) × (c.item ≡ old.next)) (IsPlaced (notes ++ note ∷ []) cut_note) here cs step.entries_are);
        in_order = w.in_order;
        numbers_below = AllByRecursion-weaker (λ (u : RankedJudgement). u.item < old.next) (λ (u : RankedJudgement). u.item < now.next) (λ u less. omega (arith, less, next_is)) w.visited w.numbers_below;
        permitted = AllByRecursion-append (λ (c : RankedJudgement). key_of_judgement c ≤ c.word) w.cut cs w.permitted step.permitted;
        offered = AllByRecursion-append (λ (c : RankedJudgement). (c.word ≡ 0) ⊎ IsOfferedBefore w.visited c) w.cut cs w.offered (step.offered w.visited w.offered_is w.numbers_below);
        next_is = next_is ∙ (ap (λ (n : ℕ). n + length (noted_item note)) w.next_is ∙ sym (ap length items ∙ length-append (noted_items notes) (noted_item note)));
        few = step.few;
        tasks_are = step.tasks_are ∙ (ap₂ (λ (xs : List Numbered) (n : ℕ). xs ++ tasks_from n (noted_item note)) w.tasks_are (w.next_is ∙ from-zero (length (noted_items notes))) ∙ sym (ap
            (tasks_from 0) items ∙ tasks_from-append 0 (noted_items notes) (noted_item note)));
        tasks_there = subst (AllByRecursion (IsTaskThere t)) (sym step.tasks_are) (AllByRecursion-append (IsTaskThere t) old.tasks (tasks_from old.next (noted_item note)) w.tasks_there step.tasks_there);
        log_is = step.log_is ∙ (ap (λ (log : LogView). log_after log (note ∷ [])) w.log_is ∙ sym (log_after-append begun notes (note ∷ [])));
        offered_is = step.offered_is ∙ w.offered_is;
        are_visited = record {
          paths_are = w.are_visited.paths_are ∙ sym (ap (map (λ (j : Judgement). j.path)) no_visits);
          there = w.are_visited.there;
        };
        sum_is = ap (λ (h : Hand S). h.sum) step.hand_is ∙ w.sum_is;
        answer_is = ap (λ (h : Hand S). incumbent_of h) step.hand_is ∙ w.answer_is;
      }
    where
      from-zero : (n : ℕ) → n ≡ 0 + n
      from-zero n = omega arith

      here : (c : RankedJudgement) → (cut_note c ≡ note) × (c.item ≡ old.next) → IsPlaced (notes ++ note ∷ []) cut_note c
      here c (is, at) = record { before = notes; after = []; stands = ap (λ (n : Note). notes ++ n ∷ []) (sym is); item_is = at ∙ w.next_is }
