-- The visits and the cuts of a walk by ranked keys, each with the word that was read before it.
use Rattle.std.proofs.Common.{◌≡◌, ℕ, zero, suc, Bool, true, false, not, if◌then◌else◌, ◌||◌, ◌==◌, ◌≤◌, ◌⊎◌, inl, inr, ⊎_elim, List, [], ◌∷◌, ◌++◌, map, refl, ap, ap₂, sym, subst, ◌∙◌, append_assoc, append-nil, arith}
use Rattle.std.specs.Prelude.{IsTrue}
use Rattle.std.specs.List.{AllByRecursion, Contains}
use Rattle.std.proofs.lemmas.List.{map-append}
use Rattle.std.proofs.lemmas.List.Elements.{All-contains, All-from_recursion, Contains-append_left, Contains-append_right}
use Rattle.yew_best.specs.Seats.{SeatView, has_read}
use Rattle.yew_best.specs.Views.{unoffered}
use Rattle.yew_laws.specs.Sets.{contains}
use Rattle.yew_laws.specs.Order.{comes_before}
use Rattle.yew_laws.specs.SearchTree.{SearchTree}
use Rattle.yew_laws.proofs.PathTests.{nat-is}
use Rattle.yew_laws.proofs.Members.{AllByRecursion-append, AllByRecursion-weaker, Contains-head, Contains-tail}
use Rattle.yew_log.specs.Notes.{Note, taken, visited, cut, spawned, handed, ended, visits, cuts, paths, judgements}
use Rattle.yew_log.specs.Places.{AtEach}
use Rattle.yew_log.specs.Segment.{Rise}
use Rattle.yew_walk.specs.declared.keying.Keying.TheVariants.{Ranked}
use Rattle.yew_walk.specs.Keys.{key_of}
use Rattle.yew_walk.specs.Seats.{has_offered, SeatGoes}
use Rattle.yew_ranked.specs.RankedSearch.{RankedJudgement, key_of_judgement, plain_judgement, ItemsInOrder, IsOfferedBefore}

-- a member of a list has what all members have
pub all-at : {X : Type 0} (P : X → Type 0) (xs : List X) (x : X) → AllByRecursion P xs → Contains xs x → P x
all-at P xs x a c = All-contains P xs x (All-from_recursion P xs a) c

-- a visit or a cut of an item, with its word
abbrev pub ranked_judgement : List ℕ → ℕ → ℕ → ℕ → RankedJudgement
ranked_judgement path value item word = record { path = path; value = value; item = item; word = word }

-- one more visit that comes after all visits of its item
pub in_order-push : (vs : List RankedJudgement) (v : RankedJudgement) → ItemsInOrder vs → AllByRecursion (λ (u : RankedJudgement). u.item ≡ v.item → IsTrue (comes_before u.path v.path)) vs → ItemsInOrder (vs ++ v ∷ [])
in_order-push [] v order later = (tt, tt)
in_order-push (u ∷ us) v order later =
    (AllByRecursion-append (λ (w : RankedJudgement). u.item ≡ w.item → IsTrue (comes_before u.path w.path)) us (v ∷ []) order.0 (later.0, tt), in_order-push us v order.1 later.1)

-- two lists whose items are different
pub in_order-append : (vs ws : List RankedJudgement) → ItemsInOrder vs → ItemsInOrder ws → AllByRecursion (λ (v : RankedJudgement). AllByRecursion (λ (w : RankedJudgement). v.item ≡ w.item → ⊥) ws) vs → ItemsInOrder (vs ++ ws)
in_order-append [] ws a b apart = b
in_order-append (v ∷ vs) ws a b apart = (
  AllByRecursion-append (λ (w : RankedJudgement). v.item ≡ w.item → IsTrue (comes_before v.path w.path)) vs ws a.0
      (AllByRecursion-weaker (λ (w : RankedJudgement). v.item ≡ w.item → ⊥) (λ (w : RankedJudgement). v.item ≡ w.item → IsTrue (comes_before v.path w.path)) (λ w n e. absurd (n e)) ws apart.0),
  in_order-append vs ws a.1 b apart.1,
)

-- a member of joined lists is one of the one or of the other
pub contains-either : {X : Type 0} (xs ys : List X) (x : X) → Contains (xs ++ ys) x → Contains xs x ⊎ Contains ys x
contains-either [] ys x c = inr c
contains-either (z ∷ xs) ys x (zero, less, e) = inl (0, omega arith, e)
contains-either (z ∷ xs) ys x (suc k, less, e) = ⊎_elim (λ (c : Contains xs x). inl (Contains-tail z xs x c)) (λ (c : Contains ys x). inr c) (contains-either xs ys x (k, omega arith, e))

-- a member of mapped ones is of one of them
pub contains-of : {X Y : Type 0} (f : X → Y) (xs : List X) (y : Y) → Contains (map f xs) y → (x : X) × Contains xs x × (f x ≡ y)
contains-of f [] y c = absurd (omega (arith, c.1))
contains-of f (x ∷ xs) y (zero, less, e) = (x, Contains-head x xs, e)
contains-of f (x ∷ xs) y (suc k, less, e) = let more = contains-of f xs y (k, omega arith, e) in (more.0, Contains-tail x xs more.0 more.1, more.2)

-- a value that a test finds among the offered ones is one of them
pub among-offered : (xs : List ℕ) (word : ℕ) → contains xs word ≡ true → Contains xs word
among-offered [] word e = absurd (cc)
among-offered (y ∷ ys) word e = go (y == word) refl (among-offered ys word) e
  where
    go : (b : Bool) → (y == word) ≡ b → (contains ys word ≡ true → Contains ys word) → (b || contains ys word) ≡ true → Contains (y ∷ ys) word
    go true h more e = (0, omega arith, nat-is y word h)
    go false h more e = Contains-tail y ys word (more e)

-- where the word of a cut comes from: it was offered before, by one of these visits or else, or it was heard
pub data IsCause (base : List ℕ) (seen : List RankedJudgement) (heard : List ℕ) (c : RankedJudgement) : Type 0 where
  of_base : Contains base c.word → IsCause base seen heard c
  of_visit : IsOfferedBefore seen c → IsCause base seen heard c
  of_heard : Contains heard c.word → IsCause base seen heard c

-- more visits
pub offered-more : (seen more : List RankedJudgement) (c : RankedJudgement) → IsOfferedBefore seen c → IsOfferedBefore (seen ++ more) c
offered-more seen more c o = record { visit = o.visit; among = Contains-append_left seen more o.visit o.among; word_is = o.word_is; earlier = o.earlier }

pub offered-behind : (front seen : List RankedJudgement) (c : RankedJudgement) → IsOfferedBefore seen c → IsOfferedBefore (front ++ seen) c
offered-behind front seen c o = record { visit = o.visit; among = Contains-append_right front seen o.visit o.among; word_is = o.word_is; earlier = o.earlier }

module _ {N : Type 0} (t : SearchTree N) (rank : ℕ) where
  -- the visits, in order
  abbrev pub ranked_visits : (old new : SeatView) (notes : List Note) → SeatGoes t (Ranked rank) old notes new → List RankedJudgement
  ranked_visits old new [] g = []
  ranked_visits old new (visited p w h ∷ ns) g = ranked_judgement p w rank g.0 ∷ ranked_visits (has_offered (has_read old g.0) (key_of (Ranked rank) w)) new ns g.2
  ranked_visits old new (cut p b h ∷ ns) g = ranked_visits (has_read old g.0) new ns g.2
  ranked_visits old new (taken p ∷ ns) g = ranked_visits old new ns g
  ranked_visits old new (spawned p ∷ ns) g = ranked_visits old new ns g
  ranked_visits old new (handed p ∷ ns) g = ranked_visits old new ns g
  ranked_visits old new (ended p ∷ ns) g = ranked_visits old new ns g

  -- the cuts, in order
  abbrev pub ranked_cuts : (old new : SeatView) (notes : List Note) → SeatGoes t (Ranked rank) old notes new → List RankedJudgement
  ranked_cuts old new [] g = []
  ranked_cuts old new (visited p w h ∷ ns) g = ranked_cuts (has_offered (has_read old g.0) (key_of (Ranked rank) w)) new ns g.2
  ranked_cuts old new (cut p b h ∷ ns) g = ranked_judgement p b rank g.0 ∷ ranked_cuts (has_read old g.0) new ns g.2
  ranked_cuts old new (taken p ∷ ns) g = ranked_cuts old new ns g
  ranked_cuts old new (spawned p ∷ ns) g = ranked_cuts old new ns g
  ranked_cuts old new (handed p ∷ ns) g = ranked_cuts old new ns g
  ranked_cuts old new (ended p ∷ ns) g = ranked_cuts old new ns g

  -- as the log has them
  pub visits-plain : (old new : SeatView) (notes : List Note) (g : SeatGoes t (Ranked rank) old notes new) → map plain_judgement (ranked_visits old new notes g) ≡ visits notes
  visits-plain old new [] g = refl
  visits-plain old new (visited p w h ∷ ns) g =
      ap₂ (λ (k : ℕ) js. record { path = p; value = w; held = k } ∷ js) (sym g.1.held_is) (visits-plain (has_offered (has_read old g.0) (key_of (Ranked rank) w)) new ns g.2)
  visits-plain old new (cut p b h ∷ ns) g = visits-plain (has_read old g.0) new ns g.2
  visits-plain old new (taken p ∷ ns) g = visits-plain old new ns g
  visits-plain old new (spawned p ∷ ns) g = visits-plain old new ns g
  visits-plain old new (handed p ∷ ns) g = visits-plain old new ns g
  visits-plain old new (ended p ∷ ns) g = visits-plain old new ns g

  pub cuts-plain : (old new : SeatView) (notes : List Note) (g : SeatGoes t (Ranked rank) old notes new) → map plain_judgement (ranked_cuts old new notes g) ≡ cuts notes
  cuts-plain old new [] g = refl
  cuts-plain old new (visited p w h ∷ ns) g = cuts-plain (has_offered (has_read old g.0) (key_of (Ranked rank) w)) new ns g.2
  cuts-plain old new (cut p b h ∷ ns) g = ap₂ (λ (k : ℕ) js. record { path = p; value = b; held = k } ∷ js) (sym g.1.held_is) (cuts-plain (has_read old g.0) new ns g.2)
  cuts-plain old new (taken p ∷ ns) g = cuts-plain old new ns g
  cuts-plain old new (spawned p ∷ ns) g = cuts-plain old new ns g
  cuts-plain old new (handed p ∷ ns) g = cuts-plain old new ns g
  cuts-plain old new (ended p ∷ ns) g = cuts-plain old new ns g

  -- each is of the walk's item
  pub visits-item : (old new : SeatView) (notes : List Note) (g : SeatGoes t (Ranked rank) old notes new) → AllByRecursion (λ (v : RankedJudgement). v.item ≡ rank) (ranked_visits old new notes g)
  visits-item old new [] g = tt
  visits-item old new (visited p w h ∷ ns) g = (refl, visits-item (has_offered (has_read old g.0) (key_of (Ranked rank) w)) new ns g.2)
  visits-item old new (cut p b h ∷ ns) g = visits-item (has_read old g.0) new ns g.2
  visits-item old new (taken p ∷ ns) g = visits-item old new ns g
  visits-item old new (spawned p ∷ ns) g = visits-item old new ns g
  visits-item old new (handed p ∷ ns) g = visits-item old new ns g
  visits-item old new (ended p ∷ ns) g = visits-item old new ns g

  -- what was read before
  pub record StaysIn (old new : SeatView) : Type 0 where
    pub read : (x : ℕ) → Contains old.read x → Contains new.read x
    pub heard : (x : ℕ) → Contains old.heard x → Contains new.heard x

  pub goes-in : (old new : SeatView) (notes : List Note) → SeatGoes t (Ranked rank) old notes new → StaysIn old new
  goes-in old new [] g = subst (StaysIn old) (sym g) (record { read = λ x c. c; heard = λ x c. c })
  goes-in old new (visited p w h ∷ ns) g = let more = goes-in (has_offered (has_read old g.0) (key_of (Ranked rank) w)) new ns g.2 in record {
    read = λ x c. more.read x (Contains-append_left old.read (g.0 ∷ []) x c);
    heard = λ x c. more.heard x (Contains-append_left old.heard (unoffered old.offered (g.0 ∷ [])) x c);
  }
  goes-in old new (cut p b h ∷ ns) g = let more = goes-in (has_read old g.0) new ns g.2 in record {
    read = λ x c. more.read x (Contains-append_left old.read (g.0 ∷ []) x c);
    heard = λ x c. more.heard x (Contains-append_left old.heard (unoffered old.offered (g.0 ∷ [])) x c);
  }
  goes-in old new (taken p ∷ ns) g = goes-in old new ns g
  goes-in old new (spawned p ∷ ns) g = goes-in old new ns g
  goes-in old new (handed p ∷ ns) g = goes-in old new ns g
  goes-in old new (ended p ∷ ns) g = goes-in old new ns g

  -- the seat has offered the keys of the visits
  pub visits-offered : (old new : SeatView) (notes : List Note) (g : SeatGoes t (Ranked rank) old notes new) → new.offered ≡ old.offered ++ map key_of_judgement (ranked_visits old new notes g)
  visits-offered old new [] g = ap (λ (s : SeatView). s.offered) g ∙ sym (append-nil old.offered)
  visits-offered old new (visited p w h ∷ ns) g =
      let mid = has_offered (has_read old g.0) (key_of (Ranked rank) w) in
      visits-offered mid new ns g.2 ∙ append_assoc old.offered (key_of (Ranked rank) w ∷ []) (map key_of_judgement (ranked_visits mid new ns g.2))
  visits-offered old new (cut p b h ∷ ns) g = visits-offered (has_read old g.0) new ns g.2
  visits-offered old new (taken p ∷ ns) g = visits-offered old new ns g
  visits-offered old new (spawned p ∷ ns) g = visits-offered old new ns g
  visits-offered old new (handed p ∷ ns) g = visits-offered old new ns g
  visits-offered old new (ended p ∷ ns) g = visits-offered old new ns g

  -- the words of all visits and cuts were read
  pub words-read : (old new : SeatView) (notes : List Note) (g : SeatGoes t (Ranked rank) old notes new)
      → AllByRecursion (λ (j : RankedJudgement). Contains new.read j.word) (ranked_visits old new notes g) × AllByRecursion (λ (j : RankedJudgement). Contains new.read j.word) (ranked_cuts old new notes g)
  words-read old new [] g = (tt, tt)
  words-read old new (visited p w h ∷ ns) g =
      let mid = has_offered (has_read old g.0) (key_of (Ranked rank) w) in
      let more = words-read mid new ns g.2 in
      let here = (goes-in mid new ns g.2).read g.0 (Contains-append_right old.read (g.0 ∷ []) g.0 (Contains-head g.0 [])) in ((here, more.0), more.1)
  words-read old new (cut p b h ∷ ns) g =
      let mid = has_read old g.0 in
      let more = words-read mid new ns g.2 in
      let here = (goes-in mid new ns g.2).read g.0 (Contains-append_right old.read (g.0 ∷ []) g.0 (Contains-head g.0 [])) in (more.0, (here, more.1))
  words-read old new (taken p ∷ ns) g = words-read old new ns g
  words-read old new (spawned p ∷ ns) g = words-read old new ns g
  words-read old new (handed p ∷ ns) g = words-read old new ns g
  words-read old new (ended p ∷ ns) g = words-read old new ns g

  -- each cut was permitted by its word
  pub cuts-permitted : (old new : SeatView) (notes : List Note) (g : SeatGoes t (Ranked rank) old notes new) → AllByRecursion (λ (c : RankedJudgement). (c.item ≡ rank) × (key_of_judgement c ≤ c.word)) (ranked_cuts old new notes g)
  cuts-permitted old new [] g = tt
  cuts-permitted old new (visited p w h ∷ ns) g = cuts-permitted (has_offered (has_read old g.0) (key_of (Ranked rank) w)) new ns g.2
  cuts-permitted old new (cut p b h ∷ ns) g = ((refl, g.1.permitted), cuts-permitted (has_read old g.0) new ns g.2)
  cuts-permitted old new (taken p ∷ ns) g = cuts-permitted old new ns g
  cuts-permitted old new (spawned p ∷ ns) g = cuts-permitted old new ns g
  cuts-permitted old new (handed p ∷ ns) g = cuts-permitted old new ns g
  cuts-permitted old new (ended p ∷ ns) g = cuts-permitted old new ns g

  -- the paths of visits that come before those of what follows
  abbrev AreAmong : List (List ℕ) → List RankedJudgement → Type 0
  AreAmong before vs = AllByRecursion (λ (v : RankedJudgement). (v.item ≡ rank) × Contains before v.path) vs

  among-more : (before : List (List ℕ)) (p : List ℕ) (vs : List RankedJudgement) → AreAmong before vs → AreAmong (before ++ p ∷ []) vs
  among-more before p vs a =
      AllByRecursion-weaker (λ (v : RankedJudgement). (v.item ≡ rank) × Contains before v.path) (λ (v : RankedJudgement). (v.item ≡ rank) × Contains (before ++ p ∷ []) v.path)
      (λ v c. (c.0, Contains-append_left before (p ∷ []) v.path c.1)) vs a

  among-push : (before : List (List ℕ)) (v : RankedJudgement) (vs : List RankedJudgement) → v.item ≡ rank → AreAmong before vs → AreAmong (before ++ v.path ∷ []) (vs ++ v ∷ [])
  among-push before v vs e a =
      AllByRecursion-append (λ (u : RankedJudgement). (u.item ≡ rank) × Contains (before ++ v.path ∷ []) u.path) vs (v ∷ []) (among-more before v.path vs a)
      ((e, Contains-append_right before (v.path ∷ []) v.path (Contains-head v.path [])), tt)

  all-before : (before : List (List ℕ)) (p : List ℕ) (vs : List RankedJudgement) → AreAmong before vs → AllByRecursion (λ q. IsTrue (comes_before q p)) before → AllByRecursion (λ (u : RankedJudgement). IsTrue (comes_before u.path p)) vs
  all-before before p vs a r =
      AllByRecursion-weaker (λ (u : RankedJudgement). (u.item ≡ rank) × Contains before u.path) (λ (u : RankedJudgement). IsTrue (comes_before u.path p)) (λ u c. all-at (λ q. IsTrue (comes_before q p)) before u.path r c.1) vs a

  -- the rule of rising paths, from a place on
  abbrev RisesFrom : List (List ℕ) → List (List ℕ) → Type 0
  RisesFrom before ps = AtEach (λ b p a. AllByRecursion (λ q. IsTrue (comes_before q p)) b) before ps

  order-from : (seen : List RankedJudgement) (before : List (List ℕ)) (old new : SeatView) (notes : List Note) (g : SeatGoes t (Ranked rank) old notes new)
      → ItemsInOrder seen → AreAmong before seen → RisesFrom before (paths (judgements notes)) → ItemsInOrder (seen ++ ranked_visits old new notes g)
  order-from seen before old new [] g order among rise = subst ItemsInOrder (sym (append-nil seen)) order
  order-from seen before old new (visited p w h ∷ ns) g order among rise =
      let v = ranked_judgement p w rank g.0 in
      let mid = has_offered (has_read old g.0) (key_of (Ranked rank) w) in
      let earlier = all-before before p seen among rise.0 in
      subst ItemsInOrder (append_assoc seen (v ∷ []) (ranked_visits mid new ns g.2))
      (order-from (seen ++ v ∷ []) (before ++ p ∷ []) mid new ns g.2
      (in_order-push seen v order (AllByRecursion-weaker (λ (u : RankedJudgement). IsTrue (comes_before u.path p)) (λ (u : RankedJudgement). u.item ≡ rank → IsTrue (comes_before u.path p)) (λ u c e. c) seen earlier))
      (among-push before v seen refl among) rise.1)
  order-from seen before old new (cut p b h ∷ ns) g order among rise = order-from seen (before ++ p ∷ []) (has_read old g.0) new ns g.2 order (among-more before p seen among) rise.1
  order-from seen before old new (taken p ∷ ns) g order among rise = order-from seen before old new ns g order among rise
  order-from seen before old new (spawned p ∷ ns) g order among rise = order-from seen before old new ns g order among rise
  order-from seen before old new (handed p ∷ ns) g order among rise = order-from seen before old new ns g order among rise
  order-from seen before old new (ended p ∷ ns) g order among rise = order-from seen before old new ns g order among rise

  -- the visits of a walk are in order
  pub visits-in_order : (old new : SeatView) (notes : List Note) (g : SeatGoes t (Ranked rank) old notes new) → Rise (paths (judgements notes)) → ItemsInOrder (ranked_visits old new notes g)
  visits-in_order old new notes g rise = order-from [] [] old new notes g tt tt rise

  -- the word that is read is among the offered ones, or it is heard
  offered-or_heard : (old : SeatView) (word : ℕ) → Contains old.offered word ⊎ Contains (has_read old word).heard word
  offered-or_heard old word = by (contains old.offered word) refl
    where
      kept : (b : Bool) → b ≡ false → (if not b then word ∷ [] else []) ≡ word ∷ []
      kept true e = absurd (cc)
      kept false e = refl

      by : (b : Bool) → contains old.offered word ≡ b → Contains old.offered word ⊎ Contains (has_read old word).heard word
      by true e = inl (among-offered old.offered word e)
      by false e = inr (Contains-append_right old.heard (unoffered old.offered (word ∷ [])) word (subst (λ (l : List ℕ). Contains l word) (sym (kept (contains old.offered word) e)) (Contains-head word [])))

  causes-from : (base : List ℕ) (seen : List RankedJudgement) (before : List (List ℕ)) (old new : SeatView) (notes : List Note) (g : SeatGoes t (Ranked rank) old notes new)
      → old.offered ≡ base ++ map key_of_judgement seen → AreAmong before seen → RisesFrom before (paths (judgements notes))
      → AllByRecursion (IsCause base (seen ++ ranked_visits old new notes g) new.heard) (ranked_cuts old new notes g)
  causes-from base seen before old new [] g is among rise = tt
  causes-from base seen before old new (visited p w h ∷ ns) g is among rise =
      let v = ranked_judgement p w rank g.0 in
      let mid = has_offered (has_read old g.0) (key_of (Ranked rank) w) in
      let now : mid.offered ≡ base ++ map key_of_judgement (seen ++ v ∷ []) =
      ap (λ l. l ++ key_of_judgement v ∷ []) is ∙ (append_assoc base (map key_of_judgement seen) (key_of_judgement v ∷ []) ∙ sym (ap (λ l. base ++ l) (map-append key_of_judgement seen (v ∷ [])))) in
      subst (λ l. AllByRecursion (IsCause base l new.heard) (ranked_cuts mid new ns g.2)) (append_assoc seen (v ∷ []) (ranked_visits mid new ns g.2))
      (causes-from base (seen ++ v ∷ []) (before ++ p ∷ []) mid new ns g.2 now (among-push before v seen refl among) rise.1)
  causes-from base seen before old new (cut p b h ∷ ns) g is among rise =
      let c = ranked_judgement p b rank g.0 in
      let mid = has_read old g.0 in
      let more = ranked_visits mid new ns g.2 in
      let earlier = all-before before p seen among rise.0 in (
        ⊎_elim
            (λ (o : Contains old.offered g.0). ⊎_elim
            (λ (x : Contains base g.0). of_base x)
            (λ (x : Contains (map key_of_judgement seen) g.0).
            let u = contains-of key_of_judgement seen g.0 x in
            of_visit (offered-more seen more c record { visit = u.0; among = u.1; word_is = sym u.2; earlier = λ e. all-at (λ (v : RankedJudgement). IsTrue (comes_before v.path p)) seen u.0 earlier u.1 }))
            (contains-either base (map key_of_judgement seen) g.0 (subst (λ l. Contains l g.0) is o)))
            (λ (o : Contains mid.heard g.0). of_heard ((goes-in mid new ns g.2).heard g.0 o))
            (offered-or_heard old g.0),
        causes-from base seen (before ++ p ∷ []) mid new ns g.2 is (among-more before p seen among) rise.1,
      )
  causes-from base seen before old new (taken p ∷ ns) g is among rise = causes-from base seen before old new ns g is among rise
  causes-from base seen before old new (spawned p ∷ ns) g is among rise = causes-from base seen before old new ns g is among rise
  causes-from base seen before old new (handed p ∷ ns) g is among rise = causes-from base seen before old new ns g is among rise
  causes-from base seen before old new (ended p ∷ ns) g is among rise = causes-from base seen before old new ns g is among rise

  -- the cause of each cut of a walk
  pub cuts-caused : (old new : SeatView) (notes : List Note) (g : SeatGoes t (Ranked rank) old notes new) → Rise (paths (judgements notes))
      → AllByRecursion (IsCause old.offered (ranked_visits old new notes g) new.heard) (ranked_cuts old new notes g)
  cuts-caused old new notes g rise = causes-from old.offered [] [] old new notes g (sym (append-nil old.offered)) tt rise
