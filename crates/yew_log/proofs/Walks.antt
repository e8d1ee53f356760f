-- A worker's walks one after another, and the totals of what they note.
use Rattle.std.proofs.Common.{◌≡◌, ◌≢◌, ℕ, ◌+◌, ◌-◌, ◌^◌, refl, ◌<◌, ◌≤◌, List, [], ◌∷◌, ◌++◌, length, ap, sym, subst, ◌∙◌, arith, append_assoc, append-nil, length-append}
use Rattle.std.specs.Prelude.{IfSome}
use Rattle.std.specs.List.{AllByRecursion, flat_map}
use Rattle.std.proofs.lemmas.List.Concat.{flat_map-append}
use Rattle.yew_laws.proofs.Members.{AllByRecursion-append, AllByRecursion-weaker}
use Rattle.yew_log.specs.declared.entry.Totals.{Totals}
use Rattle.yew_log.specs.declared.entry.What.{What}
use Rattle.yew_log.specs.declared.entry.What.TheVariants.{Taken, Visited, Cut, Spawned, Handed, Ended}
use Rattle.yew_log.specs.Recording.{note_of}
use Rattle.yew_log.specs.Places.{AtEach}
use Rattle.yew_laws.specs.SearchTree.{SearchTree, bound_at}
use Rattle.yew_log.specs.Notes.{Note, taken, visited, cut, spawned, handed, ended, Judgement, judgement, visits, cuts, judgements, visit_in, cut_in, taken_in, spawned_in, handed_in, taken_paths, spawned_paths, handed_paths}
use Rattle.yew_log.specs.Attained.{limit}
use Rattle.yew_log.specs.Segment.{Segment, entries, entries_in, IsSegment}
use Rattle.yew_log.specs.Groups.{HasGroups}
use Rattle.yew_log.specs.HeldValues.{KeyKind, plain, CountsFor, IsLater, HeldRises, IsDue, IsJudged}
use Rattle.yew_log.specs.Lawful.{AreWalks}
use Rattle.yew_log.specs.Totals.{next_totals, make_totals, saturated_count, totals_after}
use Rattle.yew_log.proofs.Nesting.{all-flat}
use Rattle.yew_log.proofs.Growth.{HeldRises-append}
use Rattle.yew_log.proofs.Places.{AtEach-append}
use Rattle.yew_log.proofs.PlainKey.{IsJudged-plain}

module _ {N : Type 0} (t : SearchTree N) (gap : ℕ) where
  -- what rule 8 says of the held value of each visit
  pub held_dues : (before notes : List Note) → AtEach (λ b n a. AllByRecursion (λ v. v.path ≢ [] → IsDue t gap plain b v) (visit_in n)) before notes → AllByRecursion (λ v. v.path ≢ [] → IfSome (bound_at t v.path) (λ b. limit gap v.held < b)) (visits notes)
  held_dues before [] d = tt
  held_dues before (visited p w h ∷ ns) d = ((λ ne. (d.0.0 ne).over_held), held_dues (before ++ visited p w h ∷ []) ns d.1)
  held_dues before (cut p w h ∷ ns) d = held_dues (before ++ cut p w h ∷ []) ns d.1
  held_dues before (taken p ∷ ns) d = held_dues (before ++ taken p ∷ []) ns d.1
  held_dues before (spawned p ∷ ns) d = held_dues (before ++ spawned p ∷ []) ns d.1
  held_dues before (handed p ∷ ns) d = held_dues (before ++ handed p ∷ []) ns d.1
  held_dues before (ended p ∷ ns) d = held_dues (before ++ ended p ∷ []) ns d.1

  -- rules 7 and 8 of a log that goes on, under the plain key: each new held value is at least what the log has
  pub IsJudged-append : (xs ys : List Note) → HeldRises (xs ++ ys) → IsJudged t gap plain xs → IsJudged t gap plain ys → IsJudged t gap plain (xs ++ ys)
  IsJudged-append xs ys rises a b =
      IsJudged-plain t gap (xs ++ ys) rises
      (all-flat (λ v. v.path ≢ [] → IfSome (bound_at t v.path) (λ c. limit gap v.held < c)) visit_in xs ys (held_dues [] xs a.visits_due) (held_dues [] ys b.visits_due))
      (all-flat (λ c. c.path ≢ []) cut_in xs ys a.cuts_below b.cuts_below)
      (all-flat (λ c. c.value ≤ limit gap c.held) cut_in xs ys a.cuts_permitted b.cuts_permitted)

  -- rule 8 of a log that goes on, under either key: no visit of the first part permits to cut one of the second
  pub IsJudged-join : (keyed : KeyKind) (xs ys : List Note) → IsJudged t gap keyed xs → IsJudged t gap keyed ys → AllByRecursion (λ v. v.path ≢ [] → AllByRecursion (λ u. IfSome (bound_at t v.path) (λ b. limit gap u.value < b)) (visits xs)) (visits ys) → IsJudged t gap keyed (xs ++ ys)
  IsJudged-join keyed xs ys a b over =
      record {
        visits_due = AtEach-append (λ before n. AllByRecursion (λ v. v.path ≢ [] → IsDue t gap keyed before v) (visit_in n)) [] xs ys a.visits_due
            (subst (λ before. AtEach (λ b' n a'. AllByRecursion (λ v. v.path ≢ [] → IsDue t gap keyed b' v) (visit_in n)) before ys) (append-nil xs) (behind [] ys b.visits_due over));
        cuts_below = all-flat (λ c. c.path ≢ []) cut_in xs ys a.cuts_below b.cuts_below;
        cuts_permitted = all-flat (λ c. c.value ≤ limit gap c.held) cut_in xs ys a.cuts_permitted b.cuts_permitted;
      }
    where
      Due : List Note → Note → Type 0
      Due before n = AllByRecursion (λ v. v.path ≢ [] → IsDue t gap keyed before v) (visit_in n)

      Over : Judgement → Type 0
      Over v = v.path ≢ [] → AllByRecursion (λ u. IfSome (bound_at t v.path) (λ b. limit gap u.value < b)) (visits xs)

      due : (before : List Note) (v : Judgement) → Over v → IsDue t gap keyed before v → v.path ≢ [] → IsDue t gap keyed (xs ++ before) v
      due before v over d inner = record {
        over_worths = subst (AllByRecursion (λ u. CountsFor keyed u v → IfSome (bound_at t v.path) (λ b. limit gap u.value < b))) (sym (flat_map-append visit_in xs before))
            (AllByRecursion-append (λ u. CountsFor keyed u v → IfSome (bound_at t v.path) (λ b. limit gap u.value < b)) (visits xs) (visits before)
            (AllByRecursion-weaker (λ u. IfSome (bound_at t v.path) (λ b. limit gap u.value < b)) (λ u. CountsFor keyed u v → IfSome (bound_at t v.path) (λ b. limit gap u.value < b)) (λ u f counts. f) (visits xs) (over inner))
            d.over_worths);
        over_held = d.over_held;
      }

      next : (before : List Note) (n : Note) (ns : List Note) → AtEach (λ b' n' a'. Due b' n') (xs ++ (before ++ n ∷ [])) ns → AtEach (λ b' n' a'. Due b' n') ((xs ++ before) ++ n ∷ []) ns
      next before n ns r = subst (λ b'. AtEach (λ b'' n' a'. Due b'' n') b' ns) (sym (append_assoc xs before (n ∷ []))) r

      behind : (before ns : List Note) → AtEach (λ b' n a'. Due b' n) before ns → AllByRecursion Over (visits ns) → AtEach (λ b' n a'. Due b' n) (xs ++ before) ns
      behind before [] d o = tt
      behind before (visited p w h ∷ ns) d o = (((λ inner. due before (judgement p w h) o.0 (d.0.0 inner) inner), tt), next before (visited p w h) ns (behind (before ++ visited p w h ∷ []) ns d.1 o.1))
      behind before (cut p w h ∷ ns) d o = (tt, next before (cut p w h) ns (behind (before ++ cut p w h ∷ []) ns d.1 o))
      behind before (taken p ∷ ns) d o = (tt, next before (taken p) ns (behind (before ++ taken p ∷ []) ns d.1 o))
      behind before (spawned p ∷ ns) d o = (tt, next before (spawned p) ns (behind (before ++ spawned p ∷ []) ns d.1 o))
      behind before (handed p ∷ ns) d o = (tt, next before (handed p) ns (behind (before ++ handed p ∷ []) ns d.1 o))
      behind before (ended p ∷ ns) d o = (tt, next before (ended p) ns (behind (before ++ ended p ∷ []) ns d.1 o))

  -- a worker's next walk
  pub walks-append : (rule : List Note → Note → List Note → Type 0) (xs ys : List Segment) → AreWalks t gap plain rule xs → AreWalks t gap plain rule ys → AllByRecursion (IsLater (entries xs)) (judgements (entries ys)) → AreWalks t gap plain rule (xs ++ ys)
  walks-append rule xs ys a b later =
      let joined = flat_map-append entries_in xs ys in
      let rises = HeldRises-append (entries xs) (entries ys) a.held_rises b.held_rises later in
      record {
        each = AllByRecursion-append (IsSegment t) xs ys a.each b.each;
        groups = AllByRecursion-append (λ (s : Segment). HasGroups rule s.body) xs ys a.groups b.groups;
        held_rises = subst HeldRises (sym joined) rises;
        due = subst (IsJudged t gap plain) (sym joined) (IsJudged-append (entries xs) (entries ys) rises a.due b.due);
      }

length-flat : {Y : Type 0} (f : Note → List Y) (xs ys : List Note) → length (flat_map f (xs ++ ys)) ≡ length (flat_map f xs) + length (flat_map f ys)
length-flat f xs ys = ap length (flat_map-append f xs ys) ∙ length-append (flat_map f xs) (flat_map f ys)

round_twice : (a x y z : ℕ) → z ≡ x + y → saturated_count (saturated_count (a + x) + y) ≡ saturated_count (a + z)
round_twice a x y z e = omega arith

-- the totals grow by one walk after another as by all at once
pub totals_after-append : (t : Totals) (xs ys : List Note) → totals_after (totals_after t xs) ys ≡ totals_after t (xs ++ ys)
totals_after-append t xs ys =
    fields (round_twice t.taken (length (taken_paths xs)) (length (taken_paths ys)) (length (taken_paths (xs ++ ys))) (length-flat taken_in xs ys))
    (round_twice t.spawned (length (spawned_paths xs)) (length (spawned_paths ys)) (length (spawned_paths (xs ++ ys))) (length-flat spawned_in xs ys))
    (round_twice t.handed (length (handed_paths xs)) (length (handed_paths ys)) (length (handed_paths (xs ++ ys))) (length-flat handed_in xs ys))
    (round_twice t.visited (length (visits xs)) (length (visits ys)) (length (visits (xs ++ ys))) (length-flat visit_in xs ys))
    (round_twice t.cut (length (cuts xs)) (length (cuts ys)) (length (cuts (xs ++ ys))) (length-flat cut_in xs ys))
  where
    fields : {a b c d e a' b' c' d' e' : ℕ} → a ≡ a' → b ≡ b' → c ≡ c' → d ≡ d' → e ≡ e' → make_totals a b c d e ≡ make_totals a' b' c' d' e'
    fields p q r s u = cc

-- counts that fit
pub record AreSmall (t : Totals) : Type 0 where
  pub taken : t.taken ≤ 2 ^ 64 - 1
  pub spawned : t.spawned ≤ 2 ^ 64 - 1
  pub handed : t.handed ≤ 2 ^ 64 - 1
  pub visited : t.visited ≤ 2 ^ 64 - 1
  pub cut : t.cut ≤ 2 ^ 64 - 1

all_fields : {a b c d e a' b' c' d' e' : ℕ} → a ≡ a' → b ≡ b' → c ≡ c' → d ≡ d' → e ≡ e' → make_totals a b c d e ≡ make_totals a' b' c' d' e'
all_fields p q r s u = cc

kept : (n : ℕ) → n ≤ 2 ^ 64 - 1 → n ≡ saturated_count (n + 0)
kept n le = omega arith

-- one entry counts as a list of one entry
pub next_totals-totals_after : (t : Totals) (what : What) (path : List ℕ) (first second : ℕ) → AreSmall t → next_totals t what ≡ totals_after t (note_of what path first second ∷ [])
next_totals-totals_after t Taken path first second s = all_fields refl (kept t.spawned s.spawned) (kept t.handed s.handed) (kept t.visited s.visited) (kept t.cut s.cut)
next_totals-totals_after t Spawned path first second s = all_fields (kept t.taken s.taken) refl (kept t.handed s.handed) (kept t.visited s.visited) (kept t.cut s.cut)
next_totals-totals_after t Handed path first second s = all_fields (kept t.taken s.taken) (kept t.spawned s.spawned) refl (kept t.visited s.visited) (kept t.cut s.cut)
next_totals-totals_after t Visited path first second s = all_fields (kept t.taken s.taken) (kept t.spawned s.spawned) (kept t.handed s.handed) refl (kept t.cut s.cut)
next_totals-totals_after t Cut path first second s = all_fields (kept t.taken s.taken) (kept t.spawned s.spawned) (kept t.handed s.handed) (kept t.visited s.visited) refl
next_totals-totals_after t Ended path first second s = all_fields (kept t.taken s.taken) (kept t.spawned s.spawned) (kept t.handed s.handed) (kept t.visited s.visited) (kept t.cut s.cut)
