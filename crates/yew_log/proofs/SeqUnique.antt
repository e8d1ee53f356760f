-- A lawful sequential log is the one sequential log.
use Rattle.std.proofs.Common.{◌≡◌, ℕ, List, [], ◌∷◌, ◌++◌, refl, ap, sym, subst, ◌∙◌, append-nil, inl, inr}
use Rattle.std.specs.List.{AllByRecursion}
use Rattle.yew_laws.specs.Tree.{IsRanked}
use Rattle.yew_log.specs.Places.{AtEach}
use Rattle.yew_laws.specs.SearchTree.{SearchTree}
use Rattle.yew_log.specs.Notes.{Note, taken, visited, cut, spawned, handed, ended, event_in, sent_paths, taken_paths}
use Rattle.yew_log.specs.Segment.{Segment, segment, entries, Begins, IsSegment}
use Rattle.yew_log.specs.Groups.{sequential, HasGroups, SkeletonGroup, group_of}
use Rattle.yew_log.specs.HeldValues.{plain, HeldIsMaximum, IsJudged}
use Rattle.yew_log.specs.Lawful.{LawfulLog, HasSkeleton, tasks_of}
use Rattle.yew_log.specs.SeqLog.{seq_log}
use Rattle.yew_log.proofs.SeqLawful.{seq_log-lawful}
use Rattle.yew_log.proofs.Walks.{held_dues}
use Rattle.yew_log.proofs.Unique.{SeqBody, same-bodies}

-- with no groups nothing is sent
quiet : (before body : List Note) → AtEach (λ b n a. AllByRecursion (λ p. group_of a ≡ []) (event_in n)) before body → group_of body ≡ [] → taken_paths body ≡ [] → sent_paths body ≡ []
quiet before [] g e u = refl
quiet before (taken p ∷ ns) g e u = absurd (cc)
quiet before (spawned p ∷ ns) g e u = absurd (cc)
quiet before (handed p ∷ ns) g e u = absurd (cc)
quiet before (visited p w h ∷ ns) g e u = quiet (before ++ visited p w h ∷ []) ns g.1 g.0.0 u
quiet before (cut p w h ∷ ns) g e u = quiet (before ++ cut p w h ∷ []) ns g.1 g.0.0 u
quiet before (ended p ∷ ns) g e u = quiet (before ++ ended p ∷ []) ns g.1 g.0.0 u

starts : (task : List ℕ) (body : List Note) → Begins task body → group_of body ≡ []
starts task [] b = refl
starts task (visited p w h ∷ ns) b = refl
starts task (cut p w h ∷ ns) b = refl
starts task (taken p ∷ ns) b = refl
starts task (ended p ∷ ns) b = refl
starts task (spawned p ∷ ns) b = absurd b
starts task (handed p ∷ ns) b = absurd b

module _ {N : Type 0} (t : SearchTree N) (gap : ℕ) where
  -- the body of the root's segment, and that it is the whole log
  record OneBody (notes : List Note) : Type 0 where
    pub body : List Note
    pub is : notes ≡ taken [] ∷ body
    pub keeps : SeqBody t gap body

  one-segment : (segments : List Segment) → tasks_of segments ≡ [] ∷ [] → (body : List Note) × (segments ≡ segment [] body ∷ [])
  one-segment [] e = absurd (cc)
  one-segment (s ∷ []) e = let task : s.task ≡ [] = cc in (s.body, ap (λ p. segment p s.body ∷ []) task)
  one-segment (s ∷ r ∷ ss) e = absurd (cc)

  own-groups : {workers number : ℕ} (segments : List Segment) → HasSkeleton t sequential workers number segments → AllByRecursion (λ (s : Segment). HasGroups (SkeletonGroup t sequential) s.body) segments
  own-groups segments g =
      let none : g.rest ≡ [] = elim g.may_rest [ inl e ↦ e | inr m ↦ absurd m ] in
      subst (AllByRecursion (λ (s : Segment). HasGroups (SkeletonGroup t sequential) s.body)) (sym (append-nil g.own) ∙ sym (ap (λ ss. g.own ++ ss) none) ∙ sym g.own_first) g.groups

  one-body : {workers number : ℕ} (notes : List Note) → LawfulLog t gap sequential workers number notes → OneBody notes
  one-body {workers} {number} notes l =
      let one = one-segment l.segments l.groups.shape.1 in
      let body = one.0 in
      let is : notes ≡ taken [] ∷ body = l.cut_up ∙ ap entries one.1 ∙ ap (λ ns. taken [] ∷ ns) (append-nil body) in
      let s = (subst (AllByRecursion (IsSegment t)) one.1 l.each).0 in
      let groups = (subst (AllByRecursion (λ (s' : Segment). HasGroups (SkeletonGroup t sequential) s'.body)) one.1 (own-groups l.segments l.groups)).0 in
      let due = subst (IsJudged t gap plain) is l.due in
      let maximum = subst HeldIsMaximum is (l.alone l.groups.shape.0) in
      record {
        body = body;
        is = is;
        keeps = record {
          begins = s.begins;
          rises = s.rises;
          parents = s.parents;
          nests = s.nests;
          ends = s.ends;
          untaken = s.untaken;
          unsent = quiet [] body groups (starts [] body s.begins) s.untaken;
          all_covered = s.all_covered;
          valued = s.valued;
          exact = maximum.1;
          over = held_dues t gap [] (taken [] ∷ body) due.visits_due;
          cuts_below = due.cuts_below;
          permitted = due.cuts_permitted;
        };
      }

  module _ {sound : N → Type 0} (ranked : IsRanked sound t.children t.rank) (root : sound t.root) where
    pub seq_log-unique : (workers number : ℕ) (notes : List Note) → LawfulLog t gap sequential workers number notes → notes ≡ seq_log t gap
    seq_log-unique workers number notes l =
        let a = one-body notes l in
        let b = one-body (seq_log t gap) (seq_log-lawful t gap ranked root) in
        a.is ∙ ap (λ ns. taken [] ∷ ns) (same-bodies t gap ranked root [] a.body b.body a.keeps b.keeps) ∙ sym b.is
