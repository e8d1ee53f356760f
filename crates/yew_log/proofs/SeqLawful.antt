-- The one sequential log is lawful, of any problem.
use Rattle.std.proofs.Common.{◌≡◌, ℕ, zero, suc, List, [], ◌∷◌, ◌++◌, refl, ap, sym, append-nil, arith, inl}
use Rattle.std.specs.List.{AllByRecursion}
use Rattle.yew_laws.specs.Tree.{IsRanked}
use Rattle.yew_log.specs.Places.{AtEach}
use Rattle.yew_laws.specs.SearchTree.{SearchTree}
use Rattle.yew_log.specs.Notes.{Note, taken, visited, cut, spawned, handed, ended, sent_paths, event_in}
use Rattle.yew_log.specs.Segment.{segment, Begins}
use Rattle.yew_log.specs.Groups.{sequential, group_of}
use Rattle.yew_log.specs.HeldValues.{HeldRises}
use Rattle.yew_log.specs.Lawful.{LawfulLog}
use Rattle.yew_log.specs.SeqLog.{visit_notes, seq_log}
use Rattle.yew_log.proofs.Growth.{segment-from_block}
use Rattle.yew_log.proofs.SeqLaws.{visit-part}
use Rattle.yew_log.proofs.PlainKey.{IsJudged-plain, rises-from_exact}

quiet : (notes : List Note) → sent_paths notes ≡ [] → group_of notes ≡ []
quiet [] e = refl
quiet (spawned p ∷ ns) e = absurd (cc)
quiet (handed p ∷ ns) e = absurd (cc)
quiet (taken p ∷ ns) e = refl
quiet (visited p w h ∷ ns) e = refl
quiet (cut p w h ∷ ns) e = refl
quiet (ended p ∷ ns) e = refl

-- entries of which nothing is sent have no groups
pub quiet-groups : (before notes : List Note) → sent_paths notes ≡ [] → AtEach (λ b n a. AllByRecursion (λ p. group_of a ≡ []) (event_in n)) before notes
quiet-groups before [] e = tt
quiet-groups before (spawned p ∷ ns) e = absurd (cc)
quiet-groups before (handed p ∷ ns) e = absurd (cc)
quiet-groups before (taken p ∷ ns) e = (tt, quiet-groups (before ++ taken p ∷ []) ns e)
quiet-groups before (visited p w h ∷ ns) e = ((quiet ns e, tt), quiet-groups (before ++ visited p w h ∷ []) ns e)
quiet-groups before (cut p w h ∷ ns) e = ((quiet ns e, tt), quiet-groups (before ++ cut p w h ∷ []) ns e)
quiet-groups before (ended p ∷ ns) e = ((quiet ns e, tt), quiet-groups (before ++ ended p ∷ []) ns e)

module _ {N : Type 0} (t : SearchTree N) (gap : ℕ) where
  begins : (levels : ℕ) → Begins [] (visit_notes t gap levels [] t.root 0)
  begins zero = refl
  begins (suc levels) = refl

  module _ {sound : N → Type 0} (ranked : IsRanked sound t.children t.rank) (root : sound t.root) where
    body : List Note
    body = visit_notes t gap (t.rank t.root) [] t.root 0

    pub seq_log-lawful : LawfulLog t gap sequential 1 1 (seq_log t gap)
    seq_log-lawful =
        let notes = visit_notes t gap (t.rank t.root) [] t.root 0 in
        let part = visit-part t gap ranked (t.rank t.root) [] t.root 0 refl root (omega arith) (λ ne. absurd (ne refl)) in
        let exact = part.is_made.exact (taken [] ∷ []) refl in
        let rises : HeldRises (seq_log t gap) = (tt, rises-from_exact (taken [] ∷ []) notes tt exact) in
        record {
          segments = segment [] notes ∷ [];
          cut_up = ap (λ ns. taken [] ∷ ns) (sym (append-nil notes));
          each = (segment-from_block t [] notes part.is_block part.is_made.untaken (begins (t.rank t.root)) part.all_covered part.is_made.valued, tt);
          groups = record {
            own = segment [] notes ∷ [];
            rest = [];
            own_first = refl;
            groups = (quiet-groups [] notes part.is_made.unsent, tt);
            rest_segments = tt;
            may_rest = inl refl;
            shape = (refl, refl);
          };
          held_rises = rises;
          due = IsJudged-plain t gap (seq_log t gap) rises part.is_made.due part.is_made.cuts_below part.is_made.permitted;
          alone = λ one. (tt, exact);
        }
