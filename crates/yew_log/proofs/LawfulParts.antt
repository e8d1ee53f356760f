-- The parts of a lawful log, over the segments that the log is cut into.
use Rattle.std.proofs.Common.{◌≡◌, ℕ, List, [], ◌++◌, inl, inr, sym, ap, subst, ◌∙◌, append-nil}
use Rattle.std.specs.List.{AllByRecursion}
use Rattle.yew_laws.specs.SearchTree.{SearchTree}
use Rattle.yew_log.specs.Notes.{Note}
use Rattle.yew_log.specs.Segment.{Segment, IsSegment}
use Rattle.yew_log.specs.Groups.{Skeleton, HasGroups, SkeletonGroup}
use Rattle.yew_log.specs.Lawful.{LawfulLog, HasShape, MayRest}
use Rattle.yew_log.proofs.Pieces.{pieces_of, segments-unique}

module _ {N : Type 0} {t : SearchTree N} {gap : ℕ} {skeleton : Skeleton} {workers number : ℕ} {notes : List Note} (lawful : LawfulLog t gap skeleton workers number notes) where
  same : lawful.segments ≡ (pieces_of notes).segments
  same = segments-unique t notes lawful.segments lawful.cut_up lawful.each

  pub each : AllByRecursion (IsSegment t) (pieces_of notes).segments
  each = subst (AllByRecursion (IsSegment t)) same lawful.each

  pub shape : HasShape t skeleton workers number (pieces_of notes).segments
  shape = subst (HasShape t skeleton workers number) same lawful.groups.shape

  -- with no rest segments, each segment has the groups of the skeleton
  pub groups-without_rest : (MayRest skeleton workers number → ⊥) → AllByRecursion (λ (s : Segment). HasGroups (SkeletonGroup t skeleton) s.body) (pieces_of notes).segments
  groups-without_rest alone =
      let g = lawful.groups in
      let none : g.rest ≡ [] = elim g.may_rest [ inl e ↦ e | inr m ↦ absurd (alone m) ] in
      subst (AllByRecursion (λ (s : Segment). HasGroups (SkeletonGroup t skeleton) s.body))
      (sym (append-nil g.own) ∙ sym (ap (λ ss. g.own ++ ss) none) ∙ sym g.own_first ∙ same)
      g.groups
