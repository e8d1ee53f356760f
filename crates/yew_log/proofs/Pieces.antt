-- A log is cut into segments in one way only.
use Rattle.std.proofs.Common.{◌≡◌, List, [], ◌∷◌, ◌++◌, refl, ap, sym, ◌∙◌, append-nil}
use Rattle.std.specs.List.{AllByRecursion}
use Rattle.yew_laws.proofs.Members.{AllByRecursion-weaker}
use Rattle.yew_log.specs.Notes.{Note, taken, visited, cut, spawned, handed, ended, taken_paths}
use Rattle.yew_laws.specs.SearchTree.{SearchTree}
use Rattle.yew_log.specs.Segment.{Segment, segment, entries, IsSegment}

-- what stands before the first taken task, and the segments from there on
pub record Pieces : Type 0 where
  pub front : List Note
  pub segments : List Segment

abbrev pub pieces : List Note → List Segment → Pieces
pieces front segments = record { front = front; segments = segments }

abbrev pub ahead : Note → Pieces → Pieces
ahead (taken path) p = pieces [] (segment path p.front ∷ p.segments)
ahead note p = pieces (note ∷ p.front) p.segments

abbrev pub pieces_of : List Note → Pieces
pieces_of [] = pieces [] []
pieces_of (note ∷ notes) = ahead note (pieces_of notes)

pieces_of-body : (body rest : List Note) → taken_paths body ≡ [] → pieces_of (body ++ rest) ≡ pieces (body ++ (pieces_of rest).front) (pieces_of rest).segments
pieces_of-body [] rest e = refl
pieces_of-body (taken path ∷ body) rest e = absurd (cc)
pieces_of-body (visited path w h ∷ body) rest e = ap (ahead (visited path w h)) (pieces_of-body body rest e)
pieces_of-body (cut path b h ∷ body) rest e = ap (ahead (cut path b h)) (pieces_of-body body rest e)
pieces_of-body (spawned path ∷ body) rest e = ap (ahead (spawned path)) (pieces_of-body body rest e)
pieces_of-body (handed path ∷ body) rest e = ap (ahead (handed path)) (pieces_of-body body rest e)
pieces_of-body (ended path ∷ body) rest e = ap (ahead (ended path)) (pieces_of-body body rest e)

pub pieces_of-entries : (segments : List Segment) → AllByRecursion (λ s. taken_paths s.body ≡ []) segments → pieces_of (entries segments) ≡ pieces [] segments
pieces_of-entries [] a = refl
pieces_of-entries (s ∷ ss) a =
    let rest = pieces_of-entries ss a.1 in
    ap (ahead (taken s.task))
    (pieces_of-body s.body (entries ss) a.0
    ∙ ap (λ (p : Pieces). pieces (s.body ++ p.front) p.segments) rest
    ∙ ap (λ front. pieces front ss) (append-nil s.body))

-- the segments of a lawful log are those that the log is cut into
pub segments-unique : {N : Type 0} (t : SearchTree N) (notes : List Note) (segments : List Segment) → notes ≡ entries segments → AllByRecursion (IsSegment t) segments → segments ≡ (pieces_of notes).segments
segments-unique t notes segments e each =
    ap (λ (p : Pieces). p.segments)
    (sym (ap pieces_of e ∙ pieces_of-entries segments (AllByRecursion-weaker (IsSegment t) (λ s. taken_paths s.body ≡ []) (λ s k. k.untaken) segments each)))
