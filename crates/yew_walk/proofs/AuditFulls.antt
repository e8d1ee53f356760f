-- A walk whose log is full, with the entry for which it had no room.
use Rattle.std.proofs.Common.{◌≡◌, ℕ, List, [], ◌∷◌, ◌++◌, Some, ◌∙◌, append_assoc}
use Rattle.yew_best.specs.Seats.{SeatView}
use Rattle.yew_laws.specs.SearchTree.{SearchTree}
use Rattle.yew_log.specs.AuditFull.{IsAuditFull}
use Rattle.yew_log.specs.Groups.{sequential}
use Rattle.yew_log.specs.HeldValues.{plain, HeldIsMaximum}
use Rattle.yew_log.specs.Lawful.{IsBrokenWalk}
use Rattle.yew_log.specs.Notes.{Note, path_of}
use Rattle.yew_log.specs.Recording.{IsFull}
use Rattle.yew_log.specs.SeqLog.{seq_log}
use Rattle.yew_log.proofs.KnownPaths.{IsBrokenWalk-known}
use Rattle.yew_walk.specs.declared.keying.Keying.{Keying}
use Rattle.yew_walk.specs.Keys.{kind_of}
use Rattle.yew_walk.specs.Seats.{SeatGoes}
use Rattle.yew_walk.proofs.PlainLogs.{SeatGoes-maximum}

module _ {N : Type 0} (t : SearchTree N) (gap : ℕ) where
  -- a sequential walk whose log had no room for its next entry
  pub audit_full-sequential : (notes : List Note) (next : Note) (entries numbers : ℕ) → IsFull (Some notes) (path_of next) entries numbers → IsBrokenWalk t gap plain [] notes → IsBrokenWalk t gap plain [] (notes ++ next ∷ []) → HeldIsMaximum notes → (rest : List Note) × (seq_log t gap ≡ (notes ++ next ∷ []) ++ rest) → IsAuditFull t gap sequential 1 entries numbers
  audit_full-sequential notes next entries numbers full walk longer held (rest, is) =
      let known = IsBrokenWalk-known t gap plain [] (notes ++ next ∷ []) longer in
      record {
        notes = notes;
        next = next;
        full = full;
        in_tree = known.of_tree;
        one_of_a_kind = known.one_of_a_kind;
        keeps = walk.keeps;
        alone = λ one. held;
        sequential_next = λ same. (rest, is ∙ append_assoc notes (next ∷ []) rest);
      }

-- along a seat with the whole share and plain keys, which has offered nothing before, each held value is the greatest worth before it
pub goes-held_is_maximum : {N : Type 0} (t : SearchTree N) (keying : Keying) → kind_of keying ≡ plain → (first now : SeatView) (notes : List Note) → SeatGoes t keying first notes now → first.offered ≡ [] → first.share ≡ first.best.seats → HeldIsMaximum notes
goes-held_is_maximum t keying is_plain first now notes goes nothing whole = SeatGoes-maximum t keying is_plain first now [] notes whole nothing goes
