-- The log is lawful.
use Rattle.std.proofs.Common.{◌≡◌, List, [], ◌∷◌, inl, refl, arith}
use Rattle.std.specs.List.{AllByRecursion}
use Rattle.yew_laws.specs.Tree.{tree}
use Rattle.yew_log.specs.Notes.{Note, visited, cut, ended}
use Rattle.yew_log.specs.Segment.{Segment, segment, IsSegment}
use Rattle.yew_log.specs.HeldValues.{plain, HeldRises, IsJudged}
use Rattle.yew_log.specs.Groups.{sequential, HasGroups, SkeletonGroup}
use Rattle.yew_log.specs.SeqLog.{seq_log}
use Rattle.yew_log.specs.Lawful.{HasSkeleton, LawfulLog}
use Rattle.yew_rows.specs.Trees.{knapsack}
use Rattle.yew_rows.specs.Logs.{sequential_log}
use Rattle.yew_rows.proofs.Differs.{differs}

abbrev pub sequential_body_0 : List Note
sequential_body_0 = visited [] 1 0 ∷ visited (0 ∷ []) 51 1 ∷ visited (0 ∷ 0 ∷ []) 91 51 ∷ ended (0 ∷ 0 ∷ []) ∷ cut (0 ∷ 1 ∷ []) 83 91 ∷ cut (0 ∷ 2 ∷ []) 61 91 ∷ ended (0 ∷ []) ∷ cut (1 ∷ []) 71 91 ∷ cut (2 ∷ []) 39 91 ∷ cut (3 ∷ []) 11 91 ∷ ended [] ∷ []

pub sequential_segment_0 : IsSegment knapsack (segment [] sequential_body_0)
unfolding tree
sequential_segment_0 =
    record {
      untaken = refl;
      begins = refl;
      rises = (tt, ((refl, tt), ((refl, (refl, tt)), ((refl, (refl, (refl, tt))), ((refl, (refl, (refl, (refl, tt)))), ((refl, (refl, (refl, (refl, (refl, tt))))), ((refl, (refl, (refl, (refl, (refl, (refl, tt)))))), ((refl, (refl, (refl, (refl, (refl, (refl, (refl, tt))))))), tt))))))));
      parents = ((λ ne. absurd (ne refl), tt), ((λ ne. (0, omega arith, refl), tt), ((λ ne. (1, omega arith, refl), tt), (tt, ((λ ne. (1, omega arith, refl), tt), ((λ ne. (1, omega arith, refl), tt), (tt, ((λ ne. (0, omega arith, refl), tt), ((λ ne. (0, omega arith, refl), tt), ((λ ne. (0, omega arith, refl), tt), (tt, tt)))))))))));
      nests = ((record { inside = visited (0 ∷ []) 51 1 ∷ visited (0 ∷ 0 ∷ []) 91 51 ∷ ended (0 ∷ 0 ∷ []) ∷ cut (0 ∷ 1 ∷ []) 83 91 ∷ cut (0 ∷ 2 ∷ []) 61 91 ∷ ended (0 ∷ []) ∷ cut (1 ∷ []) 71 91 ∷ cut (2 ∷ []) 39 91 ∷ cut (3 ∷ []) 11 91 ∷ []; outside = []; is_ended = refl; one_end = (λ e. differs (0 ∷ 0 ∷ []) [] e refl refl, (λ e. differs (0 ∷ []) [] e refl refl, tt)); below_inside = (refl, (refl, (refl, (refl, (refl, (refl, (refl, (refl, (refl, tt))))))))); none_outside = tt; sent_inside = tt }, tt), ((record { inside = visited (0 ∷ 0 ∷ []) 91 51 ∷ ended (0 ∷ 0 ∷ []) ∷ cut (0 ∷ 1 ∷ []) 83 91 ∷ cut (0 ∷ 2 ∷ []) 61 91 ∷ []; outside = cut (1 ∷ []) 71 91 ∷ cut (2 ∷ []) 39 91 ∷ cut (3 ∷ []) 11 91 ∷ ended [] ∷ []; is_ended = refl; one_end = (λ e. differs (0 ∷ 0 ∷ []) (0 ∷ []) e refl refl, (λ e. differs [] (0 ∷ []) e refl refl, tt)); below_inside = (refl, (refl, (refl, (refl, tt)))); none_outside = (refl, (refl, (refl, (refl, (refl, tt))))); sent_inside = tt }, tt), ((record { inside = []; outside = cut (0 ∷ 1 ∷ []) 83 91 ∷ cut (0 ∷ 2 ∷ []) 61 91 ∷ ended (0 ∷ []) ∷ cut (1 ∷ []) 71 91 ∷ cut (2 ∷ []) 39 91 ∷ cut (3 ∷ []) 11 91 ∷ ended [] ∷ []; is_ended = refl; one_end = (λ e. differs (0 ∷ []) (0 ∷ 0 ∷ []) e refl refl, (λ e. differs [] (0 ∷ 0 ∷ []) e refl refl, tt)); below_inside = tt; none_outside = (refl, (refl, (refl, (refl, (refl, (refl, (refl, (refl, (refl, tt))))))))); sent_inside = tt }, tt), (tt, (tt, (tt, (tt, (tt, (tt, (tt, (tt, tt)))))))))));
      ends = (tt, (tt, (tt, (((2, omega arith, refl), tt), (tt, (tt, (((1, omega arith, refl), tt), (tt, (tt, (tt, (((0, omega arith, refl), tt), tt)))))))))));
      all_covered = record { weighs = λ weight. omega arith };
      valued = record { worths = (refl, (refl, (refl, tt))); bounds = (refl, (refl, (refl, (refl, (refl, tt))))) };
    }

abbrev sequential_segments : List Segment
sequential_segments = segment [] sequential_body_0 ∷ []

pub sequential_held : HeldRises sequential_log
sequential_held = (tt, ((record { of_helds = tt; of_worths = tt }, tt), ((record { of_helds = (omega arith, tt); of_worths = (omega arith, tt) }, tt), ((record { of_helds = (omega arith, (omega arith, tt)); of_worths = (omega arith, (omega arith, tt)) }, tt), (tt, ((record { of_helds = (omega arith, (omega arith, (omega arith, tt))); of_worths = (omega arith, (omega arith, (omega arith, tt))) }, tt), ((record { of_helds = (omega arith, (omega arith, (omega arith, (omega arith, tt)))); of_worths = (omega arith, (omega arith, (omega arith, tt))) }, tt), (tt, ((record { of_helds = (omega arith, (omega arith, (omega arith, (omega arith, (omega arith, tt))))); of_worths = (omega arith, (omega arith, (omega arith, tt))) }, tt), ((record { of_helds = (omega arith, (omega arith, (omega arith, (omega arith, (omega arith, (omega arith, tt)))))); of_worths = (omega arith, (omega arith, (omega arith, tt))) }, tt), ((record { of_helds = (omega arith, (omega arith, (omega arith, (omega arith, (omega arith, (omega arith, (omega arith, tt))))))); of_worths = (omega arith, (omega arith, (omega arith, tt))) }, tt), (tt, tt))))))))))))

pub sequential_due : IsJudged knapsack 0 plain sequential_log
sequential_due = record { visits_due = (tt, ((λ ne. absurd (ne refl), tt), ((λ ne. record { over_worths = (λ bears. omega arith, tt); over_held = omega arith }, tt), ((λ ne. record { over_worths = (λ bears. omega arith, (λ bears. omega arith, tt)); over_held = omega arith }, tt), (tt, (tt, (tt, (tt, (tt, (tt, (tt, (tt, tt)))))))))))); cuts_below = (λ e. differs (0 ∷ 1 ∷ []) [] e refl refl, (λ e. differs (0 ∷ 2 ∷ []) [] e refl refl, (λ e. differs (1 ∷ []) [] e refl refl, (λ e. differs (2 ∷ []) [] e refl refl, (λ e. differs (3 ∷ []) [] e refl refl, tt))))); cuts_permitted = (omega arith, (omega arith, (omega arith, (omega arith, (omega arith, tt))))) }

abbrev sequential_own : List Segment
sequential_own = segment [] sequential_body_0 ∷ []

abbrev sequential_rest : List Segment
sequential_rest = []

sequential_groups : AllByRecursion (λ (s : Segment). HasGroups (SkeletonGroup knapsack sequential) s.body) sequential_own
sequential_groups = (((refl, tt), ((refl, tt), ((refl, tt), ((refl, tt), ((refl, tt), ((refl, tt), ((refl, tt), ((refl, tt), ((refl, tt), ((refl, tt), ((refl, tt), tt))))))))))), tt)

sequential_skeleton : HasSkeleton knapsack sequential 1 1 sequential_segments
sequential_skeleton = record { own = sequential_own; rest = sequential_rest; own_first = refl; groups = sequential_groups; rest_segments = tt; may_rest = inl refl; shape = (refl, refl) }

pub sequential_log-lawful : LawfulLog knapsack 0 sequential 1 1 sequential_log
sequential_log-lawful = record { segments = sequential_segments; cut_up = refl; each = (sequential_segment_0, tt); groups = sequential_skeleton; held_rises = sequential_held; due = sequential_due; alone = λ one. (tt, ((refl, tt), ((refl, tt), ((refl, tt), (tt, ((refl, tt), ((refl, tt), (tt, ((refl, tt), ((refl, tt), ((refl, tt), (tt, tt)))))))))))) }

-- the definition by recursion on the tree computes to it
pub sequential_log-sequential : seq_log knapsack 0 ≡ sequential_log
sequential_log-sequential = refl
