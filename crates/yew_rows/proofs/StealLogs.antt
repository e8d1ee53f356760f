-- The two logs are lawful.
use Rattle.std.proofs.Common.{List, [], ◌∷◌, inl, inr, refl, arith}
use Rattle.std.specs.List.{AllByRecursion}
use Rattle.yew_laws.specs.Tree.{tree}
use Rattle.yew_log.specs.Notes.{Note, visited, cut, handed, ended}
use Rattle.yew_log.specs.Segment.{Segment, segment, IsSegment}
use Rattle.yew_log.specs.HeldValues.{plain, HeldRises, IsJudged}
use Rattle.yew_log.specs.Groups.{one, by_steal, HasGroups, SkeletonGroup}
use Rattle.yew_log.specs.Lawful.{HasSkeleton, LawfulLog}
use Rattle.yew_rows.specs.Trees.{knapsack}
use Rattle.yew_rows.specs.Logs.{giving_log, asking_log}
use Rattle.yew_rows.proofs.Differs.{differs}

abbrev giving_body_0 : List Note
giving_body_0 = visited [] 1 0 ∷ handed (0 ∷ []) ∷ visited (1 ∷ []) 41 1 ∷ visited (1 ∷ 0 ∷ []) 71 41 ∷ ended (1 ∷ 0 ∷ []) ∷ cut (1 ∷ 1 ∷ []) 51 91 ∷ ended (1 ∷ []) ∷ cut (2 ∷ []) 39 91 ∷ cut (3 ∷ []) 11 91 ∷ ended [] ∷ []

giving_segment_0 : IsSegment knapsack (segment [] giving_body_0)
unfolding tree
giving_segment_0 =
    record {
      untaken = refl;
      begins = refl;
      rises = (tt, ((refl, tt), ((refl, (refl, tt)), ((refl, (refl, (refl, tt))), ((refl, (refl, (refl, (refl, tt)))), ((refl, (refl, (refl, (refl, (refl, tt))))), tt))))));
      parents = ((λ ne. absurd (ne refl), tt), (tt, ((λ ne. (0, omega arith, refl), tt), ((λ ne. (1, omega arith, refl), tt), (tt, ((λ ne. (1, omega arith, refl), tt), (tt, ((λ ne. (0, omega arith, refl), tt), ((λ ne. (0, omega arith, refl), tt), (tt, tt))))))))));
      nests = ((record { inside = handed (0 ∷ []) ∷ visited (1 ∷ []) 41 1 ∷ visited (1 ∷ 0 ∷ []) 71 41 ∷ ended (1 ∷ 0 ∷ []) ∷ cut (1 ∷ 1 ∷ []) 51 91 ∷ ended (1 ∷ []) ∷ cut (2 ∷ []) 39 91 ∷ cut (3 ∷ []) 11 91 ∷ []; outside = []; is_ended = refl; one_end = (λ e. differs (1 ∷ 0 ∷ []) [] e refl refl, (λ e. differs (1 ∷ []) [] e refl refl, tt)); below_inside = (refl, (refl, (refl, (refl, (refl, (refl, (refl, tt))))))); none_outside = tt; sent_inside = tt }, tt), (tt, ((record { inside = visited (1 ∷ 0 ∷ []) 71 41 ∷ ended (1 ∷ 0 ∷ []) ∷ cut (1 ∷ 1 ∷ []) 51 91 ∷ []; outside = cut (2 ∷ []) 39 91 ∷ cut (3 ∷ []) 11 91 ∷ ended [] ∷ []; is_ended = refl; one_end = (λ e. differs (1 ∷ 0 ∷ []) (1 ∷ []) e refl refl, (λ e. differs [] (1 ∷ []) e refl refl, tt)); below_inside = (refl, (refl, (refl, tt))); none_outside = (refl, (refl, (refl, (refl, tt)))); sent_inside = (refl, tt) }, tt), ((record { inside = []; outside = cut (1 ∷ 1 ∷ []) 51 91 ∷ ended (1 ∷ []) ∷ cut (2 ∷ []) 39 91 ∷ cut (3 ∷ []) 11 91 ∷ ended [] ∷ []; is_ended = refl; one_end = (λ e. differs (1 ∷ []) (1 ∷ 0 ∷ []) e refl refl, (λ e. differs [] (1 ∷ 0 ∷ []) e refl refl, tt)); below_inside = tt; none_outside = (refl, (refl, (refl, (refl, (refl, (refl, (refl, tt))))))); sent_inside = (refl, tt) }, tt), (tt, (tt, (tt, (tt, (tt, (tt, tt))))))))));
      ends = (tt, (tt, (tt, (tt, (((2, omega arith, refl), tt), (tt, (((1, omega arith, refl), tt), (tt, (tt, (((0, omega arith, refl), tt), tt))))))))));
      all_covered = record { weighs = λ weight. omega arith };
      valued = record { worths = (refl, (refl, (refl, tt))); bounds = (refl, (refl, (refl, tt))) };
    }

abbrev giving_own : List Segment
giving_own = segment [] giving_body_0 ∷ []

abbrev giving_rest : List Segment
giving_rest = []

abbrev giving_segments : List Segment
giving_segments = segment [] giving_body_0 ∷ []

giving_held : HeldRises giving_log
giving_held = (tt, ((record { of_helds = tt; of_worths = tt }, tt), (tt, ((record { of_helds = (omega arith, tt); of_worths = (omega arith, tt) }, tt), ((record { of_helds = (omega arith, (omega arith, tt)); of_worths = (omega arith, (omega arith, tt)) }, tt), (tt, ((record { of_helds = (omega arith, (omega arith, (omega arith, tt))); of_worths = (omega arith, (omega arith, (omega arith, tt))) }, tt), (tt, ((record { of_helds = (omega arith, (omega arith, (omega arith, (omega arith, tt)))); of_worths = (omega arith, (omega arith, (omega arith, tt))) }, tt), ((record { of_helds = (omega arith, (omega arith, (omega arith, (omega arith, (omega arith, tt))))); of_worths = (omega arith, (omega arith, (omega arith, tt))) }, tt), (tt, tt)))))))))))

giving_due : IsJudged knapsack 0 plain giving_log
giving_due = record { visits_due = (tt, ((λ ne. absurd (ne refl), tt), (tt, ((λ ne. record { over_worths = (λ bears. omega arith, tt); over_held = omega arith }, tt), ((λ ne. record { over_worths = (λ bears. omega arith, (λ bears. omega arith, tt)); over_held = omega arith }, tt), (tt, (tt, (tt, (tt, (tt, (tt, tt))))))))))); cuts_below = (λ e. differs (1 ∷ 1 ∷ []) [] e refl refl, (λ e. differs (2 ∷ []) [] e refl refl, (λ e. differs (3 ∷ []) [] e refl refl, tt))); cuts_permitted = (omega arith, (omega arith, (omega arith, tt))) }

giving_groups : AllByRecursion (λ (s : Segment). HasGroups (SkeletonGroup knapsack (by_steal one)) s.body) giving_own
giving_groups = (((inr refl, tt), (tt, ((inl refl, tt), ((inl refl, tt), ((inl refl, tt), ((inl refl, tt), ((inl refl, tt), ((inl refl, tt), ((inl refl, tt), ((inl refl, tt), tt)))))))))), tt)

giving_skeleton : HasSkeleton knapsack (by_steal one) 2 1 giving_segments
giving_skeleton = record { own = giving_own; rest = giving_rest; own_first = refl; groups = giving_groups; rest_segments = tt; may_rest = inl refl; shape = tt }

pub giving_log-lawful : LawfulLog knapsack 0 (by_steal one) 2 1 giving_log
giving_log-lawful = record { segments = giving_segments; cut_up = refl; each = (giving_segment_0, tt); groups = giving_skeleton; held_rises = giving_held; due = giving_due; alone = λ one. absurd (omega (arith, one)) }

abbrev asking_body_0 : List Note
asking_body_0 = visited (0 ∷ []) 51 1 ∷ visited (0 ∷ 0 ∷ []) 91 51 ∷ ended (0 ∷ 0 ∷ []) ∷ cut (0 ∷ 1 ∷ []) 83 91 ∷ cut (0 ∷ 2 ∷ []) 61 91 ∷ ended (0 ∷ []) ∷ []

asking_segment_0 : IsSegment knapsack (segment (0 ∷ []) asking_body_0)
unfolding tree
asking_segment_0 =
    record {
      untaken = refl;
      begins = refl;
      rises = (tt, ((refl, tt), ((refl, (refl, tt)), ((refl, (refl, (refl, tt))), tt))));
      parents = ((λ ne. absurd (ne refl), tt), ((λ ne. (0, omega arith, refl), tt), (tt, ((λ ne. (0, omega arith, refl), tt), ((λ ne. (0, omega arith, refl), tt), (tt, tt))))));
      nests = ((record { inside = visited (0 ∷ 0 ∷ []) 91 51 ∷ ended (0 ∷ 0 ∷ []) ∷ cut (0 ∷ 1 ∷ []) 83 91 ∷ cut (0 ∷ 2 ∷ []) 61 91 ∷ []; outside = []; is_ended = refl; one_end = (λ e. differs (0 ∷ 0 ∷ []) (0 ∷ []) e refl refl, tt); below_inside = (refl, (refl, (refl, (refl, tt)))); none_outside = tt; sent_inside = tt }, tt), ((record { inside = []; outside = cut (0 ∷ 1 ∷ []) 83 91 ∷ cut (0 ∷ 2 ∷ []) 61 91 ∷ ended (0 ∷ []) ∷ []; is_ended = refl; one_end = (λ e. differs (0 ∷ []) (0 ∷ 0 ∷ []) e refl refl, tt); below_inside = tt; none_outside = (refl, (refl, (refl, (refl, tt)))); sent_inside = tt }, tt), (tt, (tt, (tt, (tt, tt))))));
      ends = (tt, (tt, (((1, omega arith, refl), tt), (tt, (tt, (((0, omega arith, refl), tt), tt))))));
      all_covered = record { weighs = λ weight. omega arith };
      valued = record { worths = (refl, (refl, tt)); bounds = (refl, (refl, tt)) };
    }

abbrev asking_own : List Segment
asking_own = segment (0 ∷ []) asking_body_0 ∷ []

abbrev asking_rest : List Segment
asking_rest = []

abbrev asking_segments : List Segment
asking_segments = segment (0 ∷ []) asking_body_0 ∷ []

asking_held : HeldRises asking_log
asking_held = (tt, ((record { of_helds = tt; of_worths = tt }, tt), ((record { of_helds = (omega arith, tt); of_worths = (omega arith, tt) }, tt), (tt, ((record { of_helds = (omega arith, (omega arith, tt)); of_worths = (omega arith, (omega arith, tt)) }, tt), ((record { of_helds = (omega arith, (omega arith, (omega arith, tt))); of_worths = (omega arith, (omega arith, tt)) }, tt), (tt, tt)))))))

asking_due : IsJudged knapsack 0 plain asking_log
asking_due = record { visits_due = (tt, ((λ ne. record { over_worths = tt; over_held = omega arith }, tt), ((λ ne. record { over_worths = (λ bears. omega arith, tt); over_held = omega arith }, tt), (tt, (tt, (tt, (tt, tt))))))); cuts_below = (λ e. differs (0 ∷ 1 ∷ []) [] e refl refl, (λ e. differs (0 ∷ 2 ∷ []) [] e refl refl, tt)); cuts_permitted = (omega arith, (omega arith, tt)) }

asking_groups : AllByRecursion (λ (s : Segment). HasGroups (SkeletonGroup knapsack (by_steal one)) s.body) asking_own
asking_groups = (((inl refl, tt), ((inl refl, tt), ((inl refl, tt), ((inl refl, tt), ((inl refl, tt), ((inl refl, tt), tt)))))), tt)

asking_skeleton : HasSkeleton knapsack (by_steal one) 2 2 asking_segments
asking_skeleton = record { own = asking_own; rest = asking_rest; own_first = refl; groups = asking_groups; rest_segments = tt; may_rest = inl refl; shape = tt }

pub asking_log-lawful : LawfulLog knapsack 0 (by_steal one) 2 2 asking_log
asking_log-lawful = record { segments = asking_segments; cut_up = refl; each = (asking_segment_0, tt); groups = asking_skeleton; held_rises = asking_held; due = asking_due; alone = λ one. absurd (omega (arith, one)) }
