-- The log is lawful.
use Rattle.std.proofs.Common.{List, [], ◌∷◌, inl, refl, arith}
use Rattle.std.specs.List.{AllByRecursion}
use Rattle.yew_laws.specs.Tree.{tree}
use Rattle.yew_log.specs.Notes.{Note, visited, cut, spawned, ended}
use Rattle.yew_log.specs.Segment.{Segment, segment, IsSegment}
use Rattle.yew_log.specs.HeldValues.{ranked, HeldRises, IsJudged}
use Rattle.yew_log.specs.Groups.{in_order, HasGroups, SkeletonGroup}
use Rattle.yew_log.specs.Lawful.{HasSkeleton, LawfulLog}
use Rattle.yew_rows.specs.Trees.{knapsack}
use Rattle.yew_rows.specs.Logs.{ordered_log}
use Rattle.yew_rows.proofs.Differs.{differs}

abbrev ordered_body_0 : List Note
ordered_body_0 = visited [] 1 0 ∷ spawned (0 ∷ []) ∷ spawned (1 ∷ []) ∷ spawned (2 ∷ []) ∷ spawned (3 ∷ []) ∷ ended [] ∷ []

ordered_segment_0 : IsSegment knapsack (segment [] ordered_body_0)
unfolding tree
ordered_segment_0 =
    record {
      untaken = refl;
      begins = refl;
      rises = (tt, tt);
      parents = ((λ ne. absurd (ne refl), tt), (tt, (tt, (tt, (tt, (tt, tt))))));
      nests = ((record { inside = spawned (0 ∷ []) ∷ spawned (1 ∷ []) ∷ spawned (2 ∷ []) ∷ spawned (3 ∷ []) ∷ []; outside = []; is_ended = refl; one_end = tt; below_inside = tt; none_outside = tt; sent_inside = tt }, tt), (tt, (tt, (tt, (tt, (tt, tt))))));
      ends = (tt, (tt, (tt, (tt, (tt, (((0, omega arith, refl), tt), tt))))));
      all_covered = record { weighs = λ weight. omega arith };
      valued = record { worths = (refl, tt); bounds = tt };
    }

abbrev ordered_body_1 : List Note
ordered_body_1 = visited (0 ∷ []) 51 1 ∷ visited (0 ∷ 0 ∷ []) 91 51 ∷ ended (0 ∷ 0 ∷ []) ∷ cut (0 ∷ 1 ∷ []) 83 91 ∷ cut (0 ∷ 2 ∷ []) 61 91 ∷ ended (0 ∷ []) ∷ []

ordered_segment_1 : IsSegment knapsack (segment (0 ∷ []) ordered_body_1)
unfolding tree
ordered_segment_1 =
    record {
      untaken = refl;
      begins = refl;
      rises = (tt, ((refl, tt), ((refl, (refl, tt)), ((refl, (refl, (refl, tt))), tt))));
      parents = ((λ ne. absurd (ne refl), tt), ((λ ne. (0, omega arith, refl), tt), (tt, ((λ ne. (0, omega arith, refl), tt), ((λ ne. (0, omega arith, refl), tt), (tt, tt))))));
      nests = ((record { inside = visited (0 ∷ 0 ∷ []) 91 51 ∷ ended (0 ∷ 0 ∷ []) ∷ cut (0 ∷ 1 ∷ []) 83 91 ∷ cut (0 ∷ 2 ∷ []) 61 91 ∷ []; outside = []; is_ended = refl; one_end = (λ e. differs (0 ∷ 0 ∷ []) (0 ∷ []) e refl refl, tt); below_inside = (refl, (refl, (refl, (refl, tt)))); none_outside = tt; sent_inside = tt }, tt), ((record { inside = []; outside = cut (0 ∷ 1 ∷ []) 83 91 ∷ cut (0 ∷ 2 ∷ []) 61 91 ∷ ended (0 ∷ []) ∷ []; is_ended = refl; one_end = (λ e. differs (0 ∷ []) (0 ∷ 0 ∷ []) e refl refl, tt); below_inside = tt; none_outside = (refl, (refl, (refl, (refl, tt)))); sent_inside = tt }, tt), (tt, (tt, (tt, (tt, tt))))));
      ends = (tt, (tt, (((1, omega arith, refl), tt), (tt, (tt, (((0, omega arith, refl), tt), tt))))));
      all_covered = record { weighs = λ weight. omega arith };
      valued = record { worths = (refl, (refl, tt)); bounds = (refl, (refl, tt)) };
    }

abbrev ordered_body_2 : List Note
ordered_body_2 = cut (1 ∷ []) 71 91 ∷ []

ordered_segment_2 : IsSegment knapsack (segment (1 ∷ []) ordered_body_2)
unfolding tree
ordered_segment_2 =
    record {
      untaken = refl;
      begins = refl;
      rises = (tt, tt);
      parents = ((λ ne. absurd (ne refl), tt), tt);
      nests = (tt, tt);
      ends = (tt, tt);
      all_covered = record { weighs = λ weight. omega arith };
      valued = record { worths = tt; bounds = (refl, tt) };
    }

abbrev ordered_body_3 : List Note
ordered_body_3 = cut (2 ∷ []) 39 91 ∷ []

ordered_segment_3 : IsSegment knapsack (segment (2 ∷ []) ordered_body_3)
unfolding tree
ordered_segment_3 =
    record {
      untaken = refl;
      begins = refl;
      rises = (tt, tt);
      parents = ((λ ne. absurd (ne refl), tt), tt);
      nests = (tt, tt);
      ends = (tt, tt);
      all_covered = record { weighs = λ weight. omega arith };
      valued = record { worths = tt; bounds = (refl, tt) };
    }

abbrev ordered_body_4 : List Note
ordered_body_4 = cut (3 ∷ []) 11 91 ∷ []

ordered_segment_4 : IsSegment knapsack (segment (3 ∷ []) ordered_body_4)
unfolding tree
ordered_segment_4 =
    record {
      untaken = refl;
      begins = refl;
      rises = (tt, tt);
      parents = ((λ ne. absurd (ne refl), tt), tt);
      nests = (tt, tt);
      ends = (tt, tt);
      all_covered = record { weighs = λ weight. omega arith };
      valued = record { worths = tt; bounds = (refl, tt) };
    }

abbrev ordered_segments : List Segment
ordered_segments = segment [] ordered_body_0 ∷ segment (0 ∷ []) ordered_body_1 ∷ segment (1 ∷ []) ordered_body_2 ∷ segment (2 ∷ []) ordered_body_3 ∷ segment (3 ∷ []) ordered_body_4 ∷ []

ordered_held : HeldRises ordered_log
ordered_held = (tt, ((record { of_helds = tt; of_worths = tt }, tt), (tt, (tt, (tt, (tt, (tt, (tt, ((record { of_helds = (omega arith, tt); of_worths = (omega arith, tt) }, tt), ((record { of_helds = (omega arith, (omega arith, tt)); of_worths = (omega arith, (omega arith, tt)) }, tt), (tt, ((record { of_helds = (omega arith, (omega arith, (omega arith, tt))); of_worths = (omega arith, (omega arith, (omega arith, tt))) }, tt), ((record { of_helds = (omega arith, (omega arith, (omega arith, (omega arith, tt)))); of_worths = (omega arith, (omega arith, (omega arith, tt))) }, tt), (tt, (tt, ((record { of_helds = (omega arith, (omega arith, (omega arith, (omega arith, (omega arith, tt))))); of_worths = (omega arith, (omega arith, (omega arith, tt))) }, tt), (tt, ((record { of_helds = (omega arith, (omega arith, (omega arith, (omega arith, (omega arith, (omega arith, tt)))))); of_worths = (omega arith, (omega arith, (omega arith, tt))) }, tt), (tt, ((record { of_helds = (omega arith, (omega arith, (omega arith, (omega arith, (omega arith, (omega arith, (omega arith, tt))))))); of_worths = (omega arith, (omega arith, (omega arith, tt))) }, tt), tt))))))))))))))))))))

ordered_due : IsJudged knapsack 0 ranked ordered_log
ordered_due = record { visits_due = (tt, ((λ ne. absurd (ne refl), tt), (tt, (tt, (tt, (tt, (tt, (tt, ((λ ne. record { over_worths = (λ bears. omega arith, tt); over_held = omega arith }, tt), ((λ ne. record { over_worths = (λ bears. omega arith, (λ bears. omega arith, tt)); over_held = omega arith }, tt), (tt, (tt, (tt, (tt, (tt, (tt, (tt, (tt, (tt, (tt, tt)))))))))))))))))))); cuts_below = (λ e. differs (0 ∷ 1 ∷ []) [] e refl refl, (λ e. differs (0 ∷ 2 ∷ []) [] e refl refl, (λ e. differs (1 ∷ []) [] e refl refl, (λ e. differs (2 ∷ []) [] e refl refl, (λ e. differs (3 ∷ []) [] e refl refl, tt))))); cuts_permitted = (omega arith, (omega arith, (omega arith, (omega arith, (omega arith, tt))))) }

abbrev ordered_own : List Segment
ordered_own = segment [] ordered_body_0 ∷ segment (0 ∷ []) ordered_body_1 ∷ segment (1 ∷ []) ordered_body_2 ∷ segment (2 ∷ []) ordered_body_3 ∷ segment (3 ∷ []) ordered_body_4 ∷ []

abbrev ordered_rest : List Segment
ordered_rest = []

ordered_groups : AllByRecursion (λ (s : Segment). HasGroups (SkeletonGroup knapsack (in_order 1)) s.body) ordered_own
ordered_groups = (((refl, tt), (tt, (tt, (tt, (tt, ((refl, tt), tt)))))), (((refl, tt), ((refl, tt), ((refl, tt), ((refl, tt), ((refl, tt), ((refl, tt), tt)))))), (((refl, tt), tt), (((refl, tt), tt), (((refl, tt), tt), tt)))))

ordered_skeleton : HasSkeleton knapsack (in_order 1) 1 1 ordered_segments
ordered_skeleton = record { own = ordered_own; rest = ordered_rest; own_first = refl; groups = ordered_groups; rest_segments = tt; may_rest = inl refl; shape = ((tt, ((refl, tt), ((refl, (refl, tt)), ((refl, (refl, (refl, tt))), ((refl, (refl, (refl, (refl, tt)))), tt))))), λ first. (refl, refl)) }

pub ordered_log-lawful : LawfulLog knapsack 0 (in_order 1) 1 1 ordered_log
ordered_log-lawful = record { segments = ordered_segments; cut_up = refl; each = (ordered_segment_0, (ordered_segment_1, (ordered_segment_2, (ordered_segment_3, (ordered_segment_4, tt))))); groups = ordered_skeleton; held_rises = ordered_held; due = ordered_due; alone = λ one. (tt, ((refl, tt), (tt, (tt, (tt, (tt, (tt, (tt, ((refl, tt), ((refl, tt), (tt, ((refl, tt), ((refl, tt), (tt, (tt, ((refl, tt), (tt, ((refl, tt), (tt, ((refl, tt), tt)))))))))))))))))))) }
