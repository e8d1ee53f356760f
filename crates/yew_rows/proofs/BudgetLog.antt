-- The log is lawful.
use Rattle.std.proofs.Common.{List, [], ◌∷◌, inl, refl, arith}
use Rattle.std.specs.List.{AllByRecursion}
use Rattle.yew_laws.specs.Tree.{tree}
use Rattle.yew_log.specs.Notes.{Note, visited, spawned, ended}
use Rattle.yew_log.specs.Segment.{Segment, segment, IsSegment}
use Rattle.yew_log.specs.HeldValues.{plain, HeldRises, IsJudged}
use Rattle.yew_log.specs.Groups.{by_budget, HasGroups, SkeletonGroup}
use Rattle.yew_log.specs.Lawful.{HasSkeleton, LawfulLog}
use Rattle.yew_rows.specs.Trees.{semigroups}
use Rattle.yew_rows.specs.Logs.{budget_log}
use Rattle.yew_rows.proofs.Differs.{differs}

abbrev budget_body_0 : List Note
budget_body_0 = visited [] 0 0 ∷ visited (0 ∷ []) 0 0 ∷ visited (0 ∷ 0 ∷ []) 0 0 ∷ ended (0 ∷ 0 ∷ []) ∷ spawned (0 ∷ 1 ∷ []) ∷ ended (0 ∷ []) ∷ ended [] ∷ []

budget_segment_0 : IsSegment semigroups (segment [] budget_body_0)
unfolding tree
budget_segment_0 =
    record {
      untaken = refl;
      begins = refl;
      rises = (tt, ((refl, tt), ((refl, (refl, tt)), tt)));
      parents = ((λ ne. absurd (ne refl), tt), ((λ ne. (0, omega arith, refl), tt), ((λ ne. (1, omega arith, refl), tt), (tt, (tt, (tt, (tt, tt)))))));
      nests = ((record { inside = visited (0 ∷ []) 0 0 ∷ visited (0 ∷ 0 ∷ []) 0 0 ∷ ended (0 ∷ 0 ∷ []) ∷ spawned (0 ∷ 1 ∷ []) ∷ ended (0 ∷ []) ∷ []; outside = []; is_ended = refl; one_end = (λ e. differs (0 ∷ 0 ∷ []) [] e refl refl, (λ e. differs (0 ∷ []) [] e refl refl, tt)); below_inside = (refl, (refl, (refl, (refl, tt)))); none_outside = tt; sent_inside = tt }, tt), ((record { inside = visited (0 ∷ 0 ∷ []) 0 0 ∷ ended (0 ∷ 0 ∷ []) ∷ spawned (0 ∷ 1 ∷ []) ∷ []; outside = ended [] ∷ []; is_ended = refl; one_end = (λ e. differs (0 ∷ 0 ∷ []) (0 ∷ []) e refl refl, (λ e. differs [] (0 ∷ []) e refl refl, tt)); below_inside = (refl, (refl, tt)); none_outside = (refl, (refl, tt)); sent_inside = tt }, tt), ((record { inside = []; outside = spawned (0 ∷ 1 ∷ []) ∷ ended (0 ∷ []) ∷ ended [] ∷ []; is_ended = refl; one_end = (λ e. differs (0 ∷ []) (0 ∷ 0 ∷ []) e refl refl, (λ e. differs [] (0 ∷ 0 ∷ []) e refl refl, tt)); below_inside = tt; none_outside = (refl, (refl, (refl, (refl, tt)))); sent_inside = (refl, tt) }, tt), (tt, (tt, (tt, (tt, tt)))))));
      ends = (tt, (tt, (tt, (((2, omega arith, refl), tt), (tt, (((1, omega arith, refl), tt), (((0, omega arith, refl), tt), tt)))))));
      all_covered = record { weighs = λ weight. omega arith };
      valued = record { worths = (refl, (refl, (refl, tt))); bounds = tt };
    }

abbrev budget_body_1 : List Note
budget_body_1 = visited (0 ∷ 1 ∷ []) 0 0 ∷ ended (0 ∷ 1 ∷ []) ∷ []

budget_segment_1 : IsSegment semigroups (segment (0 ∷ 1 ∷ []) budget_body_1)
unfolding tree
budget_segment_1 =
    record {
      untaken = refl;
      begins = refl;
      rises = (tt, tt);
      parents = ((λ ne. absurd (ne refl), tt), (tt, tt));
      nests = ((record { inside = []; outside = []; is_ended = refl; one_end = tt; below_inside = tt; none_outside = tt; sent_inside = tt }, tt), (tt, tt));
      ends = (tt, (((0, omega arith, refl), tt), tt));
      all_covered = record { weighs = λ weight. omega arith };
      valued = record { worths = (refl, tt); bounds = tt };
    }

abbrev budget_segments : List Segment
budget_segments = segment [] budget_body_0 ∷ segment (0 ∷ 1 ∷ []) budget_body_1 ∷ []

budget_held : HeldRises budget_log
budget_held = (tt, ((record { of_helds = tt; of_worths = tt }, tt), ((record { of_helds = (omega arith, tt); of_worths = (omega arith, tt) }, tt), ((record { of_helds = (omega arith, (omega arith, tt)); of_worths = (omega arith, (omega arith, tt)) }, tt), (tt, (tt, (tt, (tt, (tt, ((record { of_helds = (omega arith, (omega arith, (omega arith, tt))); of_worths = (omega arith, (omega arith, (omega arith, tt))) }, tt), (tt, tt)))))))))))

budget_due : IsJudged semigroups 0 plain budget_log
budget_due = record { visits_due = (tt, ((λ ne. absurd (ne refl), tt), ((λ ne. record { over_worths = (λ bears. omega arith, tt); over_held = omega arith }, tt), ((λ ne. record { over_worths = (λ bears. omega arith, (λ bears. omega arith, tt)); over_held = omega arith }, tt), (tt, (tt, (tt, (tt, (tt, ((λ ne. record { over_worths = (λ bears. omega arith, (λ bears. omega arith, (λ bears. omega arith, tt))); over_held = omega arith }, tt), (tt, tt))))))))))); cuts_below = tt; cuts_permitted = tt }

abbrev budget_own : List Segment
budget_own = segment [] budget_body_0 ∷ segment (0 ∷ 1 ∷ []) budget_body_1 ∷ []

abbrev budget_rest : List Segment
budget_rest = []

budget_groups : AllByRecursion (λ (s : Segment). HasGroups (SkeletonGroup semigroups (by_budget 1)) s.body) budget_own
budget_groups = (((refl, tt), ((refl, tt), ((refl, tt), ((refl, tt), (tt, ((refl, tt), ((refl, tt), tt))))))), (((refl, tt), ((refl, tt), tt)), tt))

budget_skeleton : HasSkeleton semigroups (by_budget 1) 1 1 budget_segments
budget_skeleton = record { own = budget_own; rest = budget_rest; own_first = refl; groups = budget_groups; rest_segments = tt; may_rest = inl refl; shape = tt }

pub budget_log-lawful : LawfulLog semigroups 0 (by_budget 1) 1 1 budget_log
budget_log-lawful = record { segments = budget_segments; cut_up = refl; each = (budget_segment_0, (budget_segment_1, tt)); groups = budget_skeleton; held_rises = budget_held; due = budget_due; alone = λ one. (tt, ((refl, tt), ((refl, tt), ((refl, tt), (tt, (tt, (tt, (tt, (tt, ((refl, tt), (tt, tt))))))))))) }
