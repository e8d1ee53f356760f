-- Why the wrong logs are not lawful.
use Rattle.std.proofs.Common.{[], ◌∷◌, inl, inr, refl, arith}
use Rattle.yew_laws.specs.Order.{only}
use Rattle.yew_laws.specs.Tree.{tree}
use Rattle.yew_log.specs.Groups.{sequential, one, by_depth, by_budget, by_steal, in_order}
use Rattle.yew_log.specs.HeldValues.{plain}
use Rattle.yew_log.specs.Lawful.{LawfulLog, IsBrokenWalk}
use Rattle.yew_log.proofs.Ends.{enclosed-ends}
use Rattle.yew_log.proofs.KnownPaths.{IsBrokenWalk-known}
use Rattle.yew_log.proofs.LawfulParts.{each, shape, groups-without_rest}
use Rattle.yew_rows.specs.Logs.{depth_log, gap_log}
use Rattle.yew_rows.specs.Trees.{knapsack, semigroups}
use Rattle.yew_rows.proofs.Differs.{differs}
use Rattle.yew_rows.specs.WrongLogs.{cut_dropped, held_falls, cut_above, ended_twice, early_group, held_inexact, visit_not_due, tasks_fall, two_handed, missing_child}

pub cut_dropped-refused : LawfulLog knapsack 0 sequential 1 1 cut_dropped → ⊥
unfolding tree
cut_dropped-refused l = let e = (each l).0.all_covered.weighs (only (1 ∷ [])) in omega (arith, e)

pub held_falls-refused : LawfulLog knapsack 0 sequential 1 1 held_falls → ⊥
held_falls-refused l = let e = l.held_rises.1.1.1.1.1.1.1.1.1.0.0.of_helds.1.1.1.1.1.0 in omega (arith, e)

pub cut_above-refused : LawfulLog knapsack 0 sequential 1 1 cut_above → ⊥
cut_above-refused l = let e = l.due.cuts_permitted.0 in omega (arith, e)

pub ended_twice-refused : LawfulLog knapsack 0 sequential 1 1 ended_twice → ⊥
ended_twice-refused l = let e = enclosed-ends (0 ∷ 0 ∷ []) _ _ ((each l).0.nests.1.1.0.0) in omega (arith, e)

pub early_group-refused : LawfulLog semigroups 0 (by_budget 1) 1 1 early_group → ⊥
early_group-refused l = let e = (groups-without_rest l (λ m. omega (arith, m))).0.1.1.0.0 in cc

pub held_inexact-refused : LawfulLog knapsack 0 sequential 1 1 held_inexact → ⊥
held_inexact-refused l = let e = (l.alone refl).1.1.1.1.1.1.1.1.1.1.0.0 in omega (arith, e)

pub visit_not_due-refused : LawfulLog knapsack 0 sequential 1 1 visit_not_due → ⊥
visit_not_due-refused l = let e = (l.due.visits_due.1.1.1.1.1.1.1.1.0.0 (λ e. differs (1 ∷ []) [] e refl refl)).over_held in omega (arith, e)

pub tasks_fall-refused : LawfulLog knapsack 0 (in_order 1) 1 1 tasks_fall → ⊥
tasks_fall-refused l = let e = (shape l).0.1.1.1.0.1.1.0 in cc

pub two_handed-refused : LawfulLog knapsack 0 (by_steal one) 1 1 two_handed → ⊥
two_handed-refused l = elim (groups-without_rest l (λ m. omega (arith, m.0))).0.0.0 [ inl e ↦ cc | inr e ↦ cc ]

-- a task of depth 1 is walked without the group of a depth of 2, and with one worker it is no segment of rest
pub group_missing-refused : LawfulLog semigroups 0 (by_depth 2) 1 1 depth_log → ⊥
group_missing-refused l = let e = (groups-without_rest l (λ m. omega (arith, m.0))).1.0.0.0 in cc

pub missing_child-refused : IsBrokenWalk semigroups 0 plain [] missing_child → ⊥
missing_child-refused w = let e = (IsBrokenWalk-known semigroups 0 plain [] missing_child w).of_tree.1.1.0 in cc

pub gap-refused : LawfulLog knapsack 0 sequential 1 1 gap_log → ⊥
gap-refused l = let e = l.due.cuts_permitted.0 in omega (arith, e)
