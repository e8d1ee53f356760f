use Rattle.std.proofs.Common.{◌≡◌, ◌++◌, take}
use Rattle.std.specs.Prelude.{flat_map, codes}
use Rattle.yew_lines.specs.Spelling.{spaced}
use Rattle.yew_flow.proofs.texts.push_jobs.Given as goal

-- the word and the first jobs are there
abbrev pub invariant-loop-job : goal.invariant-loop-job
invariant-loop-job l = l.out.items ≡ l.fn.out.items ++ (codes "order" ++ flat_map spaced (take l.job-index l.jobs))
