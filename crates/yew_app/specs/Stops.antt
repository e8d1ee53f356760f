-- The reason for which a search that was refused ends a run.
use Rattle.yew_walk.specs.declared.fault.SearchFault.{SearchFault}
use Rattle.yew_walk.specs.declared.fault.SearchFault.TheVariants.{Memory, AuditFull, TooManyTasks}
use Rattle.yew_app.specs.Refusals.{Reason, FullAudit, TaskPastLimit, NoMemory}

abbrev pub search_reason : SearchFault → Reason
search_reason Memory = NoMemory
search_reason (AuditFull worker entries numbers) = FullAudit worker entries numbers
search_reason (TooManyTasks number) = TaskPastLimit number
