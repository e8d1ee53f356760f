-- What a search of each kind answers.
use Rattle.yew_kinds.specs.declared.kind.Kind.{Kind}
use Rattle.yew_kinds.specs.declared.kind.Kind.TheVariants.{Count, Best, Reach, Near}
use Rattle.yew_kinds.specs.declared.kind.Answer.{Answer}
use Rattle.yew_laws.specs.SearchTree.{SearchTree}
use Rattle.yew_walk.specs.Answers.{IsCountAnswer, IsBestAnswer, IsNearAnswer, IsReachAnswer}

-- the answer is of the kind, and right for the tree, whose fold is given
abbrev pub IsAnswer : {N S : Type 0} → SearchTree N → S → Kind → Answer S → Type 0
IsAnswer t fold Count answer = IsCountAnswer fold answer
IsAnswer t fold Best answer = IsBestAnswer t answer
IsAnswer t fold (Reach target) answer = IsReachAnswer t target answer
IsAnswer t fold (Near gap) answer = IsNearAnswer t gap answer
