use Rattle.yew_make.proofs.KnapsackFiles.{made_knapsack_law}
use Rattle.yew_make.proofs.laws.made_knapsack.Goals as goal

pub returns : goal.returns
returns c = made_knapsack_law
