use Rattle.std.proofs.Common.{ℕ, List, Option, Some, None, ◌≡◌, refl}
use Rattle.std.specs.Prelude.{IfSome}
use Rattle.yew_laws.specs.Greatest.{first_best}
use Rattle.yew_laws.specs.SearchTree.{search_tree}
use Rattle.yew_ranked.specs.RankedSearch.{IsFirstBestVisit}
use Rattle.yew_ranked.proofs.FirstBestVisits.{first-best-visit}
use Rattle.yew_ranked.proofs.RankedAnswers.{answer-is_first}
use Rattle.yew_ranked.proofs.laws.ranked_keys_find_the_first.Goals as goal

at_first : (P : List ℕ → Type 0) (o : Option (List ℕ)) → ((path : List ℕ) → o ≡ Some path → P path) → IfSome o P
at_first P None f = tt
at_first P (Some path) f = f path refl

pub returns : goal.returns
returns g c =
    let problem = c.args.problem.now in let meaning = g.P.Problem in
    let t = search_tree meaning problem in
    record {
      visit = λ visits cuts is. at_first (IsFirstBestVisit t visits) (first_best t) (λ path e. first-best-visit t (meaning.ranked problem) c.requires (meaning.bounded problem) is path e);
      answer = λ visits cuts is order. answer-is_first t (meaning.ranked problem) c.requires (meaning.bounded problem) is order;
    }
