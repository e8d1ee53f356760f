use Rattle.yew_ranked.proofs.BegunSearch.{on-ok}
use Rattle.yew_ranked.proofs.ordered.search_items.Goals as goal

pub returns-clause-few : goal.returns-clause-few
returns-clause-few g c = on-ok c.end_search.result c.in_ok-worked.ensures.few
