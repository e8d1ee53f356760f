-- The places of a list that are set anew one by one.
use Rattle.std.proofs.Common.{◌≡◌, ◌≢◌, ℕ, ◌+◌, ◌<◌, ◌≤◌, List, slice_index, slice_set, ap, ◌∙◌, arith}
use Rattle.std.proofs.lemmas.List.{set-get_or}
use Rattle.yew_tsp.specs.declared.nodes.TourNode.{TourNode}
use Rattle.yew_tsp.specs.Nodes.{written}

-- the cities of a node, where the places before this one are set
pub record AreSet (node : TourNode) (place : ℕ) (cities : List ℕ) : Type 0 where
  pub before : place ≤ node.steps → cities ≡ node.cities
  pub behind : node.steps < place → cities ≡ (written node).cities

same : (xs ys : List ℕ) (k c : ℕ) → c ≡ slice_index xs k → xs ≡ ys → slice_set xs k c ≡ ys
same xs ys k c is e = ap (slice_set xs k) is ∙ set-get_or xs k 0 ∙ e

put : (xs ys : List ℕ) (j k c d : ℕ) → j ≡ k → c ≡ d → xs ≡ ys → slice_set xs j c ≡ slice_set ys k d
put xs ys j k c d place city e = cc

module _ (node : TourNode) (place : ℕ) (cities : List ℕ) (city : ℕ) (so_far : AreSet node place cities) where
  -- the place of the last city takes it
  pub set-last : place ≡ node.steps → city ≡ node.last → AreSet node (place + 1) (slice_set cities place city)
  set-last here is = record {
    before = λ l. absurd (omega (arith, l, here));
    behind = λ l. put cities node.cities place node.steps city node.last here is (so_far.before (omega (arith, here)));
  }

  -- another place keeps its city
  pub set-same : place ≢ node.steps → city ≡ slice_index cities place → AreSet node (place + 1) (slice_set cities place city)
  set-same other is = record {
    before = λ l. same cities node.cities place city is (so_far.before (omega (arith, l)));
    behind = λ l. same cities (written node).cities place city is (so_far.behind (omega (arith, l, other)));
  }
