-- The facts of a shape, where a node is sound only beside another fact that all nodes share.
use Rattle.std.specs.Prelude.{ℕ, List, [], ◌∷◌}
use Rattle.std.specs.List.{AllByRecursion}
use Rattle.yew_laws.specs.Tree.{IsRanked, IsBounded}

all-both : {N : Type 0} (P : N → Type 0) (F : Type 0) → F → (nodes : List N) → AllByRecursion P nodes → AllByRecursion (λ n. P n × F) nodes
all-both P F fact [] all = tt
all-both P F fact (n ∷ nodes) all = ((all.0, fact), all-both P F fact nodes all.1)

module _ {N : Type 0} {sound : N → Type 0} {children : N → List N} {F : Type 0} where
  pub both-ranked : {rank : N → ℕ} → IsRanked sound children rank → IsRanked (λ n. sound n × F) children rank
  both-ranked ranked = record {
    stays_sound = λ n both. all-both sound F both.1 (children n) (ranked.stays_sound n both.0);
    rank_falls = λ n both. ranked.rank_falls n both.0;
  }

  pub both-bounded : {worth bound : N → ℕ} → IsBounded sound children worth bound → IsBounded (λ n. sound n × F) children worth bound
  both-bounded bounded = record {
    bounds = λ n m path both at. bounded.bounds n m path both.0 at;
    fits = λ n both. bounded.fits n both.0;
  }
