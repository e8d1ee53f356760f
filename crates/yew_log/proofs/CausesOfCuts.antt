-- What was read of the incumbent word and offered to it gives each cut its cause.
use Rattle.std.proofs.Common.{◌≡◌, ℕ, ◌≤◌, List, [], ◌∷◌, ◌++◌, cond, ◌==◌, ◌⊎◌, inl, inr, Some, arith}
use Rattle.std.specs.List.{AllByRecursion, Contains}
use Rattle.yew_laws.specs.Bag.{PartOfBag}
use Rattle.yew_laws.specs.SearchTree.{SearchTree, worth_at, bound_at}
use Rattle.yew_laws.proofs.Members.{AllByRecursion-weaker}
use Rattle.yew_laws.proofs.PathTests.{nat_same, nat-is}
use Rattle.yew_laws.proofs.Weights.{contains-weighs, contains-has_weight, part-all}
use Rattle.yew_log.specs.Notes.{Judgement, values, held_values}
use Rattle.yew_log.specs.Attained.{Attained, limit}

module _ {N : Type 0} (t : SearchTree N) (gap : ℕ) where
  held_values-all : (P : ℕ → Type 0) (js : List Judgement) → AllByRecursion P (held_values js) → AllByRecursion (λ j. P j.held) js
  held_values-all P [] a = tt
  held_values-all P (j ∷ js) a = (a.0, held_values-all P js a.1)

  -- the cause of each cut: what was read of the word was 0 or offered to it, what was read are the held values, and what was offered are the worths of the visits
  pub attained-from_seats : (visits cuts : List Judgement) (reads offers : List ℕ) → AllByRecursion (λ v. worth_at t v.path ≡ Some v.value) visits → AllByRecursion (λ c. bound_at t c.path ≡ Some c.value) cuts → AllByRecursion (λ c. c.value ≤ limit gap c.held) cuts → AllByRecursion (λ r. (r ≡ 0) ⊎ Contains offers r) reads → PartOfBag (held_values (visits ++ cuts)) reads → PartOfBag offers (values visits) → Attained t gap visits cuts
  attained-from_seats visits cuts reads offers worths bounds permitted rule of_reads of_offers = record {
    worths = worths;
    bounds = bounds;
    permitted = permitted;
    attained = held_values-all (λ h. (h ≡ 0) ⊎ Contains (values visits) h) (visits ++ cuts)
        (part-all ◌==◌ nat_same nat-is (λ h. (h ≡ 0) ⊎ Contains (values visits) h) of_reads
        (AllByRecursion-weaker (λ r. (r ≡ 0) ⊎ Contains offers r) (λ r. (r ≡ 0) ⊎ Contains (values visits) r)
        (λ r. elim [ inl e ↦ inl e | inr c ↦ inr (offered r c) ]) reads rule));
  }
    where
      offered : (r : ℕ) → Contains offers r → Contains (values visits) r
      offered r c = contains-weighs ◌==◌ nat_same nat-is (values visits) r (let le = of_offers.weighs (λ y. cond (r == y) 1 0) in let has = contains-has_weight ◌==◌ nat_same nat-is offers r c in omega (arith, le, has))
