-- What is gathered of the hands of all workers.
use Rattle.std.specs.Prelude.{◌≡◌, ◌<◌, ◌≤◌, true, false, List, ◌∷◌, ◌++◌}
use Rattle.std.specs.List.{AllByRecursion}
use Rattle.yew_laws.specs.Fold.{fold_of}
use Rattle.yew_walk.specs.declared.hand.Hand.{Hand}

module _ {S : Type 0} where
  -- of these hands, this is the first one that has the greatest key of those that hold
  pub record IsFirstBest (hands : List (Hand S)) (hand : Hand S) : Type 0 where
    pub before : List (Hand S)
    pub after : List (Hand S)
    pub stands : hands ≡ before ++ hand ∷ after
    pub holds : hand.holds ≡ true
    pub earlier : AllByRecursion (λ (h : Hand S). h.holds ≡ true → h.key < hand.key) before
    pub later : AllByRecursion (λ (h : Hand S). h.holds ≡ true → h.key ≤ hand.key) after

  -- none of these hands holds, and this is the first of them
  pub record IsFirstEmpty (hands : List (Hand S)) (hand : Hand S) : Type 0 where
    pub after : List (Hand S)
    pub stands : hands ≡ hand ∷ after
    pub none_holds : AllByRecursion (λ (h : Hand S). h.holds ≡ false) hands

  -- the two name the same node
  pub record IsSameFind (one other : Hand S) : Type 0 where
    pub key : one.key ≡ other.key
    pub path : one.path ≡ other.path

  -- The hand has the sum of all these hands. It holds where one of them does, and then has key and path of the first one that has the greatest key of those that hold; else it has those of the first hand
  pub record IsGathered (join : S → S → S) (none : S) (hands : List (Hand S)) (hand : Hand S) : Type 0 where
    pub sum_is : hand.sum ≡ fold_of join none (λ (h : Hand S). h.sum) hands
    pub held : hand.holds ≡ true → (chosen : Hand S) × IsFirstBest hands chosen × IsSameFind hand chosen
    pub empty : hand.holds ≡ false → (first : Hand S) × IsFirstEmpty hands first × IsSameFind hand first
