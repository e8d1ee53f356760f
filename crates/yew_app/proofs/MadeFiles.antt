-- A made text is read as the made instance.
use Rattle.std.proofs.Common.{◌≡◌, ℕ, List, sym, subst}
use Rattle.yew_text.specs.declared.text.FileEnd.{FileEnd}
use Rattle.yew_text.specs.declared.text.FileEnd.TheVariants as ends
use Rattle.yew_words.specs.declared.plan.Made.TheVariants as made
use Rattle.yew_knap.specs.Files as knap
use Rattle.yew_knap.specs.Instance.{Instance}
use Rattle.yew_make.specs.Knapsacks.{made_knapsack}
use Rattle.yew_make.specs.Laws.{MadeKnapsack, MadeTour}
use Rattle.yew_make.specs.Texts.{made_text}
use Rattle.yew_make.specs.Tours.{made_tours}
use Rattle.yew_tsp.specs.Files as tsp
use Rattle.yew_tsp.specs.Instance.{Instance as ToursInstance}
use Rattle.yew_app.specs.Knapsacks.{IsGoodKnapsack}
use Rattle.yew_app.specs.ShortestTours.{IsGoodTours}
use Rattle.yew_app.proofs.FileKinds.{knapsack_laws, knapsack_end, tour_laws, tour_end}
use Rattle.yew_app.proofs.FileReasons.{good-end}

-- a made knapsack is a good file
pub knapsack-good : (seed size : ℕ) → MadeKnapsack seed size → IsGoodKnapsack (made_text made.Knapsack seed size) (made_knapsack seed size)
knapsack-good seed size law = (law.file, law.limits)

pub knapsack-read : knap.FileLaws → (seed size : ℕ) → MadeKnapsack seed size → (bytes : List ℕ) → bytes ≡ made_text made.Knapsack seed size → (instance : Instance) → knap.IsKnapsackFile bytes instance → instance ≡ made_knapsack seed size
knapsack-read laws seed size law bytes is instance file = laws.one_instance bytes instance (made_knapsack seed size) file (subst (λ (b : List ℕ). knap.IsKnapsackFile b (made_knapsack seed size)) (sym is) law.file)

pub knapsack-ends : knap.FileLaws → (seed size : ℕ) → MadeKnapsack seed size → (bytes : List ℕ) → bytes ≡ made_text made.Knapsack seed size → (end : FileEnd) → knap.EndsReading bytes end → end ≡ ends.Memory
knapsack-ends laws seed size law bytes is end reading =
    good-end IsGoodKnapsack knap.IsKnapsackOffence knap.IsPastLimit (knapsack_laws laws) bytes (made_knapsack seed size) end
    (subst (λ (b : List ℕ). IsGoodKnapsack b (made_knapsack seed size)) (sym is) (knapsack-good seed size law)) (knapsack_end bytes end reading)

-- made tours are a good file
pub tours-good : (seed size : ℕ) → MadeTour seed size → IsGoodTours (made_text made.Tsp seed size) (made_tours seed size)
tours-good seed size law = record { is_file = law.file; none_past = law.none_past; within = law.limits }

pub tours-read : tsp.FileLaws → (seed size : ℕ) → MadeTour seed size → (bytes : List ℕ) → bytes ≡ made_text made.Tsp seed size → (instance : ToursInstance) → tsp.IsTourFile bytes instance → instance ≡ made_tours seed size
tours-read laws seed size law bytes is instance file = laws.one_instance bytes instance (made_tours seed size) file (subst (λ (b : List ℕ). tsp.IsTourFile b (made_tours seed size)) (sym is) law.file)

pub tours-ends : tsp.FileLaws → (seed size : ℕ) → MadeTour seed size → (bytes : List ℕ) → bytes ≡ made_text made.Tsp seed size → (end : FileEnd) → tsp.EndsReading bytes end → end ≡ ends.Memory
tours-ends laws seed size law bytes is end reading =
    good-end IsGoodTours tsp.IsTourOffence tsp.IsPastLimit (tour_laws laws) bytes (made_tours seed size) end
    (subst (λ (b : List ℕ). IsGoodTours b (made_tours seed size)) (sym is) (tours-good seed size law)) (tour_end bytes end reading)
