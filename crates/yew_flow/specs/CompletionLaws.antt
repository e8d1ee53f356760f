-- When the jobs of a list are done, one job after another.
use Rattle.std.specs.Prelude.{◌≡◌, ℕ, ◌+◌, ◌<◌, ◌≤◌, max, List, [], ◌∷◌, ◌++◌, length, take, drop, map, sum_by, slice_index, refl}
use Rattle.std.specs.List.{AllByRecursion, range_with_len}
use Rattle.std.proofs.Common.{zero, suc, ap, ap₂, sym, subst, ◌∙◌, arith, get_or}
use Rattle.std.proofs.Math.Seq.{get_or-append_seam}
use Rattle.std.proofs.lemmas.List.{get_or-take, get_or_append_left, length_push, length-append, length-drop, take-append-le}
use Rattle.std.proofs.lemmas.List.FromFn.{get_or-map-range_with_len, length-map-range_with_len}
use Rattle.std.proofs.lemmas.List.Sums.{sum_by-cons}
use Rattle.yew_flow.specs.Instance.{Instance, time_on}
use Rattle.yew_flow.specs.Lists.{range-all}
use Rattle.yew_flow.specs.Nodes.{all_machines, completed, with_machines, done_on}
use Rattle.yew_flow.specs.Orders.{completion}

-- ---- rows of numbers, one for each machine

pub map-agree : (f g : ℕ → ℕ) (xs : List ℕ) → AllByRecursion (λ x. f x ≡ g x) xs → map f xs ≡ map g xs
map-agree f g [] a = refl
map-agree f g (x ∷ xs) a = ap₂ (λ y ys. y ∷ ys) a.0 (map-agree f g xs a.1)

pub machines-agree : (instance : Instance) (f g : ℕ → ℕ) → ((j : ℕ) → j < instance.machines → f (suc j) ≡ g (suc j)) → map f (all_machines instance) ≡ map g (all_machines instance)
machines-agree instance f g h =
    map-agree f g (all_machines instance) (range-all (λ j. f j ≡ g j) 1 instance.machines (λ j l m. at j l (omega (arith, m))))
  where
    at : (j : ℕ) → 1 ≤ j → j ≤ instance.machines → f j ≡ g j
    at zero l m = absurd (omega (arith, l))
    at (suc j) l m = h j (omega (arith, m))

-- the number of a machine in a row that begins with these
pub row-at : (instance : Instance) (row : List ℕ) (f : ℕ → ℕ) (j : ℕ) → take instance.machines row ≡ map f (all_machines instance) → j < instance.machines → slice_index row j ≡ f (suc j)
row-at instance row f j e l =
    let next : 1 + j ≡ suc j = omega arith in
    sym (get_or-take instance.machines row j 0 l) ∙ ap (λ xs. get_or xs j 0) e ∙ get_or-map-range_with_len f 1 instance.machines j (suc j) 0 l next

pub row-front : (instance : Instance) (row : List ℕ) (f : ℕ → ℕ) → take instance.machines (with_machines instance row f) ≡ map f (all_machines instance)
row-front instance row f =
    let long = length-map-range_with_len f 1 instance.machines in
    take-append-le instance.machines (map f (all_machines instance)) (drop instance.machines row) (omega (arith, long))
    ∙ ap (λ k. take k (map f (all_machines instance))) (sym long)
    ∙ take-all (map f (all_machines instance))
  where
    take-all : (xs : List ℕ) → take (length xs) xs ≡ xs
    take-all [] = refl
    take-all (x ∷ xs) = ap (λ ys. x ∷ ys) (take-all xs)

pub row-size : (instance : Instance) (row : List ℕ) (f : ℕ → ℕ) → instance.machines ≤ length row → length (with_machines instance row f) ≡ length row
row-size instance row f few =
    let long = length-map-range_with_len f 1 instance.machines in
    let both = length-append (map f (all_machines instance)) (drop instance.machines row) in
    let rest = length-drop instance.machines row in
    omega (arith, long, both, rest, few)

-- ---- one more job

module _ (instance : Instance) where
  -- jobs behind the first k change nothing of these
  pub completion-front : (xs ys : List ℕ) (k j : ℕ) → k ≤ length xs → completion instance (xs ++ ys) k j ≡ completion instance xs k j
  completion-front xs ys zero j l = refl
  completion-front xs ys (suc k) zero l = refl
  completion-front xs ys (suc k) (suc j) l =
      let above = completion-front xs ys k (suc j) (omega (arith, l)) in
      let before = completion-front xs ys (suc k) j l in
      let time : time_on instance (slice_index (xs ++ ys) k) (suc j) ≡ time_on instance (slice_index xs k) (suc j) = ap (λ job. time_on instance job (suc j)) (get_or_append_left xs ys 0 k (omega (arith, l))) in
      ap₂ (λ a b. max a b + time_on instance (slice_index (xs ++ ys) k) (suc j)) above before
      ∙ ap (λ t. max (completion instance xs k (suc j)) (completion instance xs (suc k) j) + t) time

  pub completion-zero : (xs : List ℕ) (k : ℕ) → completion instance xs k zero ≡ 0
  completion-zero xs zero = refl
  completion-zero xs (suc k) = refl

  length-more : (xs : List ℕ) (c : ℕ) → length (xs ++ c ∷ []) ≡ suc (length xs)
  length-more xs c = let e = length_push xs c in omega (arith, e)

  pub completed-push : (xs : List ℕ) (c j : ℕ) → completed instance (xs ++ c ∷ []) (suc j) ≡ max (completed instance xs (suc j)) (completed instance (xs ++ c ∷ []) j) + time_on instance c (suc j)
  completed-push xs c j =
      let all = xs ++ c ∷ [] in
      let n = length xs in
      let above = completion-front xs (c ∷ []) n (suc j) (omega arith) in
      let before : completion instance all (suc n) j ≡ completed instance all j = ap (λ k. completion instance all k j) (sym (length-more xs c)) in
      ap (λ k. completion instance all k (suc j)) (length-more xs c)
      ∙ ap₂ (λ a b. max a b + time_on instance (slice_index all n) (suc j)) above before
      ∙ ap (λ job. max (completed instance xs (suc j)) (completed instance all j) + time_on instance job (suc j)) (get_or-append_seam xs c [] 0)

  -- what is computed from the row of a list is the row of the list with one more job
  pub done-completed : (xs ends : List ℕ) (c j : ℕ) → take instance.machines ends ≡ map (completed instance xs) (all_machines instance) → j ≤ instance.machines
      → done_on instance ends c j ≡ completed instance (xs ++ c ∷ []) j
  done-completed xs ends c zero e l = sym (completion-zero (xs ++ c ∷ []) (length (xs ++ c ∷ [])))
  done-completed xs ends c (suc j) e l =
      ap₂ (λ a b. max a b + time_on instance c (suc j)) (row-at instance ends (completed instance xs) j e (omega (arith, l))) (done-completed xs ends c j e (omega (arith, l)))
      ∙ sym (completed-push xs c j)

  -- ---- later machines are done later

  pub completion-rising : (xs : List ℕ) (k j : ℕ) → completion instance xs k j ≤ completion instance xs k (suc j)
  completion-rising xs zero j = omega arith
  completion-rising xs (suc k) j = omega arith

  pub completion-rises : (xs : List ℕ) (k j i : ℕ) → completion instance xs k j ≤ completion instance xs k (j + i)
  completion-rises xs k j zero = let e : j + 0 ≡ j = omega arith in subst (λ h. completion instance xs k j ≤ completion instance xs k h) (sym e) (omega arith)
  completion-rises xs k j (suc i) =
      let e : j + suc i ≡ suc (j + i) = omega arith in
      let so_far = completion-rises xs k j i in
      let step = completion-rising xs k (j + i) in
      subst (λ h. completion instance xs k j ≤ completion instance xs k h) (sym e) (omega (arith, so_far, step))

  -- the times of the last job on some machines in a row
  pub last-rises : (xs : List ℕ) (c j i : ℕ) → completed instance (xs ++ c ∷ []) j + sum_by (time_on instance c) (range_with_len (j + 1) i) ≤ completed instance (xs ++ c ∷ []) (j + i)
  last-rises xs c j zero = let e : j + 0 ≡ j = omega arith in subst (λ h. completed instance (xs ++ c ∷ []) j + 0 ≤ completed instance (xs ++ c ∷ []) h) (sym e) (omega arith)
  last-rises xs c j (suc i) =
      let all = xs ++ c ∷ [] in
      let first = sum_by-cons (time_on instance c) (j + 1) (range_with_len (j + 1 + 1) i) in
      let next : j + 1 ≡ suc j = omega arith in
      let step = completed-push xs c j in
      let same : time_on instance c (j + 1) ≡ time_on instance c (suc j) = ap (time_on instance c) next in
      let rest : completed instance all (suc j) + sum_by (time_on instance c) (range_with_len (j + 1 + 1) i) ≤ completed instance all (suc j + i) =
      subst (λ h. completed instance all h + sum_by (time_on instance c) (range_with_len (j + 1 + 1) i) ≤ completed instance all (h + i)) next (last-rises xs c (j + 1) i) in
      let end : j + suc i ≡ suc j + i = omega arith in
      subst (λ h. completed instance all j + sum_by (time_on instance c) (range_with_len (j + 1) (suc i)) ≤ completed instance all h) (sym end) (omega (arith, first, step, same, rest))
