-- The grammar of files of flow shops: their numbers are whole, and whole numbers are a file.
use Rattle.std.proofs.Common.{◌≡◌, ℕ, suc, ◌+◌, ◌*◌, ◌<◌, ◌≤◌, Bool, cond, ltb, List, [], ◌∷◌, ◌++◌, length, refl, sym, subst, arith, inl, inr}
use Rattle.std.specs.List.{AllZip, AllByRecursion}
use Rattle.std.proofs.lemmas.Bool.{cases_Bool, ltb-true, ltb-false, lt-ltb, le-ltb}
use Rattle.std.proofs.lemmas.List.{length-append}
use Rattle.yew_text.specs.Words.{TextWord}
use Rattle.yew_text.specs.Numbers.{greatest, IsNumber}
use Rattle.yew_text.specs.Grammar.{Due, DueBelow, DueEnd, due_number, Fits, IsBounded, AreDue, IsWhole}
use Rattle.yew_text.proofs.Readings.{all_fit}
use Rattle.yew_flow.specs.Files.{flow_shape}

pub bounds : IsBounded flow_shape
bounds [] fit = omega arith
bounds (n ∷ []) fit = omega arith
bounds (n ∷ m ∷ times) fit = elim (cases_Bool (ltb (length times) (n * m))) [ inl lt ↦ rw lt (omega arith) | inr ge ↦ rw ge tt ]

more : (n m : ℕ) (done : List ℕ) → length done < n * m → flow_shape (n ∷ m ∷ done) ≡ due_number
more n m done lt = rw (lt-ltb (length done) (n * m) lt) refl

times_due : (n m : ℕ) (done rest : List ℕ) → length done + length rest ≡ n * m → AllByRecursion (λ k. k ≤ greatest) rest → AreDue flow_shape (n ∷ m ∷ done) rest
times_due n m done [] e fit = tt
times_due n m done (t ∷ rest) e fit = (
  subst (λ (d : Due). Fits d t) (sym (more n m done (omega (arith, e)))) (let small = fit.0 in let below : t < suc greatest = omega arith in below),
  times_due n m (done ++ t ∷ []) rest (omega (arith, e, length-append done (t ∷ []))) fit.1,
)

-- as many times as are due are a whole file
pub whole_of : (words : List TextWord) (n m : ℕ) (times : List ℕ) → AllZip IsNumber words (n ∷ m ∷ times) → length times ≡ n * m → IsWhole flow_shape words (n ∷ m ∷ times)
whole_of words n m times h count =
    let fit = all_fit words (n ∷ m ∷ times) h in
    record {
      are_numbers = h;
      are_due = (within n fit.0, (within m fit.1.0, times_due n m [] times (omega (arith, count)) fit.1.1));
      ends = rw (le-ltb (length times) (n * m) (omega (arith, count))) refl;
    }
  where
    within : (k : ℕ) → k ≤ greatest → k < suc greatest
    within k l = omega arith

times_few : (n m : ℕ) (done rest : List ℕ) → length done ≤ n * m → AreDue flow_shape (n ∷ m ∷ done) rest → length done + length rest ≤ n * m
times_few n m done [] few due = omega (arith, few)
times_few n m done (t ∷ rest) few due =
    elim (cases_Bool (ltb (length done) (n * m))) [
      | inl lt ↦ let l : length done < n * m = ltb-true _ _ lt in let long = length-append done (t ∷ []) in let p = times_few n m (done ++ t ∷ []) rest (omega (arith, l, long)) due.1 in omega (arith, p, long)
      | inr ge ↦ absurd (let none : ⊥ = subst (λ (b : Bool). Fits (cond b due_number DueEnd) t) ge due.0 in none)
    ]

-- two numbers, and as many times as they say
pub record Written (numbers : List ℕ) : Type 0 where
  pub jobs : ℕ
  pub machines : ℕ
  pub times : List ℕ
  pub is : numbers ≡ jobs ∷ machines ∷ times
  pub count : length times ≡ jobs * machines

not_due : {A : Type 0} (limit : ℕ) → DueBelow limit ≡ DueEnd → A
not_due limit e = absurd cc

pub written : (numbers : List ℕ) → AreDue flow_shape [] numbers → flow_shape numbers ≡ DueEnd → Written numbers
written [] due ends = not_due (suc greatest) ends
written (n ∷ []) due ends = not_due (suc greatest) ends
written (n ∷ m ∷ times) due ends =
    let few = times_few n m [] times (omega arith) due.1.1 in
    elim (cases_Bool (ltb (length times) (n * m))) [
      | inl lt ↦ not_due (suc greatest) (subst (λ (b : Bool). cond b due_number DueEnd ≡ DueEnd) lt ends)
      | inr ge ↦ let l : n * m ≤ length times = ltb-false _ _ ge in record { jobs = n; machines = m; times = times; is = refl; count = omega (arith, few, l) }
    ]
