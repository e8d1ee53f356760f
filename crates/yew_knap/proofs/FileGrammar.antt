-- The laws of knapsack files.
use Rattle.std.proofs.Common.{◌≡◌, ℕ, zero, suc, ◌+◌, ◌*◌, ◌<◌, ◌≤◌, ◌⊎◌, Bool, true, false, cond, ltb, List, [], ◌∷◌, ◌++◌, length, Some, None, Result, Ok, Err, if◌then◌else◌, refl, sym, ap, ap₂, subst, ◌∙◌, arith, inl, inr}
use Rattle.std.specs.Prelude.{flat_map, bytes_eq, codes, MatchResult}
use Rattle.std.specs.List.{AllZip, AllByRecursion}
use Rattle.std.proofs.lemmas.Bool.{cases_Bool, cases_eq, ltb-true, ltb-false, lt-ltb, le-leb, le-ltb, true≢false}
use Rattle.std.proofs.lemmas.Slice.Eq.{bytes_eq-Decides}
use Rattle.std.proofs.lemmas.List.{length-append}
use Rattle.std.proofs.lemmas.List.Sums.{sum_by-cons}
use Rattle.yew_text.specs.declared.text.TextKind.{TextKind}
use Rattle.yew_text.specs.declared.text.TextKind.TheVariants.{EndsEarly, BadLine}
use Rattle.yew_text.specs.Words.{TextWord, words_of, end_line}
use Rattle.yew_text.specs.Numbers.{greatest, is_digits, value_of, IsNumber, Fault, number_in, first_number}
use Rattle.yew_text.specs.Grammar.{Due, DueBelow, DueEnd, due_number, Fits, IsBounded, AreDue, IsWhole, Limited, is_past, first_past}
use Rattle.yew_text.proofs.Readings.{fault, one_offence, not_both, one_list, all_fit, either_of}
use Rattle.yew_text.proofs.Steps.{number_is}
use Rattle.yew_knap.specs.declared.form.Form.{Form}
use Rattle.yew_knap.specs.declared.form.Form.TheVariants.{Pairs, Triples}
use Rattle.yew_knap.specs.declared.knapsack.Item.{Item}
use Rattle.yew_knap.specs.Files.{width, item_numbers, instance_numbers, knapsack_shape, limits_from, instance_limits, form_of, IsOfForm, IsBody, IsBodyOffence, IsFormOffence, IsTriplesFile, IsTriplesOffence, IsFileOf, IsOffenceOf, FileLaws}
use Rattle.yew_knap.specs.Instance.{Instance, IsSmallItem, IsWithinLimits, copies_in}
use Rattle.yew_knap.proofs.ItemSteps.{length-numbers}

pub bounds : (form : Form) → IsBounded (knapsack_shape form)
bounds form [] fit = omega arith
bounds form (n ∷ []) fit = omega arith
bounds form (n ∷ c ∷ rest) fit = elim (cases_Bool (ltb (length rest) (width form * n))) [ inl lt ↦ rw lt (omega arith) | inr ge ↦ rw ge tt ]

module _ (form : Form) (n c : ℕ) where
  more : (done : List ℕ) → length done < width form * n → knapsack_shape form (n ∷ c ∷ done) ≡ due_number
  more done lt = rw (lt-ltb (length done) (width form * n) lt) refl

  rest_due : (done rest : List ℕ) → length done + length rest ≡ width form * n → AllByRecursion (λ m. m ≤ greatest) rest → AreDue (knapsack_shape form) (n ∷ c ∷ done) rest
  rest_due done [] e fit = tt
  rest_due done (m ∷ rest) e fit = (
    subst (λ (d : Due). Fits d m) (sym (more done (omega arith))) (let small = fit.0 in let below : m < suc greatest = omega arith in below),
    rest_due (done ++ m ∷ []) rest (omega (arith, length-append done (m ∷ []))) fit.1,
  )

  rest_few : (done rest : List ℕ) → length done ≤ width form * n → AreDue (knapsack_shape form) (n ∷ c ∷ done) rest → length done + length rest ≤ width form * n
  rest_few done [] few due = omega arith
  rest_few done (m ∷ rest) few due =
      elim (cases_Bool (ltb (length done) (width form * n))) [
        | inl lt ↦ let l : length done < width form * n = ltb-true _ _ lt in let p : length (done ++ m ∷ []) + length rest ≤ width form * n = rest_few (done ++ m ∷ []) rest (omega (arith, length-append done (m ∷ []))) due.1 in omega (arith, length-append done (m ∷ []))
        | inr ge ↦ absurd (let none : ⊥ = subst (λ (b : Bool). Fits (cond b due_number DueEnd) m) ge due.0 in none)
      ]

-- the numbers of an instance are a whole file
pub whole_of : (form : Form) (words : List TextWord) (k : Instance) → AllZip IsNumber words (instance_numbers form k) → IsWhole (knapsack_shape form) words (instance_numbers form k)
whole_of form words k h =
    let fit = all_fit words (instance_numbers form k) h in
    let n = length k.items in
    let e : length (flat_map (item_numbers form) k.items) ≡ width form * n = length-numbers form k.items in
    record {
      are_numbers = h;
      are_due = (within n fit.0, (within k.capacity fit.1.0, rest_due form n k.capacity [] (flat_map (item_numbers form) k.items) (let f : 0 + length (flat_map (item_numbers form) k.items) ≡ width form * n = omega arith in f) fit.1.1));
      ends = rw (le-ltb (length (flat_map (item_numbers form) k.items)) (width form * n) (omega arith)) refl;
    }
  where
    within : (m : ℕ) → m ≤ greatest → m < suc greatest
    within m l = omega arith

-- numbers that are those of items
record Split (form : Form) (n : ℕ) (numbers : List ℕ) : Type 0 where
  items : List Item
  count : length items ≡ n
  are : numbers ≡ flat_map (item_numbers form) items
  of_form : AllByRecursion (IsOfForm form) items

pairs : (n : ℕ) (numbers : List ℕ) → length numbers ≡ 2 * n → Split Pairs n numbers
pairs zero [] e = record { items = []; count = refl; are = refl; of_form = tt }
pairs zero (a ∷ numbers) e = absurd (omega arith)
pairs (suc n) [] e = absurd (omega arith)
pairs (suc n) (a ∷ []) e = absurd (omega arith)
pairs (suc n) (a ∷ b ∷ numbers) e =
    let p = pairs n numbers (omega arith) in
    record { items = record { profit = a; weight = b; copies = 1 } ∷ p.items; count = ap suc p.count; are = ap (λ (ps : List ℕ). a ∷ b ∷ ps) p.are; of_form = (refl, p.of_form) }

triples : (n : ℕ) (numbers : List ℕ) → length numbers ≡ 3 * n → Split Triples n numbers
triples zero [] e = record { items = []; count = refl; are = refl; of_form = tt }
triples zero (a ∷ numbers) e = absurd (omega arith)
triples (suc n) [] e = absurd (omega arith)
triples (suc n) (a ∷ []) e = absurd (omega arith)
triples (suc n) (a ∷ b ∷ []) e = absurd (omega arith)
triples (suc n) (a ∷ b ∷ c ∷ numbers) e =
    let p = triples n numbers (omega arith) in
    record { items = record { profit = a; weight = b; copies = c } ∷ p.items; count = ap suc p.count; are = ap (λ (ps : List ℕ). a ∷ b ∷ c ∷ ps) p.are; of_form = (tt, p.of_form) }

split : (form : Form) (n : ℕ) (numbers : List ℕ) → length numbers ≡ width form * n → Split form n numbers
split Pairs n numbers e = pairs n numbers e
split Triples n numbers e = triples n numbers e

record Written (form : Form) (numbers : List ℕ) : Type 0 where
  instance : Instance
  is : numbers ≡ instance_numbers form instance
  of_form : AllByRecursion (IsOfForm form) instance.items

not_due : {A : Type 0} (limit : ℕ) → DueBelow limit ≡ DueEnd → A
not_due limit e = absurd cc

written : (form : Form) (numbers : List ℕ) → AreDue (knapsack_shape form) [] numbers → knapsack_shape form numbers ≡ DueEnd → Written form numbers
written form [] due ends = not_due (suc greatest) ends
written form (n ∷ []) due ends = not_due (suc greatest) ends
written form (n ∷ c ∷ rest) due ends =
    let few : 0 + length rest ≤ width form * n = rest_few form n c [] rest (omega arith) due.1.1 in
    elim (cases_Bool (ltb (length rest) (width form * n))) [
      | inl lt ↦ not_due (suc greatest) (subst (λ (b : Bool). cond b due_number DueEnd ≡ DueEnd) lt ends)
      | inr ge ↦ let l : width form * n ≤ length rest = ltb-false _ _ ge in
          let p = split form n rest (omega arith) in
          record { instance = record { capacity = c; items = p.items }; is = ap (λ (m : ℕ). m ∷ c ∷ rest) (sym p.count) ∙ ap (λ (ps : List ℕ). length p.items ∷ c ∷ ps) p.are; of_form = p.of_form }
    ]

same_item : (x y : Item) → x.profit ≡ y.profit → x.weight ≡ y.weight → x.copies ≡ y.copies → x ≡ y
same_item x y p w c = λ i. record { profit = p i; weight = w i; copies = c i }

same_items : (form : Form) (a b : List Item) → flat_map (item_numbers form) a ≡ flat_map (item_numbers form) b → AllByRecursion (IsOfForm form) a → AllByRecursion (IsOfForm form) b → a ≡ b
same_items form [] [] e h k = refl
same_items Pairs [] (y ∷ b) e h k = absurd cc
same_items Triples [] (y ∷ b) e h k = absurd cc
same_items Pairs (x ∷ a) [] e h k = absurd cc
same_items Triples (x ∷ a) [] e h k = absurd cc
same_items Pairs (x ∷ a) (y ∷ b) e h k =
    let p : x.profit ≡ y.profit = cc in
    let w : x.weight ≡ y.weight = cc in
    let r : flat_map (item_numbers Pairs) a ≡ flat_map (item_numbers Pairs) b = cc in
    let rest = same_items Pairs a b r h.1 k.1 in
    let first : x ≡ y = same_item x y p w (h.0 ∙ sym k.0) in
    λ i. first i ∷ rest i
same_items Triples (x ∷ a) (y ∷ b) e h k =
    let p : x.profit ≡ y.profit = cc in
    let w : x.weight ≡ y.weight = cc in
    let c : x.copies ≡ y.copies = cc in
    let r : flat_map (item_numbers Triples) a ≡ flat_map (item_numbers Triples) b = cc in
    let rest = same_items Triples a b r h.1 k.1 in
    let first : x ≡ y = same_item x y p w c in
    λ i. first i ∷ rest i

same_instance : (form : Form) (a b : Instance) → instance_numbers form a ≡ instance_numbers form b → AllByRecursion (IsOfForm form) a.items → AllByRecursion (IsOfForm form) b.items → a ≡ b
same_instance form a b e h k =
    let c : a.capacity ≡ b.capacity = cc in
    let r : flat_map (item_numbers form) a.items ≡ flat_map (item_numbers form) b.items = cc in
    let items = same_items form a.items b.items r h k in
    λ i. record { capacity = c i; items = items i }

-- ---- the numbers of an instance

one_body : (form : Form) (words : List TextWord) (a b : Instance) → IsBody form words a → IsBody form words b → a ≡ b
one_body form words a b h k = same_instance form a b (one_list words (instance_numbers form a) (instance_numbers form b) h.numbers k.numbers) h.of_form k.of_form

not_both_body : (form : Form) (end : ℕ) (words : List TextWord) (k : Instance) (kind : TextKind) (line : ℕ) → IsBody form words k → ¬ IsBodyOffence form end words kind line
not_both_body form end words k kind line h = not_both (knapsack_shape form) end words (instance_numbers form k) kind line (whole_of form words k h.numbers)

abbrev Either : (Instance → Type 0) → (TextKind → ℕ → Type 0) → Type 0
Either is offends = ((instance : Instance) × is instance) ⊎ ((kind : TextKind) × (line : ℕ) × offends kind line)

either_body : (form : Form) (end : ℕ) (words : List TextWord) → Either (IsBody form words) (IsBodyOffence form end words)
either_body form end words =
    elim (either_of (knapsack_shape form) end words (bounds form)) [
      | inl w ↦ let k = written form w.0 w.1.are_due w.1.ends in inl (k.instance, record { numbers = subst (λ (ns : List ℕ). AllZip IsNumber words ns) k.is w.1.are_numbers; of_form = k.of_form })
      | inr o ↦ inr o
    ]

-- ---- the form

same_fault : (kind other : TextKind) (line other_line : ℕ) → kind ≡ other → line ≡ other_line → fault kind line ≡ fault other other_line
same_fault kind other line other_line k l = ap₂ fault k l

one_form_offence : (end form : ℕ) (words : List TextWord) (kind other : TextKind) (line other_line : ℕ) → IsFormOffence end form words kind line → IsFormOffence end form words other other_line → fault kind line ≡ fault other other_line
one_form_offence end form [] kind other line other_line h k = absurd h
one_form_offence end form (number ∷ words) kind other line other_line (inl h) (inl k) = one_offence (knapsack_shape Triples) end words kind other line other_line h.1 k.1
one_form_offence end form (number ∷ words) kind other line other_line (inl h) (inr k) = absurd (k.0 h.0)
one_form_offence end form (number ∷ words) kind other line other_line (inr h) (inl k) = absurd (h.0 k.0)
one_form_offence end form (number ∷ words) kind other line other_line (inr h) (inr k) = same_fault kind other line other_line (h.1 ∙ sym k.1) (h.2 ∙ sym k.2)

one_triples_offence : (end : ℕ) (words : List TextWord) (kind other : TextKind) (line other_line : ℕ) → IsTriplesOffence end words kind line → IsTriplesOffence end words other other_line → fault kind line ≡ fault other other_line
one_triples_offence end words kind other line other_line h k = go (first_number end words) h k
  where
    go : (r : Result ℕ Fault) → MatchResult r (λ form. IsFormOffence end form words kind line) (λ f. (kind ≡ f.kind) × (line ≡ f.line)) → MatchResult r (λ form. IsFormOffence end form words other other_line) (λ f. (other ≡ f.kind) × (other_line ≡ f.line)) → fault kind line ≡ fault other other_line
    go (Ok form) a b = one_form_offence end form words kind other line other_line a b
    go (Err f) a b = same_fault kind other line other_line (a.0 ∙ sym b.0) (a.1 ∙ sym b.1)

number_in-is : (word : TextWord) (n : ℕ) → IsNumber word n → number_in word ≡ Ok n
number_in-is word n is =
    let fits : value_of word.text ≤ greatest = let v = is.value in let l = is.fits in omega (arith, v, l) in
    rw (is.digits, le-leb (value_of word.text) greatest fits) (ap (λ (m : ℕ). Ok m) (sym is.value))

not_both_triples : (end : ℕ) (words : List TextWord) (k : Instance) (kind : TextKind) (line : ℕ) → IsTriplesFile words k → ¬ IsTriplesOffence end words kind line
not_both_triples end [] k kind line h = absurd h
not_both_triples end (number ∷ words) k kind line h =
    λ o. go (subst (λ r. MatchResult r (λ form. IsFormOffence end form (number ∷ words) kind line) (λ f. (kind ≡ f.kind) × (line ≡ f.line))) (number_in-is number 2 h.0) o)
  where
    go : IsFormOffence end 2 (number ∷ words) kind line → ⊥
    go (inl o) = not_both_body Triples end words k kind line h.1 o.1
    go (inr o) = o.0 refl

either_triples : (end : ℕ) (words : List TextWord) → Either (IsTriplesFile words) (IsTriplesOffence end words)
either_triples end [] = inr (EndsEarly, end, (refl, refl))
either_triples end (number ∷ words) = go (number_in number) refl
  where
    offends : (kind : TextKind) (line : ℕ) (r : Result ℕ Fault) → number_in number ≡ r → MatchResult r (λ form. IsFormOffence end form (number ∷ words) kind line) (λ f. (kind ≡ f.kind) × (line ≡ f.line)) → IsTriplesOffence end (number ∷ words) kind line
    offends kind line r e o = subst (λ r. MatchResult r (λ form. IsFormOffence end form (number ∷ words) kind line) (λ f. (kind ≡ f.kind) × (line ≡ f.line))) (sym e) o

    two : (form : ℕ) → number_in number ≡ Ok form → form ≡ 2 → Either (IsBody Triples words) (IsBodyOffence Triples end words) → Either (IsTriplesFile (number ∷ words)) (IsTriplesOffence end (number ∷ words))
    two form e is (inl k) = inl (k.0, (subst (λ n. IsNumber number n) is (number_is number form e), k.1))
    two form e is (inr o) = inr (o.0, o.1, offends o.0 o.1 (Ok form) e (inl (is, o.2)))

    go : (r : Result ℕ Fault) → number_in number ≡ r → Either (IsTriplesFile (number ∷ words)) (IsTriplesOffence end (number ∷ words))
    go (Err f) e = inr (f.kind, f.line, offends f.kind f.line (Err f) e (refl, refl))
    go (Ok form) e =
        elim (cases_eq form 2) [
          | inl is ↦ two form e is (either_body Triples end words)
          | inr other ↦ inr (BadLine, number.line, offends BadLine number.line (Ok form) e (inr (other, refl, refl)))
        ]

-- ---- files

one_file : (form : Form) (words : List TextWord) (a b : Instance) → IsFileOf form words a → IsFileOf form words b → a ≡ b
one_file Pairs words a b h k = one_body Pairs words a b h k
one_file Triples [] a b h k = absurd h
one_file Triples (word ∷ []) a b h k = absurd h
one_file Triples (word ∷ number ∷ words) a b h k = one_body Triples words a b h.1 k.1

one_file_offence : (form : Form) (end : ℕ) (words : List TextWord) (kind other : TextKind) (line other_line : ℕ) → IsOffenceOf form end words kind line → IsOffenceOf form end words other other_line → fault kind line ≡ fault other other_line
one_file_offence Pairs end words kind other line other_line h k = one_offence (knapsack_shape Pairs) end words kind other line other_line h k
one_file_offence Triples end [] kind other line other_line h k = absurd h
one_file_offence Triples end (word ∷ words) kind other line other_line h k = one_triples_offence end words kind other line other_line h k

not_both_file : (form : Form) (end : ℕ) (words : List TextWord) (k : Instance) (kind : TextKind) (line : ℕ) → IsFileOf form words k → ¬ IsOffenceOf form end words kind line
not_both_file Pairs end words k kind line h = not_both_body Pairs end words k kind line h
not_both_file Triples end [] k kind line h = absurd h
not_both_file Triples end (word ∷ words) k kind line h = not_both_triples end words k kind line h

either_file : (end : ℕ) (words : List TextWord) → Either (IsFileOf (form_of words) words) (IsOffenceOf (form_of words) end words)
either_file end [] = either_body Pairs end []
either_file end (word ∷ words) =
    elim (bytes_eq (codes "knapsack") word.text) as (λ b. Either (IsFileOf (if b then Triples else Pairs) (word ∷ words)) (IsOffenceOf (if b then Triples else Pairs) end (word ∷ words))) [
      | true ↦ either_triples end words
      | false ↦ either_body Pairs end (word ∷ words)
    ]

-- a word of digits is not the word of the second form
not_name : (word : TextWord) (n : ℕ) → IsNumber word n → bytes_eq (codes "knapsack") word.text ≡ false
not_name word n is =
    elim (cases_Bool (bytes_eq (codes "knapsack") word.text)) [
      | inl same ↦ absurd (let text : codes "knapsack" ≡ word.text = (bytes_eq-Decides (codes "knapsack") word.text).0 same in let digits : is_digits (codes "knapsack") ≡ true = subst (λ (t : List ℕ). is_digits t ≡ true) (sym text) is.digits in true≢false (sym digits))
      | inr other ↦ other
    ]

-- the numbers of an instance of single items are a file
pub pairs-file : (words : List TextWord) (instance : Instance) → IsBody Pairs words instance → IsFileOf (form_of words) words instance
pairs-file [] instance body = body
pairs-file (word ∷ words) instance body =
    let other = not_name word (length instance.items) body.numbers.0 in
    subst (λ b. IsFileOf (if b then Triples else Pairs) (word ∷ words) instance) (sym other) body

-- ---- limits

record NotPast (x : Limited) (xs : List Limited) : Type 0 where
  own : x.number ≤ x.limit
  rest : first_past xs ≡ None

none-parts : (x : Limited) (xs : List Limited) → first_past (x ∷ xs) ≡ None → NotPast x xs
none-parts x xs e =
    elim (cases_Bool (is_past x)) [
      | inl past ↦ absurd (let f : cond true (Some x) (first_past xs) ≡ None = subst (λ (b : Bool). cond b (Some x) (first_past xs) ≡ None) past e in cc)
      | inr within ↦ record { own = ltb-false x.limit x.number within; rest = subst (λ (b : Bool). cond b (Some x) (first_past xs) ≡ None) within e }
    ]

none-cons : (x : Limited) (xs : List Limited) → x.number ≤ x.limit → first_past xs ≡ None → first_past (x ∷ xs) ≡ None
none-cons x xs l e = ap (λ b. cond b (Some x) (first_past xs)) (le-ltb x.limit x.number l) ∙ e

items-within : (before : ℕ) (items : List Item) → first_past (limits_from before items) ≡ None → AllByRecursion IsSmallItem items
items-within before [] e = tt
items-within before (item ∷ items) e =
    let p = none-parts (record { number = item.profit; limit = 2147483647 }) (record { number = item.weight; limit = 2147483647 } ∷ record { number = before + item.copies; limit = 256 } ∷ limits_from (before + item.copies) items) e in
    let w = none-parts (record { number = item.weight; limit = 2147483647 }) (record { number = before + item.copies; limit = 256 } ∷ limits_from (before + item.copies) items) p.rest in
    let c = none-parts (record { number = before + item.copies; limit = 256 }) (limits_from (before + item.copies) items) w.rest in
    let profit = p.own in
    let weight = w.own in
    ((omega (arith, profit), omega (arith, weight)), items-within (before + item.copies) items c.rest)

copies-within : (before : ℕ) (items : List Item) → before ≤ 256 → first_past (limits_from before items) ≡ None → before + copies_in items ≤ 256
copies-within before [] l e = omega (arith, l)
copies-within before (item ∷ items) l e =
    let p = none-parts (record { number = item.profit; limit = 2147483647 }) (record { number = item.weight; limit = 2147483647 } ∷ record { number = before + item.copies; limit = 256 } ∷ limits_from (before + item.copies) items) e in
    let w = none-parts (record { number = item.weight; limit = 2147483647 }) (record { number = before + item.copies; limit = 256 } ∷ limits_from (before + item.copies) items) p.rest in
    let c = none-parts (record { number = before + item.copies; limit = 256 }) (limits_from (before + item.copies) items) w.rest in
    let few = c.own in
    let rest = copies-within (before + item.copies) items few c.rest in
    let cons = sum_by-cons (λ (i : Item). i.copies) item items in
    omega (arith, rest, cons)

pub within : (instance : Instance) → first_past (instance_limits instance) ≡ None → IsWithinLimits instance
within instance e =
    let n = none-parts (record { number = length instance.items; limit = 256 }) (record { number = instance.capacity; limit = 1099511627775 } ∷ limits_from 0 instance.items) e in
    let c = none-parts (record { number = instance.capacity; limit = 1099511627775 }) (limits_from 0 instance.items) n.rest in
    let light = c.own in
    let few = copies-within 0 instance.items (omega arith) c.rest in
    record { few = n.own; few_copies = omega (arith, few); light = omega (arith, light); small = items-within 0 instance.items c.rest }

items-none : (before : ℕ) (items : List Item) → AllByRecursion IsSmallItem items → before + copies_in items ≤ 256 → first_past (limits_from before items) ≡ None
items-none before [] a l = refl
items-none before (item ∷ items) a l =
    let cons = sum_by-cons (λ (i : Item). i.copies) item items in
    none-cons (record { number = item.profit; limit = 2147483647 }) (record { number = item.weight; limit = 2147483647 } ∷ record { number = before + item.copies; limit = 256 } ∷ limits_from (before + item.copies) items) (omega (arith, a.0.0))
    (none-cons (record { number = item.weight; limit = 2147483647 }) (record { number = before + item.copies; limit = 256 } ∷ limits_from (before + item.copies) items) (omega (arith, a.0.1))
    (none-cons (record { number = before + item.copies; limit = 256 }) (limits_from (before + item.copies) items) (omega (arith, cons, l)) (items-none (before + item.copies) items a.1 (omega (arith, cons, l)))))

none_past : (instance : Instance) → IsWithinLimits instance → first_past (instance_limits instance) ≡ None
none_past instance limits =
    let light = limits.light in
    let few = limits.few_copies in
    none-cons (record { number = length instance.items; limit = 256 }) (record { number = instance.capacity; limit = 1099511627775 } ∷ limits_from 0 instance.items) limits.few
    (none-cons (record { number = instance.capacity; limit = 1099511627775 }) (limits_from 0 instance.items) (omega (arith, light)) (items-none 0 instance.items limits.small (omega (arith, few))))

pub file_laws : FileLaws
file_laws = record {
  one_instance = λ bytes a b h k. one_file (form_of (words_of bytes)) (words_of bytes) a b h k;
  one_kind = λ bytes kind other line other_line h k. ap (λ (f : Fault). f.kind) (one_file_offence (form_of (words_of bytes)) (end_line bytes) (words_of bytes) kind other line other_line h k);
  one_line = λ bytes kind other line other_line h k. ap (λ (f : Fault). f.line) (one_file_offence (form_of (words_of bytes)) (end_line bytes) (words_of bytes) kind other line other_line h k);
  not_both = λ bytes k kind line h. not_both_file (form_of (words_of bytes)) (end_line bytes) (words_of bytes) k kind line h;
  either = λ bytes. either_file (end_line bytes) (words_of bytes);
  within = within;
  none_past = none_past;
}
