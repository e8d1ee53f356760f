-- A made knapsack is a knapsack file within its limits.
use Rattle.std.proofs.Common.{◌≡◌, ℕ, ◌+◌, ◌*◌, ◌≤◌, List, [], ◌∷◌, length, map, refl, ap, subst, arith}
use Rattle.std.specs.Prelude.{sum_by}
use Rattle.std.specs.List.{AllZip, AllByRecursion, range_with_len}
use Rattle.std.proofs.lemmas.List.Folds.{flat_map-map}
use Rattle.std.proofs.lemmas.List.FromFn.{length-map-range_with_len}
use Rattle.std.proofs.lemmas.List.Sums.{sum_by-cons}
use Rattle.yew_text.specs.Words.{words_from}
use Rattle.yew_text.specs.Numbers.{IsNumber}
use Rattle.yew_knap.specs.declared.knapsack.Item.{Item}
use Rattle.yew_knap.specs.Instance.{Instance, IsSmallItem, copies_in}
use Rattle.yew_knap.specs.declared.form.Form.TheVariants.{Pairs}
use Rattle.yew_knap.specs.Files.{item_numbers, instance_numbers, IsOfForm}
use Rattle.yew_make.specs.Draws.{first_state, word_from, weight_of}
use Rattle.yew_make.specs.Knapsacks.{item_from, made_items, made_knapsack, half_weight, knapsack_rows}
use Rattle.yew_knap.specs.Rows.{row_lines, row_numbers}
use Rattle.yew_make.specs.Laws.{IsWeight, HasWeights, MadeKnapsack}
use Rattle.yew_knap.proofs.FileGrammar.{pairs-file}
use Rattle.yew_knap.proofs.NumberWords.{AllFit, rows-words}

pub weight-range : (word : ℕ) → IsWeight (weight_of word)
weight-range word = (omega arith, omega arith)

pub map-all : {X Y : Type 0} (P : Y → Type 0) (f : X → Y) (xs : List X) → ((x : X) → P (f x)) → AllByRecursion P (map f xs)
map-all P f [] h = tt
map-all P f (x ∷ xs) h = (h x, map-all P f xs h)

pub all-weaker : {X : Type 0} (P Q : X → Type 0) (xs : List X) → ((x : X) → P x → Q x) → AllByRecursion P xs → AllByRecursion Q xs
all-weaker P Q [] h a = tt
all-weaker P Q (x ∷ xs) h a = (h x a.0, all-weaker P Q xs h a.1)

pub map-all_of : {X Y : Type 0} (P : X → Type 0) (Q : Y → Type 0) (f : X → Y) (xs : List X) → ((x : X) → P x → Q (f x)) → AllByRecursion P xs → AllByRecursion Q (map f xs)
map-all_of P Q f [] h a = tt
map-all_of P Q f (x ∷ xs) h a = (h x a.0, map-all_of P Q f xs h a.1)

item-weights : (seed size : ℕ) → AllByRecursion HasWeights (made_items seed size)
item-weights seed size =
    map-all HasWeights (item_from (first_state seed)) (range_with_len 0 size)
    (λ i. (weight-range (word_from (first_state seed) (2 * i)), weight-range (word_from (first_state seed) (2 * i + 1))))

-- the items weigh at most 1000 each
total-light : (items : List Item) → AllByRecursion HasWeights items → sum_by (λ (item : Item). item.weight) items ≤ 1000 * length items
total-light [] a = omega arith
total-light (item ∷ items) a =
    let cons = sum_by-cons (λ (i : Item). i.weight) item items in
    let rest = total-light items a.1 in
    let own = a.0.1.1 in
    omega (arith, cons, rest, own)

-- of single items there are as many copies as items
single-copies : (items : List Item) → AllByRecursion (IsOfForm Pairs) items → copies_in items ≡ length items
single-copies [] a = refl
single-copies (item ∷ items) a =
    let cons = sum_by-cons (λ (i : Item). i.copies) item items in
    let rest = single-copies items a.1 in
    let own : item.copies ≡ 1 = a.0 in
    omega (arith, cons, rest, own)

rows-fit : (instance : Instance) → length instance.items ≤ 256 → instance.capacity ≤ 128000 → AllByRecursion HasWeights instance.items → AllByRecursion AllFit (knapsack_rows instance)
rows-fit instance few light weights =
    ((omega arith, (omega arith, tt)), map-all_of HasWeights AllFit (item_numbers Pairs) instance.items (λ item w. (let high = w.0.1 in omega (arith, high), (let high = w.1.1 in omega (arith, high), tt))) weights)

pub made_knapsack_law : (seed size : ℕ) → size ≤ 256 → MadeKnapsack seed size
made_knapsack_law seed size small =
    let instance = made_knapsack seed size in
    let count = length-map-range_with_len (item_from (first_state seed)) 0 size in
    let weights = item-weights seed size in
    let single = map-all (IsOfForm Pairs) (item_from (first_state seed)) (range_with_len 0 size) (λ i. refl) in
    let total = total-light (made_items seed size) weights in
    let light : half_weight (made_items seed size) ≤ 128000 = omega (arith, total, count) in
    let numbers : row_numbers (knapsack_rows instance) ≡ instance_numbers Pairs instance = ap (λ (ns : List ℕ). length instance.items ∷ instance.capacity ∷ ns) (flat_map-map (λ (row : List ℕ). row) (item_numbers Pairs) instance.items) in
    record {
      file =
          pairs-file (words_from 1 (row_lines (knapsack_rows instance))) instance
          (record {
            numbers = subst (λ (ns : List ℕ). AllZip IsNumber (words_from 1 (row_lines (knapsack_rows instance))) ns) numbers (rows-words (knapsack_rows instance) 1 (rows-fit instance (omega (arith, count)) light weights));
            of_form = single;
          });
      limits = record {
        few = omega (arith, count);
        few_copies = omega (arith, count, single-copies (made_items seed size) single);
        light = omega (arith, light);
        small = all-weaker HasWeights IsSmallItem (made_items seed size) (λ item w. (let high = w.0.1 in omega (arith, high), let high = w.1.1 in omega (arith, high))) weights;
      };
      count = count;
      weights = weights;
    }
