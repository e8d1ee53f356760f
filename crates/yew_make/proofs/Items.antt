-- The items of an instance, one after another.
use Rattle.std.proofs.Common.{◌≡◌, ℕ, ◌+◌, ◌*◌, ◌/◌, ◌<◌, List, [], ◌∷◌, ◌++◌, length, map, take, get_or, refl, sym, ap, ◌∙◌, arith, append_assoc}
use Rattle.std.specs.Prelude.{sum_by}
use Rattle.std.proofs.lemmas.List.{length-map, map_push, take_more}
use Rattle.std.proofs.lemmas.List.FromFn.{length-map-range_with_len, map-range_with_len_more}
use Rattle.std.proofs.lemmas.List.Sums.{sum_by-cons}
use Rattle.yew_knap.specs.declared.knapsack.Item.{Item}
use Rattle.yew_knap.specs.declared.form.Form.TheVariants.{Pairs}
use Rattle.yew_knap.specs.Files.{item_numbers}
use Rattle.yew_make.specs.declared.knapsack.MadeItem.{MadeItem}
use Rattle.yew_make.specs.Draws.{next_state, state_after, word_of, weight_of, weight_from}
use Rattle.yew_make.specs.Knapsacks.{item_of, item_from, items_from, half_weight, instance_of, knapsack_text}
use Rattle.yew_knap.specs.Rows.{row_line, row_lines}
use Rattle.yew_make.proofs.Generator.{state_after-more}
use Rattle.yew_make.proofs.RowSteps.{row_lines-more}

-- two more words
pub state_after-two : (state k now : ℕ) → now ≡ state_after state (2 * k) → next_state (next_state now) ≡ state_after state (2 * (k + 1))
state_after-two state k now at =
    let e : 2 * k + 1 + 1 ≡ 2 * (k + 1) = omega arith in
    ap (λ (s : ℕ). next_state (next_state s)) at
    ∙ ap next_state (sym (state_after-more state (2 * k)))
    ∙ sym (state_after-more state (2 * k + 1))
    ∙ ap (state_after state) e

item_is : (state k now : ℕ) (item : MadeItem) → now ≡ state_after state (2 * k) → item.profit ≡ weight_of (word_of now) → item.weight ≡ weight_of (word_of (next_state now)) → item_of item ≡ item_from state k
item_is state k now item at profit weight =
    let p : item.profit ≡ weight_from state (2 * k) = profit ∙ ap (λ (s : ℕ). weight_of (word_of s)) at in
    let w : item.weight ≡ weight_from state (2 * k + 1) = weight ∙ ap (λ (s : ℕ). weight_of (word_of (next_state s))) at ∙ ap (λ (s : ℕ). weight_of (word_of s)) (sym (state_after-more state (2 * k))) in
    ap (λ (n : ℕ). let i : Item = record { profit = n; weight = item.weight; copies = 1 } in i) p
    ∙ ap (λ (n : ℕ). let i : Item = record { profit = weight_from state (2 * k); weight = n; copies = 1 } in i) w

-- one more item
pub items-more : (state k now : ℕ) (items : List MadeItem) (item : MadeItem) → now ≡ state_after state (2 * k) → map item_of items ≡ items_from state k → item.profit ≡ weight_of (word_of now) → item.weight ≡ weight_of (word_of (next_state now)) → map item_of (items ++ item ∷ []) ≡ items_from state (k + 1)
items-more state k now items item at before profit weight =
    map_push item_of items item
    ∙ ap (λ (l : List Item). l ++ item_of item ∷ []) before
    ∙ ap (λ (i : Item). items_from state k ++ i ∷ []) (item_is state k now item at profit weight)
    ∙ sym (map-range_with_len_more (item_from state) 0 k k (omega arith))

-- one more line
pub item_lines-more : (old : List ℕ) (items : List MadeItem) (i : ℕ) (d : MadeItem) → i < length items → (old ++ row_lines (map (item_numbers Pairs) (map item_of (take i items)))) ++ row_line (item_numbers Pairs (item_of (get_or items i d))) ≡ old ++ row_lines (map (item_numbers Pairs) (map item_of (take (i + 1) items)))
item_lines-more old items i d l =
    row_lines-more old (map (item_numbers Pairs) (map item_of (take i items))) (item_numbers Pairs (item_of (get_or items i d)))
    ∙ ap (λ (rows : List (List ℕ)). old ++ row_lines rows)
    (sym (map_push (item_numbers Pairs) (map item_of (take i items)) (item_of (get_or items i d))) ∙ ap (map (item_numbers Pairs)) (sym (map_push item_of (take i items) (get_or items i d)) ∙ ap (map item_of) (sym (take_more items i d l))))

-- the weight of all items
pub weight-of_items : (items : List MadeItem) → sum_by (λ (item : MadeItem). item.weight) items ≡ sum_by (λ (item : Item). item.weight) (map item_of items)
weight-of_items [] = refl
weight-of_items (item ∷ items) =
    sum_by-cons (λ (i : MadeItem). i.weight) item items
    ∙ ap (λ (n : ℕ). item.weight + n) (weight-of_items items)
    ∙ sym (sum_by-cons (λ (i : Item). i.weight) (item_of item) (map item_of items))

-- how many there are
pub items-many : (state size : ℕ) (items : List MadeItem) → map item_of items ≡ items_from state size → length items ≡ size
items-many state size items e = sym (length-map items item_of) ∙ ap (λ (l : List Item). length l) e ∙ length-map-range_with_len (item_from state) 0 size

-- the first line and those of the items
pub knapsack-pushed : (state size : ℕ) (items : List MadeItem) (total : ℕ) (old one two : List ℕ) → map item_of items ≡ items_from state size → total ≡ sum_by (λ (item : MadeItem). item.weight) items → one ≡ old ++ row_line (size ∷ total / 2 ∷ []) → two ≡ one ++ row_lines (map (item_numbers Pairs) (map item_of items)) → two ≡ old ++ knapsack_text (instance_of (items_from state size))
knapsack-pushed state size items total old one two are weighs first second =
    let count : size ≡ length (items_from state size) = sym (length-map-range_with_len (item_from state) 0 size) in
    let half : total / 2 ≡ half_weight (items_from state size) = ap (λ (n : ℕ). n / 2) (weighs ∙ weight-of_items items ∙ ap (sum_by (λ (item : Item). item.weight)) are) in
    second
    ∙ ap (λ (t : List ℕ). t ++ row_lines (map (item_numbers Pairs) (map item_of items))) first
    ∙ append_assoc old (row_line (size ∷ total / 2 ∷ [])) (row_lines (map (item_numbers Pairs) (map item_of items)))
    ∙ ap (λ (l : List Item). old ++ (row_line (size ∷ total / 2 ∷ []) ++ row_lines (map (item_numbers Pairs) l))) are
    ∙ ap (λ (n : ℕ). old ++ (row_line (n ∷ total / 2 ∷ []) ++ row_lines (map (item_numbers Pairs) (items_from state size)))) count
    ∙ ap (λ (n : ℕ). old ++ (row_line (length (items_from state size) ∷ n ∷ []) ++ row_lines (map (item_numbers Pairs) (items_from state size)))) half
