-- One item more of a knapsack file.
use Rattle.std.proofs.Common.{◌≡◌, ℕ, suc, ◌+◌, ◌*◌, ◌<◌, ◌≤◌, ◌^◌, List, [], ◌∷◌, ◌++◌, length, Option, Some, None, Result, Ok, Err, true, false, cond, refl, sym, ap, ◌∙◌, append_assoc, arith}
use Rattle.std.specs.Prelude.{flat_map}
use Rattle.std.specs.Option.{option_map}
use Rattle.std.proofs.lemmas.Bool.{lt-ltb}
use Rattle.std.proofs.lemmas.List.{append-nil, length-append}
use Rattle.std.proofs.lemmas.List.Sums.{sum_by-cons}
use Rattle.yew_laws.proofs.Members.{AllByRecursion-append}
use Rattle.yew_text.specs.declared.text.TextFault.{TextFault}
use Rattle.yew_text.specs.Words.{TextWord}
use Rattle.yew_text.specs.Numbers.{greatest, first_number}
use Rattle.yew_text.specs.Position.{Position, words_left, SameText}
use Rattle.yew_text.specs.Reading.{TakesNumber, text_fault}
use Rattle.yew_text.specs.Grammar.{due_number, Limited, is_past, first_past, reading}
use Rattle.yew_text.proofs.Steps.{number_is, refusal, reading_next, reading_fault}
use Rattle.yew_knap.specs.declared.form.Form.{Form}
use Rattle.yew_knap.specs.declared.form.Form.TheVariants.{Pairs, Triples}
use Rattle.yew_knap.specs.declared.knapsack.Item.{Item}
use Rattle.yew_knap.specs.declared.reading.Past.{Past}
use Rattle.yew_knap.specs.Files.{width, item_numbers, knapsack_shape, head_limits, item_limits, limits_from, IsOfForm}
use Rattle.yew_knap.specs.Instance.{copies_in}
use Rattle.yew_knap.specs.Reading.{limited, first_of, TakesCopies, KeepsItem, ItemsRead}

-- the numbers of these items
abbrev pub numbers_of : Form → List Item → List ℕ
numbers_of form items = flat_map (item_numbers form) items

pub length-numbers : (form : Form) (items : List Item) → length (numbers_of form items) ≡ width form * length items
length-numbers Pairs [] = refl
length-numbers Triples [] = refl
length-numbers Pairs (item ∷ items) = let e : length (numbers_of Pairs items) ≡ 2 * length items = length-numbers Pairs items in let f : suc (suc (length (numbers_of Pairs items))) ≡ 2 * suc (length items) = omega arith in f
length-numbers Triples (item ∷ items) = let e : length (numbers_of Triples items) ≡ 3 * length items = length-numbers Triples items in let f : suc (suc (suc (length (numbers_of Triples items)))) ≡ 3 * suc (length items) = omega arith in f

numbers-push : (form : Form) (items : List Item) (item : Item) → numbers_of form (items ++ item ∷ []) ≡ numbers_of form items ++ item_numbers form item
numbers-push form [] item = append-nil (item_numbers form item)
numbers-push form (x ∷ items) item =
    ap (λ (ns : List ℕ). item_numbers form x ++ ns) (numbers-push form items item)
    ∙ sym (append_assoc (item_numbers form x) (numbers_of form items) (item_numbers form item))

limits-push : (before : ℕ) (items : List Item) (item : Item) → limits_from before (items ++ item ∷ []) ≡ limits_from before items ++ item_limits (before + copies_in items) item
limits-push before [] item = let same : before ≡ before + copies_in [] = omega arith in ap (λ b. item_limits b item) same
limits-push before (x ∷ items) item =
    let cons = sum_by-cons (λ (i : Item). i.copies) x items in
    let same : before + x.copies + copies_in items ≡ before + copies_in (x ∷ items) = omega (arith, cons) in
    ap (λ (ls : List Limited). item_limits before x ++ ls) (limits-push (before + x.copies) items item ∙ ap (λ b. limits_from (before + x.copies) items ++ item_limits b item) same)

copies-push : (items : List Item) (item : Item) → copies_in (items ++ item ∷ []) ≡ copies_in items + item.copies
copies-push [] item = let cons = sum_by-cons (λ (i : Item). i.copies) item [] in omega (arith, cons)
copies-push (x ∷ items) item =
    let cons = sum_by-cons (λ (i : Item). i.copies) x items in
    let more = sum_by-cons (λ (i : Item). i.copies) x (items ++ item ∷ []) in
    let rest = copies-push items item in
    omega (arith, cons, more, rest)

-- the first of joined lists is the first of the one, and else of the other
first_past-append : (xs ys : List Limited) → first_past (xs ++ ys) ≡ first_of (first_past xs) (first_past ys)
first_past-append [] ys = refl
first_past-append (x ∷ xs) ys =
    elim (is_past x) as (λ b. cond b (Some x) (first_past (xs ++ ys)) ≡ first_of (cond b (Some x) (first_past xs)) (first_past ys)) [
      | true ↦ refl
      | false ↦ first_past-append xs ys
    ]

-- a number of an item is due
due_in : (form : Form) (n capacity : ℕ) (items : List Item) (numbers : List ℕ) (extra : ℕ) → length items < n → length numbers ≡ length (numbers_of form items) + extra → extra < width form → knapsack_shape form (n ∷ capacity ∷ numbers) ≡ due_number
due_in form n capacity items numbers extra few many within = rw (lt-ltb (length numbers) (width form * n) (enough form many within (length-numbers form items))) refl
  where
    enough : (form : Form) → length numbers ≡ length (numbers_of form items) + extra → extra < width form → length (numbers_of form items) ≡ width form * length items → length numbers < width form * n
    enough Pairs many within long = let w : extra < 2 = within in let l : length (numbers_of Pairs items) ≡ 2 * length items = long in let f : length numbers < 2 * n = omega arith in f
    enough Triples many within long = let w : extra < 3 = within in let l : length (numbers_of Triples items) ≡ 3 * length items = long in let f : length numbers < 3 * n = omega arith in f

two : (form : Form) → 1 < width form
two Pairs = omega arith
two Triples = omega arith

-- no items are read yet
pub no_items : (form : Form) (at : Position) (n capacity : ℕ) (past : Option Past) → option_map limited past ≡ first_past (head_limits n capacity) → ItemsRead form at n capacity 0 [] 0 past at
no_items form at n capacity past is = record {
  items = [];
  goes_on = refl;
  of_form = tt;
  count_is = refl;
  past_is = is;
  kept_are = λ none. refl;
  copies_are = λ none. refl;
  few = omega arith;
}

still_none : (past after : Option Past) (own : Option Limited) → option_map limited after ≡ first_of (option_map limited past) own → after ≡ None → past ≡ None
still_none None after own is none = refl
still_none (Some p) after own is none = absurd (let e : None ≡ Some (limited p) = sym (ap (option_map limited) none) ∙ is in cc)

-- a number that was read is below 2 ^ 63
number-small : (end n : ℕ) (words : List TextWord) → first_number end words ≡ Ok n → n < 2 ^ 63
number-small end n [] is = absurd (cc)
number-small end n (word ∷ words) is = let fits : n ≤ greatest = (number_is word n is).fits in omega (arith, fits)

pub copies-small : (form : Form) (old new : Position) (copies : ℕ) → TakesCopies form old (Ok copies) new → copies < 2 ^ 63
copies-small Pairs old new copies takes = let one : copies ≡ 1 = of_Ok copies takes.0 in omega (arith, one)
  where
    of_Ok : (n : ℕ) → ◌≡◌ {A = Result ℕ TextFault} (Ok n) (Ok 1) → n ≡ 1
    of_Ok n e = cc
copies-small Triples old new copies takes = number-small _ copies (words_left old) takes.gives

-- the number of copies, where it stands in the file
abbrev tail_of : Form → ℕ → List ℕ
tail_of Pairs copies = []
tail_of Triples copies = copies ∷ []

numbers_are : (form : Form) (item : Item) → item_numbers form item ≡ item.profit ∷ item.weight ∷ tail_of form item.copies
numbers_are Pairs item = refl
numbers_are Triples item = refl

-- the number of copies is read where it is due
record Copied (form : Form) (numbers : List ℕ) (item : Item) (old new : Position) : Type 0 where
  goes_on : reading (knapsack_shape form) numbers old ≡ reading (knapsack_shape form) (numbers ++ tail_of form item.copies) new
  of_form : IsOfForm form item

copied : (form : Form) (numbers : List ℕ) (item : Item) (old new : Position) → (2 < width form → knapsack_shape form numbers ≡ due_number) → TakesCopies form old (Ok item.copies) new → SameText old new → Copied form numbers item old new
copied Pairs numbers item old new due takes same = record {
  goes_on = ap (λ at. reading (knapsack_shape Pairs) numbers at) (sym takes.1) ∙ ap (λ ns. reading (knapsack_shape Pairs) ns new) (sym (append-nil numbers));
  of_form = of_Ok item.copies takes.0;
}
  where
    of_Ok : (n : ℕ) → ◌≡◌ {A = Result ℕ TextFault} (Ok n) (Ok 1) → n ≡ 1
    of_Ok n e = cc
copied Triples numbers item old new due takes same = record {
  goes_on = reading_next (knapsack_shape Triples) numbers old new (due (omega arith)) item.copies takes same;
  of_form = tt;
}

copies_refused : (form : Form) (numbers : List ℕ) (old new : Position) (f : TextFault) → (2 < width form → knapsack_shape form numbers ≡ due_number) → TakesCopies form old (Err f) new → reading (knapsack_shape form) numbers old ≡ refusal (text_fault f)
copies_refused Pairs numbers old new f due takes = absurd (not_Ok takes.0)
  where
    not_Ok : ◌≡◌ {A = Result ℕ TextFault} (Err f) (Ok 1) → ⊥
    not_Ok e = cc
copies_refused Triples numbers old new f due takes = reading_fault (knapsack_shape Triples) numbers old new (due (omega arith)) f takes

module _ (form : Form) (n capacity count : ℕ) (more : count < n) (start at : Position) (kept : List Item) (total : ℕ) (past : Option Past) (read : ItemsRead form start n capacity count kept total past at) where
  enough : length read.items < n
  enough = let e = read.count_is in omega (arith, e, more)

  first_due : knapsack_shape form (n ∷ capacity ∷ numbers_of form read.items) ≡ due_number
  first_due = due_in form n capacity read.items (numbers_of form read.items) 0 enough (omega arith) (omega (arith, two form))

  second_due : (profit : ℕ) → knapsack_shape form (n ∷ capacity ∷ numbers_of form read.items ++ profit ∷ []) ≡ due_number
  second_due profit = due_in form n capacity read.items (numbers_of form read.items ++ profit ∷ []) 1 enough (length-append (numbers_of form read.items) (profit ∷ [])) (two form)

  third_due : (profit weight : ℕ) → 2 < width form → knapsack_shape form (n ∷ capacity ∷ (numbers_of form read.items ++ profit ∷ []) ++ weight ∷ []) ≡ due_number
  third_due profit weight = due_in form n capacity read.items ((numbers_of form read.items ++ profit ∷ []) ++ weight ∷ []) 2 enough (omega (arith, length-append (numbers_of form read.items ++ profit ∷ []) (weight ∷ []), length-append (numbers_of form read.items) (profit ∷ [])))

  pub profit_fault : (new : Position) (f : TextFault) → TakesNumber at (Err f) new → reading (knapsack_shape form) (n ∷ capacity ∷ []) start ≡ refusal (text_fault f)
  profit_fault new f takes = read.goes_on ∙ reading_fault (knapsack_shape form) (n ∷ capacity ∷ numbers_of form read.items) at new first_due f takes

  module _ (mid : Position) (profit : ℕ) (takes : TakesNumber at (Ok profit) mid) (same : SameText at mid) where
    to_weight : reading (knapsack_shape form) (n ∷ capacity ∷ []) start ≡ reading (knapsack_shape form) (n ∷ capacity ∷ numbers_of form read.items ++ profit ∷ []) mid
    to_weight = read.goes_on ∙ reading_next (knapsack_shape form) (n ∷ capacity ∷ numbers_of form read.items) at mid first_due profit takes same

    pub weight_fault : (new : Position) (f : TextFault) → TakesNumber mid (Err f) new → reading (knapsack_shape form) (n ∷ capacity ∷ []) start ≡ refusal (text_fault f)
    weight_fault new f fails = to_weight ∙ reading_fault (knapsack_shape form) (n ∷ capacity ∷ numbers_of form read.items ++ profit ∷ []) mid new (second_due profit) f fails

    module _ (last : Position) (weight : ℕ) (takes_more : TakesNumber mid (Ok weight) last) (same_more : SameText mid last) where
      to_copies : reading (knapsack_shape form) (n ∷ capacity ∷ []) start ≡ reading (knapsack_shape form) (n ∷ capacity ∷ (numbers_of form read.items ++ profit ∷ []) ++ weight ∷ []) last
      to_copies = to_weight ∙ reading_next (knapsack_shape form) (n ∷ capacity ∷ numbers_of form read.items ++ profit ∷ []) mid last (second_due profit) weight takes_more same_more

      pub copies_fault : (new : Position) (f : TextFault) → TakesCopies form last (Err f) new → reading (knapsack_shape form) (n ∷ capacity ∷ []) start ≡ refusal (text_fault f)
      copies_fault new f fails = to_copies ∙ copies_refused form (n ∷ capacity ∷ (numbers_of form read.items ++ profit ∷ []) ++ weight ∷ []) last new f (third_due profit weight) fails

      pub item_read : (new : Position) (copies : ℕ) → TakesCopies form last (Ok copies) new → SameText last new → (kept_now : List Item) (total_now : ℕ) (after : Option Past) → KeepsItem kept total past (record { profit = profit; weight = weight; copies = copies }) kept_now total_now after → ItemsRead form start n capacity (count + 1) kept_now total_now after new
      item_read new copies takes_copies same_copies kept_now total_now after keeps =
          let item : Item = record { profit = profit; weight = weight; copies = copies } in
          let c = copied form (n ∷ capacity ∷ (numbers_of form read.items ++ profit ∷ []) ++ weight ∷ []) item last new (third_due profit weight) takes_copies same_copies in
          let joined : ((numbers_of form read.items ++ profit ∷ []) ++ weight ∷ []) ++ tail_of form copies ≡ numbers_of form (read.items ++ item ∷ []) =
          append_assoc (numbers_of form read.items ++ profit ∷ []) (weight ∷ []) (tail_of form copies)
          ∙ append_assoc (numbers_of form read.items) (profit ∷ []) (weight ∷ tail_of form copies)
          ∙ ap (λ (ns : List ℕ). numbers_of form read.items ++ ns) (sym (numbers_are form item))
          ∙ sym (numbers-push form read.items item)
          in
          let none_before : after ≡ None → past ≡ None = still_none past after (first_past (item_limits total item)) keeps.past_is in
          record {
            items = read.items ++ item ∷ [];
            goes_on = to_copies ∙ c.goes_on ∙ ap (λ (ns : List ℕ). reading (knapsack_shape form) (n ∷ capacity ∷ ns) new) joined;
            of_form = AllByRecursion-append (IsOfForm form) read.items (item ∷ []) read.of_form (c.of_form, tt);
            count_is = let e = length-append read.items (item ∷ []) in let d = read.count_is in omega (arith, e, d);
            past_is = past_now item keeps.past_is;
            kept_are = λ none. keeps.kept none ∙ ap (λ items. items ++ item ∷ []) (read.kept_are (none_before none));
            copies_are = λ none. let e = keeps.copies none in let d = read.copies_are (none_before none) in let p = copies-push read.items item in omega (arith, e, d, p);
            few = keeps.few;
          }
        where
          past_now : (item : Item) → option_map limited after ≡ first_of (option_map limited past) (first_past (item_limits total item)) → option_map limited after ≡ first_past (head_limits n capacity ++ limits_from 0 (read.items ++ item ∷ []))
          past_now item is =
              is ∙ level (option_map limited past) refl
              ∙ ap (λ o. first_of o (first_past (item_limits (copies_in read.items) item))) read.past_is
              ∙ sym (first_past-append (head_limits n capacity ++ limits_from 0 read.items) (item_limits (copies_in read.items) item))
              ∙ ap first_past
              (append_assoc (head_limits n capacity) (limits_from 0 read.items) (item_limits (copies_in read.items) item)
              ∙ ap (λ ls. head_limits n capacity ++ ls) (ap (λ b. limits_from 0 read.items ++ item_limits b item) (omega arith) ∙ sym (limits-push 0 read.items item)))
            where
              -- the number kept counts only as long as no number is past its limit
              level : (o : Option Limited) → option_map limited past ≡ o → first_of (option_map limited past) (first_past (item_limits total item)) ≡ first_of (option_map limited past) (first_past (item_limits (copies_in read.items) item))
              level None e =
                  let d = read.copies_are (none_of past e) in
                  ap (λ t. first_of (option_map limited past) (first_past (item_limits t item))) d
                where
                  none_of : (p : Option Past) → option_map limited p ≡ None → p ≡ None
                  none_of None e = refl
                  none_of (Some q) e = absurd (cc)
              level (Some l) e =
                  ap (λ o. first_of o (first_past (item_limits total item))) e ∙ sym (ap (λ o. first_of o (first_past (item_limits (copies_in read.items) item))) e)
