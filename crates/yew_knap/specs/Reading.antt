-- What the parts of a reading of a knapsack file answer.
use Rattle.std.specs.Prelude.{◌≡◌, ℕ, ◌+◌, ◌≤◌, List, [], ◌∷◌, ◌++◌, length, flat_map, Option, Some, None, Result, Ok, Err}
use Rattle.std.specs.List.{AllByRecursion}
use Rattle.std.specs.Option.{option_map}
use Rattle.yew_text.specs.declared.text.FileEnd.{FileEnd}
use Rattle.yew_text.specs.declared.text.FileEnd.TheVariants.{Refused, TooLarge, Memory}
use Rattle.yew_text.specs.declared.text.TextFault.{TextFault}
use Rattle.yew_text.specs.Words.{TextWord, end_line}
use Rattle.yew_text.specs.Grammar.{Limited, first_past, reading}
use Rattle.yew_text.specs.Position.{Position, words_left}
use Rattle.yew_text.specs.Reading.{TakesNumber, text_fault}
use Rattle.yew_knap.specs.declared.form.Form.{Form}
use Rattle.yew_knap.specs.declared.form.Form.TheVariants.{Pairs, Triples}
use Rattle.yew_knap.specs.declared.knapsack.Item.{Item}
use Rattle.yew_knap.specs.declared.reading.Past.{Past}
use Rattle.yew_knap.specs.Files.{item_numbers, knapsack_shape, head_limits, item_limits, limits_from, form_of, IsOfForm, IsBody, IsBodyOffence, IsTriplesFile, IsTriplesOffence, IsPast}
use Rattle.yew_knap.specs.Instance.{copies_in}

-- a number past its limit, as a number with its limit
abbrev pub limited : Past → Limited
limited past = record { number = past.number; limit = past.limit }

-- the first of two that is there
abbrev pub first_of : Option Limited → Option Limited → Option Limited
first_of (Some l) other = Some l
first_of None other = other

-- the number of an item's copies: in a file of pairs nothing is read, and it is 1
abbrev pub TakesCopies : Form → Position → Result ℕ TextFault → Position → Type 0
TakesCopies Pairs old answer new = (answer ≡ Ok 1) × (new ≡ old)
TakesCopies Triples old answer new = TakesNumber old answer new

-- One more item is kept while no number is past its limit; so many copies were kept before.
pub record KeepsItem (old : List Item) (total : ℕ) (past : Option Past) (item : Item) (new : List Item) (new_total : ℕ) (after : Option Past) : Type 0 where
  pub past_is : option_map limited after ≡ first_of (option_map limited past) (first_past (item_limits total item))
  pub kept : after ≡ None → new ≡ old ++ item ∷ []
  pub copies : after ≡ None → new_total ≡ total + item.copies
  pub few : new_total ≤ 256

-- The items of the file were read up to here: the reading goes on behind them, the first number past its limit is known,
-- and as long as there is none the items are kept, with the sum of their copies.
pub record ItemsRead (form : Form) (old : Position) (n capacity count : ℕ) (kept : List Item) (total : ℕ) (past : Option Past) (new : Position) : Type 0 where
  pub items : List Item
  pub goes_on : reading (knapsack_shape form) (n ∷ capacity ∷ []) old ≡ reading (knapsack_shape form) (n ∷ capacity ∷ flat_map (item_numbers form) items) new
  pub of_form : AllByRecursion (IsOfForm form) items
  pub count_is : length items ≡ count
  pub past_is : option_map limited past ≡ first_past (head_limits n capacity ++ limits_from 0 items)
  pub kept_are : past ≡ None → kept ≡ items
  pub copies_are : past ≡ None → total ≡ copies_in items
  pub few : total ≤ 256

-- The reading of the items ends with a fault, unless memory ran out.
abbrev pub EndsItems : Form → Position → ℕ → ℕ → FileEnd → Type 0
EndsItems form old n capacity (Refused fault) = reading (knapsack_shape form) (n ∷ capacity ∷ []) old ≡ Err (text_fault fault)
EndsItems form old n capacity (TooLarge number limit) = ⊥
EndsItems form old n capacity Memory = Unit {0}

-- why the words from here on give no problem
abbrev pub EndsBody : Form → Position → FileEnd → Type 0
EndsBody form at (Refused fault) = IsBodyOffence form (end_line at.bytes) (words_left at) fault.kind fault.line
EndsBody form at (TooLarge number limit) = IsPast (IsBody form (words_left at)) number limit
EndsBody form at Memory = Unit {0}

-- why what stands behind the word `knapsack` gives no problem
abbrev pub EndsTriples : Position → FileEnd → Type 0
EndsTriples at (Refused fault) = IsTriplesOffence (end_line at.bytes) (words_left at) fault.kind fault.line
EndsTriples at (TooLarge number limit) = IsPast (IsTriplesFile (words_left at)) number limit
EndsTriples at Memory = Unit {0}

-- the form of the words from here on; of one of triples the first word was read
pub record TakesForm (old : Position) (form : Form) (new : Position) : Type 0 where
  pub form_is : form_of (words_left old) ≡ form
  pub taken : form ≡ Triples → (word : TextWord) × (words_left old ≡ word ∷ words_left new)
