-- What the parts of a reading show of the file.
use Rattle.std.proofs.Common.{◌≡◌, ◌≢◌, ℕ, ◌*◌, List, [], ◌∷◌, ◌++◌, length, Option, Some, None, Ok, Err, refl, sym, ap, subst, ◌∙◌, arith, inl, inr}
use Rattle.std.specs.Prelude.{MatchResult}
use Rattle.std.specs.Option.{option_map}
use Rattle.std.proofs.lemmas.Bool.{le-ltb}
use Rattle.yew_text.specs.declared.text.FileEnd.{FileEnd}
use Rattle.yew_text.specs.declared.text.FileEnd.TheVariants.{Refused, TooLarge, Memory}
use Rattle.yew_text.specs.declared.text.TextFault.{TextFault}
use Rattle.yew_text.specs.declared.text.TextKind.{TextKind}
use Rattle.yew_text.specs.declared.text.TextKind.TheVariants.{BadLine}
use Rattle.yew_text.specs.Words.{TextWord, words_of, end_line}
use Rattle.yew_text.specs.Numbers.{IsNumber, first_number}
use Rattle.yew_text.specs.Position.{Position, start_of, words_left, SameText}
use Rattle.yew_text.specs.Reading.{TakesNumber, IsSurplus, text_fault}
use Rattle.yew_text.specs.Grammar.{DueEnd, Says, first_past, reading}
use Rattle.yew_text.proofs.Readings.{read_says}
use Rattle.yew_text.proofs.Steps.{number_is, refusal, reading_next, reading_fault, reading_whole, reading_surplus}
use Rattle.yew_knap.specs.declared.form.Form.{Form}
use Rattle.yew_knap.specs.declared.form.Form.TheVariants.{Pairs, Triples}
use Rattle.yew_knap.specs.declared.knapsack.Item.{Item}
use Rattle.yew_knap.specs.declared.reading.Past.{Past}
use Rattle.yew_knap.specs.Files.{width, knapsack_shape, instance_limits, head_limits, limits_from, form_of, IsBody, IsBodyOffence, IsFormOffence, IsTriplesFile, IsTriplesOffence, IsFileOf, IsOffenceOf, IsPast, IsKnapsackFile, EndsReading}
use Rattle.yew_knap.specs.Instance.{Instance, IsWithinLimits}
use Rattle.yew_knap.specs.Reading.{limited, ItemsRead, EndsItems, EndsBody, EndsTriples, TakesForm}
use Rattle.yew_knap.proofs.FileGrammar.{bounds, within}
use Rattle.yew_knap.proofs.ItemSteps.{numbers_of, length-numbers}

module _ (form : Form) (at : Position) where
  offence_by : (f : TextFault) → reading (knapsack_shape form) [] at ≡ refusal (text_fault f) → IsBodyOffence form (end_line at.bytes) (words_left at) f.kind f.line
  offence_by f e = subst (Says (knapsack_shape form) (end_line at.bytes) (words_left at)) e (read_says (knapsack_shape form) (end_line at.bytes) (bounds form) (words_left at))

  pub first_fault : (new : Position) (f : TextFault) → TakesNumber at (Err f) new → IsBodyOffence form (end_line at.bytes) (words_left at) f.kind f.line
  first_fault new f takes = offence_by f (reading_fault (knapsack_shape form) [] at new refl f takes)

  module _ (next : Position) (n : ℕ) (takes : TakesNumber at (Ok n) next) (same : SameText at next) where
    from_count : reading (knapsack_shape form) [] at ≡ reading (knapsack_shape form) (n ∷ []) next
    from_count = reading_next (knapsack_shape form) [] at next refl n takes same

    pub second_fault : (new : Position) (f : TextFault) → TakesNumber next (Err f) new → IsBodyOffence form (end_line at.bytes) (words_left at) f.kind f.line
    second_fault new f fails = offence_by f (from_count ∙ reading_fault (knapsack_shape form) (n ∷ []) next new refl f fails)

    module _ (items_at : Position) (capacity : ℕ) (takes_capacity : TakesNumber next (Ok capacity) items_at) (same_capacity : SameText next items_at) where
      from_capacity : reading (knapsack_shape form) [] at ≡ reading (knapsack_shape form) (n ∷ capacity ∷ []) items_at
      from_capacity = from_count ∙ reading_next (knapsack_shape form) (n ∷ []) next items_at refl capacity takes_capacity same_capacity

      pub items_end : (end : FileEnd) → EndsItems form items_at n capacity end → EndsBody form at end
      items_end Memory ends = tt
      items_end (TooLarge number limit) ends = absurd ends
      items_end (Refused f) ends = offence_by f (from_capacity ∙ ends)

      module _ (end_at : Position) (kept : List Item) (total : ℕ) (past : Option Past) (read : ItemsRead form items_at n capacity n kept total past end_at) where
        whole : knapsack_shape form (n ∷ capacity ∷ numbers_of form read.items) ≡ DueEnd
        whole =
            let count : length read.items ≡ n = read.count_is in
            let e : length (numbers_of form read.items) ≡ width form * n = length-numbers form read.items ∙ ap (λ k. width form * k) count in
            rw (le-ltb (length (numbers_of form read.items)) (width form * n) (omega arith)) refl

        pub surplus : (f : TextFault) → IsSurplus end_at f → IsBodyOffence form (end_line at.bytes) (words_left at) f.kind f.line
        surplus f s =
            offence_by f (from_capacity ∙ read.goes_on ∙ reading_surplus (knapsack_shape form) (n ∷ capacity ∷ numbers_of form read.items) end_at whole f s)

        instance_read : Instance
        instance_read = record { capacity = capacity; items = read.items }

        module _ (none : words_left end_at ≡ []) where
          all_read : IsBody form (words_left at) instance_read
          unfolding instance_read
          all_read =
              let e : reading (knapsack_shape form) [] at ≡ Ok (n ∷ capacity ∷ numbers_of form read.items) = from_capacity ∙ read.goes_on ∙ reading_whole (knapsack_shape form) (n ∷ capacity ∷ numbers_of form read.items) end_at whole none in
              record {
                numbers = (subst (Says (knapsack_shape form) (end_line at.bytes) (words_left at)) (e ∙ ap (λ (k : ℕ). Ok (k ∷ capacity ∷ numbers_of form read.items)) (sym read.count_is)) (read_says (knapsack_shape form) (end_line at.bytes) (bounds form) (words_left at))).are_numbers;
                of_form = read.of_form;
              }

          first_is : first_past (instance_limits instance_read) ≡ option_map limited past
          unfolding instance_read
          first_is = ap (λ k. first_past (head_limits k capacity ++ limits_from 0 read.items)) read.count_is ∙ sym read.past_is

          pub too_large : (p : Past) → past ≡ Some p → IsPast (IsBody form (words_left at)) p.number p.limit
          too_large p e = record { instance = instance_read; is_file = all_read; first = first_is ∙ ap (option_map limited) e }

          kept_is : past ≡ None → record { capacity = capacity; items = kept } ≡ instance_read
          unfolding instance_read
          kept_is e = ap (λ (is : List Item). make is) (read.kept_are e)
            where
              make : List Item → Instance
              make is = record { capacity = capacity; items = is }

          pub is_body : past ≡ None → IsBody form (words_left at) (record { capacity = capacity; items = kept })
          is_body e = subst (IsBody form (words_left at)) (sym (kept_is e)) all_read

          pub is_within : past ≡ None → IsWithinLimits (record { capacity = capacity; items = kept })
          is_within e = subst IsWithinLimits (sym (kept_is e)) (within instance_read (first_is ∙ ap (option_map limited) e))

-- ---- behind the word of the second form

module _ (at next : Position) where
  pub form_fault : (f : TextFault) → TakesNumber at (Err f) next → IsTriplesOffence (end_line at.bytes) (words_left at) f.kind f.line
  form_fault f takes =
      subst (λ r. MatchResult r (λ form. IsFormOffence (end_line at.bytes) form (words_left at) f.kind f.line) (λ g. (f.kind ≡ g.kind) × (f.line ≡ g.line))) (sym takes.gives) (refl, refl)

  module _ (form : ℕ) (takes : TakesNumber at (Ok form) next) (same : SameText at next) where
    abbrev number : TextWord
    number = takes.taken.0

    words_are : words_left at ≡ number ∷ words_left next
    words_are = takes.taken.1.words

    number_is_form : IsNumber number form
    number_is_form = number_is number form (ap (first_number (end_line at.bytes)) (sym words_are) ∙ takes.gives)

    offence-with : (kind : TextKind) (line : ℕ) → IsFormOffence (end_line at.bytes) form (number ∷ words_left next) kind line → IsTriplesOffence (end_line at.bytes) (words_left at) kind line
    offence-with kind line o =
        subst (λ r. MatchResult r (λ k. IsFormOffence (end_line at.bytes) k (words_left at) kind line) (λ g. (kind ≡ g.kind) × (line ≡ g.line))) (sym takes.gives)
        (subst (λ ws. IsFormOffence (end_line at.bytes) form ws kind line) (sym words_are) o)

    pub other_form : form ≢ 2 → (line : ℕ) → line ≡ next.line → IsTriplesOffence (end_line at.bytes) (words_left at) BadLine line
    other_form other line is = offence-with BadLine line (inr (other, refl, is ∙ takes.taken.1.line))

    module _ (two : form ≡ 2) where
      pub triples_file : (k : Instance) → IsBody Triples (words_left next) k → IsTriplesFile (words_left at) k
      triples_file k body = subst (λ ws. IsTriplesFile ws k) (sym words_are) (subst (IsNumber number) two number_is_form, body)

      pub triples_end : (end : FileEnd) → EndsBody Triples next end → EndsTriples at end
      triples_end Memory ends = tt
      triples_end (TooLarge n limit) ends = record { instance = ends.instance; is_file = triples_file ends.instance ends.is_file; first = ends.first }
      triples_end (Refused f) ends = offence-with f.kind f.line (inl (two, subst (λ bytes. IsBodyOffence Triples (end_line bytes) (words_left next) f.kind f.line) (sym same) ends))

-- ---- the file

module _ (bytes : List ℕ) (start next : Position) (start_is : start ≡ start_of bytes) where
  words_here : words_left start ≡ words_of bytes
  words_here = ap words_left start_is

  module _ (takes : TakesForm start Triples next) (same : SameText start next) where
    behind : (word : TextWord) × (words_left start ≡ word ∷ words_left next)
    behind = takes.taken refl

    pub file_of_triples : (k : Instance) → IsTriplesFile (words_left next) k → IsKnapsackFile bytes k
    file_of_triples k is =
        subst (λ ws. IsFileOf (form_of ws) ws k) words_here
        (subst (λ form. IsFileOf form (words_left start) k) (sym takes.form_is)
        (subst (λ ws. IsFileOf Triples ws k) (sym behind.1) is))

    pub end_of_triples : (end : FileEnd) → EndsTriples next end → EndsReading bytes end
    end_of_triples Memory ends = tt
    end_of_triples (TooLarge n limit) ends = record { instance = ends.instance; is_file = file_of_triples ends.instance ends.is_file; first = ends.first }
    end_of_triples (Refused f) ends =
        let bytes_are : next.bytes ≡ bytes = sym same ∙ ap (λ (p : Position). p.bytes) start_is in
        subst (λ ws. IsOffenceOf (form_of ws) (end_line bytes) ws f.kind f.line) words_here
        (subst (λ form. IsOffenceOf form (end_line bytes) (words_left start) f.kind f.line) (sym takes.form_is)
        (subst (λ ws. IsOffenceOf Triples (end_line bytes) ws f.kind f.line) (sym behind.1)
        (subst (λ bs. IsTriplesOffence (end_line bs) (words_left next) f.kind f.line) bytes_are ends)))

  module _ (takes : TakesForm start Pairs next) where
    form_here : form_of (words_of bytes) ≡ Pairs
    form_here = ap form_of (sym words_here) ∙ takes.form_is

    -- the numbers are read from the start again
    module _ (again : Position) (again_is : again ≡ start_of bytes) where
      pub file_of_pairs : (k : Instance) → IsBody Pairs (words_left again) k → IsKnapsackFile bytes k
      file_of_pairs k is =
          subst (λ form. IsFileOf form (words_of bytes) k) (sym form_here) (subst (λ (p : Position). IsBody Pairs (words_left p) k) again_is is)

      pub end_of_pairs : (end : FileEnd) → EndsBody Pairs again end → EndsReading bytes end
      end_of_pairs Memory ends = tt
      end_of_pairs (TooLarge n limit) ends = record { instance = ends.instance; is_file = file_of_pairs ends.instance ends.is_file; first = ends.first }
      end_of_pairs (Refused f) ends =
          subst (λ form. IsOffenceOf form (end_line bytes) (words_of bytes) f.kind f.line) (sym form_here) (subst (λ (p : Position). IsBodyOffence Pairs (end_line p.bytes) (words_left p) f.kind f.line) again_is ends)
