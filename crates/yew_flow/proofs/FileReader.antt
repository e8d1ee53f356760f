-- What the parts of a reading show of the file.
use Rattle.std.proofs.Common.{◌≡◌, ℕ, ◌*◌, List, [], ◌∷◌, length, Option, Some, None, Ok, Err, cond, refl, sym, ap, subst, ◌∙◌, arith, inl, inr}
use Rattle.std.specs.Option.{option_map}
use Rattle.std.proofs.lemmas.Bool.{le-ltb}
use Rattle.yew_text.specs.declared.text.TextKind.TheVariants.{BadLine}
use Rattle.yew_text.specs.declared.text.FileEnd.{FileEnd}
use Rattle.yew_text.specs.declared.text.FileEnd.TheVariants.{Refused, TooLarge, Memory}
use Rattle.yew_text.specs.declared.text.TextFault.{TextFault}
use Rattle.yew_text.specs.Grammar.{DueEnd, due_number, first_past, reading}
use Rattle.yew_text.specs.Numbers.{IsNumber, Fault, number_in, first_number}
use Rattle.yew_text.specs.Position.{Position, start_of, words_left, SameText}
use Rattle.yew_text.specs.Reading.{TakesNumber, IsSurplus, text_fault}
use Rattle.yew_text.specs.Words.{words_of, end_line}
use Rattle.yew_text.proofs.Steps.{refusal, number_is, reading_next, reading_fault, reading_whole, reading_surplus, reading_is_whole, reading_is_offence}
use Rattle.yew_flow.specs.declared.reading.Past.{Past}
use Rattle.yew_flow.specs.Files.{flow_shape, first_zero, zero_line, Offends, IsFlowFile, IsFlowOffence, instance_limits, IsPastLimit, HasNonePast, EndsReading}
use Rattle.yew_flow.specs.Instance.{Instance, IsWithinLimits}
use Rattle.yew_flow.specs.Reading.{TakesCount, limited, TimesRead, EndsTimes}
use Rattle.yew_flow.proofs.FileGrammar.{bounds}
use Rattle.yew_flow.proofs.FileLaws.{within}
use Rattle.yew_flow.proofs.Zeros.{zero-word, some-not_zero, zero_line-zero, zero_line-some, zero_line-fault, first_zero-zero, first_zero-some, first_zero-fault}

-- the word that was read as a number
number-word : (old new : Position) (n : ℕ) → (takes : TakesNumber old (Ok n) new) → IsNumber takes.taken.0 n
number-word old new n takes =
    let is : number_in takes.taken.0 ≡ Ok n = ap (first_number (end_line old.bytes)) (sym takes.taken.1.words) ∙ takes.gives in
    number_is takes.taken.0 n is

module _ (bytes : List ℕ) (at : Position) (start_is : at ≡ start_of bytes) where
  from_start : reading flow_shape [] (start_of bytes) ≡ reading flow_shape [] at
  from_start = ap (reading flow_shape []) (sym start_is)

  zero_start : zero_line (words_of bytes) ≡ zero_line (words_left at)
  zero_start = ap (λ (p : Position). zero_line (words_left p)) (sym start_is)

  offence_by : (f : TextFault) → zero_line (words_of bytes) ≡ None → reading flow_shape [] (start_of bytes) ≡ refusal (text_fault f) → IsFlowOffence bytes f.kind f.line
  offence_by f none e = subst (λ (o : Option ℕ). Offends o bytes f.kind f.line) (sym none) (reading_is_offence flow_shape bytes f bounds e)

  bad_line : (f : TextFault) (first line : ℕ) → zero_line (words_of bytes) ≡ Some first → text_fault f ≡ record { kind = BadLine; line = line } → line ≡ first → IsFlowOffence bytes f.kind f.line
  bad_line f first line is e same = subst (λ (o : Option ℕ). Offends o bytes f.kind f.line) (sym is) (ap (λ (g : Fault). g.kind) e, ap (λ (g : Fault). g.line) e ∙ same)

  pub first_fault : (new : Position) (f : TextFault) → TakesCount at (Err f) new → IsFlowOffence bytes f.kind f.line
  first_fault new f (inl takes) =
      offence_by f (zero_start ∙ zero_line-fault (end_line at.bytes) (words_left at) (text_fault f) takes.gives) (from_start ∙ reading_fault flow_shape [] at new refl f takes)
  first_fault new f (inr zero) =
      let word = zero.takes.taken.0 in
      bad_line f word.line new.line
      (zero_start ∙ ap zero_line zero.takes.taken.1.words ∙ zero_line-zero word (words_left new) (zero-word word 0 (number-word at new 0 zero.takes) refl))
      zero.fault_is zero.takes.taken.1.line

  module _ (next : Position) (n : ℕ) (takes : TakesCount at (Ok n) next) (same : SameText at next) where
    from_count : reading flow_shape [] (start_of bytes) ≡ reading flow_shape (n ∷ []) next
    from_count = from_start ∙ reading_next flow_shape [] at next refl n takes.0 same

    zero_next : zero_line (words_of bytes) ≡ first_zero (words_left next)
    zero_next =
        let word = takes.0.taken.0 in
        zero_start ∙ ap zero_line takes.0.taken.1.words ∙ zero_line-some word (words_left next) n (number-word at next n takes.0) takes.1

    pub second_fault : (new : Position) (f : TextFault) → TakesCount next (Err f) new → IsFlowOffence bytes f.kind f.line
    second_fault new f (inl fails) =
        offence_by f (zero_next ∙ first_zero-fault (end_line next.bytes) (words_left next) (text_fault f) fails.gives) (from_count ∙ reading_fault flow_shape (n ∷ []) next new refl f fails)
    second_fault new f (inr zero) =
        let word = zero.takes.taken.0 in
        bad_line f word.line new.line
        (zero_next ∙ ap first_zero zero.takes.taken.1.words ∙ first_zero-zero word (words_left new) (zero-word word 0 (number-word next new 0 zero.takes) refl))
        zero.fault_is zero.takes.taken.1.line

    module _ (times_at : Position) (m : ℕ) (takes_machines : TakesCount next (Ok m) times_at) (same_machines : SameText next times_at) where
      from_machines : reading flow_shape [] (start_of bytes) ≡ reading flow_shape (n ∷ m ∷ []) times_at
      from_machines = from_count ∙ reading_next flow_shape (n ∷ []) next times_at refl m takes_machines.0 same_machines

      no_zero : zero_line (words_of bytes) ≡ None
      no_zero =
          let word = takes_machines.0.taken.0 in
          zero_next ∙ ap first_zero takes_machines.0.taken.1.words
          ∙ first_zero-some word (words_left times_at) (some-not_zero word m (number-word next times_at m takes_machines.0) takes_machines.1)

      pub times_end : (end : FileEnd) → EndsTimes times_at n m end → EndsReading bytes end
      times_end Memory ends = tt
      times_end (TooLarge number limit) ends = absurd ends
      times_end (Refused f) ends = offence_by f no_zero (from_machines ∙ ends)

      module _ (end_at : Position) (kept : List ℕ) (past : Option Past) (read : TimesRead times_at n m kept past end_at) where
        whole : flow_shape (n ∷ m ∷ read.times) ≡ DueEnd
        whole = let count = read.count_is in ap (λ b. cond b due_number DueEnd) (le-ltb (length read.times) (n * m) (omega (arith, count)))

        pub surplus : (f : TextFault) → IsSurplus end_at f → IsFlowOffence bytes f.kind f.line
        surplus f s = offence_by f no_zero (from_machines ∙ read.goes_on ∙ reading_surplus flow_shape (n ∷ m ∷ read.times) end_at whole f s)

        abbrev instance_read : Instance
        instance_read = record { jobs = n; machines = m; times = read.times }

        module _ (none : words_left end_at ≡ []) where
          all_read : IsFlowFile bytes instance_read
          all_read = record {
            some_jobs = takes.1;
            some_machines = takes_machines.1;
            numbers =
                let e : reading flow_shape [] (start_of bytes) ≡ Ok (n ∷ m ∷ read.times) = from_machines ∙ read.goes_on ∙ reading_whole flow_shape (n ∷ m ∷ read.times) end_at whole none in
                (reading_is_whole flow_shape bytes (n ∷ m ∷ read.times) bounds e).are_numbers;
            count = read.count_is;
          }

          pub too_large : (p : Past) → past ≡ Some p → IsPastLimit bytes p.number p.limit
          too_large p e = record { instance = instance_read; is_file = all_read; first = sym read.past_is ∙ ap (option_map limited) e }

          module _ (is_none : past ≡ None) where
            first_none : first_past (instance_limits instance_read) ≡ None
            first_none = sym read.past_is ∙ ap (option_map limited) is_none

            pub nothing_past : HasNonePast bytes
            nothing_past = record { instance = instance_read; is_file = all_read; none = first_none }

            abbrev made : List ℕ → Instance
            made times = record { jobs = n; machines = m; times = times }

            kept_is : made kept ≡ instance_read
            kept_is = ap made (read.kept_are is_none)

            pub is_file : IsFlowFile bytes (record { jobs = n; machines = m; times = kept })
            is_file = subst (IsFlowFile bytes) (sym kept_is) all_read

            pub is_within : IsWithinLimits (record { jobs = n; machines = m; times = kept })
            is_within = subst IsWithinLimits (sym kept_is) (within bytes instance_read all_read first_none)
