-- What the parts of a reading show of the file.
use Rattle.std.proofs.Common.{◌≡◌, ℕ, ◌≤◌, List, [], length, Option, Some, None, Result, Ok, Err, cond, sym, ap, subst, ◌∙◌, arith}
use Rattle.std.specs.Prelude.{flat_map}
use Rattle.std.specs.Option.{option_map}
use Rattle.std.proofs.lemmas.Bool.{le-ltb}
use Rattle.yew_text.specs.declared.text.FileEnd.{FileEnd}
use Rattle.yew_text.specs.declared.text.FileEnd.TheVariants.{Refused, TooLarge, Memory}
use Rattle.yew_text.specs.declared.text.TextFault.{TextFault}
use Rattle.yew_text.specs.Fields.{fields_of}
use Rattle.yew_text.specs.Grammar.{DueEnd, due_number, first_past, read_from}
use Rattle.yew_text.specs.Numbers.{Fault}
use Rattle.yew_text.specs.Position.{Position, start_of, words_left, fields_left, SameText}
use Rattle.yew_text.specs.Reading.{text_fault}
use Rattle.yew_text.specs.Words.{TextWord, words_in, end_line}
use Rattle.yew_tsp.specs.declared.header.Key.TheVariants.{Dimension}
use Rattle.yew_tsp.specs.declared.header.Specification.{Specification}
use Rattle.yew_tsp.specs.declared.reading.Past.{Past}
use Rattle.yew_tsp.specs.FileReading.{read_header, with_numbers, read_matrix, read_behind, read_tours}
use Rattle.yew_tsp.specs.Files.{Contents, HasContents, instance_of, IsTourFile, IsTourOffence, contents_limits, IsPastLimit, HasNonePast, EndsReading}
use Rattle.yew_tsp.specs.Headers.{HasHeader}
use Rattle.yew_tsp.specs.Instance.{Instance, IsWithinLimits}
use Rattle.yew_tsp.specs.Matrices.{before_ending, ending_line, matrix_count, matrix_shape, weights_of}
use Rattle.yew_tsp.specs.Reading.{HeaderRead, IsMatrixSurplus, matrix_reading, limited, NumbersRead, EndsNumbers}
use Rattle.yew_tsp.proofs.FileGrammar.{TourSays, tours_say}
use Rattle.yew_tsp.proofs.HeaderParts.{ReadSays, header_says, given_accepted}
use Rattle.yew_tsp.proofs.MatrixWords.{matrix-whole, matrix-surplus}
use Rattle.yew_tsp.proofs.WithinLimits.{within}

abbrev refuse : Fault → Result Contents Fault
refuse f = Err f

abbrev answer : Contents → Result Contents Fault
answer contents = Ok contents

module _ (bytes : List ℕ) (at : Position) (start_is : at ≡ start_of bytes) where
  from_start : read_header (end_line bytes) [] (fields_of bytes) ≡ read_header (end_line at.bytes) [] (fields_left at)
  from_start = ap (λ p. read_header (end_line p.bytes) [] (fields_left p)) (sym start_is)

  offence_by : (f : Fault) → read_tours bytes ≡ refuse f → IsTourOffence bytes f.kind f.line
  offence_by f e = subst (TourSays bytes) e (tours_say bytes)

  pub header-fault : (f : TextFault) → read_header (end_line at.bytes) [] (fields_left at) ≡ Err (text_fault f) → IsTourOffence bytes f.kind f.line
  header-fault f e = offence_by (text_fault f) (ap (read_behind (end_line bytes)) (from_start ∙ e))

  module _ (next : Position) (said : Specification) (read : HeaderRead at said next) (same : SameText at next) where
    header_has : HasHeader bytes read.header
    header_has = subst (ReadSays bytes) (from_start ∙ read.is) (header_says bytes)

    -- there are several cities
    pub said-several : 2 ≤ said.cities
    said-several =
        let accepted = given_accepted [] read.header.given Dimension header_has.entries header_has.is_section.has_required.1.0 in
        let cities = read.says.cities_are in
        omega (arith, cities, accepted.1)

    same_end : end_line bytes ≡ end_line next.bytes
    same_end = ap (λ (p : Position). end_line p.bytes) (sym start_is) ∙ ap end_line same

    behind : read_tours bytes ≡ with_numbers said.cities said.format (matrix_reading (matrix_shape said.format said.cities) [] next)
    behind =
        ap (read_behind (end_line bytes)) (from_start ∙ read.is)
        ∙ ap (read_matrix (end_line bytes) read.header) read.says.format_is
        ∙ ap (λ n. with_numbers n said.format (read_from (matrix_shape said.format n) (ending_line (end_line bytes) (flat_map words_in read.header.section.behind)) [] (before_ending (flat_map words_in read.header.section.behind)))) (sym read.says.cities_are)
        ∙ ap (λ (ws : List TextWord). with_numbers said.cities said.format (read_from (matrix_shape said.format said.cities) (ending_line (end_line bytes) ws) [] (before_ending ws))) (sym read.words)
        ∙ ap (λ e. with_numbers said.cities said.format (read_from (matrix_shape said.format said.cities) (ending_line e (words_left next)) [] (before_ending (words_left next)))) same_end

    pub numbers-end : (end : FileEnd) → EndsNumbers next said end → EndsReading bytes end
    numbers-end Memory ends = tt
    numbers-end (TooLarge number limit) ends = absurd ends
    numbers-end (Refused f) ends = offence_by (text_fault f) (behind ∙ ap (with_numbers said.cities said.format) ends)

    module _ (end_at : Position) (kept : List ℕ) (past : Option Past) (all : NumbersRead next said kept past end_at) where
      whole : matrix_shape said.format said.cities all.numbers ≡ DueEnd
      whole =
          let count = all.count_is in
          ap (λ b. cond b due_number DueEnd) (le-ltb (length all.numbers) (matrix_count said.format said.cities) (omega (arith, count)))

      pub surplus : (f : TextFault) → IsMatrixSurplus end_at f → IsTourOffence bytes f.kind f.line
      surplus f s =
          offence_by (text_fault f) (behind ∙ ap (with_numbers said.cities said.format) (all.goes_on ∙ matrix-surplus (matrix_shape said.format said.cities) all.numbers end_at whole f s))

      abbrev contents_read : Contents
      contents_read = record { cities = said.cities; format = said.format; numbers = all.numbers }

      module _ (none : before_ending (words_left end_at) ≡ []) where
        has : HasContents bytes contents_read
        has =
            let e : read_tours bytes ≡ answer contents_read = behind ∙ ap (with_numbers said.cities said.format) (all.goes_on ∙ matrix-whole (matrix_shape said.format said.cities) all.numbers end_at whole none) in
            subst (TourSays bytes) e (tours_say bytes)

        pub too_large : (p : Past) → past ≡ Some p → IsPastLimit bytes p.number p.limit
        too_large p e = record { contents = contents_read; has = has; first = sym all.past_is ∙ ap (option_map limited) e }

        module _ (is_none : past ≡ None) where
          first_none : first_past (contents_limits contents_read) ≡ None
          first_none = sym all.past_is ∙ ap (option_map limited) is_none

          pub nothing_past : HasNonePast bytes
          nothing_past = record { contents = contents_read; has = has; none = first_none }

          read_within : IsWithinLimits (instance_of contents_read)
          read_within = within bytes contents_read has first_none

          pub few-cities : said.cities ≤ 60
          few-cities = read_within.few

          pub kept-count : length kept ≡ matrix_count said.format said.cities
          kept-count = ap length (all.kept_are is_none) ∙ all.count_is

          module _ (weights : List ℕ) (weights_are : weights ≡ weights_of said.format said.cities kept) where
            made_is : record { cities = said.cities; weights = weights } ≡ instance_of contents_read
            made_is = ap make (weights_are ∙ ap (weights_of said.format said.cities) (all.kept_are is_none))
              where
                make : List ℕ → Instance
                make ws = record { cities = said.cities; weights = ws }

            pub is_file : IsTourFile bytes (record { cities = said.cities; weights = weights })
            is_file = record { contents = contents_read; has = has; instance_is = made_is }

            pub is_within : IsWithinLimits (record { cities = said.cities; weights = weights })
            is_within = subst IsWithinLimits (sym made_is) read_within
