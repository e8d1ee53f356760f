-- What the parts of a reading show of the file.
use Rattle.std.proofs.Common.{◌≡◌, ℕ, suc, ◌+◌, ◌<◌, ◌^◌, List, [], ◌∷◌, length, map, slice_index_or, Ok, Err, refl, sym, ap, ap₂, subst, ◌∙◌, arith}
use Rattle.std.specs.List.{range_with_len}
use Rattle.yew_laws.specs.Sets.{contains}
use Rattle.yew_text.specs.declared.text.FileEnd.{FileEnd}
use Rattle.yew_text.specs.declared.text.FileEnd.TheVariants.{Refused, TooLarge, Memory}
use Rattle.yew_text.specs.declared.text.TextFault.{TextFault}
use Rattle.yew_text.specs.Numbers.{number_in, first_number}
use Rattle.yew_text.specs.Position.{Position, start_of, words_left, SameText}
use Rattle.yew_text.specs.Reading.{TakesNumber, IsSurplus, text_fault}
use Rattle.yew_text.specs.Words.{end_line}
use Rattle.yew_text.specs.Grammar.{reading}
use Rattle.yew_text.proofs.Steps.{refusal, number_is, reading_next, reading_fault, reading_whole, reading_surplus, reading_is_whole, reading_is_offence}
use Rattle.yew_lad.specs.Bits.{BitTable, in_row, row_members, digraph_in, HasVertices}
use Rattle.yew_lad.specs.Digraphs.{Digraph, vertex_count}
use Rattle.yew_lad.specs.Files.{AreVertices, digraph_of, graph_shape, IsGraphFile, IsGraphOffence, IsPastLimit, EndsReading}
use Rattle.yew_lad.specs.Reading.{numbers_so_far, VerticesRead, EndsVertices}
use Rattle.yew_lad.proofs.FileGrammar.{bounds}
use Rattle.yew_lad.proofs.FileSteps.{whole}
use Rattle.yew_lad.proofs.Ranges.{filter-agree}
use Rattle.std.specs.List.{filter}
use Rattle.std.proofs.lemmas.List.{length-map}

-- a number that was read is below 2^63
pub number-small : (old new : Position) (n : ℕ) → TakesNumber old (Ok n) new → n < 2 ^ 63
number-small old new n takes =
    let is : number_in takes.taken.0 ≡ Ok n = ap (first_number (end_line old.bytes)) (sym takes.taken.1.words) ∙ takes.gives in
    let fits = (number_is takes.taken.0 n is).fits in
    omega arith

-- rows that have the successors that were named
rows_are : (n : ℕ) (table : BitTable) (k : ℕ) (named : List (List ℕ)) → ((j b : ℕ) → b < n → in_row table (k + j) b ≡ contains (slice_index_or named j []) b) → map (row_members table n) (range_with_len k (length named)) ≡ map (λ successors. filter (contains successors) (range_with_len 0 n)) named
rows_are n table k [] same = refl
rows_are n table k (xs ∷ named) same =
    ap₂ (λ (ys : List ℕ) (yss : List (List ℕ)). ys ∷ yss)
    (filter-agree (in_row table k) (contains xs) 0 n (λ b l m. let here : k + 0 ≡ k = omega arith in ap (λ i. in_row table i b) (sym here) ∙ same 0 b (omega arith)))
    (rows_are n table (k + 1) named (λ j b l. let next : k + 1 + j ≡ k + suc j = omega arith in ap (λ i. in_row table i b) next ∙ same (suc j) b l))

module _ (bytes : List ℕ) (at : Position) (start_is : at ≡ start_of bytes) where
  from_start : reading graph_shape [] (start_of bytes) ≡ reading graph_shape [] at
  from_start = ap (reading graph_shape []) (sym start_is)

  offence_by : (f : TextFault) → reading graph_shape [] (start_of bytes) ≡ refusal (text_fault f) → IsGraphOffence bytes f.kind f.line
  offence_by f e = reading_is_offence graph_shape bytes f bounds e

  pub first_fault : (new : Position) (f : TextFault) → TakesNumber at (Err f) new → IsGraphOffence bytes f.kind f.line
  first_fault new f takes = offence_by f (from_start ∙ reading_fault graph_shape [] at new refl f takes)

  module _ (next : Position) (n : ℕ) (takes : TakesNumber at (Ok n) next) (same : SameText at next) where
    from_count : reading graph_shape [] (start_of bytes) ≡ reading graph_shape (n ∷ []) next
    from_count = from_start ∙ reading_next graph_shape [] at next refl n takes same

    pub vertices_end : (most : ℕ) (end : FileEnd) → EndsVertices n next end → EndsReading most bytes end
    vertices_end most Memory ends = tt
    vertices_end most (TooLarge number limit) ends = absurd ends
    vertices_end most (Refused f) ends = offence_by f (from_count ∙ ends)

    module _ (end_at : Position) (table : BitTable) (read : VerticesRead n n next end_at table) where
      pub surplus : (f : TextFault) → IsSurplus end_at f → IsGraphOffence bytes f.kind f.line
      surplus f s =
          offence_by f (from_count ∙ read.goes_on ∙ reading_surplus graph_shape (numbers_so_far n read.named) end_at (whole n read.named read.read_are) f s)

      module _ (none : words_left end_at ≡ []) where
        is_file : IsGraphFile bytes (digraph_of read.named)
        is_file =
            let e : reading graph_shape [] (start_of bytes) ≡ Ok (numbers_so_far n read.named) = from_count ∙ read.goes_on ∙ reading_whole graph_shape (numbers_so_far n read.named) end_at (whole n read.named read.read_are) none in
            record {
              named = read.named;
              numbers = (reading_is_whole graph_shape bytes (numbers_so_far (length read.named) read.named) bounds (e ∙ ap (λ (k : ℕ). Ok (numbers_so_far k read.named)) (sym read.read_are))).are_numbers;
              vertices = subst (λ m. AreVertices m read.named) (sym read.read_are) read.vertices;
              graph_is = refl;
            }

        size_is : vertex_count (digraph_of read.named) ≡ n
        size_is = length-map read.named (λ successors. filter (contains successors) (range_with_len 0 (length read.named))) ∙ read.read_are

        pub too_large : (most : ℕ) → most < n → IsPastLimit most bytes n most
        too_large most past = record { graph = digraph_of read.named; is_file = is_file; number_is = sym size_is; limit_is = refl; past = past }

        module _ (has : HasVertices n table) where
          graph-is : digraph_in n table ≡ digraph_of read.named
          graph-is =
              ap make
              (ap (λ k. map (row_members table n) (range_with_len 0 k)) (sym read.read_are)
              ∙ rows_are n table 0 read.named (λ j b l. let here : 0 + j ≡ j = omega arith in ap (λ i. in_row table i b) here ∙ read.bits has j b l)
              ∙ ap (λ k. map (λ successors. filter (contains successors) (range_with_len 0 k)) read.named) (sym read.read_are))
            where
              make : List (List ℕ) → Digraph
              make successors = record { successors = successors }

          pub is_graph : IsGraphFile bytes (digraph_in n table)
          is_graph = subst (IsGraphFile bytes) (sym graph-is) is_file
