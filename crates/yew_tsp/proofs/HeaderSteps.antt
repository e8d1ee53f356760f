-- One line of a cursor is one step of the reading of the specification part.
use Rattle.std.proofs.Common.{◌≡◌, ℕ, ◌<◌, List, [], ◌∷◌, ◌++◌, length, Result, Ok, Err, sym, ap, ◌∙◌, arith}
use Rattle.yew_text.specs.declared.text.TextKind.{TextKind}
use Rattle.yew_text.specs.declared.text.TextKind.TheVariants.{EndsEarly}
use Rattle.yew_text.specs.Fields.{TextField, FieldAt, fields_in}
use Rattle.yew_text.specs.Numbers.{Fault}
use Rattle.yew_text.specs.Position.{Position, fields_left, words_left, bytes_left}
use Rattle.yew_text.specs.Reading.{PassesField}
use Rattle.yew_text.specs.Words.{end_line}
use Rattle.yew_text.proofs.FieldLines.{field_laws}
use Rattle.yew_tsp.specs.declared.header.Given.{Given}
use Rattle.yew_tsp.specs.declared.header.Specification.{Specification}
use Rattle.yew_tsp.specs.FileReading.{Judged, Entry, Section, Offends, judge_field, header_on, read_header}
use Rattle.yew_tsp.specs.Headers.{Header}
use Rattle.yew_tsp.specs.Reading.{AreGiven, SaysAll, HeaderRead}
use Rattle.yew_tsp.proofs.HeaderParts.{header_step, header_end}

-- The lines up to here are entries, and the reading goes on behind them.
pub record SoFar (old : Position) (state : Given) (at : Position) : Type 0 where
  pub given : List TextField
  pub are : AreGiven given state
  pub goes_on : read_header (end_line old.bytes) [] (fields_left old) ≡ read_header (end_line old.bytes) given (fields_left at)

abbrev header_read : Header → Result Header Fault
header_read header = Ok header

abbrev pub header_fault : TextKind → ℕ → Result Header Fault
header_fault kind line = Err (record { kind = kind; line = line })

module _ (old at new : Position) (state : Given) (so_far : SoFar old state at) (field : TextField) (passes : PassesField at field new) where
  abbrev line_at : FieldAt
  line_at = record { field = field; behind = passes.behind }

  step : (judged : Judged) → judge_field so_far.given field ≡ judged → read_header (end_line old.bytes) [] (fields_left old) ≡ header_on so_far.given line_at judged (λ more. read_header (end_line old.bytes) more (fields_in passes.behind))
  step judged e =
      so_far.goes_on ∙ ap (read_header (end_line old.bytes) so_far.given) passes.fields
      ∙ header_step (end_line old.bytes) so_far.given line_at (fields_in passes.behind)
      ∙ ap (λ j. header_on so_far.given line_at j (λ more. read_header (end_line old.bytes) more (fields_in passes.behind))) e

  pub entry-read : judge_field so_far.given field ≡ Entry → (after : Given) → AreGiven (so_far.given ++ field ∷ []) after → SoFar old after new
  entry-read e after are = record {
    given = so_far.given ++ field ∷ [];
    are = are;
    goes_on = step Entry e ∙ ap (read_header (end_line old.bytes) (so_far.given ++ field ∷ [])) (sym passes.fields_are);
  }

  pub section-read : judge_field so_far.given field ≡ Section → (said : Specification) → SaysAll so_far.given said → HeaderRead old said new
  section-read e said says = record {
    header = record { given = so_far.given; section = line_at };
    is = step Section e;
    says = says;
    words = passes.words_are;
  }

  pub line-refused : (kind : TextKind) → judge_field so_far.given field ≡ Offends kind → read_header (end_line old.bytes) [] (fields_left old) ≡ header_fault kind field.line
  line-refused kind e = step (Offends kind) e

  -- fewer lines are left
  pub fewer-left : length (fields_left new) < length (fields_left at)
  fewer-left = let all = ap length passes.fields in let rest = ap length passes.fields_are in omega (arith, all, rest)

module _ (old at : Position) (state : Given) (so_far : SoFar old state at) (none : fields_left at ≡ []) where
  pub header-ends : read_header (end_line old.bytes) [] (fields_left old) ≡ header_fault EndsEarly (end_line old.bytes)
  header-ends = so_far.goes_on ∙ ap (read_header (end_line old.bytes) so_far.given) none ∙ header_end (end_line old.bytes) so_far.given

  pub no-words : words_left at ≡ []
  no-words = field_laws.no_fields at.line (bytes_left at) none
