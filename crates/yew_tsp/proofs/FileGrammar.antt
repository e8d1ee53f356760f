-- A file of tours has one instance, or one first offence.
use Rattle.std.proofs.Common.{◌≡◌, ℕ, suc, ◌+◌, ◌<◌, ◌≤◌, Bool, cond, ltb, List, [], ◌∷◌, ◌++◌, length, Option, Some, None, Result, Ok, Err, refl, sym, ap, subst, ◌∙◌, arith, inl, inr}
use Rattle.std.specs.List.{AllZip, AllByRecursion}
use Rattle.std.proofs.lemmas.Bool.{cases_Bool, ltb-true, ltb-false, lt-ltb, le-ltb}
use Rattle.std.proofs.lemmas.List.{length-append}
use Rattle.yew_text.specs.declared.text.TextKind.{TextKind}
use Rattle.yew_text.specs.Words.{TextWord, end_line}
use Rattle.yew_text.specs.Numbers.{value_of, greatest, IsNumber, Fault}
use Rattle.yew_text.specs.Fields.{fields_of}
use Rattle.yew_text.specs.Grammar.{DueBelow, DueEnd, due_number, Fits, IsBounded, AreDue, HasOffence, IsWhole, Says as Spoken, read_from}
use Rattle.yew_text.proofs.Readings.{fault, one_offence, not_both, one_list, all_fit, read_says}
use Rattle.yew_tsp.specs.declared.header.Format.{Format}
use Rattle.yew_tsp.specs.declared.header.Key.TheVariants.{Dimension, WeightFormat}
use Rattle.yew_tsp.specs.FileReading.{read_header, with_numbers, cities_in, read_matrix, read_behind, read_tours}
use Rattle.yew_tsp.specs.Files.{Contents, Says, HasContents, HasMatrixOffence, IsTourOffence}
use Rattle.yew_tsp.specs.Headers.{Header, HasHeader, HasHeaderOffence}
use Rattle.yew_tsp.specs.Keys.{format_word, value_at, every_format, named}
use Rattle.yew_tsp.specs.Matrices.{matrix_words, matrix_end, matrix_count, matrix_shape}
use Rattle.yew_tsp.proofs.KeyValues.{same_format, named_is, named_none, named_format}
use Rattle.yew_tsp.proofs.HeaderParts.{ReadSays, header_says, got, refused, header_back, header_offence_back, given_accepted}

pub bounds : (format : Format) (n : ℕ) → IsBounded (matrix_shape format n)
bounds format n ns fit = elim (cases_Bool (ltb (length ns) (matrix_count format n))) [ inl lt ↦ rw lt (omega arith) | inr ge ↦ rw ge tt ]

due : (format : Format) (n : ℕ) (done rest : List ℕ) → length done + length rest ≡ matrix_count format n → AllByRecursion (λ m. m ≤ greatest) rest → AreDue (matrix_shape format n) done rest
due format n done [] e fit = tt
due format n done (m ∷ rest) e fit = (
  subst (λ (b : Bool). Fits (cond b due_number DueEnd) m) (sym (lt-ltb (length done) (matrix_count format n) (omega arith))) (let small = fit.0 in let below : m < suc greatest = omega arith in below),
  due format n (done ++ m ∷ []) rest (omega (arith, length-append done (m ∷ []))) fit.1,
)

few : (format : Format) (n : ℕ) (done rest : List ℕ) → length done ≤ matrix_count format n → AreDue (matrix_shape format n) done rest → length done + length rest ≤ matrix_count format n
few format n done [] le are = omega arith
few format n done (m ∷ rest) le are =
    elim (cases_Bool (ltb (length done) (matrix_count format n))) [
      | inl lt ↦ let l : length done < matrix_count format n = ltb-true _ _ lt in let p : length (done ++ m ∷ []) + length rest ≤ matrix_count format n = few format n (done ++ m ∷ []) rest (omega (arith, length-append done (m ∷ []))) are.1 in omega (arith, length-append done (m ∷ []))
      | inr ge ↦ absurd (let none : ⊥ = subst (λ (b : Bool). Fits (cond b due_number DueEnd) m) ge are.0 in none)
    ]

whole_of : (words : List TextWord) (format : Format) (n : ℕ) (numbers : List ℕ) → AllZip IsNumber words numbers → length numbers ≡ matrix_count format n → IsWhole (matrix_shape format n) words numbers
whole_of words format n numbers h count = record {
  are_numbers = h;
  are_due = due format n [] numbers (let e : 0 + length numbers ≡ matrix_count format n = omega arith in e) (all_fit words numbers h);
  ends = rw (le-ltb (length numbers) (matrix_count format n) (omega arith)) refl;
}

not_due : {A : Type 0} (limit : ℕ) → DueBelow limit ≡ DueEnd → A
not_due limit e = absurd cc

pub count_of : (words : List TextWord) (format : Format) (n : ℕ) (numbers : List ℕ) → IsWhole (matrix_shape format n) words numbers → length numbers ≡ matrix_count format n
count_of words format n numbers h =
    let l : 0 + length numbers ≤ matrix_count format n = few format n [] numbers (omega arith) h.are_due in
    elim (cases_Bool (ltb (length numbers) (matrix_count format n))) [
      | inl lt ↦ not_due (suc greatest) (subst (λ (b : Bool). cond b due_number DueEnd ≡ DueEnd) lt h.ends)
      | inr ge ↦ let g : matrix_count format n ≤ length numbers = ltb-false _ _ ge in omega arith
    ]

-- ---- one

got_is : (a b : Header) → got a ≡ got b → a ≡ b
got_is a b e = cc

one_header : (bytes : List ℕ) (a b : Header) → HasHeader bytes a → HasHeader bytes b → a ≡ b
one_header bytes a b h k = got_is a b (sym (header_back bytes a h) ∙ header_back bytes b k)

no_offence : (bytes : List ℕ) (header : Header) (kind : TextKind) (line : ℕ) → HasHeader bytes header → ¬ HasHeaderOffence bytes kind line
no_offence bytes header kind line h k = absurd (let e : got header ≡ refused kind line = sym (header_back bytes header h) ∙ header_offence_back bytes kind line k in cc)

one_header_offence : (bytes : List ℕ) (kind other : TextKind) (line other_line : ℕ) → HasHeaderOffence bytes kind line → HasHeaderOffence bytes other other_line → fault kind line ≡ fault other other_line
one_header_offence bytes kind other line other_line h k = same_fault (fault kind line) (fault other other_line) (sym (header_offence_back bytes kind line h) ∙ header_offence_back bytes other other_line k)
  where
    same_fault : (a b : Fault) → ◌≡◌ {A = Result Header Fault} (Err a) (Err b) → a ≡ b
    same_fault a b e = cc

one_cities : (a b : Header) (m n : ℕ) (f g : Format) → a ≡ b → Says a.given m f → Says b.given n g → m ≡ n
one_cities a b m n f g e h k = h.cities_are ∙ ap (λ (x : Header). value_of (value_at x.given Dimension)) e ∙ sym k.cities_are

one_format : (a b : Header) (m n : ℕ) (f g : Format) → a ≡ b → Says a.given m f → Says b.given n g → f ≡ g
one_format a b m n f g e h k = same_format f g (sym h.format_is ∙ ap (λ (x : Header). value_at x.given WeightFormat) e ∙ k.format_is)

pub one_file : (bytes : List ℕ) (a b : Contents) → HasContents bytes a → HasContents bytes b → a ≡ b
one_file bytes a b h k =
    let header = one_header bytes h.header k.header h.has_header k.has_header in
    let cities = one_cities h.header k.header a.cities b.cities a.format b.format header h.says k.says in
    let format = one_format h.header k.header a.cities b.cities a.format b.format header h.says k.says in
    let numbers = one_list (matrix_words k.header.section.behind) a.numbers b.numbers (subst (λ (x : Header). AllZip IsNumber (matrix_words x.section.behind) a.numbers) header h.numbers) k.numbers in
    λ i. record { cities = cities i; format = format i; numbers = numbers i }

-- a matrix's offence under the header, the number and the format of another
moved : (bytes : List ℕ) (a b : Header) (m n : ℕ) (f g : Format) (kind : TextKind) (line : ℕ) → a ≡ b → m ≡ n → f ≡ g → HasOffence (matrix_shape f m) (matrix_end (end_line bytes) a.section.behind) (matrix_words a.section.behind) kind line → HasOffence (matrix_shape g n) (matrix_end (end_line bytes) b.section.behind) (matrix_words b.section.behind) kind line
moved bytes a b m n f g kind line header cities format h =
    subst (λ (x : Header). HasOffence (matrix_shape g n) (matrix_end (end_line bytes) x.section.behind) (matrix_words x.section.behind) kind line) header
    (subst (λ (x : Format). HasOffence (matrix_shape x n) (matrix_end (end_line bytes) a.section.behind) (matrix_words a.section.behind) kind line) format
    (subst (λ (x : ℕ). HasOffence (matrix_shape f x) (matrix_end (end_line bytes) a.section.behind) (matrix_words a.section.behind) kind line) cities h))

one_matrix_offence : (bytes : List ℕ) (kind other : TextKind) (line other_line : ℕ) → HasMatrixOffence bytes kind line → HasMatrixOffence bytes other other_line → fault kind line ≡ fault other other_line
one_matrix_offence bytes kind other line other_line h k =
    let header = one_header bytes h.header k.header h.has_header k.has_header in
    let cities = one_cities h.header k.header h.cities k.cities h.format k.format header h.says k.says in
    let format = one_format h.header k.header h.cities k.cities h.format k.format header h.says k.says in
    one_offence (matrix_shape k.format k.cities) (matrix_end (end_line bytes) k.header.section.behind) (matrix_words k.header.section.behind) kind other line other_line
    (moved bytes h.header k.header h.cities k.cities h.format k.format kind line header cities format h.offence) k.offence

pub one_fault : (bytes : List ℕ) (kind other : TextKind) (line other_line : ℕ) → IsTourOffence bytes kind line → IsTourOffence bytes other other_line → fault kind line ≡ fault other other_line
one_fault bytes kind other line other_line (inl h) (inl k) = one_header_offence bytes kind other line other_line h k
one_fault bytes kind other line other_line (inl h) (inr k) = absurd (no_offence bytes k.header kind line k.has_header h)
one_fault bytes kind other line other_line (inr h) (inl k) = absurd (no_offence bytes h.header other other_line h.has_header k)
one_fault bytes kind other line other_line (inr h) (inr k) = one_matrix_offence bytes kind other line other_line h k

pub apart : (bytes : List ℕ) (file : Contents) (kind : TextKind) (line : ℕ) → HasContents bytes file → ¬ IsTourOffence bytes kind line
apart bytes file kind line h (inl k) = no_offence bytes h.header kind line h.has_header k
apart bytes file kind line h (inr k) =
    let header = one_header bytes k.header h.header k.has_header h.has_header in
    let cities = one_cities k.header h.header k.cities file.cities k.format file.format header k.says h.says in
    let format = one_format k.header h.header k.cities file.cities k.format file.format header k.says h.says in
    not_both (matrix_shape file.format file.cities) (matrix_end (end_line bytes) h.header.section.behind) (matrix_words h.header.section.behind) file.numbers kind line
    (whole_of (matrix_words h.header.section.behind) file.format file.cities file.numbers h.numbers h.count)
    (moved bytes k.header h.header k.cities file.cities k.format file.format kind line header cities format k.offence)

-- ---- either

-- what an answer says
abbrev pub TourSays : List ℕ → Result Contents Fault → Type 0
TourSays bytes (Ok file) = HasContents bytes file
TourSays bytes (Err f) = IsTourOffence bytes f.kind f.line

numbers_say : (bytes : List ℕ) (header : Header) (format : Format) → HasHeader bytes header → Says header.given (cities_in header) format → (r : Result (List ℕ) Fault) → Spoken (matrix_shape format (cities_in header)) (matrix_end (end_line bytes) header.section.behind) (matrix_words header.section.behind) r → TourSays bytes (with_numbers (cities_in header) format r)
numbers_say bytes header format h says (Ok numbers) w = record { header = header; has_header = h; says = says; numbers = w.are_numbers; count = count_of (matrix_words header.section.behind) format (cities_in header) numbers w }
numbers_say bytes header format h says (Err f) o = inr (record { header = header; cities = cities_in header; format = format; has_header = h; says = says; offence = o })

matrix_says : (bytes : List ℕ) (header : Header) → HasHeader bytes header → (o : Option Format) → named format_word every_format (value_at header.given WeightFormat) ≡ o → TourSays bytes (read_matrix (end_line bytes) header o)
matrix_says bytes header h (Some format) e =
    numbers_say bytes header format h (record { cities_are = refl; format_is = named_is format_word every_format (value_at header.given WeightFormat) format e })
    (read_from (matrix_shape format (cities_in header)) (matrix_end (end_line bytes) header.section.behind) [] (matrix_words header.section.behind))
    (read_says (matrix_shape format (cities_in header)) (matrix_end (end_line bytes) header.section.behind) (bounds format (cities_in header)) (matrix_words header.section.behind))
matrix_says bytes header h None e =
    let accepted = given_accepted [] header.given WeightFormat h.entries h.is_section.has_required.1.1.1.0 in
    absurd (named_none format_word every_format (value_at header.given WeightFormat) accepted.0 (named_format accepted.0) e accepted.1)

behind_says : (bytes : List ℕ) (r : Result Header Fault) → ReadSays bytes r → TourSays bytes (read_behind (end_line bytes) r)
behind_says bytes (Ok header) h = matrix_says bytes header h (named format_word every_format (value_at header.given WeightFormat)) refl
behind_says bytes (Err f) h = inl h

-- The answer is right.
pub tours_say : (bytes : List ℕ) → TourSays bytes (read_tours bytes)
tours_say bytes = behind_says bytes (read_header (end_line bytes) [] (fields_of bytes)) (header_says bytes)
