-- The specification part is read, or has one first offence.
use Rattle.std.proofs.Common.{◌≡◌, ℕ, Bool, true, false, cond, List, [], ◌∷◌, ◌++◌, Result, Ok, Err, refl, sym, ap, subst, ◌∙◌, append_assoc, inl, inr}
use Rattle.std.specs.Prelude.{map, IsTrue}
use Rattle.std.proofs.lemmas.Bool.{cases_Bool, both_ways}
use Rattle.std.proofs.lemmas.List.{append-nil}
use Rattle.yew_text.specs.declared.text.TextKind.{TextKind}
use Rattle.yew_text.specs.declared.text.TextKind.TheVariants.{EndsEarly}
use Rattle.yew_text.specs.Words.{end_line}
use Rattle.yew_text.specs.Numbers.{Fault}
use Rattle.yew_text.specs.Fields.{TextField, FieldAt, fields_of}
use Rattle.yew_tsp.specs.declared.header.Key.{Key}
use Rattle.yew_tsp.specs.FileReading.{Judged, Entry, Section, Offends, judge_field, header_on, read_header}
use Rattle.yew_tsp.specs.Headers.{IsEntry, AreEntries, Header, HasHeader, IsHeaderStop, HasHeaderOffence}
use Rattle.yew_tsp.specs.Keys.{key_word, IsAccepted, has_key, is_given, value_at}
use Rattle.yew_tsp.proofs.KeyValues.{same_word, same_key}
use Rattle.yew_tsp.proofs.HeaderLines.{JudgedSays, judged, entry_back, section_back, offence_back}

abbrev pub entries_in : List FieldAt → List TextField
entries_in ats = map (λ at. at.field) ats

pub fields-push : (before : List FieldAt) (at : FieldAt) → entries_in (before ++ at ∷ []) ≡ entries_in before ++ at.field ∷ []
fields-push [] at = refl
fields-push (b ∷ before) at = ap (λ (fs : List TextField). b.field ∷ fs) (fields-push before at)

pub AreEntries-push : (given fields : List TextField) (field : TextField) → AreEntries given fields → IsEntry (given ++ fields) field → AreEntries given (fields ++ field ∷ [])
AreEntries-push given [] field are new = (subst (λ (fs : List TextField). IsEntry fs field) (append-nil given) new, tt)
AreEntries-push given (f ∷ fields) field are new = (are.0, AreEntries-push (given ++ f ∷ []) fields field are.1 (subst (λ (fs : List TextField). IsEntry fs field) (sym (append_assoc given (f ∷ []) fields)) new))

abbrev pub ReadSays : List ℕ → Result Header Fault → Type 0
ReadSays bytes (Ok header) = HasHeader bytes header
ReadSays bytes (Err fault) = HasHeaderOffence bytes fault.kind fault.line

pub header_step : (end : ℕ) (given : List TextField) (at : FieldAt) (ats : List FieldAt) → read_header end given (at ∷ ats) ≡ header_on given at (judge_field given at.field) (λ more. read_header end more ats)
unfolding read_header
header_step end given at ats = refl

pub header_end : (end : ℕ) (given : List TextField) → read_header end given [] ≡ Err (record { kind = EndsEarly; line = end })
unfolding read_header
header_end end given = refl

pub says_on : (bytes : List ℕ) (before : List FieldAt) (at : FieldAt) (ats : List FieldAt) → fields_of bytes ≡ before ++ at ∷ ats → AreEntries [] (entries_in before) → (j : Judged) → JudgedSays (entries_in before) at.field j → (rest : List TextField → Result Header Fault) → (IsEntry (entries_in before) at.field → ReadSays bytes (rest (entries_in before ++ at.field ∷ []))) → ReadSays bytes (header_on (entries_in before) at j rest)
says_on bytes before at ats are entries Entry h rest more = more h
says_on bytes before at ats are entries Section h rest more = record { before = before; more = ats; fields_are = are; given_are = refl; entries = entries; is_section = h }
says_on bytes before at ats are entries (Offends kind) h rest more = record { before = before; rest = at ∷ ats; fields_are = are; entries = entries; stop = (h, refl) }

pub says_from : (bytes : List ℕ) (before ats : List FieldAt) → fields_of bytes ≡ before ++ ats → AreEntries [] (entries_in before) → ReadSays bytes (read_header (end_line bytes) (entries_in before) ats)
says_from bytes before [] are entries = rw (header_end (end_line bytes) (entries_in before)) (record { before = before; rest = []; fields_are = are; entries = entries; stop = (refl, refl) })
says_from bytes before (at ∷ ats) are entries =
    rw (header_step (end_line bytes) (entries_in before) at ats)
    (says_on bytes before at ats are entries (judge_field (entries_in before) at.field) (judged (entries_in before) at.field) (λ more. read_header (end_line bytes) more ats)
    (λ entry. subst (λ (fs : List TextField). ReadSays bytes (read_header (end_line bytes) fs ats)) (fields-push before at)
    (says_from bytes (before ++ at ∷ []) ats (are ∙ sym (append_assoc before (at ∷ []) ats)) (subst (AreEntries []) (sym (fields-push before at)) (AreEntries-push [] (entries_in before) at.field entries entry)))))

-- What the specification part says, or its first offence.
pub header_says : (bytes : List ℕ) → ReadSays bytes (read_header (end_line bytes) [] (fields_of bytes))
header_says bytes = says_from bytes [] (fields_of bytes) refl tt

pub header_leads : (end : ℕ) (given : List TextField) (before rest : List FieldAt) → AreEntries given (entries_in before) → read_header end given (before ++ rest) ≡ read_header end (given ++ entries_in before) rest
header_leads end given [] rest are = ap (λ (fs : List TextField). read_header end fs rest) (sym (append-nil given))
header_leads end given (at ∷ before) rest are =
    header_step end given at (before ++ rest) ∙ ap (λ (j : Judged). header_on given at j (λ more. read_header end more (before ++ rest))) (entry_back given at.field are.0)
    ∙ header_leads end (given ++ at.field ∷ []) before rest are.1 ∙ ap (λ (fs : List TextField). read_header end fs rest) (append_assoc given (at.field ∷ []) (entries_in before))

abbrev pub got : Header → Result Header Fault
got header = Ok header

abbrev pub refused : TextKind → ℕ → Result Header Fault
refused kind line = Err (record { kind = kind; line = line })

pub header_back : (bytes : List ℕ) (header : Header) → HasHeader bytes header → read_header (end_line bytes) [] (fields_of bytes) ≡ got header
header_back bytes header h =
    let end = end_line bytes in
    ap (read_header end []) h.fields_are
    ∙ header_leads end [] h.before (header.section ∷ h.more) (subst (AreEntries []) h.given_are h.entries)
    ∙ ap (λ (fs : List TextField). read_header end fs (header.section ∷ h.more)) (sym h.given_are)
    ∙ header_step end header.given header.section h.more
    ∙ ap (λ (j : Judged). header_on header.given header.section j (λ more. read_header end more h.more)) (section_back header.given header.section.field h.is_section)

pub stop_back : (end : ℕ) (given : List TextField) (rest : List FieldAt) (kind : TextKind) (line : ℕ) → IsHeaderStop end given rest kind line → read_header end given rest ≡ refused kind line
stop_back end given [] kind line h = header_end end given ∙ (let k : kind ≡ EndsEarly = h.0 in let l : line ≡ end = h.1 in cc)
stop_back end given (at ∷ ats) kind line h =
    header_step end given at ats ∙ ap (λ (j : Judged). header_on given at j (λ more. read_header end more ats)) (offence_back given at.field kind h.0)
    ∙ ap (λ (l : ℕ). refused kind l) (sym h.1)

pub header_offence_back : (bytes : List ℕ) (kind : TextKind) (line : ℕ) → HasHeaderOffence bytes kind line → read_header (end_line bytes) [] (fields_of bytes) ≡ refused kind line
header_offence_back bytes kind line h = ap (read_header (end_line bytes) []) h.fields_are ∙ header_leads (end_line bytes) [] h.before h.rest h.entries ∙ stop_back (end_line bytes) (entries_in h.before) h.rest kind line h.stop

-- the value of a key that was given is accepted
pub given_accepted : (before given : List TextField) (key : Key) → AreEntries before given → IsTrue (is_given given key) → IsAccepted key (value_at given key)
given_accepted before [] key are h = absurd (both_ways false refl h)
given_accepted before (field ∷ given) key are h =
    elim (cases_Bool (has_key key field)) [
      | inl here ↦ let e : are.0.key ≡ key = same_key are.0.key key (sym are.0.key_is ∙ sym (same_word (key_word key) field.key here)) in
          rw here (subst (λ (k : Key). IsAccepted k field.value) e are.0.accepted)
      | inr there ↦ rw there (given_accepted (before ++ field ∷ []) given key are.1 (subst (λ (b : Bool). IsTrue (cond b true (is_given given key))) there h))
    ]
