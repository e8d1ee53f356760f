-- A line of the specification part is an entry, the section's line or an offence.
use Rattle.std.proofs.Common.{◌≡◌, ◌≢◌, ℕ, Bool, true, false, cond, List, [], ◌∷◌, Option, Some, None, refl, sym, ap, subst, ◌∙◌, inl, inr}
use Rattle.std.specs.Prelude.{IsTrue, IsFalse, bytes_eq, codes}
use Rattle.std.specs.List.{AllByRecursion, list_all}
use Rattle.std.proofs.lemmas.Bool.{cases_Bool, both_ways, and_parts, and_from}
use Rattle.yew_text.specs.declared.text.TextKind.{TextKind}
use Rattle.yew_text.specs.declared.text.TextKind.TheVariants.{NotNumber, TooBig, EndsEarly, Surplus, BadLine}
use Rattle.yew_text.specs.Words.{is_nonempty}
use Rattle.yew_text.specs.Fields.{TextField}
use Rattle.yew_tsp.specs.declared.header.Key.{Key}
use Rattle.yew_tsp.specs.declared.header.Key.TheVariants.{Name, Comment, DataType, Dimension, WeightType, WeightFormat, DisplayType, CoordType}
use Rattle.yew_tsp.specs.FileReading.{value_fault, Judged, Entry, Section, Offends, judge_value, judge_key, judge_section, judge_field}
use Rattle.yew_tsp.specs.Headers.{IsEntry, required, HasRequired, IsSection, HasBadValue, IsBadLine, unknown_key, no_colon, repeated_key, bad_value, section_with_value, missing_key, IsFieldOffence}
use Rattle.yew_tsp.specs.Keys.{key_word, section_word, IsBadValue, is_given, is_repeated, every_key, named}
use Rattle.yew_tsp.proofs.KeyValues.{same_word, other_word, own_word, differs, named_is, named_none, unnamed, named_key, not_eof, not_section, ValueSays, value_says, accepted_passes, bad_fails}

abbrev pub JudgedSays : List TextField → TextField → Judged → Type 0
JudgedSays given field Entry = IsEntry given field
JudgedSays given field Section = IsSection given field
JudgedSays given field (Offends kind) = IsFieldOffence given field kind

pub never_ends : (key : Key) (value : List ℕ) → ¬ IsBadValue key value EndsEarly
never_ends Name value h = h
never_ends Comment value h = h
never_ends DataType value h = h
never_ends Dimension value h = h
never_ends WeightType value h = h
never_ends WeightFormat value h = h
never_ends DisplayType value h = h
never_ends CoordType value h = h

pub never_surplus : (key : Key) (value : List ℕ) → ¬ IsBadValue key value Surplus
never_surplus Name value h = h
never_surplus Comment value h = h
never_surplus DataType value h = h
never_surplus Dimension value h = h
never_surplus WeightType value h = h
never_surplus WeightFormat value h = h
never_surplus DisplayType value h = h
never_surplus CoordType value h = h

pub bad_offends : (given : List TextField) (field : TextField) (kind : TextKind) → HasBadValue given field kind → IsFieldOffence given field kind
bad_offends given field NotNumber h = h
bad_offends given field TooBig h = h
bad_offends given field BadLine h = bad_value h
bad_offends given field EndsEarly h = absurd (never_ends h.key field.value h.bad)
bad_offends given field Surplus h = absurd (never_surplus h.key field.value h.bad)

pub value_judged : (given : List TextField) (field : TextField) (key : Key) → field.key ≡ key_word key → IsTrue field.colon → IsFalse (is_repeated given key) → (o : Option TextKind) → ValueSays key field.value o → JudgedSays given field (judge_value o)
value_judged given field key key_is colon new None h = record { key = key; key_is = key_is; colon = colon; new = new; accepted = h }
value_judged given field key key_is colon new (Some kind) h = bad_offends given field kind (record { key = key; key_is = key_is; colon = colon; new = new; bad = h })

pub key_judged : (given : List TextField) (field : TextField) → field.key ≢ codes "EOF" → field.key ≢ section_word → (o : Option Key) → named key_word every_key field.key ≡ o → JudgedSays given field (judge_key given field o)
key_judged given field eof section None e = unknown_key (λ key. named_none key_word every_key field.key key (named_key key) e) eof section
key_judged given field eof section (Some key) e =
    let key_is = named_is key_word every_key field.key key e in
    let taken = judge_value (value_fault key field.value) in
    let inner = cond (is_repeated given key) (Offends BadLine) taken in
    let P : Bool → Type 0 = λ b. JudgedSays given field (cond b inner (Offends BadLine)) in
    let Q : Bool → Type 0 = λ b. JudgedSays given field (cond b (Offends BadLine) taken) in
    elim (cases_Bool field.colon) [
      | inl colon ↦ subst P (sym colon) (elim (cases_Bool (is_repeated given key)) [
        | inl again ↦ subst Q (sym again) (repeated_key key key_is again)
        | inr new ↦ subst Q (sym new) (value_judged given field key key_is colon new (value_fault key field.value) (value_says key field.value))
      ])
      | inr without ↦ subst P (sym without) (no_colon key key_is without)
    ]

pub list_all-true : (test : Key → Bool) (names : List Key) → list_all test names ≡ true → AllByRecursion (λ name. IsTrue (test name)) names
list_all-true test [] e = tt
list_all-true test (name ∷ names) e = let p = and_parts (test name) (list_all test names) e in (p.0, list_all-true test names p.1)

pub all-list_all : (test : Key → Bool) (names : List Key) → AllByRecursion (λ name. IsTrue (test name)) names → list_all test names ≡ true
all-list_all test [] all = refl
all-list_all test (name ∷ names) all = and_from (test name) (list_all test names) all.0 (all-list_all test names all.1)

pub nonempty_not : (value : List ℕ) → is_nonempty value ≡ true → value ≢ []
nonempty_not [] e h = absurd cc
nonempty_not (b ∷ value) e h = absurd cc

pub empty_is : (value : List ℕ) → is_nonempty value ≡ false → value ≡ []
empty_is [] e = refl
empty_is (b ∷ value) e = absurd cc

pub section_judged : (given : List TextField) (field : TextField) → field.key ≡ section_word → JudgedSays given field (judge_section given field)
section_judged given field key_is =
    elim (cases_Bool (is_nonempty field.value)) [
      | inl some ↦ rw some (section_with_value key_is (nonempty_not field.value some))
      | inr none ↦ elim (cases_Bool (list_all (is_given given) required)) [
        | inl all ↦ rw (none, all) (record { key_is = key_is; no_value = empty_is field.value none; has_required = list_all-true (is_given given) required all })
        | inr not_all ↦ rw (none, not_all) (missing_key key_is (λ has. both_ways (list_all (is_given given) required) not_all (all-list_all (is_given given) required has)))
      ]
    ]

pub judged : (given : List TextField) (field : TextField) → JudgedSays given field (judge_field given field)
judged given field =
    elim (cases_Bool (bytes_eq (codes "EOF") field.key)) [
      | inl eof ↦ rw eof (sym (same_word (codes "EOF") field.key eof))
      | inr not_end ↦ elim (cases_Bool (bytes_eq section_word field.key)) [
        | inl section ↦ rw (not_end, section) (section_judged given field (sym (same_word section_word field.key section)))
        | inr other ↦ rw (not_end, other) (key_judged given field (λ e. other_word (codes "EOF") field.key not_end (sym e)) (λ e. other_word section_word field.key other (sym e)) (named key_word every_key field.key) refl)
      ]
    ]

-- and back
pub at_key : (given : List TextField) (field : TextField) (key : Key) → field.key ≡ key_word key → judge_field given field ≡ judge_key given field (Some key)
at_key given field key e =
    ap (λ (w : List ℕ). cond (bytes_eq (codes "EOF") w) (Offends EndsEarly) (cond (bytes_eq section_word w) (judge_section given field) (judge_key given field (named key_word every_key w)))) e
    ∙ rw (not_eof key, not_section key, named_key key) refl

pub entry_back : (given : List TextField) (field : TextField) → IsEntry given field → judge_field given field ≡ Entry
entry_back given field h = at_key given field h.key h.key_is ∙ rw (h.colon, h.new, accepted_passes h.key field.value h.accepted) refl

pub bad_back : (given : List TextField) (field : TextField) (kind : TextKind) → HasBadValue given field kind → judge_field given field ≡ Offends kind
bad_back given field kind h = at_key given field h.key h.key_is ∙ rw (h.colon, h.new, bad_fails h.key field.value kind h.bad) refl

pub at_section : (given : List TextField) (field : TextField) → field.key ≡ section_word → judge_field given field ≡ judge_section given field
at_section given field e = ap (λ (w : List ℕ). cond (bytes_eq (codes "EOF") w) (Offends EndsEarly) (cond (bytes_eq section_word w) (judge_section given field) (judge_key given field (named key_word every_key w)))) e

pub section_back : (given : List TextField) (field : TextField) → IsSection given field → judge_field given field ≡ Section
section_back given field h = at_section given field h.key_is ∙ rw (ap is_nonempty h.no_value, all-list_all (is_given given) required h.has_required) refl

pub not_nonempty : (value : List ℕ) → value ≢ [] → is_nonempty value ≡ true
not_nonempty [] h = absurd (h refl)
not_nonempty (b ∷ value) h = refl

pub missing_back : (given : List TextField) (field : TextField) (b : Bool) → is_nonempty field.value ≡ b → ¬ HasRequired given → judge_section given field ≡ Offends BadLine
missing_back given field true e h = rw e refl
missing_back given field false e h = elim (cases_Bool (list_all (is_given given) required)) [ inl all ↦ absurd (h (list_all-true (is_given given) required all)) | inr not_all ↦ rw (e, not_all) refl ]

pub bad_line_back : (given : List TextField) (field : TextField) → IsBadLine given field → judge_field given field ≡ Offends BadLine
bad_line_back given field (unknown_key h eof section) = rw (differs (codes "EOF") field.key eof, differs section_word field.key section, unnamed key_word every_key field.key h) refl
bad_line_back given field (no_colon key key_is h) = at_key given field key key_is ∙ rw h refl
bad_line_back given field (repeated_key key key_is h) = at_key given field key key_is ∙ again field.colon refl
  where
    again : (b : Bool) → field.colon ≡ b → judge_key given field (Some key) ≡ Offends BadLine
    again true e = rw (e, h) refl
    again false e = rw e refl
bad_line_back given field (bad_value h) = bad_back given field BadLine h
bad_line_back given field (section_with_value key_is h) = at_section given field key_is ∙ rw (not_nonempty field.value h) refl
bad_line_back given field (missing_key key_is h) = at_section given field key_is ∙ missing_back given field (is_nonempty field.value) refl h

pub offence_back : (given : List TextField) (field : TextField) (kind : TextKind) → IsFieldOffence given field kind → judge_field given field ≡ Offends kind
offence_back given field EndsEarly h = rw (own_word (codes "EOF") field.key h) refl
offence_back given field BadLine h = bad_line_back given field h
offence_back given field NotNumber h = bad_back given field NotNumber h
offence_back given field TooBig h = bad_back given field TooBig h
offence_back given field Surplus h = absurd h
