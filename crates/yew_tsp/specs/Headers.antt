-- The specification part of a file of tours, line by line, and its first offence.
use Rattle.std.specs.Prelude.{◌≡◌, ◌≢◌, ℕ, List, [], ◌∷◌, ◌++◌, map, IsTrue, IsFalse, codes}
use Rattle.std.specs.List.{AllByRecursion}
use Rattle.yew_text.specs.declared.text.TextKind.{TextKind}
use Rattle.yew_text.specs.declared.text.TextKind.TheVariants.{NotNumber, TooBig, EndsEarly, Surplus, BadLine}
use Rattle.yew_text.specs.Words.{end_line}
use Rattle.yew_text.specs.Fields.{TextField, FieldAt, fields_of}
use Rattle.yew_tsp.specs.declared.header.Key.{Key}
use Rattle.yew_tsp.specs.declared.header.Key.TheVariants.{DataType, Dimension, WeightType, WeightFormat}
use Rattle.yew_tsp.specs.Keys.{key_word, section_word, IsAccepted, IsBadValue, is_given, is_repeated}

-- A line of the specification part behind these.
pub record IsEntry (given : List TextField) (field : TextField) : Type 0 where
  pub key : Key
  pub key_is : field.key ≡ key_word key
  pub colon : IsTrue field.colon
  pub new : IsFalse (is_repeated given key)
  pub accepted : IsAccepted key field.value

abbrev pub AreEntries : List TextField → List TextField → Type 0
AreEntries given [] = Unit {0}
AreEntries given (field ∷ fields) = IsEntry given field × AreEntries (given ++ field ∷ []) fields

-- the keys that may not be absent
abbrev pub required : List Key
required = DataType ∷ Dimension ∷ WeightType ∷ WeightFormat ∷ []

abbrev pub HasRequired : List TextField → Type 0
HasRequired given = AllByRecursion (λ key. IsTrue (is_given given key)) required

-- The line that ends the specification part.
pub record IsSection (given : List TextField) (field : TextField) : Type 0 where
  pub key_is : field.key ≡ section_word
  pub no_value : field.value ≡ []
  pub has_required : HasRequired given

-- the lines before the section, and its own with the lines that follow
pub record Header : Type 0 where
  pub given : List TextField
  pub section : FieldAt

pub record HasHeader (bytes : List ℕ) (header : Header) : Type 0 where
  pub before : List FieldAt
  pub more : List FieldAt
  pub fields_are : fields_of bytes ≡ before ++ header.section ∷ more
  pub given_are : header.given ≡ map (λ at. at.field) before
  pub entries : AreEntries [] header.given
  pub is_section : IsSection header.given header.section.field

-- ---- its offences

-- the key, the colon and the first stand of the key are right, and the value is not
pub record HasBadValue (given : List TextField) (field : TextField) (kind : TextKind) : Type 0 where
  pub key : Key
  pub key_is : field.key ≡ key_word key
  pub colon : IsTrue field.colon
  pub new : IsFalse (is_repeated given key)
  pub bad : IsBadValue key field.value kind

-- a line that breaks a rule
pub data IsBadLine (given : List TextField) (field : TextField) : Type 0 where
  unknown_key : ((key : Key) → field.key ≢ key_word key) → field.key ≢ codes "EOF" → field.key ≢ section_word → IsBadLine given field
  no_colon : (key : Key) → field.key ≡ key_word key → IsFalse field.colon → IsBadLine given field
  repeated_key : (key : Key) → field.key ≡ key_word key → IsTrue (is_repeated given key) → IsBadLine given field
  bad_value : HasBadValue given field BadLine → IsBadLine given field
  section_with_value : field.key ≡ section_word → field.value ≢ [] → IsBadLine given field
  missing_key : field.key ≡ section_word → ¬ HasRequired given → IsBadLine given field

abbrev pub IsFieldOffence : List TextField → TextField → TextKind → Type 0
IsFieldOffence given field EndsEarly = field.key ≡ codes "EOF"
IsFieldOffence given field BadLine = IsBadLine given field
IsFieldOffence given field NotNumber = HasBadValue given field NotNumber
IsFieldOffence given field TooBig = HasBadValue given field TooBig
IsFieldOffence given field Surplus = ⊥

-- the end of the file before the section, or an offending line. The first number is the line of the end
abbrev pub IsHeaderStop : ℕ → List TextField → List FieldAt → TextKind → ℕ → Type 0
IsHeaderStop end given [] kind line = (kind ≡ EndsEarly) × (line ≡ end)
IsHeaderStop end given (at ∷ ats) kind line = IsFieldOffence given at.field kind × (line ≡ at.field.line)

pub record HasHeaderOffence (bytes : List ℕ) (kind : TextKind) (line : ℕ) : Type 0 where
  pub before : List FieldAt
  pub rest : List FieldAt
  pub fields_are : fields_of bytes ≡ before ++ rest
  pub entries : AreEntries [] (map (λ at. at.field) before)
  pub stop : IsHeaderStop (end_line bytes) (map (λ at. at.field) before) rest kind line
