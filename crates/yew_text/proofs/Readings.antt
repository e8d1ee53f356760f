-- Words of numbers are whole, or have one first offence.
use Rattle.std.proofs.Common.{◌≡◌, ℕ, ◌<◌, ◌≤◌, ltb, ◌⊎◌, List, [], ◌∷◌, ◌++◌, Result, Ok, Err, refl, sym, ap, subst, ◌∙◌, append_assoc, arith, inl, inr}
use Rattle.std.specs.List.{AllZip, AllByRecursion}
use Rattle.std.proofs.lemmas.Bool.{cases_Bool, ltb-true, ltb-false, lt-ltb, le-ltb}
use Rattle.std.proofs.lemmas.List.{append-nil}
use Rattle.yew_text.specs.declared.text.TextKind.{TextKind}
use Rattle.yew_text.specs.declared.text.TextKind.TheVariants.{NotNumber, TooBig, EndsEarly, Surplus}
use Rattle.yew_text.specs.Words.{TextWord}
use Rattle.yew_text.specs.Numbers.{is_digits, value_of, greatest, IsNumber, Fault}
use Rattle.yew_text.specs.GrammarLaws.{GrammarLaws}
use Rattle.yew_text.specs.Grammar.{Due, DueBelow, DueEnd, Shape, Fits, HasBound, IsBounded, AreDue, IsOffence, HasOffence, IsWhole, Says, read_end, read_word, read_on, read_from}

-- a fault of this kind in this line
abbrev pub fault : TextKind → ℕ → Fault
fault kind line = record { kind = kind; line = line }

AreDue-push : (shape : Shape) (before numbers : List ℕ) (n : ℕ) → AreDue shape before numbers → Fits (shape (before ++ numbers)) n → AreDue shape before (numbers ++ n ∷ [])
AreDue-push shape before [] n due fits = (subst (λ (ns : List ℕ). Fits (shape ns) n) (append-nil before) fits, tt)
AreDue-push shape before (m ∷ numbers) n due fits = (due.0, AreDue-push shape (before ++ m ∷ []) numbers n due.1 (subst (λ (ns : List ℕ). Fits (shape ns) n) (sym (append_assoc before (m ∷ []) numbers)) fits))

-- a word that is taken, or its fault
abbrev WordSays : ℕ → Due → TextWord → List TextWord → Result ℕ Fault → Type 0
WordSays end due word words (Ok n) = IsNumber word n × Fits due n
WordSays end due word words (Err fault) = IsOffence end due (word ∷ words) fault.kind fault.line

word_says : (end : ℕ) (due : Due) (word : TextWord) (words : List TextWord) → HasBound due → WordSays end due word words (read_word due word)
word_says end DueEnd word words bounds = refl
word_says end (DueBelow limit) word words bounds =
    elim (cases_Bool (is_digits word.text)) [
      | inl digits ↦ elim (cases_Bool (ltb (value_of word.text) limit)) [
        | inl below ↦ rw (digits, below) (record { digits = digits; value = refl; fits = let l : value_of word.text < limit = ltb-true _ _ below in omega arith }, ltb-true _ _ below)
        | inr above ↦ rw (digits, above) (digits, ltb-false _ _ above, refl)
      ]
      | inr not_digits ↦ rw not_digits (not_digits, refl)
    ]

-- each of the words' numbers fits
pub all_fit : (words : List TextWord) (numbers : List ℕ) → AllZip IsNumber words numbers → AllByRecursion (λ n. n ≤ greatest) numbers
all_fit [] [] h = tt
all_fit [] (n ∷ numbers) h = absurd h
all_fit (word ∷ words) [] h = absurd h
all_fit (word ∷ words) (n ∷ numbers) h = (h.0.fits, all_fit words numbers h.1)

zip_push : (before : List TextWord) (numbers : List ℕ) (word : TextWord) (n : ℕ) → AllZip IsNumber before numbers → IsNumber word n → AllZip IsNumber (before ++ word ∷ []) (numbers ++ n ∷ [])
zip_push [] [] word n are is = (is, tt)
zip_push [] (m ∷ numbers) word n are is = absurd are
zip_push (w ∷ before) [] word n are is = absurd are
zip_push (w ∷ before) (m ∷ numbers) word n are is = (are.0, zip_push before numbers word n are.1 is)

module _ (shape : Shape) (end : ℕ) (bounds : IsBounded shape) where
  read_step : (numbers : List ℕ) (word : TextWord) (words : List TextWord) (r : Result ℕ Fault) → read_word (shape numbers) word ≡ r → read_from shape end numbers (word ∷ words) ≡ read_on r (λ n. read_from shape end (numbers ++ n ∷ []) words)
  unfolding read_from
  read_step numbers word words r e = ap (λ r. read_on r (λ n. read_from shape end (numbers ++ n ∷ []) words)) e

  read_last : (numbers : List ℕ) → read_from shape end numbers [] ≡ read_end end (shape numbers) numbers
  unfolding read_from
  read_last numbers = refl

  ends : (before : List TextWord) (numbers : List ℕ) (due : Due) → shape numbers ≡ due → AllZip IsNumber before numbers → AreDue shape [] numbers → Says shape end before (read_end end due numbers)
  ends before numbers DueEnd e are in_order = record { are_numbers = are; are_due = in_order; ends = e }
  ends before numbers (DueBelow limit) e are in_order = record { before = before; numbers = numbers; rest = []; words_are = sym (append-nil before); are_numbers = are; are_due = in_order; is_offence = subst (λ (d : Due). IsOffence end d [] EndsEarly end) (sym e) refl }

  says : (before : List TextWord) (numbers : List ℕ) (words : List TextWord) → AllZip IsNumber before numbers → AreDue shape [] numbers → Says shape end (before ++ words) (read_from shape end numbers words)
  says before numbers [] are in_order = rw (append-nil before, read_last numbers) (ends before numbers (shape numbers) refl are in_order)
  says before numbers (word ∷ words) are in_order =
      go (read_word (shape numbers) word) refl (word_says end (shape numbers) word words (bounds numbers (all_fit before numbers are))) (λ n. says (before ++ word ∷ []) (numbers ++ n ∷ []) words)
    where
      go : (r : Result ℕ Fault) → read_word (shape numbers) word ≡ r → WordSays end (shape numbers) word words r → ((n : ℕ) → AllZip IsNumber (before ++ word ∷ []) (numbers ++ n ∷ []) → AreDue shape [] (numbers ++ n ∷ []) → Says shape end ((before ++ word ∷ []) ++ words) (read_from shape end (numbers ++ n ∷ []) words)) → Says shape end (before ++ word ∷ words) (read_from shape end numbers (word ∷ words))
      go (Ok n) e h rest = rw (read_step numbers word words (Ok n) e, ← append_assoc before (word ∷ []) words) (rest n (zip_push before numbers word n are h.0) (AreDue-push shape [] numbers n in_order h.1))
      go (Err f) e h rest = rw (read_step numbers word words (Err f) e) (record { before = before; numbers = numbers; rest = word ∷ words; words_are = refl; are_numbers = are; are_due = in_order; is_offence = h })

  -- The answer is right.
  pub read_says : (words : List TextWord) → Says shape end words (read_from shape end [] words)
  read_says words = says [] [] words tt tt

-- ---- and back

abbrev answer : List ℕ → Result (List ℕ) Fault
answer numbers = Ok numbers

abbrev refusal : TextKind → ℕ → Result (List ℕ) Fault
refusal kind line = Err (fault kind line)

pub number_taken : (due : Due) (word : TextWord) (n : ℕ) → IsNumber word n → Fits due n → read_word due word ≡ Ok n
number_taken DueEnd word n is fits = absurd fits
number_taken (DueBelow limit) word n is fits =
    let value : n ≡ value_of word.text = is.value in
    let below : value_of word.text < limit = omega arith in
    rw (is.digits, lt-ltb (value_of word.text) limit below) (ap (λ (m : ℕ). Ok m) (sym value))

-- a due and a rest that offends
word_refused : (end : ℕ) (due : Due) (word : TextWord) (words : List TextWord) (kind : TextKind) (line : ℕ) → IsOffence end due (word ∷ words) kind line → read_word due word ≡ Err (fault kind line)
word_refused end (DueBelow limit) word words NotNumber line h = rw h.0 (ap (λ (l : ℕ). Err (fault NotNumber l)) (sym h.1))
word_refused end (DueBelow limit) word words TooBig line h = rw (h.0, le-ltb (value_of word.text) limit h.1) (ap (λ (l : ℕ). Err (fault TooBig l)) (sym h.2))
word_refused end DueEnd word words Surplus line h = ap (λ (l : ℕ). Err (fault Surplus l)) (sym h)
word_refused end (DueBelow limit) word words _ line h = absurd h
word_refused end DueEnd word words _ line h = absurd h

end_refused : (end : ℕ) (due : Due) (numbers : List ℕ) (kind : TextKind) (line : ℕ) → IsOffence end due [] kind line → read_end end due numbers ≡ refusal kind line
end_refused end (DueBelow limit) numbers EndsEarly line h = ap (λ (l : ℕ). Err (fault EndsEarly l)) (sym h)
end_refused end (DueBelow limit) numbers _ line h = absurd h
end_refused end DueEnd numbers _ line h = absurd h

module _ (shape : Shape) (end : ℕ) where
  step : (numbers : List ℕ) (word : TextWord) (words : List TextWord) (r : Result ℕ Fault) → read_word (shape numbers) word ≡ r → read_from shape end numbers (word ∷ words) ≡ read_on r (λ n. read_from shape end (numbers ++ n ∷ []) words)
  unfolding read_from
  step numbers word words r e = ap (λ r. read_on r (λ n. read_from shape end (numbers ++ n ∷ []) words)) e

  last : (numbers : List ℕ) → read_from shape end numbers [] ≡ read_end end (shape numbers) numbers
  unfolding read_from
  last numbers = refl

  leads : (before : List TextWord) (front numbers : List ℕ) (rest : List TextWord) → AllZip IsNumber before numbers → AreDue shape front numbers → read_from shape end front (before ++ rest) ≡ read_from shape end (front ++ numbers) rest
  leads [] front [] rest are due = ap (λ (ns : List ℕ). read_from shape end ns rest) (sym (append-nil front))
  leads [] front (n ∷ ns) rest are due = absurd are
  leads (word ∷ before) front [] rest are due = absurd are
  leads (word ∷ before) front (n ∷ ns) rest are due =
      step front word (before ++ rest) (Ok n) (number_taken (shape front) word n are.0 due.0)
      ∙ leads before (front ++ n ∷ []) ns rest are.1 due.1
      ∙ ap (λ (ns : List ℕ). read_from shape end ns rest) (append_assoc front (n ∷ []) ns)

  pub whole_read : (words : List TextWord) (numbers : List ℕ) → IsWhole shape words numbers → read_from shape end [] words ≡ answer numbers
  whole_read words numbers h =
      ap (read_from shape end []) (sym (append-nil words)) ∙ leads words [] numbers [] h.are_numbers h.are_due ∙ last numbers ∙ ap (λ (d : Due). read_end end d numbers) h.ends

  stops : (numbers : List ℕ) (rest : List TextWord) (kind : TextKind) (line : ℕ) → IsOffence end (shape numbers) rest kind line → read_from shape end numbers rest ≡ refusal kind line
  stops numbers [] kind line h = last numbers ∙ end_refused end (shape numbers) numbers kind line h
  stops numbers (word ∷ words) kind line h = step numbers word words (Err (fault kind line)) (word_refused end (shape numbers) word words kind line h)

  pub offence_read : (words : List TextWord) (kind : TextKind) (line : ℕ) → HasOffence shape end words kind line → read_from shape end [] words ≡ refusal kind line
  offence_read words kind line h = ap (read_from shape end []) h.words_are ∙ leads h.before [] h.numbers h.rest h.are_numbers h.are_due ∙ stops h.numbers h.rest kind line h.is_offence

  -- one offence at most, and none beside numbers that are whole
  pub one_offence : (words : List TextWord) (kind other : TextKind) (line other_line : ℕ) → HasOffence shape end words kind line → HasOffence shape end words other other_line → fault kind line ≡ fault other other_line
  one_offence words kind other line other_line h k = same_fault (fault kind line) (fault other other_line) (sym (offence_read words kind line h) ∙ offence_read words other other_line k)
    where
      same_fault : (a b : Fault) → ◌≡◌ {A = Result (List ℕ) Fault} (Err a) (Err b) → a ≡ b
      same_fault a b e = cc

  pub not_both : (words : List TextWord) (numbers : List ℕ) (kind : TextKind) (line : ℕ) → IsWhole shape words numbers → ¬ HasOffence shape end words kind line
  not_both words numbers kind line h k = absurd (let e : answer numbers ≡ refusal kind line = sym (whole_read words numbers h) ∙ offence_read words kind line k in cc)

-- words are one list of numbers at most
pub one_list : (words : List TextWord) (a b : List ℕ) → AllZip IsNumber words a → AllZip IsNumber words b → a ≡ b
one_list [] [] [] h k = refl
one_list [] (m ∷ a) b h k = absurd h
one_list [] [] (n ∷ b) h k = absurd k
one_list (word ∷ words) [] b h k = absurd h
one_list (word ∷ words) (m ∷ a) [] h k = absurd k
one_list (word ∷ words) (m ∷ a) (n ∷ b) h k = let e : m ≡ n = h.0.value ∙ sym k.0.value in let f : a ≡ b = one_list words a b h.1 k.1 in cc

-- either
pub either_of : (shape : Shape) (end : ℕ) (words : List TextWord) → IsBounded shape → ((numbers : List ℕ) × IsWhole shape words numbers) ⊎ ((kind : TextKind) × (line : ℕ) × HasOffence shape end words kind line)
either_of shape end words bounds = go (read_from shape end [] words) (read_says shape end bounds words)
  where
    go : (r : Result (List ℕ) Fault) → Says shape end words r → ((numbers : List ℕ) × IsWhole shape words numbers) ⊎ ((kind : TextKind) × (line : ℕ) × HasOffence shape end words kind line)
    go (Ok numbers) h = inl (numbers, h)
    go (Err f) h = inr (f.kind, f.line, h)

pub grammar_laws : GrammarLaws
grammar_laws = record {
  one_list = one_list;
  one_kind = λ shape end words kind other line other_line h k. ap (λ (f : Fault). f.kind) (one_offence shape end words kind other line other_line h k);
  one_line = λ shape end words kind other line other_line h k. ap (λ (f : Fault). f.line) (one_offence shape end words kind other line other_line h k);
  not_both = not_both;
  either = either_of;
  reads = λ shape end words bounds. read_says shape end bounds words;
}

-- ---- numbers that are due

pub AreDue-append : (shape : Shape) (before xs ys : List ℕ) → AreDue shape before xs → AreDue shape (before ++ xs) ys → AreDue shape before (xs ++ ys)
AreDue-append shape before [] ys h k = subst (λ (ns : List ℕ). AreDue shape ns ys) (append-nil before) k
AreDue-append shape before (x ∷ xs) ys h k = (h.0, AreDue-append shape (before ++ x ∷ []) xs ys h.1 (subst (λ (ns : List ℕ). AreDue shape ns ys) (sym (append_assoc before (x ∷ []) xs)) k))

pub AreDue-parts : (shape : Shape) (before xs ys : List ℕ) → AreDue shape before (xs ++ ys) → AreDue shape before xs × AreDue shape (before ++ xs) ys
AreDue-parts shape before [] ys h = (tt, subst (λ (ns : List ℕ). AreDue shape ns ys) (sym (append-nil before)) h)
AreDue-parts shape before (x ∷ xs) ys h = let p = AreDue-parts shape (before ++ x ∷ []) xs ys h.1 in ((h.0, p.0), subst (λ (ns : List ℕ). AreDue shape ns ys) (append_assoc before (x ∷ []) xs) p.1)

-- where a shape behind a front is another shape
pub AreDue-shift : (shape other : Shape) (front before ns : List ℕ) → ((xs : List ℕ) → shape (front ++ xs) ≡ other xs) → AreDue other before ns → AreDue shape (front ++ before) ns
AreDue-shift shape other front before [] same h = tt
AreDue-shift shape other front before (n ∷ ns) same h = (subst (λ (d : Due). Fits d n) (sym (same before)) h.0, subst (λ (xs : List ℕ). AreDue shape xs ns) (sym (append_assoc front before (n ∷ []))) (AreDue-shift shape other front (before ++ n ∷ []) ns same h.1))

pub AreDue-unshift : (shape other : Shape) (front before ns : List ℕ) → ((xs : List ℕ) → shape (front ++ xs) ≡ other xs) → AreDue shape (front ++ before) ns → AreDue other before ns
AreDue-unshift shape other front before [] same h = tt
AreDue-unshift shape other front before (n ∷ ns) same h = (subst (λ (d : Due). Fits d n) (same before) h.0, AreDue-unshift shape other front (before ++ n ∷ []) ns same (subst (λ (xs : List ℕ). AreDue shape xs ns) (append_assoc front before (n ∷ [])) h.1))
