-- The texts of entries, cut at their spaces.
use Rattle.std.proofs.Common.{◌≡◌, ◌≢◌, ℕ, ◌<◌, ◌≤◌, Bool, true, false, List, ◌∷◌, ◌++◌, get_or, refl, sym, ap, subst, ◌∙◌, arith}
use Rattle.std.specs.Prelude.{decimal}
use Rattle.std.specs.List.{AllByRecursion}
use Rattle.yew_log.specs.declared.entry.What.{What}
use Rattle.yew_log.specs.declared.entry.What.TheVariants.{Taken, Visited, Cut, Spawned, Handed, Ended}
use Rattle.yew_log.specs.AuditText.{path_text}
use Rattle.yew_log.specs.Notes.{Note, taken, visited, cut, spawned, handed, ended}
use Rattle.yew_log.specs.Recording.{note_of}
use Rattle.yew_check.specs.Audits.{worker_line, last_line}
use Rattle.yew_check.specs.Entries.{greatest_value, IsPathWithin, IsPlaceWithin, IsWithin, kind_word, has_values, values_text, place_text, entry_text, note_text}
use Rattle.yew_text.specs.Numbers.{value_of}
use Rattle.yew_check.proofs.Cutting.{all-append}
use Rattle.yew_check.proofs.PathTexts.{path-without, path-same}
use Rattle.yew_check.proofs.Numerals.{decimal-without, decimal-value}
use Rattle.yew_check.proofs.Cutting.{cut-unique, cut-has}

abbrev first_byte : List ℕ → ℕ
first_byte xs = get_or xs 0 0

pub value-without : (n : ℕ) → n ≤ greatest_value → AllByRecursion (λ b. b ≢ 32) (decimal n)
value-without n within = decimal-without 32 n (omega arith) (omega arith)

-- two numbers have the space between them
pub values-cut : (text front back : List ℕ) (first second : ℕ) → first ≤ greatest_value → text ≡ front ++ 32 ∷ back → AllByRecursion (λ b. b ≢ 32) front → text ≡ values_text first second → (front ≡ decimal first) × (back ≡ decimal second)
values-cut text front back first second within is out e = cut-unique 32 front back (decimal first) (decimal second) out (value-without first within) (sym is ∙ e)

pub values-have : (text : List ℕ) (first second : ℕ) → AllByRecursion (λ b. b ≢ 32) text → text ≢ values_text first second
values-have text first second out e = cut-has 32 (decimal first) (decimal second) (subst (λ (t : List ℕ). AllByRecursion (λ b. b ≢ 32) t) e out)

-- the words of the kinds are letters, and have no space and no line feed
kind-without : (c : ℕ) → c < 47 → (what : What) → AllByRecursion (λ b. b ≢ c) (kind_word what)
kind-without c low Taken = ((λ e. absurd (omega arith)), ((λ e. absurd (omega arith)), ((λ e. absurd (omega arith)), ((λ e. absurd (omega arith)), tt))))
kind-without c low Visited = ((λ e. absurd (omega arith)), ((λ e. absurd (omega arith)), ((λ e. absurd (omega arith)), ((λ e. absurd (omega arith)), ((λ e. absurd (omega arith)), tt)))))
kind-without c low Cut = ((λ e. absurd (omega arith)), ((λ e. absurd (omega arith)), ((λ e. absurd (omega arith)), tt)))
kind-without c low Spawned = ((λ e. absurd (omega arith)), ((λ e. absurd (omega arith)), ((λ e. absurd (omega arith)), ((λ e. absurd (omega arith)), ((λ e. absurd (omega arith)), tt)))))
kind-without c low Handed = ((λ e. absurd (omega arith)), ((λ e. absurd (omega arith)), ((λ e. absurd (omega arith)), ((λ e. absurd (omega arith)), tt))))
kind-without c low Ended = ((λ e. absurd (omega arith)), ((λ e. absurd (omega arith)), ((λ e. absurd (omega arith)), tt)))

-- and tell the kinds apart
kinds-apart : (a b : What) → kind_word a ≡ kind_word b → a ≡ b
kinds-apart Taken Taken e = refl
kinds-apart Taken Visited e = let h : ◌≡◌ {A = ℕ} 116 118 = ap first_byte e in absurd (omega arith)
kinds-apart Taken Cut e = let h : ◌≡◌ {A = ℕ} 116 99 = ap first_byte e in absurd (omega arith)
kinds-apart Taken Spawned e = let h : ◌≡◌ {A = ℕ} 116 115 = ap first_byte e in absurd (omega arith)
kinds-apart Taken Handed e = let h : ◌≡◌ {A = ℕ} 116 104 = ap first_byte e in absurd (omega arith)
kinds-apart Taken Ended e = let h : ◌≡◌ {A = ℕ} 116 101 = ap first_byte e in absurd (omega arith)
kinds-apart Visited Taken e = let h : ◌≡◌ {A = ℕ} 118 116 = ap first_byte e in absurd (omega arith)
kinds-apart Visited Visited e = refl
kinds-apart Visited Cut e = let h : ◌≡◌ {A = ℕ} 118 99 = ap first_byte e in absurd (omega arith)
kinds-apart Visited Spawned e = let h : ◌≡◌ {A = ℕ} 118 115 = ap first_byte e in absurd (omega arith)
kinds-apart Visited Handed e = let h : ◌≡◌ {A = ℕ} 118 104 = ap first_byte e in absurd (omega arith)
kinds-apart Visited Ended e = let h : ◌≡◌ {A = ℕ} 118 101 = ap first_byte e in absurd (omega arith)
kinds-apart Cut Taken e = let h : ◌≡◌ {A = ℕ} 99 116 = ap first_byte e in absurd (omega arith)
kinds-apart Cut Visited e = let h : ◌≡◌ {A = ℕ} 99 118 = ap first_byte e in absurd (omega arith)
kinds-apart Cut Cut e = refl
kinds-apart Cut Spawned e = let h : ◌≡◌ {A = ℕ} 99 115 = ap first_byte e in absurd (omega arith)
kinds-apart Cut Handed e = let h : ◌≡◌ {A = ℕ} 99 104 = ap first_byte e in absurd (omega arith)
kinds-apart Cut Ended e = let h : ◌≡◌ {A = ℕ} 99 101 = ap first_byte e in absurd (omega arith)
kinds-apart Spawned Taken e = let h : ◌≡◌ {A = ℕ} 115 116 = ap first_byte e in absurd (omega arith)
kinds-apart Spawned Visited e = let h : ◌≡◌ {A = ℕ} 115 118 = ap first_byte e in absurd (omega arith)
kinds-apart Spawned Cut e = let h : ◌≡◌ {A = ℕ} 115 99 = ap first_byte e in absurd (omega arith)
kinds-apart Spawned Spawned e = refl
kinds-apart Spawned Handed e = let h : ◌≡◌ {A = ℕ} 115 104 = ap first_byte e in absurd (omega arith)
kinds-apart Spawned Ended e = let h : ◌≡◌ {A = ℕ} 115 101 = ap first_byte e in absurd (omega arith)
kinds-apart Handed Taken e = let h : ◌≡◌ {A = ℕ} 104 116 = ap first_byte e in absurd (omega arith)
kinds-apart Handed Visited e = let h : ◌≡◌ {A = ℕ} 104 118 = ap first_byte e in absurd (omega arith)
kinds-apart Handed Cut e = let h : ◌≡◌ {A = ℕ} 104 99 = ap first_byte e in absurd (omega arith)
kinds-apart Handed Spawned e = let h : ◌≡◌ {A = ℕ} 104 115 = ap first_byte e in absurd (omega arith)
kinds-apart Handed Handed e = refl
kinds-apart Handed Ended e = let h : ◌≡◌ {A = ℕ} 104 101 = ap first_byte e in absurd (omega arith)
kinds-apart Ended Taken e = let h : ◌≡◌ {A = ℕ} 101 116 = ap first_byte e in absurd (omega arith)
kinds-apart Ended Visited e = let h : ◌≡◌ {A = ℕ} 101 118 = ap first_byte e in absurd (omega arith)
kinds-apart Ended Cut e = let h : ◌≡◌ {A = ℕ} 101 99 = ap first_byte e in absurd (omega arith)
kinds-apart Ended Spawned e = let h : ◌≡◌ {A = ℕ} 101 115 = ap first_byte e in absurd (omega arith)
kinds-apart Ended Handed e = let h : ◌≡◌ {A = ℕ} 101 104 = ap first_byte e in absurd (omega arith)
kinds-apart Ended Ended e = refl

-- an entry as its kind, its path and two numbers
pub record HasParts (note : Note) : Type 0 where
  pub what : What
  pub path : List ℕ
  pub first : ℕ
  pub second : ℕ
  pub note_is : note ≡ note_of what path first second
  pub text_is : note_text note ≡ entry_text what path first second
  pub within : IsPlaceWithin (has_values what) path first second

pub parts-of : (note : Note) → IsWithin note → HasParts note
parts-of (taken path) w = record { what = Taken; path = path; first = 0; second = 0; note_is = refl; text_is = refl; within = (w, (refl, refl)) }
parts-of (visited path worth held) w = record { what = Visited; path = path; first = worth; second = held; note_is = refl; text_is = refl; within = (w.0, (w.1, w.2)) }
parts-of (cut path bound held) w = record { what = Cut; path = path; first = bound; second = held; note_is = refl; text_is = refl; within = (w.0, (w.1, w.2)) }
parts-of (spawned path) w = record { what = Spawned; path = path; first = 0; second = 0; note_is = refl; text_is = refl; within = (w, (refl, refl)) }
parts-of (handed path) w = record { what = Handed; path = path; first = 0; second = 0; note_is = refl; text_is = refl; within = (w, (refl, refl)) }
parts-of (ended path) w = record { what = Ended; path = path; first = 0; second = 0; note_is = refl; text_is = refl; within = (w, (refl, refl)) }

-- the first space of an entry's line is behind the word of its kind
pub entry-cut : (text front back : List ℕ) (note : Note) (p : HasParts note) → text ≡ front ++ 32 ∷ back → AllByRecursion (λ b. b ≢ 32) front → text ≡ note_text note → (front ≡ kind_word p.what) × (back ≡ place_text (has_values p.what) p.path p.first p.second)
entry-cut text front back note p is out e =
    cut-unique 32 front back (kind_word p.what) (place_text (has_values p.what) p.path p.first p.second) out (kind-without 32 (omega arith) p.what) (sym is ∙ e ∙ p.text_is)

pub entry-has : (text : List ℕ) (note : Note) (p : HasParts note) → AllByRecursion (λ b. b ≢ 32) text → text ≢ note_text note
entry-has text note p out e =
    cut-has 32 (kind_word p.what) (place_text (has_values p.what) p.path p.first p.second) (subst (λ (t : List ℕ). AllByRecursion (λ b. b ≢ 32) t) (e ∙ p.text_is) out)

-- a text behind this kind's word is no place of this kind, so the line is no entry
pub entry-lacks : (text front back : List ℕ) (what : What) → text ≡ front ++ 32 ∷ back → AllByRecursion (λ b. b ≢ 32) front → front ≡ kind_word what → ((path : List ℕ) (first second : ℕ) → IsPlaceWithin (has_values what) path first second → back ≢ place_text (has_values what) path first second) → (note : Note) → IsWithin note → text ≢ note_text note
entry-lacks text front back what is out kind none note w e =
    let p = parts-of note w in
    let at = entry-cut text front back note p is out e in
    let same : p.what ≡ what = kinds-apart p.what what (sym at.0 ∙ kind) in
    none p.path p.first p.second (subst (λ k. IsPlaceWithin (has_values k) p.path p.first p.second) same p.within)
    (subst (λ k. back ≡ place_text (has_values k) p.path p.first p.second) same at.1)

-- the parts of a path with two numbers
pub record HasCut (front back path : List ℕ) (first second : ℕ) : Type 0 where
  pub path_is : front ≡ path_text path
  pub values_are : back ≡ values_text first second
  pub path_within : IsPathWithin path
  pub first_within : first ≤ greatest_value
  pub second_within : second ≤ greatest_value

pub place-cut : (values : Bool) (text front back path : List ℕ) (first second : ℕ) → values ≡ true → text ≡ front ++ 32 ∷ back → AllByRecursion (λ b. b ≢ 32) front → IsPlaceWithin values path first second → text ≡ place_text values path first second → HasCut front back path first second
place-cut true text front back path first second h is out w e =
    let at = cut-unique 32 front back (path_text path) (values_text first second) out (path-without 32 (omega arith) path w.0) (sym is ∙ e) in
    record { path_is = at.0; values_are = at.1; path_within = w.0; first_within = w.1.0; second_within = w.1.1 }
place-cut false text front back path first second h is out w e = absurd (cc)

pub place-has : (values : Bool) (text path : List ℕ) (first second : ℕ) → values ≡ true → AllByRecursion (λ b. b ≢ 32) text → text ≢ place_text values path first second
place-has true text path first second h out e = cut-has 32 (path_text path) (values_text first second) (subst (λ (t : List ℕ). AllByRecursion (λ b. b ≢ 32) t) e out)
place-has false text path first second h out e = absurd (cc)

-- ---- a line is that of one entry

decimal-same : (m n : ℕ) → m ≤ greatest_value → n ≤ greatest_value → decimal m ≡ decimal n → m ≡ n
decimal-same m n v w e = sym (decimal-value m (omega arith)) ∙ ap value_of e ∙ decimal-value n (omega arith)

-- the same path and numbers
pub record SamePlace (p q : List ℕ) (a b c d : ℕ) : Type 0 where
  pub paths : p ≡ q
  pub firsts : a ≡ c
  pub seconds : b ≡ d

place-same : (values : Bool) (p q : List ℕ) (a b c d : ℕ) → IsPlaceWithin values p a b → IsPlaceWithin values q c d → place_text values p a b ≡ place_text values q c d → SamePlace p q a b c d
place-same false p q a b c d v w e = record { paths = path-same p q v.0 w.0 e; firsts = v.1.0 ∙ sym w.1.0; seconds = v.1.1 ∙ sym w.1.1 }
place-same true p q a b c d v w e =
    let at = cut-unique 32 (path_text p) (values_text a b) (path_text q) (values_text c d) (path-without 32 (omega arith) p v.0) (path-without 32 (omega arith) q w.0) e in
    let nums = cut-unique 32 (decimal a) (decimal b) (decimal c) (decimal d) (value-without a v.1.0) (value-without c w.1.0) at.1 in
    record { paths = path-same p q v.0 w.0 at.0; firsts = decimal-same a c v.1.0 w.1.0 nums.0; seconds = decimal-same b d v.1.1 w.1.1 nums.1 }

pub note-same : (n m : Note) → IsWithin n → IsWithin m → note_text n ≡ note_text m → n ≡ m
note-same n m v w e =
    let p = parts-of n v in
    let q = parts-of m w in
    let at = entry-cut (note_text n) (kind_word p.what) (place_text (has_values p.what) p.path p.first p.second) m q p.text_is (kind-without 32 (omega arith) p.what) e in
    let kinds = kinds-apart p.what q.what at.0 in
    let here = subst (λ k. IsPlaceWithin (has_values k) p.path p.first p.second) kinds p.within in
    let texts = subst (λ k. place_text (has_values k) p.path p.first p.second ≡ place_text (has_values q.what) q.path q.first q.second) kinds at.1 in
    let s = place-same (has_values q.what) p.path q.path p.first p.second q.first q.second here q.within texts in
    p.note_is ∙ ap (λ k. note_of k p.path p.first p.second) kinds ∙ ap (λ ks. note_of q.what ks p.first p.second) s.paths ∙ ap (λ k. note_of q.what q.path k p.second) s.firsts ∙ ap (λ k. note_of q.what q.path q.first k) s.seconds ∙ sym q.note_is

-- a line of an entry begins with the word of its kind
entry-begins : (what : What) → first_byte (kind_word what) ≢ 119
entry-begins Taken e = absurd (omega arith)
entry-begins Visited e = absurd (omega arith)
entry-begins Cut e = absurd (omega arith)
entry-begins Spawned e = absurd (omega arith)
entry-begins Handed e = absurd (omega arith)
entry-begins Ended e = absurd (omega arith)

first-of-line : (what : What) (rest : List ℕ) → first_byte (kind_word what ++ rest) ≡ first_byte (kind_word what)
first-of-line Taken rest = refl
first-of-line Visited rest = refl
first-of-line Cut rest = refl
first-of-line Spawned rest = refl
first-of-line Handed rest = refl
first-of-line Ended rest = refl

-- the line of a worker is that of no entry
pub worker-no_entry : (number : ℕ) (note : Note) → IsWithin note → worker_line number ≢ note_text note
worker-no_entry number note w e =
    let p = parts-of note w in
    let first : 119 ≡ first_byte (kind_word p.what) = ap first_byte (e ∙ p.text_is) ∙ first-of-line p.what (32 ∷ place_text (has_values p.what) p.path p.first p.second) in
    entry-begins p.what (sym first)

-- and so is the last line
pub last-no_entry : (note : Note) → IsWithin note → last_line ≢ note_text note
last-no_entry note w =
    entry-has last_line note (parts-of note w) ((λ e. absurd (omega arith)), ((λ e. absurd (omega arith)), ((λ e. absurd (omega arith)), ((λ e. absurd (omega arith)), tt))))

pub last-no_worker : (number : ℕ) → last_line ≢ worker_line number
last-no_worker number e = let h : ◌≡◌ {A = ℕ} 100 119 = ap first_byte e in absurd (omega arith)

-- ---- no line of an entry has a line feed

place-without : (c : ℕ) → c < 32 → (values : Bool) (path : List ℕ) (first second : ℕ) → IsPlaceWithin values path first second → AllByRecursion (λ b. b ≢ c) (place_text values path first second)
place-without c low false path first second w = path-without c (omega arith) path w.0
place-without c low true path first second w =
    all-append (λ b. b ≢ c) (path_text path) (32 ∷ values_text first second) (path-without c (omega arith) path w.0) (
      (λ e. absurd (omega arith)),
      all-append (λ b. b ≢ c) (decimal first) (32 ∷ decimal second) (decimal-without c first (omega arith) (omega (arith, w.1.0))) ((λ e. absurd (omega arith)), decimal-without c second (omega arith) (omega (arith, w.1.1))),
    )

pub note-without : (c : ℕ) → c < 32 → (note : Note) → IsWithin note → AllByRecursion (λ b. b ≢ c) (note_text note)
note-without c low note w =
    let p = parts-of note w in
    subst (AllByRecursion (λ b. b ≢ c)) (sym p.text_is)
    (all-append (λ b. b ≢ c) (kind_word p.what) (32 ∷ place_text (has_values p.what) p.path p.first p.second) (kind-without c (omega arith) p.what)
    ((λ e. absurd (omega arith)), place-without c low (has_values p.what) p.path p.first p.second p.within))
