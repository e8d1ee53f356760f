-- The lines of a text, and the words of a line, from its first bytes on.
use Rattle.std.proofs.Common.{◌≡◌, ℕ, suc, ◌+◌, ◌<◌, ◌≤◌, Bool, true, false, List, [], ◌∷◌, ◌++◌, length, map, refl, sym, ap, ◌∙◌, arith, inl, inr}
use Rattle.std.specs.Prelude.{flat_map, filter, IsTrue, IsFalse, count_by, nat_le, ◌==◌, ◌&&◌}
use Rattle.std.specs.List.{AllByRecursion, list_all, slice_split, onto_first}
use Rattle.std.specs.Char.{is_ascii_digit}
use Rattle.std.proofs.lemmas.Bool.{and_parts, cases_Bool, both_ways, eqb-true, ne_eqb, leb-true}
use Rattle.yew_text.specs.Numbers.{is_digits}
use Rattle.std.proofs.lemmas.List.{append-nil}
use Rattle.std.proofs.lemmas.List.Splits.{slice_split-cons_yes, slice_split-cons_no, length-slice_split}
use Rattle.yew_text.specs.Words.{is_white, is_newline, numbered, TextWord, is_nonempty, words_in, words_from}
use Rattle.yew_text.specs.Laws.{EndsWord, WordLaws}

-- a split has a first part
pub record HasFirst (p : ℕ → Bool) (xs : List ℕ) : Type 0 where
  pub first : List ℕ
  pub others : List (List ℕ)
  pub is : slice_split p xs ≡ first ∷ others

pub has_first : (p : ℕ → Bool) (xs : List ℕ) → HasFirst p xs
has_first p [] = record { first = []; others = []; is = refl }
has_first p (x ∷ xs) =
    elim (cases_Bool (p x)) [
      | inl out ↦ record { first = []; others = slice_split p xs; is = slice_split-cons_yes p x xs out }
      | inr within ↦ let h = has_first p xs in record { first = x ∷ h.first; others = h.others; is = slice_split-cons_no p x xs within ∙ ap (onto_first x) h.is }
    ]

abbrev AllOut : (ℕ → Bool) → List ℕ → Type 0
AllOut p = AllByRecursion (λ b. IsFalse (p b))

-- what does not split stays with the first part
pub onto : (p : ℕ → Bool) (text rest first : List ℕ) (others : List (List ℕ)) → AllOut p text → slice_split p rest ≡ first ∷ others → slice_split p (text ++ rest) ≡ (text ++ first) ∷ others
onto p [] rest first others out e = e
onto p (b ∷ text) rest first others out e = slice_split-cons_no p b (text ++ rest) out.0 ∙ ap (onto_first b) (onto p text rest first others out.1 e)

-- white space is not part of a word
pub newline_white : (b : ℕ) → IsFalse (is_white b) → IsFalse (is_newline b)
newline_white b h = elim (cases_Bool (is_newline b)) [
  | inl e ↦ absurd (let k : b ≡ 10 = eqb-true b 10 e in both_ways (is_white b) h (rw k refl))
  | inr e ↦ e
]

pub none_newline : (text : List ℕ) → AllOut is_white text → AllOut is_newline text
none_newline [] out = tt
none_newline (b ∷ text) out = (newline_white b out.0, none_newline text out.1)

white_low : (b : ℕ) → is_white b ≡ true → 48 ≤ b → ⊥
white_low b white high = let k : is_white b ≡ false = rw (other b 32 (omega arith), other b 9 (omega arith), other b 10 (omega arith), other b 13 (omega arith)) refl in both_ways (is_white b) k white
  where
    other : (b k : ℕ) → k < b → (b == k) ≡ false
    other b k more = ne_eqb b k (λ e. let f : b ≡ k = e in omega arith)

-- the words of a line
pub parts : List ℕ → List (List ℕ)
parts text = filter is_nonempty (slice_split is_white text)

pub parts-white : (b : ℕ) (text : List ℕ) → IsTrue (is_white b) → parts (b ∷ text) ≡ parts text
unfolding parts
parts-white b text h = ap (filter is_nonempty) (slice_split-cons_yes is_white b text h)

-- a word in front
parts-word : (b : ℕ) (text first : List ℕ) → AllOut is_white (b ∷ text) → EndsWord first → parts (b ∷ text ++ first) ≡ (b ∷ text) ∷ parts first
unfolding parts
parts-word b text [] out ends = ap (filter is_nonempty) (onto is_white (b ∷ text) [] [] [] out refl) ∙ ap (λ (t : List ℕ). (b ∷ t) ∷ []) (append-nil text)
parts-word b text (c ∷ cs) out ends =
    let split = slice_split-cons_yes is_white c cs ends in
    ap (filter is_nonempty) (onto is_white (b ∷ text) (c ∷ cs) [] (slice_split is_white cs) out split)
    ∙ ap (λ (t : List ℕ). (b ∷ t) ∷ filter is_nonempty (slice_split is_white cs)) (append-nil text)
    ∙ ap (λ (ps : List (List ℕ)). (b ∷ text) ∷ filter is_nonempty ps) (sym split)

-- the first line of what follows a word
record FirstLine (rest : List ℕ) : Type 0 where
  first : List ℕ
  others : List (List ℕ)
  is : slice_split is_newline rest ≡ first ∷ others
  ends : EndsWord first

first_line : (rest : List ℕ) → EndsWord rest → FirstLine rest
first_line [] ends = record { first = []; others = []; is = refl; ends = tt }
first_line (c ∷ cs) ends =
    elim (cases_Bool (is_newline c)) [
      | inl out ↦ record { first = []; others = slice_split is_newline cs; is = slice_split-cons_yes is_newline c cs out; ends = tt }
      | inr within ↦ let h = has_first is_newline cs in record { first = c ∷ h.first; others = h.others; is = slice_split-cons_no is_newline c cs within ∙ ap (onto_first c) h.is; ends = ends }
    ]

with_line : ℕ → List ℕ → TextWord
with_line n text = record { text = text; line = n }

-- the words of the first line and of the others
cut : (n : ℕ) (bytes first : List ℕ) (others : List (List ℕ)) → slice_split is_newline bytes ≡ first ∷ others → words_from n bytes ≡ map (with_line n) (parts first) ++ flat_map words_in (numbered (n + 1) others)
unfolding parts with_line
cut n bytes first others e = ap (λ (xs : List (List ℕ)). flat_map words_in (numbered n xs)) e

white : (n b : ℕ) (bytes : List ℕ) → IsTrue (is_white b) → IsFalse (is_newline b) → words_from n (b ∷ bytes) ≡ words_from n bytes
white n b bytes h k =
    let f = has_first is_newline bytes in
    cut n (b ∷ bytes) (b ∷ f.first) f.others (slice_split-cons_no is_newline b bytes k ∙ ap (onto_first b) f.is)
    ∙ ap (λ (ps : List (List ℕ)). map (with_line n) ps ++ flat_map words_in (numbered (n + 1) f.others)) (parts-white b f.first h)
    ∙ sym (cut n bytes f.first f.others f.is)

word : (n b : ℕ) (text rest : List ℕ) → AllOut is_white (b ∷ text) → EndsWord rest → words_from n (b ∷ text ++ rest) ≡ record { text = b ∷ text; line = n } ∷ words_from n rest
unfolding with_line
word n b text rest out ends =
    let f = first_line rest ends in
    cut n (b ∷ text ++ rest) (b ∷ text ++ f.first) f.others (onto is_newline (b ∷ text) rest f.first f.others (none_newline (b ∷ text) out) f.is)
    ∙ ap (λ (ps : List (List ℕ)). map (with_line n) ps ++ flat_map words_in (numbered (n + 1) f.others)) (parts-word b text f.first out f.ends)
    ∙ ap (λ (ws : List TextWord). record { text = b ∷ text; line = n } ∷ ws) (sym (cut n rest f.first f.others f.is))

length-numbered : (n : ℕ) (texts : List (List ℕ)) → length (numbered n texts) ≡ length texts
length-numbered n [] = refl
length-numbered n (text ∷ texts) = ap suc (length-numbered (n + 1) texts)

pub word_laws : WordLaws
word_laws = record {
  none = λ n. refl;
  newline = λ n bytes. refl;
  white = white;
  word = word;
  last_line = λ bytes. length-numbered 1 (slice_split is_newline bytes) ∙ length-slice_split is_newline bytes ∙ (let e : count_by is_newline bytes + 1 ≡ 1 + count_by is_newline bytes = omega arith in e);
}

-- ---- a text that is one word, as digits are

pub words_from-one : (n b : ℕ) (text : List ℕ) → AllOut is_white (b ∷ text) → words_from n (b ∷ text) ≡ record { text = b ∷ text; line = n } ∷ []
words_from-one n b text out = ap (λ (t : List ℕ). words_from n (b ∷ t)) (sym (append-nil text)) ∙ word n b text [] out tt

digit_black : (b : ℕ) → is_ascii_digit b ≡ true → IsFalse (is_white b)
digit_black b digit = elim (cases_Bool (is_white b)) [
  | inr e ↦ e
  | inl e ↦ absurd (let low : 48 ≤ b = leb-true 48 b (and_parts (nat_le 48 b) (nat_le b 57) digit).0 in white_low b e low)
]

pub digits_black : (text : List ℕ) → is_digits text ≡ true → AllOut is_white text
digits_black [] h = tt
digits_black (b ∷ text) h = let p = and_parts (is_ascii_digit b) (is_digits text) h in (digit_black b p.0, digits_black text p.1)

-- ---- blank lines have no words

pub parts-blank : (text : List ℕ) → list_all is_white text ≡ true → parts text ≡ []
unfolding parts
parts-blank [] h = refl
parts-blank (b ∷ text) h = let p = and_parts (is_white b) (list_all is_white text) h in parts-white b text p.0 ∙ parts-blank text p.1

-- a line that is not blank has one
pub parts-black : (text : List ℕ) → list_all is_white text ≡ false → parts text ≡ [] → ⊥
unfolding parts
parts-black [] h none = cc
parts-black (b ∷ text) h none =
    elim (cases_Bool (is_white b)) [
      | inl white ↦ parts-black text (sym (ap (λ (t : Bool). t && list_all is_white text) white) ∙ h) (sym (parts-white b text white) ∙ none)
      | inr black ↦ let f = has_first is_white text in
          let e : (b ∷ f.first) ∷ filter is_nonempty f.others ≡ [] = sym (ap (filter is_nonempty) (slice_split-cons_no is_white b text black ∙ ap (onto_first b) f.is)) ∙ none in cc
    ]

pub words_in-blank : (n : ℕ) (text : List ℕ) → list_all is_white text ≡ true → words_in (record { number = n; text = text }) ≡ []
unfolding parts with_line
words_in-blank n text h = ap (map (with_line n)) (parts-blank text h)

pub words_in-black : (n : ℕ) (text : List ℕ) → list_all is_white text ≡ false → words_in (record { number = n; text = text }) ≡ [] → ⊥
unfolding parts with_line
words_in-black n text h none = parts-black text h (map_nil n (parts text) none)
  where
    map_nil : (n : ℕ) (xs : List (List ℕ)) → map (with_line n) xs ≡ [] → xs ≡ []
    map_nil n [] e = refl
    map_nil n (x ∷ xs) e = absurd (cc)
