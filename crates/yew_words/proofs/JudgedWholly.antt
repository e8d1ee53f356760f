-- A plan is answered, and so is the first offence.
use Rattle.std.proofs.Common.{◌≡◌, ◌≢◌, ℕ, suc, ◌+◌, ◌<◌, ◌≤◌, Bool, false, cond, List, [], ◌∷◌, ◌++◌, length, Option, Some, None, Ok, Err, refl, sym, ap}
use Rattle.std.proofs.Common.{subst, ◌∙◌, append_assoc, arith, inl, inr}
use Rattle.std.specs.Prelude.{IsTrue, IsFalse, codes, flat_map, nat_le, ◌&&◌}
use Rattle.std.specs.List.{list_all}
use Rattle.std.proofs.lemmas.Bool.{cases_Bool, le-leb, lt-leb, and_left, and_right, and_from, lt-ltb, le-ltb}
use Rattle.std.proofs.lemmas.List.{append-nil, length-append}
use Rattle.yew_words.specs.declared.plan.UsageKind.{UsageKind}
use Rattle.yew_words.specs.declared.plan.UsageKind.TheVariants.{Missing, Unknown, NotFile, Repeated, NotNumber, OutOfRange, NotHere}
use Rattle.yew_words.specs.Word.{Word, number_of}
use Rattle.yew_words.specs.declared.table.Head.{Head}
use Rattle.yew_words.specs.declared.table.OptionName.{OptionName}
use Rattle.yew_words.specs.declared.table.Takes.{Takes}
use Rattle.yew_words.specs.declared.table.Head.TheVariants.{Search, Make}
use Rattle.yew_words.specs.declared.table.Takes.TheVariants.{Nothing, OneOrAll, Number}
use Rattle.yew_words.specs.Table.{problem_word, coordination_word, made_word, head_words, file_count, option_word, takes, is_for, required}
use Rattle.yew_words.specs.Plans.{Planned, Setting, setting_words, IsValue, is_given, values_of, AreSettings, AreFiles, plan_of, PlanOf}
use Rattle.yew_words.specs.Offences.{Due, DueJob, DueSkeleton, DueMade, DueFile, DueOption, DueValue, words_before, IsDue, IsBadValue, IsOffence, MayNotEnd}
use Rattle.yew_words.specs.Offences.{IsRefused, Offending}
use Rattle.yew_words.specs.Table.{every_problem, every_coordination, every_made, every_option}
use Rattle.yew_words.specs.Kept.{value_fault}
use Rattle.yew_words.proofs.JudgingFunction.{due_files, after_problem, after_coordination, after_made, after_name, after_option, after_value, after, at_end}
use Rattle.yew_words.proofs.JudgingFunction.{ended, judge_from, judge}
use Rattle.yew_words.proofs.OneNameAWord.{differs, named_problem, named_coordination, named_made, named_option, unnamed}
use Rattle.yew_words.proofs.SettingsInOrder.{AreSettings-at}
use Rattle.yew_words.proofs.EachWordJudged.{AreNames}
use Rattle.yew_words.proofs.JudgedRightly.{list_all-true, all-list_all, judge_step, judge_stop, judge_end}

-- ---- an offending word is refused

value_refused : (t : Takes) (word : Word) (kind : UsageKind) → IsBadValue t word kind → value_fault t word ≡ Some kind
value_refused OneOrAll word Unknown h = rw (differs (codes "one") word (λ e. h.0 (sym e)), differs (codes "all") word (λ e. h.1 (sym e))) refl
value_refused (Number low high) word NotNumber h = rw h refl
value_refused (Number low high) word OutOfRange h =
    let outside : (nat_le low (number_of word) && nat_le (number_of word) high) ≡ false =
    elim h.1 [
      | inl below ↦ and_left (nat_le low (number_of word)) (nat_le (number_of word) high)
          (lt-leb low (number_of word) below)
      | inr above ↦ and_right (nat_le low (number_of word)) (nat_le (number_of word) high)
          (lt-leb (number_of word) high above)
    ] in
    rw (h.0, outside) refl
value_refused _ word _ h = absurd h

offence_after : (due : Due) (word : Word) (kind : UsageKind) → IsOffence due word kind → after due word ≡ Err kind
offence_after DueJob word Unknown h = rw (unnamed problem_word every_problem word named_problem h.0, differs (codes "make") word (λ e. h.1 (sym e))) refl
offence_after (DueSkeleton problem) word Unknown h = ap (after_coordination problem) (unnamed coordination_word every_coordination word named_coordination h)
offence_after DueMade word Unknown h = ap after_made (unnamed made_word every_made word named_made h)
offence_after (DueFile head files) word NotFile h = rw h refl
offence_after (DueOption head files ss) word Unknown h = ap (after_option head files ss) (unnamed option_word every_option word named_option h)
offence_after (DueOption head files ss) word NotHere h = rw (h.1, named_option h.0, h.2) refl
offence_after (DueOption head files ss) word Repeated h = rw (h.1, named_option h.0, h.2, h.3) refl
offence_after (DueValue head files ss name) word kind h = ap (after_value head files ss name word) (value_refused (takes head name) word kind h)
offence_after _ word _ h = absurd h

-- ---- the words in order lead to what is due after them

-- the first two
from_head : (head : Head) (rest : List Word) → judge (head_words head ++ rest) ≡ judge_from (due_files head []) 3 rest
from_head (Search problem coordination) rest =
    judge_step DueJob 1 (problem_word problem) (coordination_word coordination ∷ rest) (DueSkeleton problem)
    (ap (λ o. after_problem o (problem_word problem)) (named_problem problem))
    ∙ judge_step (DueSkeleton problem) 2 (coordination_word coordination) rest (due_files (Search problem coordination) [])
    (ap (after_coordination problem) (named_coordination coordination))
from_head (Make kind) rest =
    judge_step DueJob 1 (codes "make") (made_word kind ∷ rest) DueMade refl
    ∙ judge_step DueMade 2 (made_word kind) rest (due_files (Make kind) []) (ap after_made (named_made kind))

-- the files' names
from_files : (head : Head) (before files : List Word) (place : ℕ) (rest : List Word) → length before + length files ≤ file_count head → AreNames files
    → judge_from (due_files head before) place (files ++ rest) ≡ judge_from (due_files head (before ++ files)) (place + length files) rest
from_files head before [] place rest few names = rw (append-nil before)
    (ap (λ (p : ℕ). judge_from (due_files head before) p rest) (let e : place ≡ place + 0 = omega arith in e))
from_files head before (file ∷ files) place rest few names =
    let due : due_files head before ≡ DueFile head before = rw (lt-ltb (length before) (file_count head) (omega arith)) refl in
    let taken : after (DueFile head before) file ≡ Ok (due_files head (before ++ file ∷ [])) = rw names.0 refl in
    let one : judge_from (due_files head before) place (file ∷ files ++ rest) ≡ judge_from (due_files head (before ++ file ∷ [])) (suc place)
    (files ++ rest) = rw due (judge_step (DueFile head before) place file (files ++ rest) (due_files head (before ++ file ∷ [])) taken) in
    let more = from_files head (before ++ file ∷ []) files (suc place) rest (omega (arith, length-append before (file ∷ []))) names.1 in
    let place_is : suc place + length files ≡ place + suc (length files) = omega arith in
    one ∙ more ∙ ap (λ (ws : List Word). judge_from (due_files head ws) (suc place + length files) rest) (append_assoc before (file ∷ []) files)
    ∙ ap (λ (p : ℕ). judge_from (due_files head (before ++ file ∷ files)) p rest) place_is

-- a setting
value_taken : (head : Head) (name : OptionName) (t : Takes) (word : Word) → IsValue t (Some word) → value_fault t word ≡ None
value_taken head name Nothing word h = absurd h
value_taken head name OneOrAll word (inl one) = rw one refl
value_taken head name OneOrAll word (inr all) = rw all refl
value_taken head name (Number low high) word h = rw (
  h.0,
  and_from (nat_le low (number_of word)) (nat_le (number_of word) high)
      (le-leb low (number_of word) h.1) (le-leb (number_of word) high h.2),
) refl

module _ (head : Head) (files : List Word) (given : List Setting) (name : OptionName) (for' : IsTrue (is_for head (is_given given) name))
    (new : IsFalse (is_given given name)) where
  name_taken : after (DueOption head files given) (option_word name) ≡ Ok (after_name head files given name (takes head name))
  name_taken = rw (named_option name, for', new) refl

  with_value : (t : Takes) → takes head name ≡ t → after_name head files given name t ≡ DueValue head files given name
      → (word : Word) (place : ℕ) (rest : List Word) → IsValue t (Some word)
      → judge_from (DueOption head files given) place (option_word name ∷ word ∷ rest) ≡ judge_from
      (DueOption head files (given ++ record { name = name; value = Some word } ∷ [])) (place + 2) rest
  with_value t q to word place rest h =
      judge_step (DueOption head files given) place (option_word name) (word ∷ rest) (DueValue head files given name)
      (name_taken ∙ ap (λ t. Ok (after_name head files given name t)) q ∙ ap (λ d. Ok d) to)
      ∙ judge_step (DueValue head files given name) (suc place) word rest (DueOption head files (given ++ record { name = name; value = Some word } ∷ []))
      (ap (after_value head files given name word) (value_taken head name (takes head name) word
      (subst (λ (t : Takes). IsValue t (Some word)) (sym q) h)))
      ∙ ap (λ (p : ℕ). judge_from (DueOption head files (given ++ record { name = name; value = Some word } ∷ [])) p rest)
      (let e : suc (suc place) ≡ place + 2 = omega arith in e)

  one_setting : (t : Takes) → takes head name ≡ t → (value : Option Word) (place : ℕ) (rest : List Word) → IsValue t value
      → judge_from (DueOption head files given) place (setting_words (record { name = name; value = value }) ++ rest) ≡ judge_from
      (DueOption head files (given ++ record { name = name; value = value } ∷ []))
      (place + length (setting_words (record { name = name; value = value }))) rest
  one_setting Nothing q None place rest h =
      judge_step (DueOption head files given) place (option_word name) rest (DueOption head files (given ++ record { name = name; value = None } ∷ []))
      (name_taken ∙ ap (λ t. Ok (after_name head files given name t)) q)
      ∙ ap (λ (p : ℕ). judge_from (DueOption head files (given ++ record { name = name; value = None } ∷ [])) p rest)
      (let e : suc place ≡ place + 1 = omega arith in e)
  one_setting Nothing q (Some word) place rest h = absurd h
  one_setting OneOrAll q None place rest h = absurd h
  one_setting OneOrAll q (Some word) place rest h = with_value OneOrAll q refl word place rest h
  one_setting (Number low high) q None place rest h = absurd h
  one_setting (Number low high) q (Some word) place rest h = with_value (Number low high) q refl word place rest h

-- the settings
from_settings : (head : Head) (files : List Word) (given ss : List Setting) (place : ℕ) (rest : List Word) → AreSettings head (given ++ ss)
    → judge_from (DueOption head files given) place (flat_map setting_words ss ++ rest) ≡ judge_from (DueOption head files (given ++ ss))
    (place + length (flat_map setting_words ss)) rest
from_settings head files given [] place rest are = rw (append-nil given)
    (ap (λ (p : ℕ). judge_from (DueOption head files given) p rest) (let e : place ≡ place + 0 = omega arith in e))
from_settings head files given (s ∷ ss) place rest are =
    let may = AreSettings-at head given s ss are in
    let words = setting_words s in
    let more = flat_map setting_words ss in
    let one = one_setting head files given s.name may.is_for_head may.is_new (takes head s.name) refl s.value place (more ++ rest) may.is_value in
    let two = from_settings head files (given ++ s ∷ []) ss (place + length words) rest
    (subst (AreSettings head) (sym (append_assoc given (s ∷ []) ss)) are) in
    let place_is : place + length words + length more ≡ place + length (words ++ more) = omega (arith, length-append words more) in
    ap (judge_from (DueOption head files given) place) (append_assoc words more rest) ∙ one ∙ two
    ∙ ap (λ (xs : List Setting). judge_from (DueOption head files xs) (place + length words + length more) rest) (append_assoc given (s ∷ []) ss)
    ∙ ap (λ (p : ℕ). judge_from (DueOption head files (given ++ s ∷ ss)) p rest) place_is

-- behind all files
all_files : (head : Head) (files : List Word) → length files ≡ file_count head → due_files head files ≡ DueOption head files []
all_files head files e = rw (le-ltb (length files) (file_count head) (omega arith)) refl

pub two_words : (head : Head) → length (head_words head) ≡ 2
two_words (Search problem coordination) = refl
two_words (Make kind) = refl

abbrev Leads : Due → Type 0
Leads due = (rest : List Word) → judge (words_before due ++ rest) ≡ judge_from due (suc (length (words_before due))) rest

leads_to_files : (head : Head) (files : List Word) → length files ≤ file_count head → AreNames files → (rest : List Word)
    → judge (head_words head ++ files ++ rest) ≡ judge_from (due_files head files) (suc (length (head_words head ++ files))) rest
leads_to_files head files few names rest =
    ap judge (append_assoc (head_words head) files rest) ∙ from_head head (files ++ rest)
    ∙ from_files head [] files 3 rest (let f : 0 + length files ≤ file_count head = omega arith in f) names
    ∙ ap (λ (p : ℕ). judge_from (due_files head files) p rest) (let e : 3 + length files ≡ suc (length (head_words head ++ files)) =
    omega (arith, two_words head, length-append (head_words head) files) in e)

leads_to_options : (head : Head) (files : List Word) (ss : List Setting) → AreFiles head files → AreSettings head ss → Leads (DueOption head files ss)
leads_to_options head files ss are_files are_settings rest =
    let front = head_words head ++ files in
    let words = flat_map setting_words ss in
    let count : length files ≡ file_count head = are_files.count in
    ap judge (append_assoc front words rest) ∙ leads_to_files head files (omega arith) are_files.names (words ++ rest)
    ∙ ap (λ (d : Due). judge_from d (suc (length front)) (words ++ rest)) (all_files head files are_files.count)
    ∙ from_settings head files [] ss (suc (length front)) rest are_settings
    ∙ ap (λ (p : ℕ). judge_from (DueOption head files ss) p rest)
    (let e : suc (length front) + length words ≡ suc (length (front ++ words)) = omega (arith, length-append front words) in e)

-- To what is due after words in order the function comes too.
leads : (due : Due) → IsDue due → Leads due
leads DueJob d rest = refl
leads (DueSkeleton problem) d rest = judge_step DueJob 1 (problem_word problem) rest (DueSkeleton problem)
    (ap (λ o. after_problem o (problem_word problem)) (named_problem problem))
leads DueMade d rest = judge_step DueJob 1 (codes "make") rest DueMade refl
leads (DueFile head files) d rest =
    let few : length files < file_count head = d.0 in
    leads_to_files head files (omega arith) d.1 rest
    ∙ ap (λ (b : Bool). judge_from (cond b (DueFile head files) (DueOption head files [])) (suc (length (head_words head ++ files))) rest)
    (lt-ltb (length files) (file_count head) few)
leads (DueOption head files ss) d rest = leads_to_options head files ss d.0 d.1 rest
leads (DueValue head files ss name) d rest =
    let front = words_before (DueOption head files ss) in
    ap judge (append_assoc front (option_word name ∷ []) rest) ∙ leads_to_options head files ss d.0 d.1 (option_word name ∷ rest)
    ∙ judge_step (DueOption head files ss) (suc (length front)) (option_word name) rest (DueValue head files ss name)
    (name_taken head files ss name d.2 d.3 ∙ ap (λ x. Ok x) (value_due (takes head name) d.4))
    ∙ ap (λ (p : ℕ). judge_from (DueValue head files ss name) p rest)
    (let e : suc (suc (length front)) ≡ suc (length (front ++ option_word name ∷ [])) = omega (arith, length-append front (option_word name ∷ [])) in e)
  where
    value_due : (t : Takes) → t ≢ Nothing → after_name head files ss name t ≡ DueValue head files ss name
    value_due Nothing h = absurd (h refl)
    value_due OneOrAll h = refl
    value_due (Number low high) h = refl

-- where the words may not end
end_missing : (due : Due) → MayNotEnd due → at_end due ≡ Err Missing
end_missing DueJob h = refl
end_missing (DueSkeleton problem) h = refl
end_missing DueMade h = refl
end_missing (DueFile head files) h = refl
end_missing (DueValue head files ss name) h = refl
end_missing (DueOption head files ss) h =
    elim (cases_Bool (list_all (is_given ss) (required head (is_given ss))))
    [ inl all ↦ absurd (h (list_all-true (is_given ss) (required head (is_given ss)) all)) | inr not_all ↦ rw not_all refl ]

refused : (due : Due) (place : ℕ) (rest : List Word) (kind : UsageKind) → IsRefused due rest kind
    → judge_from due place rest ≡ Err (record { place = place; kind = kind })
refused due place [] kind h = judge_end due place ∙ ap (ended place) (end_missing due h.1)
    ∙ ap (λ (k : UsageKind). Err (record { place = place; kind = k })) (sym h.0)
refused due place (word ∷ words) kind h = judge_stop due place word words kind (offence_after due word kind h)

-- A plan of the words is the answer.
pub plan_judged : (words : List Word) (plan : Planned) → PlanOf words plan → judge words ≡ Ok plan
plan_judged words plan p =
    let due = DueOption p.head p.files p.settings in
    let place = suc (length (words_before due)) in
    ap judge (p.words_are ∙ sym (append-nil (words_before due))) ∙ leads_to_options p.head p.files p.settings p.are_files p.are_settings []
    ∙ judge_end due place ∙ ap (λ (b : Bool). ended place (cond b (Ok (plan_of p.head p.files (values_of p.head p.settings))) (Err Missing)))
    (all-list_all (is_given p.settings) (required p.head (is_given p.settings)) p.has_required)
    ∙ ap (λ (x : Planned). Ok x) (sym p.plan_is)

-- The first offence is the answer.
pub offence_judged : (words : List Word) (place : ℕ) (kind : UsageKind) → Offending words place kind
    → judge words ≡ Err (record { place = place; kind = kind })
offence_judged words place kind o =
    ap judge o.words_are ∙ leads o.due o.is_due o.rest ∙ refused o.due (suc (length (words_before o.due))) o.rest kind o.is_refused
    ∙ ap (λ (p : ℕ). Err (record { place = p; kind = kind })) (sym o.place_is)
