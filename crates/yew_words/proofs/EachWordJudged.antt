-- One word: what is due after it, or its fault.
use Rattle.std.proofs.Common.{◌≡◌, ◌≢◌, ◌<◌, ◌≤◌, Bool, cond, ltb, List, [], ◌∷◌, ◌++◌, length, Option, Some, None, Result, Ok, Err, refl, sym, ap, subst}
use Rattle.std.proofs.Common.{◌∙◌, append_assoc, arith, inl, inr}
use Rattle.std.specs.Prelude.{bytes_eq, IsTrue, IsFalse, codes, flat_map, nat_le, ◌&&◌}
use Rattle.std.specs.List.{AllByRecursion}
use Rattle.std.proofs.lemmas.Bool.{cases_Bool, ltb-true, ltb-false, leb-true, leb-false, and_parts, and_cases}
use Rattle.std.proofs.lemmas.List.{append-nil, length-append}
use Rattle.std.proofs.lemmas.List.Concat.{flat_map-append}
use Rattle.yew_words.specs.declared.plan.Made.{Made}
use Rattle.yew_words.specs.declared.plan.UsageKind.{UsageKind}
use Rattle.yew_words.specs.declared.plan.UsageKind.TheVariants.{Unknown, NotFile, Repeated, NotNumber, OutOfRange, NotHere}
use Rattle.yew_words.specs.Word.{Word, is_file_name, is_number, number_of}
use Rattle.yew_words.specs.declared.table.Problem.{Problem}
use Rattle.yew_words.specs.declared.table.Coordination.{Coordination}
use Rattle.yew_words.specs.declared.table.Head.{Head}
use Rattle.yew_words.specs.declared.table.OptionName.{OptionName}
use Rattle.yew_words.specs.declared.table.Takes.{Takes}
use Rattle.yew_words.specs.declared.table.Head.TheVariants.{Search, Make}
use Rattle.yew_words.specs.declared.table.Takes.TheVariants.{Nothing, OneOrAll, Number}
use Rattle.yew_words.specs.Table.{problem_word, coordination_word, made_word, head_words, file_count, option_word, takes, is_for}
use Rattle.yew_words.specs.Plans.{Setting, setting_words, IsValue, is_given}
use Rattle.yew_words.specs.Offences.{Due, DueJob, DueSkeleton, DueMade, DueFile, DueOption, DueValue, words_before, IsDue, IsBadValue, IsOffence}
use Rattle.yew_words.specs.Table.{named, every_problem, every_coordination, every_made, every_option}
use Rattle.yew_words.specs.Kept.{value_fault}
use Rattle.yew_words.proofs.JudgingFunction.{due_files, after_problem, after_coordination, after_made, after_name, after_option, after_value, after}
use Rattle.yew_words.proofs.OneNameAWord.{same_word, other_word, named_is, named_none, named_problem, named_coordination, named_made, named_option}
use Rattle.yew_words.proofs.SettingsInOrder.{AreSettings-push}

pub ok_is : {A E : Type 0} (x y : A) → ◌≡◌ {A = Result A E} (Ok x) (Ok y) → x ≡ y
ok_is x y e = cc

pub err_is : {A E : Type 0} (x y : E) → ◌≡◌ {A = Result A E} (Err x) (Err y) → x ≡ y
err_is x y e = cc

pub err_ok : {A E : Type 0} (x : E) (y : A) → ◌≡◌ {A = Result A E} (Err x) (Ok y) → ⊥
err_ok x y e = cc

pub ok_err : {A E : Type 0} (x : A) (y : E) → ◌≡◌ {A = Result A E} (Ok x) (Err y) → ⊥
ok_err x y e = cc

-- what a lawful word leads to
abbrev pub Follows : List Word → Word → Due → Type 0
Follows before word next = IsDue next × (words_before next ≡ before ++ word ∷ [])

abbrev pub AreNames : List Word → Type 0
AreNames = AllByRecursion (λ word. IsTrue (is_file_name word))

pub AreNames-push : (files : List Word) (word : Word) → AreNames files → IsTrue (is_file_name word) → AreNames (files ++ word ∷ [])
AreNames-push [] word all new = (new, tt)
AreNames-push (file ∷ files) word all new = (all.0, AreNames-push files word all.1 new)

-- behind files, as many as the job has or fewer
pub files_due : (head : Head) (files : List Word) → length files ≤ file_count head → AreNames files
    → IsDue (due_files head files) × (words_before (due_files head files) ≡ head_words head ++ files)
files_due head files few names =
    let P : Due → Type 0 = λ due. IsDue due × (words_before due ≡ head_words head ++ files) in
    elim (cases_Bool (ltb (length files) (file_count head))) [
      | inl lt ↦ subst (λ (b : Bool). P (cond b (DueFile head files) (DueOption head files []))) (sym lt) ((ltb-true _ _ lt, names), refl)
      | inr le ↦ let e : length files ≡ file_count head = let l : file_count head ≤ length files = ltb-false _ _ le in omega arith in
          subst (λ (b : Bool). P (cond b (DueFile head files) (DueOption head files []))) (sym le)
          ((record { count = e; names = names }, tt), append-nil (head_words head ++ files))
    ]

-- ---- a lawful word

job_next : (word : Word) (o : Option Problem) (next : Due) → named problem_word every_problem word ≡ o → after_problem o word ≡ Ok next → Follows [] word next
job_next word (Some problem) next q e = subst (Follows [] word) (ok_is (DueSkeleton problem) next e)
    (tt, ap (λ (w : Word). w ∷ []) (sym (named_is problem_word every_problem word problem q)))
job_next word None next q e =
    elim (cases_Bool (bytes_eq (codes "make") word)) [
      | inl h ↦ subst (Follows [] word) (ok_is DueMade next (subst (λ (b : Bool). cond b (Ok DueMade) (Err Unknown) ≡ Ok next) h e))
          (tt, ap (λ (w : Word). w ∷ []) (same_word (codes "make") word h))
      | inr h ↦ absurd (err_ok Unknown next (subst (λ (b : Bool). cond b (Ok DueMade) (Err Unknown) ≡ Ok next) h e))
    ]

no_files : (head : Head) → 0 ≤ file_count head
no_files head = omega arith

skeleton_next : (problem : Problem) (word : Word) (o : Option Coordination) (next : Due) → named coordination_word every_coordination word ≡ o
    → after_coordination problem o ≡ Ok next → Follows (problem_word problem ∷ []) word next
skeleton_next problem word (Some coordination) next q e =
    let head = Search problem coordination in
    let f = files_due head [] (no_files head) tt in
    subst (Follows (problem_word problem ∷ []) word) (ok_is (due_files head []) next e)
    (f.0, f.1 ∙ ap (λ (w : Word). problem_word problem ∷ w ∷ []) (sym (named_is coordination_word every_coordination word coordination q)))
skeleton_next problem word None next q e = absurd (err_ok Unknown next e)

made_next : (word : Word) (o : Option Made) (next : Due) → named made_word every_made word ≡ o → after_made o ≡ Ok next
    → Follows (codes "make" ∷ []) word next
made_next word (Some kind) next q e =
    let head = Make kind in
    let f = files_due head [] (no_files head) tt in
    subst (Follows (codes "make" ∷ []) word) (ok_is (due_files head []) next e)
    (f.0, f.1 ∙ ap (λ (w : Word). codes "make" ∷ w ∷ []) (sym (named_is made_word every_made word kind q)))
made_next word None next q e = absurd (err_ok Unknown next e)

file_next : (head : Head) (files : List Word) (word : Word) (next : Due) → IsDue (DueFile head files) → after (DueFile head files) word ≡ Ok next
    → Follows (head_words head ++ files) word next
file_next head files word next due e =
    let more = files ++ word ∷ [] in
    elim (cases_Bool (is_file_name word)) [
      | inl h ↦ let f = files_due head more (let l : length files < file_count head = due.0 in omega (arith, length-append files (word ∷ [])))
          (AreNames-push files word due.1 h) in
          subst (Follows (head_words head ++ files) word) (ok_is (due_files head more) next
          (subst (λ (b : Bool). cond b (Ok (due_files head more)) (Err NotFile) ≡ Ok next) h e))
          (f.0, f.1 ∙ sym (append_assoc (head_words head) files (word ∷ [])))
      | inr h ↦ absurd (err_ok NotFile next (subst (λ (b : Bool). cond b (Ok (due_files head more)) (Err NotFile) ≡ Ok next) h e))
    ]

-- the words of the settings, with one more
pub setting_words-push : (front : List Word) (ss : List Setting) (s : Setting)
    → front ++ flat_map setting_words (ss ++ s ∷ []) ≡ front ++ flat_map setting_words ss ++ setting_words s
setting_words-push front ss s = ap (λ (ws : List Word). front ++ ws)
    (flat_map-append setting_words ss (s ∷ []) ∙ ap (λ (ws : List Word). flat_map setting_words ss ++ ws) (append-nil (setting_words s)))
    ∙ sym (append_assoc front (flat_map setting_words ss) (setting_words s))

name_next : (head : Head) (files : List Word) (ss : List Setting) (name : OptionName) (t : Takes) → takes head name ≡ t → IsDue (DueOption head files ss)
    → IsTrue (is_for head (is_given ss) name) → IsFalse (is_given ss name)
    → Follows (words_before (DueOption head files ss)) (option_word name) (after_name head files ss name t)
name_next head files ss name Nothing q due for' new =
    let s : Setting = record { name = name; value = None } in (
      (due.0, AreSettings-push head ss s due.1 (record { is_for_head = for'; is_value = subst (λ (t : Takes). IsValue t None) (sym q) tt; is_new = new })),
      setting_words-push (head_words head ++ files) ss s,
    )
name_next head files ss name OneOrAll q due for' new = ((due.0, due.1, for', new, λ h. let k : OneOrAll ≡ Nothing = sym q ∙ h in cc), refl)
name_next head files ss name (Number low high) q due for' new = ((due.0, due.1, for', new, λ h. let k : Number low high ≡ Nothing = sym q ∙ h in cc), refl)

option_next : (head : Head) (files : List Word) (ss : List Setting) (word : Word) (o : Option OptionName) (next : Due)
    → named option_word every_option word ≡ o → IsDue (DueOption head files ss) → after_option head files ss o ≡ Ok next
    → Follows (words_before (DueOption head files ss)) word next
option_next head files ss word None next q due e = absurd (err_ok Unknown next e)
option_next head files ss word (Some name) next q due e =
    let then : Result Due UsageKind = Ok (after_name head files ss name (takes head name)) in
    let inner : Result Due UsageKind = cond (is_given ss name) (Err Repeated) then in
    elim (cases_Bool (is_for head (is_given ss) name)) [
      | inl for' ↦ let e2 : inner ≡ Ok next = subst (λ (b : Bool). cond b inner (Err NotHere) ≡ Ok next) for' e in
          elim (cases_Bool (is_given ss name)) [
            | inl given ↦ absurd (err_ok Repeated next (subst (λ (b : Bool). cond b (Err Repeated) then ≡ Ok next) given e2))
            | inr new ↦ let e3 = ok_is (after_name head files ss name (takes head name)) next
                (subst (λ (b : Bool). cond b (Err Repeated) then ≡ Ok next) new e2) in
                subst (Follows (words_before (DueOption head files ss)) word) e3
                (subst (λ (w : Word). Follows (words_before (DueOption head files ss)) w (after_name head files ss name (takes head name)))
                (sym (named_is option_word every_option word name q)) (name_next head files ss name (takes head name) refl due for' new))
          ]
      | inr not_for ↦ absurd (err_ok NotHere next (subst (λ (b : Bool). cond b inner (Err NotHere) ≡ Ok next) not_for e))
    ]

-- a word without a fault is a value
pub no_fault : (t : Takes) (word : Word) → t ≢ Nothing → value_fault t word ≡ None → IsValue t (Some word)
no_fault Nothing word some e = absurd (some refl)
no_fault OneOrAll word some e =
    elim (cases_Bool (bytes_eq (codes "one") word)) [
      | inl one ↦ inl (sym (same_word (codes "one") word one))
      | inr not_one ↦ elim (cases_Bool (bytes_eq (codes "all") word)) [
        | inl all ↦ inr (sym (same_word (codes "all") word all))
        | inr not_all ↦ absurd (let f : Some Unknown ≡ None = sym (rw (not_one, not_all) refl) ∙ e in cc)
      ]
    ]
no_fault (Number low high) word some e =
    elim (cases_Bool (is_number word)) [
      | inl number ↦ elim (cases_Bool (nat_le low (number_of word) && nat_le (number_of word) high)) [
        | inl within ↦ let p = and_parts (nat_le low (number_of word)) (nat_le (number_of word) high) within in (number, leb-true _ _ p.0, leb-true _ _ p.1)
        | inr outside ↦ absurd (let f : Some OutOfRange ≡ None = sym (rw (number, outside) refl) ∙ e in cc)
      ]
      | inr not_number ↦ absurd (let f : Some NotNumber ≡ None = sym (rw not_number refl) ∙ e in cc)
    ]

value_next : (head : Head) (files : List Word) (ss : List Setting) (name : OptionName) (word : Word) (o : Option UsageKind) (next : Due)
    → value_fault (takes head name) word ≡ o → IsDue (DueValue head files ss name) → after_value head files ss name word o ≡ Ok next
    → Follows (words_before (DueValue head files ss name)) word next
value_next head files ss name word None next q due e =
    let s : Setting = record { name = name; value = Some word } in
    subst (Follows (words_before (DueValue head files ss name)) word) (ok_is (DueOption head files (ss ++ s ∷ [])) next e) (
      (due.0, AreSettings-push head ss s due.1 (record { is_for_head = due.2; is_value = no_fault (takes head name) word due.4 q; is_new = due.3 })),
      setting_words-push (head_words head ++ files) ss s ∙ sym (append_assoc (head_words head ++ files ++ flat_map setting_words ss) (option_word name ∷ [])
          (word ∷ [])),
    )
value_next head files ss name word (Some kind) next q due e = absurd (err_ok kind next e)

-- A word that is taken leads on.
pub after_next : (due : Due) (word : Word) (next : Due) → IsDue due → after due word ≡ Ok next → Follows (words_before due) word next
after_next DueJob word next d e = job_next word (named problem_word every_problem word) next refl e
after_next (DueSkeleton problem) word next d e = skeleton_next problem word (named coordination_word every_coordination word) next refl e
after_next DueMade word next d e = made_next word (named made_word every_made word) next refl e
after_next (DueFile head files) word next d e = file_next head files word next d e
after_next (DueOption head files ss) word next d e = option_next head files ss word (named option_word every_option word) next refl d e
after_next (DueValue head files ss name) word next d e = value_next head files ss name word (value_fault (takes head name) word) next refl d e

-- ---- an offending word

job_fault : (word : Word) (o : Option Problem) (kind : UsageKind) → named problem_word every_problem word ≡ o → after_problem o word ≡ Err kind
    → IsOffence DueJob word kind
job_fault word (Some problem) kind q e = absurd (ok_err (DueSkeleton problem) kind e)
job_fault word None kind q e =
    elim (cases_Bool (bytes_eq (codes "make") word)) [
      | inl h ↦ absurd (ok_err DueMade kind (subst (λ (b : Bool). cond b (Ok DueMade) (Err Unknown) ≡ Err kind) h e))
      | inr h ↦ subst (IsOffence DueJob word) (err_is Unknown kind (subst (λ (b : Bool). cond b (Ok DueMade) (Err Unknown) ≡ Err kind) h e))
          (λ problem. named_none problem_word every_problem word problem (named_problem problem) q, λ k. other_word (codes "make") word h (sym k))
    ]

skeleton_fault : (problem : Problem) (word : Word) (o : Option Coordination) (kind : UsageKind) → named coordination_word every_coordination word ≡ o
    → after_coordination problem o ≡ Err kind → IsOffence (DueSkeleton problem) word kind
skeleton_fault problem word (Some coordination) kind q e = absurd (ok_err (due_files (Search problem coordination) []) kind e)
skeleton_fault problem word None kind q e = subst (IsOffence (DueSkeleton problem) word) (err_is Unknown kind e)
    (λ c. named_none coordination_word every_coordination word c (named_coordination c) q)

made_fault : (word : Word) (o : Option Made) (kind : UsageKind) → named made_word every_made word ≡ o → after_made o ≡ Err kind → IsOffence DueMade word kind
made_fault word (Some m) kind q e = absurd (ok_err (due_files (Make m) []) kind e)
made_fault word None kind q e = subst (IsOffence DueMade word) (err_is Unknown kind e) (λ m. named_none made_word every_made word m (named_made m) q)

file_fault : (head : Head) (files : List Word) (word : Word) (kind : UsageKind) → after (DueFile head files) word ≡ Err kind
    → IsOffence (DueFile head files) word kind
file_fault head files word kind e =
    let then : Result Due UsageKind = Ok (due_files head (files ++ word ∷ [])) in
    elim (cases_Bool (is_file_name word)) [
      | inl h ↦ absurd (ok_err (due_files head (files ++ word ∷ [])) kind (subst (λ (b : Bool). cond b then (Err NotFile) ≡ Err kind) h e))
      | inr h ↦ subst (IsOffence (DueFile head files) word) (err_is NotFile kind (subst (λ (b : Bool). cond b then (Err NotFile) ≡ Err kind) h e)) h
    ]

option_fault : (head : Head) (files : List Word) (ss : List Setting) (word : Word) (o : Option OptionName) (kind : UsageKind)
    → named option_word every_option word ≡ o → after_option head files ss o ≡ Err kind → IsOffence (DueOption head files ss) word kind
option_fault head files ss word None kind q e = subst (IsOffence (DueOption head files ss) word) (err_is Unknown kind e)
    (λ name. named_none option_word every_option word name (named_option name) q)
option_fault head files ss word (Some name) kind q e =
    let then : Result Due UsageKind = Ok (after_name head files ss name (takes head name)) in
    let inner : Result Due UsageKind = cond (is_given ss name) (Err Repeated) then in
    let word_is = named_is option_word every_option word name q in
    elim (cases_Bool (is_for head (is_given ss) name)) [
      | inl for' ↦ let e2 : inner ≡ Err kind = subst (λ (b : Bool). cond b inner (Err NotHere) ≡ Err kind) for' e in
          elim (cases_Bool (is_given ss name)) [
            | inl given ↦ subst (IsOffence (DueOption head files ss) word)
                (err_is Repeated kind (subst (λ (b : Bool). cond b (Err Repeated) then ≡ Err kind) given e2)) (name, word_is, for', given)
            | inr new ↦ absurd (ok_err (after_name head files ss name (takes head name)) kind
                (subst (λ (b : Bool). cond b (Err Repeated) then ≡ Err kind) new e2))
          ]
      | inr not_for ↦ subst (IsOffence (DueOption head files ss) word)
          (err_is NotHere kind (subst (λ (b : Bool). cond b inner (Err NotHere) ≡ Err kind) not_for e)) (name, word_is, not_for)
    ]

-- a value's fault
pub fault_is : (t : Takes) (word : Word) (kind : UsageKind) → value_fault t word ≡ Some kind → IsBadValue t word kind
fault_is Nothing word kind e = absurd (let f : None ≡ Some kind = e in cc)
fault_is OneOrAll word kind e =
    elim (cases_Bool (bytes_eq (codes "one") word)) [
      | inl one ↦ absurd (let f : None ≡ Some kind = sym (rw one refl) ∙ e in cc)
      | inr not_one ↦ elim (cases_Bool (bytes_eq (codes "all") word)) [
        | inl all ↦ absurd (let f : None ≡ Some kind = sym (rw (not_one, all) refl) ∙ e in cc)
        | inr not_all ↦ let f : Some Unknown ≡ Some kind = sym (rw (not_one, not_all) refl) ∙ e in
            subst (IsBadValue OneOrAll word) (let k : Unknown ≡ kind = cc in k)
            (λ h. other_word (codes "one") word not_one (sym h), λ h. other_word (codes "all") word not_all (sym h))
      ]
    ]
fault_is (Number low high) word kind e =
    elim (cases_Bool (is_number word)) [
      | inl number ↦ elim (cases_Bool (nat_le low (number_of word) && nat_le (number_of word) high)) [
        | inl within ↦ absurd (let f : None ≡ Some kind = sym (rw (number, within) refl) ∙ e in cc)
        | inr outside ↦ let f : Some OutOfRange ≡ Some kind = sym (rw (number, outside) refl) ∙ e in
            subst (IsBadValue (Number low high) word) (let k : OutOfRange ≡ kind = cc in k) (
              number,
              elim (and_cases (nat_le low (number_of word)) (nat_le (number_of word) high) outside)
                  [ inl l ↦ inl (leb-false _ _ l) | inr h ↦ inr (leb-false _ _ h) ],
            )
      ]
      | inr not_number ↦ let f : Some NotNumber ≡ Some kind = sym (rw not_number refl) ∙ e in
          subst (IsBadValue (Number low high) word) (let k : NotNumber ≡ kind = cc in k) not_number
    ]

bad_value : (head : Head) (files : List Word) (ss : List Setting) (name : OptionName) (word : Word) (o : Option UsageKind) (kind : UsageKind)
    → value_fault (takes head name) word ≡ o → after_value head files ss name word o ≡ Err kind → IsOffence (DueValue head files ss name) word kind
bad_value head files ss name word None kind q e = absurd (ok_err (DueOption head files (ss ++ record { name = name; value = Some word } ∷ [])) kind e)
bad_value head files ss name word (Some other) kind q e = subst (IsBadValue (takes head name) word) (err_is other kind e)
    (fault_is (takes head name) word other q)

-- A word that is refused is an offence.
pub after_fault : (due : Due) (word : Word) (kind : UsageKind) → after due word ≡ Err kind → IsOffence due word kind
after_fault DueJob word kind e = job_fault word (named problem_word every_problem word) kind refl e
after_fault (DueSkeleton problem) word kind e = skeleton_fault problem word (named coordination_word every_coordination word) kind refl e
after_fault DueMade word kind e = made_fault word (named made_word every_made word) kind refl e
after_fault (DueFile head files) word kind e = file_fault head files word kind e
after_fault (DueOption head files ss) word kind e = option_fault head files ss word (named option_word every_option word) kind refl e
after_fault (DueValue head files ss name) word kind e = bad_value head files ss name word (value_fault (takes head name) word) kind refl e
