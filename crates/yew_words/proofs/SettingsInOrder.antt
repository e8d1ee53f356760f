-- Settings one behind another: each may follow those before it, and each option is given once.
use Rattle.std.proofs.Common.{◌≡◌, ◌≢◌, true, List, [], ◌∷◌, ◌++◌, refl, sym, ap, subst, ◌∙◌, append_assoc, inl, inr}
use Rattle.std.specs.Prelude.{IsTrue, IsFalse, not}
use Rattle.std.specs.List.{list_any}
use Rattle.std.proofs.lemmas.Bool.{cases_Bool, both_ways, and_parts}
use Rattle.std.proofs.lemmas.List.{append-nil}
use Rattle.yew_words.specs.declared.table.Head.{Head}
use Rattle.yew_words.specs.declared.table.OptionName.{OptionName}
use Rattle.yew_words.specs.Table.{option_row, option_word, suits}
use Rattle.yew_words.specs.Plans.{Setting, is_named, is_given, MayFollow, AreBehind, AreSettings}
use Rattle.yew_words.proofs.OneNameAWord.{same_word, own_word, same_name}

-- ---- what is given

-- the first is not the one that is not given
pub first_differs : (t : Setting) (ss : List Setting) (name : OptionName) → IsFalse (is_given (t ∷ ss) name) → IsFalse (is_named name t)
first_differs t ss name h = elim (cases_Bool (is_named name t)) [ inl e ↦ absurd (both_ways (is_given (t ∷ ss) name) h (rw e refl)) | inr e ↦ e ]

pub rest_differs : (t : Setting) (ss : List Setting) (name : OptionName) → IsFalse (is_given (t ∷ ss) name) → IsFalse (is_given ss name)
rest_differs t ss name h = let e = first_differs t ss name h in rw e at h

-- what is given stays given
is_given-more : (ss more : List Setting) (name : OptionName) → IsTrue (is_given ss name) → IsTrue (is_given (ss ++ more) name)
is_given-more [] more name h = absurd (let e = h in cc)
is_given-more (t ∷ ss) more name h = elim (cases_Bool (is_named name t)) [ inl e ↦ rw e refl | inr e ↦ rw e (is_given-more ss more name (rw e at h)) ]

pub is_given-own : (ss : List Setting) (s : Setting) → IsTrue (is_given (ss ++ s ∷ []) s.name)
is_given-own [] s = rw (own_word (option_word s.name)) refl
is_given-own (t ∷ ss) s = elim (cases_Bool (is_named s.name t)) [ inl e ↦ rw e refl | inr e ↦ rw e (is_given-own ss s) ]

-- ---- one more

AreBehind-push : (head : Head) (before ss : List Setting) (s : Setting) → AreBehind head before ss → MayFollow head (before ++ ss) s
    → AreBehind head before (ss ++ s ∷ [])
AreBehind-push head before [] s are may = (subst (λ (ts : List Setting). MayFollow head ts s) (append-nil before) may, tt)
AreBehind-push head before (t ∷ ss) s are may = (
  are.0,
  AreBehind-push head (before ++ t ∷ []) ss s are.1
      (subst (λ (ts : List Setting). MayFollow head ts s) (sym (append_assoc before (t ∷ []) ss)) may),
)

pub AreSettings-push : (head : Head) (ss : List Setting) (s : Setting) → AreSettings head ss → MayFollow head ss s → AreSettings head (ss ++ s ∷ [])
AreSettings-push head ss s are may = AreBehind-push head [] ss s are may

AreBehind-at : (head : Head) (before ss : List Setting) (s : Setting) (more : List Setting) → AreBehind head before (ss ++ s ∷ more)
    → MayFollow head (before ++ ss) s
AreBehind-at head before [] s more are = subst (λ (ts : List Setting). MayFollow head ts s) (sym (append-nil before)) are.0
AreBehind-at head before (t ∷ ss) s more are = subst (λ (ts : List Setting). MayFollow head ts s) (append_assoc before (t ∷ []) ss)
    (AreBehind-at head (before ++ t ∷ []) ss s more are.1)

-- each one may follow those before it
pub AreSettings-at : (head : Head) (ss : List Setting) (s : Setting) (more : List Setting) → AreSettings head (ss ++ s ∷ more) → MayFollow head ss s
AreSettings-at head ss s more are = AreBehind-at head [] ss s more are

-- an option that was given is not given again
pub later_new : (head : Head) (before ss : List Setting) → AreBehind head before ss → (name : OptionName) → IsTrue (is_given before name)
    → IsFalse (is_given ss name)
later_new head before [] are name h = refl
later_new head before (s ∷ ss) are name h =
    elim (cases_Bool (is_named name s)) [
      | inl e ↦ absurd (both_ways (is_given before s.name) are.0.is_new
          (subst (λ (n : OptionName). IsTrue (is_given before n)) (same_name name s.name (same_word (option_word name) (option_word s.name) e)) h))
      | inr e ↦ rw e (later_new head (before ++ s ∷ []) ss are.1 name (is_given-more before (s ∷ []) name h))
    ]

-- ---- what excludes what

-- an option that excludes the other, given before it, keeps it out
excludes : (head : Head) (before : List Setting) (s : Setting) (other name : OptionName) → MayFollow head before s → s.name ≡ name
    → (option_row name).excluded_by ≡ other ∷ [] → IsTrue (is_given before other) → ⊥
excludes head before s other name may is x h =
    let free : not (list_any (is_given before) (option_row s.name).excluded_by) ≡ true =
    (and_parts (suits head s.name) (not (list_any (is_given before) (option_row s.name).excluded_by)) may.is_for_head).1 in
    let names : (option_row s.name).excluded_by ≡ other ∷ [] = ap (λ (n : OptionName). (option_row n).excluded_by) is ∙ x in
    let free_one : not (list_any (is_given before) (other ∷ [])) ≡ true =
    subst (λ (ns : List OptionName). not (list_any (is_given before) ns) ≡ true) names free in
    both_ways (not (list_any (is_given before) (other ∷ []))) (rw h refl) free_one

later_excluded : (head : Head) (before ss : List Setting) → AreBehind head before ss → (other name : OptionName)
    → (option_row name).excluded_by ≡ other ∷ [] → IsTrue (is_given before other) → IsFalse (is_given ss name)
later_excluded head before [] are other name x h = refl
later_excluded head before (s ∷ ss) are other name x h =
    elim (cases_Bool (is_named name s)) [
      | inl e ↦ absurd (excludes head before s other name are.0 (sym (same_name name s.name (same_word (option_word name) (option_word s.name) e))) x h)
      | inr e ↦ rw e (later_excluded head (before ++ s ∷ []) ss are.1 other name x (is_given-more before (s ∷ []) other h))
    ]

-- Of two options that exclude each other at most one is given.
pub one_excluded : (head : Head) (before ss : List Setting) → AreBehind head before ss → (one other : OptionName) → one ≢ other
    → (option_row one).excluded_by ≡ other ∷ [] → (option_row other).excluded_by ≡ one ∷ [] → IsTrue (is_given ss one) → IsFalse (is_given ss other)
one_excluded head before [] are one other apart x y h = absurd (let e = h in cc)
one_excluded head before (s ∷ ss) are one other apart x y h =
    let named : (name : OptionName) → IsTrue (is_named name s) → name ≡ s.name =
    λ name e. same_name name s.name (same_word (option_word name) (option_word s.name) e) in
    let after : (name : OptionName) → IsTrue (is_named name s) → IsTrue (is_given (before ++ s ∷ []) name) =
    λ name e. subst (λ (n : OptionName). IsTrue (is_given (before ++ s ∷ []) n)) (sym (named name e)) (is_given-own before s) in
    elim (cases_Bool (is_named one s)) [
      | inl e ↦ elim (cases_Bool (is_named other s)) [
        | inl f ↦ absurd (apart (named one e ∙ sym (named other f)))
        | inr f ↦ rw f (later_excluded head (before ++ s ∷ []) ss are.1 one other y (after one e))
      ]
      | inr e ↦
          let given : IsTrue (is_given ss one) = rw e at h in
          elim (cases_Bool (is_named other s)) [
            | inl f ↦ absurd (both_ways (is_given ss one) (later_excluded head (before ++ s ∷ []) ss are.1 other one x (after other f)) given)
            | inr f ↦ rw f (one_excluded head (before ++ s ∷ []) ss are.1 one other apart x y given)
          ]
    ]
