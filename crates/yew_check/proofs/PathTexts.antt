-- The text of a path, cut at its slashes.
use Rattle.std.proofs.Common.{◌≡◌, ◌≢◌, ℕ, zero, suc, ◌<◌, ◌≤◌, ◌^◌, false, List, [], ◌∷◌, ◌++◌, length, map, get_or, refl, sym, ap, ◌∙◌, append-nil, arith, inl, inr}
use Rattle.std.specs.Prelude.{decimal}
use Rattle.std.specs.List.{AllByRecursion, slice_split, onto_first, flat_map}
use Rattle.std.proofs.lemmas.Bool.{cases_Bool, eqb-true, ne_eqb}
use Rattle.std.proofs.lemmas.List.Elements.{All-from_recursion}
use Rattle.std.proofs.lemmas.List.Splits.{slice_split-cons_yes, slice_split-cons_no, slice_split_at, slice_split_none}
use Rattle.yew_text.proofs.Splitting.{has_first}
use Rattle.yew_log.specs.AuditText.{step_text, path_text}
use Rattle.std.proofs.lemmas.Fmt.{decimal_nonempty}
use Rattle.yew_text.specs.Numbers.{value_of}
use Rattle.yew_laws.proofs.Members.{AllByRecursion-weaker}
use Rattle.yew_check.specs.Entries.{is_slash, IsPathWithin, greatest_step}
use Rattle.yew_check.proofs.Numerals.{decimal-without, decimal-value}
use Rattle.yew_check.proofs.Cutting.{all-append}

abbrev slashed : List ℕ → List ℕ
slashed part = 47 ∷ part

-- the parts, each behind a slash, are the text behind a slash
parts-join : (xs : List ℕ) → flat_map slashed (slice_split is_slash xs) ≡ 47 ∷ xs
parts-join [] = refl
parts-join (x ∷ xs) =
    elim (cases_Bool (is_slash x)) [
      | inl hit ↦
          let same : x ≡ 47 = eqb-true x 47 hit in
          ap (flat_map slashed) (slice_split-cons_yes is_slash x xs hit) ∙ ap (λ (ys : List ℕ). 47 ∷ ys) (parts-join xs) ∙ ap (λ (b : ℕ). 47 ∷ b ∷ xs) (sym same)
      | inr miss ↦
          let h = has_first is_slash xs in
          let rest : 47 ∷ (h.first ++ flat_map slashed h.others) ≡ 47 ∷ xs = ap (flat_map slashed) (sym h.is) ∙ parts-join xs in
          let inner : h.first ++ flat_map slashed h.others ≡ xs = cc in
          ap (flat_map slashed) (slice_split-cons_no is_slash x xs miss ∙ ap (onto_first x) h.is) ∙ ap (λ (ys : List ℕ). 47 ∷ x ∷ ys) inner
    ]

steps-join : (ks : List ℕ) → flat_map step_text ks ≡ flat_map slashed (map decimal ks)
steps-join [] = refl
steps-join (k ∷ ks) = ap (λ (ys : List ℕ). (47 ∷ decimal k) ++ ys) (steps-join ks)

-- where the parts behind the first slash are numbers, the text is the path of these numbers
pub path-from_parts : (steps ks : List ℕ) → slice_split is_slash steps ≡ map decimal ks → 47 ∷ steps ≡ path_text ks
path-from_parts steps [] e = let h = has_first is_slash steps in let bad : [] ≡ h.first ∷ h.others = sym e ∙ h.is in absurd (cc)
path-from_parts steps (k ∷ ks) e = sym (parts-join steps) ∙ ap (flat_map slashed) e ∙ sym (steps-join (k ∷ ks))

step-small : (k : ℕ) → k ≤ greatest_step → k < 2 ^ 64
step-small k h = omega arith

parts-behind : (ds ks : List ℕ) → AllByRecursion (λ b. b ≢ 47) ds → IsPathWithin ks → slice_split is_slash (ds ++ flat_map step_text ks) ≡ ds ∷ map decimal ks
parts-behind ds [] out within =
    ap (slice_split is_slash) (append-nil ds)
    ∙ slice_split_none is_slash ds (All-from_recursion (λ b. is_slash b ≡ false) ds (AllByRecursion-weaker (λ b. b ≢ 47) (λ b. is_slash b ≡ false) (λ b ne. ne_eqb b 47 ne) ds out))
parts-behind ds (k ∷ ks) out within =
    slice_split_at is_slash ds 47 (decimal k ++ flat_map step_text ks) (All-from_recursion (λ b. is_slash b ≡ false) ds (AllByRecursion-weaker (λ b. b ≢ 47) (λ b. is_slash b ≡ false) (λ b ne. ne_eqb b 47 ne) ds out)) refl
    ∙ ap (λ (ps : List (List ℕ)). ds ∷ ps) (parts-behind (decimal k) ks (decimal-without 47 k (omega arith) (step-small k within.0)) within.1)

-- the parts behind the first slash of a path's text are its numbers
pub path-parts : (k : ℕ) (ks : List ℕ) → IsPathWithin (k ∷ ks) → slice_split is_slash (decimal k ++ flat_map step_text ks) ≡ map decimal (k ∷ ks)
path-parts k ks within = parts-behind (decimal k) ks (decimal-without 47 k (omega arith) (step-small k within.0)) within.1

steps-without : (c : ℕ) → c < 47 → (ks : List ℕ) → IsPathWithin ks → AllByRecursion (λ b. b ≢ c) (flat_map step_text ks)
steps-without c low [] within = tt
steps-without c low (k ∷ ks) within =
    ((λ e. absurd (omega arith)), all-append (λ b. b ≢ c) (decimal k) (flat_map step_text ks) (decimal-without c k (omega arith) (step-small k within.0)) (steps-without c low ks within.1))

-- a path's text has slashes and digits alone, and so no space and no line feed
pub path-without : (c : ℕ) → c < 47 → (ks : List ℕ) → IsPathWithin ks → AllByRecursion (λ b. b ≢ c) (path_text ks)
path-without c low [] within = ((λ e. absurd (omega arith)), tt)
path-without c low (k ∷ ks) within = steps-without c low (k ∷ ks) within

-- where the parts behind the first slash are no numbers of a path, the text is no path, unless nothing is behind the slash
pub path-lacks : (steps : List ℕ) → 0 < length steps → ((path : List ℕ) → IsPathWithin path → slice_split is_slash steps ≢ map decimal path) → (path : List ℕ) → IsPathWithin path → 47 ∷ steps ≢ path_text path
path-lacks [] some none path within e = absurd (omega arith)
path-lacks (s ∷ steps) some none [] within e = absurd (cc)
path-lacks (s ∷ steps) some none (k ∷ ks) within e =
    let same : s ∷ steps ≡ decimal k ++ flat_map step_text ks = cc in
    none (k ∷ ks) within (ap (slice_split is_slash) same ∙ path-parts k ks within)

path-begins : (path : List ℕ) → (rest : List ℕ) × (path_text path ≡ 47 ∷ rest)
path-begins [] = ([], refl)
path-begins (k ∷ ks) = (decimal k ++ flat_map step_text ks, refl)

-- a path begins with a slash
pub path-slash : (first : ℕ) (steps path : List ℕ) → first ∷ steps ≡ path_text path → first ≡ 47
path-slash first steps path e = let p = path-begins path in let f : first ∷ steps ≡ 47 ∷ p.0 = e ∙ p.1 in cc

pub path-some : (path : List ℕ) → path_text path ≢ []
path-some path e = let p = path-begins path in let f : [] ≡ 47 ∷ p.0 = sym e ∙ p.1 in absurd (cc)

-- each part of a path's text is a number that a path may have
pub record IsStep (part : List ℕ) : Type 0 where
  pub number : ℕ
  pub is : part ≡ decimal number
  pub within : number ≤ greatest_step

pub step-at : {X : Type 0} (now : X → List ℕ) (parts : List X) (path : List ℕ) (i : ℕ) (d : X) → i < length parts → map now parts ≡ map decimal path → IsPathWithin path → IsStep (now (get_or parts i d))
step-at now [] path i d less e within = absurd (omega arith)
step-at now (x ∷ xs) [] i d less e within = absurd (cc)
step-at now (x ∷ xs) (k ∷ ks) zero d less e within = let is : now x ≡ decimal k = cc in record { number = k; is = is; within = within.0 }
step-at now (x ∷ xs) (k ∷ ks) (suc i) d less e within = let rest : map now xs ≡ map decimal ks = cc in step-at now xs ks i d (omega arith) rest within.1

pub path-empty : (text : List ℕ) → text ≡ [] → (path : List ℕ) → text ≢ path_text path
path-empty text none path e = path-some path (sym e ∙ none)

decimals-same : (ps qs : List ℕ) → IsPathWithin ps → IsPathWithin qs → map decimal ps ≡ map decimal qs → ps ≡ qs
decimals-same [] [] v w e = refl
decimals-same [] (q ∷ qs) v w e = absurd (cc)
decimals-same (p ∷ ps) [] v w e = absurd (cc)
decimals-same (p ∷ ps) (q ∷ qs) v w e =
    let first : decimal p ≡ decimal q = cc in
    let rest : map decimal ps ≡ map decimal qs = cc in
    let same : p ≡ q = sym (decimal-value p (step-small p v.0)) ∙ ap value_of first ∙ decimal-value q (step-small q w.0) in
    let others = decimals-same ps qs v.1 w.1 rest in
    cc

no-steps : (k : ℕ) (ks : List ℕ) → IsPathWithin (k ∷ ks) → path_text [] ≢ path_text (k ∷ ks)
no-steps k ks w e =
    let empty : [] ≡ decimal k ++ flat_map step_text ks = cc in
    let parts : [] ∷ [] ≡ decimal k ∷ map decimal ks = ap (slice_split is_slash) empty ∙ path-parts k ks w in
    let none : [] ≡ decimal k = cc in
    let some = decimal_nonempty k (step-small k w.0) in
    let long = ap length none in
    absurd (omega arith)

-- a text is that of one path
pub path-same : (ps qs : List ℕ) → IsPathWithin ps → IsPathWithin qs → path_text ps ≡ path_text qs → ps ≡ qs
path-same [] [] v w e = refl
path-same [] (q ∷ qs) v w e = absurd (no-steps q qs w e)
path-same (p ∷ ps) [] v w e = absurd (no-steps p ps v (sym e))
path-same (p ∷ ps) (q ∷ qs) v w e =
    let tails : decimal p ++ flat_map step_text ps ≡ decimal q ++ flat_map step_text qs = cc in
    decimals-same (p ∷ ps) (q ∷ qs) v w (sym (path-parts p ps v) ∙ ap (slice_split is_slash) tails ∙ path-parts q qs w)
