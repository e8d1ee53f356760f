-- The laws of files of flow shops.
use Rattle.std.proofs.Common.{◌≡◌, ℕ, ◌^◌, ◌<◌, ◌≤◌, ◌⊎◌, List, [], ◌∷◌, Option, Some, None, true, Bool, cond, refl, sym, ap, subst, ◌∙◌, arith, inl, inr}
use Rattle.std.specs.List.{AllZip, AllByRecursion}
use Rattle.std.proofs.lemmas.Bool.{cases_Bool, ltb-false}
use Rattle.yew_text.specs.declared.text.TextKind.{TextKind}
use Rattle.yew_text.specs.declared.text.TextKind.TheVariants.{BadLine}
use Rattle.yew_text.specs.Grammar.{Limited, is_past, first_past}
use Rattle.yew_text.specs.Numbers.{IsNumber, Fault}
use Rattle.yew_text.specs.Words.{words_of, end_line}
use Rattle.yew_text.proofs.Readings.{fault, one_offence, not_both, one_list, either_of}
use Rattle.yew_flow.specs.Files.{instance_numbers, IsFlowFile, flow_shape, zero_line, Offends, IsFlowOffence, time_limits, instance_limits, IsPastLimit, HasNonePast, FileLaws}
use Rattle.yew_flow.specs.Instance.{Instance, IsWithinLimits}
use Rattle.yew_flow.proofs.FileGrammar.{bounds, whole_of, written}
use Rattle.yew_flow.proofs.Zeros.{none-zero, zero-none}

-- ---- instances and offences

same_instance : (a b : Instance) → instance_numbers a ≡ instance_numbers b → a ≡ b
same_instance a b e =
    let jobs : a.jobs ≡ b.jobs = cc in
    let machines : a.machines ≡ b.machines = cc in
    let times : a.times ≡ b.times = cc in
    λ i. record { jobs = jobs i; machines = machines i; times = times i }

one_instance : (bytes : List ℕ) (a b : Instance) → IsFlowFile bytes a → IsFlowFile bytes b → a ≡ b
one_instance bytes a b h k = same_instance a b (one_list (words_of bytes) (instance_numbers a) (instance_numbers b) h.numbers k.numbers)

same_fault : (kind other : TextKind) (line other_line : ℕ) → kind ≡ other → line ≡ other_line → fault kind line ≡ fault other other_line
same_fault kind other line other_line e f = λ i. record { kind = e i; line = f i }

one_fault : (first : Option ℕ) (bytes : List ℕ) (kind other : TextKind) (line other_line : ℕ) → Offends first bytes kind line → Offends first bytes other other_line → fault kind line ≡ fault other other_line
one_fault (Some first) bytes kind other line other_line h k = same_fault kind other line other_line (h.0 ∙ sym k.0) (h.1 ∙ sym k.1)
one_fault None bytes kind other line other_line h k = one_offence flow_shape (end_line bytes) (words_of bytes) kind other line other_line h k

apart : (bytes : List ℕ) (instance : Instance) (kind : TextKind) (line : ℕ) → IsFlowFile bytes instance → ¬ IsFlowOffence bytes kind line
apart bytes instance kind line h k =
    not_both flow_shape (end_line bytes) (words_of bytes) (instance_numbers instance) kind line
    (whole_of (words_of bytes) instance.jobs instance.machines instance.times h.numbers h.count)
    (subst (λ (first : Option ℕ). Offends first bytes kind line) (none-zero (words_of bytes) instance.jobs instance.machines instance.times h.numbers h.some_jobs h.some_machines) k)

either : (bytes : List ℕ) (first : Option ℕ) → zero_line (words_of bytes) ≡ first → ((instance : Instance) × IsFlowFile bytes instance) ⊎ ((kind : TextKind) × (line : ℕ) × IsFlowOffence bytes kind line)
either bytes (Some first) e = inr (BadLine, first, subst (λ (o : Option ℕ). Offends o bytes BadLine first) (sym e) (refl, refl))
either bytes None e = elim (either_of flow_shape (end_line bytes) (words_of bytes) bounds) [
  | inl w ↦
      let k = written w.0 w.1.are_due w.1.ends in
      let numbers : AllZip IsNumber (words_of bytes) (k.jobs ∷ k.machines ∷ k.times) = subst (λ (ns : List ℕ). AllZip IsNumber (words_of bytes) ns) k.is w.1.are_numbers in
      let some = zero-none (words_of bytes) k.jobs k.machines k.times numbers e in
      inl (record { jobs = k.jobs; machines = k.machines; times = k.times }, record { some_jobs = some.first; some_machines = some.second; numbers = numbers; count = k.count })
  | inr o ↦ inr (o.0, o.1, subst (λ (p : Option ℕ). Offends p bytes o.0 o.1) (sym e) o.2)
]

-- ---- limits

record NotPast (x : Limited) (xs : List Limited) : Type 0 where
  own : x.number ≤ x.limit
  rest : first_past xs ≡ None

none-parts : (x : Limited) (xs : List Limited) → first_past (x ∷ xs) ≡ None → NotPast x xs
none-parts x xs e =
    elim (cases_Bool (is_past x)) [
      | inl past ↦ absurd (let f : cond true (Some x) (first_past xs) ≡ None = subst (λ (b : Bool). cond b (Some x) (first_past xs) ≡ None) past e in cc)
      | inr within ↦ record { own = ltb-false x.limit x.number within; rest = subst (λ (b : Bool). cond b (Some x) (first_past xs) ≡ None) within e }
    ]

times-short : (times : List ℕ) → first_past (time_limits times) ≡ None → AllByRecursion (λ time. time < 2 ^ 20) times
times-short [] e = tt
times-short (time ∷ times) e =
    let p = none-parts (record { number = time; limit = 1048575 }) (time_limits times) e in
    let own = p.own in
    (omega (arith, own), times-short times p.rest)

pub within : (bytes : List ℕ) (instance : Instance) → IsFlowFile bytes instance → first_past (instance_limits instance) ≡ None → IsWithinLimits instance
within bytes instance h e =
    let n = none-parts (record { number = instance.jobs; limit = 64 }) (record { number = instance.machines; limit = 32 } ∷ time_limits instance.times) e in
    let m = none-parts (record { number = instance.machines; limit = 32 }) (time_limits instance.times) n.rest in
    record { some_jobs = h.some_jobs; few_jobs = n.own; some_machines = h.some_machines; few_machines = m.own; whole = h.count; short = times-short instance.times m.rest }

one_limited : (x y : Limited) → Some x ≡ Some y → x ≡ y
one_limited x y e = cc

one_past : (bytes : List ℕ) (number other limit other_limit : ℕ) → IsPastLimit bytes number limit → IsPastLimit bytes other other_limit → ◌≡◌ {A = Limited} (record { number = number; limit = limit }) (record { number = other; limit = other_limit })
one_past bytes number other limit other_limit h k =
    one_limited (record { number = number; limit = limit }) (record { number = other; limit = other_limit })
    (sym h.first ∙ ap (λ i. first_past (instance_limits i)) (one_instance bytes h.instance k.instance h.is_file k.is_file) ∙ k.first)

none_past : (bytes : List ℕ) (number limit : ℕ) → HasNonePast bytes → ¬ IsPastLimit bytes number limit
none_past bytes number limit h k =
    absurd (let e : ◌≡◌ {A = Option Limited} None (Some (record { number = number; limit = limit })) = sym h.none ∙ ap (λ i. first_past (instance_limits i)) (one_instance bytes h.instance k.instance h.is_file k.is_file) ∙ k.first in cc)

past_or_none : (bytes : List ℕ) (instance : Instance) → IsFlowFile bytes instance → (o : Option Limited) → first_past (instance_limits instance) ≡ o → HasNonePast bytes ⊎ ((number : ℕ) × (limit : ℕ) × IsPastLimit bytes number limit)
past_or_none bytes instance h None e = inl (record { instance = instance; is_file = h; none = e })
past_or_none bytes instance h (Some l) e = inr (l.number, l.limit, record { instance = instance; is_file = h; first = e })

pub file_laws : FileLaws
file_laws = record {
  one_instance = one_instance;
  one_kind = λ bytes kind other line other_line h k. ap (λ (f : Fault). f.kind) (one_fault (zero_line (words_of bytes)) bytes kind other line other_line h k);
  one_line = λ bytes kind other line other_line h k. ap (λ (f : Fault). f.line) (one_fault (zero_line (words_of bytes)) bytes kind other line other_line h k);
  not_both = apart;
  either = λ bytes. either bytes (zero_line (words_of bytes)) refl;
  within = λ bytes instance h k.
      within bytes instance h (ap (λ i. first_past (instance_limits i)) (one_instance bytes instance k.instance h k.is_file) ∙ k.none);
  one_past = λ bytes number other limit other_limit h k.
      let e = one_past bytes number other limit other_limit h k in
      (ap (λ (l : Limited). l.number) e, ap (λ (l : Limited). l.limit) e);
  none_past = none_past;
  past_or_none = λ bytes instance h. past_or_none bytes instance h (first_past (instance_limits instance)) refl;
}
