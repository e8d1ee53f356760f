-- The laws of files of tours.
use Rattle.std.proofs.Common.{◌≡◌, ℕ, ◌⊎◌, List, Option, Some, None, Result, Ok, Err, refl, sym, ap, subst, ◌∙◌, inl, inr}
use Rattle.yew_text.specs.declared.text.TextKind.{TextKind}
use Rattle.yew_text.specs.Grammar.{Limited, first_past}
use Rattle.yew_text.specs.Numbers.{Fault}
use Rattle.yew_tsp.specs.FileReading.{read_tours}
use Rattle.yew_tsp.specs.Files.{Contents, HasContents, instance_of, IsTourFile, IsTourOffence, contents_limits, IsPastLimit, HasNonePast, FileLaws}
use Rattle.yew_tsp.specs.Instance.{Instance, IsWithinLimits}
use Rattle.yew_tsp.proofs.Counts.{how_many}
use Rattle.yew_tsp.proofs.FileGrammar.{one_file, one_fault, apart, TourSays, tours_say}
use Rattle.yew_tsp.proofs.WithinLimits.{within, weights-are}

either_of : (bytes : List ℕ) (r : Result Contents Fault) → TourSays bytes r → ((instance : Instance) × IsTourFile bytes instance) ⊎ ((kind : TextKind) × (line : ℕ) × IsTourOffence bytes kind line)
either_of bytes (Ok contents) h = inl (instance_of contents, record { contents = contents; has = h; instance_is = refl })
either_of bytes (Err f) h = inr (f.kind, f.line, h)

one_limited : (x y : Limited) → Some x ≡ Some y → x ≡ y
one_limited x y e = cc

one_past : (bytes : List ℕ) (number other limit other_limit : ℕ) → IsPastLimit bytes number limit → IsPastLimit bytes other other_limit → ◌≡◌ {A = Limited} (record { number = number; limit = limit }) (record { number = other; limit = other_limit })
one_past bytes number other limit other_limit h k =
    one_limited (record { number = number; limit = limit }) (record { number = other; limit = other_limit })
    (sym h.first ∙ ap (λ c. first_past (contents_limits c)) (one_file bytes h.contents k.contents h.has k.has) ∙ k.first)

none_past : (bytes : List ℕ) (number limit : ℕ) → HasNonePast bytes → ¬ IsPastLimit bytes number limit
none_past bytes number limit h k =
    absurd (let e : ◌≡◌ {A = Option Limited} None (Some (record { number = number; limit = limit })) = sym h.none ∙ ap (λ c. first_past (contents_limits c)) (one_file bytes h.contents k.contents h.has k.has) ∙ k.first in cc)

past_or_none : (bytes : List ℕ) (contents : Contents) → HasContents bytes contents → (o : Option Limited) → first_past (contents_limits contents) ≡ o → HasNonePast bytes ⊎ ((number : ℕ) × (limit : ℕ) × IsPastLimit bytes number limit)
past_or_none bytes contents h None e = inl (record { contents = contents; has = h; none = e })
past_or_none bytes contents h (Some l) e = inr (l.number, l.limit, record { contents = contents; has = h; first = e })

pub file_laws : FileLaws
file_laws = record {
  one_instance = λ bytes a b h k. h.instance_is ∙ ap instance_of (one_file bytes h.contents k.contents h.has k.has) ∙ sym k.instance_is;
  one_kind = λ bytes kind other line other_line h k. ap (λ (f : Fault). f.kind) (one_fault bytes kind other line other_line h k);
  one_line = λ bytes kind other line other_line h k. ap (λ (f : Fault). f.line) (one_fault bytes kind other line other_line h k);
  not_both = λ bytes instance kind line h. apart bytes h.contents kind line h.has;
  either = λ bytes. either_of bytes (read_tours bytes) (tours_say bytes);
  within = λ bytes instance h k.
      subst IsWithinLimits (ap instance_of (one_file bytes k.contents h.contents k.has h.has) ∙ sym h.instance_is) (within bytes k.contents k.has k.none);
  one_past = λ bytes number other limit other_limit h k.
      let e = one_past bytes number other limit other_limit h k in
      (ap (λ (l : Limited). l.number) e, ap (λ (l : Limited). l.limit) e);
  none_past = none_past;
  past_or_none = λ bytes instance h. past_or_none bytes h.contents h.has (first_past (contents_limits h.contents)) refl;
  how_many = how_many;
  weights = weights-are;
}
