-- What the last word says of the seat that has the whole share.
use Rattle.std.proofs.Common.{◌≡◌, ℕ, ◌⊎◌, ◌∙◌, List, [], ◌∷◌, sym, ap, subst, inl, inr, ⊎_elim, slice_index, zero, suc}
use Rattle.std.specs.Prelude.{Contains}
use mathlib.Core.Option.{some, some-injective, some-ne-none}
use lib.ListN.{get_elem?}
use Rattle.atomic_table.specs.Table.{State, Final, Seen}
use Rattle.yew_best.specs.declared.view.View.{View}
use Rattle.yew_best.specs.Rule.{IsOffered, IsOfferedElse, Keeps, Closes}
use Rattle.yew_best.proofs.Growth.{All-weaken, none_else, all_offered}

index_is : (words : List ℕ) (i n : ℕ) → get_elem? words i ≡ some n → slice_index words i ≡ n
index_is [] i n e = absurd (some-ne-none n (sym e))
index_is (x ∷ xs) zero n e = some-injective x n e
index_is (x ∷ xs) (suc i) n e = index_is xs i n e

pub closes : {S : Type 0} (seats seat word : ℕ) (v : View) (words : List ℕ) (slots : List S) → v.share ≡ seats
    → Final (Seen (λ (s : State S View). Keeps seats s.words s.views) seat v) words slots → get_elem? words 16 ≡ some word → Closes v word
closes seats seat word v words slots whole last at =
    let s = last.0 in let is = last.1.0.best in let there = last.1.1 in let n = slice_index s.words 16 in
    let is_word : n ≡ word = ap (λ (l : List ℕ). slice_index l 16) last.2 ∙ index_is words 16 word at in
    let fits = is.each seat v there in
    let all : (x : ℕ) → IsOffered s.views x → Contains v.offered x = all_offered seats n s.views seat v is there whole in
    subst (λ (m : ℕ). Closes v m) is_word record {
      read_below = fits.read_below;
      offered_below = fits.offered_below;
      cause = ⊎_elim inl (λ o. inr (all _ o)) is.word_cause;
      read_cause = All-weaken (λ x. (x ≡ 0) ⊎ IsOffered s.views x) (λ x. (x ≡ 0) ⊎ Contains v.offered x) v.read (λ x h. ⊎_elim inl (λ o. inr (all x o)) h) fits.read_cause;
      heard_cause = All-weaken (λ x. (x ≡ 0) ⊎ IsOfferedElse s.views seat x) (λ x. x ≡ 0) v.heard (λ x h. ⊎_elim (λ e. e) (λ o. absurd (none_else seats n s.views seat v is there whole x o)) h) fits.heard_cause;
    }
