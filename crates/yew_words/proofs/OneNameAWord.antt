-- A word names one thing at most.
use Rattle.std.proofs.Common.{◌≡◌, ◌≢◌, Bool, true, false, cond, List, [], ◌∷◌, Option, Some, None, refl, sym, ap, subst, ◌∙◌, inl, inr}
use Rattle.std.specs.Prelude.{bytes_eq}
use Rattle.std.proofs.lemmas.Bool.{cases_Bool, both_ways}
use Rattle.std.proofs.lemmas.Slice.Eq.{bytes_eq-Decides}
use Rattle.std.proofs.lemmas.Option.{none-some}
use Rattle.yew_words.specs.declared.plan.Made.{Made}
use Rattle.yew_words.specs.declared.plan.Made.TheVariants as made
use Rattle.yew_words.specs.Word.{Word}
use Rattle.yew_words.specs.declared.table.Problem.{Problem}
use Rattle.yew_words.specs.declared.table.Coordination.{Coordination}
use Rattle.yew_words.specs.declared.table.OptionName.{OptionName}
use Rattle.yew_words.specs.declared.table.Problem.TheVariants as problems
use Rattle.yew_words.specs.declared.table.Coordination.TheVariants as coordinations
use Rattle.yew_words.specs.declared.table.OptionName.TheVariants as options
use Rattle.yew_words.specs.Table.{problem_word, coordination_word, made_word, option_word}
use Rattle.yew_words.specs.Table.{named, every_problem, every_coordination, every_made, every_option}

pub same_word : (v w : Word) → bytes_eq v w ≡ true → v ≡ w
same_word v w e = (bytes_eq-Decides v w).0 e

pub own_word : (w : Word) → bytes_eq w w ≡ true
own_word w = (bytes_eq-Decides w w).1 refl

pub other_word : (v w : Word) → bytes_eq v w ≡ false → v ≢ w
other_word v w e h = both_ways (bytes_eq v w) e ((bytes_eq-Decides v w).1 h)

-- what differs has another word
pub differs : (v w : Word) → v ≢ w → bytes_eq v w ≡ false
differs v w h = elim (cases_Bool (bytes_eq v w)) [ inl e ↦ absurd (h (same_word v w e)) | inr e ↦ e ]

pub named_is : {A : Type 0} (word_of : A → Word) (xs : List A) (w : Word) (a : A) → named word_of xs w ≡ Some a → w ≡ word_of a
named_is word_of [] w a e = absurd (none-some a e)
named_is word_of (x ∷ xs) w a e =
    elim (cases_Bool (bytes_eq (word_of x) w)) [
      | inl h ↦ let k : x ≡ a = let f = subst (λ (b : Bool). cond b (Some x) (named word_of xs w) ≡ Some a) h e in cc in sym (same_word (word_of x) w h)
          ∙ ap word_of k
      | inr h ↦ named_is word_of xs w a (subst (λ (b : Bool). cond b (Some x) (named word_of xs w) ≡ Some a) h e)
    ]

-- a word that names none of them is the word of none that has a name
pub named_none : {A : Type 0} (word_of : A → Word) (xs : List A) (w : Word) (a : A) → named word_of xs (word_of a) ≡ Some a → named word_of xs w ≡ None
    → w ≢ word_of a
named_none word_of xs w a own e h = none-some a (sym e ∙ ap (named word_of xs) h ∙ own)

pub named_problem : (p : Problem) → named problem_word every_problem (problem_word p) ≡ Some p
named_problem problems.Knapsack = refl
named_problem _ = refl

pub named_coordination : (c : Coordination) → named coordination_word every_coordination (coordination_word c) ≡ Some c
named_coordination coordinations.Sequential = refl
named_coordination _ = refl

pub named_made : (m : Made) → named made_word every_made (made_word m) ≡ Some m
named_made made.Knapsack = refl
named_made _ = refl

pub named_option : (o : OptionName) → named option_word every_option (option_word o) ≡ Some o
named_option options.Workers = refl
named_option _ = refl

-- so two options of one word are one
pub same_name : (a b : OptionName) → option_word a ≡ option_word b → a ≡ b
same_name a b e = let f : Some a ≡ Some b = sym (named_option a) ∙ ap (λ (w : Word). named option_word every_option w) e ∙ named_option b in cc

-- where no name is found the word is the word of none of them
pub unnamed : {A : Type 0} (word_of : A → Word) (xs : List A) (w : Word) → ((a : A) → named word_of xs (word_of a) ≡ Some a) → ((a : A) → w ≢ word_of a)
    → named word_of xs w ≡ None
unnamed {A = A} word_of xs w own h = none_of (named word_of xs w) (λ a e. h a (named_is word_of xs w a e))
  where
    none_of : (o : Option A) → ((a : A) → o ≢ Some a) → o ≡ None
    none_of None k = refl
    none_of (Some a) k = absurd (k a refl)
