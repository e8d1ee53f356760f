-- Which cities a list of pairs joins, by labels; and which pair can be left out where another one is put in.
use Rattle.std.specs.Prelude.{◌≡◌, ◌≢◌, ℕ, ◌+◌, ◌==◌, List, [], ◌∷◌, ◌++◌, sum_by}
use Rattle.std.specs.List.{AllByRecursion}
use Rattle.std.proofs.Common.{cond, ap, sym, ◌∙◌, arith, inl, inr, ◌⊎◌}
use Rattle.std.proofs.lemmas.Bool.{cases_eq}
use Rattle.std.proofs.lemmas.Bool.Decides.{nat_tests}
use Rattle.std.proofs.lemmas.List.Sums.{sum_by-cons}
use Rattle.yew_laws.proofs.Members.{AllByRecursion-append, AllByRecursion-weaker}

-- labels that are the same at both cities of each pair
abbrev pub Agrees : (ℕ → ℕ) → List (ℕ × ℕ) → Type 0
Agrees label pairs = AllByRecursion (λ pair. label pair.0 ≡ label pair.1) pairs

-- each pair gives its first city's label that of its second
abbrev pub label_of : List (ℕ × ℕ) → ℕ → ℕ
label_of [] x = x
label_of (pair ∷ pairs) x = cond (label_of pairs x == label_of pairs pair.0) (label_of pairs pair.1) (label_of pairs x)

first_taken : (a b : ℕ) → cond (a == a) b a ≡ b
first_taken a b = grind (arith, nat_tests)

second_kept : (a b : ℕ) → cond (b == a) b b ≡ b
second_kept a b = grind (arith, nat_tests)

-- these labels are the same at both cities of each pair
pub labels-agree : (pairs : List (ℕ × ℕ)) → Agrees (label_of pairs) pairs
labels-agree [] = tt
labels-agree (pair ∷ pairs) = (
  first_taken (label_of pairs pair.0) (label_of pairs pair.1) ∙ sym (second_kept (label_of pairs pair.0) (label_of pairs pair.1)),
  AllByRecursion-weaker (λ q. label_of pairs q.0 ≡ label_of pairs q.1) (λ q. label_of (pair ∷ pairs) q.0 ≡ label_of (pair ∷ pairs) q.1)
      (λ q e. ap (λ k. cond (k == label_of pairs pair.0) (label_of pairs pair.1) k) e)
      pairs (labels-agree pairs),
)

-- what two labels are that one more pair makes the same
merged : (t u a b : ℕ) → cond (t == a) b t ≡ cond (u == a) b u → (t ≡ u) ⊎ (((t ≡ a) × (u ≡ b)) ⊎ ((u ≡ a) × (t ≡ b)))
merged t u a b e =
    elim (cases_eq t a) [
      | inl here ↦
          elim (cases_eq u a) [
            | inl also ↦ inl (here ∙ sym also)
            | inr apart ↦ inr (inl (here, one t u here apart e))
          ]
      | inr other ↦
          elim (cases_eq u a) [
            | inl also ↦ inr (inr (also, two t u other also e))
            | inr apart ↦ inl (three t u other apart e)
          ]
    ]
  where
    one : (x y : ℕ) → x ≡ a → y ≢ a → cond (x == a) b x ≡ cond (y == a) b y → y ≡ b
    one x y h k f = grind (arith, nat_tests)

    two : (x y : ℕ) → x ≢ a → y ≡ a → cond (x == a) b x ≡ cond (y == a) b y → x ≡ b
    two x y h k f = grind (arith, nat_tests)

    three : (x y : ℕ) → x ≢ a → y ≢ a → cond (x == a) b x ≡ cond (y == a) b y → x ≡ y
    three x y h k f = grind (arith, nat_tests)

-- no labels that agree are finer
pub labels-finest : (label : ℕ → ℕ) (pairs : List (ℕ × ℕ)) → Agrees label pairs → (x y : ℕ) → label_of pairs x ≡ label_of pairs y → label x ≡ label y
labels-finest label [] a x y e = ap label e
labels-finest label (pair ∷ pairs) a x y e =
    elim (merged (label_of pairs x) (label_of pairs y) (label_of pairs pair.0) (label_of pairs pair.1) e) [
      | inl same ↦ labels-finest label pairs a.1 x y same
      | inr (inl both) ↦ labels-finest label pairs a.1 x pair.0 both.0 ∙ a.0 ∙ sym (labels-finest label pairs a.1 y pair.1 both.1)
      | inr (inr both) ↦ labels-finest label pairs a.1 x pair.1 both.1 ∙ sym a.0 ∙ sym (labels-finest label pairs a.1 y pair.0 both.0)
    ]

-- A pair of a list that can be left out where t and u are joined otherwise: the other pairs, with those that are kept, still join
-- all that was joined.
pub record Exchange (P : (ℕ × ℕ) → Type 0) (weight : (ℕ × ℕ) → ℕ) (pairs kept : List (ℕ × ℕ)) (t u : ℕ) : Type 0 where
  pub out : ℕ × ℕ
  pub rest : List (ℕ × ℕ)
  pub out_is : P out
  pub rest_are : AllByRecursion P rest
  pub sum : sum_by weight pairs ≡ weight out + sum_by weight rest
  pub still : (label : ℕ → ℕ) → Agrees label rest → Agrees label kept → label t ≡ label u → Agrees label pairs

-- where the pairs and those that are kept join t and u, and the latter alone do not, such a pair is there
pub exchange : (P : (ℕ × ℕ) → Type 0) (weight : (ℕ × ℕ) → ℕ) (pairs kept : List (ℕ × ℕ)) (t u : ℕ) → AllByRecursion P pairs → label_of (pairs ++ kept) t ≡ label_of (pairs ++ kept) u → label_of kept t ≢ label_of kept u → Exchange P weight pairs kept t u
exchange P weight [] kept t u a e n = absurd (n e)
exchange P weight (pair ∷ pairs) kept t u a e n =
    elim (merged (label_of (pairs ++ kept) t) (label_of (pairs ++ kept) u) (label_of (pairs ++ kept) pair.0) (label_of (pairs ++ kept) pair.1) e) [
      | inl same ↦
          let r = exchange P weight pairs kept t u a.1 same n in
          record {
            out = r.out;
            rest = pair ∷ r.rest;
            out_is = r.out_is;
            rest_are = (a.0, r.rest_are);
            sum =
                let one = sum_by-cons weight pair pairs in let two = sum_by-cons weight pair r.rest in let three = r.sum in
                omega (arith, one, two, three);
            still = λ label rest keep joined. (rest.0, r.still label rest.1 keep joined);
          }
      | inr (inl both) ↦
          found (λ label rest joined. sym (labels-finest label (pairs ++ kept) rest t pair.0 both.0) ∙ joined ∙ labels-finest label (pairs ++ kept) rest u pair.1 both.1)
      | inr (inr both) ↦
          found (λ label rest joined. sym (labels-finest label (pairs ++ kept) rest u pair.0 both.0) ∙ sym joined ∙ labels-finest label (pairs ++ kept) rest t pair.1 both.1)
    ]
  where
    found : ((label : ℕ → ℕ) → Agrees label (pairs ++ kept) → label t ≡ label u → label pair.0 ≡ label pair.1) → Exchange P weight (pair ∷ pairs) kept t u
    found agrees = record {
      out = pair;
      rest = pairs;
      out_is = a.0;
      rest_are = a.1;
      sum = sum_by-cons weight pair pairs;
      still = λ label rest keep joined.
          (agrees label (AllByRecursion-append (λ q. label q.0 ≡ label q.1) pairs kept rest keep) joined, rest);
    }
