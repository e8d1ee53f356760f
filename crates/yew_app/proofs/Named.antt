-- The names of a plan's files: one, or none.
use Rattle.std.proofs.Common.{◌≡◌, ℕ, List, [], ◌∷◌, length, get_or, refl, sym, ap, arith}
use Rattle.std.specs.Prelude.{String, string_bytes}
use Rattle.std.specs.declared.alloc.Global.{Global}
use Rattle.yew_words.specs.Word.{texts}

-- a list of no words
pub no_text : (xs : List (List ℕ)) → length xs ≡ 0 → xs ≡ []
no_text [] none = refl
no_text (y ∷ ys) none = absurd (omega arith)

-- the words of a list of one text
pub one_text : (xs : List (String Global)) (x : String Global) → length xs ≡ 1 → x ≡ get_or xs 0 x → texts xs ≡ string_bytes x ∷ []
one_text [] x one is = absurd (omega arith)
one_text (y ∷ []) x one is = ap (λ (z : String Global). string_bytes z ∷ []) (sym is)
one_text (y ∷ z ∷ zs) x one is = absurd (omega arith)
