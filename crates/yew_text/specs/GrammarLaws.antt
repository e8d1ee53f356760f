-- The laws of files that are lists of numbers.
use Rattle.std.specs.Prelude.{◌≡◌, ℕ, ◌⊎◌, List, []}
use Rattle.std.specs.List.{AllZip}
use Rattle.yew_text.specs.declared.text.TextKind.{TextKind}
use Rattle.yew_text.specs.Words.{TextWord}
use Rattle.yew_text.specs.Numbers.{IsNumber}
use Rattle.yew_text.specs.Grammar.{Shape, IsBounded, HasOffence, IsWhole, Says, read_from}

-- Words are one list of numbers at most. In a shape whose limits are within what a number may be they are whole or
-- have an offence, and not both; there is one offence at most; and the function on the words answers which.
pub record GrammarLaws : Type 0 where
  pub one_list : (words : List TextWord) (ns ms : List ℕ) → AllZip IsNumber words ns → AllZip IsNumber words ms → ns ≡ ms
  pub one_kind : (shape : Shape) (end : ℕ) (words : List TextWord) (kind other : TextKind) (line other_line : ℕ) → HasOffence shape end words kind line → HasOffence shape end words other other_line → kind ≡ other
  pub one_line : (shape : Shape) (end : ℕ) (words : List TextWord) (kind other : TextKind) (line other_line : ℕ) → HasOffence shape end words kind line → HasOffence shape end words other other_line → line ≡ other_line
  pub not_both : (shape : Shape) (end : ℕ) (words : List TextWord) (numbers : List ℕ) (kind : TextKind) (line : ℕ) → IsWhole shape words numbers → ¬ HasOffence shape end words kind line
  pub either : (shape : Shape) (end : ℕ) (words : List TextWord) → IsBounded shape → ((numbers : List ℕ) × IsWhole shape words numbers) ⊎ ((kind : TextKind) × (line : ℕ) × HasOffence shape end words kind line)
  pub reads : (shape : Shape) (end : ℕ) (words : List TextWord) → IsBounded shape → Says shape end words (read_from shape end [] words)
