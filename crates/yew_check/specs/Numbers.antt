-- How a number of an audit is spelled.
use Rattle.std.specs.Prelude.{ℕ, Bool, false, not, ◌&&◌, List, [], ◌∷◌, ◌==◌}
use Rattle.std.specs.Char.{is_ascii_digit}
use Rattle.yew_text.specs.Numbers.{is_digits}

-- `0`, or a digit other than `0`, which is byte 48, and then any digits
abbrev pub is_spelled : List ℕ → Bool
is_spelled [] = false
is_spelled (b ∷ []) = is_ascii_digit b
is_spelled (b ∷ c ∷ bs) = not (b == 48) && is_digits (b ∷ c ∷ bs)
