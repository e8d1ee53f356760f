-- The lines of an audited text.
use Rattle.std.specs.Prelude.{◌≢◌, ℕ, ◌-◌, List, length, take, slice_index, ◌==◌, if◌then◌else◌}
use Rattle.std.specs.List.{AllByRecursion, slice_split}
use Rattle.yew_text.specs.Words.{is_newline}

-- a text without the line feed at its end, which may be missing
abbrev pub without_end : List ℕ → List ℕ
without_end bytes = if slice_index bytes (length bytes - 1) == 10 then take (length bytes - 1) bytes else bytes

-- the lines of a text, without their line feeds
abbrev pub text_lines : List ℕ → List (List ℕ)
text_lines bytes = slice_split is_newline (without_end bytes)

-- a line has no line feed within it
abbrev pub IsLineText : List ℕ → Type 0
IsLineText text = AllByRecursion (λ b. b ≢ 10) text
