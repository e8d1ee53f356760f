use Rattle.std.proofs.Common.{◌≡◌, ℕ, suc, ◌+◌, ◌<◌, List, [], ◌∷◌, ◌++◌, length, drop, get_or, decimal, codes, refl, ap, sym, ◌∙◌, arith, append_assoc}
use Rattle.std.proofs.lemmas.List.{drop_more}
use Rattle.yew_lines.specs.Spelling.{line, count_text}
use Rattle.yew_semi.specs.CountText.{count_lines}
use Rattle.yew_semi.proofs.text.count_text.Goals as goal

-- four pieces that are appended one after another
pushed : (t a b c d r : List ℕ) → t ++ a ++ b ++ c ++ d ++ r ≡ t ++ (a ++ b ++ c ++ d ++ r)
pushed t a b c d r = simp append_assoc refl

-- the lines that are left, one further
lines-more : (k : ℕ) (sum : List ℕ) → k < length sum → count_lines k (drop k sum) ≡ line (decimal k ++ codes " " ++ count_text (get_or sum k 0)) ++ count_lines (k + 1) (drop (k + 1) sum)
lines-more k sum within =
    let next : suc k ≡ k + 1 = omega arith in
    ap (count_lines k) (drop_more sum k 0 within)
    ∙ ap (λ j. line (decimal k ++ codes " " ++ count_text (get_or sum k 0)) ++ count_lines j (drop (k + 1) sum)) next

pub loop-genus-preserved : goal.loop-genus-preserved
loop-genus-preserved c =
    let k = c.loop-genus.genus in
    let sum = c.args.sum.now in
    let rest = count_lines (k + 1) (drop (k + 1) sum) in
    let t = c.loop-genus.text.items in
    let n = decimal k in
    let v = count_text (get_or sum k 0) in
    let first : c.push_number.new.out.items ≡ t ++ n = c.in_ok-push_number.ensures in
    let second : c.push_text.new.out.items ≡ t ++ n ++ codes " " = c.in_ok-push_text.ensures ∙ ap (λ s. s ++ codes " ") first in
    let third : c.push_count.new.out.items ≡ t ++ n ++ codes " " ++ v = c.in_ok-push_count.ensures ∙ ap (λ s. s ++ v) second in
    let fourth : c.push_line_end.new.out.items ≡ t ++ n ++ codes " " ++ v ++ 10 ∷ [] = c.in_ok-push_line_end.ensures ∙ ap (λ s. s ++ 10 ∷ []) third in
    ap (λ s. s ++ rest) fourth
    ∙ pushed t n (codes " ") v (10 ∷ []) rest
    ∙ ap (λ s. t ++ s) (sym (lines-more k sum c.loop-genus-test.true))
    ∙ c.loop-genus.invariant
