-- The specification part of a tour file.
use Rattle.std.proofs.Common.{◌≡◌, ℕ, List, [], ◌∷◌, ◌++◌, codes, decimal, refl, sym, ap, ◌∙◌, append_assoc}
use Rattle.yew_lines.specs.Spelling.{line}
use Rattle.yew_make.specs.Tours.{tour_head}

regroup : (a d b c e f : List ℕ) → a ++ (d ++ b ++ c ++ e ++ f) ≡ a ++ (d ++ (b ++ (c ++ (e ++ f))))
regroup a d b c e f = simp append_assoc refl

-- in three pieces: what stands before the number of cities, the number, and the rest
pub tour_head-is : (size : ℕ) → tour_head size ≡ codes "NAME: made\nTYPE: TSP\nDIMENSION: " ++ (decimal size ++ codes "\nEDGE_WEIGHT_TYPE: EXPLICIT\nEDGE_WEIGHT_FORMAT: UPPER_ROW\nEDGE_WEIGHT_SECTION\n")
tour_head-is size = regroup (codes "NAME: made\nTYPE: TSP\nDIMENSION: ") (decimal size) (10 ∷ []) (line (codes "EDGE_WEIGHT_TYPE: EXPLICIT")) (line (codes "EDGE_WEIGHT_FORMAT: UPPER_ROW")) (line (codes "EDGE_WEIGHT_SECTION"))

pieces : (old a d b : List ℕ) → old ++ a ++ d ++ b ≡ old ++ (a ++ (d ++ b))
pieces old a d b = simp append_assoc refl

pub tour_head-pushed : (old one two three : List ℕ) (size : ℕ) → one ≡ old ++ codes "NAME: made\nTYPE: TSP\nDIMENSION: " → two ≡ one ++ decimal size → three ≡ two ++ codes "\nEDGE_WEIGHT_TYPE: EXPLICIT\nEDGE_WEIGHT_FORMAT: UPPER_ROW\nEDGE_WEIGHT_SECTION\n" → three ≡ old ++ tour_head size
tour_head-pushed old one two three size first second third =
    let rest = codes "\nEDGE_WEIGHT_TYPE: EXPLICIT\nEDGE_WEIGHT_FORMAT: UPPER_ROW\nEDGE_WEIGHT_SECTION\n" in
    third
    ∙ ap (λ (t : List ℕ). t ++ rest) (second ∙ ap (λ (t : List ℕ). t ++ decimal size) first)
    ∙ pieces old (codes "NAME: made\nTYPE: TSP\nDIMENSION: ") (decimal size) rest
    ∙ ap (λ (t : List ℕ). old ++ t) (sym (tour_head-is size))

-- and the text in three
pub tour_text-pushed : (old one two three lines : List ℕ) (size : ℕ) → one ≡ old ++ tour_head size → two ≡ one ++ lines → three ≡ two ++ line (codes "EOF") → three ≡ old ++ (tour_head size ++ (lines ++ line (codes "EOF")))
tour_text-pushed old one two three lines size first second third =
    third
    ∙ ap (λ (t : List ℕ). t ++ line (codes "EOF")) (second ∙ ap (λ (t : List ℕ). t ++ lines) first)
    ∙ pieces old (tour_head size) lines (line (codes "EOF"))
