-- The text of a problem is a file of the second form, with that problem.
use Rattle.std.proofs.Common.{◌≡◌, ℕ, ◌+◌, ◌≤◌, ◌∙◌, List, [], ◌∷◌, ◌++◌, length, map, refl, sym, ap, subst, arith}
use Rattle.std.specs.Prelude.{codes}
use Rattle.std.specs.List.{AllZip, AllByRecursion}
use Rattle.std.proofs.lemmas.List.Folds.{flat_map-map}
use Rattle.std.proofs.lemmas.List.Sums.{sum_by-cons}
use Rattle.yew_text.specs.Words.{TextWord, words_from}
use Rattle.yew_text.specs.Numbers.{IsNumber}
use Rattle.yew_text.proofs.Splitting.{word_laws}
use Rattle.yew_lines.specs.Spelling.{line}
use Rattle.yew_knap.specs.declared.form.Form.TheVariants.{Triples}
use Rattle.yew_knap.specs.declared.knapsack.Item.{Item}
use Rattle.yew_knap.specs.Files.{item_numbers, instance_numbers, form_of, IsOfForm, IsBody, IsFileOf, IsKnapsackFile}
use Rattle.yew_knap.specs.Instance.{Instance, IsSmallItem, IsWithinLimits, copies_in}
use Rattle.yew_knap.specs.Lists.{AllByRecursion-all}
use Rattle.yew_knap.specs.Rows.{row_lines, row_numbers}
use Rattle.yew_knap.specs.Texts.{triples_rows, triples_text}
use Rattle.yew_knap.proofs.NumberWords.{AllFit, rows-words}

items-fit : (items : List Item) → AllByRecursion IsSmallItem items → copies_in items ≤ 256 → AllByRecursion AllFit (map (item_numbers Triples) items)
items-fit [] small few = tt
items-fit (item ∷ items) small few =
    let cons = sum_by-cons (λ (i : Item). i.copies) item items in
    let profit = small.0.0 in
    let weight = small.0.1 in
    ((omega (arith, profit), (omega (arith, weight), (omega (arith, cons, few), tt))), items-fit items small.1 (omega (arith, cons, few)))

rows-fit : (instance : Instance) → IsWithinLimits instance → AllByRecursion AllFit (triples_rows instance)
rows-fit instance limits =
    let few = limits.few in
    let light = limits.light in
    ((omega (arith, few), (omega (arith, light), tt)), items-fit instance.items limits.small limits.few_copies)

name : TextWord
name = record { text = codes "knapsack"; line = 1 }

form : TextWord
form = record { text = codes "2"; line = 1 }

-- the words of the first line, and those of the rows behind it
words-are : (rows : List ℕ) → words_from 1 (line (codes "knapsack 2") ++ rows) ≡ name ∷ form ∷ words_from (1 + 1) rows
unfolding name form
words-are rows =
    word_laws.word 1 107 (codes "napsack") (32 ∷ 50 ∷ 10 ∷ rows) (refl, (refl, (refl, (refl, (refl, (refl, (refl, (refl, tt)))))))) refl
    ∙ ap (λ (ws : List TextWord). record { text = codes "knapsack"; line = 1 } ∷ ws)
    (word_laws.white 1 32 (50 ∷ 10 ∷ rows) refl refl
    ∙ word_laws.word 1 50 [] (10 ∷ rows) (refl, tt) refl
    ∙ ap (λ (ws : List TextWord). record { text = codes "2"; line = 1 } ∷ ws) (word_laws.newline 1 rows))

form-is : IsNumber form 2
unfolding form
form-is = record { digits = refl; value = refl; fits = omega arith }

pub triples-file : (instance : Instance) → IsWithinLimits instance → IsKnapsackFile (triples_text instance) instance
unfolding name form
triples-file instance limits =
    let numbers : row_numbers (triples_rows instance) ≡ instance_numbers Triples instance = ap (λ (ns : List ℕ). length instance.items ∷ instance.capacity ∷ ns) (flat_map-map (λ (row : List ℕ). row) (item_numbers Triples) instance.items) in
    let body : IsBody Triples (words_from (1 + 1) (row_lines (triples_rows instance))) instance = record {
      numbers = subst (λ (ns : List ℕ). AllZip IsNumber (words_from (1 + 1) (row_lines (triples_rows instance))) ns) numbers (rows-words (triples_rows instance) (1 + 1) (rows-fit instance limits));
      of_form = AllByRecursion-all (IsOfForm Triples) (λ item. tt) instance.items;
    }
    in
    let whole : IsFileOf (form_of (name ∷ form ∷ words_from (1 + 1) (row_lines (triples_rows instance)))) (name ∷ form ∷ words_from (1 + 1) (row_lines (triples_rows instance))) instance = (form-is, body) in
    subst (λ ws. IsFileOf (form_of ws) ws instance) (sym (words-are (row_lines (triples_rows instance)))) whole
