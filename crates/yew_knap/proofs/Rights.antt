-- Which texts are right answers.
use Rattle.std.proofs.Common.{◌≡◌, ℕ, ◌+◌, ◌-◌, ◌≤◌, ◌⊎◌, ◌∙◌, List, ap, subst, inl, inr, arith}
use Rattle.std.proofs.Common.{Bor, Option, Some, None, MatchOption, refl}
use Rattle.std.specs.Option.{ForSome}
use Rattle.std.proofs.lemmas.Bool.{cases_lt}
use Rattle.yew_laws.specs.Greatest.{greatest, Reach}
use Rattle.yew_knap.specs.declared.nodes.KnapNode.{KnapNode}
use Rattle.yew_knap.specs.Answers.{knapsack_tree}
use Rattle.yew_knap.specs.Instance.{Instance, IsWithinLimits}
use Rattle.yew_knap.specs.Nodes.{chosen_of, worth_of, IsNode}
use Rattle.yew_knap.specs.Packings.{profit_of, IsBestProfit}
use Rattle.yew_knap.specs.Texts.{best_lines, near_lines, yes_lines, no_line, IsBestText, IsNearText, IsYesText, IsNoText}
use Rattle.yew_knap.proofs.Counts.{node-packed}
use Rattle.yew_knap.proofs.Packs.{tree-packs}

module _ (instance : Instance) (limits : IsWithinLimits instance) where
  pub best-right : (node : KnapNode) → IsNode instance node → (worth : ℕ) → worth ≡ worth_of instance node → (text : List ℕ) → text ≡ best_lines (worth - 1) (chosen_of instance node) → worth ≡ greatest (knapsack_tree instance) → IsBestText instance text
  best-right node sound worth is text text_is most =
      let packed = node-packed instance node sound in
      let w = packed.worth in
      let profit : greatest (knapsack_tree instance) - 1 ≡ profit_of instance (chosen_of instance node) = omega (arith, w, is, most) in
      let own : worth - 1 ≡ profit_of instance (chosen_of instance node) = omega (arith, w, is) in
      record {
        chosen = chosen_of instance node;
        packs = packed.packs;
        is_best = subst (IsBestProfit instance) profit (tree-packs instance limits).best;
        text_is = text_is ∙ ap (λ p. best_lines p (chosen_of instance node)) own;
      }

  pub near-right : (node : KnapNode) → IsNode instance node → (worth gap : ℕ) → worth ≡ worth_of instance node → (text : List ℕ)
      → text ≡ near_lines (worth - 1) gap (chosen_of instance node) → greatest (knapsack_tree instance) ≤ worth + gap → IsNearText instance gap text
  near-right node sound worth gap is text text_is near =
      let packed = node-packed instance node sound in
      let w = packed.worth in
      let own : worth - 1 ≡ profit_of instance (chosen_of instance node) = omega (arith, w, is) in
      record {
        chosen = chosen_of instance node;
        packs = packed.packs;
        best = greatest (knapsack_tree instance) - 1;
        is_best = (tree-packs instance limits).best;
        within = omega (arith, w, is, near);
        text_is = text_is ∙ ap (λ p. near_lines p gap (chosen_of instance node)) own;
      }

  pub yes-right : (node : KnapNode) → IsNode instance node → (target : ℕ) → target + 1 ≤ worth_of instance node → (text : List ℕ) → text ≡ yes_lines (chosen_of instance node) → IsYesText instance target text
  yes-right node sound target meets text text_is =
      let packed = node-packed instance node sound in
      let w = packed.worth in
      record { chosen = chosen_of instance node; packs = packed.packs; meets = omega (arith, w, meets); text_is = text_is }

  pub no-right : (target : ℕ) → ¬ Reach (knapsack_tree instance) (target + 1) → (text : List ℕ) → text ≡ no_line → IsNoText instance target text
  no-right target none text text_is =
      let packs = tree-packs instance limits in
      let best = packs.best in
      record {
        best = greatest (knapsack_tree instance) - 1;
        is_best = best;
        below =
            elim (cases_lt (greatest (knapsack_tree instance) - 1) target) [
              | inl less ↦ less
              | inr met ↦ absurd (none ((packs.reach target).1 (record { chosen = best.one; packs = best.passes; meets = let e = best.attains in omega (arith, e, met) })))
            ];
        text_is = text_is;
      }

  pub decision-right : (node : Option (Bor KnapNode)) (text : List ℕ) → ForSome node (λ n. IsNode instance n.now) → MatchOption node (text ≡ no_line) (λ n. text ≡ yes_lines (chosen_of instance n.now)) → (target : ℕ) → MatchOption node (¬ Reach (knapsack_tree instance) (target + 1)) (λ n. target + 1 ≤ worth_of instance n.now) → IsYesText instance target text ⊎ IsNoText instance target text
  decision-right None text sound is target none = inr (no-right target none text is)
  decision-right (Some n) text sound is target meets = inl (yes-right n.now (sound n refl) target meets text is)
