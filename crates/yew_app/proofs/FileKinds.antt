-- The kinds of files: what their laws say in the words that all kinds share.
use Rattle.std.proofs.Common.{◌≡◌, ℕ, List, Option, Some, None, refl, sym, ap, ◌∙◌, arith}
use Rattle.std.proofs.lemmas.Option.{same_Some}
use Rattle.yew_text.specs.declared.text.FileEnd.{FileEnd}
use Rattle.yew_text.specs.declared.text.FileEnd.TheVariants as ends
use Rattle.yew_text.specs.Grammar.{Limited, first_past}
use Rattle.yew_flow.specs.Files as flow
use Rattle.yew_knap.specs.Instance.{Instance}
use Rattle.yew_knap.specs.Files as knap
use Rattle.yew_lad.specs.Digraphs.{vertex_count}
use Rattle.yew_lad.specs.Files as lad
use Rattle.yew_tsp.specs.Files as tsp
use Rattle.yew_app.specs.FlowShops.{IsGoodFlow}
use Rattle.yew_app.specs.Knapsacks.{IsGoodKnapsack}
use Rattle.yew_app.specs.ShortestTours.{IsGoodTours}
use Rattle.yew_app.specs.Subgraphs.{IsGoodGraph}
use Rattle.yew_app.specs.Judging.{IsEndOf}
use Rattle.yew_app.proofs.FileReasons.{KindLaws}

-- the first number past its limit is one
same_first : (a b : Option Limited) (number other limit other_limit : ℕ) → a ≡ Some (record { number = number; limit = limit }) → b ≡ Some (record { number = other; limit = other_limit }) → a ≡ b → (number ≡ other) × (limit ≡ other_limit)
same_first a b number other limit other_limit p q e =
    let both = same_Some (record { number = number; limit = limit }) (record { number = other; limit = other_limit }) (sym p ∙ e ∙ q) in
    (ap (λ (l : Limited). l.number) both, ap (λ (l : Limited). l.limit) both)

not_none : (a : Option Limited) (number limit : ℕ) → a ≡ None → a ≡ Some (record { number = number; limit = limit }) → ⊥
not_none a number limit p q = let e = sym p ∙ q in cc

pub knapsack_laws : knap.FileLaws → KindLaws IsGoodKnapsack knap.IsKnapsackOffence knap.IsPastLimit
knapsack_laws laws = record {
  one_kind = laws.one_kind;
  one_line = laws.one_line;
  one_past = λ bytes number other limit other_limit p q.
      let same = laws.one_instance bytes p.instance q.instance p.is_file q.is_file in
      same_first (first_past (knap.instance_limits p.instance)) (first_past (knap.instance_limits q.instance)) number other limit other_limit p.first q.first (ap (λ (i : Instance). first_past (knap.instance_limits i)) same);
  good_no_offence = λ bytes value kind line good. laws.not_both bytes value kind line good.0;
  good_none_past = λ bytes value number limit good p.
      let same = laws.one_instance bytes p.instance value p.is_file good.0 in
      not_none (first_past (knap.instance_limits p.instance)) number limit (ap (λ (i : Instance). first_past (knap.instance_limits i)) same ∙ laws.none_past value good.1) p.first;
  past_no_offence = λ bytes number limit kind line p. laws.not_both bytes p.instance kind line p.is_file;
}

pub knapsack_end : (bytes : List ℕ) (end : FileEnd) → knap.EndsReading bytes end → IsEndOf knap.IsKnapsackOffence knap.IsPastLimit bytes end
knapsack_end bytes (ends.Refused fault) is = is
knapsack_end bytes (ends.TooLarge number limit) is = is
knapsack_end bytes ends.Memory is = is

pub tour_laws : tsp.FileLaws → KindLaws IsGoodTours tsp.IsTourOffence tsp.IsPastLimit
tour_laws laws = record {
  one_kind = laws.one_kind;
  one_line = laws.one_line;
  one_past = laws.one_past;
  good_no_offence = λ bytes value kind line good. laws.not_both bytes value kind line good.is_file;
  good_none_past = λ bytes value number limit good. laws.none_past bytes number limit good.none_past;
  past_no_offence = λ bytes number limit kind line p. laws.not_both bytes (tsp.instance_of p.contents) kind line (record { contents = p.contents; has = p.has; instance_is = refl });
}

pub tour_end : (bytes : List ℕ) (end : FileEnd) → tsp.EndsReading bytes end → IsEndOf tsp.IsTourOffence tsp.IsPastLimit bytes end
tour_end bytes (ends.Refused fault) is = is
tour_end bytes (ends.TooLarge number limit) is = is
tour_end bytes ends.Memory is = is

pub graph_laws : (most : ℕ) → lad.FileLaws → KindLaws (IsGoodGraph most) lad.IsGraphOffence (lad.IsPastLimit most)
graph_laws most laws = record {
  one_kind = laws.one_kind;
  one_line = laws.one_line;
  one_past = λ bytes number other limit other_limit p q.
      let same = laws.one_graph bytes p.graph q.graph p.is_file q.is_file in
      (p.number_is ∙ ap vertex_count same ∙ sym q.number_is, p.limit_is ∙ sym q.limit_is);
  good_no_offence = λ bytes value kind line good. laws.not_both bytes value kind line good.0;
  good_none_past = λ bytes value number limit good p.
      let same : vertex_count p.graph ≡ vertex_count value = ap vertex_count (laws.one_graph bytes p.graph value p.is_file good.0) in
      omega (arith, same, good.1, p.number_is, p.past);
  past_no_offence = λ bytes number limit kind line p. laws.not_both bytes p.graph kind line p.is_file;
}

pub graph_end : (most : ℕ) (bytes : List ℕ) (end : FileEnd) → lad.EndsReading most bytes end → IsEndOf lad.IsGraphOffence (lad.IsPastLimit most) bytes end
graph_end most bytes (ends.Refused fault) is = is
graph_end most bytes (ends.TooLarge number limit) is = is
graph_end most bytes ends.Memory is = is

pub flow_laws : flow.FileLaws → KindLaws IsGoodFlow flow.IsFlowOffence flow.IsPastLimit
flow_laws laws = record {
  one_kind = laws.one_kind;
  one_line = laws.one_line;
  one_past = laws.one_past;
  good_no_offence = λ bytes value kind line good. laws.not_both bytes value kind line good.is_file;
  good_none_past = λ bytes value number limit good. laws.none_past bytes number limit good.none_past;
  past_no_offence = λ bytes number limit kind line p. laws.not_both bytes p.instance kind line p.is_file;
}
