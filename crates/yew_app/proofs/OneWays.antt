-- The files of each job that searches are read to one instance or refused for one reason.
use Rattle.std.proofs.Common.{◌≡◌, ◌≤◌, ℕ, List, [], ◌∷◌, length, Option, inl, inr, ap, sym, subst, ◌∙◌, arith}
use Rattle.std.proofs.Props.{props}
use mathlib.Core.HLevel.{Σ_prop_path}
use Rattle.std.proofs.lemmas.Option.{same_Some}
use Rattle.yew_io.specs.Shelf.{File}
use Rattle.yew_flow.specs.Files as flow
use Rattle.yew_knap.specs.Files as knap
use Rattle.yew_lad.specs.Digraphs.{Digraph, GraphPair}
use Rattle.yew_lad.specs.Files as lad
use Rattle.yew_laws.specs.SearchTree.{SearchTree}
use Rattle.yew_semi.specs.declared.semigroups.Semigroups.{Semigroups}
use Rattle.yew_tsp.specs.declared.nodes.TourNode.{TourNode}
use Rattle.yew_tsp.specs.Files as tsp
use Rattle.yew_tsp.specs.Instance.{Instance}
use Rattle.yew_words.specs.declared.plan.Job.{Job}
use Rattle.yew_words.specs.declared.plan.Job.TheVariants as jobs
use Rattle.yew_words.specs.declared.plan.Made.TheVariants as made
use Rattle.yew_words.specs.Plans.{Planned}
use Rattle.yew_words.specs.Ranges.{file_count_of}
use Rattle.yew_words.specs.Word.{Word}
use Rattle.yew_app.specs.declared.knapsack.Goal.{Goal}
use Rattle.yew_app.specs.FlowShops.{IsGoodFlow, flow_meaning}
use Rattle.yew_app.specs.Jobs.{of_job}
use Rattle.yew_app.specs.Judging.{IsRead, IsRefusedFile}
use Rattle.yew_app.specs.Knapsacks.{IsGoodKnapsack, goal_of, knapsack_meaning}
use Rattle.yew_app.specs.Meanings.{Meaning, IsOneWay}
use Rattle.yew_app.specs.Refusals.{Reason}
use Rattle.yew_app.specs.Semigroups.{semigroups_meaning}
use Rattle.yew_app.specs.ShortestTours.{IsGoodTours, tours_meaning, tree_asked}
use Rattle.yew_app.specs.Subgraphs.{IsGoodGraph, ReadsPair, maps_meaning}
use Rattle.yew_app.proofs.FileKinds.{knapsack_laws, tour_laws, graph_laws, flow_laws}
use Rattle.yew_app.proofs.FileReasons.{one_reason_of_file, read_not_refused}

-- a file of a name says one value
one-read : {X : Type 0} (IsGood : List ℕ → X → Type 0) → ((bytes : List ℕ) (a b : X) → IsGood bytes a → IsGood bytes b → a ≡ b)
    → (told : List File) (name : Word) (a b : X) → IsRead IsGood told name a → IsRead IsGood told name b → a ≡ b
one-read IsGood one told name a b p q =
    let same : q.bytes ≡ p.bytes = same_Some q.bytes p.bytes (sym q.there ∙ p.there) in
    one p.bytes a b p.good (subst (λ (bytes : List ℕ). IsGood bytes b) same q.good)

knapsack-one_way : knap.FileLaws → (name : Word) (goal : Goal) → IsOneWay (knapsack_meaning name goal)
knapsack-one_way laws name goal = record {
  one_instance = λ told. one-read IsGoodKnapsack (λ bytes a b p q. laws.one_instance bytes a b p.0 q.0) told name;
  one_reason = λ told. one_reason_of_file IsGoodKnapsack knap.IsKnapsackOffence knap.IsPastLimit (knapsack_laws laws) told name;
  not_both = λ told. read_not_refused IsGoodKnapsack knap.IsKnapsackOffence knap.IsPastLimit (knapsack_laws laws) told name;
}

tours-one_way : tsp.FileLaws → (name : Word) (gap : Option ℕ) (tree : Instance → SearchTree TourNode) → IsOneWay (tours_meaning name gap tree)
tours-one_way laws name gap tree = record {
  one_instance = λ told. one-read IsGoodTours (λ bytes a b p q. laws.one_instance bytes a b p.is_file q.is_file) told name;
  one_reason = λ told. one_reason_of_file IsGoodTours tsp.IsTourOffence tsp.IsPastLimit (tour_laws laws) told name;
  not_both = λ told. read_not_refused IsGoodTours tsp.IsTourOffence tsp.IsPastLimit (tour_laws laws) told name;
}

flow-one_way : flow.FileLaws → (name : Word) (gap : Option ℕ) → IsOneWay (flow_meaning name gap)
flow-one_way laws name gap = record {
  one_instance = λ told. one-read IsGoodFlow (λ bytes a b p q. laws.one_instance bytes a b p.is_file q.is_file) told name;
  one_reason = λ told. one_reason_of_file IsGoodFlow flow.IsFlowOffence flow.IsPastLimit (flow_laws laws) told name;
  not_both = λ told. read_not_refused IsGoodFlow flow.IsFlowOffence flow.IsPastLimit (flow_laws laws) told name;
}

module _ (laws : lad.FileLaws) (pattern target : Word) where
  one-graph : (most : ℕ) (told : List File) (name : Word) (a b : Digraph) → IsRead (IsGoodGraph most) told name a → IsRead (IsGoodGraph most) told name b → a ≡ b
  one-graph most = one-read (IsGoodGraph most) (λ bytes a b p q. laws.one_graph bytes a b p.0 q.0)

  one-refusal : (most : ℕ) (told : List File) (name : Word) (a b : Reason) → IsRefusedFile lad.IsGraphOffence (lad.IsPastLimit most) told name a → IsRefusedFile lad.IsGraphOffence (lad.IsPastLimit most) told name b → a ≡ b
  one-refusal most = one_reason_of_file (IsGoodGraph most) lad.IsGraphOffence (lad.IsPastLimit most) (graph_laws most laws)

  never-both : (most : ℕ) (told : List File) (name : Word) (graph : Digraph) (reason : Reason) → IsRead (IsGoodGraph most) told name graph → IsRefusedFile lad.IsGraphOffence (lad.IsPastLimit most) told name reason → ⊥
  never-both most = read_not_refused (IsGoodGraph most) lad.IsGraphOffence (lad.IsPastLimit most) (graph_laws most laws)

  abbrev m : Meaning GraphPair (List ℕ)
  m = maps_meaning pattern target

  pair-one_instance : (told : List File) (a b : GraphPair) → ReadsPair told pattern target a → ReadsPair told pattern target b → a ≡ b
  pair-one_instance told a b p q =
      let same_pattern : a.pattern ≡ b.pattern = one-graph 64 told pattern a.pattern b.pattern p.pattern_read q.pattern_read in
      let same_target : a.target ≡ b.target = one-graph 1024 told target a.target b.target p.target_read q.target_read in
      ap (λ (x : Digraph). record { pattern = x; target = a.target }) same_pattern ∙ ap (λ (x : Digraph). record { pattern = b.pattern; target = x }) same_target

  pair-one_reason : (told : List File) (a b : Reason) → m.Refuses told a → m.Refuses told b → a ≡ b
  pair-one_reason told a b (inl p) (inl q) = one-refusal 64 told pattern a b p q
  pair-one_reason told a b (inr p) (inr q) = one-refusal 1024 told target a b p.1 q.1
  pair-one_reason told a b (inl p) (inr q) = absurd (never-both 64 told pattern q.0.0 a q.0.1 p)
  pair-one_reason told a b (inr p) (inl q) = absurd (never-both 64 told pattern p.0.0 b p.0.1 q)

  pair-not_both : (told : List File) (pair : GraphPair) (reason : Reason) → ReadsPair told pattern target pair → m.Refuses told reason → ⊥
  pair-not_both told pair reason reads (inl p) = never-both 64 told pattern pair.pattern reason reads.pattern_read p
  pair-not_both told pair reason reads (inr p) = never-both 1024 told target pair.target reason reads.target_read p.1

  maps-one_way : IsOneWay (maps_meaning pattern target)
  maps-one_way = record { one_instance = pair-one_instance; one_reason = pair-one_reason; not_both = pair-not_both }

few-prop : (genus : ℕ) → IsProp (genus ≤ 40)
few-prop genus = hlevel props

-- problems of one genus are one
same-genus : (a b : Semigroups) → a.genus ≡ b.genus → a ≡ b
same-genus a b e =
    let pairs : ◌≡◌ {A = (genus : ℕ) × (genus ≤ 40)} (a.genus, a.few) (b.genus, b.few) = Σ_prop_path few-prop e in
    ap (λ (p : (genus : ℕ) × (genus ≤ 40)). record { genus = p.0; few = p.1 }) pairs

semigroups-one_way : (genus : ℕ) → IsOneWay (semigroups_meaning genus)
semigroups-one_way genus = record {
  one_instance = λ told a b p q. same-genus a b (p ∙ sym q);
  one_reason = λ told a b p q. absurd p;
  not_both = λ told problem reason p q. q;
}

-- so are those of each job
pub job-one_way : knap.FileLaws → tsp.FileLaws → lad.FileLaws → flow.FileLaws → (job : Job) (names : List Word) (plan : Planned) → length names ≡ file_count_of job → of_job job names plan (λ kind. Unit {0}) (λ X N m. IsOneWay m)
job-one_way knap tsp lad flow jobs.Knapsack [] plan e = absurd (cc)
job-one_way knap tsp lad flow jobs.Knapsack (name ∷ []) plan e = knapsack-one_way knap name (goal_of plan.target plan.gap)
job-one_way knap tsp lad flow jobs.Knapsack (name ∷ second ∷ names) plan e = absurd (omega (arith, e))
job-one_way knap tsp lad flow jobs.Tsp [] plan e = absurd (cc)
job-one_way knap tsp lad flow jobs.Tsp (name ∷ []) plan e = tours-one_way tsp name plan.gap (tree_asked plan.near plan.span)
job-one_way knap tsp lad flow jobs.Tsp (name ∷ second ∷ names) plan e = absurd (omega (arith, e))
job-one_way knap tsp lad flow jobs.Subgraph [] plan e = absurd (cc)
job-one_way knap tsp lad flow jobs.Subgraph (name ∷ []) plan e = absurd (omega (arith, e))
job-one_way knap tsp lad flow jobs.Subgraph (pattern ∷ target ∷ []) plan e = maps-one_way lad pattern target
job-one_way knap tsp lad flow jobs.Subgraph (name ∷ second ∷ third ∷ names) plan e = absurd (omega (arith, e))
job-one_way knap tsp lad flow jobs.Semigroups [] plan e = semigroups-one_way plan.genus
job-one_way knap tsp lad flow jobs.Semigroups (name ∷ names) plan e = absurd (omega (arith, e))
job-one_way knap tsp lad flow jobs.Flow [] plan e = absurd (cc)
job-one_way knap tsp lad flow jobs.Flow (name ∷ []) plan e = flow-one_way flow name plan.gap
job-one_way knap tsp lad flow jobs.Flow (name ∷ second ∷ names) plan e = absurd (omega (arith, e))
job-one_way knap tsp lad flow (jobs.Make kind) [] plan e = tt
job-one_way knap tsp lad flow (jobs.Make made.Knapsack) (name ∷ names) plan e = absurd (omega (arith, e))
job-one_way knap tsp lad flow (jobs.Make made.Tsp) (name ∷ names) plan e = absurd (omega (arith, e))
job-one_way knap tsp lad flow (jobs.Make made.Lad) (name ∷ names) plan e = absurd (omega (arith, e))
