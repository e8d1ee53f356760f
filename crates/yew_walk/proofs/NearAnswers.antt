-- The best visit of a covered tree is within the gap of the best node.
use Rattle.std.proofs.Common.{◌≡◌, ℕ, ◌⊎◌, List, ◌∙◌, Option, Some, None, refl, sym, ap, arith, inl, inr}
use Rattle.std.specs.Prelude.{IsNone, IfSome}
use Rattle.std.specs.List.{AllByRecursion, Contains}
use Rattle.std.proofs.lemmas.List.Elements.{All-contains, All-from_recursion}
use Rattle.std.proofs.lemmas.Option.{none-some}
use Rattle.yew_laws.specs.Cover.{Cover}
use Rattle.yew_laws.specs.Incumbent.{Incumbent}
use Rattle.yew_laws.specs.PathValue.{PathValue}
use Rattle.yew_laws.specs.SearchTree.{SearchTree, worth_at}
use Rattle.yew_laws.specs.Tree.{IsRanked, IsBounded}
use Rattle.yew_log.specs.Attained.{Attained, limit}
use Rattle.yew_log.specs.Notes.{Judgement, paths, values, maximum}
use Rattle.yew_walk.specs.Answers.{IsNear}
use Rattle.yew_walk.specs.Hands.{numbers_of}
use Rattle.yew_walk.proofs.BestFinds.{nothing, IsNamedBy, IsBestOf}
use Rattle.yew_walk.proofs.KeyOrder.{limit-most}
use Rattle.yew_walk.proofs.NearBest.{greatest-permitted, visited-greatest}

-- what holds of each member of a list holds of one of them
of-contained : {X : Type 0} (P : X → Type 0) (xs : List X) (x : X) → AllByRecursion P xs → Contains xs x → P x
of-contained P xs x a c = All-contains P xs x (All-from_recursion P xs a) c

module _ {N : Type 0} (t : SearchTree N) {sound : N → Type 0} (ranked : IsRanked sound t.children t.rank) (bounded : IsBounded sound t.children t.worth t.bound) (root_sound : sound t.root) (gap : ℕ) (visits cuts : List Judgement) (cover : Cover t (paths visits) (paths cuts)) (attained : Attained t gap visits cuts) where
  -- the best visit is within the gap of the best node
  pub best-near : (found : Incumbent) (path : Option PathValue) → IsBestOf visits found → numbers_of path ≡ found.path → IsNear t gap found.worth path
  best-near found path best path_is =
      let top = maximum (values visits) in
      let w : found.worth ≡ top = best.greatest in
      let permitted = greatest-permitted t ranked bounded root_sound gap visits cuts cover attained in
      let low = limit-most gap top in
      let high = visited-greatest t ranked bounded root_sound gap visits cuts cover attained in
      record {
        within = omega arith;
        none_greater = omega arith;
        no_answer = λ z. (let e : top ≡ 0 = sym w ∙ z in let l : limit gap top ≡ 0 = ap (limit gap) e in omega arith);
        absent = (λ h. unnamed path h path_is best.named, λ z. unless path path_is z best.named);
        has_worth = worth path path_is best.named;
      }
    where
      unnamed : (path : Option PathValue) → IsNone path → numbers_of path ≡ found.path
          → (found ≡ nothing) ⊎ ((v : Judgement) × IsNamedBy visits found v) → found.worth ≡ 0
      unnamed path h e (inl none) = ap (λ (i : Incumbent). i.worth) none
      unnamed None h e (inr named) = absurd (none-some named.0.path (e ∙ named.1.path_is))
      unnamed (Some p) h e (inr named) = absurd (cc)

      unless : (path : Option PathValue) → numbers_of path ≡ found.path → found.worth ≡ 0
          → (found ≡ nothing) ⊎ ((v : Judgement) × IsNamedBy visits found v) → IsNone path
      unless None e z named = refl
      unless (Some p) e z (inl none) = absurd (none-some p.numbers (sym (e ∙ ap (λ (i : Incumbent). i.path) none)))
      unless (Some p) e z (inr named) = absurd (let k = named.1.worth_is in let a = named.1.answers in omega arith)

      worth : (path : Option PathValue) → numbers_of path ≡ found.path → (found ≡ nothing) ⊎ ((v : Judgement) × IsNamedBy visits found v)
          → IfSome path (λ p. worth_at t p.numbers ≡ Some found.worth)
      worth None e named = tt
      worth (Some p) e (inl none) = absurd (none-some p.numbers (sym (e ∙ ap (λ (i : Incumbent). i.path) none)))
      worth (Some p) e (inr named) =
          let v = named.0 in
          let same : Some p.numbers ≡ Some v.path = e ∙ named.1.path_is in
          let is : p.numbers ≡ v.path = cc in
          ap (worth_at t) is ∙ (of-contained (λ (j : Judgement). worth_at t j.path ≡ Some j.value) visits v attained.worths named.1.there ∙ ap Some (sym named.1.worth_is))
