-- What closing hands back.
use Rattle.std.proofs.Common.{◌≡◌, ℕ, ◌∙◌, List, [], ◌∷◌, length, map, drop, get_or, sym, refl, ap, subst, append-nil, arith}
use Rattle.std.specs.Prelude.{All, Option, Some, sum_by, Result, Ok, Err, OnOk, OnErr}
use Rattle.std.proofs.lemmas.List.Elements.{All-cons, All-head, All-nil, All-tail}
use Rattle.std.proofs.lemmas.List.Sums.{sum_by-append}
use Rattle.yew_laws.proofs.Bags.{sum_by-flat_map}
use Rattle.yew_pool.specs.Places.{PlaceView}
use Rattle.yew_pool.specs.Closing.{share_of, whole_of, weigh_put, weigh_took, IsApart, IsMerging, IsEmptied, IsPartEmptied}
use Rattle.yew_pool.specs.Passes.{PassView, PoolId, all_put, all_took, IsLeft, IsPartLeft}
use Rattle.yew_pool.specs.Ordering.{AreOrdering}

module _ {T Q : Type 0} where
  -- after the merge the owners have all shares
  pub whole_after : (pool : PoolId) (all : List (PassView T Q)) (owns later : List (PlaceView T Q)) (rows : List (List (PlaceView T Q)))
      → IsApart pool all owns rows → IsMerging owns rows [] later → share_of later ≡ whole_of later
  whole_after pool all owns later rows apart merged = let a = apart.shares in let b = merged.shares in let c = merged.wholes in omega (arith, a, b, c)

  told_same : (about : Option Q) (owns later : List (PlaceView T Q))
      → map (λ (o : PlaceView T Q). o.hand.members) later ≡ map (λ (o : PlaceView T Q). o.hand.members) owns
      → All (λ (o : PlaceView T Q). o.hand.members ≡ about) owns
      → All (λ (o : PlaceView T Q). o.hand.members ≡ about) later
  told_same about [] [] e a = a
  told_same about [] (o ∷ os) e a = absurd (let l = ap (λ (xs : List (Option Q)). length xs) e in omega arith)
  told_same about (p ∷ ps) [] e a = λ k d below. absurd (omega arith)
  told_same about (p ∷ ps) (o ∷ os) e a =
      All-cons (λ (t : PlaceView T Q). t.hand.members ≡ about) o os
      (ap (λ (xs : List (Option Q)). get_or xs 0 p.hand.members) e ∙ All-head (λ (t : PlaceView T Q). t.hand.members ≡ about) p ps a)
      (told_same about ps os (ap (λ (xs : List (Option Q)). drop 1 xs) e) (All-tail (λ (t : PlaceView T Q). t.hand.members ≡ about) p ps a))

  module _ (sound : Q → T → Type 0) (pool : PoolId) (count at : ℕ) (all now : List (PassView T Q)) (owns later : List (PlaceView T Q))
      (rows : List (List (PlaceView T Q))) (before after : List T) where
    told_all : AreOrdering pool count all now at → IsApart pool now owns rows → IsMerging owns rows [] later → (about : Option Q)
        → All (λ (p : PassView T Q). p.members ≡ about) all → All (λ (o : PlaceView T Q). o.hand.members ≡ about) later
    told_all ordered apart merged about a = told_same about owns later merged.members (apart.told about (ordered.told about a))

    weighed_put : AreOrdering pool count all now at → IsApart pool now owns rows → IsMerging owns rows [] later → (h : T → ℕ)
        → weigh_put h later ≡ sum_by h (all_put all)
    weighed_put ordered apart merged h =
        let a = apart.put h in let b = merged.put h in let c = ordered.bag.weighs (λ p. sum_by h p.put) in
        let d = sum_by-flat_map h (λ (p : PassView T Q). p.put) all in omega (arith, a, b, c, d)

    weighed_took : AreOrdering pool count all now at → IsApart pool now owns rows → IsMerging owns rows [] later → (h : T → ℕ)
        → weigh_took h later ≡ sum_by h (all_took all)
    weighed_took ordered apart merged h =
        let a = apart.took h in let b = merged.took h in let c = ordered.bag.weighs (λ p. sum_by h p.took) in
        let d = sum_by-flat_map h (λ (p : PassView T Q). p.took) all in omega (arith, a, b, c, d)

    pub left_all : AreOrdering pool count all now at → IsApart pool now owns rows → IsMerging owns rows [] later → IsEmptied sound later before after
        → IsLeft sound all before after
    left_all ordered apart merged is = record {
      rest = is.tasks;
      appended = is.appended;
      bag = record {
        weighs = λ h. (
            let a = weighed_put ordered apart merged h in let b = weighed_took ordered apart merged h in let c = is.bag h in
            let d = sum_by-append h (all_took all) is.tasks in omega (arith, a, b, c, d));
      };
      sound_rest = λ members a. is.sound_tasks members (told_all ordered apart merged (Some members) a);
    }

    pub left_part : AreOrdering pool count all now at → IsApart pool now owns rows → IsMerging owns rows [] later → IsPartEmptied sound later before after
        → IsPartLeft sound all before after
    left_part ordered apart merged is = record {
      rest = is.tasks;
      appended = is.appended;
      part = record {
        weighs = λ h. (
            let a = weighed_put ordered apart merged h in let b = weighed_took ordered apart merged h in let c = is.part h in
            let d = sum_by-append h (all_took all) is.tasks in omega (arith, a, b, c, d));
      };
      sound_rest = λ members a. is.sound_tasks members (told_all ordered apart merged (Some members) a);
    }

  -- there are no passes
  pub left_none : (sound : Q → T → Type 0) (all : List (PassView T Q)) (before : List T) → all ≡ [] → IsLeft sound all before before
  left_none sound all before none = subst (λ (l : List (PassView T Q)). IsLeft sound l before before) (sym none) record {
    rest = [];
    appended = sym (append-nil before);
    bag = record { weighs = λ h. refl };
    sound_rest = λ members a. All-nil (sound members);
  }

pub on_ok : {X E A B : Type 0} (r : Result X E) → (A → B) → OnOk r A → OnOk r B
on_ok (Ok x) f a = f a
on_ok (Err e) f a = tt

pub on_err : {X E A B : Type 0} (r : Result X E) → (A → B) → OnErr r A → OnErr r B
on_err (Ok x) f a = tt
on_err (Err e) f a = f a

pub no_length : {X : Type 0} (xs : List X) → length xs ≡ 0 → xs ≡ []
no_length [] none = refl
no_length (x ∷ xs) none = absurd (omega arith)
