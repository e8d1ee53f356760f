-- Tasks go into the pool one after another, and some are still to go.
use Rattle.std.proofs.Common.{◌≡◌, ℕ, ◌+◌, ◌∙◌, List, [], ◌∷◌, ◌++◌, length, refl, sym, ap, subst, append-nil, append_assoc, arith}
use Rattle.std.specs.List.{AllByRecursion, sum_by}
use Rattle.std.specs.List.Sorted.{IsPermutation}
use Rattle.std.specs.Prelude.{reverse, Option, Some}
use Rattle.std.proofs.lemmas.List.{reverse-append}
use Rattle.std.proofs.lemmas.List.Sums.{sum_by-append, sum_by-cons}
use Rattle.yew_laws.specs.Bag.{SameBag}
use Rattle.yew_laws.proofs.Bags.{same-permutation, same-sym}
use Rattle.yew_laws.proofs.Members.{AllByRecursion-append}
use Rattle.yew_pool.specs.Passes.{PassView}
use Rattle.yew_pool.specs.Tasks.{IsSoundFor}
use Rattle.yew_laws.specs.Tasks.{Members}
use Rattle.yew_laws.specs.declared.problem.Task.{Task}
use Rattle.yew_walk.specs.Outlets.{IsSentPart}
use Rattle.yew_crew.specs.OpenSeats.{OpenSeatView}
use Rattle.yew_crew.specs.Outlets.{SpawningView, IsLaterSpawning}

pub AllByRecursion-reverse : {T : Type 0} (P : T → Type 0) (xs : List T) → AllByRecursion P xs → AllByRecursion P (reverse xs)
AllByRecursion-reverse P [] a = a
AllByRecursion-reverse P (x ∷ xs) a =
    subst (AllByRecursion P) (sym (reverse-append (x ∷ []) xs)) (AllByRecursion-append P (reverse xs) (x ∷ []) (AllByRecursion-reverse P xs a.1) (a.0, tt))

AllByRecursion-front : {T : Type 0} (P : T → Type 0) (xs ys : List T) → AllByRecursion P (xs ++ ys) → AllByRecursion P xs × AllByRecursion P ys
AllByRecursion-front P [] ys a = (tt, a)
AllByRecursion-front P (x ∷ xs) ys a = let r = AllByRecursion-front P xs ys a.1 in ((a.0, r.0), r.1)

module _ {T : Type 0} (P : T → Type 0) where
  -- of these tasks some were put behind those before, and the rest is still to go
  pub record IsPutting (before all rest now : List T) : Type 0 where
    pub done : List T
    pub now_is : now ≡ before ++ done
    pub bag : SameBag (done ++ rest) all
    pub each_done : AllByRecursion P done
    pub each_rest : AllByRecursion P rest

  pub put_begins : (before all rest : List T) → AllByRecursion P all → IsPermutation all rest → rest ≡ reverse all → IsPutting before all rest before
  put_begins before all rest a p is = record {
    done = [];
    now_is = sym (append-nil before);
    bag = same-sym (same-permutation all rest p);
    each_done = tt;
    each_rest = subst (AllByRecursion P) (sym is) (AllByRecursion-reverse P all a);
  }

  -- the last of the rest is one of the tasks
  pub put_last : (before all rest now less : List T) (task : T) → IsPutting before all rest now → rest ≡ less ++ task ∷ [] → P task
  put_last before all rest now less task p is = (AllByRecursion-front P less (task ∷ []) (subst (AllByRecursion P) is p.each_rest)).1.0

  pub put_more : (before all rest now less : List T) (task : T) → IsPutting before all rest now → rest ≡ less ++ task ∷ [] → IsPutting before all less (now ++ task ∷ [])
  put_more before all rest now less task p is =
      let parts = AllByRecursion-front P less (task ∷ []) (subst (AllByRecursion P) is p.each_rest) in record {
        done = p.done ++ task ∷ [];
        now_is = ap (λ l. l ++ task ∷ []) p.now_is ∙ append_assoc before p.done (task ∷ []);
        bag = record {
          weighs = λ w. (
              let e = p.bag.weighs w in let f = sum_by-append w p.done rest in let g = ap (λ l. sum_by w l) is in let h = sum_by-append w less (task ∷ []) in
              let i = sum_by-append w (p.done ++ task ∷ []) less in let j = sum_by-append w p.done (task ∷ []) in omega arith);
        };
        each_done = AllByRecursion-append P p.done (task ∷ []) p.each_done parts.1;
        each_rest = parts.0;
      }

  -- at the end all are there
  pub put_ends : (before all rest now : List T) → IsPutting before all rest now → rest ≡ [] → SameBag now (before ++ all)
  put_ends before all rest now p none = record {
    weighs = λ w. (
        let e = p.bag.weighs w in let f = sum_by-append w p.done rest in let g = ap (λ l. sum_by w l) none in let h = ap (λ l. sum_by w l) p.now_is in
        let i = sum_by-append w before p.done in let j = sum_by-append w before all in omega arith);
  }

  -- where one was refused, a part of them is there
  pub put_part : (before all rest now : List T) → IsPutting before all rest now → IsSentPart P before all now
  put_part before all rest now p = record {
    part = p.done;
    of_tasks = record { weighs = λ w. (let e = p.bag.weighs w in let f = sum_by-append w p.done rest in omega arith) };
    each = p.each_done;
    sent_are = record { weighs = λ w. ap (λ l. sum_by w l) p.now_is };
  }

-- what is among the members that a pass knows is sound for it
pub sound_for : {T Q : Type 0} (P : Q → T → Type 0) (about : Option Q) (members : Q) (task : T) → about ≡ Some members → P members task → IsSoundFor P about task
sound_for P about members task is sound other other_is = let same : members ≡ other = cc in subst (λ q. P q task) same sound

module _ {T Q : Type 0} where
  -- a pass of which only the list put changes
  pub same_pass : (first now next : PassView T Q) (put : List T) → now ≡ record first { put = now.put } → next ≡ record now { put = put } → next ≡ record first { put = next.put }
  same_pass first now next put a b = b ∙ ap (λ (p : PassView T Q). record p { put = put }) a ∙ ap (λ l. record first { put = l }) (sym (ap (λ (p : PassView T Q). p.put) b))

  module _ (P : T → Type 0) where
    -- the pass after one more task was put
    pub pass_more : (before all rest less : List T) (now next : PassView T Q) (task : T) → IsPutting P before all rest now.put → rest ≡ less ++ task ∷ [] → next ≡ record now { put = now.put ++ task ∷ [] } → IsPutting P before all less next.put
    pass_more before all rest less now next task p is to = subst (IsPutting P before all less) (sym (ap (λ (q : PassView T Q). q.put) to)) (put_more P before all rest now.put less task p is)

    -- the pass where a task was refused
    pub pass_part : (before all rest : List T) (now next : PassView T Q) → IsPutting P before all rest now.put → next ≡ now → IsSentPart P before all next.put
    pass_part before all rest now next p same = subst (λ (q : PassView T Q). IsSentPart P before all q.put) (sym same) (put_part P before all rest now.put p)

pub no_items : {T : Type 0} (xs : List T) → length xs ≡ 0 → xs ≡ []
no_items [] e = refl
no_items (x ∷ xs) e = absurd (omega arith)

-- as many tasks were counted as made as were put
pub as_many : {T : Type 0} (before after tasks : List T) (old new more : ℕ) → SameBag after (before ++ tasks) → new ≡ old + more → more ≡ length tasks → new + length before ≡ old + length after
as_many before after tasks old new more bag counted is =
    let a = ones before in let b = ones after in let c = ones tasks in let d = bag.weighs (λ _. 1) in let e = sum_by-append (λ _. 1) before tasks in omega arith
  where
    ones : {X : Type 0} (xs : List X) → sum_by (λ _. 1) xs ≡ length xs
    ones [] = refl
    ones (x ∷ xs) = let s = sum_by-cons (λ _. 1) x xs in let r = ones xs in omega arith

pub spawns_later : {P N : Type 0} (before after : SpawningView P N) (pass : PassView (Task N) (Members N)) (seat : OpenSeatView) (tasks : List (Task N)) (more : ℕ)
    → before.pass ≡ pass → before.tasks ≡ seat → after.tasks.made ≡ seat.made + more → more ≡ length tasks → SameBag after.pass.put (pass.put ++ tasks) → IsLaterSpawning before after
spawns_later before after pass seat tasks more p q r t bag =
    record {
      made = (
          let a = as_many pass.put after.pass.put tasks seat.made after.tasks.made more bag r t in
          let b = ap (λ (x : PassView (Task _) _). length x.put) p in let c = ap (λ (x : OpenSeatView). x.made) q in omega arith);
    }
