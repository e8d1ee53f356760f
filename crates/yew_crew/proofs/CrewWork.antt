-- What all workers have done together.
use Rattle.std.proofs.Common.{◌≡◌, ℕ, List, [], ◌∷◌, ◌++◌, ◌∙◌, sym, ap, append-nil, append_assoc, arith, subst, length}
use Rattle.std.specs.List.{AllByRecursion}
use Rattle.std.proofs.lemmas.List.Sums.{sum_by-cons}
use Rattle.yew_best.specs.Seats.{SeatView}
use Rattle.yew_laws.specs.Bag.{SameBag}
use Rattle.yew_laws.specs.Fold.{IsTally, of_member}
use Rattle.yew_laws.proofs.Bags.{same-is, same-refl, same-trans, same-append}
use Rattle.yew_laws.proofs.Folds.{fold-fits}
use Rattle.yew_crew.specs.declared.station.Station.{Station}
use Rattle.yew_crew.specs.Crews.{IsFresh, AreWorked, IsCrewWork, best_with, tasks_with, took_of, put_of, got_of, given_of}
use Rattle.yew_crew.specs.Groups.{Group, together, all_together, IsBalanced}
use Rattle.yew_crew.specs.OpenSeats.{OpenSeatView}
use Rattle.yew_crew.specs.Reports.{IsGroupWork}
use Rattle.yew_crew.specs.Stations.{Searched}
use Rattle.yew_crew.proofs.GroupLaws.{idle-balanced, balanced-together, same-deals}

-- a sum that fits, joined with none
pub join-none : {S : Type 0} {fits : S → Type 0} {join : S → S → S} {none : S} → IsTally fits join none → (a : S) → fits a → join a none ≡ a
join-none {S} {fits} {join} {none} tally a f = tally.comm a none f tally.none_fits ∙ tally.unit a f

-- a seat that had nothing before
after-nothing : (old before now group more : List ℕ) → now ≡ before ++ group → before ≡ [] → (old ++ now) ++ more ≡ old ++ (group ++ more)
after-nothing old before now group more e none_before = ap (λ l. (old ++ l) ++ more) (e ∙ ap (λ l. l ++ group) none_before) ∙ append_assoc old group more

-- growth upon growth
grows-on : {X : Type 0} (xs ys zs g h : List X) → SameBag ys (xs ++ g) → SameBag zs (ys ++ h) → SameBag zs (xs ++ (g ++ h))
grows-on xs ys zs g h a b = same-trans b (same-trans (same-append a (same-refl h)) (same-is (append_assoc xs g h)))

-- growth of two parts
grows-both : {X : Type 0} (xs ys xs' ys' g h : List X) → SameBag xs' (xs ++ g) → SameBag ys' (ys ++ h) → SameBag (xs' ++ ys') ((xs ++ ys) ++ (g ++ h))
grows-both xs ys xs' ys' g h a b = same-trans (same-append a b) (same-deals xs g ys h)

-- the sum of a group fits
pub group-fits : {S R N : Type 0} (s : Searched S R N) {fits : S → Type 0} → IsTally fits s.join s.none → ((n : N) (depth : ℕ) → fits (s.of n depth))
    → (g : Group N S) → IsBalanced s.tree s.gap s.join s.none s.of g → fits g.sum
group-fits s {fits} tally of_fits g is = subst fits (sym is.sum_is) (fold-fits tally (of_member s.of) (λ m. of_fits m.node (length m.path)) g.members)

module _ {N S R : Type 0} (s : Searched S R N) {fits : S → Type 0} (tally : IsTally fits s.join s.none) (of_fits : (n : N) (depth : ℕ) → fits (s.of n depth)) where
  -- work upon work is work: this is the invariant of a worker that walks one task after another
  pub work-twice : (a b c : Station N S R) → fits a.hand.sum → IsGroupWork s a b → IsGroupWork s b c → IsGroupWork s a c
  work-twice a b c f v w =
      let g = v.group in let h = w.group in
      record {
        group = together s.join g h;
        balanced = balanced-together s.tree s.gap s.join s.none tally s.of of_fits g h v.balanced w.balanced;
        moved = record {
          took_is = grows-on _ _ _ g.took h.took v.moved.took_is w.moved.took_is;
          put_is = grows-on _ _ _ g.put h.put v.moved.put_is w.moved.put_is;
          got_is = grows-on _ _ _ g.got h.got v.moved.got_is w.moved.got_is;
          given_is = grows-on _ _ _ g.given h.given v.moved.given_is w.moved.given_is;
        };
        reads = w.reads ∙ (ap (λ l. l ++ h.read) v.reads ∙ append_assoc a.best.read g.read h.read);
        offers = w.offers ∙ (ap (λ l. l ++ h.offered) v.offers ∙ append_assoc a.best.offered g.offered h.offered);
        made_is = (let m = v.made_is in let n = w.made_is in omega arith);
        ended_is = (let m = v.ended_is in let n = w.ended_is in omega arith);
        sum_is = w.sum_is ∙ (ap (λ x. s.join x h.sum) v.sum_is ∙ tally.assoc a.hand.sum g.sum h.sum f (group-fits s tally of_fits g v.balanced) (group-fits s tally of_fits h w.balanced));
      }

  -- by induction over the workers: all of them together are a group
  pub crew-work : (groups : List (Group N S)) (befores afters : List (Station N S R)) (seat : SeatView) (tasks : OpenSeatView)
      → AllByRecursion (IsFresh fits) befores → AreWorked s groups befores afters
      → IsCrewWork s (all_together s.join s.none groups) seat tasks befores afters
  crew-work [] [] [] seat tasks fresh worked = record {
    balanced = idle-balanced s.tree s.gap s.join s.none tally s.of of_fits;
    took_is = same-refl [];
    put_is = same-refl [];
    got_is = same-refl [];
    given_is = same-refl [];
    reads = sym (append-nil seat.read);
    offers = sym (append-nil seat.offered);
    made_is = omega arith;
    ended_is = omega arith;
  }
  crew-work [] [] (a ∷ afters) seat tasks fresh worked = absurd worked
  crew-work [] (b ∷ befores) afters seat tasks fresh worked = absurd worked
  crew-work (g ∷ groups) [] afters seat tasks fresh worked = absurd worked
  crew-work (g ∷ groups) (b ∷ befores) [] seat tasks fresh worked = absurd worked
  crew-work (g ∷ groups) (b ∷ befores) (a ∷ afters) seat tasks fresh worked =
      subst (λ (k : Group N S). IsCrewWork s (together s.join k (all_together s.join s.none groups)) seat tasks (b ∷ befores) (a ∷ afters)) worked.0.1
      (let w = worked.0.0 in let f = fresh.0 in
      let rest = crew-work groups befores afters (best_with seat (a ∷ [])) (tasks_with tasks (a ∷ [])) fresh.1 worked.1 in
      let g' = w.group in let h = all_together s.join s.none groups in
      record {
        balanced = balanced-together s.tree s.gap s.join s.none tally s.of of_fits g' h w.balanced rest.balanced;
        took_is = grows-both _ (took_of befores) _ (took_of afters) g'.took h.took w.moved.took_is rest.took_is;
        put_is = grows-both _ (put_of befores) _ (put_of afters) g'.put h.put w.moved.put_is rest.put_is;
        got_is = grows-both _ (got_of befores) _ (got_of afters) g'.got h.got w.moved.got_is rest.got_is;
        given_is = grows-both _ (given_of befores) _ (given_of afters) g'.given h.given w.moved.given_is rest.given_is;
        reads = rest.reads ∙ after-nothing seat.read b.best.read a.best.read g'.read h.read w.reads f.read_none;
        offers = rest.offers ∙ after-nothing seat.offered b.best.offered a.best.offered g'.offered h.offered w.offers f.offered_none;
        made_is = (let m = rest.made_is in let n = w.made_is in let o = sum_by-cons (λ (x : Station N S R). x.tasks.made) b befores in omega arith);
        ended_is = (let m = rest.ended_is in let n = w.ended_is in let o = sum_by-cons (λ (x : Station N S R). x.tasks.ended) b befores in omega arith);
      })
