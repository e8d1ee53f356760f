-- What an ordered search begins with, and why it did not begin.
use Rattle.std.proofs.Common.{◌≡◌, ℕ, suc, ◌+◌, ◌<◌, ◌≤◌, ◌^◌, ◌∙◌, List, [], ◌∷◌, ◌++◌, Bool, true, false, if◌then◌else◌, Result, Ok, Err, OnOk, length, map, refl, sym, ap, subst, arith}
use Rattle.std.specs.Prelude.{IsSome, IfSome}
use Rattle.std.specs.List.{AllByRecursion}
use Rattle.std.proofs.lemmas.List.{length-map}
use Rattle.yew_best.specs.Seats.{BestId, SeatView}
use Rattle.yew_laws.specs.SearchTree.{SearchTree}
use Rattle.yew_log.specs.AuditFull.{IsAuditFull}
use Rattle.yew_log.specs.Groups.{in_order}
use Rattle.yew_log.specs.Items.{Item, items_of}
use Rattle.yew_walk.specs.LogViews.{LogView}
use Rattle.yew_walk.specs.declared.fault.SearchFault.{SearchFault}
use Rattle.yew_walk.specs.declared.fault.SearchFault.TheVariants.{Memory, AuditFull, TooManyTasks}
use Rattle.yew_ranked.specs.FrontierWalk.{IsFrontierFull, IsFrontierFault}
use Rattle.yew_ranked.specs.OrderedSearch.{IsOrderedFault}
use Rattle.yew_ranked.specs.Searching.{IsBegun, HasWorked}
use Rattle.yew_ranked.specs.Starting.{IsSeated, with_shares, AreStations}
use Rattle.yew_ranked.specs.Stations.{IsRankedReady}
use Rattle.yew_ranked.specs.Tasks.{Numbered, numbered_task, tasks_from, tasks_of_tree}
use Rattle.yew_ranked.specs.Whole.{IsFirstStation, IsRankedCrew}
use Rattle.yew_ranked.specs.declared.station.RankedShared.{RankedShared}
use Rattle.yew_ranked.specs.declared.station.RankedStation.{RankedStation}
use Rattle.yew_ranked.proofs.Sharing.{new-fresh, new-seated, new-ready}

one-more : (b : Bool) (x : Numbered) (xs : List Numbered) (n : ℕ) → length xs ≤ n → length ((if b then x ∷ [] else []) ++ xs) ≤ suc n
one-more true x xs n few = omega (arith, few)
one-more false x xs n few = omega (arith, few)

-- what holds anyway holds where a call answers Ok
pub on-ok : {X E : Type 0} {F : Type 0} (result : Result X E) → F → OnOk result F
on-ok (Ok x) f = f
on-ok (Err e) f = tt

-- there are no more tasks than items
tasks-few : (rank : ℕ) (items : List Item) → length (tasks_from rank items) ≤ length items
tasks-few rank [] = omega arith
tasks-few rank (item ∷ items) =
    one-more item.is_task (record { path = item.path; rank = rank }) (tasks_from (suc rank) items) (length items) (tasks-few (suc rank) items)

module _ {N : Type 0} (t : SearchTree N) (depth workers : ℕ) where
  -- why the walk above the tasks was refused is why the search was
  pub frontier-refused : (tells : Type 0) (first now : LogView) (fault : SearchFault)
      → ((worker entries numbers : ℕ) → IfSome first.told (λ notes. notes ≡ []) → IsFrontierFull t depth first now worker entries numbers
      → IsAuditFull t 0 (in_order depth) workers entries numbers × (worker ≡ first.number))
      → IfSome first.told (λ notes. notes ≡ []) → first.number ≡ 1 → 1 ≤ workers → (IsSome now.told → tells)
      → IsFrontierFault t depth first now fault → IsOrderedFault t depth workers tells fault
  frontier-refused tells first now Memory audit new number_is some telling is = tt
  frontier-refused tells first now (AuditFull worker entries numbers) audit new number_is some telling is =
      let law = audit worker entries numbers new is in
      let own : worker ≡ 1 = law.1 ∙ number_is in (
        telling (subst IsSome (sym is.full.are_told) refl),
        (omega (arith, own), omega (arith, own, some), (λ many. own), law.0),
      )
  frontier-refused tells first now (TooManyTasks number) audit new number_is some telling is = is

module _ {N S R : Type 0} (t : SearchTree N) (join : S → S → S) (none : S) (of : N → ℕ → S) (seen : R → LogView) (fits : S → Type 0) (depth workers : ℕ)
    (shared : RankedShared) (first : RankedStation S R) (b : IsBegun t join none of seen fits depth workers shared first) where
  pub begun-items : length (items_of t depth) ≤ 2 ^ 20
  begun-items = b.first_is.frontier.few

  pub begun-few : length shared.tasks.items ≤ 2 ^ 20
  begun-few =
      let a = length-map shared.tasks.items numbered_task in let c = ap length b.first_is.frontier.tasks_are in
      let d = tasks-few 0 (items_of t depth) in let e = begun-items in omega arith

  module _ (stations : List (RankedStation S R)) (are : AreStations none seen shared workers first stations) where
    pub begun-ready : fits none → AllByRecursion (IsRankedReady fits shared) stations
    begun-ready none_fits = subst (AllByRecursion (IsRankedReady fits shared)) (sym are.stands) (
      record {
        of_best = b.seated.of_best;
        of_claims = b.seated.of_claims;
        of_stop = b.seated.of_stop;
        one_share = refl;
        none_claimed = b.first_is.none_claimed;
        space = b.first_is.frontier.space;
        fits_sum = b.fits_sum;
      },
      new-ready none seen shared fits none_fits 2 are.others are.others_are,
    )

    pub begun-seated : AllByRecursion (IsSeated shared 1) stations
    begun-seated = subst (AllByRecursion (IsSeated shared 1)) (sym are.stands) (
      record { of_best = b.seated.of_best; best_share = refl; of_claims = b.seated.of_claims; claims_share = refl; of_stop = b.seated.of_stop; stop_share = refl },
      new-seated none seen shared 2 are.others are.others_are,
    )

    pub begun-crew : IsRankedCrew t join none of seen depth (map numbered_task shared.tasks.items) workers stations
    begun-crew =
        let is = b.first_is in record {
          first = with_shares 1 first;
          others = are.others;
          stands = are.stands;
          count = are.count;
          first_is = record {
            first = is.first;
            walked = is.walked;
            begun = is.begun;
            frontier = is.frontier;
            none_offered = is.none_offered;
            seat_is = ap (λ (seat : SeatView). record seat { share = 1 }) is.seat_is;
            fresh_log = is.fresh_log;
            log_is = is.log_is;
            number_is = is.number_is;
            none_claimed = is.none_claimed;
            no_stop = is.no_stop;
          };
          others_are = new-fresh none seen shared 2 are.others are.others_are;
          alone = λ one. sym one ∙ sym (ap (λ (best : BestId). best.seats) b.seated.of_best ∙ b.best_seats);
        }
