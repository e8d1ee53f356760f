-- What one worker has found on its own: the first best node, the sum, and the sequential log.
use Rattle.std.proofs.Common.{◌≡◌, ℕ, ◌≤◌, List, [], ◌∷◌, ◌++◌, length, Option, Some, None, Bool, false, refl, ap, sym, subst, ◌∙◌, arith}
use Rattle.std.specs.Prelude.{IfSome, IsSome}
use Rattle.yew_best.specs.Seats.{BestId, SeatView}
use Rattle.yew_laws.specs.declared.problem.Problem.{Ghosts}
use Rattle.yew_laws.specs.declared.problem.Task.{Task}
use Rattle.yew_laws.specs.Fold.{Fold, fold_of, of_member, IsTally}
use Rattle.yew_laws.specs.Incumbent.{Incumbent}
use Rattle.yew_laws.specs.SearchTree.{SearchTree, search_tree}
use Rattle.yew_laws.specs.Tree.{Member}
use Rattle.yew_laws.proofs.Folds.{fold-fits}
use Rattle.std.specs.List.{AllByRecursion}
use Rattle.yew_log.specs.AuditFull.{IsAuditFull}
use Rattle.yew_log.specs.Groups.{sequential}
use Rattle.yew_log.specs.HeldValues.{plain, HeldIsMaximum}
use Rattle.yew_log.specs.Lawful.{IsWalk, IsBrokenWalk}
use Rattle.yew_log.specs.Notes.{Note, Judgement, judgement_in, values, maximum, visits, path_of, path_numbers}
use Rattle.yew_log.specs.Places.{AtEach}
use Rattle.yew_log.specs.Policies.{plain_policy, PolicyGroup}
use Rattle.yew_log.specs.Recording.{IsFull}
use Rattle.yew_log.specs.SeqLog.{seq_log}
use Rattle.yew_log.specs.Totals.{no_totals, totals_after}
use Rattle.yew_log.proofs.Walks.{AreSmall}
use Rattle.yew_walk.specs.declared.fault.SearchFault.{SearchFault}
use Rattle.yew_walk.specs.declared.fault.SearchFault.TheVariants.{Memory, AuditFull, TooManyTasks}
use Rattle.yew_walk.specs.declared.hand.Hand.{Hand}
use Rattle.yew_walk.specs.declared.keying.Keying.{Keying}
use Rattle.yew_walk.specs.declared.keying.Keying.TheVariants.{Plain}
use Rattle.yew_walk.specs.FirstFound.{found_worth, found_path}
use Rattle.yew_walk.specs.Hands.{incumbent_of, best_after, AreVisited}
use Rattle.yew_walk.specs.Keys.{kind_of, gap_in}
use Rattle.yew_walk.specs.LogViews.{LogView}
use Rattle.yew_walk.specs.PlainSearch.{NeverCuts, IsPlainLog, IsPlainFault}
use Rattle.yew_walk.specs.Outlets.{OutletCall}
use Rattle.yew_walk.specs.Scenes.{Scene, scene, IsAlone, IsCause, IsWalked, IsRefused}
use Rattle.yew_walk.specs.Seats.{SeatGoes}
use Rattle.yew_walk.proofs.AuditFulls.{audit_full-sequential, goes-held_is_maximum}
use Rattle.yew_walk.proofs.BestVisits.{best_after-plain}
use Rattle.yew_walk.proofs.FirstFinds.{best_after-found}
use Rattle.yew_walk.proofs.PlainLogs.{plain_walk-seq_log}
use Rattle.yew_walk.proofs.PlainRuns.{log_after-told, log_after-number, log_after-totals, small-none, fresh-told}
use Rattle.yew_walk.proofs.WholeSums.{AreVisited-Fold}

-- the front of a list keeps its facts
AtEach-front : {X : Type 0} (P : List X → X → Type 0) (before xs ys : List X) → AtEach (λ b x a. P b x) before (xs ++ ys) → AtEach (λ b x a. P b x) before xs
AtEach-front P before [] ys a = tt
AtEach-front P before (x ∷ xs) ys a = (a.0, AtEach-front P (before ++ x ∷ []) xs ys a.1)

-- a seat with the whole share that has offered nothing, a hand that holds nothing, and a log that was fresh
pub record IsFresh {N Sum : Type 0} (none : Sum) (first : Scene N Sum (Unit {0})) : Type 0 where
  pub none_offered : first.seat.offered ≡ []
  pub whole_share : first.seat.share ≡ first.seat.best.seats
  pub holds_none : first.hand.holds ≡ false
  pub sum_is : first.hand.sum ≡ none
  pub none_told : IfSome first.log.told (λ notes. notes ≡ [])
  pub no_totals_yet : first.log.totals ≡ no_totals
  pub first_worker : first.log.number ≡ 1

-- the scene in which one worker begins
pub fresh-scene : {N Sum : Type 0} {none : Sum} {best : BestId} {seat : SeatView} {hand : Hand Sum} {sent : List (Task N)} {answers : Option (List Bool)} {log : LogView} → seat ≡ record { best = best; share = 1; read = []; offered = []; heard = [] } → best.seats ≡ 1 → hand.holds ≡ false → hand.sum ≡ none → IfSome log.told (λ notes. notes ≡ []) → log.totals ≡ no_totals → log.number ≡ 1 → IsFresh none (scene seat hand tt sent answers log)
fresh-scene seat_is one_seat holds_none sum_is none_told no_totals_yet first_worker = record {
  none_offered = ap (λ (s : SeatView). s.offered) seat_is;
  whole_share = ap (λ (s : SeatView). s.share) seat_is ∙ sym one_seat ∙ ap (λ (s : SeatView). s.best.seats) (sym seat_is);
  holds_none = holds_none;
  sum_is = sum_is;
  none_told = none_told;
  no_totals_yet = no_totals_yet;
  first_worker = first_worker;
}

module _ {S N K Sum : Type 0} (meaning : Ghosts S N K) (problem : S) (keying : Keying) (is_plain : kind_of keying ≡ plain) (join : Sum → Sum → Sum) (of : N → ℕ → Sum) (none : Sum) (root : meaning.sound problem (meaning.root problem)) where
  abbrev t : SearchTree N
  t = search_tree meaning problem

  abbrev gap : ℕ
  gap = gap_in keying

  abbrev Walked : (List OutletCall → Type 0) → Scene N Sum (Unit {0}) → Scene N Sum (Unit {0}) → Type 0
  Walked = IsWalked meaning problem keying join of plain_policy [] none

  module _ (first now : Scene N Sum (Unit {0})) (fresh : IsFresh none first) where
    module _ {did : List OutletCall → Type 0} (w : Walked did first now) where
      notes-are : w.notes ≡ seq_log t gap
      notes-are = plain_walk-seq_log t gap keying is_plain (meaning.ranked problem) root w.answers w.notes first.seat now.seat (subst (λ k. IsWalk t gap k (PolicyGroup t plain_policy tt w.answers) [] w.notes) is_plain w.walk) w.goes fresh.none_offered fresh.whole_share

      pub alone-log : IsPlainLog t gap now.log
      alone-log = record {
        told = subst (λ ns. IfSome now.log.told (λ notes. notes ≡ ns)) notes-are
            (fresh-told first.log.told now.log.told w.notes fresh.none_told (ap (λ (log : LogView). log.told) w.log_is ∙ log_after-told first.log w.notes));
        totals_are = ap (λ (log : LogView). log.totals) w.log_is
            ∙ log_after-totals first.log w.notes (subst AreSmall (sym fresh.no_totals_yet) small-none)
            ∙ ap (λ u. totals_after u w.notes) fresh.no_totals_yet
            ∙ ap (totals_after no_totals) notes-are;
        number_is = ap (λ (log : LogView). log.number) w.log_is ∙ log_after-number first.log w.notes ∙ fresh.first_worker;
        within = w.within;
      }

      pub alone-best : incumbent_of now.hand ≡ record { worth = found_worth t gap; path = found_path t gap }
      alone-best =
          let nothing : ◌≡◌ {A = Incumbent} (incumbent_of first.hand) (record { worth = 0; path = None }) = rw fresh.holds_none refl in
          w.best_is
          ∙ best_after-plain keying (incumbent_of first.hand) (visits w.notes) is_plain
          ∙ ap (λ i. best_after Plain i (visits w.notes)) nothing
          ∙ ap (λ ns. best_after Plain (record { worth = 0; path = None }) (visits ns)) notes-are
          ∙ best_after-found t gap

      pub alone-sum : {fits : Sum → Type 0} → IsTally fits join none → ((n : N) (depth : ℕ) → fits (of n depth)) → NeverCuts t → now.hand.sum ≡ Fold t join none of
      alone-sum tally of_fits never =
          let visited : AreVisited t (seq_log t gap) w.members = subst (λ ns. AreVisited t ns w.members) notes-are w.are_visited in
          let fold = fold_of join none (of_member of) w.members in
          w.sum_is
          ∙ ap (λ s. join s fold) fresh.sum_is
          ∙ tally.unit fold (fold-fits tally (of_member of) (λ (m : Member N). of_fits m.node (length m.path)) w.members)
          ∙ AreVisited-Fold t never.no_answer never.promising gap (meaning.ranked problem) root join none of w.members visited

    -- why it was refused
    pub alone-fault : (tells : Type 0) → (IsSome now.log.told → tells) → (fault : SearchFault) → IsRefused meaning problem keying join of plain_policy [] first now fault → IsPlainFault t gap tells fault
    alone-fault tells tells-of Memory r = tt
    alone-fault tells tells-of (TooManyTasks number) r = absurd r.cause
    alone-fault tells tells-of (AuditFull worker entries numbers) r = full r.ahead r.one_ahead r.goes (broken (r.notes ++ r.ahead) r.keeps_ahead) r.cause (r.of_sequence alone)
      where
        alone : IsAlone meaning problem keying join of plain_policy [] first
        alone = record { plain_keys = is_plain; never_asks = λ state input. refl; of_root = refl; none_offered = fresh.none_offered; whole_share = fresh.whole_share }

        broken : (notes : List Note) → IsBrokenWalk t gap (kind_of keying) [] notes → IsBrokenWalk t gap plain [] notes
        broken notes k = subst (λ kind. IsBrokenWalk t gap kind [] notes) is_plain k

        told-are : IfSome now.log.told (λ notes. notes ≡ r.notes)
        told-are = fresh-told first.log.told now.log.told r.notes fresh.none_told (ap (λ (log : LogView). log.told) r.log_is ∙ log_after-told first.log r.notes)

        full : (ahead : List Note) → length ahead ≤ 1 → SeatGoes t keying first.seat (r.notes ++ ahead) now.seat → IsBrokenWalk t gap plain [] (r.notes ++ ahead) → IsCause (AuditFull worker entries numbers) now.log ahead → (rest : List Note) × (seq_log t gap ≡ (r.notes ++ ahead) ++ rest) → tells × ((worker ≡ 1) × IsAuditFull t gap sequential 1 entries numbers)
        full [] one g k c s = absurd c
        full (next ∷ second ∷ more) one g k c s = absurd (omega (arith, one))
        full (next ∷ []) one g k c s =
            let f = c.1 in
            let same : f.notes ≡ r.notes = subst (λ told. IfSome told (λ notes. notes ≡ r.notes)) f.are_told told-are in
            let held : HeldIsMaximum r.notes = AtEach-front (λ b n. AllByRecursion (λ (j : Judgement). j.held ≡ maximum (values (visits b))) (judgement_in n)) [] r.notes (next ∷ []) (goes-held_is_maximum t keying is_plain first.seat now.seat (r.notes ++ next ∷ []) g fresh.none_offered fresh.whole_share) in
            let is_full : IsFull (Some r.notes) (path_of next) entries numbers = record {
              notes = r.notes;
              are_told = refl;
              entries_are = f.entries_are ∙ ap length same;
              numbers_are = f.numbers_are ∙ ap path_numbers same;
              within = f.within;
              past = f.past;
            } in (
              tells-of (subst IsSome (sym f.are_told) refl),
              (
                c.0 ∙ ap (λ (log : LogView). log.number) r.log_is ∙ log_after-number first.log r.notes ∙ fresh.first_worker,
                audit_full-sequential t gap r.notes next entries numbers is_full (broken r.notes r.keeps) k held s,
              ),
            )
