-- The sums of all workers of an ordered search, gathered, are that of the tree where nothing is cut.
use Rattle.std.proofs.Common.{◌≡◌, ℕ, suc, Some, List, [], ◌∷◌, ◌++◌, length, refl, ap, ap₂, sym, ◌∙◌}
use Rattle.std.specs.List.{AllByRecursion, flat_map}
use Rattle.std.proofs.lemmas.List.{map-append}
use Rattle.std.proofs.lemmas.List.Concat.{flat_map-append}
use Rattle.yew_laws.specs.Fold.{fold_of, of_member, IsTally}
use Rattle.yew_laws.specs.SearchTree.{SearchTree, at_path}
use Rattle.yew_laws.specs.Tree.{Member, paths as member_paths}
use Rattle.yew_laws.proofs.Folds.{fold-fits, fold-append}
use Rattle.yew_laws.proofs.Members.{AllByRecursion-append}
use Rattle.yew_log.specs.Notes.{visited_paths}
use Rattle.yew_log.specs.Segment.{entries, entries_in}
use Rattle.yew_log.proofs.Growth.{visited-append}
use Rattle.yew_walk.specs.declared.hand.Hand.{Hand}
use Rattle.yew_walk.specs.LogViews.{LogView}
use Rattle.yew_walk.specs.WorkerLogs.{KeyedSegment, segments_of}
use Rattle.yew_ranked.specs.Joining.{hands_of}
use Rattle.yew_ranked.specs.Whole.{AreFresh}
use Rattle.yew_ranked.specs.declared.station.RankedStation.{RankedStation}
use Rattle.yew_ranked.proofs.OrderedParts.{IsFinished, AreFinished, works}
use Rattle.yew_ranked.proofs.WholeVisits.{walks_by}

module _ {N S R : Type 0} (t : SearchTree N) (join : S → S → S) (none : S) (of : N → ℕ → S) (seen : R → LogView) (levels : ℕ)
    {fits : S → Type 0} (tally : IsTally fits join none) (of_fits : (n : N) (depth : ℕ) → fits (of n depth)) where
  abbrev Finished : RankedStation S R → RankedStation S R → Type 0
  Finished before after = IsFinished t join none of seen levels before after

  abbrev fold : List (Member N) → S
  fold ms = fold_of join none (of_member of) ms

  member-fits : (m : Member N) → fits (of_member of m)
  member-fits m = of_fits m.node (length m.path)

  -- what a finished worker has added to its sum
  pub done-sum : (before after : RankedStation S R) (d : Finished before after) → after.hand.sum ≡ join before.hand.sum (fold d.working.members)
  done-sum before after d = ap (λ (s : RankedStation S R). s.hand.sum) d.after_is ∙ d.working.sum_is

  -- the nodes that workers visited
  abbrev pub members_of : (befores afters : List (RankedStation S R)) → AreFinished t join none of seen levels befores afters → List (Member N)
  members_of [] [] are = []
  members_of [] (a ∷ afters) are = absurd are
  members_of (b ∷ befores) [] are = absurd are
  members_of (b ∷ befores) (a ∷ afters) are = are.0.working.members ++ members_of befores afters are.1

  pub works-sum : (number : ℕ) (befores afters : List (RankedStation S R)) (are : AreFinished t join none of seen levels befores afters) → AreFresh none seen number befores
      → fold_of join none (λ (h : Hand S). h.sum) (hands_of afters) ≡ fold (members_of befores afters are)
  works-sum number [] [] are fresh = refl
  works-sum number [] (a ∷ afters) are fresh = absurd are
  works-sum number (b ∷ befores) [] are fresh = absurd are
  works-sum number (b ∷ befores) (a ∷ afters) are fresh =
      let ms = are.0.working.members in
      let own : a.hand.sum ≡ fold ms =
      done-sum b a are.0 ∙ (ap (λ x. join x (fold ms)) fresh.0.sum_is ∙ tally.unit (fold ms) (fold-fits tally (of_member of) member-fits ms)) in
      ap₂ join own (works-sum (suc number) befores afters are.1 fresh.1) ∙ sym (fold-append tally (of_member of) member-fits ms (members_of befores afters are.1))

  -- their paths are those of the visits, and they stand there
  pub works-members : (befores afters : List (RankedStation S R)) (are : AreFinished t join none of seen levels befores afters)
      → (member_paths (members_of befores afters are) ≡ visited_paths (entries (segments_of (flat_map (walks_by t levels) (works t join none of seen levels befores afters are)))))
      × AllByRecursion (λ (m : Member N). at_path t m.path ≡ Some m.node) (members_of befores afters are)
  works-members [] [] are = (refl, tt)
  works-members [] (a ∷ afters) are = absurd are
  works-members (b ∷ befores) [] are = absurd are
  works-members (b ∷ befores) (a ∷ afters) are =
      let ms = are.0.working.members in
      let walks = are.0.working.walks in
      let more = works-members befores afters are.1 in
      let rest = flat_map (walks_by t levels) (works t join none of seen levels befores afters are.1) in (
        map-append (λ (m : Member N). m.path) ms (members_of befores afters are.1)
            ∙ (ap₂ (λ (x y : List (List ℕ)). x ++ y) are.0.working.are_visited.paths_are more.0
            ∙ (sym (visited-append (entries (segments_of walks)) (entries (segments_of rest)))
            ∙ ap visited_paths (sym (flat_map-append entries_in (segments_of walks) (segments_of rest)) ∙ ap entries (sym (map-append (λ (k : KeyedSegment). k.segment) walks rest))))),
        AllByRecursion-append (λ (m : Member N). at_path t m.path ≡ Some m.node) ms (members_of befores afters are.1) are.0.working.are_visited.there more.1,
      )
