-- A walk stays under way where it sends a child of an open visit.
use Rattle.std.proofs.Common.{◌≡◌, ◌≢◌, ℕ, ◌+◌, List, [], ◌∷◌, ◌++◌, map, Some, refl, ap, ap₂, sym, subst, ◌∙◌, arith, append_assoc, append-nil}
use mathlib.Core.List.{reverse}
use Rattle.std.specs.List.{AllByRecursion, Contains, flat_map, sum_by}
use Rattle.std.specs.Prelude.{IsSome}
use Rattle.std.proofs.lemmas.List.Concat.{flat_map-append}
use Rattle.std.proofs.lemmas.List.Elements.{All-contains, All-from_recursion}
use Rattle.std.proofs.lemmas.List.Sums.{sum_by-append}
use Rattle.yew_best.specs.Seats.{SeatView}
use Rattle.yew_laws.specs.declared.problem.Problem.{Ghosts}
use Rattle.yew_laws.specs.SearchTree.{SearchTree, search_tree, at_path, worth_at, bound_at, below}
use Rattle.yew_laws.specs.Tree.{Member, paths}
use Rattle.yew_laws.proofs.Below.{AtOrBelow}
use Rattle.yew_laws.proofs.Members.{AllByRecursion-append, AllByRecursion-weaker, Contains-map}
use Rattle.yew_log.specs.Notes.{Note, taken, visited, spawned, handed, Judgement, taken_in, visit_in, cut_in, sent_in, judgement_in, sent_paths}
use Rattle.yew_log.specs.Segment.{IsValued, covered_paths}
use Rattle.yew_log.proofs.Frames.{Frame, with_more, AreFrames, around-more, frames-spawned, frames-handed}
use Rattle.yew_log.proofs.Growth.{IsValued-append, covered_paths-append}
use Rattle.yew_stack.specs.Levels.{LevelView}
use Rattle.yew_stack.specs.ToCome.{levels_to_come, node_tree}
use Rattle.yew_walk.specs.declared.keying.Keying.{Keying}
use Rattle.yew_walk.specs.Seats.{SeatGoes}
use Rattle.yew_walk.specs.UnderWay.{AreBelow, AreAligned, HasShape, IsOfLevel, IsUnderWay}
use Rattle.yew_walk.proofs.SeatWays.{goes-append}
use Rattle.yew_walk.proofs.WalkSteps.{judged-other, rises-quiet, IsOther}
use Rattle.yew_walk.proofs.UnderWays.{begins-push, untaken-push, around-some}

module _ {S N K : Type 0} (meaning : Ghosts S N K) (problem : S) (keying : Keying) (task : List ℕ) where
  abbrev t : SearchTree N
  t = search_tree meaning problem

  abbrev UnderWay : SeatView → SeatView → List Note → List Frame → List (LevelView N) → List (List ℕ) → Type 0
  UnderWay = IsUnderWay meaning problem keying task

  abbrev coming : List (LevelView N) → List (Member N)
  coming ls = levels_to_come (node_tree meaning problem) ls

  -- each level's path is that of an open visit, at or above the highest
  levels-above : (f : Frame) (fs : List Frame) (ls : List (LevelView N)) → AreFrames task (f ∷ fs) → AreAligned (f ∷ fs) ls → (level : LevelView N) → Contains ls level → AtOrBelow level.parent f.path
  levels-above f fs ls a b level c = above f fs ls a (aligned-host f fs ls b) level c
    where
      -- the levels' paths are those of the frames
      below-paths : (path : List ℕ) (gs : List Frame) (ls : List (LevelView N)) → AreBelow path gs ls → (map (λ (l : LevelView N). l.parent) ls ≡ map (λ (h : Frame). h.path) gs)
      below-paths path [] [] b = refl
      below-paths path [] (l ∷ ls) b = absurd b
      below-paths path (g ∷ gs) [] b = absurd b
      below-paths path (g ∷ gs) (l ∷ ls) b = ap₂ (λ (p : List ℕ) (ps : List (List ℕ)). p ∷ ps) b.0 (below-paths g.path gs ls b.1.1)

      aligned-host : (g : Frame) (gs : List Frame) (ls : List (LevelView N)) → AreAligned (g ∷ gs) ls → (map (λ (l : LevelView N). l.parent) ls ≡ map (λ (h : Frame). h.path) (g ∷ gs))
      aligned-host g gs [] b = absurd b
      aligned-host g gs (l ∷ ls) b = ap₂ (λ (p : List ℕ) (ps : List (List ℕ)). p ∷ ps) b.0 (below-paths g.path gs ls b.1.1)

      frames-above : (g : Frame) (gs : List Frame) → AreFrames task (g ∷ gs) → AllByRecursion (λ p. AtOrBelow p g.path) (map (λ (h : Frame). h.path) (g ∷ gs))
      frames-above g [] a = (record { rest = []; is = sym (append-nil g.path) }, tt)
      frames-above g (h ∷ hs) a = (
        record { rest = []; is = sym (append-nil g.path) },
        AllByRecursion-weaker (λ p. AtOrBelow p h.path) (λ p. AtOrBelow p g.path)
            (λ p u. record { rest = u.rest ++ a.1.0.0 ∷ []; is = a.1.0.1.1 ∙ ap (λ q. q ++ a.1.0.0 ∷ []) u.is ∙ append_assoc p u.rest (a.1.0.0 ∷ []) })
            (map (λ (h : Frame). h.path) (h ∷ hs)) (frames-above h hs a.1.1),
      )

      above : (g : Frame) (gs : List Frame) (ls : List (LevelView N)) → AreFrames task (g ∷ gs) → (map (λ (l : LevelView N). l.parent) ls ≡ map (λ (h : Frame). h.path) (g ∷ gs)) → (level : LevelView N) → Contains ls level → AtOrBelow level.parent g.path
      above g gs ls a same level c =
          All-contains (λ p. AtOrBelow p g.path) (map (λ (l : LevelView N). l.parent) ls) level.parent
          (All-from_recursion (λ p. AtOrBelow p g.path) (map (λ (l : LevelView N). l.parent) ls)
          (subst (AllByRecursion (λ p. AtOrBelow p g.path)) (sym same) (frames-above g gs a)))
          (Contains-map (λ (l : LevelView N). l.parent) ls level c)

  -- an entry by which a path is sent
  pub record IsSentNote (note : Note) (path : List ℕ) : Type 0 where
    pub no_visit : visit_in note ≡ []
    pub no_cut : cut_in note ≡ []
    pub no_judgement : judgement_in note ≡ []
    pub no_taken : taken_in note ≡ []
    pub sent_is : sent_in note ≡ path ∷ []
    pub goes : (seat : SeatView) → SeatGoes t keying seat (note ∷ []) seat
    pub frames : (f : Frame) (fs : List Frame) (host : List ℕ) (number : ℕ) → path ≡ host ++ number ∷ [] → AreFrames task (f ∷ fs) → AtOrBelow host f.path → AreFrames task (with_more f f.next (note ∷ []) ∷ fs)

  pub spawned-sent : (path : List ℕ) → IsSentNote (spawned path) path
  spawned-sent path = record {
    no_visit = refl;
    no_cut = refl;
    no_judgement = refl;
    no_taken = refl;
    sent_is = refl;
    goes = λ seat. refl;
    frames = λ f fs host number is a up. frames-spawned task f fs host (path ∷ []) a up ((number, is), tt);
  }

  pub handed-sent : (path : List ℕ) → IsSentNote (handed path) path
  handed-sent path = record {
    no_visit = refl;
    no_cut = refl;
    no_judgement = refl;
    no_taken = refl;
    sent_is = refl;
    goes = λ seat. refl;
    frames = λ f fs host number is a up. frames-handed task f fs host (path ∷ []) a up ((number, is), tt);
  }

  covered-sent : (w : List ℕ → ℕ) (notes : List Note) (note : Note) (path : List ℕ) → IsSentNote note path → sum_by w (covered_paths t (notes ++ note ∷ [])) ≡ sum_by w (covered_paths t notes) + sum_by w (below t path)
  covered-sent w notes note path is =
      let c = (covered_paths-append t notes (note ∷ [])).weighs w in
      let s = sum_by-append w (covered_paths t notes) (covered_paths t (note ∷ [])) in
      let one : covered_paths t (note ∷ []) ≡ below t path ++ [] =
      ap₂ (λ vs ss. map (λ (j : Judgement). j.path) (vs ++ []) ++ flat_map (below t) (map (λ (j : Judgement). j.path) (cut_in note ++ []) ++ (ss ++ []))) is.no_visit is.sent_is
      ∙ ap (λ cs. flat_map (below t) (map (λ (j : Judgement). j.path) (cs ++ []) ++ (path ∷ []))) is.no_cut in
      let e = ap (sum_by w) (one ∙ append-nil (below t path)) in
      omega (arith, c, s, e)

  no-level : (level : LevelView N) → Contains [] level → ⊥
  no-level level c = let below = c.1 in absurd (omega (arith, below))

  -- the shape after an entry by which a child of an open visit is sent
  sent-shape : (notes : List Note) (frames : List Frame) (ls : List (LevelView N)) (note : Note) (path : List ℕ) → IsSentNote note path → HasShape task notes frames → AreAligned frames ls → IsOfLevel ls path → (fs : List Frame) × (HasShape task (notes ++ note ∷ []) fs × AreAligned fs ls)
  sent-shape notes [] ls note path is s a of_level = absurd (none ls a of_level.level of_level.stands)
    where
      none : (ls' : List (LevelView N)) → AreAligned [] ls' → (level : LevelView N) → Contains ls' level → ⊥
      none [] b level c = no-level level c
      none (l ∷ ls') b level c = b
  sent-shape notes (f ∷ fs) [] note path is s a of_level = absurd a
  sent-shape notes (f ∷ fs) (l ∷ ls) note path is s a of_level = (
    with_more f f.next (note ∷ []) ∷ fs,
    (
      (ap (λ ns. ns ++ note ∷ []) s.0 ∙ sym (around-more f fs f.next (note ∷ [])), is.frames f fs of_level.level.parent of_level.number of_level.is s.1 (levels-above f fs (l ∷ ls) s.1 a of_level.level of_level.stands)),
      (a.0, a.1),
    ),
  )

  -- a path that stands between is recorded as sent
  pub underway-sends : (first now : SeatView) (notes : List Note) (frames : List Frame) (ls : List (LevelView N)) (note : Note) (path : List ℕ) (between : List (List ℕ)) → IsSentNote note path → IsOfLevel (reverse ls) path → (fs : List Frame) × UnderWay first now notes fs ls (path ∷ between) → (gs : List Frame) × UnderWay first now (notes ++ note ∷ []) gs ls between
  underway-sends first now notes frames ls note path between is of_level (fs, u) =
      let shape = sent-shape notes fs (reverse ls) note path is u.shape u.aligned of_level in
      let other : IsOther t keying note = record { no_visit = is.no_visit; no_cut = is.no_cut; no_judgement = is.no_judgement } in (
        shape.0,
        record {
          goes = goes-append t keying first now now notes (note ∷ []) u.goes (is.goes now);
          shape = shape.1.0;
          aligned = shape.1.1;
          covered = record {
            weighs = λ w.
                let before = u.covered.weighs w in
                let c0 = sum_by-append w (covered_paths t notes) (paths (coming ls) ++ flat_map (below t) (path ∷ between)) in
                let c1 = sum_by-append w (paths (coming ls)) (flat_map (below t) (path ∷ between)) in
                let c2 = sum_by-append w (below t path) (flat_map (below t) between) in
                let d0 = sum_by-append w (covered_paths t (notes ++ note ∷ [])) (paths (coming ls) ++ flat_map (below t) between) in
                let d1 = covered-sent w notes note path is in
                let d2 = sum_by-append w (paths (coming ls)) (flat_map (below t) between) in
                omega (arith, before, c0, c1, c2, d0, d1, d2);
          };
          task_there = u.task_there;
          sent_there = subst (AllByRecursion (λ p. IsSome (at_path t p))) (ap (λ ps. sent_paths notes ++ (ps ++ [])) (sym is.sent_is) ∙ sym (flat_map-append sent_in notes (note ∷ []))) (AllByRecursion-append (λ p. IsSome (at_path t p)) (sent_paths notes) (path ∷ []) u.sent_there (u.between_there.0, tt));
          between_there = u.between_there.1;
          valued = IsValued-append t notes (note ∷ []) u.valued (quiet-valued note is.no_visit is.no_cut);
          rises = rises-quiet t keying (taken task ∷ notes) note other u.rises;
          judged = judged-other t keying (taken task ∷ notes) note other u.judged;
          untaken = untaken-push meaning problem keying task notes note is.no_taken u.untaken;
          begins = begins-push meaning problem keying task notes note (λ none. absurd (not-empty fs (reverse ls) u.shape u.aligned of_level none)) u.begins;
          levels_open = u.levels_open;
        },
      )
    where
      quiet-valued : (n : Note) → visit_in n ≡ [] → cut_in n ≡ [] → IsValued t (n ∷ [])
      quiet-valued n v c = record {
        worths = subst (λ js. AllByRecursion (λ (j : Judgement). worth_at t j.path ≡ Some j.value) (js ++ [])) (sym v) tt;
        bounds = subst (λ js. AllByRecursion (λ (j : Judgement). bound_at t j.path ≡ Some j.value) (js ++ [])) (sym c) tt;
      }

      not-empty : (gs : List Frame) (ms : List (LevelView N)) → HasShape task notes gs → AreAligned gs ms → IsOfLevel ms path → notes ≢ []
      not-empty [] [] s a of none = no-level of.level of.stands
      not-empty [] (l ∷ ls) s a of none = a
      not-empty (g ∷ gs) ls s a of none = around-some meaning problem keying task gs (visited g.path g.worth g.held) (g.inside ++ []) (sym s.0 ∙ none)
