-- A walk stays under way: what a node that is visited or cut and a level that ends make of it.
use Rattle.std.proofs.Common.{◌≡◌, ◌≢◌, ℕ, suc, ◌+◌, ◌<◌, ◌≤◌, List, [], ◌∷◌, ◌++◌, map, Some, ◌⊎◌, inl, inr, refl, ap, ap₂, sym, subst, ◌∙◌, arith, append-nil}
use mathlib.Core.List.{reverse}
use Rattle.std.specs.Prelude.{IsSome, IfSome}
use Rattle.std.specs.List.{AllByRecursion, flat_map, sum_by}
use Rattle.std.proofs.lemmas.List.{reverse-append, map-append}
use Rattle.std.proofs.lemmas.List.Concat.{flat_map-append}
use Rattle.std.proofs.lemmas.List.Sums.{sum_by-append}
use Rattle.yew_best.specs.Seats.{SeatView}
use Rattle.yew_laws.specs.declared.problem.Problem.{Ghosts}
use Rattle.yew_laws.specs.declared.problem.Task.{Task}
use Rattle.yew_laws.specs.SearchTree.{SearchTree, search_tree, at_path, bound_at, below, below_node, IsTask}
use Rattle.yew_laws.specs.Tree.{Member, paths, prefixed, forest, IsRanked}
use Rattle.yew_laws.proofs.Members.{AllByRecursion-append}
use Rattle.yew_laws.proofs.Trees.{tree-unfolds}
use Rattle.std.specs.Option.{option_map}
use Rattle.yew_log.specs.Attained.{limit}
use Rattle.yew_log.specs.HeldValues.{IsDue}
use Rattle.yew_log.specs.Notes.{Note, taken, visited, cut, spawned, handed, ended, Judgement, judgement, taken_in, visit_in, cut_in, sent_in, taken_paths, sent_paths}
use Rattle.yew_log.specs.Segment.{Begins, covered_paths}
use Rattle.yew_log.proofs.Blocks.{IsBlock, block-cut}
use Rattle.yew_log.proofs.Frames.{Frame, frame, with_more, around, AreFrames, around-more, around-visit, frames-block, frames-visit, frames-first}
use Rattle.yew_log.proofs.Growth.{IsValued-append, covered_paths-append}
use Rattle.yew_stack.specs.Levels.{LevelValue, LevelView, levels}
use Rattle.yew_stack.specs.ToCome.{to_come, levels_to_come, node_tree, IsOpen}
use Rattle.yew_stack.specs.Turns.{TopGives, TopEnds}
use Rattle.yew_stack.proofs.Coming.{gives-to_come, gives-open, ends-to_come, ends-open, open-new, to_come-opens}
use Rattle.yew_walk.specs.declared.keying.Keying.{Keying}
use Rattle.yew_walk.specs.Keys.{key_of, held_of, limit_of, kind_of, gap_in}
use Rattle.yew_walk.specs.UnderWay.{AreBelow, AreAligned, HasShape, IsNext, IsUnderWay}
use Rattle.yew_walk.specs.Verdicts.{IsVisit, IsCut}
use Rattle.yew_walk.proofs.KeyOrder.{bound-permitted}
use Rattle.yew_walk.proofs.SeatWays.{goes-append, goes-knows, knows-later, Knows}
use Rattle.yew_walk.proofs.WalkSteps.{aligned-gives, aligned-ends, due-above, judged-visit, judged-cut, judged-other, rises-visit, rises-cut, rises-quiet, IsOther}

module _ {S N K : Type 0} (meaning : Ghosts S N K) (problem : S) (keying : Keying) (task : List ℕ) where
  abbrev t : SearchTree N
  t = search_tree meaning problem

  abbrev Ranked : Type 0
  Ranked = IsRanked (meaning.sound problem) (meaning.children problem) (meaning.rank problem)

  abbrev UnderWay : SeatView → SeatView → List Note → List Frame → List (LevelView N) → List (List ℕ) → Type 0
  UnderWay = IsUnderWay meaning problem keying task

  abbrev seen : List (LevelValue K) → List (LevelView N)
  seen stack = levels (meaning.remaining problem) stack

  abbrev Open : LevelView N → Type 0
  Open = IsOpen (meaning.sound problem) (meaning.children problem) (meaning.root problem)

  abbrev coming : List (LevelView N) → List (Member N)
  coming ls = levels_to_come (node_tree meaning problem) ls

  abbrev IsThere : List ℕ → Type 0
  IsThere path = IsSome (at_path t path)

  pub found-there : (path : List ℕ) (node : N) → IsTask meaning problem path node → IsThere path
  found-there path node is = subst IsSome (sym is.found) refl

  sent-push : (notes : List Note) (note : Note) → sent_in note ≡ [] → sent_paths (notes ++ note ∷ []) ≡ sent_paths notes
  sent-push notes note none = flat_map-append sent_in notes (note ∷ []) ∙ ap (λ ps. sent_paths notes ++ (ps ++ [])) none ∙ append-nil (sent_paths notes)

  -- the paths at and below a node, and those to come of its level
  node-below : Ranked → (path : List ℕ) (node : N) → IsTask meaning problem path node → below t path ≡ path ∷ paths (prefixed path (forest (node_tree meaning problem) 0 (meaning.children problem node)))
  node-below ranked path node is =
      ap (below_node t path) is.found
      ∙ ap (λ ms. paths (prefixed path ms)) (tree-unfolds ranked node is.is_sound)
      ∙ ap (λ (p : List ℕ). p ∷ paths (prefixed path (forest (node_tree meaning problem) 0 (meaning.children problem node)))) (append-nil path)

  task-below : (path : List ℕ) (node : N) → IsTask meaning problem path node → paths (prefixed path (node_tree meaning problem node)) ≡ below t path
  task-below path node is = sym (ap (below_node t path) is.found)

  paths-append : (xs ys : List (Member N)) → paths (xs ++ ys) ≡ paths xs ++ paths ys
  paths-append xs ys = map-append (λ (m : Member N). m.path) xs ys

  tops-push : (ls : List (LevelView N)) (level : LevelView N) → reverse (ls ++ level ∷ []) ≡ level ∷ reverse ls
  tops-push ls level = reverse-append ls (level ∷ [])

  -- nothing was done yet
  pub underway-start : IsSome (at_path t task) → (seat : SeatView) → UnderWay seat seat [] [] [] (task ∷ [])
  underway-start there seat = record {
    goes = refl;
    shape = inl refl;
    aligned = tt;
    covered = record { weighs = λ w. ap (sum_by w) (append-nil (below t task)) };
    task_there = there;
    sent_there = tt;
    between_there = (there, tt);
    valued = record { worths = tt; bounds = tt };
    rises = (tt, tt);
    judged = record { visits_due = (tt, tt); cuts_below = tt; cuts_permitted = tt };
    untaken = refl;
    begins = inl refl;
    levels_open = tt;
  }

  -- the highest level gives a node
  pub underway-gives : Ranked → (first now : SeatView) (notes : List Note) (frames : List Frame) (old new : List (LevelValue K)) (given : Task N) → UnderWay first now notes frames (seen old) [] → TopGives (seen old) given.path.numbers given.node (seen new) → UnderWay first now notes frames (seen new) (given.path.numbers ∷ []) × IsNext task notes frames (reverse (seen new)) given.path.numbers
  underway-gives ranked first now notes frames old new given u turn =
      let opened = gives-open meaning problem ranked old new given turn u.levels_open in
      let ahead = gives-to_come meaning problem old new given turn in
      let old_tops : reverse (seen old) ≡ turn.top ∷ reverse turn.lower = ap reverse turn.old_is ∙ reverse-append turn.lower (turn.top ∷ []) in
      let new_tops : reverse (seen new) ≡ turn.rest ∷ reverse turn.lower = ap reverse turn.new_is ∙ reverse-append turn.lower (turn.rest ∷ []) in
      let both = aligned-gives frames turn.top turn.rest (reverse turn.lower) task notes given.path.numbers given.node u.shape (subst (AreAligned frames) old_tops u.aligned) turn.gives in (
        record {
          goes = u.goes;
          shape = u.shape;
          aligned = subst (AreAligned frames) (sym new_tops) both.0;
          covered = record {
            weighs = λ w.
                let before = u.covered.weighs w in
                let c0 = sum_by-append w (covered_paths t notes) (paths (to_come meaning problem old) ++ []) in
                let c1 = sum_by-append w (paths (to_come meaning problem old)) [] in
                let c2 = ap (λ ms. sum_by w (paths ms)) ahead in
                let c3 = ap (sum_by w) (paths-append (prefixed given.path.numbers (node_tree meaning problem given.node)) (to_come meaning problem new)) in
                let c4 = sum_by-append w (paths (prefixed given.path.numbers (node_tree meaning problem given.node))) (paths (to_come meaning problem new)) in
                let c5 = ap (sum_by w) (task-below given.path.numbers given.node opened.1) in
                let d0 = sum_by-append w (covered_paths t notes) (paths (to_come meaning problem new) ++ flat_map (below t) (given.path.numbers ∷ [])) in
                let d1 = sum_by-append w (paths (to_come meaning problem new)) (flat_map (below t) (given.path.numbers ∷ [])) in
                let d2 = ap (sum_by w) (append-nil (below t given.path.numbers)) in
                omega (arith, before, c0, c1, c2, c3, c4, c5, d0, d1, d2);
          };
          task_there = u.task_there;
          sent_there = u.sent_there;
          between_there = (found-there given.path.numbers given.node opened.1, tt);
          valued = u.valued;
          rises = u.rises;
          judged = u.judged;
          untaken = u.untaken;
          begins = u.begins;
          levels_open = opened.0;
        },
        subst (λ ls. IsNext task notes frames ls given.path.numbers) (sym new_tops) both.1,
      )

  -- the highest level ends
  pub record Closed (first now : SeatView) (notes : List Note) (ls : List (LevelView N)) : Type 0 where
    pub frames : List Frame
    pub is : UnderWay first now notes frames ls []

  pub begins-push : (notes : List Note) (note : Note) → ((notes ≡ []) → Begins task (note ∷ [])) → (notes ≡ []) ⊎ Begins task notes → (notes ++ note ∷ [] ≡ []) ⊎ Begins task (notes ++ note ∷ [])
  begins-push [] note f b = inr (f refl)
  begins-push (n ∷ ns) note f (inl e) = absurd (cc)
  begins-push (visited p w h ∷ ns) note f (inr b) = inr b
  begins-push (cut p w h ∷ ns) note f (inr b) = inr b
  begins-push (taken p ∷ ns) note f (inr b) = absurd b
  begins-push (spawned p ∷ ns) note f (inr b) = absurd b
  begins-push (handed p ∷ ns) note f (inr b) = absurd b
  begins-push (ended p ∷ ns) note f (inr b) = absurd b

  pub untaken-push : (notes : List Note) (note : Note) → taken_in note ≡ [] → taken_paths notes ≡ [] → taken_paths (notes ++ note ∷ []) ≡ []
  untaken-push notes note e u = flat_map-append taken_in notes (note ∷ []) ∙ ap₂ (λ xs ys. xs ++ ys) u (ap (λ xs. xs ++ []) e)

  pub around-some : (fs : List Frame) (note : Note) (notes : List Note) → around fs (note ∷ notes) ≢ []
  around-some [] note notes e = absurd (cc)
  around-some (f ∷ fs) note notes e = around-some fs (visited f.path f.worth f.held) (f.inside ++ note ∷ notes) e

  -- the first entry is the visit or the cut of the task
  begins-next : (notes : List Note) (frames : List Frame) (above : List (LevelView N)) (path : List ℕ) (note : Note) → HasShape task notes frames → IsNext task notes frames above path → (path ≡ task → Begins task (note ∷ [])) → (notes ≡ []) → Begins task (note ∷ [])
  begins-next notes [] above path note s next f none = f next.0
  begins-next notes (f ∷ fs) above path note s next g none = absurd (around-some fs (visited f.path f.worth f.held) (f.inside ++ []) (sym s.0 ∙ none))

  covered-end : (notes : List Note) (path : List ℕ) → covered_paths t (notes ++ ended path ∷ []) ≡ covered_paths t notes
  covered-end notes path = ap₂ (λ vs cs. vs ++ flat_map (below t) cs)
      (ap (map (λ (j : Judgement). j.path)) (flat_map-append visit_in notes (ended path ∷ []) ∙ append-nil (flat_map visit_in notes)))
      (ap₂ (λ us vs. us ++ vs) (ap (map (λ (j : Judgement). j.path)) (flat_map-append cut_in notes (ended path ∷ []) ∙ append-nil (flat_map cut_in notes)))
      (flat_map-append sent_in notes (ended path ∷ []) ∙ append-nil (flat_map sent_in notes)))

  other-ended : (path : List ℕ) → IsOther t keying (ended path)
  other-ended path = record { no_visit = refl; no_cut = refl; no_judgement = refl }

  pub underway-ends : (first now : SeatView) (notes : List Note) (frames : List Frame) (old new : List (LevelValue K)) (path : List ℕ) → UnderWay first now notes frames (seen old) [] → TopEnds (seen old) path (seen new) → Closed first now (notes ++ ended path ∷ []) (seen new)
  underway-ends first now notes frames old new path u turn =
      let old_tops : reverse (seen old) ≡ turn.top ∷ reverse (seen new) = ap reverse turn.old_is ∙ reverse-append (levels (meaning.remaining problem) new) (turn.top ∷ []) in
      let aligned = subst (AreAligned frames) old_tops u.aligned in
      let c = aligned-ends frames turn.top (reverse (seen new)) task notes path u.shape aligned turn.parent_is in
      record {
        frames = c.frames;
        is = record {
          goes = goes-append t keying first now now notes (ended path ∷ []) u.goes refl;
          shape = c.shape;
          aligned = c.aligned;
          covered = record {
            weighs = λ w.
                ap (λ (ps : List (List ℕ)). sum_by w (ps ++ (paths (to_come meaning problem new) ++ []))) (covered-end notes path)
                ∙ ap (λ (ms : List (Member N)). sum_by w (covered_paths t notes ++ (paths ms ++ []))) (sym (ends-to_come meaning problem old new path turn))
                ∙ u.covered.weighs w;
          };
          task_there = u.task_there;
          sent_there = subst (AllByRecursion IsThere) (sym (sent-push notes (ended path) refl)) u.sent_there;
          between_there = tt;
          valued = IsValued-append t notes (ended path ∷ []) u.valued (record { worths = tt; bounds = tt });
          rises = rises-quiet t keying (taken task ∷ notes) (ended path) (other-ended path) u.rises;
          judged = judged-other t keying (taken task ∷ notes) (ended path) (other-ended path) u.judged;
          untaken = untaken-push notes (ended path) refl u.untaken;
          begins = begins-push notes (ended path) (λ none. absurd (not-empty frames u.shape aligned none)) u.begins;
          levels_open = ends-open meaning problem old new path turn u.levels_open;
        };
      }
    where
      not-empty : (fs : List Frame) → HasShape task notes fs → AreAligned fs (turn.top ∷ reverse (seen new)) → notes ≢ []
      not-empty [] s a none = absurd a
      not-empty (f ∷ fs) s a none = around-some fs (visited f.path f.worth f.held) (f.inside ++ []) (sym s.0 ∙ none)

  -- the shape after a visit
  visit-shape : (notes : List Note) (frames : List Frame) (above : List (LevelView N)) (path : List ℕ) (worth held : ℕ) (fresh : LevelView N) → fresh.parent ≡ path → HasShape task notes frames → AreAligned frames above → IsNext task notes frames above path → HasShape task (notes ++ visited path worth held ∷ []) (frame path worth held 0 [] ∷ frames) × AreAligned (frame path worth held 0 [] ∷ frames) (fresh ∷ above)
  visit-shape notes [] above path worth held fresh is s a next = (
    (ap (λ ns. ns ++ visited path worth held ∷ []) next.1, subst (λ p. AreFrames task (frame p worth held 0 [] ∷ [])) (sym next.0) (frames-first task worth held)),
    (is, (omega arith, below above a)),
  )
    where
      below : (ls : List (LevelView N)) → AreAligned [] ls → AreBelow path [] ls
      below [] b = tt
      below (l ∷ ls) b = absurd b
  visit-shape notes (f ∷ fs) [] path worth held fresh is s a next = absurd a
  visit-shape notes (f ∷ fs) (level ∷ lower) path worth held fresh is s a next =
      let k = next.0 in
      let at : path ≡ f.path ++ k ∷ [] = next.1.0 in (
        (
          ap (λ ns. ns ++ visited path worth held ∷ []) s.0 ∙ sym (around-visit f fs path worth held),
          subst (λ p. AreFrames task (frame p worth held 0 [] ∷ f ∷ fs)) (sym at) (frames-visit task f fs k worth held s.1 next.1.1.0),
        ),
        (is, (omega arith, (a.0, ((k, (at, next.1.1.1)), a.1.1)))),
      )

  covered-visit : (w : List ℕ → ℕ) (notes : List Note) (path : List ℕ) (worth held : ℕ) → sum_by w (covered_paths t (notes ++ visited path worth held ∷ [])) ≡ sum_by w (covered_paths t notes) + w path
  covered-visit w notes path worth held =
      let c = (covered_paths-append t notes (visited path worth held ∷ [])).weighs w in
      let s = sum_by-append w (covered_paths t notes) (path ∷ []) in
      omega (arith, c, s)

  pub underway-visit : Ranked → (first now after : SeatView) (notes : List Note) (frames : List Frame) (ls : List (LevelView N)) (path : List ℕ) (node : N) (worth held : ℕ) → IsTask meaning problem path node → UnderWay first now notes frames ls (path ∷ []) → IsNext task notes frames (reverse ls) path → IsVisit meaning problem keying path node worth held now after → UnderWay first after (notes ++ visited path worth held ∷ []) (frame path worth held 0 [] ∷ frames) (ls ++ record { parent = path; given = 0; remaining = meaning.children problem node } ∷ []) []
  underway-visit ranked first now after notes frames ls path node worth held is u next v =
      let level : LevelView N = record { parent = path; given = 0; remaining = meaning.children problem node } in
      let shape = visit-shape notes frames (reverse ls) path worth held level refl u.shape u.aligned next in
      let knows = goes-knows t keying first now (taken task ∷ notes) u.goes in
      let bound = meaning.bound problem node in
      let stands : bound_at t path ≡ Some bound = ap (λ o. option_map (meaning.bound problem) o) is.found in
      record {
        goes = goes-append t keying first now after notes (visited path worth held ∷ []) u.goes (v.word, record { is_read = v.is_read; held_is = v.held_is; due = λ inner. subst (λ o. IfSome o (λ b. limit_of keying v.word < key_of keying b)) (sym stands) (above inner v.due) }, v.seat_is);
        shape = shape.0;
        aligned = subst (AreAligned (frame path worth held 0 [] ∷ frames)) (sym (tops-push ls level)) shape.1;
        covered = record {
          weighs = λ w.
              let before = u.covered.weighs w in
              let c0 = sum_by-append w (covered_paths t notes) (paths (coming ls) ++ flat_map (below t) (path ∷ [])) in
              let c1 = sum_by-append w (paths (coming ls)) (flat_map (below t) (path ∷ [])) in
              let c2 = ap (sum_by w) (append-nil (below t path)) in
              let children = prefixed path (forest (node_tree meaning problem) 0 (meaning.children problem node)) in
              let c3 = ap (sum_by w) (node-below ranked path node is) ∙ sum_by-append w (path ∷ []) (paths children) in
              let d3 = ap (λ ms. sum_by w (paths ms)) (to_come-opens (node_tree meaning problem) ls path (meaning.children problem node)) in
              let d4 = ap (sum_by w) (paths-append children (coming ls)) in
              let d5 = sum_by-append w (paths children) (paths (coming ls)) in
              let d0 = sum_by-append w (covered_paths t (notes ++ visited path worth held ∷ [])) (paths (coming (ls ++ level ∷ [])) ++ []) in
              let d1 = covered-visit w notes path worth held in
              let d2 = sum_by-append w (paths (coming (ls ++ level ∷ []))) [] in
              let total : sum_by w (covered_paths t (notes ++ visited path worth held ∷ [])) + sum_by w (paths (coming (ls ++ level ∷ [])) ++ []) ≡ sum_by w (below t task) = omega (arith, before, c0, c1, c2, c3, d1, d2, d3, d4, d5) in
              d0 ∙ total;
        };
        task_there = u.task_there;
        sent_there = subst (AllByRecursion IsThere) (sym (sent-push notes (visited path worth held) refl)) u.sent_there;
        between_there = tt;
        valued = IsValued-append t notes (visited path worth held ∷ []) u.valued (record { worths = (ap (λ o. option_map (meaning.worth problem) o) is.found ∙ ap (λ (n : ℕ). Some n) (sym v.worth_is), tt); bounds = tt });
        rises = rises-visit t keying (taken task ∷ notes) path worth held (knows-later keying now (taken task ∷ notes) v.word (judgement path worth held) knows v.is_read v.held_is) u.rises;
        judged = judged-visit t keying (taken task ∷ notes) path worth held u.judged (λ inner. due inner knows stands v.due);
        untaken = untaken-push notes (visited path worth held) refl u.untaken;
        begins = begins-push notes (visited path worth held) (begins-next notes frames (reverse ls) path (visited path worth held) u.shape next (λ e. e)) u.begins;
        levels_open = AllByRecursion-append Open ls (level ∷ []) u.levels_open (open-new ranked path node (meaning.children problem node) is.found is.is_sound refl, tt);
      }
    where
      above : path ≢ [] → (path ≡ []) ⊎ (limit_of keying v.word < key_of keying (meaning.bound problem node)) → limit_of keying v.word < key_of keying (meaning.bound problem node)
      above inner (inl root) = absurd (inner root)
      above inner (inr over) = over

      due : path ≢ [] → Knows keying now (taken task ∷ notes) → bound_at t path ≡ Some (meaning.bound problem node) → (path ≡ []) ⊎ (limit_of keying v.word < key_of keying (meaning.bound problem node)) → IsDue t (gap_in keying) (kind_of keying) (taken task ∷ notes) (judgement path worth held)
      due inner k at (inl root) = absurd (inner root)
      due inner k at (inr above) = due-above t keying now (taken task ∷ notes) v.word (meaning.bound problem node) (judgement path worth held) k v.is_read v.held_is at above

  -- the shape after a cut
  cut-shape : (notes : List Note) (frames : List Frame) (above : List (LevelView N)) (path : List ℕ) (bound held : ℕ) → HasShape task notes frames → AreAligned frames above → IsNext task notes frames above path → (fs : List Frame) × (HasShape task (notes ++ cut path bound held ∷ []) fs × AreAligned fs above)
  cut-shape notes [] above path bound held s a next =
      ([], (inr (subst (λ ns. IsBlock task (ns ++ cut path bound held ∷ [])) (sym next.1) (subst (λ p. IsBlock task (cut p bound held ∷ [])) (sym next.0) (block-cut task bound held))), a))
  cut-shape notes (f ∷ fs) [] path bound held s a next = absurd a
  cut-shape notes (f ∷ fs) (level ∷ lower) path bound held s a next =
      let k = next.0 in
      let at : path ≡ f.path ++ k ∷ [] = next.1.0 in
      let block : IsBlock (f.path ++ k ∷ []) (cut path bound held ∷ []) = subst (λ p. IsBlock (f.path ++ k ∷ []) (cut p bound held ∷ [])) (sym at) (block-cut (f.path ++ k ∷ []) bound held) in (
        with_more f (suc k) (cut path bound held ∷ []) ∷ fs,
        (
          (ap (λ ns. ns ++ cut path bound held ∷ []) s.0 ∙ sym (around-more f fs (suc k) (cut path bound held ∷ [])), frames-block task f fs k (cut path bound held ∷ []) s.1 next.1.1.0 block),
          (a.0, (omega (arith, next.1.1.1), a.1.1)),
        ),
      )

  covered-cut : (w : List ℕ → ℕ) (notes : List Note) (path : List ℕ) (bound held : ℕ) → sum_by w (covered_paths t (notes ++ cut path bound held ∷ [])) ≡ sum_by w (covered_paths t notes) + sum_by w (below t path)
  covered-cut w notes path bound held =
      let c = (covered_paths-append t notes (cut path bound held ∷ [])).weighs w in
      let s = sum_by-append w (covered_paths t notes) (below t path ++ []) in
      let e = ap (sum_by w) (append-nil (below t path)) in
      omega (arith, c, s, e)

  -- the node in hand is cut
  pub underway-cut : (first now after : SeatView) (notes : List Note) (frames : List Frame) (ls : List (LevelView N)) (path : List ℕ) (node : N) (bound held : ℕ) → IsTask meaning problem path node → UnderWay first now notes frames ls (path ∷ []) → IsNext task notes frames (reverse ls) path → IsCut meaning problem keying path node bound held now after → Closed first after (notes ++ cut path bound held ∷ []) ls
  underway-cut first now after notes frames ls path node bound held is u next v =
      let shape = cut-shape notes frames (reverse ls) path bound held u.shape u.aligned next in
      let knows = goes-knows t keying first now (taken task ∷ notes) u.goes in
      let low : bound ≤ limit (gap_in keying) held = subst (λ h. bound ≤ limit (gap_in keying) h) (sym v.held_is) (subst (λ b. b ≤ limit (gap_in keying) (held_of keying v.word)) (sym v.bound_is) (bound-permitted keying (meaning.bound problem node) v.word v.permitted)) in
      record {
        frames = shape.0;
        is = record {
          goes = goes-append t keying first now after notes (cut path bound held ∷ []) u.goes (v.word, record { is_read = v.is_read; held_is = v.held_is; permitted = subst (λ b. key_of keying b ≤ limit_of keying v.word) (sym v.bound_is) v.permitted }, v.seat_is);
          shape = shape.1.0;
          aligned = shape.1.1;
          covered = record {
            weighs = λ w.
                let before = u.covered.weighs w in
                let c0 = sum_by-append w (covered_paths t notes) (paths (coming ls) ++ flat_map (below t) (path ∷ [])) in
                let c1 = sum_by-append w (paths (coming ls)) (flat_map (below t) (path ∷ [])) in
                let c2 = ap (sum_by w) (append-nil (below t path)) in
                let d0 = sum_by-append w (covered_paths t (notes ++ cut path bound held ∷ [])) (paths (coming ls) ++ []) in
                let d1 = covered-cut w notes path bound held in
                let d2 = sum_by-append w (paths (coming ls)) [] in
                omega (arith, before, c0, c1, c2, d0, d1, d2);
          };
          task_there = u.task_there;
          sent_there = subst (AllByRecursion IsThere) (sym (sent-push notes (cut path bound held) refl)) u.sent_there;
          between_there = tt;
          valued = IsValued-append t notes (cut path bound held ∷ []) u.valued (record { worths = tt; bounds = (ap (λ o. option_map (meaning.bound problem) o) is.found ∙ ap (λ (n : ℕ). Some n) (sym v.bound_is), tt) });
          rises = rises-cut t keying (taken task ∷ notes) path bound held (knows-later keying now (taken task ∷ notes) v.word (judgement path bound held) knows v.is_read v.held_is) u.rises;
          judged = judged-cut t keying (taken task ∷ notes) path bound held u.judged v.inner low;
          untaken = untaken-push notes (cut path bound held) refl u.untaken;
          begins = begins-push notes (cut path bound held) (begins-next notes frames (reverse ls) path (cut path bound held) u.shape next (λ e. e)) u.begins;
          levels_open = u.levels_open;
        };
      }
