-- The steps of a walk: a level gives a node, a node is visited or cut, a level ends, and tasks are split off and recorded.
use Rattle.std.proofs.Common.{◌≡◌, ◌≢◌, ℕ, suc, ◌<◌, ◌≤◌, List, [], ◌∷◌, ◌++◌, Some, inr, ap, sym, subst, ◌∙◌, arith, append-nil}
use Rattle.std.specs.Prelude.{IfSome}
use Rattle.std.specs.List.{AllByRecursion, Contains}
use Rattle.std.proofs.lemmas.List.Elements.{All-contains}
use Rattle.yew_best.specs.Seats.{SeatView}
use Rattle.yew_laws.specs.SearchTree.{SearchTree, bound_at}
use Rattle.yew_log.specs.Attained.{limit}
use Rattle.yew_log.specs.HeldValues.{IsLater, HeldRises, IsDue, IsJudged, CountsFor, IsUncut}
use Rattle.yew_log.specs.Notes.{Note, visited, cut, ended, Judgement, judgement, values, visits, visit_in, cut_in, judgement_in}
use Rattle.yew_log.proofs.Blocks.{IsBlock}
use Rattle.yew_log.proofs.Frames.{Frame, with_more, around, around-end, frames-block, frames-close, closed}
use Rattle.yew_log.proofs.Nesting.{all-flat}
use Rattle.yew_log.proofs.Places.{AtEach-append}
use Rattle.yew_stack.specs.Levels.{LevelView, Gives}
use Rattle.yew_walk.specs.declared.keying.Keying.{Keying}
use Rattle.yew_walk.specs.Keys.{key_of, held_of, limit_of, kind_of, gap_in}
use Rattle.yew_walk.specs.Seats.{IsRead}
use Rattle.yew_walk.specs.UnderWay.{AreAligned, HasShape, IsNext}
use Rattle.yew_walk.proofs.KeyOrder.{uncut-above, worth-permits}
use Rattle.yew_walk.proofs.SeatWays.{Knows}

-- the highest level gives a child
pub aligned-gives : {N : Type 0} (frames : List Frame) (top rest : LevelView N) (lower : List (LevelView N)) (task : List ℕ) (notes : List Note) (path : List ℕ) (node : N) → HasShape task notes frames → AreAligned frames (top ∷ lower) → Gives top path node rest → AreAligned frames (rest ∷ lower) × IsNext task notes frames (rest ∷ lower) path
aligned-gives [] top rest lower task notes path node s a g = absurd a
aligned-gives (f ∷ fs) top rest lower task notes path node s a g =
    let given = g.given_is in (
      (g.parent_is ∙ a.0, (omega (arith, a.1.0, given), a.1.1)),
      (top.given, (g.path_is ∙ ap (λ p. p ++ top.given ∷ []) a.0, (a.1.0, omega (arith, given)))),
    )

-- the highest level's open visit is closed, and the one below goes on
pub record AreClosed {N : Type 0} (task : List ℕ) (notes : List Note) (path : List ℕ) (lower : List (LevelView N)) : Type 0 where
  pub frames : List Frame
  pub shape : HasShape task (notes ++ ended path ∷ []) frames
  pub aligned : AreAligned frames lower

push-same : (path : List ℕ) (j k : ℕ) → path ++ j ∷ [] ≡ path ++ k ∷ [] → j ≡ k
push-same [] j k e = cc
push-same (n ∷ path) j k e = push-same path j k cc

pub aligned-ends : {N : Type 0} (frames : List Frame) (top : LevelView N) (lower : List (LevelView N)) (task : List ℕ) (notes : List Note) (path : List ℕ) → HasShape task notes frames → AreAligned frames (top ∷ lower) → top.parent ≡ path → AreClosed task notes path lower
aligned-ends [] top lower task notes path s a e = absurd a
aligned-ends (g ∷ []) top [] task notes path s a e =
    let here : g.path ≡ path = sym a.0 ∙ e in
    let stands : g.path ≡ task = s.1.1.0 in
    record {
      frames = [];
      shape = inr (subst (λ ns. IsBlock task ns) (is here) (subst (λ p. IsBlock p (closed g)) stands (frames-close task g [] s.1)));
      aligned = tt;
    }
  where
    is : g.path ≡ path → closed g ≡ notes ++ ended path ∷ []
    is here =
        ap (λ p. visited g.path g.worth g.held ∷ (g.inside ++ ended p ∷ [])) here
        ∙ ap (λ ns. visited g.path g.worth g.held ∷ (ns ++ ended path ∷ [])) (sym (append-nil g.inside))
        ∙ ap (λ ns. ns ++ ended path ∷ []) (sym s.0)
aligned-ends (g ∷ []) top (level ∷ lower) task notes path s a e = absurd a.1.1
aligned-ends (g ∷ f ∷ fs) top [] task notes path s a e = absurd a.1.1
aligned-ends (g ∷ f ∷ fs) top (level ∷ lower) task notes path s a e =
    let here : g.path ≡ path = sym a.0 ∙ e in
    let k = s.1.1.0.0 in
    let block : IsBlock (f.path ++ k ∷ []) (closed g) = subst (λ p. IsBlock p (closed g)) s.1.1.0.1.1 (frames-close task g (f ∷ fs) s.1) in
    let done = frames-block task f fs k (closed g) s.1.1.1 s.1.1.0.1.0 block in
    let under = a.1.1.1.0 in
    let same : k ≡ under.0 = push-same f.path k under.0 (sym s.1.1.0.1.1 ∙ under.1.0) in
    let below : suc k ≤ level.given = omega (arith, same, under.1.1) in
    record {
      frames = with_more f (suc k) (closed g) ∷ fs;
      shape = (ap (λ ns. ns ++ ended path ∷ []) s.0 ∙ ap (λ p. around (g ∷ f ∷ fs) [] ++ ended p ∷ []) (sym here) ∙ sym (around-end g f fs (suc k)), done);
      aligned = (a.1.1.0, (below, a.1.1.1.1));
    }

module _ {N : Type 0} (t : SearchTree N) (keying : Keying) where
  -- a visit whose bound is above what the word permits to cut had to be made
  pub due-above : (seat : SeatView) (notes : List Note) (word bound : ℕ) (v : Judgement) → Knows keying seat notes → IsRead seat word → v.held ≡ held_of keying word → bound_at t v.path ≡ Some bound → limit_of keying word < key_of keying bound → IsDue t (gap_in keying) (kind_of keying) notes v
  due-above seat notes word bound v k r is at above = record {
    over_worths = over (visits notes) k.worths;
    over_held = subst (λ b. IfSome b (IsUncut (kind_of keying) (gap_in keying) v.held)) (sym at) (subst (λ h. IsUncut (kind_of keying) (gap_in keying) h bound) (sym is) (uncut-above keying bound word above));
  }
    where
      over : (us : List Judgement) → AllByRecursion (λ worth. Contains seat.offered (key_of keying worth)) (values us) → AllByRecursion (λ u. CountsFor (kind_of keying) u v → IfSome (bound_at t v.path) (λ b. limit (gap_in keying) u.value < b)) us
      over [] a = tt
      over (u ∷ us) a =
          let low = All-contains (λ x. x ≤ word) seat.offered (key_of keying u.value) r.at_least_offered a.0 in
          let less = worth-permits keying u.value bound word low above in
          ((λ counts. subst (λ b. IfSome b (λ b'. limit (gap_in keying) u.value < b')) (sym at) less), over us a.1)

  -- a visit keeps rule 8
  pub judged-visit : (notes : List Note) (path : List ℕ) (worth held : ℕ) → IsJudged t (gap_in keying) (kind_of keying) notes → (path ≢ [] → IsDue t (gap_in keying) (kind_of keying) notes (judgement path worth held)) → IsJudged t (gap_in keying) (kind_of keying) (notes ++ visited path worth held ∷ [])
  judged-visit notes path worth held j due = record {
    visits_due = AtEach-append (λ before note. AllByRecursion (λ v. v.path ≢ [] → IsDue t (gap_in keying) (kind_of keying) before v) (visit_in note)) [] notes (visited path worth held ∷ []) j.visits_due ((due, tt), tt);
    cuts_below = all-flat (λ c. c.path ≢ []) cut_in notes (visited path worth held ∷ []) j.cuts_below tt;
    cuts_permitted = all-flat (λ c. c.value ≤ limit (gap_in keying) c.held) cut_in notes (visited path worth held ∷ []) j.cuts_permitted tt;
  }

  -- a cut keeps rule 8
  pub judged-cut : (notes : List Note) (path : List ℕ) (bound held : ℕ) → IsJudged t (gap_in keying) (kind_of keying) notes → path ≢ [] → bound ≤ limit (gap_in keying) held → IsJudged t (gap_in keying) (kind_of keying) (notes ++ cut path bound held ∷ [])
  judged-cut notes path bound held j inner le =
      record {
        visits_due = AtEach-append (λ before note. AllByRecursion (λ v. v.path ≢ [] → IsDue t (gap_in keying) (kind_of keying) before v) (visit_in note)) [] notes (cut path bound held ∷ []) j.visits_due (tt, tt);
        cuts_below = all-flat (λ c. c.path ≢ []) cut_in notes (cut path bound held ∷ []) j.cuts_below (inner, tt);
        cuts_permitted = all-flat (λ c. c.value ≤ limit (gap_in keying) c.held) cut_in notes (cut path bound held ∷ []) j.cuts_permitted (le, tt);
      }

  -- an entry that is neither keeps it too
  pub record IsOther (note : Note) : Type 0 where
    pub no_visit : visit_in note ≡ []
    pub no_cut : cut_in note ≡ []
    pub no_judgement : judgement_in note ≡ []

  pub judged-other : (notes : List Note) (note : Note) → IsOther note → IsJudged t (gap_in keying) (kind_of keying) notes → IsJudged t (gap_in keying) (kind_of keying) (notes ++ note ∷ [])
  judged-other notes note o j = record {
    visits_due = AtEach-append (λ before n. AllByRecursion (λ v. v.path ≢ [] → IsDue t (gap_in keying) (kind_of keying) before v) (visit_in n)) [] notes (note ∷ []) j.visits_due (subst (AllByRecursion (λ v. v.path ≢ [] → IsDue t (gap_in keying) (kind_of keying) notes v)) (sym o.no_visit) tt, tt);
    cuts_below = all-flat (λ c. c.path ≢ []) cut_in notes (note ∷ []) j.cuts_below (subst (λ cs. AllByRecursion (λ c. c.path ≢ []) (cs ++ [])) (sym o.no_cut) tt);
    cuts_permitted = all-flat (λ c. c.value ≤ limit (gap_in keying) c.held) cut_in notes (note ∷ []) j.cuts_permitted (subst (λ cs. AllByRecursion (λ c. c.value ≤ limit (gap_in keying) c.held) (cs ++ [])) (sym o.no_cut) tt);
  }

  pub rises-quiet : (notes : List Note) (note : Note) → IsOther note → HeldRises notes → HeldRises (notes ++ note ∷ [])
  rises-quiet notes note o r =
      AtEach-append (λ before n. AllByRecursion (IsLater before) (judgement_in n)) [] notes (note ∷ []) r
      (subst (AllByRecursion (IsLater notes)) (sym o.no_judgement) tt, tt)

  pub rises-visit : (notes : List Note) (path : List ℕ) (worth held : ℕ) → IsLater notes (judgement path worth held) → HeldRises notes → HeldRises (notes ++ visited path worth held ∷ [])
  rises-visit notes path worth held later r = AtEach-append (λ before n. AllByRecursion (IsLater before) (judgement_in n)) [] notes (visited path worth held ∷ []) r ((later, tt), tt)

  pub rises-cut : (notes : List Note) (path : List ℕ) (bound held : ℕ) → IsLater notes (judgement path bound held) → HeldRises notes → HeldRises (notes ++ cut path bound held ∷ [])
  rises-cut notes path bound held later r = AtEach-append (λ before n. AllByRecursion (IsLater before) (judgement_in n)) [] notes (cut path bound held ∷ []) r ((later, tt), tt)
