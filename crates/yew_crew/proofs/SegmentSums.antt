-- What the segments of a worker say together: the sums of what each of them says.
use Rattle.std.proofs.Common.{◌≡◌, ℕ, ◌+◌, ◌≤◌, ◌∙◌, List, [], ◌∷◌, ◌++◌, map, refl, sym, ap, subst, append-nil, append_assoc, arith}
use Rattle.std.specs.List.{AllByRecursion, flat_map, sum_by}
use Rattle.std.proofs.lemmas.List.Concat.{flat_map-append}
use Rattle.std.proofs.lemmas.List.Sums.{sum_by-append, sum_by-cons}
use Rattle.yew_best.specs.Seats.{SeatView, has_read}
use Rattle.yew_laws.specs.SearchTree.{SearchTree, below}
use Rattle.yew_laws.proofs.Members.{AllByRecursion-append}
use Rattle.yew_log.specs.Lawful.{tasks_of}
use Rattle.yew_log.specs.Notes.{Note, taken, visited, cut, spawned, handed, ended, Judgement, values, held_values, visits, judgements, judgement_in, visit_in, visited_paths, cut_paths, sent_paths, taken_paths, taken_in}
use Rattle.yew_log.specs.Segment.{Segment, entries, entries_in, IsSegment, Begins, covered_paths}
use Rattle.yew_walk.specs.declared.keying.Keying.TheVariants.{Gap}
use Rattle.yew_walk.specs.Seats.{SeatGoes, has_offered}
use Rattle.yew_walk.specs.WorkerLogs.{SeatGoesOn}
use Rattle.yew_crew.specs.Working.{gap_walk}

module _ {N : Type 0} (t : SearchTree N) (h : List ℕ → ℕ) where
  -- what entries stand for, weighed
  abbrev weigh : List Note → ℕ
  weigh notes = sum_by h (visited_paths notes) + (sum_by h (flat_map (below t) (cut_paths notes)) + sum_by h (flat_map (below t) (sent_paths notes)))

  pub weigh-covered : (notes : List Note) → sum_by h (covered_paths t notes) ≡ weigh notes
  weigh-covered notes =
      let a = sum_by-append h (visited_paths notes) (flat_map (below t) (cut_paths notes ++ sent_paths notes)) in
      let b = ap (λ l. sum_by h l) (flat_map-append (below t) (cut_paths notes) (sent_paths notes)) in
      let c = sum_by-append h (flat_map (below t) (cut_paths notes)) (flat_map (below t) (sent_paths notes)) in omega arith

  pub weigh-append : (xs ys : List Note) → weigh (xs ++ ys) ≡ weigh xs + weigh ys
  weigh-append [] ys = omega arith
  weigh-append (taken p ∷ ns) ys = weigh-append ns ys
  weigh-append (ended p ∷ ns) ys = weigh-append ns ys
  weigh-append (visited p w k ∷ ns) ys = let r = weigh-append ns ys in let a = sum_by-cons h p (visited_paths (ns ++ ys)) in let b = sum_by-cons h p (visited_paths ns) in omega arith
  weigh-append (cut p b k ∷ ns) ys =
      let r = weigh-append ns ys in
      let a = sum_by-append h (below t p) (flat_map (below t) (cut_paths (ns ++ ys))) in let c = sum_by-append h (below t p) (flat_map (below t) (cut_paths ns)) in omega arith
  weigh-append (spawned p ∷ ns) ys =
      let r = weigh-append ns ys in
      let a = sum_by-append h (below t p) (flat_map (below t) (sent_paths (ns ++ ys))) in let c = sum_by-append h (below t p) (flat_map (below t) (sent_paths ns)) in omega arith
  weigh-append (handed p ∷ ns) ys =
      let r = weigh-append ns ys in
      let a = sum_by-append h (below t p) (flat_map (below t) (sent_paths (ns ++ ys))) in let c = sum_by-append h (below t p) (flat_map (below t) (sent_paths ns)) in omega arith

  -- each segment stands for all at and below its task
  pub weigh-segments : (segments : List Segment) → AllByRecursion (IsSegment t) segments → weigh (entries segments) ≡ sum_by h (flat_map (below t) (tasks_of segments))
  weigh-segments [] a = omega arith
  weigh-segments (s ∷ ss) a =
      let r = weigh-segments ss a.1 in
      let b = weigh-append (taken s.task ∷ s.body) (entries ss) in
      let c = weigh-covered s.body in
      let d = a.0.all_covered.weighs h in
      let e = sum_by-append h (below t s.task) (flat_map (below t) (tasks_of ss)) in omega arith

  -- the visits and the cuts, weighed
  abbrev judged : List Note → ℕ
  judged notes = sum_by h (visited_paths notes) + sum_by h (cut_paths notes)

  judged-append : (xs ys : List Note) → judged (xs ++ ys) ≡ judged xs + judged ys
  judged-append [] ys = omega arith
  judged-append (taken p ∷ ns) ys = judged-append ns ys
  judged-append (ended p ∷ ns) ys = judged-append ns ys
  judged-append (spawned p ∷ ns) ys = judged-append ns ys
  judged-append (handed p ∷ ns) ys = judged-append ns ys
  judged-append (visited p w k ∷ ns) ys = let r = judged-append ns ys in let a = sum_by-cons h p (visited_paths (ns ++ ys)) in let b = sum_by-cons h p (visited_paths ns) in omega arith
  judged-append (cut p b k ∷ ns) ys = let r = judged-append ns ys in let a = sum_by-cons h p (cut_paths (ns ++ ys)) in let c = sum_by-cons h p (cut_paths ns) in omega arith

  judged-begins : (task : List ℕ) (body : List Note) → Begins task body → h task ≤ judged body
  judged-begins task [] b = absurd b
  judged-begins task (visited p w k ∷ ns) b = let e = ap h b in let s = sum_by-cons h p (visited_paths ns) in omega arith
  judged-begins task (cut p c k ∷ ns) b = let e = ap h b in let s = sum_by-cons h p (cut_paths ns) in omega arith
  judged-begins task (taken p ∷ ns) b = absurd b
  judged-begins task (spawned p ∷ ns) b = absurd b
  judged-begins task (handed p ∷ ns) b = absurd b
  judged-begins task (ended p ∷ ns) b = absurd b

  -- each task is itself visited or cut
  pub judged-segments : (segments : List Segment) → AllByRecursion (IsSegment t) segments → sum_by h (tasks_of segments) ≤ judged (entries segments)
  judged-segments [] a = omega arith
  judged-segments (s ∷ ss) a =
      let r = judged-segments ss a.1 in
      let b = judged-append (taken s.task ∷ s.body) (entries ss) in
      let c = judged-begins s.task s.body a.0.begins in
      let d = sum_by-cons h s.task (tasks_of ss) in omega arith

-- a fact of all that is read of each segment is one of all that is read of all entries
pub all-segments : {Y : Type 0} (P : Y → Type 0) (f : Note → List Y) (segments : List Segment) → AllByRecursion (λ (s : Segment). AllByRecursion P (flat_map f (entries_in s))) segments → AllByRecursion P (flat_map f (entries segments))
all-segments P f [] a = tt
all-segments P f (s ∷ ss) a =
    subst (AllByRecursion P) (sym (flat_map-append f (entries_in s) (entries ss))) (AllByRecursion-append P (flat_map f (entries_in s)) (flat_map f (entries ss)) a.0 (all-segments P f ss a.1))

-- the tasks are those of the Taken entries
pub taken-segments : {N : Type 0} (t : SearchTree N) (segments : List Segment) → AllByRecursion (IsSegment t) segments → taken_paths (entries segments) ≡ tasks_of segments
taken-segments t [] a = refl
taken-segments t (s ∷ ss) a =
    flat_map-append taken_in (entries_in s) (entries ss)
    ∙ (ap (λ l. (s.task ∷ l) ++ taken_paths (entries ss)) a.0.untaken ∙ ap (λ l. s.task ∷ l) (taken-segments t ss a.1))

module _ {N : Type 0} (t : SearchTree N) where
  -- what a seat read and offered along entries
  pub record HasGone (old : SeatView) (notes : List Note) (new : SeatView) : Type 0 where
    pub reads : new.read ≡ old.read ++ held_values (judgements notes)
    pub offers : new.offered ≡ old.offered ++ values (visits notes)

  pub has-gone : (gap : ℕ) (old : SeatView) (notes : List Note) (new : SeatView) → SeatGoes t (Gap gap) old notes new → HasGone old notes new
  has-gone gap old [] new g = record { reads = ap (λ (s : SeatView). s.read) g ∙ sym (append-nil old.read); offers = ap (λ (s : SeatView). s.offered) g ∙ sym (append-nil old.offered) }
  has-gone gap old (visited p w held ∷ notes) new g =
      let r = has-gone gap (has_offered (has_read old g.0) w) notes new g.2 in
      record {
        reads = r.reads ∙ (append_assoc old.read (g.0 ∷ []) (held_values (judgements notes)) ∙ ap (λ x. old.read ++ x ∷ held_values (judgements notes)) (sym g.1.held_is));
        offers = r.offers ∙ append_assoc old.offered (w ∷ []) (values (visits notes));
      }
  has-gone gap old (cut p b held ∷ notes) new g =
      let r = has-gone gap (has_read old g.0) notes new g.2 in
      record {
        reads = r.reads ∙ (append_assoc old.read (g.0 ∷ []) (held_values (judgements notes)) ∙ ap (λ x. old.read ++ x ∷ held_values (judgements notes)) (sym g.1.held_is));
        offers = r.offers;
      }
  has-gone gap old (taken p ∷ notes) new g = let r = has-gone gap old notes new g in record { reads = r.reads; offers = r.offers }
  has-gone gap old (spawned p ∷ notes) new g = let r = has-gone gap old notes new g in record { reads = r.reads; offers = r.offers }
  has-gone gap old (handed p ∷ notes) new g = let r = has-gone gap old notes new g in record { reads = r.reads; offers = r.offers }
  has-gone gap old (ended p ∷ notes) new g = let r = has-gone gap old notes new g in record { reads = r.reads; offers = r.offers }

  held-append : (xs ys : List Judgement) → held_values (xs ++ ys) ≡ held_values xs ++ held_values ys
  held-append [] ys = refl
  held-append (x ∷ xs) ys = ap (λ l. x.held ∷ l) (held-append xs ys)

  values-append : (xs ys : List Judgement) → values (xs ++ ys) ≡ values xs ++ values ys
  values-append [] ys = refl
  values-append (x ∷ xs) ys = ap (λ l. x.value ∷ l) (values-append xs ys)

  -- likewise along all segments
  pub has-gone_on : (gap : ℕ) (segments : List Segment) (old new : SeatView) → SeatGoesOn t old (map (gap_walk gap) segments) new → HasGone old (entries segments) new
  has-gone_on gap [] old new g = record { reads = ap (λ (s : SeatView). s.read) g ∙ sym (append-nil old.read); offers = ap (λ (s : SeatView). s.offered) g ∙ sym (append-nil old.offered) }
  has-gone_on gap (s ∷ ss) old new g =
      let a = has-gone gap old (entries_in s) g.0 g.1 in
      let r = has-gone_on gap ss g.0 new g.2 in
      record {
        reads = r.reads ∙ (ap (λ l. l ++ held_values (judgements (entries ss))) a.reads ∙ (append_assoc old.read (held_values (judgements (entries_in s))) (held_values (judgements (entries ss)))
            ∙ ap (λ l. old.read ++ l) (sym (held-append (judgements (entries_in s)) (judgements (entries ss))) ∙ ap held_values (sym (flat_map-append judgement_in (entries_in s) (entries ss))))));
        offers = r.offers ∙ (ap (λ l. l ++ values (visits (entries ss))) a.offers ∙ (append_assoc old.offered (values (visits (entries_in s))) (values (visits (entries ss)))
            ∙ ap (λ l. old.offered ++ l) (sym (values-append (visits (entries_in s)) (visits (entries ss))) ∙ ap values (sym (flat_map-append visit_in (entries_in s) (entries ss))))));
      }
