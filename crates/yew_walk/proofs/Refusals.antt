-- A walk that is refused: its entries, and the one that was not recorded, are one segment that was broken off.
use Rattle.std.proofs.Common.{◌≡◌, ℕ, ◌≤◌, List, [], ◌∷◌, ◌++◌, map, length, Bool, ◌⊎◌, inl, inr, refl, ap, ap₂, sym, subst, ◌∙◌, arith, append_assoc, append-nil}
use Rattle.std.specs.Prelude.{IsSome}
use Rattle.std.specs.List.{AllByRecursion, flat_map}
use Rattle.std.proofs.lemmas.List.{map-append}
use Rattle.std.proofs.lemmas.List.Concat.{flat_map-append}
use Rattle.std.proofs.lemmas.List.Sums.{sum_by-append}
use Rattle.yew_best.specs.Seats.{SeatView}
use Rattle.yew_laws.specs.declared.problem.Problem.{Ghosts}
use Rattle.yew_laws.specs.declared.problem.Task.{Task}
use Rattle.yew_laws.specs.Bag.{SameBag, PartOfBag}
use Rattle.yew_laws.specs.SearchTree.{SearchTree, search_tree, at_path, below, IsTask}
use Rattle.yew_laws.specs.Tree.{paths, IsRanked}
use Rattle.yew_laws.proofs.Bags.{sum_by-map, same-refl, same-trans, same-is, same-append, same-part, part-append}
use Rattle.yew_laws.proofs.Members.{AllByRecursion-append}
use Rattle.yew_log.specs.declared.entry.What.{What}
use Rattle.yew_log.specs.declared.entry.What.TheVariants.{Spawned, Handed}
use Rattle.yew_log.specs.Lawful.{IsBrokenWalk}
use Rattle.yew_log.specs.Notes.{Note, taken, visited, cut, spawned, handed, ended, path_of, sent_in, sent_paths}
use Rattle.yew_log.specs.Policies.{PolicyMeaning}
use Rattle.yew_log.specs.Segment.{OneOfAKind, covered_paths}
use Rattle.yew_log.specs.SeqLog.{seq_log, visited_worth}
use Rattle.yew_log.proofs.Frames.{Frame, frame}
use Rattle.yew_log.proofs.KnownPaths.{once-one}
use Rattle.yew_stack.specs.Levels.{LevelValue, LevelView, levels}
use Rattle.yew_stack.specs.Splits.{paths_of}
use Rattle.yew_stack.specs.ToCome.{levels_to_come, node_tree}
use Rattle.yew_stack.specs.Turns.{TopEnds}
use Rattle.yew_walk.specs.declared.fault.SearchFault.{SearchFault}
use Rattle.yew_walk.specs.declared.fault.SearchFault.TheVariants.{Memory, AuditFull, TooManyTasks}
use Rattle.yew_walk.specs.declared.keying.Keying.{Keying}
use Rattle.yew_walk.specs.declared.policy.Event.{Event}
use Rattle.yew_walk.specs.Entering.{Judges, StopsEntering}
use Rattle.yew_walk.specs.Keys.{kind_of, gap_in}
use Rattle.yew_walk.specs.LogViews.{LogView, log_after, RefusesNote}
use Rattle.yew_walk.specs.Outlets.{OutletCall, IsSentPart}
use Rattle.yew_walk.specs.Scenes.{Scene, IsCause, IsAlone, IsWalking, HasEvent, IsRefused}
use Rattle.yew_walk.specs.Asking.{input_of}
use Rattle.yew_walk.specs.Dealt.{part_of_chunk}
use Rattle.yew_walk.specs.Seats.{SeatGoes}
use Rattle.yew_walk.specs.SeqRests.{rest_notes, IsInSequence}
use Rattle.yew_walk.specs.Sharing.{RefusesNotes, StopsSharing, StopsAsking}
use mathlib.Core.List.{reverse}
use Rattle.yew_walk.specs.UnderWay.{IsNext, IsOfLevel, IsUnderWay}
use Rattle.yew_walk.proofs.Sending.{log_after-append, Sends, spawned-sends, handed-sends, made-sent_paths, underway-sends_some, underway-off}
use Rattle.yew_walk.proofs.SentNotes.{underway-sends}
use Rattle.yew_walk.proofs.UnderWays.{underway-visit, underway-cut, underway-ends}
use Rattle.yew_walk.proofs.WalkEnds.{underway-broken_walk}
use Rattle.yew_walk.proofs.SeqRests.{sequence-start, sequence-end, sequence-prefix}
use Rattle.yew_walk.proofs.Walkings.{AwaitsNode, not-spawn, not-hand}

module _ {S N K Sum Q : Type 0} (meaning : Ghosts S N K) (problem : S) (keying : Keying) (join : Sum → Sum → Sum) (of : N → ℕ → Sum) (policy : PolicyMeaning Q) (task : List ℕ) where
  abbrev t : SearchTree N
  t = search_tree meaning problem

  abbrev UnderWay : SeatView → SeatView → List Note → List Frame → List (LevelView N) → List (List ℕ) → Type 0
  UnderWay = IsUnderWay meaning problem keying task

  abbrev IsHere : Task N → Type 0
  IsHere task' = IsTask meaning problem task'.path.numbers task'.node

  abbrev Refused : Scene N Sum Q → Scene N Sum Q → SearchFault → Type 0
  Refused = IsRefused meaning problem keying join of policy task

  -- what entries say of a segment that was broken off
  record IsCutShort (first now : SeatView) (notes : List Note) : Type 0 where
    pub keeps : IsBrokenWalk t (gap_in keying) (kind_of keying) task (taken task ∷ notes)
    pub part : PartOfBag (covered_paths t (taken task ∷ notes)) (below t task)
    pub goes : SeatGoes t keying first (taken task ∷ notes) now

  short-underway : IsRanked (meaning.sound problem) (meaning.children problem) (meaning.rank problem) → meaning.sound problem (meaning.root problem) → (first now : SeatView) (notes : List Note) (frames : List Frame) (ls : List (LevelView N)) (between : List (List ℕ)) → UnderWay first now notes frames ls between → IsCutShort first now notes
  short-underway ranked root first now notes frames ls between u = record {
    keeps = underway-broken_walk meaning problem keying task ranked root first now notes frames ls between u;
    part = record { weighs = λ w. let c = u.covered.weighs w in let s = sum_by-append w (covered_paths t notes) (paths (levels_to_come (node_tree meaning problem) ls) ++ flat_map (below t) between) in omega (arith, c, s) };
    goes = u.goes;
  }

  prefix-of : (notes : List Note) (ls : List (LevelView N)) → task ≡ [] → IsInSequence t (gap_in keying) notes ls → (rest : List Note) × (seq_log t (gap_in keying) ≡ (taken task ∷ notes) ++ rest)
  prefix-of notes ls of_root s = let p = sequence-prefix t (gap_in keying) notes ls s in (p.0, p.1 ∙ ap (λ q. (taken q ∷ notes) ++ p.0) (sym of_root))

  -- the Taken entry was refused
  pub taken-stops : IsRanked (meaning.sound problem) (meaning.children problem) (meaning.rank problem) → meaning.sound problem (meaning.root problem) → IsSome (at_path t task) → (first now : Scene N Sum Q) (fault : SearchFault) → now.seat ≡ first.seat → now.sent ≡ first.sent → now.log ≡ first.log → RefusesNote first.log task fault → Refused first now fault
  taken-stops ranked root there first now fault same_seat same_sent same_log refused = record {
    notes = [];
    ahead = taken task ∷ [];
    tasks = [];
    one_ahead = omega arith;
    log_is = same_log;
    keeps = record {
      keeps = record { segments = []; cut_up = refl; each = tt; only_last = tt; held_rises = tt; due = record { visits_due = tt; cuts_below = tt; cuts_permitted = tt } };
      of_task = inl refl;
    };
    keeps_ahead = record {
      keeps = record {
        segments = record { task = task; body = [] } ∷ [];
        cut_up = refl;
        each = (record { untaken = refl; begins = inl refl; rises = tt; parents = tt; ends = tt; in_tree = (there, tt); one_of_a_kind = taken-once; part_covered = record { weighs = λ w. omega arith }; valued = record { worths = tt; bounds = tt } }, tt);
        only_last = ((λ e. refl), tt);
        held_rises = (tt, tt);
        due = record { visits_due = (tt, tt); cuts_below = tt; cuts_permitted = tt };
      };
      of_task = inr ([], refl);
    };
    part = record { weighs = λ w. omega arith };
    goes = same_seat;
    sent_are = same-is (same_sent ∙ sym (append-nil first.sent));
    noted = record { weighs = λ w. omega arith };
    sound = tt;
    cause = subst (λ log. IsCause fault log (taken task ∷ [])) (sym same_log) (cause-of fault refused);
    of_sequence = λ alone. let start = (sequence-start t (gap_in keying) ranked root).is in (_, start ∙ ap (λ p. taken p ∷ (visited [] (meaning.worth problem (meaning.root problem)) 0 ∷ rest_notes t (gap_in keying) (record { parent = []; given = 0; remaining = meaning.children problem (meaning.root problem) } ∷ []) (visited_worth (visited [] (meaning.worth problem (meaning.root problem)) 0 ∷ [])))) (sym alone.of_root));
  }
    where
      taken-once : OneOfAKind (taken task ∷ [])
      taken-once = record { taken_once = once-one task; judged_once = λ path. omega arith; sent_once = λ path. omega arith; ended_once = λ path. omega arith }

      cause-of : (f : SearchFault) → RefusesNote first.log task f → IsCause f first.log (taken task ∷ [])
      cause-of Memory r = tt
      cause-of (AuditFull worker entries numbers) r = r
      cause-of (TooManyTasks number) r = absurd r

  -- memory ran out between two turns
  pub walking-stops : {did : List OutletCall → Type 0} → IsRanked (meaning.sound problem) (meaning.children problem) (meaning.rank problem) → meaning.sound problem (meaning.root problem) → (first now : Scene N Sum Q) (stack : List (LevelValue K)) → IsWalking meaning problem keying join of policy task did first now stack → Refused first now Memory
  walking-stops ranked root first now stack w =
      let short = short-underway ranked root first.seat now.seat w.notes w.frames (levels (meaning.remaining problem) stack) [] w.way in
      let same = sym (append-nil (taken task ∷ w.notes)) in
      record {
        notes = taken task ∷ w.notes;
        ahead = [];
        tasks = w.tasks;
        one_ahead = omega arith;
        log_is = w.log_is;
        keeps = short.keeps;
        keeps_ahead = subst (IsBrokenWalk t (gap_in keying) (kind_of keying) task) same short.keeps;
        part = subst (λ ns. PartOfBag (covered_paths t ns) (below t task)) same short.part;
        goes = subst (λ ns. SeatGoes t keying first.seat ns now.seat) same short.goes;
        sent_are = w.sent_are;
        noted = same-part w.tasks_are;
        sound = w.sound;
        cause = tt;
        of_sequence = λ alone. let p = prefix-of w.notes (levels (meaning.remaining problem) stack) alone.of_root (w.in_sequence alone) in (p.0, p.1 ∙ ap (λ ns. ns ++ p.0) same);
      }

  -- a node was judged, and then the walk was refused
  judged-short : IsRanked (meaning.sound problem) (meaning.children problem) (meaning.rank problem) → meaning.sound problem (meaning.root problem) → (first now : SeatView) (after : SeatView) (notes : List Note) (frames : List Frame) (ls : List (LevelView N)) (path : List ℕ) (node : N) (note : Note) → IsTask meaning problem path node → UnderWay first now notes frames ls (path ∷ []) → IsNext task notes frames (reverse ls) path → Judges meaning problem keying path node note now after → IsCutShort first after (notes ++ note ∷ [])
  judged-short ranked root first now after notes frames ls path node (visited p worth held) is u next j =
      subst (λ q. IsCutShort first after (notes ++ visited q worth held ∷ [])) (sym j.0)
      (short-underway ranked root first after (notes ++ visited path worth held ∷ []) (frame path worth held 0 [] ∷ frames) (ls ++ record { parent = path; given = 0; remaining = meaning.children problem node } ∷ []) []
      (underway-visit meaning problem keying task ranked first now after notes frames ls path node worth held is u next j.1))
  judged-short ranked root first now after notes frames ls path node (cut p bound held) is u next j =
      let c = underway-cut meaning problem keying task first now after notes frames ls path node bound held is u next j.1 in
      subst (λ q. IsCutShort first after (notes ++ cut q bound held ∷ [])) (sym j.0) (short-underway ranked root first after (notes ++ cut path bound held ∷ []) c.frames ls [] c.is)
  judged-short ranked root first now after notes frames ls path node (taken p) is u next j = absurd j
  judged-short ranked root first now after notes frames ls path node (spawned p) is u next j = absurd j
  judged-short ranked root first now after notes frames ls path node (handed p) is u next j = absurd j
  judged-short ranked root first now after notes frames ls path node (ended p) is u next j = absurd j

  judges-unsent : (path : List ℕ) (node : N) (note : Note) (now after : SeatView) → Judges meaning problem keying path node note now after → (sent_in note ≡ []) × (path_of note ≡ path)
  judges-unsent path node (visited p worth held) now after j = (refl, j.0)
  judges-unsent path node (cut p bound held) now after j = (refl, j.0)
  judges-unsent path node (taken p) now after j = absurd j
  judges-unsent path node (spawned p) now after j = absurd j
  judges-unsent path node (handed p) now after j = absurd j
  judges-unsent path node (ended p) now after j = absurd j

  note-cause : (fault : SearchFault) (old new : LogView) (note : Note) (path : List ℕ) → path_of note ≡ path → new ≡ old → RefusesNote old path fault → IsCause fault new (note ∷ [])
  note-cause Memory old new note path is same r = tt
  note-cause (AuditFull worker entries numbers) old new note path is same r = subst (λ log. IsCause (AuditFull worker entries numbers) log (note ∷ [])) (sym same) (subst (λ p. RefusesNote old p (AuditFull worker entries numbers)) (sym is) r)
  note-cause (TooManyTasks number) old new note path is same r = absurd r

  pub awaits-stops : {did : List OutletCall → Type 0} → IsRanked (meaning.sound problem) (meaning.children problem) (meaning.rank problem) → meaning.sound problem (meaning.root problem) → (first now after : Scene N Sum Q) (stack : List (LevelValue K)) (path : List ℕ) (node : N) (fault : SearchFault) → IsTask meaning problem path node → AwaitsNode meaning problem keying join of policy task did first now stack path node → StopsEntering meaning problem keying path node fault now.seat now.log after.seat after.log → after.sent ≡ now.sent → Refused first after fault
  awaits-stops ranked root first now after stack path node fault is a s same_sent = by s.log_is
    where
      ls : List (LevelView N)
      ls = levels (meaning.remaining problem) stack

      before : IsCutShort first.seat now.seat a.notes
      before = short-underway ranked root first.seat now.seat a.notes a.frames ls (path ∷ []) a.way

      with_note : IsCutShort first.seat after.seat (a.notes ++ s.note ∷ [])
      with_note = judged-short ranked root first.seat now.seat after.seat a.notes a.frames ls path node s.note is a.way a.next s.judges

      along : (note : Note) → Judges meaning problem keying path node note now.seat after.seat → IsAlone meaning problem keying join of policy task first → (rest : List Note) × (seq_log t (gap_in keying) ≡ (taken task ∷ (a.notes ++ note ∷ [])) ++ rest)
      along (visited p worth held) j alone = prefix-of (a.notes ++ visited p worth held ∷ []) (ls ++ record { parent = path; given = 0; remaining = meaning.children problem node } ∷ []) alone.of_root (subst (λ q. IsInSequence t (gap_in keying) (a.notes ++ visited q worth held ∷ []) (ls ++ record { parent = path; given = 0; remaining = meaning.children problem node } ∷ [])) (sym j.0) (a.in_visit alone worth held after.seat j.1))
      along (cut p bound held) j alone = prefix-of (a.notes ++ cut p bound held ∷ []) ls alone.of_root (subst (λ q. IsInSequence t (gap_in keying) (a.notes ++ cut q bound held ∷ []) ls) (sym j.0) (a.in_cut alone bound held after.seat j.1))
      along (taken p) j alone = absurd j
      along (spawned p) j alone = absurd j
      along (handed p) j alone = absurd j
      along (ended p) j alone = absurd j

      unsent : (sent_in s.note ≡ []) × (path_of s.note ≡ path)
      unsent = judges-unsent path node s.note now.seat after.seat s.judges

      by : ((after.log ≡ now.log) × RefusesNote now.log path fault) ⊎ ((after.log ≡ log_after now.log (s.note ∷ [])) × (fault ≡ Memory)) → Refused first after fault
      by (inl r) = record {
        notes = taken task ∷ a.notes;
        ahead = s.note ∷ [];
        tasks = a.tasks;
        one_ahead = omega arith;
        log_is = r.0 ∙ a.log_is;
        keeps = before.keeps;
        keeps_ahead = with_note.keeps;
        part = with_note.part;
        goes = with_note.goes;
        sent_are = subst (λ ts. SameBag ts (first.sent ++ a.tasks)) (sym same_sent) a.sent_are;
        noted = same-part a.tasks_are;
        sound = a.sound;
        cause = note-cause fault now.log after.log s.note path unsent.1 r.0 r.1;
        of_sequence = along s.note s.judges;
      }
      by (inr r) =
          let same = sym (append-nil (taken task ∷ (a.notes ++ s.note ∷ []))) in
          let no_more : sent_paths (a.notes ++ s.note ∷ []) ≡ sent_paths a.notes = flat_map-append sent_in a.notes (s.note ∷ []) ∙ ap (λ ps. sent_paths a.notes ++ (ps ++ [])) unsent.0 ∙ append-nil (sent_paths a.notes) in
          record {
            notes = taken task ∷ (a.notes ++ s.note ∷ []);
            ahead = [];
            tasks = a.tasks;
            one_ahead = omega arith;
            log_is = r.0 ∙ ap (λ log. log_after log (s.note ∷ [])) a.log_is ∙ sym (log_after-append first.log (taken task ∷ a.notes) (s.note ∷ []));
            keeps = with_note.keeps;
            keeps_ahead = subst (IsBrokenWalk t (gap_in keying) (kind_of keying) task) same with_note.keeps;
            part = subst (λ ns. PartOfBag (covered_paths t ns) (below t task)) same with_note.part;
            goes = subst (λ ns. SeatGoes t keying first.seat ns after.seat) same with_note.goes;
            sent_are = subst (λ ts. SameBag ts (first.sent ++ a.tasks)) (sym same_sent) a.sent_are;
            noted = same-part (subst (SameBag (paths_of a.tasks)) (sym no_more) a.tasks_are);
            sound = a.sound;
            cause = subst (λ f. IsCause f after.log []) (sym r.1) tt;
            of_sequence = λ alone. let p = along s.note s.judges alone in (p.0, p.1 ∙ ap (λ ns. ns ++ p.0) same);
          }

  -- the end of the highest level was refused
  pub ends-stops : {did : List OutletCall → Type 0} → IsRanked (meaning.sound problem) (meaning.children problem) (meaning.rank problem) → meaning.sound problem (meaning.root problem) → (first now after : Scene N Sum Q) (old new : List (LevelValue K)) (path : List ℕ) (fault : SearchFault) → IsWalking meaning problem keying join of policy task did first now old → TopEnds (levels (meaning.remaining problem) old) path (levels (meaning.remaining problem) new) → after.log ≡ now.log → RefusesNote now.log path fault → after.seat ≡ now.seat → after.sent ≡ now.sent → Refused first after fault
  ends-stops ranked root first now after old new path fault w turn same_log refused same_seat same_sent =
      let before = short-underway ranked root first.seat now.seat w.notes w.frames (levels (meaning.remaining problem) old) [] w.way in
      let c = underway-ends meaning problem keying task first.seat now.seat w.notes w.frames old new path w.way turn in
      let with_note = short-underway ranked root first.seat now.seat (w.notes ++ ended path ∷ []) c.frames (levels (meaning.remaining problem) new) [] c.is in
      record {
        notes = taken task ∷ w.notes;
        ahead = ended path ∷ [];
        tasks = w.tasks;
        one_ahead = omega arith;
        log_is = same_log ∙ w.log_is;
        keeps = before.keeps;
        keeps_ahead = with_note.keeps;
        part = with_note.part;
        goes = subst (λ s. SeatGoes t keying first.seat (taken task ∷ (w.notes ++ ended path ∷ [])) s) (sym same_seat) with_note.goes;
        sent_are = subst (λ ts. SameBag ts (first.sent ++ w.tasks)) (sym same_sent) w.sent_are;
        noted = same-part w.tasks_are;
        sound = w.sound;
        cause = note-cause fault now.log after.log (ended path) path refl same_log refused;
        of_sequence = λ alone. prefix-of (w.notes ++ ended path ∷ []) (levels (meaning.remaining problem) new) alone.of_root (sequence-end t (gap_in keying) w.notes (levels (meaning.remaining problem) old) (levels (meaning.remaining problem) new) path (w.in_sequence alone) turn);
      }

  all-front : (P : List ℕ → Type 0) (xs ys : List (List ℕ)) → AllByRecursion P (xs ++ ys) → AllByRecursion P xs × AllByRecursion P ys
  all-front P [] ys a = (tt, a)
  all-front P (x ∷ xs) ys a = let more = all-front P xs ys a.1 in ((a.0, more.0), more.1)

  part-paths : (xs ys : List (Task N)) → PartOfBag xs ys → PartOfBag (paths_of xs) (paths_of ys)
  part-paths xs ys p = record {
    weighs = λ w.
        let h = p.weighs (λ task'. w task'.path.numbers) in
        let a = sum_by-map w (λ (task' : Task N). task'.path.numbers) xs in
        let b = sum_by-map w (λ (task' : Task N). task'.path.numbers) ys in
        omega (arith, h, a, b);
  }

  -- the sharing after an event was refused
  module _ (made : List ℕ → Note) (what : What) (sends : Sends meaning problem keying task made what) (made_path : (path : List ℕ) → path_of (made path) ≡ path) where
    -- the entry that was not recorded, if there was one, with the entries before it
    record StoppedNote (first now : SeatView) (log : LogView) (notes : List Note) (fault : SearchFault) : Type 0 where
      pub ahead : List Note
      pub one : length ahead ≤ 1
      pub short : IsCutShort first now (notes ++ ahead)
      pub cause : IsCause fault log ahead

    no-note : (first now : SeatView) (log : LogView) (notes : List Note) → IsCutShort first now notes → StoppedNote first now log notes Memory
    no-note first now log notes short = record { ahead = []; one = omega arith; short = subst (IsCutShort first now) (sym (append-nil notes)) short; cause = tt }

    stopped : IsRanked (meaning.sound problem) (meaning.children problem) (meaning.rank problem) → meaning.sound problem (meaning.root problem) → (first now : SeatView) (log : LogView) (notes : List Note) (ls : List (LevelView N)) (rest : List (List ℕ)) (fault : SearchFault) → RefusesNotes log rest fault → AllByRecursion (IsOfLevel (reverse ls)) rest → (fs : List Frame) × UnderWay first now notes fs ls rest → StoppedNote first now log notes fault
    stopped ranked root first now log notes ls rest Memory r hosts u = no-note first now log notes (short-underway ranked root first now notes u.0 ls rest u.1)
    stopped ranked root first now log notes ls [] (AuditFull worker entries numbers) r hosts u = absurd r
    stopped ranked root first now log notes ls (path ∷ rest) (AuditFull worker entries numbers) r hosts u =
        let next = underway-sends meaning problem keying task first now notes [] ls (made path) path rest (sends.sent path) hosts.0 u in
        record {
          ahead = made path ∷ [];
          one = omega arith;
          short = short-underway ranked root first now (notes ++ made path ∷ []) next.0 ls rest next.1;
          cause = subst (λ p. RefusesNote log p (AuditFull worker entries numbers)) (sym (made_path path)) r;
        }
    stopped ranked root first now log notes ls rest (TooManyTasks number) r hosts u = absurd r

    -- the tasks that were sent
    record SentSome (before : List (Task N)) (after : List (Task N)) (tasks : List (Task N)) (done : List (List ℕ)) : Type 0 where
      pub more : List (Task N)
      pub sent_are : SameBag after (before ++ more)
      pub each : AllByRecursion IsHere more
      pub noted : PartOfBag (paths_of more) done

    sent-some : (before after tasks : List (Task N)) (done rest : List (List ℕ)) → paths_of tasks ≡ done ++ rest → (after ≡ before) ⊎ ((rest ≡ []) × IsSentPart IsHere before tasks after) → SentSome before after tasks done
    sent-some before after tasks done rest are (inl same) = record { more = []; sent_are = same-is (same ∙ sym (append-nil before)); each = tt; noted = record { weighs = λ w. omega arith } }
    sent-some before after tasks done rest are (inr s) =
        let whole : paths_of tasks ≡ done = are ∙ ap (λ ps. done ++ ps) s.0 ∙ append-nil done in
        record { more = s.1.part; sent_are = s.1.sent_are; each = s.1.each; noted = subst (PartOfBag (paths_of s.1.part)) whole (part-paths s.1.part tasks s.1.of_tasks) }

    sharing-stops : {did : List OutletCall → Type 0} → IsRanked (meaning.sound problem) (meaning.children problem) (meaning.rank problem) → meaning.sound problem (meaning.root problem) → (first now after : Scene N Sum Q) (old new : List (LevelValue K)) (event : Event) (depth : ℕ) (fault : SearchFault) → HasEvent meaning problem keying join of policy task did first now old event depth → StopsSharing meaning problem what fault old now.log now.sent new after.log after.sent → (IsAlone meaning problem keying join of policy task first → ⊥) → after.seat ≡ now.seat → Refused first after fault
    sharing-stops ranked root first now after old new event depth fault h s not_alone same_seat =
        let ls = levels (meaning.remaining problem) new in
        let base = h.notes ++ h.note ∷ [] in
        let off = underway-off meaning problem keying task first.seat now.seat base h.frames old new s.tasks h.way s.is_off in
        let are = s.noting.paths_are in
        let hosts = all-front (IsOfLevel (reverse ls)) s.noting.done s.noting.rest (subst (AllByRecursion (IsOfLevel (reverse ls))) are off.hosts) in
        let done = underway-sends_some meaning problem keying task made what sends first.seat now.seat base ls s.noting.done s.noting.rest hosts.0 (off.frames, subst (UnderWay first.seat now.seat base off.frames ls) are off.way) in
        let notes = base ++ map made s.noting.done in
        let stop = stopped ranked root first.seat now.seat after.log notes ls s.noting.rest fault s.noting.cause hosts.1 done in
        let sent = sent-some now.sent after.sent s.tasks s.noting.done s.noting.rest are s.sent_are in
        let short = short-underway ranked root first.seat now.seat notes done.0 ls s.noting.rest done.1 in
        let sent_is : sent_paths notes ≡ sent_paths h.notes ++ s.noting.done = flat_map-append sent_in base (map made s.noting.done) ∙ ap₂ (λ us vs. us ++ vs) h.unsent (made-sent_paths meaning problem keying task made what sends s.noting.done) in
        record {
          notes = taken task ∷ notes;
          ahead = stop.ahead;
          tasks = h.tasks ++ sent.more;
          one_ahead = stop.one;
          log_is = s.noting.log_is
              ∙ sends.notes_are now.log s.noting.done
              ∙ ap (λ log. log_after log (map made s.noting.done)) h.log_is
              ∙ sym (log_after-append first.log (taken task ∷ base) (map made s.noting.done));
          keeps = short.keeps;
          keeps_ahead = stop.short.keeps;
          part = stop.short.part;
          goes = subst (SeatGoes t keying first.seat (taken task ∷ (notes ++ stop.ahead))) (sym same_seat) stop.short.goes;
          sent_are = same-trans sent.sent_are (same-trans (same-append h.sent_are (same-refl sent.more)) (same-is (append_assoc first.sent h.tasks sent.more)));
          noted = subst (λ ps. PartOfBag (paths_of (h.tasks ++ sent.more)) ps) (sym sent_is)
              (subst (λ ps. PartOfBag ps (sent_paths h.notes ++ s.noting.done)) (sym (map-append (λ (task' : Task N). task'.path.numbers) h.tasks sent.more)) (part-append (same-part h.tasks_are) sent.noted));
          sound = AllByRecursion-append IsHere h.tasks sent.more h.sound sent.each;
          cause = stop.cause;
          of_sequence = λ alone. absurd (not_alone alone);
        }

  pub event-stops : {did : List OutletCall → Type 0} → IsRanked (meaning.sound problem) (meaning.children problem) (meaning.rank problem) → meaning.sound problem (meaning.root problem) → (wanted : Bool) (first now after : Scene N Sum Q) (old new : List (LevelValue K)) (event : Event) (depth : ℕ) (fault : SearchFault) → HasEvent meaning problem keying join of policy task did first now old event depth → StopsAsking meaning problem policy (input_of event depth wanted) fault now.state old now.log now.sent new after.log after.sent → after.seat ≡ now.seat → Refused first after fault
  event-stops ranked root wanted first now after old new event depth fault h s same_seat =
      elim s.stops [
        | inl p ↦ sharing-stops spawned Spawned (spawned-sends meaning problem keying task) (λ path. refl) ranked root first now after old new event depth fault h p.1 (λ alone. not-spawn (part_of_chunk s.chunk) (sym (alone.never_asks now.state (input_of event depth wanted)) ∙ p.0)) same_seat
        | inr p ↦ sharing-stops handed Handed (handed-sends meaning problem keying task) (λ path. refl) ranked root first now after old new event depth fault h p.1 (λ alone. not-hand (part_of_chunk s.chunk) (sym (alone.never_asks now.state (input_of event depth wanted)) ∙ p.0)) same_seat
      ]
