-- What is known of the text of a job, or of why it has none, holds of its plan and of the words.
use Rattle.std.proofs.Common.{◌≡◌, ℕ, ◌+◌, ◌⊎◌, List, [], ◌∷◌, length, Option, Some, None, inl, inr, refl, sym, ap, subst, ◌∙◌, arith, length-append}
use Rattle.std.specs.Prelude.{IfSome, IsSomeAnd, IsTrue}
use Rattle.std.proofs.lemmas.List.Sums.{sum_by-append, sum_by-cons}
use Rattle.yew_kinds.specs.Kinds.{gap_of}
use Rattle.yew_laws.specs.SearchTree.{SearchTree}
use Rattle.yew_log.specs.AuditFull.{IsAuditFull, MeetsLimits}
use Rattle.yew_log.specs.Groups.{sequential}
use Rattle.yew_log.specs.Notes.{path_of, path_numbers}
use Rattle.yew_log.specs.Recording.{IsFull}
use Rattle.yew_log.specs.SeqLog.{seq_log}
use Rattle.yew_io.specs.Shelf.{File}
use Rattle.yew_words.specs.declared.plan.Job.{Job}
use Rattle.yew_words.specs.declared.plan.Job.TheVariants as jobs
use Rattle.yew_words.specs.declared.plan.Made.{Made}
use Rattle.yew_words.specs.Word.{Word}
use Rattle.yew_words.specs.declared.plan.Skeleton.{Skeleton}
use Rattle.yew_words.specs.declared.plan.Skeleton.TheVariants as skeletons
use Rattle.yew_words.specs.Plans.{Planned, PlanOf}
use Rattle.yew_app.specs.Jobs.{of_job}
use Rattle.yew_app.specs.MadeTexts.{IsMadeText}
use Rattle.yew_app.specs.Meanings.{Meaning, known_files, IsOneWay, searched, AnswersFiles, MeetsFiles, IsFineFiles, FillsFiles, PassesFiles, StopsFiles}
use Rattle.yew_app.specs.Refusals.{Reason, BadUsage, CannotRead, NotInGrammar, TooLong, TooLarge, FullAudit, TaskPastLimit, CannotWrite, NoMemory, IsFullOrMemory, IsPastOrFull}
use Rattle.yew_app.specs.Asks.{table_of, IsSequential, IsOrdered}
use Rattle.yew_app.specs.Texts.{HasFullAudit, HasRoom, HasTooManyItems}
use Rattle.yew_app.specs.declared.asked.Asked.{Asked}
use Rattle.yew_app.specs.Runs.{asked_of, IsPlanOf, AnswersJob, RefusesJob, MeetsJob, IsFineJob, PassesJob, StopsJob, RefusesFiles, FillsAudit, HasTooManyTasks, IsFine, IsCause}
use Rattle.yew_app.proofs.Alone.{one-worker}

-- a log that was full is that of a sequential log past the limits
full-meets : {N : Type 0} (t : SearchTree N) (gap workers entries numbers : ℕ) → IsAuditFull t gap sequential workers entries numbers → MeetsLimits (seq_log t gap)
full-meets t gap workers entries numbers f =
    let next = f.sequential_next refl in
    let rest = next.0 in
    let whole = f.full in
    let l = ap length next.1 ∙ length-append f.notes (f.next ∷ rest) in
    let n = ap path_numbers next.1 ∙ sum_by-append (λ note. length (path_of note)) f.notes (f.next ∷ rest) in
    let m = sum_by-cons (λ note. length (path_of note)) f.next rest in
    past whole l n m
  where
    past : IsFull (Some f.notes) (path_of f.next) entries numbers → length (seq_log t gap) ≡ length f.notes + length (f.next ∷ (f.sequential_next refl).0) → path_numbers (seq_log t gap) ≡ path_numbers f.notes + path_numbers (f.next ∷ (f.sequential_next refl).0) → path_numbers (f.next ∷ (f.sequential_next refl).0) ≡ length (path_of f.next) + path_numbers (f.sequential_next refl).0 → MeetsLimits (seq_log t gap)
    past w l n m =
        let same : w.notes ≡ f.notes = cc in
        let a = ap length same in
        let b = ap path_numbers same in
        let e = w.entries_are in
        let k = w.numbers_are in
        elim w.past [
          | inl more ↦ inl (omega (arith, more, e, a, l))
          | inr more ↦ inr (omega (arith, more, k, b, n, m))
        ]

-- an audit that has room for a search is not full
no-room : {N : Type 0} (t : SearchTree N) (gap : ℕ) (skeleton : Skeleton) (asked : Asked) (worker entries numbers : ℕ) → asked.skeleton ≡ skeleton → HasRoom t gap skeleton → HasFullAudit t gap asked worker entries numbers → ⊥
no-room t gap skeletons.Sequential asked worker entries numbers same room full =
    room (full-meets t gap asked.workers entries numbers (subst (λ (s : Skeleton). IsAuditFull t gap (table_of s) asked.workers entries numbers) same full.is_full))
no-room t gap (skeletons.Depth depth) asked worker entries numbers same room full = room full.large
no-room t gap (skeletons.Budget budget) asked worker entries numbers same room full = room full.large
no-room t gap (skeletons.Steal chunk) asked worker entries numbers same room full = room full.large
no-room t gap (skeletons.Ordered depth) asked worker entries numbers same room full = room full.large

-- one worker in preorder claims no tasks in order
sequential-unordered : {R : Type 0} (skeleton : Skeleton) → IsSequential skeleton → IsOrdered skeleton → R
sequential-unordered skeletons.Sequential is ordered = absurd ordered
sequential-unordered (skeletons.Depth depth) is ordered = absurd ordered
sequential-unordered (skeletons.Budget budget) is ordered = absurd ordered
sequential-unordered (skeletons.Steal all) is ordered = absurd ordered
sequential-unordered (skeletons.Ordered depth) is ordered = absurd (cc)

-- the shelf did not fail
abbrev pub NoFault : Reason → Type 0
NoFault reason = (name : Word) → reason ≡ CannotRead name → ⊥

module _ {X N : Type 0} (m : Meaning X N) (one : IsOneWay m) (asked : Asked) (told : List File) where
  -- what the instance of the files says, it says of each
  same-meets : (a b : X) → m.Reads told a → m.Reads told b → MeetsLimits (seq_log (searched m a) (gap_of m.kind)) → MeetsLimits (seq_log (searched m b) (gap_of m.kind))
  same-meets a b p q = subst (λ (x : X). MeetsLimits (seq_log (searched m x) (gap_of m.kind))) (one.one_instance told a b p q)

  same-passes : (a b : X) → m.Reads told a → m.Reads told b → HasTooManyItems (searched m a) asked.skeleton → HasTooManyItems (searched m b) asked.skeleton
  same-passes a b p q = subst (λ (x : X). HasTooManyItems (searched m x) asked.skeleton) (one.one_instance told a b p q)

  -- files that are refused give no text
  answered-refused : (text : List ℕ) (reason : Reason) → AnswersFiles m asked told text → m.Refuses told reason → ⊥
  answered-refused text reason answers refused = one.not_both told answers.0 reason answers.1 refused

  -- and no search whose log is past the limits
  answered-meets : (text : List ℕ) → IsSequential asked.skeleton → AnswersFiles m asked told text → IsTrue asked.audit → MeetsFiles m told → ⊥
  answered-meets text preorder answers audit meets = (answers.2.found.first_text (inl preorder)).fits audit (same-meets meets.0 answers.0 meets.1 answers.1 meets.2)

  -- and no search with too many items
  answered-passes : (text : List ℕ) → AnswersFiles m asked told text → PassesFiles m asked told → ⊥
  answered-passes text answers passes = answers.2.found.few (same-passes passes.0 answers.0 passes.1 answers.1 passes.2)

  -- files that are refused stop a run for their reason
  stopped-refused : (is reason : Reason) → NoFault is → StopsFiles m asked (Some told) is → m.Refuses told reason → (is ≡ reason) ⊎ (is ≡ NoMemory)
  stopped-refused (CannotRead name) reason none stops refused = absurd (none name refl)
  stopped-refused (NotInGrammar name at kind) reason none stops refused = inl (one.one_reason told (NotInGrammar name at kind) reason stops.1 refused)
  stopped-refused (TooLong name) reason none stops refused = inl (one.one_reason told (TooLong name) reason stops.1 refused)
  stopped-refused (TooLarge name number limit) reason none stops refused = inl (one.one_reason told (TooLarge name number limit) reason stops.1 refused)
  stopped-refused (FullAudit worker entries numbers) reason none stops refused = absurd (one.not_both told stops.3.0 reason stops.3.1 refused)
  stopped-refused NoMemory reason none stops refused = inr refl
  stopped-refused (BadUsage place kind) reason none stops refused = absurd stops
  stopped-refused CannotWrite reason none stops refused = absurd stops
  stopped-refused (TaskPastLimit number) reason none stops refused = absurd (one.not_both told stops.2.0 reason stops.2.1 refused)

  -- a search whose log is past the limits stops a run where its audit is full
  stopped-meets : (is : Reason) → NoFault is → IsSequential asked.skeleton → asked.workers ≡ 1 → StopsFiles m asked (Some told) is → MeetsFiles m told → IsFullOrMemory is
  stopped-meets (CannotRead name) none preorder single stops meets = absurd (none name refl)
  stopped-meets (NotInGrammar name at kind) none preorder single stops meets = one.not_both told meets.0 (NotInGrammar name at kind) meets.1 stops.1
  stopped-meets (TooLong name) none preorder single stops meets = one.not_both told meets.0 (TooLong name) meets.1 stops.1
  stopped-meets (TooLarge name number limit) none preorder single stops meets = one.not_both told meets.0 (TooLarge name number limit) meets.1 stops.1
  stopped-meets (FullAudit worker entries numbers) none preorder single stops meets = let least = stops.1 in let most = stops.2 in omega (arith, least, most, single)
  stopped-meets NoMemory none preorder single stops meets = tt
  stopped-meets (BadUsage place kind) none preorder single stops meets = absurd stops
  stopped-meets CannotWrite none preorder single stops meets = absurd stops
  stopped-meets (TaskPastLimit number) none preorder single stops meets = sequential-unordered asked.skeleton preorder stops.1

  -- a search with too many items stops a run for them, or where the audit of the first worker is full
  stopped-passes : (is : Reason) → NoFault is → StopsFiles m asked (Some told) is → PassesFiles m asked told → IsPastOrFull (IsTrue asked.audit) is
  stopped-passes (CannotRead name) none stops passes = absurd (none name refl)
  stopped-passes (NotInGrammar name at kind) none stops passes = one.not_both told passes.0 (NotInGrammar name at kind) passes.1 stops.1
  stopped-passes (TooLong name) none stops passes = one.not_both told passes.0 (TooLong name) passes.1 stops.1
  stopped-passes (TooLarge name number limit) none stops passes = one.not_both told passes.0 (TooLarge name number limit) passes.1 stops.1
  stopped-passes (FullAudit worker entries numbers) none stops passes =
      let filled : FillsFiles m asked worker entries numbers told = stops.3 in
      (stops.0, filled.2.first_worker (same-passes passes.0 filled.0 passes.1 filled.1 passes.2))
  stopped-passes NoMemory none stops passes = tt
  stopped-passes (BadUsage place kind) none stops passes = absurd stops
  stopped-passes CannotWrite none stops passes = absurd stops
  stopped-passes (TaskPastLimit number) none stops passes = stops.0

  -- and where nothing is wrong, want of memory alone stops it
  stopped-fine : (is : Reason) → NoFault is → StopsFiles m asked (Some told) is → IsFineFiles m asked told → is ≡ NoMemory
  stopped-fine (CannotRead name) none stops fine = absurd (none name refl)
  stopped-fine (NotInGrammar name at kind) none stops fine = absurd (one.not_both told fine.0 (NotInGrammar name at kind) fine.1 stops.1)
  stopped-fine (TooLong name) none stops fine = absurd (one.not_both told fine.0 (TooLong name) fine.1 stops.1)
  stopped-fine (TooLarge name number limit) none stops fine = absurd (one.not_both told fine.0 (TooLarge name number limit) fine.1 stops.1)
  stopped-fine (FullAudit worker entries numbers) none stops fine =
      let filled : FillsFiles m asked worker entries numbers told = stops.3 in
      let same = one.one_instance told filled.0 fine.0 filled.1 fine.1 in
      absurd (no-room (searched m fine.0) (gap_of m.kind) asked.skeleton asked worker entries numbers refl (fine.2 stops.0)
      (subst (λ (x : X). HasFullAudit (searched m x) (gap_of m.kind) asked worker entries numbers) same filled.2))
  stopped-fine NoMemory none stops fine = refl
  stopped-fine (BadUsage place kind) none stops fine = absurd stops
  stopped-fine CannotWrite none stops fine = absurd stops
  stopped-fine (TaskPastLimit number) none stops fine =
      let passes : PassesFiles m asked told = stops.2 in
      absurd (fine.3 (same-passes passes.0 fine.0 passes.1 fine.1 passes.2))

-- three facts of a job together
pub meet-job : (job : Job) (names : List Word) (plan : Planned) {R : Type 0} (A B C : Made → Type 0) (K L M : (X N : Type 0) → Meaning X N → Type 0)
    → ((kind : Made) → A kind → B kind → C kind → R) → ((X N : Type 0) (m : Meaning X N) → K X N m → L X N m → M X N m → R)
    → of_job job names plan A K → of_job job names plan B L → of_job job names plan C M → R
meet-job jobs.Knapsack (name ∷ []) plan A B C K L M made by a b c = by _ _ _ a b c
meet-job jobs.Tsp (name ∷ []) plan A B C K L M made by a b c = by _ _ _ a b c
meet-job jobs.Subgraph (pattern ∷ target ∷ []) plan A B C K L M made by a b c = by _ _ _ a b c
meet-job jobs.Semigroups [] plan A B C K L M made by a b c = by _ _ _ a b c
meet-job jobs.Flow (name ∷ []) plan A B C K L M made by a b c = by _ _ _ a b c
meet-job (jobs.Make kind) [] plan A B C K L M made by a b c = made kind a b c
meet-job jobs.Knapsack [] plan A B C K L M made by a b c = absurd a
meet-job jobs.Knapsack (name ∷ second ∷ names) plan A B C K L M made by a b c = absurd a
meet-job jobs.Tsp [] plan A B C K L M made by a b c = absurd a
meet-job jobs.Tsp (name ∷ second ∷ names) plan A B C K L M made by a b c = absurd a
meet-job jobs.Subgraph [] plan A B C K L M made by a b c = absurd a
meet-job jobs.Subgraph (name ∷ []) plan A B C K L M made by a b c = absurd a
meet-job jobs.Subgraph (name ∷ second ∷ third ∷ names) plan A B C K L M made by a b c = absurd a
meet-job jobs.Semigroups (name ∷ names) plan A B C K L M made by a b c = absurd a
meet-job jobs.Flow [] plan A B C K L M made by a b c = absurd a
meet-job jobs.Flow (name ∷ second ∷ names) plan A B C K L M made by a b c = absurd a
meet-job (jobs.Make kind) (name ∷ names) plan A B C K L M made by a b c = absurd a

module _ (does : Skeleton → Type 0) (words : List Word) (plan : Planned) (is_plan : IsPlanOf does words plan) where
  -- why the plan gives no text is a cause
  pub cause-of : (files : Option (List File)) (reason : Reason) → StopsJob plan.job plan.files plan (known_files plan.files files) reason → IsCause does words files reason
  cause-of files (CannotRead name) why = record { plan = plan; is_plan = is_plan; why = why }
  cause-of files (NotInGrammar name at kind) why = record { plan = plan; is_plan = is_plan; why = why }
  cause-of files (TooLong name) why = record { plan = plan; is_plan = is_plan; why = why }
  cause-of files (TooLarge name number limit) why = record { plan = plan; is_plan = is_plan; why = why }
  cause-of files (FullAudit worker entries numbers) why = record { plan = plan; is_plan = is_plan; why = why }
  cause-of files (TaskPastLimit number) why = record { plan = plan; is_plan = is_plan; why = why }
  cause-of files NoMemory why = tt
  cause-of files (BadUsage place kind) why = never why
    where
      never : StopsJob plan.job plan.files plan (known_files plan.files files) (BadUsage place kind) → IsCause does words files (BadUsage place kind)
      never why = meet-job plan.job plan.files plan (λ k. BadUsage place kind ≡ NoMemory) (λ k. BadUsage place kind ≡ NoMemory) (λ k. BadUsage place kind ≡ NoMemory)
          (λ X N m. StopsFiles m (asked_of plan) (known_files plan.files files) (BadUsage place kind)) (λ X N m. StopsFiles m (asked_of plan) (known_files plan.files files) (BadUsage place kind)) (λ X N m. StopsFiles m (asked_of plan) (known_files plan.files files) (BadUsage place kind))
          (λ k a b c. absurd (cc)) (λ X N m a b c. absurd a) why why why
  cause-of files CannotWrite why =
      meet-job plan.job plan.files plan (λ k. CannotWrite ≡ NoMemory) (λ k. CannotWrite ≡ NoMemory) (λ k. CannotWrite ≡ NoMemory)
      (λ X N m. StopsFiles m (asked_of plan) (known_files plan.files files) CannotWrite) (λ X N m. StopsFiles m (asked_of plan) (known_files plan.files files) CannotWrite) (λ X N m. StopsFiles m (asked_of plan) (known_files plan.files files) CannotWrite)
      (λ k a b c. absurd (cc)) (λ X N m a b c. absurd a) why why why

  module _ (one : (other : Planned) → PlanOf words other → plan ≡ other) (ways : of_job plan.job plan.files plan (λ kind. Unit {0}) (λ X N m. IsOneWay m)) (files : Option (List File)) where
    abbrev known : Option (List File)
    known = known_files plan.files files

    -- files that are refused, an audit that is full, and files that are fine are the plan's
    refused-job : (reason : Reason) → RefusesFiles does words files reason → IsSomeAnd known (λ told. RefusesJob plan.job plan.files plan told reason)
    refused-job reason refused =
        subst (λ (p : Planned). IsSomeAnd (known_files p.files files) (λ told. RefusesJob p.job p.files p told reason)) (sym (one refused.plan refused.is_plan.is_plan)) refused.why

    fills-job : FillsAudit does words files → IsTrue plan.audit × IsSequential plan.skeleton × IsSomeAnd known (MeetsJob plan.job plan.files plan)
    fills-job fills =
        subst (λ (p : Planned). IsTrue p.audit × IsSequential p.skeleton × IsSomeAnd (known_files p.files files) (MeetsJob p.job p.files p)) (sym (one fills.plan fills.is_plan.is_plan)) (fills.asked, fills.sequential, fills.meets)

    passes-job : (many : HasTooManyTasks does words files) → (many.plan ≡ plan) × IsSomeAnd known (PassesJob plan.job plan.files plan)
    passes-job many =
        let same = sym (one many.plan many.is_plan.is_plan) in
        (same, subst (λ (p : Planned). IsSomeAnd (known_files p.files files) (PassesJob p.job p.files p)) same many.passes)

    fine-job : IsFine does words files → IsSomeAnd known (IsFineJob plan.job plan.files plan)
    fine-job fine =
        subst (λ (p : Planned). IsSomeAnd (known_files p.files files) (IsFineJob p.job p.files p)) (sym (one fine.plan fine.is_plan.is_plan)) fine.fine

    module _ (text : List ℕ) (answers : IfSome known (λ told. AnswersJob plan.job plan.files plan told text)) where
      abbrev Made_text : Made → Type 0
      Made_text kind = IsMadeText kind plan.solve plan.seed plan.size text

      pub answers-not_refused : (reason : Reason) → RefusesFiles does words files reason → ⊥
      answers-not_refused reason refused = at known answers (refused-job reason refused)
        where
          at : (k : Option (List File)) → IfSome k (λ told. AnswersJob plan.job plan.files plan told text) → IsSomeAnd k (λ told. RefusesJob plan.job plan.files plan told reason) → ⊥
          at None a r = r
          at (Some told) a r = meet-job plan.job plan.files plan (λ kind. Unit {0}) Made_text (λ kind. ⊥) (λ X N m. IsOneWay m) (λ X N m. AnswersFiles m (asked_of plan) told text) (λ X N m. m.Refuses told reason)
              (λ kind w b c. c) (λ X N m w b c. answered-refused m w (asked_of plan) told text reason b c) ways a r

      pub answers-not_full : FillsAudit does words files → ⊥
      answers-not_full fills = let f = fills-job fills in at known answers f.0 f.1 f.2
        where
          at : (k : Option (List File)) → IfSome k (λ told. AnswersJob plan.job plan.files plan told text) → IsTrue plan.audit → IsSequential plan.skeleton → IsSomeAnd k (MeetsJob plan.job plan.files plan) → ⊥
          at None a audit preorder r = r
          at (Some told) a audit preorder r = meet-job plan.job plan.files plan (λ kind. Unit {0}) Made_text (λ kind. ⊥) (λ X N m. IsOneWay m) (λ X N m. AnswersFiles m (asked_of plan) told text) (λ X N m. MeetsFiles m told)
              (λ kind w b c. c) (λ X N m w b c. answered-meets m w (asked_of plan) told text preorder b audit c) ways a r

      pub answers-not_past : HasTooManyTasks does words files → ⊥
      answers-not_past many = at known answers (passes-job many).1
        where
          at : (k : Option (List File)) → IfSome k (λ told. AnswersJob plan.job plan.files plan told text) → IsSomeAnd k (PassesJob plan.job plan.files plan) → ⊥
          at None a r = r
          at (Some told) a r = meet-job plan.job plan.files plan (λ kind. Unit {0}) Made_text (λ kind. ⊥) (λ X N m. IsOneWay m) (λ X N m. AnswersFiles m (asked_of plan) told text) (λ X N m. PassesFiles m (asked_of plan) told)
              (λ kind w b c. c) (λ X N m w b c. answered-passes m w (asked_of plan) told text b c) ways a r

    module _ (is : Reason) (none : NoFault is) (stops : StopsJob plan.job plan.files plan known is) where
      pub stops-refused : (reason : Reason) → RefusesFiles does words files reason → (is ≡ reason) ⊎ (is ≡ NoMemory)
      stops-refused reason refused = at known stops (refused-job reason refused)
        where
          at : (k : Option (List File)) → StopsJob plan.job plan.files plan k is → IsSomeAnd k (λ told. RefusesJob plan.job plan.files plan told reason) → (is ≡ reason) ⊎ (is ≡ NoMemory)
          at None s r = absurd r
          at (Some told) s r = meet-job plan.job plan.files plan (λ kind. Unit {0}) (λ kind. is ≡ NoMemory) (λ kind. ⊥) (λ X N m. IsOneWay m) (λ X N m. StopsFiles m (asked_of plan) (Some told) is) (λ X N m. m.Refuses told reason)
              (λ kind w b c. inr b) (λ X N m w b c. stopped-refused m w (asked_of plan) told is reason none b c) ways s r

      pub stops-full : FillsAudit does words files → IsFullOrMemory is
      stops-full fills = let f = fills-job fills in at known stops f.2
        where
          at : (k : Option (List File)) → StopsJob plan.job plan.files plan k is → IsSomeAnd k (MeetsJob plan.job plan.files plan) → IsFullOrMemory is
          at None s r = absurd r
          at (Some told) s r = meet-job plan.job plan.files plan (λ kind. Unit {0}) (λ kind. is ≡ NoMemory) (λ kind. ⊥) (λ X N m. IsOneWay m) (λ X N m. StopsFiles m (asked_of plan) (Some told) is) (λ X N m. MeetsFiles m told)
              (λ kind w b c. absurd c) (λ X N m w b c. stopped-meets m w (asked_of plan) told is none (fills-job fills).1 (one-worker words plan is_plan.is_plan (fills-job fills).1) b c) ways s r

      pub stops-past : (many : HasTooManyTasks does words files) → IsPastOrFull (IsTrue many.plan.audit) is
      stops-past many = let p = passes-job many in subst (λ (q : Planned). IsPastOrFull (IsTrue q.audit) is) (sym p.0) (at known stops p.1)
        where
          at : (k : Option (List File)) → StopsJob plan.job plan.files plan k is → IsSomeAnd k (PassesJob plan.job plan.files plan) → IsPastOrFull (IsTrue plan.audit) is
          at None s r = absurd r
          at (Some told) s r = meet-job plan.job plan.files plan (λ kind. Unit {0}) (λ kind. is ≡ NoMemory) (λ kind. ⊥)
              (λ X N m. IsOneWay m) (λ X N m. StopsFiles m (asked_of plan) (Some told) is) (λ X N m. PassesFiles m (asked_of plan) told)
              (λ kind w b c. absurd c) (λ X N m w b c. stopped-passes m w (asked_of plan) told is none b c) ways s r

      pub stops-fine : IsFine does words files → is ≡ NoMemory
      stops-fine fine = at known stops (fine-job fine)
        where
          at : (k : Option (List File)) → StopsJob plan.job plan.files plan k is → IsSomeAnd k (IsFineJob plan.job plan.files plan) → is ≡ NoMemory
          at None s r = absurd r
          at (Some told) s r = meet-job plan.job plan.files plan (λ kind. Unit {0}) (λ kind. is ≡ NoMemory) (λ kind. Unit {0}) (λ X N m. IsOneWay m) (λ X N m. StopsFiles m (asked_of plan) (Some told) is) (λ X N m. IsFineFiles m (asked_of plan) told)
              (λ kind w b c. b) (λ X N m w b c. stopped-fine m w (asked_of plan) told is none b c) ways s r
