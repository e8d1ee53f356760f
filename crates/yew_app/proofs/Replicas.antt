-- Runs whose plans are one where one worker in preorder stands in the place of their skeletons write the same text.
use Rattle.std.proofs.Common.{◌≡◌, ℕ, List, [], ◌∷◌, ◌++◌, length, Bool, true, false, Option, Some, None, inl, inr, refl, sym, ap, ap₂, subst, ◌∙◌}
use Rattle.std.specs.Prelude.{IfSome, IsSome}
use Rattle.yew_io.specs.Shelf.{File}
use Rattle.yew_io.specs.Sink.{Appends}
use Rattle.yew_kinds.specs.Kinds.{gap_of}
use Rattle.yew_laws.specs.SearchTree.{SearchTree}
use Rattle.yew_words.specs.declared.plan.Job.{Job}
use Rattle.yew_words.specs.declared.plan.Job.TheVariants as jobs
use Rattle.yew_words.specs.declared.plan.Made.{Made}
use Rattle.yew_words.specs.declared.plan.Made.TheVariants as made
use Rattle.yew_words.specs.declared.plan.Skeleton.{Skeleton}
use Rattle.yew_words.specs.Laws.{HasOneAnswer}
use Rattle.yew_words.specs.Plans.{Planned, PlanOf}
use Rattle.yew_words.specs.Ranges.{file_count_of}
use Rattle.yew_words.specs.Word.{Word}
use Rattle.yew_words.proofs.PlansInRange.{plan_within}
use Rattle.yew_app.specs.Asks.{AsksFirst}
use Rattle.yew_app.specs.Jobs.{of_job}
use Rattle.yew_app.specs.MadeTexts.{IsMadeText}
use Rattle.yew_app.specs.Meanings.{Meaning, known_files, IsOneWay, searched}
use Rattle.yew_app.specs.Outcomes.{Outside, WritesAnswer}
use Rattle.yew_app.specs.Replicas.{in_preorder, AreReplicas, WriteTheSame}
use Rattle.yew_app.specs.Runs.{asked_of, AnswersJob}
use Rattle.yew_app.specs.Texts.{IsFirstText}
use Rattle.yew_app.proofs.Serving.{meet-job}

-- a tree has one text of one worker in preorder
one-first : {N : Type 0} (t : SearchTree N) (gap : ℕ) (report audit : Bool) (lines : Option N → List ℕ) (a b : List ℕ) → IsFirstText t gap report audit lines a → IsFirstText t gap report audit lines b → a ≡ b
one-first t gap report audit lines a b p q = p.text_is ∙ ap (λ (tail : List ℕ). lines _ ++ tail) (p.is_first.text_is ∙ sym q.is_first.text_is) ∙ sym q.text_is

-- what is made has one text
one-made : (kind : Made) (solve : Bool) (seed size : ℕ) (a b : List ℕ) → IsMadeText kind solve seed size a → IsMadeText kind solve seed size b → a ≡ b
one-made kind false seed size a b p q = p ∙ sym q
one-made made.Knapsack true seed size a b p q = p.text_is ∙ sym q.text_is
one-made made.Tsp true seed size a b p q = p.text_is ∙ sym q.text_is
one-made made.Lad true seed size a b p q = p ∙ sym q

-- what is said of a job is said where one worker in preorder stands in the place of the skeleton
map-job : (job : Job) (names : List Word) (plan : Planned) (A B : Made → Type 0) (K L : (X N : Type 0) → Meaning X N → Type 0)
    → ((kind : Made) → A kind → B kind) → ((X N : Type 0) (m : Meaning X N) → K X N m → L X N m) → of_job job names plan A K → of_job job names (in_preorder plan) B L
map-job jobs.Knapsack (name ∷ []) plan A B K L made by a = by _ _ _ a
map-job jobs.Tsp (name ∷ []) plan A B K L made by a = by _ _ _ a
map-job jobs.Subgraph (pattern ∷ target ∷ []) plan A B K L made by a = by _ _ _ a
map-job jobs.Semigroups [] plan A B K L made by a = by _ _ _ a
map-job jobs.Flow (name ∷ []) plan A B K L made by a = by _ _ _ a
map-job (jobs.Make kind) [] plan A B K L made by a = made kind a
map-job jobs.Knapsack [] plan A B K L made by a = absurd a
map-job jobs.Knapsack (name ∷ second ∷ names) plan A B K L made by a = absurd a
map-job jobs.Tsp [] plan A B K L made by a = absurd a
map-job jobs.Tsp (name ∷ second ∷ names) plan A B K L made by a = absurd a
map-job jobs.Subgraph [] plan A B K L made by a = absurd a
map-job jobs.Subgraph (name ∷ []) plan A B K L made by a = absurd a
map-job jobs.Subgraph (name ∷ second ∷ third ∷ names) plan A B K L made by a = absurd a
map-job jobs.Semigroups (name ∷ names) plan A B K L made by a = absurd a
map-job jobs.Flow [] plan A B K L made by a = absurd a
map-job jobs.Flow (name ∷ second ∷ names) plan A B K L made by a = absurd a
map-job (jobs.Make kind) (name ∷ names) plan A B K L made by a = absurd a

module _ (told : List File) where
  -- the text of one worker in preorder for these files, whatever the skeleton of the plan
  abbrev FirstFiles : {X N : Type 0} → Meaning X N → Bool → Bool → List ℕ → Type 0
  FirstFiles {X} m report audit text = (instance : X) × m.Reads told instance × IsFirstText (searched m instance) (gap_of m.kind) report audit (m.lines instance) text

  abbrev FirstJob : Planned → List ℕ → Type 0
  FirstJob plan text = of_job plan.job plan.files plan (λ kind. IsMadeText kind plan.solve plan.seed plan.size text) (λ X N m. FirstFiles m plan.report plan.audit text)

  -- a plan that asks for it has it
  first-job : (plan : Planned) (text : List ℕ) → AsksFirst (asked_of plan) → AnswersJob plan.job plan.files plan told text → FirstJob (in_preorder plan) text
  first-job plan text asks =
      map-job plan.job plan.files plan (λ kind. IsMadeText kind plan.solve plan.seed plan.size text) (λ kind. IsMadeText kind plan.solve plan.seed plan.size text) _ (λ X N m. FirstFiles m plan.report plan.audit text)
      (λ kind is. is) (λ X N m answers. (answers.0, answers.1, answers.2.found.first_text asks))

  one-files : {X N : Type 0} (m : Meaning X N) → IsOneWay m → (report audit : Bool) (a b : List ℕ) → FirstFiles m report audit a → FirstFiles m report audit b → a ≡ b
  one-files m one report audit a b p q =
      one-first (searched m q.0) (gap_of m.kind) report audit (m.lines q.0) a b (subst (λ (x : _). IsFirstText (searched m x) (gap_of m.kind) report audit (m.lines x) a) (one.one_instance told p.0 q.0 p.1 q.1) p.2) q.2

  -- there is one such text
  one-text : (plan : Planned) (a b : List ℕ) → of_job plan.job plan.files plan (λ kind. Unit {0}) (λ X N m. IsOneWay m) → FirstJob plan a → FirstJob plan b → a ≡ b
  one-text plan a b =
      meet-job plan.job plan.files plan (λ kind. Unit {0}) (λ kind. IsMadeText kind plan.solve plan.seed plan.size a) (λ kind. IsMadeText kind plan.solve plan.seed plan.size b)
      (λ X N m. IsOneWay m) (λ X N m. FirstFiles m plan.report plan.audit a) (λ X N m. FirstFiles m plan.report plan.audit b)
      (λ kind w p q. one-made kind plan.solve plan.seed plan.size a b p q) (λ X N m w p q. one-files m w plan.report plan.audit a b p q)

-- words have one plan
one-plan : (words : List Word) → HasOneAnswer words → (a b : Planned) → PlanOf words a → PlanOf words b → a ≡ b
one-plan words (inl has) a b p q = has.only a p ∙ sym (has.only b q)
one-plan words (inr none) a b p q = absurd (none.no_plan a p)

-- the same bytes written behind the same bytes
same-written : (before after other_before other_after : Option (List ℕ)) (a b : List ℕ) → IsSome before → other_before ≡ before → a ≡ b
    → Appends before a after → Appends other_before b other_after → other_after ≡ after
same-written (Some stood) after (Some other) other_after a b some same equal p q = let e : other ≡ stood = cc in q ∙ ap Some (ap₂ (λ (x y : List ℕ). x ++ y) e (sym equal)) ∙ sym p
same-written None after other_before other_after a b some same equal p q = absurd (cc)
same-written (Some stood) after None other_after a b some same equal p q = absurd (cc)

module _ (answers : (words : List Word) → HasOneAnswer words) (ways : (plan : Planned) → length plan.files ≡ file_count_of plan.job → of_job plan.job plan.files plan (λ kind. Unit {0}) (λ X N m. IsOneWay m)) where
  -- two plans that are one in preorder have one text
  same-text : (plan other : Planned) (files : Option (List File)) (a b : List ℕ) → length plan.files ≡ file_count_of plan.job
      → in_preorder plan ≡ in_preorder other → AsksFirst (asked_of plan) → AsksFirst (asked_of other) → IsSome (known_files plan.files files)
      → IfSome (known_files plan.files files) (λ told. AnswersJob plan.job plan.files plan told a) → IfSome (known_files other.files files) (λ told. AnswersJob other.job other.files other told b) → a ≡ b
  same-text plan other files a b count same asks other_asks known p q =
      at (known_files plan.files files) (known_files other.files files) known (ap (λ (r : Planned). known_files r.files files) (sym same)) p q
    where
      at : (k l : Option (List File)) → IsSome k → l ≡ k → IfSome k (λ told. AnswersJob plan.job plan.files plan told a) → IfSome l (λ told. AnswersJob other.job other.files other told b) → a ≡ b
      at None l some e p q = absurd (cc)
      at (Some told) None some e p q = absurd (cc)
      at (Some told) (Some others) some e p q =
          let one : others ≡ told = cc in
          let f = first-job told plan a asks p in
          let g = first-job told other b other_asks (subst (λ (fs : List File). AnswersJob other.job other.files other fs b) one q) in
          one-text told (in_preorder plan) a b (ways (in_preorder plan) count) f (subst (λ (r : Planned). FirstJob told r b) (sym same) g)

  pub same-bytes : (does others_do : Skeleton → Type 0) (words others : List Word) (before after other_before other_after : Outside) → WriteTheSame does others_do words others before after other_before other_after
  same-bytes does others_do words others before after other_before other_after are files some bytes writes other_writes =
      let plan_is = one-plan words (answers words) writes.answers.plan are.plan writes.answers.is_plan.is_plan are.is_plan in
      let other_is = one-plan others (answers others) other_writes.answers.plan are.other other_writes.answers.is_plan.is_plan are.is_other in
      let right = subst (λ (p : Planned). IfSome (known_files p.files before.files) (λ told. AnswersJob p.job p.files p told writes.text)) plan_is writes.answers.right in
      let other_right =
      subst (λ (fs : Option (List File)). IfSome (known_files are.other.files fs) (λ told. AnswersJob are.other.job are.other.files are.other told other_writes.text)) files
      (subst (λ (p : Planned). IfSome (known_files p.files other_before.files) (λ told. AnswersJob p.job p.files p told other_writes.text)) other_is other_writes.answers.right) in
      same-written before.answer after.answer other_before.answer other_after.answer writes.text other_writes.text some bytes
      (same-text are.plan are.other before.files writes.text other_writes.text (plan_within words are.plan are.is_plan).files are.same are.asks are.other_asks are.known right other_right) writes.written other_writes.written
