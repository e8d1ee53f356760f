-- A plan's fields are in the ranges of the options that they come from.
use Rattle.std.proofs.Common.{◌≡◌, ℕ, zero, suc, ◌≤◌, Bool, true, false, List, [], Option, Some, None, refl, sym, ap, subst, ◌∙◌, arith}
use Rattle.std.specs.Prelude.{IsTrue, IsFalse, IfSome, is_some, option_map, unwrap_or}
use Rattle.std.proofs.lemmas.Bool.{both_ways}
use Rattle.std.proofs.lemmas.Option.{none-some}
use Rattle.yew_words.specs.declared.plan.Job.{Job}
use Rattle.yew_words.specs.declared.plan.Job.TheVariants as jobs
use Rattle.yew_words.specs.declared.plan.Made.TheVariants as made
use Rattle.yew_words.specs.declared.plan.Skeleton.{Skeleton}
use Rattle.yew_words.specs.declared.plan.Skeleton.TheVariants as skeletons
use Rattle.yew_words.specs.declared.table.Problem.{Problem}
use Rattle.yew_words.specs.declared.table.Problem.TheVariants as problems
use Rattle.yew_words.specs.declared.table.Coordination.{Coordination}
use Rattle.yew_words.specs.declared.table.Coordination.TheVariants as coordinations
use Rattle.yew_words.specs.declared.table.Head.{Head}
use Rattle.yew_words.specs.declared.table.Head.TheVariants.{Search, Make}
use Rattle.yew_words.specs.declared.table.OptionName.{OptionName}
use Rattle.yew_words.specs.declared.table.OptionName.TheVariants as options
use Rattle.yew_words.specs.declared.table.Takes.{Takes}
use Rattle.yew_words.specs.declared.table.Takes.TheVariants.{Nothing, OneOrAll, Number}
use Rattle.yew_words.specs.Word.{Word, number_of}
use Rattle.yew_words.specs.Table.{problem_row, file_count, job_of, takes, suits}
use Rattle.yew_words.specs.Plans.{Planned, Setting, IsValue, value_said, setting_of, is_given, Values, values_of, number_said, number_or, AreSettings}
use Rattle.yew_words.specs.Plans.{HasRequired, skeleton_of, workers_of, PlanOf}
use Rattle.yew_words.specs.Ranges.{coordination_of, head_of, IsFromTo, IsTaken, OneOf, HasRange, HasOptionalRange, HasSkeletonRange, HasSizeRange}
use Rattle.yew_words.specs.Ranges.{head_of_plan, file_count_of, HasSkeletonOf, IsWithin}
use Rattle.yew_words.proofs.SettingsInOrder.{one_excluded}
use Rattle.yew_words.proofs.SettingsKept.{found}

-- ---- an option's number

from_to : (low high n : ℕ) → low ≤ n → n ≤ high → IsFromTo low high n
from_to zero high n above below = below
from_to (suc low) high n above below = (above, below)

said_taken : (t : Takes) (word : Option Word) → IsValue t word → IfSome (number_said (Some (value_said t word))) (IsTaken t)
said_taken Nothing None is = tt
said_taken Nothing (Some word) is = absurd is
said_taken OneOrAll None is = absurd is
said_taken OneOrAll (Some word) is = tt
said_taken (Number low high) None is = absurd is
said_taken (Number low high) (Some word) is = from_to low high (number_of word) is.1 is.2

abbrev said : Head → Setting → Option ℕ
said head s = number_said (Some (value_said (takes head s.name) s.value))

-- a number that was given may follow the option
number_taken : (head : Head) (given : List Setting) → AreSettings head given → (name : OptionName)
    → IfSome (number_said (values_of head given name)) (IsTaken (takes head name))
number_taken head given are name = at (setting_of name given) refl
  where
    at : (o : Option Setting) → setting_of name given ≡ o → IfSome (number_said (option_map (λ (s : Setting). value_said (takes head s.name) s.value) o))
        (IsTaken (takes head name))
    at None e = tt
    at (Some s) e = let f = found head name [] given s e are in subst (λ (n : OptionName). IfSome (said head s) (IsTaken (takes head n))) (sym f.0)
        (said_taken (takes head s.name) s.value f.1)

-- an option that is not for these first words was not given
none_given : (head : Head) (given : List Setting) → AreSettings head given → (name : OptionName) → IsFalse (suits head name)
    → number_said (values_of head given name) ≡ None
none_given head given are name other = at (setting_of name given) refl
  where
    at : (o : Option Setting) → setting_of name given ≡ o → number_said (option_map (λ (s : Setting). value_said (takes head s.name) s.value) o) ≡ None
    at None e = refl
    at (Some s) e = let f = found head name [] given s e are in absurd (both_ways (suits head name) other (ap (suits head) f.0 ∙ f.2))

-- a number is that of an option that was given
number_given : (head : Head) (given : List Setting) (name : OptionName) (n : ℕ) → number_said (values_of head given name) ≡ Some n
    → IsTrue (is_given given name)
number_given head given name n e = at (setting_of name given) refl e
  where
    at : (o : Option Setting) → setting_of name given ≡ o → number_said (option_map (λ (s : Setting). value_said (takes head s.name) s.value) o) ≡ Some n
        → IsTrue (is_given given name)
    at None q h = absurd (none-some n h)
    at (Some s) q h = ap (λ (o : Option Setting). is_some o) q

number_not_given : (head : Head) (given : List Setting) (name : OptionName) → IsFalse (is_given given name) → number_said (values_of head given name) ≡ None
number_not_given head given name new = at (setting_of name given) refl
  where
    at : (o : Option Setting) → setting_of name given ≡ o → number_said (option_map (λ (s : Setting). value_said (takes head s.name) s.value) o) ≡ None
    at None q = refl
    at (Some s) q = absurd (both_ways (is_given given name) new (ap (λ (o : Option Setting). is_some o) q))

-- a gap has no target beside it
no_target : (head : Head) (given : List Setting) → AreSettings head given → (gap : ℕ) → number_said (values_of head given options.Gap) ≡ Some gap
    → number_said (values_of head given options.Target) ≡ None
no_target head given are gap e = number_not_given head given options.Target
    (one_excluded head [] given are options.Gap options.Target (λ h. let f = h in cc) refl refl (number_given head given options.Gap gap e))

said_or_taken : (low high absent : ℕ) (word : Option Word) → IsValue (Number low high) word
    → IsFromTo low high (unwrap_or (number_said (Some (value_said (Number low high) word))) absent)
said_or_taken low high absent None is = absurd is
said_or_taken low high absent (Some word) is = from_to low high (number_of word) is.1 is.2

-- a required number
given_taken : (head : Head) (given : List Setting) → AreSettings head given → (name : OptionName) (low high absent : ℕ) → takes head name ≡ Number low high
    → IsTrue (is_given given name) → IsFromTo low high (number_or (values_of head given) name absent)
given_taken head given are name low high absent t is = at (setting_of name given) refl
  where
    at : (o : Option Setting) → setting_of name given ≡ o → IsFromTo low high
        (unwrap_or (number_said (option_map (λ (s : Setting). value_said (takes head s.name) s.value) o)) absent)
    at None e = absurd (both_ways (is_given given name) (ap (λ (o : Option Setting). is_some o) e) is)
    at (Some s) e =
        let f = found head name [] given s e are in
        let taking : takes head s.name ≡ Number low high = ap (takes head) (sym f.0) ∙ t in
        subst (λ (taking : Takes). IsFromTo low high (unwrap_or (number_said (Some (value_said taking s.value))) absent)) (sym taking)
        (said_or_taken low high absent s.value (subst (λ (taking : Takes). IsValue taking s.value) taking f.1))

-- ---- a field

one_of : (test : Bool) (First Second : Type 0) → (IsTrue test → First) → (IsFalse test → Second) → OneOf test First Second
one_of true First Second first second = first refl
one_of false First Second first second = second refl

or_taken : (P : ℕ → Type 0) (o : Option ℕ) (absent : ℕ) → IfSome o P → P absent → P (unwrap_or o absent)
or_taken P None absent some none = none
or_taken P (Some n) absent some none = some

-- a field that may be absent
optional_within : (head : Head) (given : List Setting) → AreSettings head given → (name : OptionName)
    → HasOptionalRange head name (number_said (values_of head given name))
optional_within head given are name =
    one_of (suits head name) (IfSome (number_said (values_of head given name)) (IsTaken (takes head name))) (number_said (values_of head given name) ≡ None)
    (λ is. number_taken head given are name) (none_given head given are name)

-- a field with a number where the option is absent, which may follow it too
number_within : (head : Head) (given : List Setting) → AreSettings head given → (name : OptionName) (absent : ℕ) → IsTaken (takes head name) absent
    → HasRange head name absent (number_or (values_of head given) name absent)
number_within head given are name absent default =
    one_of (suits head name) (IsTaken (takes head name) (number_or (values_of head given) name absent))
    (number_or (values_of head given) name absent ≡ absent)
    (λ is. or_taken (IsTaken (takes head name)) (number_said (values_of head given name)) absent (number_taken head given are name) default)
    (λ other. ap (λ (o : Option ℕ). unwrap_or o absent) (none_given head given are name other))

workers_within : (head : Head) (given : List Setting) → AreSettings head given → HasRange head options.Workers 1 (workers_of head (values_of head given))
workers_within head given are =
    let n = workers_of head (values_of head given) in
    let default : IsTaken (takes head options.Workers) 4 = (omega arith, omega arith) in
    one_of (suits head options.Workers) (IsTaken (takes head options.Workers) n) (n ≡ 1)
    (λ is. rw is (or_taken (IsTaken (takes head options.Workers)) (number_said (values_of head given options.Workers)) 4
    (number_taken head given are options.Workers) default))
    (λ other. rw other refl)

skeleton_within : (head : Head) (given : List Setting) → AreSettings head given → HasSkeletonRange head (skeleton_of head (values_of head given))
skeleton_within (Search problem coordinations.Sequential) given are = tt
skeleton_within (Search problem coordinations.Depth) given are = depth_taken (Search problem coordinations.Depth) given are
  where
    depth_taken : (head : Head) (given : List Setting) → AreSettings head given → IsFromTo 1 255 (number_or (values_of head given) options.Depth 2)
    depth_taken head given are = or_taken (IsFromTo 1 255) (number_said (values_of head given options.Depth)) 2 (number_taken head given are options.Depth)
        (omega arith, omega arith)
skeleton_within (Search problem coordinations.Budget) given are =
    or_taken (IsFromTo 1 4294967295) (number_said (values_of (Search problem coordinations.Budget) given options.Budget)) 1000
    (number_taken (Search problem coordinations.Budget) given are options.Budget) (omega arith, omega arith)
skeleton_within (Search problem coordinations.Steal) given are = tt
skeleton_within (Search problem coordinations.Ordered) given are =
    or_taken (IsFromTo 1 255) (number_said (values_of (Search problem coordinations.Ordered) given options.Depth)) 2
    (number_taken (Search problem coordinations.Ordered) given are options.Depth) (omega arith, omega arith)
skeleton_within (Make kind) given are = tt

size_within : (head : Head) (given : List Setting) → AreSettings head given → HasRequired head given
    → HasSizeRange (job_of head) (number_or (values_of head given) options.Size 0)
size_within (Search problems.Knapsack coordination) given are has =
    ap (λ (o : Option ℕ). unwrap_or o 0) (none_given (Search problems.Knapsack coordination) given are options.Size refl)
size_within (Search problem coordination) given are has = ap (λ (o : Option ℕ). unwrap_or o 0)
    (none_given (Search problem coordination) given are options.Size refl)
size_within (Make made.Knapsack) given are has = given_taken (Make made.Knapsack) given are options.Size 1 256 0 refl has.1.0
size_within (Make made.Tsp) given are has = given_taken (Make made.Tsp) given are options.Size 2 60 0 refl has.1.0
size_within (Make made.Lad) given are has = given_taken (Make made.Lad) given are options.Size 0 1024 0 refl has.1.0

-- ---- the first words of a plan

count_is : (head : Head) → file_count head ≡ file_count_of (job_of head)
count_is (Search problems.Knapsack coordination) = refl
count_is (Search _ coordination) = refl
count_is (Make made.Knapsack) = refl
count_is (Make _) = refl

of_job : (head : Head) (v : Values) → HasSkeletonOf (job_of head) (skeleton_of head v)
of_job (Search problems.Knapsack coordination) v = tt
of_job (Search _ coordination) v = tt
of_job (Make made.Knapsack) v = refl
of_job (Make _) v = refl

head_of-problem : (problem : Problem) (coordination : Coordination) → head_of (problem_row problem).job coordination ≡ Search problem coordination
head_of-problem problems.Knapsack coordination = refl
head_of-problem _ coordination = refl

coordination_of-search : (problem : Problem) (coordination : Coordination) (v : Values)
    → coordination_of (skeleton_of (Search problem coordination) v) ≡ coordination
coordination_of-search problem coordinations.Sequential v = refl
coordination_of-search problem _ v = refl

head_of-plan : (head : Head) (v : Values) → head_of (job_of head) (coordination_of (skeleton_of head v)) ≡ head
head_of-plan (Search problem coordination) v =
    head_of-problem problem (coordination_of (skeleton_of (Search problem coordination) v))
    ∙ ap (λ (c : Coordination). Search problem c) (coordination_of-search problem coordination v)
head_of-plan (Make made.Knapsack) v = refl
head_of-plan (Make _) v = refl

pub plan_within : (words : List Word) (plan : Planned) → PlanOf words plan → IsWithin plan
plan_within words plan p =
    let head = p.head in
    let given = p.settings in
    let are = p.are_settings in
    let v = values_of head given in
    let head_is : head ≡ head_of (job_of head) (coordination_of (skeleton_of head v)) = sym (head_of-plan head v) in
    subst IsWithin (sym p.plan_is) (record {
      of_job = of_job head v;
      skeleton = subst (λ (h : Head). HasSkeletonRange h (skeleton_of head v)) head_is (skeleton_within head given are);
      workers = subst (λ (h : Head). HasRange h options.Workers 1 (workers_of head v)) head_is (workers_within head given are);
      target = subst (λ (h : Head). HasOptionalRange h options.Target (number_said (v options.Target))) head_is
          (optional_within head given are options.Target);
      gap = subst (λ (h : Head). HasOptionalRange h options.Gap (number_said (v options.Gap))) head_is
          (optional_within head given are options.Gap);
      no_target = no_target head given are;
      genus = subst (λ (h : Head). HasRange h options.Genus 0 (number_or v options.Genus 0)) head_is
          (number_within head given are options.Genus 0 (omega arith));
      size = size_within head given are p.has_required;
      files = p.are_files.count ∙ count_is head;
    })

-- ---- what the range of a gap says

gap_in : (head : Head) (o : Option ℕ) → HasOptionalRange head options.Gap o → IfSome o (λ gap. gap ≤ 1099511627774)
gap_in head None h = tt
gap_in head (Some gap) h = at (suits head options.Gap) h
  where
    at : (b : Bool) → OneOf b (gap ≤ 1099511627774) (Some gap ≡ None) → gap ≤ 1099511627774
    at true h = h
    at false h = absurd (none-some gap (sym h))

-- A gap is at most 2^40 - 2.
pub gap_below : (plan : Planned) → IsWithin plan → IfSome plan.gap (λ gap. gap ≤ 1099511627774)
gap_below plan w = gap_in (head_of_plan plan) plan.gap w.gap

not_ordered : (job : Job) (depth : ℕ) (o : Option ℕ) → HasOptionalRange (head_of job (coordination_of (skeletons.Ordered depth))) options.Gap o → o ≡ None
not_ordered jobs.Knapsack depth o h = h
not_ordered _ depth o h = h

-- There is none where the skeleton is `ordered`.
pub no_gap_ordered : (plan : Planned) (depth : ℕ) → IsWithin plan → plan.skeleton ≡ skeletons.Ordered depth → plan.gap ≡ None
no_gap_ordered plan depth w e =
    not_ordered plan.job depth plan.gap (subst (λ (s : Skeleton). HasOptionalRange (head_of plan.job (coordination_of s)) options.Gap plan.gap) e w.gap)
