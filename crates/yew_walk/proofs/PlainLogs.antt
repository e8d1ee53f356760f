-- A walk with no groups, whose seat has the whole share of its word, is the one sequential log.
use Rattle.std.proofs.Common.{◌≡◌, ℕ, ◌≤◌, ◌⊎◌, inl, inr, List, [], ◌∷◌, ◌++◌, max, Bool, refl, ap, sym, subst, ◌∙◌, append-nil, arith}
use Rattle.std.specs.Prelude.{All, Contains}
use Rattle.std.specs.List.{AllByRecursion}
use Rattle.std.proofs.lemmas.List.Elements.{All-contains, All-from_recursion, recursion_from_All}
use Rattle.yew_best.specs.Seats.{SeatView, has_read}
use Rattle.yew_laws.specs.SearchTree.{SearchTree}
use Rattle.yew_laws.specs.Tree.{IsRanked}
use Rattle.yew_laws.proofs.Members.{AllByRecursion-weaker}
use Rattle.yew_log.specs.Groups.{sequential, group_of, lowest_left, HasGroups, SkeletonGroup}
use Rattle.yew_log.specs.HeldValues.{plain, HeldRises, IsJudged}
use Rattle.yew_log.specs.Lawful.{LawfulLog, IsWalk}
use Rattle.yew_log.specs.Notes.{Note, taken, visited, cut, spawned, handed, ended, values, visits, judgement_in, event_in, maximum}
use Rattle.yew_log.specs.Places.{AtEach}
use Rattle.yew_log.specs.Policies.{on, PolicyInput, PolicyGroup, last_act, act_notes, policy_inputs, plain_policy}
use Rattle.yew_log.specs.Segment.{segment}
use Rattle.yew_log.specs.SeqLog.{seq_log}
use Rattle.yew_log.proofs.Growth.{worths-append}
use Rattle.yew_log.proofs.Places.{AtEach-weaker}
use Rattle.yew_log.proofs.SeqUnique.{seq_log-unique}
use Rattle.yew_walk.specs.declared.keying.Keying.{Keying}
use Rattle.yew_walk.specs.Keys.{key_of, held_of, kind_of}
use Rattle.yew_walk.specs.Seats.{IsRead, SeatGoes, has_offered}
use Rattle.yew_walk.proofs.KeyOrder.{key_of-plain, held_of-plain}

maximum-least : (ns : List ℕ) (w : ℕ) → AllByRecursion (λ n. n ≤ w) ns → maximum ns ≤ w
maximum-least [] w a = omega arith
maximum-least (n ∷ ns) w a = let rest = maximum-least ns w a.1 in omega (arith, a.0, rest)

all-at_most : (ns : List ℕ) → AllByRecursion (λ n. n ≤ maximum ns) ns
all-at_most [] = tt
all-at_most (n ∷ ns) = (omega arith, AllByRecursion-weaker (λ k. k ≤ maximum ns) (λ k. k ≤ max n (maximum ns)) (λ k le. omega (arith, le)) ns (all-at_most ns))

maximum-contains : (ns : List ℕ) (n : ℕ) → Contains ns n → n ≤ maximum ns
maximum-contains ns n there = All-contains (λ k. k ≤ maximum ns) ns n (All-from_recursion (λ k. k ≤ maximum ns) ns (all-at_most ns)) there

-- a number that is at least each, and 0 or one of them, is the greatest
pub maximum-one : (ns : List ℕ) (w : ℕ) → All (λ n. n ≤ w) ns → (w ≡ 0) ⊎ Contains ns w → w ≡ maximum ns
maximum-one ns w above one =
    let least = maximum-least ns w (recursion_from_All (λ n. n ≤ w) ns above) in
    let most : w ≤ maximum ns = elim one as (λ o. w ≤ maximum ns) [ inl zero ↦ omega (arith, zero) | inr there ↦ maximum-contains ns w there ] in
    omega (arith, least, most)

-- with the whole share the word that is read is the greatest key that the seat has offered
pub IsRead-maximum : (seat : SeatView) (word : ℕ) → seat.share ≡ seat.best.seats → IsRead seat word → word ≡ maximum seat.offered
IsRead-maximum seat word whole read = maximum-one seat.offered word read.at_least_offered (read.whole whole)

-- one more visit, of the worth that is offered
offered-visit : (offered : List ℕ) (before : List Note) (path : List ℕ) (worth held : ℕ) → offered ≡ values (visits before) → offered ++ worth ∷ [] ≡ values (visits (before ++ visited path worth held ∷ []))
offered-visit offered before path worth held e = ap (λ ws. ws ++ worth ∷ []) e ∙ sym (worths-append before (visited path worth held ∷ []))

-- an entry that is no visit leaves the worths of the visits
same-worths : (before : List Note) (note : Note) → values (visits (note ∷ [])) ≡ [] → values (visits before) ≡ values (visits (before ++ note ∷ []))
same-worths before note none = sym (append-nil (values (visits before))) ∙ ap (λ ws. values (visits before) ++ ws) (sym none) ∙ sym (worths-append before (note ∷ []))

-- a seat with the whole share that has offered the worths of the visits before: each held value is the greatest of them
module _ {N : Type 0} (t : SearchTree N) (keying : Keying) (is_plain : kind_of keying ≡ plain) where
  held-maximum : (old : SeatView) (before : List Note) (word held : ℕ) → old.share ≡ old.best.seats → old.offered ≡ values (visits before) → IsRead old word → held ≡ held_of keying word → held ≡ maximum (values (visits before))
  held-maximum old before word held whole worths read is = is ∙ held_of-plain keying word is_plain ∙ IsRead-maximum old word whole read ∙ ap maximum worths

  pub SeatGoes-maximum : (old new : SeatView) (before notes : List Note) → old.share ≡ old.best.seats → old.offered ≡ values (visits before) → SeatGoes t keying old notes new → AtEach (λ b n a. AllByRecursion (λ j. j.held ≡ maximum (values (visits b))) (judgement_in n)) before notes
  SeatGoes-maximum old new before [] whole worths goes = tt
  SeatGoes-maximum old new before (visited path worth held ∷ notes) whole worths (word, read, goes) = (
    (held-maximum old before word held whole worths read.is_read read.held_is, tt),
    SeatGoes-maximum (has_offered (has_read old word) (key_of keying worth)) new (before ++ visited path worth held ∷ []) notes whole
        (ap (λ key. old.offered ++ key ∷ []) (key_of-plain keying worth is_plain) ∙ offered-visit old.offered before path worth held worths) goes,
  )
  SeatGoes-maximum old new before (cut path bound held ∷ notes) whole worths (word, read, goes) = (
    (held-maximum old before word held whole worths read.is_read read.held_is, tt),
    SeatGoes-maximum (has_read old word) new (before ++ cut path bound held ∷ []) notes whole (worths ∙ same-worths before (cut path bound held) refl) goes,
  )
  SeatGoes-maximum old new before (taken path ∷ notes) whole worths goes = (tt, SeatGoes-maximum old new (before ++ taken path ∷ []) notes whole (worths ∙ same-worths before (taken path) refl) goes)
  SeatGoes-maximum old new before (spawned path ∷ notes) whole worths goes = (tt, SeatGoes-maximum old new (before ++ spawned path ∷ []) notes whole (worths ∙ same-worths before (spawned path) refl) goes)
  SeatGoes-maximum old new before (handed path ∷ notes) whole worths goes = (tt, SeatGoes-maximum old new (before ++ handed path ∷ []) notes whole (worths ∙ same-worths before (handed path) refl) goes)
  SeatGoes-maximum old new before (ended path ∷ notes) whole worths goes = (tt, SeatGoes-maximum old new (before ++ ended path ∷ []) notes whole (worths ∙ same-worths before (ended path) refl) goes)

plain_act : (inputs : List PolicyInput) → last_act plain_policy tt inputs ≡ on
plain_act [] = refl
plain_act (x ∷ []) = refl
plain_act (x ∷ y ∷ rest) = plain_act (y ∷ rest)

module _ {N : Type 0} (t : SearchTree N) where
  -- the groups of the plain policy are none
  pub plain_policy-groups : (answers : List Bool) (body : List Note) → HasGroups (PolicyGroup t plain_policy tt answers) body → HasGroups (SkeletonGroup t sequential) body
  plain_policy-groups answers body groups =
      AtEach-weaker (λ before note after. AllByRecursion (λ p. PolicyGroup t plain_policy tt answers before note (group_of after)) (event_in note))
      (λ before note after. AllByRecursion (λ p. SkeletonGroup t sequential before note (group_of after)) (event_in note))
      body [] body refl
      (λ before note after e. AllByRecursion-weaker (λ p. PolicyGroup t plain_policy tt answers before note (group_of after)) (λ p. group_of after ≡ [])
      (λ p group. group ∙ ap (λ act. act_notes act (lowest_left t (before ++ note ∷ []))) (plain_act (policy_inputs (before ++ note ∷ []) answers)))
      (event_in note))
      groups

  -- the Taken entry stands in front, and a seat goes along the rest as along all
  pub plain_walk-taken : (gap : ℕ) {rule : List Note → Note → List Note → Type 0} (keying : Keying) (task : List ℕ) (notes : List Note) (old new : SeatView) → IsWalk t gap plain rule task notes → SeatGoes t keying old notes new → (body : List Note) × (notes ≡ taken task ∷ body) × SeatGoes t keying old body new
  plain_walk-taken gap keying task notes old new w goes =
      let is : notes ≡ taken task ∷ w.body = w.one_segment ∙ ap (λ ns. taken task ∷ ns) (append-nil w.body) in
      (w.body, is, subst (λ ns. SeatGoes t keying old ns new) is goes)

  module _ (gap : ℕ) (keying : Keying) (is_plain : kind_of keying ≡ plain) where
    -- a walk of the root with no groups, by a seat that has offered nothing and has the whole share, is a lawful log of one worker
    pub plain_walk-lawful : (answers : List Bool) (notes : List Note) (old new : SeatView) → IsWalk t gap plain (PolicyGroup t plain_policy tt answers) [] notes → SeatGoes t keying old notes new → old.offered ≡ [] → old.share ≡ old.best.seats → LawfulLog t gap sequential 1 1 notes
    plain_walk-lawful answers notes old new w goes nothing whole = record {
      segments = segment [] w.body ∷ [];
      cut_up = w.one_segment;
      each = w.keeps.each;
      groups = record {
        own = segment [] w.body ∷ [];
        rest = [];
        own_first = refl;
        groups = (plain_policy-groups answers w.body w.keeps.groups.0, tt);
        rest_segments = tt;
        may_rest = inl refl;
        shape = (refl, refl);
      };
      held_rises = subst HeldRises (sym w.one_segment) w.keeps.held_rises;
      due = subst (IsJudged t gap plain) (sym w.one_segment) w.keeps.due;
      alone = λ one. SeatGoes-maximum t keying is_plain old new [] notes whole nothing goes;
    }

    -- and so it is the one sequential log
    pub plain_walk-seq_log : {sound : N → Type 0} → IsRanked sound t.children t.rank → sound t.root → (answers : List Bool) (notes : List Note) (old new : SeatView) → IsWalk t gap plain (PolicyGroup t plain_policy tt answers) [] notes → SeatGoes t keying old notes new → old.offered ≡ [] → old.share ≡ old.best.seats → notes ≡ seq_log t gap
    plain_walk-seq_log ranked root answers notes old new w goes nothing whole = seq_log-unique t gap ranked root 1 1 notes (plain_walk-lawful answers notes old new w goes nothing whole)
