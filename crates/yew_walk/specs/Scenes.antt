-- What a walk changes, and what it has done: as far as it is under way, in the end, and where it is refused.
use Rattle.std.specs.Prelude.{◌≡◌, ℕ, ◌≤◌, List, [], ◌∷◌, ◌++◌, length, Bool, Option}
use Rattle.std.specs.List.{AllByRecursion}
use Rattle.std.specs.Option.{option_map}
use Rattle.yew_best.specs.Seats.{SeatView}
use Rattle.yew_laws.specs.declared.problem.Problem.{Ghosts}
use Rattle.yew_laws.specs.declared.problem.Task.{Task}
use Rattle.yew_laws.specs.Bag.{SameBag, PartOfBag}
use Rattle.yew_laws.specs.Fold.{fold_of, of_member}
use Rattle.yew_laws.specs.SearchTree.{search_tree, below, IsTask}
use Rattle.yew_laws.specs.Tree.{Member}
use Rattle.yew_log.specs.HeldValues.{plain}
use Rattle.yew_log.specs.Lawful.{IsWalk, IsBrokenWalk}
use Rattle.yew_log.specs.Notes.{Note, taken, visits, sent_paths, event_paths, path_of}
use Rattle.yew_log.specs.Policies.{PolicyMeaning, PolicyInput, on, PolicyGroup, HasPolicy}
use Rattle.yew_log.specs.Recording.{IsFull}
use Rattle.yew_log.specs.Segment.{covered_paths}
use Rattle.yew_log.specs.SeqLog.{seq_log}
use Rattle.yew_log.proofs.Frames.{Frame}
use Rattle.yew_log.proofs.PolicyRows.{input_of as input_of_note}
use Rattle.yew_stack.specs.Levels.{LevelValue, levels}
use Rattle.yew_stack.specs.Splits.{paths_of}
use Rattle.yew_walk.specs.declared.fault.SearchFault.{SearchFault}
use Rattle.yew_walk.specs.declared.fault.SearchFault.TheVariants.{Memory, AuditFull, TooManyTasks}
use Rattle.yew_walk.specs.declared.hand.Hand.{Hand}
use Rattle.yew_walk.specs.declared.keying.Keying.{Keying}
use Rattle.yew_walk.specs.declared.policy.Event.{Event}
use Rattle.yew_walk.specs.Asking.{input_of}
use Rattle.yew_walk.specs.Dealt.{IsDealt}
use Rattle.yew_walk.specs.Hands.{incumbent_of, best_after, AreVisited}
use Rattle.yew_walk.specs.Keys.{kind_of, gap_in}
use Rattle.yew_walk.specs.LogViews.{LogView, log_after, IsWithin}
use Rattle.yew_walk.specs.Outlets.{OutletCall, outlet_calls}
use Rattle.yew_walk.specs.PolicyStates.{policy_state, HasGoneOn}
use Rattle.yew_walk.specs.Seats.{SeatGoes}
use Rattle.yew_walk.specs.SeqRests.{IsInSequence}
use Rattle.yew_walk.specs.UnderWay.{IsUnderWay}

-- what a walk changes: the seat at the incumbent word, the hand, the policy's state, the tasks that the outlet sent and
-- the answers that it gave, and the log
pub record Scene (N Sum Q : Type 0) : Type 0 where
  pub seat : SeatView
  pub hand : Hand Sum
  pub state : Q
  pub sent : List (Task N)
  pub answers : Option (List Bool)
  pub log : LogView

abbrev pub scene : {N Sum Q : Type 0} → SeatView → Hand Sum → Q → List (Task N) → Option (List Bool) → LogView → Scene N Sum Q
scene seat hand state sent answers log = record { seat = seat; hand = hand; state = state; sent = sent; answers = answers; log = log }

-- a sum with these members, one after another
abbrev pub sum_after : {N Sum : Type 0} → (Sum → Sum → Sum) → (N → ℕ → Sum) → Sum → List (Member N) → Sum
sum_after join of sum [] = sum
sum_after join of sum (m ∷ ms) = sum_after join of (join sum (of m.node (length m.path))) ms

-- why a walk was refused, where the next entry, if there was one, had no room or no memory
abbrev pub IsCause : SearchFault → LogView → List Note → Type 0
IsCause Memory log ahead = Unit {0}
IsCause (AuditFull worker entries numbers) log [] = ⊥
IsCause (AuditFull worker entries numbers) log (next ∷ more) = (worker ≡ log.number) × IsFull log.told (path_of next) entries numbers
IsCause (TooManyTasks number) log ahead = ⊥

module _ {S N K Sum Q : Type 0} (meaning : Ghosts S N K) (problem : S) (keying : Keying) (join : Sum → Sum → Sum) (of : N → ℕ → Sum) (policy : PolicyMeaning Q) (task : List ℕ) where
  -- the walk is that of the root's task by one worker, which shares nothing out
  pub record IsAlone (first : Scene N Sum Q) : Type 0 where
    pub plain_keys : kind_of keying ≡ plain
    pub never_asks : (state : Q) (input : PolicyInput) → policy.act state input ≡ on
    pub of_root : task ≡ []
    pub none_offered : first.seat.offered ≡ []
    pub whole_share : first.seat.share ≡ first.seat.best.seats

  -- the walk is under way, and waits for its next turn; the calls that were made of the outlet are those along its entries
  pub record IsWalking (made : List OutletCall → Type 0) (first now : Scene N Sum Q) (stack : List (LevelValue K)) : Type 0 where
    pub notes : List Note
    pub frames : List Frame
    pub answers : List Bool
    pub tasks : List (Task N)
    pub members : List (Member N)
    pub way : IsUnderWay meaning problem keying task first.seat now.seat notes frames (levels (meaning.remaining problem) stack) []
    pub begun : length notes ≡ 0 → ⊥
    pub gone_on : HasGoneOn (search_tree meaning problem) policy first.state notes answers (levels (meaning.remaining problem) stack) now.state
    pub log_is : now.log ≡ log_after first.log (taken task ∷ notes)
    pub within : IsWithin now.log.told
    pub in_sequence : IsAlone first → IsInSequence (search_tree meaning problem) (gap_in keying) notes (levels (meaning.remaining problem) stack)
    pub are_visited : AreVisited (search_tree meaning problem) notes members
    pub sum_is : now.hand.sum ≡ sum_after join of first.hand.sum members
    pub best_is : incumbent_of now.hand ≡ best_after keying (incumbent_of first.hand) (visits notes)
    pub sent_are : SameBag now.sent (first.sent ++ tasks)
    pub tasks_are : SameBag (paths_of tasks) (sent_paths notes)
    pub sound : AllByRecursion (λ task'. IsTask meaning problem task'.path.numbers task'.node) tasks
    pub answers_are : now.answers ≡ option_map (λ given. given ++ answers) first.answers
    pub calls_are : made (outlet_calls policy (policy.start first.state) notes answers)

  -- an event was recorded at a depth, of which the policy was not told yet
  pub record HasEvent (made : List OutletCall → Type 0) (first now : Scene N Sum Q) (stack : List (LevelValue K)) (event : Event) (depth : ℕ) : Type 0 where
    pub notes : List Note
    pub note : Note
    pub frames : List Frame
    pub answers : List Bool
    pub tasks : List (Task N)
    pub members : List (Member N)
    pub is_event : (wanted : Bool) → input_of_note note wanted ≡ input_of event depth wanted ∷ []
    pub unsent : sent_paths (notes ++ note ∷ []) ≡ sent_paths notes
    pub way : IsUnderWay meaning problem keying task first.seat now.seat (notes ++ note ∷ []) frames (levels (meaning.remaining problem) stack) []
    pub has_policy : HasPolicy (search_tree meaning problem) policy first.state answers notes
    pub state_is : policy_state policy first.state notes answers ≡ now.state
    pub dealt : IsDealt (search_tree meaning problem) (notes ++ note ∷ []) (levels (meaning.remaining problem) stack)
    pub log_is : now.log ≡ log_after first.log (taken task ∷ (notes ++ note ∷ []))
    pub within : IsWithin now.log.told
    pub in_sequence : IsAlone first → IsInSequence (search_tree meaning problem) (gap_in keying) (notes ++ note ∷ []) (levels (meaning.remaining problem) stack)
    pub are_visited : AreVisited (search_tree meaning problem) (notes ++ note ∷ []) members
    pub sum_is : now.hand.sum ≡ sum_after join of first.hand.sum members
    pub best_is : incumbent_of now.hand ≡ best_after keying (incumbent_of first.hand) (visits (notes ++ note ∷ []))
    pub sent_are : SameBag now.sent (first.sent ++ tasks)
    pub tasks_are : SameBag (paths_of tasks) (sent_paths notes)
    pub sound : AllByRecursion (λ task'. IsTask meaning problem task'.path.numbers task'.node) tasks
    pub answers_are : now.answers ≡ option_map (λ given. given ++ answers) first.answers
    pub calls_are : made (outlet_calls policy (policy.start first.state) notes answers)

  -- the walk was refused: its entries, with the one that was not recorded, if there is one, are one segment that was broken off
  pub record IsRefused (first now : Scene N Sum Q) (fault : SearchFault) : Type 0 where
    pub notes : List Note
    pub ahead : List Note
    pub tasks : List (Task N)
    pub one_ahead : length ahead ≤ 1
    pub log_is : now.log ≡ log_after first.log notes
    pub keeps : IsBrokenWalk (search_tree meaning problem) (gap_in keying) (kind_of keying) task notes
    pub keeps_ahead : IsBrokenWalk (search_tree meaning problem) (gap_in keying) (kind_of keying) task (notes ++ ahead)
    pub part : PartOfBag (covered_paths (search_tree meaning problem) (notes ++ ahead)) (below (search_tree meaning problem) task)
    pub goes : SeatGoes (search_tree meaning problem) keying first.seat (notes ++ ahead) now.seat
    pub sent_are : SameBag now.sent (first.sent ++ tasks)
    pub noted : PartOfBag (paths_of tasks) (sent_paths notes)
    pub sound : AllByRecursion (λ task'. IsTask meaning problem task'.path.numbers task'.node) tasks
    pub cause : IsCause fault now.log ahead
    pub of_sequence : IsAlone first → (rest : List Note) × (seq_log (search_tree meaning problem) (gap_in keying) ≡ (notes ++ ahead) ++ rest)

  -- the walk came to its end: its entries are one segment, which has the policy's groups, and the calls that were made of
  -- the outlet are those along its entries
  pub record IsWalked (none : Sum) (made : List OutletCall → Type 0) (first now : Scene N Sum Q) : Type 0 where
    pub notes : List Note
    pub answers : List Bool
    pub tasks : List (Task N)
    pub members : List (Member N)
    pub walk : IsWalk (search_tree meaning problem) (gap_in keying) (kind_of keying) (PolicyGroup (search_tree meaning problem) policy first.state answers) task notes
    pub one_each : length answers ≡ length (event_paths notes)
    pub state_is : now.state ≡ policy_state policy first.state notes answers
    pub goes : SeatGoes (search_tree meaning problem) keying first.seat notes now.seat
    pub log_is : now.log ≡ log_after first.log notes
    pub within : IsWithin now.log.told
    pub are_visited : AreVisited (search_tree meaning problem) notes members
    pub sum_is : now.hand.sum ≡ join first.hand.sum (fold_of join none (of_member of) members)
    pub best_is : incumbent_of now.hand ≡ best_after keying (incumbent_of first.hand) (visits notes)
    pub sent_are : SameBag now.sent (first.sent ++ tasks)
    pub tasks_are : SameBag (paths_of tasks) (sent_paths notes)
    pub sound : AllByRecursion (λ task'. IsTask meaning problem task'.path.numbers task'.node) tasks
    pub answers_are : now.answers ≡ option_map (λ given. given ++ answers) first.answers
    pub calls_are : made (outlet_calls policy (policy.start first.state) notes answers)
