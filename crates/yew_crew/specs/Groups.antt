-- What a group of workers has done together, as plain data: a report is a group of one.
use Rattle.std.specs.Prelude.{◌≡◌, ◌≢◌, ℕ, ◌+◌, ◌≤◌, ◌⊎◌, List, [], ◌∷◌, ◌++◌, length, Some}
use Rattle.std.specs.List.{AllByRecursion, Contains, flat_map}
use Rattle.yew_laws.specs.Bag.{SameBag, PartOfBag}
use Rattle.yew_laws.specs.Fold.{fold_of, of_member}
use Rattle.yew_laws.specs.SearchTree.{SearchTree, at_path, worth_at, bound_at, below}
use Rattle.yew_laws.specs.Tree.{Member, paths as member_paths}
use Rattle.yew_log.specs.Attained.{limit}
use Rattle.yew_log.specs.Notes.{Note, Judgement, paths, values, held_values, visits, cuts, sent_paths, judgements as noted_judgements}

-- The paths of the tasks that the passes took and put and that the mail seats got and gave; the visits and the cuts; the visited nodes; how many tasks were counted as made and as ended; the values that were offered to the incumbent word and read from it; and the sum of the visits
pub record Group (N S : Type 0) : Type 0 where
  pub took : List (List ℕ)
  pub got : List (List ℕ)
  pub put : List (List ℕ)
  pub given : List (List ℕ)
  pub visits : List Judgement
  pub cuts : List Judgement
  pub members : List (Member N)
  pub made : ℕ
  pub ended : ℕ
  pub offered : List ℕ
  pub read : List ℕ
  pub sum : S

module _ {N S : Type 0} where
  -- the tasks that were taken
  abbrev pub taken : Group N S → List (List ℕ)
  taken g = g.took ++ g.got

  -- the tasks that were sent
  abbrev pub sent : Group N S → List (List ℕ)
  sent g = g.put ++ g.given

  -- the visits and the cuts
  abbrev pub judgements : Group N S → List Judgement
  judgements g = g.visits ++ g.cuts

  -- a group that has done nothing
  abbrev pub idle : S → Group N S
  idle none = record { took = []; got = []; put = []; given = []; visits = []; cuts = []; members = []; made = 0; ended = 0; offered = []; read = []; sum = none }

  -- two groups as one
  abbrev pub together : (S → S → S) → Group N S → Group N S → Group N S
  together join g h = record {
    took = g.took ++ h.took;
    got = g.got ++ h.got;
    put = g.put ++ h.put;
    given = g.given ++ h.given;
    visits = g.visits ++ h.visits;
    cuts = g.cuts ++ h.cuts;
    members = g.members ++ h.members;
    made = g.made + h.made;
    ended = g.ended + h.ended;
    offered = g.offered ++ h.offered;
    read = g.read ++ h.read;
    sum = join g.sum h.sum;
  }

  -- all groups of a list as one
  abbrev pub all_together : (S → S → S) → S → List (Group N S) → Group N S
  all_together join none [] = idle none
  all_together join none (g ∷ gs) = together join g (all_together join none gs)

  -- The equations of a group in a search with this gap. They are kept where groups are put together
  pub record IsBalanced (t : SearchTree N) (gap : ℕ) (join : S → S → S) (none : S) (of : N → ℕ → S) (g : Group N S) : Type 0 where
    pub covered : SameBag (paths g.visits ++ flat_map (below t) (paths g.cuts ++ sent g)) (flat_map (below t) (taken g))
    pub walked : PartOfBag (taken g) (paths g.visits ++ paths g.cuts)
    pub worths : AllByRecursion (λ (v : Judgement). worth_at t v.path ≡ Some v.value) g.visits
    pub bounds : AllByRecursion (λ (c : Judgement). bound_at t c.path ≡ Some c.value) g.cuts
    pub permitted : AllByRecursion (λ (c : Judgement). c.value ≤ limit gap c.held) g.cuts
    pub inner : AllByRecursion (λ (c : Judgement). c.path ≢ []) g.cuts
    pub made_are : g.made ≡ length (sent g)
    pub ended_are : g.ended ≡ length (taken g)
    pub offered_are : SameBag g.offered (values g.visits)
    pub read_are : SameBag g.read (held_values (judgements g))
    pub nodes : AllByRecursion (λ m. at_path t m.path ≡ Some m.node) g.members
    pub visited_are : member_paths g.members ≡ paths g.visits
    pub sum_is : g.sum ≡ fold_of join none (of_member of) g.members

  -- What the pool, the mailboxes and the incumbent word say once all seats are joined and nothing is left: every task that was put was taken, the root's first, every task that was given was got, and every value that was read is 0 or was offered
  pub record IsClosed (g : Group N S) : Type 0 where
    pub pool : SameBag g.took ([] ∷ g.put)
    pub mail : SameBag g.got g.given
    pub reads : AllByRecursion (λ x. (x ≡ 0) ⊎ Contains g.offered x) g.read

  -- What the pool and the mailboxes leave to the caller, who walks it as a group of its own and sends nothing
  pub record IsRest (crew rest : Group N S) : Type 0 where
    pub pool : SameBag (crew.took ++ rest.took) ([] ∷ crew.put)
    pub mail : SameBag (crew.got ++ rest.got) crew.given
    pub put_none : rest.put ≡ []
    pub gave_none : rest.given ≡ []

-- one walk as a group: the task was taken from the pool, and all that it sent was put there
abbrev pub walk_group : {N S : Type 0} → (S → S → S) → S → (N → ℕ → S) → List ℕ → List Note → List (Member N) → Group N S
walk_group join none of task notes members = record {
  took = task ∷ [];
  got = [];
  put = sent_paths notes;
  given = [];
  visits = visits notes;
  cuts = cuts notes;
  members = members;
  made = length (sent_paths notes);
  ended = 1;
  offered = values (visits notes);
  read = held_values (noted_judgements notes);
  sum = fold_of join none (of_member of) members;
}
