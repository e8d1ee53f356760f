-- A search whose visits and cuts are decided by ranked keys, whatever the schedule: what each of them was, in which item, and by which word.
use Rattle.std.specs.Prelude.{◌≡◌, ℕ, ◌/◌, ◌<◌, ◌≤◌, ◌^◌, ◌⊎◌, List, [], ◌∷◌, map, Some, IsTrue, nat_lt, ◌==◌, if◌then◌else◌}
use Rattle.std.specs.List.{AllByRecursion, Contains}
use Rattle.yew_laws.specs.Cover.{Cover}
use Rattle.yew_laws.specs.Greatest.{greatest, first_best}
use Rattle.yew_laws.specs.Incumbent.{Incumbent, improved}
use Rattle.yew_laws.specs.Order.{comes_before}
use Rattle.yew_laws.specs.SearchTree.{SearchTree, worth_at, bound_at}
use Rattle.yew_log.specs.Items.{ranked_key}
use Rattle.yew_log.specs.Notes.{Judgement, judgement}

-- a visit or a cut: its path, its worth or its bound, the number of its item, and the word that was read
pub record RankedJudgement : Type 0 where
  pub path : List ℕ
  pub value : ℕ
  pub item : ℕ
  pub word : ℕ

-- the paths of judgements
abbrev pub ranked_paths : List RankedJudgement → List (List ℕ)
ranked_paths js = map (λ (j : RankedJudgement). j.path) js

-- the key of a worth or a bound in its item
abbrev pub key_of_judgement : RankedJudgement → ℕ
key_of_judgement j = ranked_key j.item j.value

-- the word of a cut was offered: it is the key of a visit, which comes before the cut where both are of one item
pub record IsOfferedBefore (visits : List RankedJudgement) (c : RankedJudgement) : Type 0 where
  pub visit : RankedJudgement
  pub among : Contains visits visit
  pub word_is : c.word ≡ key_of_judgement visit
  pub earlier : visit.item ≡ c.item → IsTrue (comes_before visit.path c.path)

-- each visit comes before the later ones of its item
abbrev pub ItemsInOrder : List RankedJudgement → Type 0
ItemsInOrder [] = Unit {0}
ItemsInOrder (v ∷ vs) = AllByRecursion (λ (u : RankedJudgement). v.item ≡ u.item → IsTrue (comes_before v.path u.path)) vs × ItemsInOrder vs

module _ {N : Type 0} (t : SearchTree N) where
  -- The visits and the cuts of a whole search. Each node is visited, or lies at or below one cut; the numbers of items rise in preorder; and a cut had a word that permitted it, which is 0 or was offered before
  pub record IsRankedSearch (visits cuts : List RankedJudgement) : Type 0 where
    pub covered : Cover t (ranked_paths visits) (ranked_paths cuts)
    pub worths : AllByRecursion (λ (v : RankedJudgement). worth_at t v.path ≡ Some v.value) visits
    pub bounds : AllByRecursion (λ (c : RankedJudgement). bound_at t c.path ≡ Some c.value) cuts
    pub visit_items : AllByRecursion (λ (v : RankedJudgement). v.item < 2 ^ 20) visits
    pub visits_rise : (u v : RankedJudgement) → Contains visits u → Contains visits v → u.item < v.item → IsTrue (comes_before u.path v.path)
    pub cuts_rise : (u c : RankedJudgement) → Contains visits u → Contains cuts c → u.item < c.item → IsTrue (comes_before u.path c.path)
    pub permitted : AllByRecursion (λ (c : RankedJudgement). key_of_judgement c ≤ c.word) cuts
    pub offered : AllByRecursion (λ (c : RankedJudgement). (c.word ≡ 0) ⊎ IsOfferedBefore visits c) cuts

  -- The node at this path was visited and has the greatest worth, no visit has a greater key, and any other visit of its key is one of its item that comes later
  pub record IsFirstBestVisit (visits : List RankedJudgement) (path : List ℕ) : Type 0 where
    pub visit : RankedJudgement
    pub among : Contains visits visit
    pub path_is : visit.path ≡ path
    pub worth_is : visit.value ≡ greatest t
    pub greatest_key : AllByRecursion (λ (u : RankedJudgement). key_of_judgement u ≤ key_of_judgement visit) visits
    pub first_of_key : AllByRecursion (λ (u : RankedJudgement). key_of_judgement u ≡ key_of_judgement visit → (u.item ≡ visit.item) × ((u.path ≡ path) ⊎ IsTrue (comes_before path u.path))) visits

-- the key of an answer: a worth of 0 is none
abbrev pub answer_key_of : RankedJudgement → ℕ
answer_key_of v = if v.value == 0 then 0 else key_of_judgement v

-- the answer after these visits, the hands of all workers one after another: the first of the greatest key, and its key in the place of the worth
abbrev pub ranked_answer : Incumbent → List RankedJudgement → Incumbent
ranked_answer incumbent [] = incumbent
ranked_answer incumbent (v ∷ vs) = ranked_answer (improved incumbent (answer_key_of v) v.path) vs

-- an answer by its key is that of one worker: the greatest worth and its first path, or no path where that worth is 0
pub record IsFirstAnswer {N : Type 0} (t : SearchTree N) (answer : Incumbent) : Type 0 where
  pub path_is : answer.path ≡ first_best t
  pub worth_is : answer.worth / 2 ^ 20 ≡ greatest t

-- the better of two answers, the first one where their keys are equal
abbrev pub better : Incumbent → Incumbent → Incumbent
better incumbent other = if nat_lt incumbent.worth other.worth then other else incumbent

-- what is gathered of several answers: the first of the greatest key
abbrev pub gathered_answer : Incumbent → List Incumbent → Incumbent
gathered_answer incumbent [] = incumbent
gathered_answer incumbent (other ∷ others) = gathered_answer (better incumbent other) others

-- a visit or a cut as a log has it: the held value is the worth that the word holds
abbrev pub plain_judgement : RankedJudgement → Judgement
plain_judgement j = judgement j.path j.value (j.word / 2 ^ 20)
