-- What a job means whose answer a search finds: the files that it reads, the tree that it searches, and its right answers.
use Rattle.std.specs.Prelude.{◌≡◌, ℕ, ◌≤◌, ◌^◌, List, [], ◌∷◌, Option, Some, IfSome, Contains, IsTrue}
use Rattle.yew_io.specs.Shelf.{File}
use Rattle.yew_kinds.specs.declared.kind.Kind.{Kind}
use Rattle.yew_kinds.specs.Kinds.{gap_of}
use Rattle.yew_laws.specs.SearchTree.{SearchTree}
use Rattle.yew_log.specs.AuditFull.{MeetsLimits}
use Rattle.yew_log.specs.SeqLog.{seq_log}
use Rattle.yew_walk.specs.PlainSearch.{searched_tree}
use Rattle.yew_words.specs.Word.{Word}
use Rattle.yew_app.specs.Refusals.{Reason, CannotRead, NotInGrammar, TooLong, TooLarge, FullAudit, TaskPastLimit, NoMemory}
use Rattle.yew_app.specs.Asks.{IsOrdered}
use Rattle.yew_app.specs.Texts.{IsSearchText, HasFullAudit, HasRoom, HasTooManyItems}
use Rattle.yew_app.specs.declared.asked.Asked.{Asked}

-- What a job means, of instances X whose trees have nodes N: the names of its files in the order in which they are read;
-- which files are read to which instance; which files let the one of a name be opened; for which reason files are refused,
-- by the first that is not fine; the tree of an instance, and what is searched for in it; the lines of the answer whose
-- solution is this node; and which lines are a right answer.
pub record Meaning (X N : Type 0) : Type 1 where
  pub names : List Word
  pub Reads : List File → X → Type 0
  pub Opens : List File → Word → Type 0
  pub Refuses : List File → Reason → Type 0
  pub tree : X → SearchTree N
  pub kind : Kind
  pub lines : X → Option N → List ℕ
  pub IsRight : X → List ℕ → Type 0

-- the files that a job with these names knows: those that the shelf tells, and none where it has no names
abbrev pub known_files : List Word → Option (List File) → Option (List File)
known_files [] files = Some []
known_files (name ∷ names) files = files

-- the meaning of what is searched in the place of an instance: that of the instance from which it is made
abbrev pub meaning_by : {X Y N : Type 0} → (Y → X) → Meaning X N → Meaning Y N
meaning_by instance_of m = record {
  names = m.names;
  Reads = λ told made. m.Reads told (instance_of made);
  Opens = m.Opens;
  Refuses = m.Refuses;
  tree = λ made. m.tree (instance_of made);
  kind = m.kind;
  lines = λ made. m.lines (instance_of made);
  IsRight = λ made. m.IsRight (instance_of made);
}

module _ {X N : Type 0} (m : Meaning X N) where
  -- files are read to one instance or refused for one reason
  pub record IsOneWay : Type 0 where
    pub one_instance : (told : List File) (a b : X) → m.Reads told a → m.Reads told b → a ≡ b
    pub one_reason : (told : List File) (a b : Reason) → m.Refuses told a → m.Refuses told b → a ≡ b
    pub not_both : (told : List File) (instance : X) (reason : Reason) → m.Reads told instance → ¬ m.Refuses told reason

  -- the tree that is searched
  abbrev pub searched : X → SearchTree N
  searched instance = searched_tree (m.tree instance) m.kind

  -- the text of an instance: the right lines of what was found, and what is asked for of the logs behind it
  pub record IsJobText (asked : Asked) (instance : X) (text : List ℕ) : Type 0 where
    pub found : IsSearchText (searched instance) (gap_of m.kind) asked (m.lines instance) text
    pub right : m.IsRight instance (m.lines instance found.solution)

  -- the text is one for these files
  abbrev pub AnswersFiles : Asked → List File → List ℕ → Type 0
  AnswersFiles asked told text = (instance : X) × m.Reads told instance × IsJobText asked instance text

  -- the files are read, and the sequential log is past what an audit has room for
  abbrev pub MeetsFiles : List File → Type 0
  MeetsFiles told = (instance : X) × m.Reads told instance × MeetsLimits (seq_log (searched instance) (gap_of m.kind))

  -- the files are read, an audit that is asked for has room for the search, and there are not too many items
  abbrev pub IsFineFiles : Asked → List File → Type 0
  IsFineFiles asked told =
      (instance : X) × m.Reads told instance × (IsTrue asked.audit → HasRoom (searched instance) (gap_of m.kind) asked.skeleton) × ¬ HasTooManyItems (searched instance) asked.skeleton

  -- the files are read, and there are too many items
  abbrev pub PassesFiles : Asked → List File → Type 0
  PassesFiles asked told = (instance : X) × m.Reads told instance × HasTooManyItems (searched instance) asked.skeleton

  -- the files are read, and the audit of this worker is full
  abbrev pub FillsFiles : Asked → ℕ → ℕ → ℕ → List File → Type 0
  FillsFiles asked worker entries numbers told = (instance : X) × m.Reads told instance × HasFullAudit (searched instance) (gap_of m.kind) asked worker entries numbers

  -- why no instance is read: the shelf failed at a file that was to be opened, a file is refused where the files are known,
  -- or memory ran out
  abbrev pub IsUnreadable : Option (List File) → Reason → Type 0
  IsUnreadable known (CannotRead name) = Contains m.names name × IfSome known (λ told. m.Opens told name)
  IsUnreadable known (NotInGrammar name at kind) = Contains m.names name × IfSome known (λ told. m.Refuses told (NotInGrammar name at kind))
  IsUnreadable known (TooLong name) = Contains m.names name × IfSome known (λ told. m.Refuses told (TooLong name))
  IsUnreadable known (TooLarge name number limit) = Contains m.names name × IfSome known (λ told. m.Refuses told (TooLarge name number limit))
  IsUnreadable known NoMemory = Unit {0}
  IsUnreadable known _ = ⊥

  -- why no text is made: no instance is read, or the audit that is asked for is full, or tasks are claimed in order and there are too many items
  abbrev pub StopsFiles : Asked → Option (List File) → Reason → Type 0
  StopsFiles asked known (FullAudit worker entries numbers) =
      IsTrue asked.audit × (1 ≤ worker) × (worker ≤ asked.workers) × IfSome known (FillsFiles asked worker entries numbers)
  StopsFiles asked known (TaskPastLimit number) = (number ≡ 2 ^ 20) × IsOrdered asked.skeleton × IfSome known (PassesFiles asked)
  StopsFiles asked known reason = IsUnreadable known reason
