-- What a worker finds in its own box while other workers may ask it for tasks.
use Rattle.std.specs.Prelude.{◌≡◌, Bool, true, false, List, [], ◌∷◌, ◌++◌, map, length, if◌then◌else◌}
use Rattle.std.specs.List.{flat_map}
use Rattle.yew_laws.specs.SearchTree.{SearchTree}
use Rattle.yew_log.specs.Groups.{Part, HasGroups}
use Rattle.yew_log.specs.Notes.{Note, event_paths}
use Rattle.yew_log.specs.Policies.{PolicyGroup, hungry_policy}
use Rattle.yew_log.specs.Segment.{Segment}
use Rattle.yew_mail.specs.declared.boxes.Seen.{Seen}
use Rattle.yew_mail.specs.declared.boxes.Seen.TheVariants.{Shut, Asked}
use Rattle.yew_mail.specs.declared.view.Call.{Call}
use Rattle.yew_mail.specs.declared.view.Call.TheVariants.{Look, CloseBox}
use Rattle.yew_mail.specs.declared.view.Found.{Found}

-- a worker asks there
abbrev pub is_asked : Seen → Bool
is_asked (Asked worker) = true
is_asked _ = false

abbrev pub is_shut : Seen → Bool
is_shut Shut = true
is_shut _ = false

-- what was seen, where the call was a look
abbrev pub looked : Call → Seen → List Seen
looked Look seen = seen ∷ []
looked _ seen = []

-- a worker that is idle closed its box and found an asker, whom it has to look for and to deny
abbrev pub closes_on_asker : Call → Seen → Bool
closes_on_asker CloseBox seen = is_asked seen
closes_on_asker _ seen = false

-- What the looks of a busy worker saw, in order: of all looks those that do not stand directly after a close of the box that found an asker. The flag says whether the entry before these is such a close
abbrev pub busy_looks : Bool → List Found → List Seen
busy_looks closed [] = []
busy_looks closed (entry ∷ entries) = (if closed then [] else looked entry.call entry.seen) ++ busy_looks (closes_on_asker entry.call entry.seen) entries

-- whether the last of these entries is such a close
abbrev pub ends_closed : Bool → List Found → Bool
ends_closed closed [] = closed
ends_closed closed (entry ∷ entries) = ends_closed (closes_on_asker entry.call entry.seen) entries

-- of two looks in succession not both saw the box shut. The flag says whether the look before these did
abbrev pub NeverShutTwice : Bool → List Seen → Type 0
NeverShutTwice shut [] = Unit {0}
NeverShutTwice shut (seen ∷ more) = (shut ≡ true → is_shut seen ≡ false) × NeverShutTwice (is_shut seen) more

module _ {N : Type 0} (t : SearchTree N) (part : Part) where
  -- There was one look after each visit, each cut and each end of a segment, in order. Directly after such an entry a group of Handed entries stands exactly where its look saw an asker: this part of the children that are left of the lowest level. Of two looks in succession not both saw the box shut
  pub record AreLooksOf (body : List Note) (looks : List Seen) : Type 0 where
    pub one_each : length looks ≡ length (event_paths body)
    pub groups : HasGroups (PolicyGroup t hungry_policy part (map is_asked looks)) body
    pub never_shut_twice : NeverShutTwice false looks

  -- these are the looks of each segment, in order
  abbrev pub AreLooksOfEach : List Segment → List (List Seen) → Type 0
  AreLooksOfEach [] [] = Unit {0}
  AreLooksOfEach [] (looks ∷ more) = ⊥
  AreLooksOfEach (s ∷ segments) [] = ⊥
  AreLooksOfEach (s ∷ segments) (looks ∷ more) = AreLooksOf s.body looks × AreLooksOfEach segments more

  -- these entries were found while these segments were walked: the looks of a busy worker are those of the segments, one after another
  pub record HasLooked (entries : List Found) (segments : List Segment) : Type 0 where
    pub looks : List (List Seen)
    pub each : AreLooksOfEach segments looks
    pub busy : busy_looks false entries ≡ flat_map (λ (ls : List Seen). ls) looks
    pub settled : ends_closed false entries ≡ false
