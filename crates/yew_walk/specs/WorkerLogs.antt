-- The log of a worker: its walks one after another, with the way of its one seat along them.
use Rattle.std.specs.Prelude.{◌≡◌, ◌<◌, List, [], ◌∷◌, map}
use Rattle.std.specs.List.{AllByRecursion}
use Rattle.yew_best.specs.Seats.{SeatView}
use Rattle.yew_laws.specs.SearchTree.{SearchTree}
use Rattle.yew_log.specs.Segment.{Segment, entries_in}
use Rattle.yew_walk.specs.declared.keying.Keying.{Keying}
use Rattle.yew_walk.specs.declared.keying.Keying.TheVariants.{Plain, Ranked, Gap}
use Rattle.yew_walk.specs.Seats.{SeatGoes}

-- the segment of a walk, and its keys
pub record KeyedSegment : Type 0 where
  pub keying : Keying
  pub segment : Segment

-- the segments of walks, in order
abbrev pub segments_of : List KeyedSegment → List Segment
segments_of walks = map (λ (w : KeyedSegment). w.segment) walks

-- a seat along walks, one after another
abbrev pub SeatGoesOn : {N : Type 0} → SearchTree N → SeatView → List KeyedSegment → SeatView → Type 0
SeatGoesOn t old [] new = new ≡ old
SeatGoesOn t old (walk ∷ walks) new = (mid : SeatView) × SeatGoes t walk.keying old (entries_in walk.segment) mid × SeatGoesOn t mid walks new

-- both have plain keys with one gap, or the item of the first has the smaller number
abbrev pub ComesFirst : Keying → Keying → Type 0
ComesFirst Plain Plain = Unit {0}
ComesFirst (Ranked first) (Ranked second) = first < second
ComesFirst (Gap first) (Gap second) = first ≡ second
ComesFirst _ _ = ⊥

-- the walks have one kind of keys, and the numbers of their items rise
abbrev pub KeysRise : List KeyedSegment → Type 0
KeysRise [] = Unit {0}
KeysRise (walk ∷ walks) = AllByRecursion (λ (w : KeyedSegment). ComesFirst walk.keying w.keying) walks × KeysRise walks
