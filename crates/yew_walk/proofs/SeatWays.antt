-- What a seat has read and offered along the entries of a log.
use Rattle.std.proofs.Common.{◌≡◌, ℕ, ◌≤◌, List, [], ◌∷◌, ◌++◌, sym, subst, refl, arith}
use Rattle.std.specs.Prelude.{Contains}
use Rattle.std.specs.List.{AllByRecursion}
use Rattle.std.proofs.lemmas.List.Elements.{All-contains, Contains-append_left, Contains-append_right}
use Rattle.yew_best.specs.Seats.{SeatView, has_read}
use Rattle.yew_laws.specs.SearchTree.{SearchTree}
use Rattle.yew_laws.proofs.Members.{AllByRecursion-weaker, Contains-head}
use Rattle.yew_log.specs.HeldValues.{IsLater}
use Rattle.yew_walk.proofs.KeyOrder.{held_of-grows, held_of-key_of}
use Rattle.yew_log.specs.Notes.{Note, taken, visited, cut, spawned, handed, ended, Judgement, values, held_values, visits, judgements}
use Rattle.yew_walk.specs.declared.keying.Keying.{Keying}
use Rattle.yew_walk.specs.Keys.{key_of, held_of}
use Rattle.yew_walk.specs.Seats.{has_offered, IsRead, SeatGoes}

-- the seat stays at its word, with its share
pub record StaysAt (a b : SeatView) : Type 0 where
  pub best : b.best ≡ a.best
  pub share : b.share ≡ a.share

-- what was read and offered before is still there
pub record Keeps (a b : SeatView) : Type 0 where
  pub read : (x : ℕ) → Contains a.read x → Contains b.read x
  pub offered : (x : ℕ) → Contains a.offered x → Contains b.offered x

keeps-trans : (a b c : SeatView) → Keeps a b → Keeps b c → Keeps a c
keeps-trans a b c k l = record { read = λ x m. l.read x (k.read x m); offered = λ x m. l.offered x (k.offered x m) }

keeps-read : (a : SeatView) (word : ℕ) → Keeps a (has_read a word)
keeps-read a word = record { read = λ x m. Contains-append_left a.read (word ∷ []) x m; offered = λ x m. m }

keeps-offered : (a : SeatView) (key : ℕ) → Keeps a (has_offered a key)
keeps-offered a key = record { read = λ x m. m; offered = λ x m. Contains-append_left a.offered (key ∷ []) x m }

module _ (keying : Keying) where
  -- a held value is that of a word that the seat has read
  abbrev IsOfRead : SeatView → ℕ → Type 0
  IsOfRead seat held = (word : ℕ) × (Contains seat.read word × (held ≡ held_of keying word))

  -- the held values of the entries are those of words that the seat has read, and the keys of the visits were offered
  pub record Knows (seat : SeatView) (notes : List Note) : Type 0 where
    pub helds : AllByRecursion (IsOfRead seat) (held_values (judgements notes))
    pub worths : AllByRecursion (λ worth. Contains seat.offered (key_of keying worth)) (values (visits notes))

  -- a word that is read next holds at least what the entries so far have held and visited
  pub knows-later : (seat : SeatView) (notes : List Note) (word : ℕ) (j : Judgement) → Knows seat notes → IsRead seat word → j.held ≡ held_of keying word → IsLater notes j
  knows-later seat notes word j k r is = record {
    of_helds = AllByRecursion-weaker (IsOfRead seat) (λ h. h ≤ j.held)
        (λ h u. let grows = held_of-grows keying u.0 word (All-contains (λ x. x ≤ word) seat.read u.0 r.at_least_read u.1.0) in omega (arith, grows, is, u.1.1))
        (held_values (judgements notes)) k.helds;
    of_worths = AllByRecursion-weaker (λ worth. Contains seat.offered (key_of keying worth)) (λ w. w ≤ j.held)
        (λ w u. let holds = held_of-key_of keying w word (All-contains (λ x. x ≤ word) seat.offered (key_of keying w) r.at_least_offered u) in omega (arith, holds, is))
        (values (visits notes)) k.worths;
  }

module _ {N : Type 0} (t : SearchTree N) (keying : Keying) where
  -- one way after another
  pub goes-append : (a b c : SeatView) (xs ys : List Note) → SeatGoes t keying a xs b → SeatGoes t keying b ys c → SeatGoes t keying a (xs ++ ys) c
  goes-append a b c [] ys g h = subst (λ s. SeatGoes t keying s ys c) g h
  goes-append a b c (visited p w held ∷ xs) ys g h = (g.0, g.1, goes-append (has_offered (has_read a g.0) (key_of keying w)) b c xs ys g.2 h)
  goes-append a b c (cut p w held ∷ xs) ys g h = (g.0, g.1, goes-append (has_read a g.0) b c xs ys g.2 h)
  goes-append a b c (taken p ∷ xs) ys g h = goes-append a b c xs ys g h
  goes-append a b c (spawned p ∷ xs) ys g h = goes-append a b c xs ys g h
  goes-append a b c (handed p ∷ xs) ys g h = goes-append a b c xs ys g h
  goes-append a b c (ended p ∷ xs) ys g h = goes-append a b c xs ys g h

  pub goes-stays : (a b : SeatView) (xs : List Note) → SeatGoes t keying a xs b → StaysAt a b
  goes-stays a b [] g = subst (StaysAt a) (sym g) (record { best = refl; share = refl })
  goes-stays a b (visited p w held ∷ xs) g = let s = goes-stays (has_offered (has_read a g.0) (key_of keying w)) b xs g.2 in record { best = s.best; share = s.share }
  goes-stays a b (cut p w held ∷ xs) g = let s = goes-stays (has_read a g.0) b xs g.2 in record { best = s.best; share = s.share }
  goes-stays a b (taken p ∷ xs) g = goes-stays a b xs g
  goes-stays a b (spawned p ∷ xs) g = goes-stays a b xs g
  goes-stays a b (handed p ∷ xs) g = goes-stays a b xs g
  goes-stays a b (ended p ∷ xs) g = goes-stays a b xs g

  pub goes-keeps : (a b : SeatView) (xs : List Note) → SeatGoes t keying a xs b → Keeps a b
  goes-keeps a b [] g = subst (Keeps a) (sym g) (record { read = λ x m. m; offered = λ x m. m })
  goes-keeps a b (visited p w held ∷ xs) g =
      let mid = has_read a g.0 in
      keeps-trans a mid b (keeps-read a g.0)
      (keeps-trans mid (has_offered mid (key_of keying w)) b (keeps-offered mid (key_of keying w)) (goes-keeps (has_offered mid (key_of keying w)) b xs g.2))
  goes-keeps a b (cut p w held ∷ xs) g = keeps-trans a (has_read a g.0) b (keeps-read a g.0) (goes-keeps (has_read a g.0) b xs g.2)
  goes-keeps a b (taken p ∷ xs) g = goes-keeps a b xs g
  goes-keeps a b (spawned p ∷ xs) g = goes-keeps a b xs g
  goes-keeps a b (handed p ∷ xs) g = goes-keeps a b xs g
  goes-keeps a b (ended p ∷ xs) g = goes-keeps a b xs g

  pub goes-knows : (a b : SeatView) (xs : List Note) → SeatGoes t keying a xs b → Knows keying b xs
  goes-knows a b [] g = record { helds = tt; worths = tt }
  goes-knows a b (visited p w held ∷ xs) g =
      let mid = has_read a g.0 in
      let next = has_offered mid (key_of keying w) in
      let more = goes-knows next b xs g.2 in
      let keeps = goes-keeps next b xs g.2 in
      record {
        helds = ((g.0, (keeps.read g.0 (Contains-append_right a.read (g.0 ∷ []) g.0 (Contains-head g.0 [])), g.1.held_is)), more.helds);
        worths = (keeps.offered (key_of keying w) (Contains-append_right mid.offered (key_of keying w ∷ []) (key_of keying w) (Contains-head (key_of keying w) [])), more.worths);
      }
  goes-knows a b (cut p w held ∷ xs) g =
      let next = has_read a g.0 in
      let more = goes-knows next b xs g.2 in
      let keeps = goes-keeps next b xs g.2 in
      record {
        helds = ((g.0, (keeps.read g.0 (Contains-append_right a.read (g.0 ∷ []) g.0 (Contains-head g.0 [])), g.1.held_is)), more.helds);
        worths = more.worths;
      }
  goes-knows a b (taken p ∷ xs) g = let m = goes-knows a b xs g in record { helds = m.helds; worths = m.worths }
  goes-knows a b (spawned p ∷ xs) g = let m = goes-knows a b xs g in record { helds = m.helds; worths = m.worths }
  goes-knows a b (handed p ∷ xs) g = let m = goes-knows a b xs g in record { helds = m.helds; worths = m.worths }
  goes-knows a b (ended p ∷ xs) g = let m = goes-knows a b xs g in record { helds = m.helds; worths = m.worths }
