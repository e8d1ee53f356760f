-- What a worker finds in its box, over one more walk.
use Rattle.std.proofs.Common.{◌≡◌, ℕ, ◌∙◌, List, [], ◌∷◌, ◌++◌, refl, sym, ap, append-nil, append_assoc}
use Rattle.std.specs.Prelude.{Bool, false, if◌then◌else◌}
use Rattle.std.specs.List.{flat_map}
use Rattle.std.proofs.lemmas.List.Concat.{flat_map-append}
use Rattle.yew_laws.specs.SearchTree.{SearchTree}
use Rattle.yew_log.specs.Groups.{Part}
use Rattle.yew_log.specs.Notes.{Note}
use Rattle.yew_log.specs.Segment.{Segment, segment}
use Rattle.yew_mail.specs.Views.{first_of}
use Rattle.yew_mail.specs.declared.boxes.Seen.{Seen}
use Rattle.yew_mail.specs.declared.view.Found.{Found}
use Rattle.yew_crew.specs.Looks.{busy_looks, ends_closed, closes_on_asker, looked, AreLooksOf, AreLooksOfEach, HasLooked}
use Rattle.yew_crew.specs.Outlets.{looks_at}
use Rattle.yew_crew.specs.Stations.{Searched, IfSteal}
use Rattle.yew_crew.specs.declared.coord.Coord.{Coord}
use Rattle.yew_crew.specs.declared.coord.Coord.TheVariants.{Depth, Budget, Steal}
use Rattle.yew_crew.specs.declared.station.Station.{Station}

pub busy-append : (closed : Bool) (xs ys : List Found) → busy_looks closed (xs ++ ys) ≡ busy_looks closed xs ++ busy_looks (ends_closed closed xs) ys
busy-append closed [] ys = refl
busy-append closed (x ∷ xs) ys =
    let here = if closed then [] else looked x.call x.seen in let next = closes_on_asker x.call x.seen in
    ap (λ l. here ++ l) (busy-append next xs ys) ∙ sym (append_assoc here (busy_looks next xs) (busy_looks (ends_closed next xs) ys))

pub ends-append : (closed : Bool) (xs ys : List Found) → ends_closed closed (xs ++ ys) ≡ ends_closed (ends_closed closed xs) ys
ends-append closed [] ys = refl
ends-append closed (x ∷ xs) ys = ends-append (closes_on_asker x.call x.seen) xs ys

-- the looks of one walk are those of a busy worker
pub busy-looks_at : (number : ℕ) (looks : List Seen) → busy_looks false (looks_at number looks) ≡ looks
busy-looks_at number [] = refl
busy-looks_at number (x ∷ xs) = ap (λ l. x ∷ l) (busy-looks_at number xs)

pub ends-looks_at : (number : ℕ) (looks : List Seen) → ends_closed false (looks_at number looks) ≡ false
ends-looks_at number [] = refl
ends-looks_at number (x ∷ xs) = ends-looks_at number xs

module _ {N : Type 0} (t : SearchTree N) (part : Part) where
  each-push : (segments : List Segment) (looks : List (List Seen)) (seg : Segment) (more : List Seen) → AreLooksOfEach t part segments looks → AreLooksOf t part seg.body more → AreLooksOfEach t part (segments ++ seg ∷ []) (looks ++ more ∷ [])
  each-push [] [] seg more a b = (b, tt)
  each-push [] (l ∷ ls) seg more a b = absurd a
  each-push (x ∷ xs) [] seg more a b = absurd a
  each-push (x ∷ xs) (l ∷ ls) seg more a b = (a.0, each-push xs ls seg more a.1 b)

  pub looked-more : (number : ℕ) (path : List ℕ) (body : List Note) (entries : List Found) (looks : List Seen) (segments : List Segment) → HasLooked t part entries segments → AreLooksOf t part body looks → HasLooked t part (entries ++ looks_at number looks) (segments ++ segment path body ∷ [])
  looked-more number path body entries looks segments h a = record {
    looks = h.looks ++ looks ∷ [];
    each = each-push segments h.looks (segment path body) looks h.each a;
    busy = busy-append false entries (looks_at number looks)
        ∙ (ap (λ l. l ++ busy_looks (ends_closed false entries) (looks_at number looks)) h.busy
        ∙ (ap (λ b. flat_map (λ (ls : List Seen). ls) h.looks ++ busy_looks b (looks_at number looks)) h.settled
        ∙ (ap (λ l. flat_map (λ (ls : List Seen). ls) h.looks ++ l) (busy-looks_at number looks ∙ sym (append-nil looks))
        ∙ sym (flat_map-append (λ (ls : List Seen). ls) h.looks (looks ∷ [])))));
    settled = ends-append false entries (looks_at number looks) ∙ (ap (λ b. ends_closed b (looks_at number looks)) h.settled ∙ ends-looks_at number looks);
  }

module _ {N S R : Type 0} (s : Searched S R N) where
  -- one more walk, under each coordination
  pub looks-more : (path : List ℕ) (body : List Note) (segments : List Segment) (first before after : Station N S R)
      → IfSteal s.coord (λ part. (entries : List Found) × (before.mail.found ≡ first.mail.found ++ entries) × HasLooked s.tree part entries segments)
      → IfSteal s.coord (λ part. (looks : List Seen) × (after.mail.found ≡ before.mail.found ++ looks_at (first_of before.mail.numbers) looks) × AreLooksOf s.tree part body looks)
      → IfSteal s.coord (λ part. (entries : List Found) × (after.mail.found ≡ first.mail.found ++ entries) × HasLooked s.tree part entries (segments ++ segment path body ∷ []))
  looks-more path body segments first before after = by s.coord
    where
      by : (coord : Coord) → IfSteal coord (λ part. (entries : List Found) × (before.mail.found ≡ first.mail.found ++ entries) × HasLooked s.tree part entries segments)
          → IfSteal coord (λ part. (looks : List Seen) × (after.mail.found ≡ before.mail.found ++ looks_at (first_of before.mail.numbers) looks) × AreLooksOf s.tree part body looks)
          → IfSteal coord (λ part. (entries : List Found) × (after.mail.found ≡ first.mail.found ++ entries) × HasLooked s.tree part entries (segments ++ segment path body ∷ []))
      by (Depth d) a b = tt
      by (Budget e) a b = tt
      by (Steal chunk) a b =
          let more = looks_at (first_of before.mail.numbers) b.0 in
          (a.0 ++ more, b.1 ∙ (ap (λ l. l ++ more) a.1 ∙ append_assoc first.mail.found a.0 more), looked-more s.tree _ (first_of before.mail.numbers) path body a.0 b.0 segments a.2 b.2)
