use Rattle.std.proofs.Common.{◌≡◌, List, ℕ, length, drop, min, take, Some, IfSome, Option, option_map, refl, sym, ◌∙◌, ap, subst, arith}
use Rattle.yew_io.specs.Faults.{one_more}
use Rattle.yew_io.specs.MemoryShelf.{ShelfState, files_of, bytes_at, IsPlace}
use Rattle.yew_io.specs.declared.memory_shelf.Place.{Place}
use Rattle.yew_io.proofs.Found.{contained, is_open, range_all, place_there, bytes_at-files_of}
use Rattle.yew_io.proofs.memory_shelf.MemoryShelfShelf.read.Goals as goal
use Rattle.yew_io.proofs.memory_shelf.MemoryShelfShelf.read.Goals.{in_default-via-in-Some+else-not-fails, in_default-via-in_default}

pub returns-in-Some-clause-given : goal.returns-in-Some-clause-given
returns-in-Some-clause-given c =
    let pairs = c.self.inside.files.items in
    let place = c.in-Some.place in
    let is_place : IsPlace (files_of pairs) place.file place.at = subst (λ (o : Option Place). IfSome o (λ p. IsPlace (files_of pairs) p.file p.at)) c.in-Some.is c.self.invariant in
    let bytes_are : c.deref-in-Some.result.now ≡ bytes_at (files_of pairs) place.file =
    c.deref-in-Some.ensures.value ∙ sym (bytes_at-files_of pairs place.file c.index.result.now (place_there pairs place.file place.at is_place) c.index.ensures) in
    let left_is : Some (drop place.at c.deref-in-Some.result.now) ≡ c.args.self.now.left =
    ap (λ (b : List ℕ). Some (drop place.at b)) bytes_are
    ∙ ap (λ (o : Option Place). option_map (λ p. drop p.at (bytes_at (files_of pairs) p.file)) o) (sym c.in-Some.is)
    ∙ ap (λ (s : ShelfState). s.left) c.self.view_is in
    let rest_is = range_all place.at c.deref-in-Some.result.now in
    let count : c.copy_front-count.result ≡ min (length c.copy_front-count.new.into) (length (drop place.at c.deref-in-Some.result.now)) =
    omega (arith, c.copy_front-count.ensures.count, c.copy_front-count.auto.into, ap length rest_is) in
    let copied : take c.copy_front-count.result c.copy_front-count.new.into ≡ take c.copy_front-count.result (drop place.at c.deref-in-Some.result.now) =
    c.copy_front-count.ensures.copied ∙ ap (λ (l : List ℕ). take c.copy_front-count.result l) rest_is in
    subst (λ left. IfSome left (λ rest. (c.copy_front-count.result ≡ min (length c.copy_front-count.new.into) (length rest)) × (take c.copy_front-count.result c.copy_front-count.new.into ≡ take c.copy_front-count.result rest)))
    left_is (count, copied)

pub returns-in_default-clause-fails : goal.returns-in_default-clause-fails
returns-in_default-clause-fails c =
    let fails_are = c.deref.ensures.value ∙ ap (λ (s : ShelfState). s.fails) c.self.view_is in
    let number_is : c.saturating_add-self-inside.result ≡ one_more c.args.self.now.calls = c.saturating_add-self-inside.ensures ∙ ap (λ (s : ShelfState). one_more s.calls) c.self.view_is in
    elim c.in_default.branch [
      | in_default-via-in-Some+else-not-fails w ↦ (λ _. contained _ _ _ _ fails_are number_is (c.is_listed-fails.ensures.0 w.if-not-fails.false), λ _. refl)
      | in_default-via-in_default w ↦
          absurd (is_open c.self.inside.name c.self.inside.place c.args.self.now.name c.args.self.now.failed (ap (λ (s : ShelfState). s.name) c.self.view_is) (ap (λ (s : ShelfState). s.failed) c.self.view_is) c.requires.opened c.requires.whole w.in_default.is)
    ]
