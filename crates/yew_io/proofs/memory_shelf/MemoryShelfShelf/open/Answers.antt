use Rattle.std.proofs.Common.{◌≡◌, inl, inr, refl, sym, ◌∙◌, ap}
use Rattle.yew_io.specs.Faults.{one_more}
use Rattle.yew_io.specs.Shelf.{bytes_of}
use Rattle.yew_io.specs.MemoryShelf.{ShelfState, files_of}
use Rattle.yew_io.proofs.Found.{contained}
use Rattle.yew_io.proofs.memory_shelf.MemoryShelfShelf.open.Goals as goal
use Rattle.yew_io.proofs.memory_shelf.MemoryShelfShelf.open.Goals.{then-not-is_listed+in_default, else-not-is_listed}

pub returns-clause-fails : goal.returns-clause-fails
returns-clause-fails c =
    let fails_are = c.deref.ensures.value ∙ ap (λ (s : ShelfState). s.fails) c.self.view_is in
    let number_is : c.saturating_add-self-inside.result ≡ one_more c.args.self.now.calls = c.saturating_add-self-inside.ensures ∙ ap (λ (s : ShelfState). one_more s.calls) c.self.view_is in
    elim c.if-not-is_listed.branch [
      | then-not-is_listed+in_default w ↦
          let files_are = ap files_of w.deref-then-not-is_listed.ensures.value ∙ ap (λ (s : ShelfState). s.files) c.self.view_is in
          (λ _. inr (ap (λ files. bytes_of files c.args.file_name.now) (sym files_are) ∙ w.in_default.ensures.missing), λ _. refl)
      | else-not-is_listed w ↦ (λ _. inl (contained _ _ _ _ fails_are number_is (c.is_listed.ensures.0 w.if-not-is_listed.false)), λ _. refl)
    ]
