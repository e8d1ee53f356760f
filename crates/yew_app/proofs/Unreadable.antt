-- Why a file of a job gives nothing is why the job has no instance.
use Rattle.std.proofs.Common.{◌≡◌, ℕ, List, ◌∷◌, Option, Some, None, refl, sym, subst, arith}
use Rattle.std.specs.Prelude.{IfSome, Contains}
use Rattle.yew_io.specs.Shelf.{File}
use Rattle.yew_text.specs.declared.text.TextKind.{TextKind}
use Rattle.yew_words.specs.Word.{Word}
use Rattle.yew_app.specs.Judging.{IsRefusedFile, IsFileReason}
use Rattle.yew_app.specs.Meanings.{Meaning, IsUnreadable}
use Rattle.yew_app.specs.Refusals.{Reason, BadUsage, CannotRead, NotInGrammar, TooLong, TooLarge, FullAudit, TaskPastLimit, CannotWrite, NoMemory}

-- a fact of the files where they are told follows from another
pub map_told : (files : Option (List File)) (P Q : List File → Type 0) → ((told : List File) → P told → Q told) → IfSome files P → IfSome files Q
map_told None P Q f h = tt
map_told (Some told) P Q f h = f told h

-- or from two
pub map_both : (files : Option (List File)) (P Q R : List File → Type 0) → ((told : List File) → P told → Q told → R told) → IfSome files P → IfSome files Q → IfSome files R
map_both None P Q R f p q = tt
map_both (Some told) P Q R f p q = f told p q

-- a fact of any files holds of those that are told
pub any_told : (files : Option (List File)) (Q : List File → Type 0) → ((told : List File) → Q told) → IfSome files Q
any_told None Q f = tt
any_told (Some told) Q f = f told

-- a name is among names that begin with it, and one that stands second too
pub first-name : (name : Word) (names : List Word) → Contains (name ∷ names) name
first-name name names = (0, omega arith, refl)

pub second-name : (other name : Word) (names : List Word) → Contains (other ∷ name ∷ names) name
second-name other name names = (1, omega arith, refl)

module _ {X N : Type 0} (m : Meaning X N) (IsOffence : List ℕ → TextKind → ℕ → Type 0) (IsPast : List ℕ → ℕ → ℕ → Type 0) (files : Option (List File)) (name : Word) where
  abbrev Refused : List File → Type 0
  Refused told = (reason : Reason) → IsRefusedFile IsOffence IsPast told name reason → m.Refuses told reason

  pub file-unreadable : Contains m.names name → IfSome files (λ told. m.Opens told name) → IfSome files (λ told. (reason : Reason) → IsRefusedFile IsOffence IsPast told name reason → m.Refuses told reason)
      → (reason : Reason) → IsFileReason IsOffence IsPast files name reason → IsUnreadable m files reason
  file-unreadable among opens refuses (CannotRead file) why = (
    subst (λ (f : Word). Contains m.names f) (sym why) among,
    subst (λ (f : Word). IfSome files (λ told. m.Opens told f)) (sym why) opens,
  )
  file-unreadable among opens refuses (TooLong file) why = (
    subst (λ (f : Word). Contains m.names f) (sym why.0) among,
    map_both files Refused (λ told. IsRefusedFile IsOffence IsPast told name (TooLong file)) (λ told. m.Refuses told (TooLong file)) (λ told f r. f (TooLong file) r) refuses why.1,
  )
  file-unreadable among opens refuses (NotInGrammar file line kind) why = (
    subst (λ (f : Word). Contains m.names f) (sym why.0) among,
    map_both files Refused (λ told. IsRefusedFile IsOffence IsPast told name (NotInGrammar file line kind)) (λ told. m.Refuses told (NotInGrammar file line kind)) (λ told f r. f (NotInGrammar file line kind) r) refuses why.1,
  )
  file-unreadable among opens refuses (TooLarge file number limit) why = (
    subst (λ (f : Word). Contains m.names f) (sym why.0) among,
    map_both files Refused (λ told. IsRefusedFile IsOffence IsPast told name (TooLarge file number limit)) (λ told. m.Refuses told (TooLarge file number limit)) (λ told f r. f (TooLarge file number limit) r) refuses why.1,
  )
  file-unreadable among opens refuses NoMemory why = tt
  file-unreadable among opens refuses (BadUsage place kind) why = absurd why
  file-unreadable among opens refuses CannotWrite why = absurd why
  file-unreadable among opens refuses (FullAudit worker entries numbers) why = absurd why
  file-unreadable among opens refuses (TaskPastLimit number) why = absurd why

  -- the shelf's fault is told of the file that was asked for
  pub fault-name : (other : Word) (reason : Reason) → IsFileReason IsOffence IsPast files name reason → reason ≡ CannotRead other → other ≡ name
  fault-name other reason why same = subst (λ (r : Reason). IsFileReason IsOffence IsPast files name r) same why
