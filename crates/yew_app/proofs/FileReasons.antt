-- A file of a kind is good, or refused for one reason.
use Rattle.std.proofs.Common.{◌≡◌, ◌<◌, ◌≤◌, ◌^◌, ℕ, List, length, Option, Some, None, refl, sym, ap, subst, ◌∙◌, arith}
use Rattle.std.specs.Prelude.{IfSome, IsSomeAnd}
use Rattle.std.proofs.lemmas.Option.{same_Some}
use Rattle.yew_text.specs.declared.text.TextKind.{TextKind}
use Rattle.yew_text.specs.declared.text.FileEnd.{FileEnd}
use Rattle.yew_text.specs.declared.text.FileEnd.TheVariants as ends
use Rattle.yew_io.specs.Shelf.{File, bytes_of}
use Rattle.yew_io.specs.Reading.{IsWhole, IsLonger}
use Rattle.yew_app.specs.Judging.{IsRead, IsUnread, RefusesBytes, IsRefusedFile, IsFileReason, IsEndOf}
use Rattle.yew_app.specs.Reasons.{reason_of_end}
use Rattle.yew_app.specs.Refusals.{Reason, BadUsage, CannotRead, NotInGrammar, TooLong, TooLarge, CannotWrite, NoMemory, FullAudit, TaskPastLimit}

module _ {X : Type 0} (IsGood : List ℕ → X → Type 0) (IsOffence : List ℕ → TextKind → ℕ → Type 0) (IsPast : List ℕ → ℕ → ℕ → Type 0) where
  -- what the laws of a kind of file say: a file has at most one first offence and one first number past its limit, and at
  -- most one of a value, a first offence and a number past its limit
  pub record KindLaws : Type 0 where
    pub one_kind : (bytes : List ℕ) (kind other : TextKind) (line other_line : ℕ) → IsOffence bytes kind line → IsOffence bytes other other_line → kind ≡ other
    pub one_line : (bytes : List ℕ) (kind other : TextKind) (line other_line : ℕ) → IsOffence bytes kind line → IsOffence bytes other other_line → line ≡ other_line
    pub one_past : (bytes : List ℕ) (number other limit other_limit : ℕ) → IsPast bytes number limit → IsPast bytes other other_limit → (number ≡ other) × (limit ≡ other_limit)
    pub good_no_offence : (bytes : List ℕ) (value : X) (kind : TextKind) (line : ℕ) → IsGood bytes value → ¬ IsOffence bytes kind line
    pub good_none_past : (bytes : List ℕ) (value : X) (number limit : ℕ) → IsGood bytes value → ¬ IsPast bytes number limit
    pub past_no_offence : (bytes : List ℕ) (number limit : ℕ) (kind : TextKind) (line : ℕ) → IsPast bytes number limit → ¬ IsOffence bytes kind line

  module _ (laws : KindLaws) where
    -- bytes are refused for one reason
    pub one_reason : (name bytes : List ℕ) (a b : Reason) → RefusesBytes IsOffence IsPast name bytes a → RefusesBytes IsOffence IsPast name bytes b → a ≡ b
    one_reason name bytes (TooLong f) (TooLong g) p q = ap (λ (h : List ℕ). TooLong h) (p.0 ∙ sym q.0)
    one_reason name bytes (TooLong f) (NotInGrammar g line kind) p q = absurd (omega (arith, p.1, q.1))
    one_reason name bytes (TooLong f) (TooLarge g number limit) p q = absurd (omega (arith, p.1, q.1))
    one_reason name bytes (NotInGrammar f line kind) (TooLong g) p q = absurd (omega (arith, p.1, q.1))
    one_reason name bytes (NotInGrammar f line kind) (NotInGrammar g other_line other) p q =
        let same_kind : kind ≡ other = laws.one_kind bytes kind other line other_line p.2 q.2 in
        let same_line : line ≡ other_line = laws.one_line bytes kind other line other_line p.2 q.2 in
        let same_name : f ≡ g = p.0 ∙ sym q.0 in
        rw (same_kind, same_line, same_name) refl
    one_reason name bytes (NotInGrammar f line kind) (TooLarge g number limit) p q = absurd (laws.past_no_offence bytes number limit kind line q.2 p.2)
    one_reason name bytes (TooLarge f number limit) (TooLong g) p q = absurd (omega (arith, p.1, q.1))
    one_reason name bytes (TooLarge f number limit) (NotInGrammar g line kind) p q = absurd (laws.past_no_offence bytes number limit kind line p.2 q.2)
    one_reason name bytes (TooLarge f number limit) (TooLarge g other other_limit) p q =
        let same = laws.one_past bytes number other limit other_limit p.2 q.2 in
        let same_number : number ≡ other = same.0 in
        let same_limit : limit ≡ other_limit = same.1 in
        let same_name : f ≡ g = p.0 ∙ sym q.0 in
        rw (same_number, same_limit, same_name) refl
    one_reason name bytes (BadUsage place kind) b p q = absurd p
    one_reason name bytes (CannotRead file) b p q = absurd p
    one_reason name bytes CannotWrite b p q = absurd p
    one_reason name bytes NoMemory b p q = absurd p
    one_reason name bytes (FullAudit worker entries numbers) b p q = absurd p
    one_reason name bytes (TaskPastLimit number) b p q = absurd p
    one_reason name bytes a (BadUsage place kind) p q = absurd q
    one_reason name bytes a (CannotRead file) p q = absurd q
    one_reason name bytes a CannotWrite p q = absurd q
    one_reason name bytes a NoMemory p q = absurd q
    one_reason name bytes a (FullAudit worker entries numbers) p q = absurd q
    one_reason name bytes a (TaskPastLimit number) p q = absurd q

    -- good bytes are read to their end, but for want of memory
    pub good-end : (bytes : List ℕ) (value : X) (end : FileEnd) → IsGood bytes value → IsEndOf IsOffence IsPast bytes end → end ≡ ends.Memory
    good-end bytes value (ends.Refused fault) good is = absurd (laws.good_no_offence bytes value fault.kind fault.line good is)
    good-end bytes value (ends.TooLarge number limit) good is = absurd (laws.good_none_past bytes value number limit good is)
    good-end bytes value ends.Memory good is = refl

    -- and then they are not good
    pub good_not_refused : (name bytes : List ℕ) (value : X) (reason : Reason) → length bytes ≤ 2 ^ 24 → IsGood bytes value → RefusesBytes IsOffence IsPast name bytes reason → ⊥
    good_not_refused name bytes value (TooLong f) short good q = omega (arith, short, q.1)
    good_not_refused name bytes value (NotInGrammar f line kind) short good q = laws.good_no_offence bytes value kind line good q.2
    good_not_refused name bytes value (TooLarge f number limit) short good q = laws.good_none_past bytes value number limit good q.2
    good_not_refused name bytes value (BadUsage place kind) short good q = q
    good_not_refused name bytes value (CannotRead file) short good q = q
    good_not_refused name bytes value CannotWrite short good q = q
    good_not_refused name bytes value NoMemory short good q = q
    good_not_refused name bytes value (FullAudit worker entries numbers) short good q = q
    good_not_refused name bytes value (TaskPastLimit number) short good q = q

    -- the same of the file of a name
    refused_at : (told : List File) (name bytes : List ℕ) (reason : Reason) → bytes_of told name ≡ Some bytes → IsRefusedFile IsOffence IsPast told name reason → RefusesBytes IsOffence IsPast name bytes reason
    refused_at told name bytes reason there refused =
        let same : refused.bytes ≡ bytes = same_Some refused.bytes bytes (sym refused.there ∙ there) in
        subst (λ (b : List ℕ). RefusesBytes IsOffence IsPast name b reason) same refused.why

    pub one_reason_of_file : (told : List File) (name : List ℕ) (a b : Reason) → IsRefusedFile IsOffence IsPast told name a → IsRefusedFile IsOffence IsPast told name b → a ≡ b
    one_reason_of_file told name a b p q = one_reason name p.bytes a b p.why (refused_at told name p.bytes b p.there q)

    pub read_not_refused : (told : List File) (name : List ℕ) (value : X) (reason : Reason) → IsRead IsGood told name value → IsRefusedFile IsOffence IsPast told name reason → ⊥
    read_not_refused told name value reason read refused = good_not_refused name read.bytes value reason read.short read.good (refused_at told name read.bytes reason read.there refused)

  -- bytes that were not read
  longer_refused : (files : Option (List File)) (name file : List ℕ) → file ≡ name → IsLonger files name (2 ^ 24) → IfSome files (λ told. IsRefusedFile IsOffence IsPast told name (TooLong file))
  longer_refused None name file same longer = tt
  longer_refused (Some told) name file same longer = at (bytes_of told name) refl longer
    where
      at : (found : Option (List ℕ)) → bytes_of told name ≡ found → IsSomeAnd found (λ bytes. 2 ^ 24 < length bytes) → IsRefusedFile IsOffence IsPast told name (TooLong file)
      at None e l = absurd l
      at (Some bytes) e l = record { bytes = bytes; there = e; why = (same, l) }

  pub unread_reason : (files : Option (List File)) (name : List ℕ) (reason : Reason) → IsUnread files name reason → IsFileReason IsOffence IsPast files name reason
  unread_reason files name (CannotRead file) why = why
  unread_reason files name (TooLong file) why = (why.0, longer_refused files name file why.0 why.1)
  unread_reason files name NoMemory why = tt
  unread_reason files name (NotInGrammar file line kind) why = absurd why
  unread_reason files name (TooLarge file number limit) why = absurd why
  unread_reason files name (BadUsage place kind) why = absurd why
  unread_reason files name CannotWrite why = absurd why
  unread_reason files name (FullAudit worker entries numbers) why = absurd why
  unread_reason files name (TaskPastLimit number) why = absurd why

  -- bytes that were read
  told_refused : (files : Option (List File)) (name bytes : List ℕ) (reason : Reason) → IsWhole files name bytes → RefusesBytes IsOffence IsPast name bytes reason → IfSome files (λ told. IsRefusedFile IsOffence IsPast told name reason)
  told_refused None name bytes reason whole why = tt
  told_refused (Some told) name bytes reason whole why = record { bytes = bytes; there = whole; why = why }

  pub end_reason : (files : Option (List File)) (name bytes : List ℕ) (end : FileEnd) → IsWhole files name bytes → length bytes ≤ 2 ^ 24 → IsEndOf IsOffence IsPast bytes end → IsFileReason IsOffence IsPast files name (reason_of_end name end)
  end_reason files name bytes (ends.Refused fault) whole short is = (refl, told_refused files name bytes (NotInGrammar name fault.line fault.kind) whole (refl, short, is))
  end_reason files name bytes (ends.TooLarge number limit) whole short is = (refl, told_refused files name bytes (TooLarge name number limit) whole (refl, short, is))
  end_reason files name bytes ends.Memory whole short is = tt

  pub told_read : (files : Option (List File)) (name bytes : List ℕ) (value : X) → IsWhole files name bytes → length bytes ≤ 2 ^ 24 → IsGood bytes value → IfSome files (λ told. IsRead IsGood told name value)
  told_read None name bytes value whole short good = tt
  told_read (Some told) name bytes value whole short good = record { bytes = bytes; there = whole; short = short; good = good }

-- no end of reading is a fault of the shelf
pub end_no_fault : (name : List ℕ) (end : FileEnd) → reason_of_end name end ≡ CannotRead name → ⊥
end_no_fault name (ends.Refused fault) e = cc
end_no_fault name (ends.TooLarge number limit) e = cc
end_no_fault name ends.Memory e = cc
