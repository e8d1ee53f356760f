-- What the calls of a sink and a shelf in memory say of themselves is what the traits say.
use Rattle.std.proofs.Common.{◌≡◌, ◌⊎◌, ◌↔◌, ◌<◌, ◌≤◌, ◌-◌, ℕ, List, [], ◌∷◌, ◌++◌, length, take, drop, min, true, false, Option, Some, None, IfOk, OnOk, OnErr, IsErr, is_err, IfSome, IsSome, IsSomeAnd, Contains, Result, Ok, Err, option_map, refl, sym, ◌∙◌, ap, subst, inr, arith, take-append-drop}
use Rattle.yew_io.specs.Faults.{one_more, Rose}
use Rattle.yew_io.specs.Sink.{Appends}
use Rattle.yew_io.specs.Shelf.{bytes_of, Opens, Gives, IsAtEnd}
use Rattle.yew_io.specs.MemoryShelf.{ShelfState}
use Rattle.yew_io.specs.MemorySink.{SinkState}
use Rattle.yew_io.specs.declared.shelf.Failed.{Failed}

pub sink_tells : (old new : SinkState) (bytes : List ℕ) (result : Result ℕ Failed)
    → (IsErr result ↔ (Contains old.fails (one_more old.calls) ⊎ ((0 < length bytes) × (old.room ≤ length old.written))))
    → IfOk result (λ count. count ≡ min (length bytes) (min old.most (old.room - length old.written)))
    → IfOk result (λ count. new ≡ record old { written = old.written ++ take count bytes; calls = one_more old.calls })
    → OnErr result (new ≡ record old { calls = one_more old.calls; faults = one_more old.faults })
    → IfOk result (λ count. 0 < length bytes → 0 < count)
    → old.faults ≤ new.faults
    → record {
      within : IfOk result (λ count. count ≤ length bytes);
      taken : IfOk result (λ count. Appends (Some old.written) (take count bytes) (Some new.written));
      some : IfOk result (λ count. 0 < length bytes → 0 < count);
      none : OnErr result (Some new.written ≡ Some old.written);
      counted : old.faults ≤ new.faults;
      cause : OnErr result (Rose old.faults new.faults);
    }
sink_tells old new bytes (Ok count) fails is ok err more counted = record {
  within = omega (arith, is);
  taken = ap (λ (s : SinkState). Some s.written) ok;
  some = more;
  none = tt;
  counted = counted;
  cause = tt;
}
sink_tells old new bytes (Err e) fails is ok err more counted = record {
  within = tt;
  taken = tt;
  some = tt;
  none = ap (λ (s : SinkState). Some s.written) err;
  counted = counted;
  cause = omega (arith, ap (λ (s : SinkState). s.faults) err);
}

abbrev OpenTells : (old new : ShelfState) (name : List ℕ) (result : Result (Unit {0}) Failed) → Type 0
OpenTells old new name result = record {
  opened : OnOk result (Opens (Some old.files) name new.left);
  closed : OnErr result (new.left ≡ None);
  files : Some new.files ≡ Some old.files;
  name : new.name ≡ Some name;
  failed : new.failed ≡ is_err result;
  counted : old.faults ≤ new.faults;
  cause : OnErr result (Rose old.faults new.faults);
}

there : (found left : Option (List ℕ)) → (found ≡ None → ⊥) → left ≡ found → IsSomeAnd found (λ bytes. left ≡ Some bytes)
there None left some is = some refl
there (Some bytes) left some is = is

pub open_tells : (old new : ShelfState) (name : List ℕ) (result : Result (Unit {0}) Failed)
    → (IsErr result ↔ (Contains old.fails (one_more old.calls) ⊎ (bytes_of old.files name ≡ None)))
    → OnOk result (new ≡ record old { calls = one_more old.calls; name = Some name; left = bytes_of old.files name; failed = false })
    → OnErr result (new ≡ record old { calls = one_more old.calls; faults = one_more old.faults; name = Some name; left = None; failed = true })
    → old.faults ≤ new.faults
    → OpenTells old new name result
open_tells old new name (Ok u) fails ok err counted = record {
  opened = there (bytes_of old.files name) new.left (λ missing. let h : false ≡ true = fails.1 (inr missing) in cc) (ap (λ (s : ShelfState). s.left) ok);
  closed = tt;
  files = ap (λ (s : ShelfState). Some s.files) ok;
  name = ap (λ (s : ShelfState). s.name) ok;
  failed = ap (λ (s : ShelfState). s.failed) ok;
  counted = counted;
  cause = tt;
}
open_tells old new name (Err e) fails ok err counted = record {
  opened = tt;
  closed = ap (λ (s : ShelfState). s.left) err;
  files = ap (λ (s : ShelfState). Some s.files) err;
  name = ap (λ (s : ShelfState). s.name) err;
  failed = ap (λ (s : ShelfState). s.failed) err;
  counted = counted;
  cause = omega (arith, ap (λ (s : ShelfState). s.faults) err);
}

abbrev ReadTells : (old new : ShelfState) (buf : List ℕ) (result : Result ℕ Failed) → Type 0
ReadTells old new buf result = record {
  within : IfOk result (λ count. count ≤ length buf);
  given : IfOk result (λ count. Gives old.left (take count buf) new.left);
  ends : IfOk result (λ count. count ≡ 0 → 0 < length buf → IsAtEnd old.left);
  files : Some new.files ≡ Some old.files;
  name : new.name ≡ old.name;
  failed : new.failed ≡ is_err result;
  counted : old.faults ≤ new.faults;
  cause : OnErr result (Rose old.faults new.faults);
}

gives : (before now : Option (List ℕ)) (buf : List ℕ) (count room : ℕ) → IfSome before (λ rest. (count ≡ min room (length rest)) × (take count buf ≡ take count rest)) → IsSome before
    → now ≡ option_map (drop count) before → Gives before (take count buf) now
gives None now buf count room given some is = tt
gives (Some rest) now buf count room given some is =
    let whole : rest ≡ take count buf ++ drop count rest = sym (take-append-drop count rest) ∙ ap (λ (l : List ℕ). l ++ drop count rest) (sym given.1) in
    subst (λ (left : Option (List ℕ)). Gives (Some rest) (take count buf) left) (sym is) whole

within_room : (before : Option (List ℕ)) (buf : List ℕ) (count room : ℕ) → IfSome before (λ rest. (count ≡ min room (length rest)) × (take count buf ≡ take count rest)) → IsSome before → count ≤ room
within_room None buf count room given some = let h : false ≡ true = some in cc
within_room (Some rest) buf count room given some = omega (arith, given.0)

at_end : (before : Option (List ℕ)) (buf : List ℕ) (count room : ℕ) → IfSome before (λ rest. (count ≡ min room (length rest)) × (take count buf ≡ take count rest)) → count ≡ 0 → 0 < room → IsAtEnd before
at_end None buf count room given none some = tt
at_end (Some []) buf count room given none some = refl
at_end (Some (b ∷ bs)) buf count room given none some = absurd (omega (arith, given.0))

pub read_tells : (old new : ShelfState) (now : List ℕ) (result : Result ℕ Failed)
    → IfOk result (λ count. IfSome old.left (λ rest. (count ≡ min (length now) (length rest)) × (take count now ≡ take count rest)))
    → IsSome old.left
    → IfOk result (λ count. new ≡ record old { calls = one_more old.calls; left = option_map (drop count) old.left; failed = false })
    → OnErr result (new ≡ record old { calls = one_more old.calls; faults = one_more old.faults; left = None; failed = true })
    → old.faults ≤ new.faults
    → ReadTells old new now result
read_tells old new now (Ok count) given told ok err counted = record {
  within = within_room old.left now count (length now) given told;
  given = gives old.left new.left now count (length now) given told (ap (λ (s : ShelfState). s.left) ok);
  ends = λ none some. at_end old.left now count (length now) given none some;
  files = ap (λ (s : ShelfState). Some s.files) ok;
  name = ap (λ (s : ShelfState). s.name) ok;
  failed = ap (λ (s : ShelfState). s.failed) ok;
  counted = counted;
  cause = tt;
}
read_tells old new now (Err e) given told ok err counted = record {
  within = tt;
  given = tt;
  ends = tt;
  files = ap (λ (s : ShelfState). Some s.files) err;
  name = ap (λ (s : ShelfState). s.name) err;
  failed = ap (λ (s : ShelfState). s.failed) err;
  counted = counted;
  cause = omega (arith, ap (λ (s : ShelfState). s.faults) err);
}
