-- The lines of a text are a head, logs and what is left in one way only.
use Rattle.std.proofs.Common.{◌≡◌, ◌≢◌, ℕ, suc, ◌+◌, ◌<◌, ◌≤◌, List, [], ◌∷◌, ◌++◌, map, length, refl, sym, ap, ap₂, subst, ◌∙◌, append_assoc, append-nil, arith, inl, inr, Result, Ok, Err, length-append}
use Rattle.std.specs.List.{AllByRecursion, flat_map}
use Rattle.yew_lines.specs.Spelling.{line}
use Rattle.std.specs.Prelude.{IfOk, IfErr}
use Rattle.yew_text.specs.declared.text.FileEnd.{FileEnd}
use Rattle.yew_text.specs.declared.text.FileEnd.TheVariants.{Refused, TooLarge, Memory}
use Rattle.yew_text.specs.declared.text.TextKind.{TextKind}
use Rattle.yew_text.specs.declared.text.TextKind.TheVariants.{NotNumber, TooBig, EndsEarly, Surplus, BadLine}
use Rattle.yew_log.specs.Notes.{Note}
use Rattle.yew_check.specs.Audits.{first_line, worker_line, last_line, logs_lines, most_workers, HasNoAudit, AreRead, IsAudit, HasEnded, HasSurplus, HasMisfit, HasOffence}
use Rattle.yew_check.specs.Entries.{IsWithin, note_text}
use Rattle.yew_check.specs.Files.{AuditValue, EndsReading, AnswersAudit, AnswersOffence}
use Rattle.yew_check.specs.Lines.{text_lines}
use Rattle.yew_check.specs.Reading.{StopsLog}
use Rattle.yew_check.proofs.Cutting.{cut-unique}
use Rattle.yew_check.proofs.EntryTexts.{note-same, worker-no_entry, last-no_entry, last-no_worker}

-- behind so many logs the first of these lines is neither that of the next worker, if there may be one more, nor, behind a log, that of an entry
abbrev pub Stops : ℕ → List (List ℕ) → Type 0
Stops count [] = Unit {0}
Stops count (text ∷ more) = (count < most_workers → text ≢ worker_line (suc count)) × (0 < count → (note : Note) → IsWithin note → text ≢ note_text note)

abbrev EachWithin : List (List Note) → Type 0
EachWithin logs = AllByRecursion (λ log. AllByRecursion IsWithin log) logs

record SameLog (log other : List Note) (rest left : List (List ℕ)) : Type 0 where
  logs : log ≡ other
  rests : rest ≡ left

log-same : (log other : List Note) (rest left : List (List ℕ)) → AllByRecursion IsWithin log → AllByRecursion IsWithin other → StopsLog rest → StopsLog left → map note_text log ++ rest ≡ map note_text other ++ left → SameLog log other rest left
log-same [] [] rest left v w s r e = record { logs = refl; rests = e }
log-same [] (m ∷ ms) rest left v w s r e = absurd (let t : StopsLog (note_text m ∷ map note_text ms ++ left) = subst StopsLog e s in t m w.0 refl)
log-same (n ∷ ns) [] rest left v w s r e = absurd (let t : StopsLog (note_text n ∷ map note_text ns ++ rest) = subst StopsLog (sym e) r in t n v.0 refl)
log-same (n ∷ ns) (m ∷ ms) rest left v w s r e =
    let first : note_text n ≡ note_text m = cc in
    let tails : map note_text ns ++ rest ≡ map note_text ms ++ left = cc in
    let same = note-same n m v.0 w.0 first in
    let others = log-same ns ms rest left v.1 w.1 s r tails in
    record { logs = ap₂ (λ (x : Note) (xs : List Note). x ∷ xs) same others.logs; rests = others.rests }

-- what follows a log is no entry
stops-behind : (count : ℕ) (logs : List (List Note)) (rest : List (List ℕ)) → Stops (suc count + length logs) rest → StopsLog (logs_lines (suc (suc count)) logs ++ rest)
stops-behind count [] [] s = tt
stops-behind count [] (text ∷ more) s = s.1 (omega arith)
stops-behind count (log ∷ logs) rest s = worker-no_entry (suc (suc count))

record SameLogs (logs others : List (List Note)) (rest left : List (List ℕ)) : Type 0 where
  same : logs ≡ others
  rests : rest ≡ left

logs-same : (count : ℕ) (logs others : List (List Note)) (rest left : List (List ℕ)) → count + length logs ≤ most_workers → count + length others ≤ most_workers → EachWithin logs → EachWithin others → Stops (count + length logs) rest → Stops (count + length others) left → logs_lines (suc count) logs ++ rest ≡ logs_lines (suc count) others ++ left → SameLogs logs others rest left
logs-same count [] [] rest left f g v w s r e = record { same = refl; rests = e }
logs-same count [] (o ∷ os) rest left f g v w s r e =
    let same : count + 0 ≡ count = omega arith in
    let t : Stops count (worker_line (suc count) ∷ (map note_text o ++ logs_lines (suc (suc count)) os ++ left)) = subst (Stops count) e (subst (λ k. Stops k rest) same s) in
    absurd (t.0 (omega arith) refl)
logs-same count (l ∷ ls) [] rest left f g v w s r e =
    let same : count + 0 ≡ count = omega arith in
    let t : Stops count (worker_line (suc count) ∷ (map note_text l ++ logs_lines (suc (suc count)) ls ++ rest)) = subst (Stops count) (sym e) (subst (λ k. Stops k left) same r) in
    absurd (t.0 (omega arith) refl)
logs-same count (l ∷ ls) (o ∷ os) rest left f g v w s r e =
    let one : count + suc (length ls) ≡ suc count + length ls = omega arith in
    let two : count + suc (length os) ≡ suc count + length os = omega arith in
    let s' = subst (λ k. Stops k rest) one s in
    let r' = subst (λ k. Stops k left) two r in
    let tails : (map note_text l ++ logs_lines (suc (suc count)) ls) ++ rest ≡ (map note_text o ++ logs_lines (suc (suc count)) os) ++ left = cc in
    let moved = sym (append_assoc (map note_text l) (logs_lines (suc (suc count)) ls) rest) ∙ tails ∙ append_assoc (map note_text o) (logs_lines (suc (suc count)) os) left in
    let here = log-same l o (logs_lines (suc (suc count)) ls ++ rest) (logs_lines (suc (suc count)) os ++ left) v.0 w.0 (stops-behind count ls rest s') (stops-behind count os left r') moved in
    let others = logs-same (suc count) ls os rest left (omega arith) (omega arith) v.1 w.1 s' r' here.rests in
    record { same = ap₂ (λ (x : List Note) (xs : List (List Note)). x ∷ xs) here.logs others.same; rests = others.rests }

-- a head and logs at the front of lines, with what is left, which does not go on
pub record IsFront (lines : List (List ℕ)) (head : List ℕ) (logs : List (List Note)) (rest : List (List ℕ)) : Type 0 where
  pub read : List (List ℕ)
  pub are_read : AreRead read head logs
  pub lines_are : lines ≡ read ++ rest
  pub stops : Stops (length logs) rest

pub record SameFront (head other : List ℕ) (logs others : List (List Note)) (rest left : List (List ℕ)) : Type 0 where
  pub heads : head ≡ other
  pub same : logs ≡ others
  pub rests : rest ≡ left

regrouped : (before : List (List ℕ)) (logs : List (List Note)) (rest : List (List ℕ)) → (before ++ first_line ∷ logs_lines 1 logs) ++ rest ≡ before ++ first_line ∷ (logs_lines 1 logs ++ rest)
regrouped before logs rest = append_assoc before (first_line ∷ logs_lines 1 logs) rest

pub front-same : (lines : List (List ℕ)) (head other : List ℕ) (logs others : List (List Note)) (rest left : List (List ℕ)) → IsFront lines head logs rest → IsFront lines other others left → SameFront head other logs others rest left
front-same lines head other logs others rest left a b =
    let r = a.are_read in
    let s = b.are_read in
    let both : r.before ++ first_line ∷ (logs_lines 1 logs ++ rest) ≡ s.before ++ first_line ∷ (logs_lines 1 others ++ left) =
    sym (a.lines_are ∙ ap (λ ts. ts ++ rest) r.lines_are ∙ regrouped r.before logs rest) ∙ b.lines_are ∙ ap (λ ts. ts ++ left) s.lines_are ∙ regrouped s.before others left in
    let at = cut-unique first_line r.before (logs_lines 1 logs ++ rest) s.before (logs_lines 1 others ++ left) r.no_audit s.no_audit both in
    let fits = r.within in
    let other_fits = s.within in
    let few = fits.workers in
    let other_few = other_fits.workers in
    let behind = logs-same 0 logs others rest left (omega arith) (omega arith) fits.entries other_fits.entries
    (let z : length logs ≡ 0 + length logs = omega arith in subst (λ k. Stops k rest) z a.stops)
    (let z : length others ≡ 0 + length others = omega arith in subst (λ k. Stops k left) z b.stops) at.1 in
    record { heads = r.head_is ∙ ap (flat_map line) at.0 ∙ sym s.head_is; same = behind.same; rests = behind.rests }

none-there : (xs ys : List (List ℕ)) → HasNoAudit (xs ++ first_line ∷ ys) → ⊥
none-there [] ys h = h.0 refl
none-there (x ∷ xs) ys h = none-there xs ys h.1

-- where no audit begins there is no front
pub no-front : (lines : List (List ℕ)) (head : List ℕ) (logs : List (List Note)) (rest : List (List ℕ)) → HasNoAudit lines → IsFront lines head logs rest → ⊥
no-front lines head logs rest none a =
    let r = a.are_read in
    none-there r.before (logs_lines 1 logs ++ rest) (subst HasNoAudit (a.lines_are ∙ ap (λ ts. ts ++ rest) r.lines_are ∙ regrouped r.before logs rest) none)

last-stops : (logs : List (List Note)) (more : List (List ℕ)) → Stops (length logs) (last_line ∷ more)
last-stops logs more = ((λ few. last-no_worker (suc (length logs))), (λ some. last-no_entry))

pub audit-front : (bytes head : List ℕ) (logs : List (List Note)) → IsAudit bytes head logs → IsFront (text_lines bytes) head logs (last_line ∷ [])
audit-front bytes head logs a = record { read = a.read; are_read = a.are_read; lines_are = a.lines_are; stops = last-stops logs [] }

surplus-front : (bytes : List ℕ) (at : ℕ) (s : HasSurplus bytes at) → IsFront (text_lines bytes) s.head s.logs (last_line ∷ s.more)
surplus-front bytes at s = let a = s.is_audit in record { read = a.0; are_read = a.1; lines_are = a.2; stops = last-stops s.logs s.more }

misfit-front : (bytes : List ℕ) (at : ℕ) (m : HasMisfit bytes at) → IsFront (text_lines bytes) m.head m.logs (m.text ∷ m.more)
misfit-front bytes at m = let b = m.misfit in record { read = m.read; are_read = m.are_read; lines_are = m.lines_are; stops = (b.not_worker, b.not_entry) }

ended-front : (bytes head : List ℕ) (logs : List (List Note)) → AreRead (text_lines bytes) head logs → IsFront (text_lines bytes) head logs []
ended-front bytes head logs r = record { read = text_lines bytes; are_read = r; lines_are = sym (append-nil (text_lines bytes)); stops = tt }

-- ---- a text is one audit, or has one first offence

pub one-audit : (bytes head other : List ℕ) (logs others : List (List Note)) → IsAudit bytes head logs → IsAudit bytes other others → (head ≡ other) × (logs ≡ others)
one-audit bytes head other logs others a b =
    let s = front-same (text_lines bytes) head other logs others (last_line ∷ []) (last_line ∷ []) (audit-front bytes head logs a) (audit-front bytes other others b) in
    (s.heads, s.same)

-- what an offence says of the front
module _ (bytes head : List ℕ) (logs : List (List Note)) (rest : List (List ℕ)) (f : IsFront (text_lines bytes) head logs rest) where
  ended-rest : (at : ℕ) → HasEnded bytes at → rest ≡ []
  ended-rest at h = elim h.too_short [
    | inl none ↦ absurd (no-front (text_lines bytes) head logs rest none f)
    | inr t ↦ (front-same (text_lines bytes) head t.0 logs t.1 rest [] f (ended-front bytes t.0 t.1 t.2)).rests
  ]

  surplus-rest : (at : ℕ) (s : HasSurplus bytes at) → rest ≡ last_line ∷ s.more
  surplus-rest at s = (front-same (text_lines bytes) head s.head logs s.logs rest (last_line ∷ s.more) f (surplus-front bytes at s)).rests

  misfit-rest : (at : ℕ) (m : HasMisfit bytes at) → rest ≡ m.text ∷ m.more
  misfit-rest at m = (front-same (text_lines bytes) head m.head logs m.logs rest (m.text ∷ m.more) f (misfit-front bytes at m)).rests

pub not-both : (bytes head : List ℕ) (logs : List (List Note)) (kind : TextKind) (at : ℕ) → IsAudit bytes head logs → HasOffence bytes kind at → ⊥
not-both bytes head logs EndsEarly at a h = let e = ended-rest bytes head logs (last_line ∷ []) (audit-front bytes head logs a) at h in absurd (cc)
not-both bytes head logs Surplus at a h =
    let e = surplus-rest bytes head logs (last_line ∷ []) (audit-front bytes head logs a) at h in
    let none : [] ≡ h.more = cc in
    let long = ap length none in
    let b = h.is_audit in
    absurd (omega (arith, long, b.3))
not-both bytes head logs BadLine at a h =
    let e = misfit-rest bytes head logs (last_line ∷ []) (audit-front bytes head logs a) at h in
    let same : last_line ≡ h.text = cc in
    let m = h.misfit in
    m.not_last (sym same)
not-both bytes head logs NotNumber at a h = h
not-both bytes head logs TooBig at a h = h

pub record SameFault (kind other : TextKind) (at place : ℕ) : Type 0 where
  pub kinds : kind ≡ other
  pub places : at ≡ place

both-ended : (bytes : List ℕ) (at place : ℕ) → HasEnded bytes at → HasEnded bytes place → at ≡ place
both-ended bytes at place a b = a.at_end ∙ sym b.at_end

ended-no_surplus : (bytes : List ℕ) (at place : ℕ) → HasEnded bytes at → HasSurplus bytes place → ⊥
ended-no_surplus bytes at place a b = let e = ended-rest bytes b.head b.logs (last_line ∷ b.more) (surplus-front bytes place b) at a in absurd (cc)

ended-no_misfit : (bytes : List ℕ) (at place : ℕ) → HasEnded bytes at → HasMisfit bytes place → ⊥
ended-no_misfit bytes at place a b = let e = ended-rest bytes b.head b.logs (b.text ∷ b.more) (misfit-front bytes place b) at a in absurd (cc)

surplus-no_misfit : (bytes : List ℕ) (at place : ℕ) → HasSurplus bytes at → HasMisfit bytes place → ⊥
surplus-no_misfit bytes at place a b =
    let e = surplus-rest bytes b.head b.logs (b.text ∷ b.more) (misfit-front bytes place b) at a in
    let same : b.text ≡ last_line = cc in
    let m = b.misfit in
    m.not_last same

-- what is left is as long, so what was read is as long
read-long : (lines read other rest left : List (List ℕ)) → lines ≡ read ++ rest → lines ≡ other ++ left → rest ≡ left → length read ≡ length other
read-long lines read other rest left e f same =
    let a = ap length e ∙ length-append read rest in
    let b = ap length f ∙ length-append other left in
    let c = ap length same in
    omega arith

both-surplus : (bytes : List ℕ) (at place : ℕ) → HasSurplus bytes at → HasSurplus bytes place → at ≡ place
both-surplus bytes at place a b =
    let same = surplus-rest bytes b.head b.logs (last_line ∷ b.more) (surplus-front bytes place b) at a in
    let r = a.is_audit in
    let s = b.is_audit in
    let long = read-long (text_lines bytes) r.0 s.0 (last_line ∷ a.more) (last_line ∷ b.more) r.2 s.2 (sym same) in
    r.4 ∙ ap (λ k. k + 2) long ∙ sym s.4

both-misfit : (bytes : List ℕ) (at place : ℕ) → HasMisfit bytes at → HasMisfit bytes place → at ≡ place
both-misfit bytes at place a b =
    let same = misfit-rest bytes b.head b.logs (b.text ∷ b.more) (misfit-front bytes place b) at a in
    let long = read-long (text_lines bytes) a.read b.read (a.text ∷ a.more) (b.text ∷ b.more) a.lines_are b.lines_are (sym same) in
    a.at_line ∙ ap (λ k. k + 1) long ∙ sym b.at_line

pub one-offence : (bytes : List ℕ) (kind other : TextKind) (at place : ℕ) → HasOffence bytes kind at → HasOffence bytes other place → SameFault kind other at place
one-offence bytes EndsEarly EndsEarly at place a b = record { kinds = refl; places = both-ended bytes at place a b }
one-offence bytes Surplus Surplus at place a b = record { kinds = refl; places = both-surplus bytes at place a b }
one-offence bytes BadLine BadLine at place a b = record { kinds = refl; places = both-misfit bytes at place a b }
one-offence bytes EndsEarly Surplus at place a b = absurd (ended-no_surplus bytes at place a b)
one-offence bytes EndsEarly BadLine at place a b = absurd (ended-no_misfit bytes at place a b)
one-offence bytes Surplus EndsEarly at place a b = absurd (ended-no_surplus bytes place at b a)
one-offence bytes Surplus BadLine at place a b = absurd (surplus-no_misfit bytes at place a b)
one-offence bytes BadLine EndsEarly at place a b = absurd (ended-no_misfit bytes place at b a)
one-offence bytes BadLine Surplus at place a b = absurd (surplus-no_misfit bytes place at b a)
one-offence bytes NotNumber other at place a b = absurd a
one-offence bytes TooBig other at place a b = absurd a
one-offence bytes EndsEarly NotNumber at place a b = absurd b
one-offence bytes EndsEarly TooBig at place a b = absurd b
one-offence bytes Surplus NotNumber at place a b = absurd b
one-offence bytes Surplus TooBig at place a b = absurd b
one-offence bytes BadLine NotNumber at place a b = absurd b
one-offence bytes BadLine TooBig at place a b = absurd b

-- ---- so the reader's answer is the only one

pub audit-answer : (bytes : List ℕ) (r : Result AuditValue FileEnd) → IfOk r (λ file. IsAudit bytes file.head file.logs) → IfErr r (EndsReading bytes) → (head : List ℕ) (logs : List (List Note)) → IsAudit bytes head logs → AnswersAudit head logs r
audit-answer bytes (Ok file) h k head logs a = one-audit bytes file.head head file.logs logs h a
audit-answer bytes (Err (Refused fault)) h k head logs a = not-both bytes head logs fault.kind fault.line a k
audit-answer bytes (Err (TooLarge number limit)) h k head logs a = k
audit-answer bytes (Err Memory) h k head logs a = tt

pub offence-answer : (bytes : List ℕ) (r : Result AuditValue FileEnd) → IfOk r (λ file. IsAudit bytes file.head file.logs) → IfErr r (EndsReading bytes) → (kind : TextKind) (at : ℕ) → HasOffence bytes kind at → AnswersOffence kind at r
offence-answer bytes (Ok file) h k kind at o = not-both bytes file.head file.logs kind at h o
offence-answer bytes (Err (Refused fault)) h k kind at o = let s = one-offence bytes fault.kind kind fault.line at k o in (s.kinds, s.places)
offence-answer bytes (Err (TooLarge number limit)) h k kind at o = k
offence-answer bytes (Err Memory) h k kind at o = tt
