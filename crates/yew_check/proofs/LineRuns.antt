-- The lines from a place on.
use Rattle.std.proofs.Common.{◌≡◌, ◌≢◌, ℕ, ◌+◌, ◌<◌, ◌≤◌, List, ◌∷◌, ◌++◌, length, get_or, take, drop, map, true, false, refl, sym, ap, ap₂, subst, ◌∙◌, arith, inl, inr, length-drop}
use Rattle.std.specs.Prelude.{codes, decimal, nat_eq, MatchBool}
use Rattle.std.specs.List.{AllByRecursion, flat_map}
use Rattle.std.proofs.lemmas.Bool.{eqb-true, eqb-false}
use Rattle.std.proofs.lemmas.List.{drop-map, take-map, drop_more, length-map, take-append-drop}
use Rattle.yew_text.specs.Numbers.{value_of}
use Rattle.yew_text.specs.declared.text.TextKind.TheVariants.{Surplus, BadLine}
use Rattle.yew_log.specs.Notes.{Note}
use Rattle.yew_lines.specs.Spelling.{line}
use Rattle.yew_check.specs.Audits.{first_line, worker_line, last_line, most_workers, HasNoAudit}
use Rattle.yew_check.specs.Entries.{IsWithin, note_text}
use Rattle.yew_check.specs.Reading.{StopsLog, IsHead, IsLog, IsFaultAt}
use Rattle.yew_check.proofs.Numerals.{decimal-value}
use Rattle.yew_check.proofs.Cutting.{cut-unique}

module _ {X : Type 0} (now : X → List ℕ) (xs : List X) (i : ℕ) (d : X) where
  -- from a place on: the line there, and the lines behind it
  pub at-drop : i < length xs → drop i (map now xs) ≡ now (get_or xs i d) ∷ drop (i + 1) (map now xs)
  at-drop less = drop-map now i xs ∙ ap (map now) (drop_more xs i d less) ∙ ap (λ (ts : List (List ℕ)). now (get_or xs i d) ∷ ts) (sym (drop-map now (i + 1) xs))

  pub fault-misfit : (end : ℕ) → i < length xs → now (get_or xs i d) ≢ last_line → IsFaultAt (drop i (map now xs)) i end (record { kind = BadLine; line = i + 1 })
  fault-misfit end less ne = subst (λ ts. IsFaultAt ts i end (record { kind = BadLine; line = i + 1 })) (sym (at-drop less)) (inl (ne, refl, refl))

  pub fault-surplus : (end : ℕ) → i + 1 < length xs → now (get_or xs i d) ≡ last_line → IsFaultAt (drop i (map now xs)) i end (record { kind = Surplus; line = i + 2 })
  fault-surplus end less is =
      let long = length-drop (i + 1) (map now xs) in
      let all = length-map xs now in
      let more : 0 < length (drop (i + 1) (map now xs)) = omega arith in
      subst (λ ts. IsFaultAt ts i end (record { kind = Surplus; line = i + 2 })) (sym (at-drop (omega arith))) (inr (is, more, refl, refl))

  -- the head before the first line of an audit
  pub head-found : (bytes : List ℕ) → i < length xs → HasNoAudit (map now (take i xs)) → bytes ≡ flat_map line (map now (take i xs)) → now (get_or xs i d) ≡ first_line → IsHead (map now xs) bytes i
  head-found bytes less none is here =
      let taken = take-map now i xs in
      let all = length-map xs now in
      record {
        within = omega arith;
        audit_follows = sym (take-append-drop i (map now xs)) ∙ ap (λ (ts : List (List ℕ)). take i (map now xs) ++ ts) (at-drop less ∙ ap (λ (t : List ℕ). t ∷ drop (i + 1) (map now xs)) here);
        no_audit = subst HasNoAudit (sym taken) none;
        head_is = is ∙ ap (flat_map line) (sym taken);
      }

  -- the log before the first line that is no entry
  pub log-ends : (log : List Note) (count : ℕ) → i < length xs → map now (take i xs) ≡ map note_text log → count ≡ i → AllByRecursion IsWithin log → ((note : Note) → IsWithin note → now (get_or xs i d) ≢ note_text note) → IsLog (map now xs) log count
  log-ends log count less is same within none =
      let taken = take-map now i xs in
      let all = length-map xs now in
      record {
        count_is = omega arith;
        lines_are = sym (take-append-drop i (map now xs)) ∙ ap₂ (λ (us vs : List (List ℕ)). us ++ vs) (taken ∙ is) (ap (λ k. drop k (map now xs)) (sym same));
        within = within;
        stops = subst StopsLog (sym (ap (λ k. drop k (map now xs)) same ∙ at-drop less)) none;
      }

-- the words of the line of a worker
pub worker-not : (text word digits : List ℕ) (number : ℕ) → text ≡ word ++ 32 ∷ digits → AllByRecursion (λ b. b ≢ 32) word → word ≢ codes "worker" → text ≢ worker_line number
worker-not text word digits number is out ne e = ne (worker-parts text word digits number is out e).0
  where
    worker-without : AllByRecursion (λ b. b ≢ 32) (codes "worker")
    worker-without = ((λ e. absurd (omega arith)), ((λ e. absurd (omega arith)), ((λ e. absurd (omega arith)), ((λ e. absurd (omega arith)), ((λ e. absurd (omega arith)), ((λ e. absurd (omega arith)), tt))))))

    worker-parts : (text word digits : List ℕ) (number : ℕ) → text ≡ word ++ 32 ∷ digits → AllByRecursion (λ b. b ≢ 32) word → text ≡ worker_line number → (word ≡ codes "worker") × (digits ≡ decimal number)
    worker-parts text word digits number is out e = cut-unique 32 word digits (codes "worker") (decimal number) out worker-without (sym is ∙ e)

pub worker-test : (text word digits : List ℕ) (found number : ℕ) → found ≤ most_workers → text ≡ word ++ 32 ∷ digits → word ≡ codes "worker" → digits ≡ decimal found → number ≤ most_workers → MatchBool (nat_eq found number) (text ≡ worker_line number) (text ≢ worker_line number)
worker-test text word digits found number small is worker digits_are fits =
    elim (nat_eq found number) as (λ b. nat_eq found number ≡ b → MatchBool b (text ≡ worker_line number) (text ≢ worker_line number)) [
      | true ↦ λ e. whole ∙ ap (λ n. worker_line n) (eqb-true found number e)
      | false ↦ λ e k. eqb-false found number e (same k)
    ]
    refl
  where
    whole : text ≡ worker_line found
    whole = is ∙ ap₂ (λ (w ds : List ℕ). w ++ 32 ∷ ds) worker digits_are

    same : text ≡ worker_line number → found ≡ number
    same k =
        let both : worker_line found ≡ worker_line number = sym whole ∙ k in
        let tails : decimal found ≡ decimal number = ap (drop 7) both in
        sym (decimal-value found (omega arith)) ∙ ap value_of tails ∙ decimal-value number (omega arith)
