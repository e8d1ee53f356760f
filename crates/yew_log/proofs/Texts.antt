-- The text of the logs of workers, one log longer.
use Rattle.std.proofs.Common.{◌≡◌, ℕ, suc, ◌+◌, ◌<◌, List, [], ◌∷◌, ◌++◌, map, length, take, get_or, ap, sym, ◌∙◌, append_assoc, append-nil, arith, length-take}
use Rattle.std.proofs.lemmas.List.{map-append, take_more, length-map}
use Rattle.yew_log.specs.Notes.{Note}
use Rattle.yew_log.specs.AuditText.{worker_text, workers_text}

workers_text-append : (n : ℕ) (xs ys : List (List Note)) → workers_text n (xs ++ ys) ≡ workers_text n xs ++ workers_text (n + length xs) ys
workers_text-append n [] ys = let same : n ≡ n + 0 = omega arith in ap (λ k. workers_text k ys) same
workers_text-append n (x ∷ xs) ys =
    let same : suc n + length xs ≡ n + suc (length xs) = omega arith in
    ap (λ t. worker_text n x ++ t) (workers_text-append (suc n) xs ys ∙ ap (λ k. workers_text (suc n) xs ++ workers_text k ys) same)
    ∙ sym (append_assoc (worker_text n x) (workers_text (suc n) xs) (workers_text (n + suc (length xs)) ys))

-- the first logs and the next one
pub workers_text-take : {X : Type 0} (log_of : X → List Note) (xs : List X) (i : ℕ) (x : X) → i < length xs → x ≡ get_or xs i x → workers_text 1 (map log_of (take (i + 1) xs)) ≡ workers_text 1 (map log_of (take i xs)) ++ worker_text (i + 1) (log_of x)
workers_text-take log_of xs i x less is =
    let front = map log_of (take i xs) in
    let long : length front ≡ i = length-map (take i xs) log_of ∙ length-take i xs ∙ omega arith in
    let number : 1 + length front ≡ i + 1 = omega arith in
    ap (λ ys. workers_text 1 (map log_of ys)) (take_more xs i x less ∙ ap (λ y. take i xs ++ y ∷ []) (sym is))
    ∙ ap (workers_text 1) (map-append log_of (take i xs) (x ∷ []))
    ∙ workers_text-append 1 front (log_of x ∷ [])
    ∙ ap (λ t. workers_text 1 front ++ t) (append-nil (worker_text (1 + length front) (log_of x)) ∙ ap (λ k. worker_text k (log_of x)) number)
