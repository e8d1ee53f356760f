-- Children in the order of keys keep the facts of a problem.
use Rattle.std.proofs.Common.{◌≡◌, ℕ, zero, suc, ◌+◌, ◌<◌, ◌^◌, true, false, List, [], ◌∷◌, length, nat_le, if◌then◌else◌, slice_get, Some, option_and_then, refl, ap, ◌∙◌, arith}
use Rattle.std.specs.List.{AllByRecursion}
use Rattle.std.proofs.lemmas.Option.{option_and_then_some}
use Rattle.yew_laws.specs.Tree.{IsRanked, IsBounded, node_at}
use Rattle.yew_calls.specs.KeyOrder.{placed, by_key}

module _ {X : Type 0} (key : X → ℕ) where
  pub placed-all : (P : X → Type 0) (x : X) (ys : List X) → P x → AllByRecursion P ys → AllByRecursion P (placed key x ys)
  placed-all P x [] here all = (here, tt)
  placed-all P x (y ∷ ys) here all =
      elim (nat_le (key x) (key y)) as (λ b. AllByRecursion P (if b then x ∷ y ∷ ys else y ∷ placed key x ys))
      [ true ↦ (here, all) | false ↦ (all.0, placed-all P x ys here all.1) ]

  pub by_key-all : (P : X → Type 0) (xs : List X) → AllByRecursion P xs → AllByRecursion P (by_key key xs)
  by_key-all P [] all = tt
  by_key-all P (x ∷ xs) all = placed-all P x (by_key key xs) all.0 (by_key-all P xs all.1)

  placed-length : (x : X) (ys : List X) → length (placed key x ys) ≡ suc (length ys)
  placed-length x [] = refl
  placed-length x (y ∷ ys) =
      elim (nat_le (key x) (key y)) as (λ b. length (if b then x ∷ y ∷ ys else y ∷ placed key x ys) ≡ suc (suc (length ys)))
      [ true ↦ refl | false ↦ ap suc (placed-length x ys) ]

  pub by_key-length : (xs : List X) → length (by_key key xs) ≡ length xs
  by_key-length [] = refl
  by_key-length (x ∷ xs) = placed-length x (by_key key xs) ∙ ap suc (by_key-length xs)

  -- an element stands somewhere in a list
  abbrev pub StandsIn : List X → X → Type 0
  StandsIn xs x = (place : ℕ) × (slice_get xs place ≡ Some x)

  later : (y : X) (ys : List X) (x : X) → StandsIn ys x → StandsIn (y ∷ ys) x
  later y ys x stands = (suc stands.0, stands.1)

  -- what stands in a list also stands in it with one more behind its head
  skip : (x y : X) (ys : List X) (c : X) → StandsIn (x ∷ ys) c → StandsIn (x ∷ y ∷ ys) c
  skip x y ys c (zero, there) = (zero, there)
  skip x y ys c (suc k, there) = (suc (suc k), there)

  behind : (x y : X) (ys front : List X) → ((k : ℕ) (c : X) → slice_get front k ≡ Some c → StandsIn (x ∷ ys) c) → (k : ℕ) (c : X) → slice_get (y ∷ front) k ≡ Some c → StandsIn (x ∷ y ∷ ys) c
  behind x y ys front known zero c at = (suc zero, at)
  behind x y ys front known (suc k) c at = skip x y ys c (known k c at)

  placed-from : (x : X) (ys : List X) (k : ℕ) (c : X) → slice_get (placed key x ys) k ≡ Some c → StandsIn (x ∷ ys) c
  placed-from x [] k c at = (k, at)
  placed-from x (y ∷ ys) k c at =
      elim (nat_le (key x) (key y)) as (λ b. slice_get (if b then x ∷ y ∷ ys else y ∷ placed key x ys) k ≡ Some c → StandsIn (x ∷ y ∷ ys) c)
      [ true ↦ λ e. (k, e) | false ↦ behind x y ys (placed key x ys) (placed-from x ys) k c ]
      at

  deeper : (x : X) (ys xs : List X) → ((k : ℕ) (c : X) → slice_get ys k ≡ Some c → StandsIn xs c) → (c : X) → StandsIn (x ∷ ys) c → StandsIn (x ∷ xs) c
  deeper x ys xs known c (zero, there) = (zero, there)
  deeper x ys xs known c (suc k, there) = later x xs c (known k c there)

  by_key-from : (xs : List X) (k : ℕ) (c : X) → slice_get (by_key key xs) k ≡ Some c → StandsIn xs c
  by_key-from [] k c at = (k, at)
  by_key-from (x ∷ xs) k c at = deeper x (by_key key xs) xs (by_key-from xs) c (placed-from x (by_key key xs) k c at)

module _ {N : Type 0} (key : N → ℕ) (children : N → List N) where
  -- the children of a node in the order of their keys
  abbrev reordered : N → List N
  reordered n = by_key key (children n)

  -- the node stands at a path in the inner order too
  inner_path : (path : List ℕ) (n m : N) → node_at reordered n path ≡ Some m → (inner : List ℕ) × (node_at children n inner ≡ Some m)
  inner_path [] n m at = ([], at)
  inner_path (k ∷ ks) n m at =
      option_and_then_some (λ c. node_at reordered c ks) (slice_get (reordered n) k) m at
      (λ c here below.
      let stands = by_key-from key (children n) k c here in
      let deep = inner_path ks c m below in
      (stands.0 ∷ deep.0, ap (option_and_then (λ d. node_at children d deep.0)) stands.1 ∙ deep.1))

  module _ {sound : N → Type 0} where
    pub reordered-ranked : {rank : N → ℕ} → IsRanked sound children rank → IsRanked sound reordered rank
    reordered-ranked {rank} ranked = record {
      stays_sound = λ n s. by_key-all key sound (children n) (ranked.stays_sound n s);
      rank_falls = λ n s. by_key-all key (λ c. rank c < rank n) (children n) (ranked.rank_falls n s);
    }

    pub reordered-bounded : {worth bound : N → ℕ} → IsBounded sound children worth bound → IsBounded sound reordered worth bound
    reordered-bounded bounded = record {
      bounds = λ n m path s at. let inner = inner_path path n m at in bounded.bounds n m inner.0 s inner.1;
      fits = bounded.fits;
    }

    pub reordered-countable : ((n : N) → sound n → length (children n) + 1 < 2 ^ 32) → (n : N) → sound n → length (reordered n) + 1 < 2 ^ 32
    reordered-countable countable n s = let same = by_key-length key (children n) in let few = countable n s in omega arith
