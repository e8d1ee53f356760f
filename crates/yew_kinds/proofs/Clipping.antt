-- What the clipped worths say of the worths themselves.
use Rattle.std.proofs.Common.{◌≡◌, ℕ, zero, suc, ◌<◌, ◌≤◌, max, true, false, List, [], ◌∷◌, nat_le, ◌==◌, if◌then◌else◌, Any, Option, Some, None, IsSome, IfSome, IsSomeAnd, refl, arith, leb-true, ◌≢◌, ◌↔◌, ap, ◌∙◌}
use Rattle.std.specs.Option.{option_map}
use Rattle.std.specs.List.{AllByRecursion}
use Rattle.std.proofs.lemmas.Bool.Decides.{nat_tests}
use Rattle.std.proofs.lemmas.Option.{none-some, same_Some, IfSome_then}
use Rattle.yew_laws.proofs.PathTests.{nat-is}
use Rattle.yew_laws.specs.Tree.{Member}
use Rattle.yew_laws.specs.Greatest.{greatest_of, first_with}
use Rattle.yew_kinds.specs.Wrappers.{clipped}
use Rattle.yew_kinds.specs.WrapperLaws.{clipped-small}

-- no worth but 0
pub greatest_of-zero : {N : Type 0} (ms : List (Member N)) → greatest_of (λ _. 0) ms ≡ 0
greatest_of-zero [] = refl
greatest_of-zero (m ∷ ms) = let rest = greatest_of-zero ms in omega arith

clipped-meets : (target worth : ℕ) → clipped target worth ≡ 1 → target ≤ worth
clipped-meets target worth e =
    elim (nat_le target worth) as (λ b. nat_le target worth ≡ b → ◌≡◌ {A = ℕ} (if b then 1 else 0) 1 → target ≤ worth)
    [ true ↦ λ is h. leb-true target worth is | false ↦ λ is h. absurd (omega (arith, h)) ]
    refl e

-- a clipped worth of 1 is a worth that meets the target
pub option_map-clipped : {N : Type 0} (worth : N → ℕ) (target : ℕ) (found : Option N) → ◌≡◌ {A = Option ℕ} (option_map (λ n. clipped target (worth n)) found) (Some 1) → IsSomeAnd (option_map worth found) (λ w. target ≤ w)
option_map-clipped worth target None e = absurd (none-some 1 e)
option_map-clipped worth target (Some n) e = clipped-meets target (worth n) (same_Some (clipped target (worth n)) 1 e)

module _ {N : Type 0} (worth : N → ℕ) (target : ℕ) where
  abbrev clip : N → ℕ
  clip n = clipped target (worth n)

  abbrev Meets : Member N → Type 0
  Meets m = target ≤ worth m.node

  later : (m : Member N) (ms : List (Member N)) → Any Meets ms → Any Meets (m ∷ ms)
  later m ms some = (suc some.0, some.1, omega (arith, some.2), some.3, some.4)

  -- the greatest clipped worth is at most 1
  pub greatest_of-clipped : (ms : List (Member N)) → greatest_of clip ms ≤ 1
  greatest_of-clipped [] = omega arith
  greatest_of-clipped (m ∷ ms) =
      let first = clipped-small target (worth m.node) in
      let rest = greatest_of-clipped ms in
      omega arith

  -- where it is not 0, some member meets the target
  pub met-from_greatest : (ms : List (Member N)) → 0 < greatest_of clip ms → Any Meets ms
  met-from_greatest [] above = absurd (omega arith)
  met-from_greatest (m ∷ ms) above =
      elim (nat_le target (worth m.node))
      as (λ b. nat_le target (worth m.node) ≡ b → 0 < max (if b then 1 else 0) (greatest_of clip ms) → Any Meets (m ∷ ms)) [
        | true ↦ λ e h. (0, m, omega arith, refl, leb-true target (worth m.node) e)
        | false ↦ λ e h. later m ms (met-from_greatest ms (omega arith))
      ]
      refl above

  -- where some member meets the target, it is not 0
  pub greatest-from_met : (ms : List (Member N)) → Any Meets ms → 0 < greatest_of clip ms
  greatest-from_met [] some = absurd (omega (arith, some.2))
  greatest-from_met (m ∷ ms) (zero, x, within, at, met) =
      let same : m ≡ x = at in
      let here : target ≤ worth m.node = rw same met in
      let one : clipped target (worth m.node) ≡ 1 = grind (arith, nat_tests) in
      omega arith
  greatest-from_met (m ∷ ms) (suc k, x, within, at, met) =
      let rest = greatest-from_met ms (k, x, omega arith, at, met) in omega arith

-- a greatest worth that is not 0 is that of a first member
pub first_with-greatest : {N : Type 0} (worth : N → ℕ) (w : ℕ) (ms : List (Member N)) → greatest_of worth ms ≡ w → 0 < w → IsSome (first_with worth w ms)
first_with-greatest worth w [] e above = absurd (omega (arith, e))
first_with-greatest worth w (m ∷ ms) e above =
    elim (worth m.node == w) as (λ b. (worth m.node == w) ≡ b → IsSome (if b then Some m.path else first_with worth w ms)) [
      | true ↦ λ is. refl
      | false ↦ λ is.
          let other : worth m.node ≢ w = grind (arith, nat_tests) in
          first_with-greatest worth w ms (omega (arith, e)) above
    ]
    refl

-- the worth of the node at the path of a first member
pub first_with-worth : {N : Type 0} (worth : N → ℕ) (node_at : List ℕ → Option N) (w : ℕ) (ms : List (Member N)) → AllByRecursion (λ m. node_at m.path ≡ Some m.node) ms → IfSome (first_with worth w ms) (λ path. option_map worth (node_at path) ≡ Some w)
first_with-worth worth node_at w [] at = tt
first_with-worth worth node_at w (m ∷ ms) at =
    elim (worth m.node == w) as (λ b. (worth m.node == w) ≡ b → IfSome (if b then Some m.path else first_with worth w ms) (λ path. option_map worth (node_at path) ≡ Some w)) [
      | true ↦ λ is. ap (option_map worth) at.0 ∙ ap Some (nat-is (worth m.node) w is)
      | false ↦ λ is. first_with-worth worth node_at w ms at.1
    ]
    refl

module _ {N : Type 0} (worth : N → ℕ) (target : ℕ) where
  abbrev best : List (Member N) → Option (List ℕ)
  best ms = if greatest_of (clip worth target) ms == 0 then None else first_with (clip worth target) (greatest_of (clip worth target) ms) ms

  -- there is a first best path exactly where some member meets the target
  pub first_best-is : (ms : List (Member N)) → IsSome (best ms) ↔ Any (Meets worth target) ms
  first_best-is ms =
      let top = greatest_of (clip worth target) ms in
      elim (top == 0) as (λ b. (top == 0) ≡ b → IsSome (if b then None else first_with (clip worth target) top ms) ↔ Any (Meets worth target) ms) [
        | true ↦ λ is. (λ h. absurd (cc), λ some. let above = greatest-from_met worth target ms some in let none : top ≡ 0 = nat-is top 0 is in absurd (omega arith))
        | false ↦ λ is. let above : 0 < top = grind (arith, nat_tests) in (λ h. met-from_greatest worth target ms above, λ some. first_with-greatest (clip worth target) top ms refl above)
      ]
      refl

  -- and its node meets the target
  pub first_best-meets : (node_at : List ℕ → Option N) (ms : List (Member N)) → AllByRecursion (λ m. node_at m.path ≡ Some m.node) ms → IfSome (best ms) (λ path. IsSomeAnd (option_map worth (node_at path)) (λ w. target ≤ w))
  first_best-meets node_at ms at =
      let top = greatest_of (clip worth target) ms in
      elim (top == 0) as (λ b. (top == 0) ≡ b → IfSome (if b then None else first_with (clip worth target) top ms) (λ path. IsSomeAnd (option_map worth (node_at path)) (λ w. target ≤ w))) [
        | true ↦ λ is. tt
        | false ↦ λ is.
            let above : 0 < top = grind (arith, nat_tests) in
            let small = greatest_of-clipped worth target ms in
            let one : top ≡ 1 = omega arith in
            IfSome_then (first_with (clip worth target) top ms) (first_with-worth (clip worth target) node_at top ms at)
            (λ path is. option_map-clipped worth target (node_at path) (is ∙ ap Some one))
      ]
      refl
