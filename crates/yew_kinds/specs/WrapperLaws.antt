-- Counted and clipped problems keep the law on bounds.
use Rattle.std.proofs.Common.{ℕ, ◌≤◌, true, false, List, nat_le, if◌then◌else◌, arith}
use Rattle.yew_laws.specs.Tree.{IsBounded}
use Rattle.yew_kinds.specs.Wrappers.{clipped}

pub clipped-small : (target worth : ℕ) → clipped target worth ≤ 1
clipped-small target worth = elim (nat_le target worth) as (λ b. (if b then 1 else 0) ≤ 1) [ true ↦ omega arith | false ↦ omega arith ]

clipped-le : (target a b : ℕ) → a ≤ b → clipped target a ≤ clipped target b
clipped-le target a b h = grind arith

module _ {N : Type 0} {sound : N → Type 0} {children : N → List N} {worth bound : N → ℕ} (bounded : IsBounded sound children worth bound) where
  pub counted-bounded : IsBounded sound children (λ _. 0) (λ _. 1)
  counted-bounded = record {
    bounds = λ n m path s e. omega arith;
    fits = λ n s. omega arith;
  }

  pub clipped-bounded : (target : ℕ) → IsBounded sound children (λ n. clipped target (worth n)) (λ n. clipped target (bound n))
  clipped-bounded target = record {
    bounds = λ n m path s e. clipped-le target (worth m) (bound n) (bounded.bounds n m path s e);
    fits = λ n s. let small : clipped target (bound n) ≤ 1 = clipped-small target (bound n) in omega arith;
  }
