-- What the calls of a worker's outlets keep, one after another.
use Rattle.std.proofs.Common.{◌∙◌, refl, ap, arith}
use Rattle.yew_laws.specs.Tasks.{Members}
use Rattle.yew_laws.specs.declared.problem.Task.{Task}
use Rattle.yew_pool.specs.Passes.{PassView}
use Rattle.yew_crew.specs.Outlets.{SpawningView, HasMade, KeepsSpawning, IsLaterSpawning}
use Rattle.yew_crew.specs.OpenSeats.{OpenSeatView}

pub made_none : (a : OpenSeatView) → HasMade a a
made_none a = record { same = refl; knows = λ k. k }

pub made_twice : (a b c : OpenSeatView) → HasMade a b → HasMade b c → HasMade a c
made_twice a b c p q = record { same = q.same ∙ ap (λ (x : OpenSeatView). record x { made = c.made; knows = c.knows }) p.same; knows = λ k. q.knows (p.knows k) }

module _ {P N : Type 0} where
  pub keeps_spawning_same : (a : SpawningView P N) → KeepsSpawning a a
  keeps_spawning_same a = record { problem = refl; pass = refl; tasks = made_none a.tasks }

  pub keeps_spawning_twice : (a b c : SpawningView P N) → KeepsSpawning a b → KeepsSpawning b c → KeepsSpawning a c
  keeps_spawning_twice a b c p q = record {
    problem = q.problem ∙ p.problem;
    pass = q.pass ∙ ap (λ (x : PassView (Task N) (Members N)). record x { put = c.pass.put }) p.pass;
    tasks = made_twice a.tasks b.tasks c.tasks p.tasks q.tasks;
  }

  pub later_spawning_same : (a : SpawningView P N) → IsLaterSpawning a a
  later_spawning_same a = record { made = refl }

  pub later_spawning_twice : (a b c : SpawningView P N) → IsLaterSpawning a b → IsLaterSpawning b c → IsLaterSpawning a c
  later_spawning_twice a b c p q = record { made = (let e = p.made in let f = q.made in omega arith) }
