-- What stored functions answer. A function is seen by which of its calls are permitted and by what they may give.
use Rattle.std.specs.Prelude.{◌≡◌, ℕ, List, Result, IfOk}
use Rattle.std.specs.declared.alloc.Global.{Global}
use Rattle.std.specs.declared.vec.Vec.{Vec}
use Rattle.yew_laws.specs.declared.memory.Memory.{Memory}
use denote.Ref.{Bor}

module _ {N : Type 0} where
  -- a call gives this node, or that memory is wanting
  pub record AnswersRoot (pre : Global → Type 0) (post : Global → Result N Memory → Type 0) (root : N) : Type 0 where
    pub permitted : (alloc : Global) → pre alloc
    pub gives : (alloc : Global) (result : Result N Memory) → post alloc result → IfOk result (λ node. node ≡ root)

  -- a call at a sound node gives the children of the node, in order, or that memory is wanting
  pub record AnswersChildren (pre : Global → Bor N → Type 0) (post : Global → Bor N → Result (Vec N Global) Memory → Type 0) (sound : N → Type 0) (children : N → List N) : Type 0 where
    pub permitted : (alloc : Global) (node : Bor N) → sound node.now → pre alloc node
    pub gives : (alloc : Global) (node : Bor N) (result : Result (Vec N Global) Memory) → sound node.now → post alloc node result → IfOk result (λ nodes. nodes.items ≡ children node.now)

  -- a call at a sound node gives the number of the node
  pub record AnswersNumber (pre : Bor N → Type 0) (post : Bor N → ℕ → Type 0) (sound : N → Type 0) (number : N → ℕ) : Type 0 where
    pub permitted : (node : Bor N) → sound node.now → pre node
    pub gives : (node : Bor N) (result : ℕ) → sound node.now → post node result → result ≡ number node.now
