use Rattle.yew_calls.specs.KeyOrder.{by_key}
use Rattle.yew_calls.proofs.KeyOrders.{index-from_rising, by_key-rising, by_key-bag, by_key-stays, by_key-is, rising-from_index}
use Rattle.yew_calls.proofs.laws.keys_rise.Goals as goal

pub returns-clause-rises : goal.returns-clause-rises
returns-clause-rises g c = λ key xs. index-from_rising key (by_key key xs) (by_key-rising key xs)

pub returns-clause-same : goal.returns-clause-same
returns-clause-same g c = λ key xs. by_key-bag key xs

pub returns-clause-stays : goal.returns-clause-stays
returns-clause-stays g c = λ key x xs. by_key-stays key x xs

pub returns-clause-only : goal.returns-clause-only
returns-clause-only g c = λ key xs ys up stays. by_key-is key xs ys (rising-from_index key ys up) stays
