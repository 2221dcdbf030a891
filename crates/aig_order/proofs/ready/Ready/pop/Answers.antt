use Rattle.std.proofs.Common.{◌-◌, ◌∙◌, sym, ap, arith, refl}
use Rattle.std.specs.BinaryHeap.{heap_items}
use Rattle.aig_order.specs.Takings.{has}
use Rattle.aig_order.proofs.Heaps.{least_popped, has_popped}
use Rattle.aig_order.proofs.ready.Ready.pop.Goals as goal

pub returns-clause-least : goal.returns-clause-least
returns-clause-least c j low e =
    least_popped (heap_items c.self.inside.keys) _ c.in_ok-key.key refl (c.in_ok-key.ensures.heap_order c.self.inside.ordered).1 j low (ap (λ l. has l j) c.self.view_is ∙ e)

pub returns-clause-rest : goal.returns-clause-rest
returns-clause-rest c j low =
    ap (λ l. has l j) (sym c.self.view_is)
    ∙ has_popped (heap_items c.self.inside.keys) (heap_items c.pop.new.self) (4294967295 - c.in_ok-key.key) c.in_ok-key.key (omega arith) (omega arith) c.in_ok-key.ensures.permutation j low
