use Rattle.std.proofs.Common.{◌-◌, ◌||◌, ◌∙◌, nat_eq, ap, refl, arith}
use Rattle.std.specs.BinaryHeap.{heap_items}
use Rattle.aig_order.specs.Takings.{has}
use Rattle.aig_order.proofs.Heaps.{has_pushed}
use Rattle.aig_order.proofs.ready.Ready.push.Goals as goal

pub returns : goal.returns
returns c j low =
    has_pushed (heap_items c.self.inside.keys) (heap_items c.push.new.self) c.args.k (4294967295 - c.args.k) (omega arith) refl c.in_ok-push.ensures.permutation j low
    ∙ ap (λ l. nat_eq j c.args.k || has l j) c.self.view_is
