use Rattle.std.proofs.Common.{◌≡◌, ◌/◌, ◌∷◌, ◌++◌, map, take}
use Rattle.aiger_read.proofs.read.in_order.Given as goal

abbrev pub invariant-loop-l : goal.invariant-loop-l
invariant-loop-l l = l.list ≡ 0 ∷ map (λ x. x / 2) (take l.l-index l.body.content.inputs)

abbrev pub invariant-loop-latch : goal.invariant-loop-latch
invariant-loop-latch l = l.list ≡ (0 ∷ map (λ x. x / 2) l.body.content.inputs) ++ map (λ x. x.own / 2) (take l.latch-index l.body.content.latches)
