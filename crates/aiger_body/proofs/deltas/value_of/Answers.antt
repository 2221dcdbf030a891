use Rattle.std.proofs.Common.{◌-◌, ◌≤◌, length, drop, arith}
use Rattle.std.proofs.lemmas.List.{length-drop}
use Rattle.aiger_body.proofs.Groups.{value_bound}
use Rattle.aiger_body.proofs.deltas.value_of.Goals as goal

pub overflow_mul-value : goal.overflow_mul-value
overflow_mul-value c =
    let g = c.args.group.now in
    let short : length (drop (length g - c.loop-i.i) g) ≤ 9 = omega (arith, length-drop (length g - c.loop-i.i) g) in
    omega (arith, value_bound (drop (length g - c.loop-i.i) g) 9 short, c.loop-i.invariant)

pub overflow_add-value : goal.overflow_add-value
overflow_add-value c =
    let g = c.args.group.now in
    let short : length (drop (length g - c.loop-i.i) g) ≤ 9 = omega (arith, length-drop (length g - c.loop-i.i) g) in
    omega (arith, value_bound (drop (length g - c.loop-i.i) g) 9 short, c.loop-i.invariant, c.from.ensures)

pub returns-clause-small : goal.returns-clause-small
returns-clause-small c =
    let g = c.args.group.now in
    let short : length (drop (length g - c.loop-i.i) g) ≤ 10 = omega (arith, length-drop (length g - c.loop-i.i) g) in
    omega (arith, value_bound (drop (length g - c.loop-i.i) g) 10 short, c.loop-i.invariant)
