use Rattle.std.proofs.Common.{◌≡◌, take}
use Rattle.fin_monitor.specs.Codes.{code_of, joint_letter}
use Rattle.tuple_walk.specs.TraceParts.{traces_in}
use Rattle.tuple_walk.specs.Walks.{machine_in}
use Rattle.tuple_walk.proofs.Following.{letters_at_position}
use Rattle.tuple_walk.proofs.walk.Walk.joint_at.Given as goal

abbrev pub invariant-loop-t : goal.invariant-loop-t
invariant-loop-t g l =
    l.code ≡ code_of (joint_letter (take l.t-index (letters_at_position l.i (traces_in l.all))))
    (machine_in l.self).atoms
