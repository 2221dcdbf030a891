use Rattle.std.proofs.Common.{length, ◌∙◌, ap}
use Rattle.aig_net.specs.Nets.{literal_at}
use Rattle.aig_net.specs.Wires.{choice}
use Rattle.live_safe.specs.Places.{copy_next_of}
use Rattle.live_safe.proofs.Stepping.{made-next, room-next}
use Rattle.live_safe.proofs.closing.copy_nexts.Goals as goal

pub choose-requires : goal.choose-requires
choose-requires c =
    room-next c.args.gates.now.first _ c.args.gates.now.ands _
    (copy_next_of c.args.places.now c.args.grab c.args.values.now) c.loop-j.j
    (length c.args.values.now) c.loop-j.nexts _ c.loop-j-test.true c.requires.room
    c.loop-j.invariant.0 c.loop-j.invariant.1
    (ap (choice c.args.grab (literal_at c.args.values.now c.loop-j.j)) c.copy-copy.ensures)

pub loop-j-preserved : goal.loop-j-preserved
loop-j-preserved c = (
  made-next c.args.gates.now.first _ c.args.gates.now.ands _ _
      (copy_next_of c.args.places.now c.args.grab c.args.values.now) c.loop-j.j _ _ _ _
      c.loop-j.invariant.0 c.loop-j.invariant.1
      (ap (choice c.args.grab (literal_at c.args.values.now c.loop-j.j)) c.copy-copy.ensures)
      c.in_ok-after.ensures.made c.in_ok-push.ensures.added,
  c.in_ok-after.ensures.first ∙ c.loop-j.invariant.1,
)
