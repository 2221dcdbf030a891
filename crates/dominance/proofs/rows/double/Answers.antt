use Rattle.std.proofs.Common.{arith}
use Rattle.std.proofs.lemmas.Option.{get_or_from_slice_get}
use Rattle.dominance.specs.Choices.{with_name}
use Rattle.dominance.proofs.Asking.{doubled-more}
use Rattle.dominance.proofs.rows.double.Goals as goal

pub loop-k-preserved : goal.loop-k-preserved
loop-k-preserved c =
    doubled-more
    (with_name c.args.a.name c.args.a.var) c.args.rows.now c.loop-k.rows c.push.new.self
    c.loop-k.k c.at.result.now c.with_atom-row.result
    (omega (arith, c.loop-k-test.true, c.len-k-end.ensures))
    c.loop-k.invariant
    (get_or_from_slice_get c.loop-k.rows c.loop-k.k c.at.result.now c.at.result.now
    c.at.ensures) c.with_atom-row.ensures c.in_ok-push.ensures.added
