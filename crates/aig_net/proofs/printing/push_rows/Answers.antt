use Rattle.std.proofs.Common.{append_assoc}
use Rattle.aig_net.proofs.RunRows.{joined_rows}
use Rattle.aig_net.proofs.printing.push_rows.Goals as goal

pub returns : goal.returns
returns c =
    rw (c.in-Some.ensures.cases.0, joined_rows c.in-Some.first.now c.in-Some.others.now, ← append_assoc, ← c.in_ok-push_row.ensures) c.push_more_rows.ensures
