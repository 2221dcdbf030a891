use Rattle.std.proofs.Common.{append_assoc}
use Rattle.rv_tool.proofs.Printed.{joined_numbers}
use Rattle.rv_tool.proofs.texts.push_numbers.Goals as goal

pub returns : goal.returns
returns c =
    rw (c.in-Some.ensures.cases.0, joined_numbers c.in-Some.first.now c.in-Some.others.now, ← append_assoc, ← c.in_ok-push_number.ensures) c.push_spaced.ensures
