use Rattle.std.proofs.Common.{refl}
use Rattle.mc_tool.specs.Words.{mc_syntax}
use Rattle.mc_tool.proofs.Once.{mc_settled}
use Rattle.mc_tool.proofs.laws.settled.Goals as goal

pub returns : goal.returns
returns c =
    mc_settled (c.one_reading.ensures mc_syntax refl) c.one_text.ensures.taken c.one_text.ensures.refused c.one_text.ensures.apart
    c.one_circuit.ensures.taken c.one_circuit.ensures.refused c.one_circuit.ensures.apart
