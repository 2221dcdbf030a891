use Rattle.ea_tool.proofs.Once.{ea_settled}
use Rattle.ea_tool.proofs.laws.settled.Goals as goal

pub returns : goal.returns
returns c =
    ea_settled c.one_reading.ensures c.one_text.ensures.taken c.one_text.ensures.refused c.one_text.ensures.apart
    c.one_answer.ensures
