use Rattle.ea_tool.proofs.deciding.decide_formula.Goals as goal

pub returns-in-Branches : goal.returns-in-Branches
returns-in-Branches c = rw c.in-Branches.is c.decide_by_branches.ensures

pub returns-in-Circuit : goal.returns-in-Circuit
returns-in-Circuit c = rw c.in-Circuit.is c.decide_by_circuit.ensures
