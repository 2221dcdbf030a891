use Rattle.ltl_tableau.proofs.GraphWalking.{accepting, fair-nodes, each-ranked, rank-proof}
use Rattle.ltl_tableau.proofs.laws.graph_walks.Goals as goal

pub returns-clause-accepting : goal.returns-clause-accepting
returns-clause-accepting c = accepting

pub returns-clause-fair : goal.returns-clause-fair
returns-clause-fair c = fair-nodes

pub returns-clause-ranked : goal.returns-clause-ranked
returns-clause-ranked c = each-ranked

pub returns-clause-proof : goal.returns-clause-proof
returns-clause-proof c nodes roots list graph tableau whole ranks ranked parts proof has =
    rank-proof nodes roots list graph tableau whole ranks ranked proof has parts
