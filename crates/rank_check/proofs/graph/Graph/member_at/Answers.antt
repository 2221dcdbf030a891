use Rattle.std.proofs.lemmas.List.Elements.{Contains-get_or}
use Rattle.rank_check.proofs.graph.Graph.member_at.Goals as goal

pub returns-clause-made : goal.returns-clause-made
returns-clause-made g c =
    rw c.members.ensures (c.whole.ensures.made c.args.group _
    (Contains-get_or _ c.args.i 0 c.requires.place))
