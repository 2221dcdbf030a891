use Rattle.mc_tool.specs.Driving.{spent}
use Rattle.mc_tool.proofs.Driving.{drive-prefix, drive-shape, drive-names, drive-name, drive-closure, drive-facts, drive-paths}
use Rattle.mc_tool.proofs.strategy.refused.Goals as goal

pub returns-in-Prefix : goal.returns-in-Prefix
returns-in-Prefix c net strategy f ask refused =
    drive-prefix net strategy c.args.names.now f ask c.in-Prefix.class (rw c.in-Prefix.is at refused)

pub returns-in-Shape : goal.returns-in-Shape
returns-in-Shape c net strategy f ask refused =
    drive-shape net strategy c.args.names.now f ask c.in-Shape.inputs c.in-Shape.outputs (rw c.in-Shape.is at refused)

pub returns-in-Names : goal.returns-in-Names
returns-in-Names c net strategy f ask refused =
    rw c.past.ensures (drive-names net strategy c.args.names.now f ask c.in-Names.limit (rw c.in-Names.is at refused))

pub returns-in-Closure : goal.returns-in-Closure
returns-in-Closure c net strategy f ask refused =
    rw c.past-in-Closure.ensures (drive-closure net strategy c.args.names.now f ask c.in-Closure.limit (rw c.in-Closure.is at refused))

pub returns-in-Facts : goal.returns-in-Facts
returns-in-Facts c net strategy f ask refused =
    rw c.past-in-Facts.ensures (drive-facts net strategy c.args.names.now f ask c.in-Facts.limit (rw c.in-Facts.is at refused))

pub returns-in-CnfLimit : goal.returns-in-CnfLimit
returns-in-CnfLimit c net strategy f ask refused =
    drive-paths net strategy c.args.names.now f ask c.in-CnfLimit.kind c.in-CnfLimit.limit c.in-CnfLimit.kept (rw c.in-CnfLimit.is at refused)

pub returns-in-Name : goal.returns-in-Name
returns-in-Name c net strategy f ask refused =
    drive-name net strategy c.args.names.now f ask c.in-Name.name c.in-Name.twice _ (rw c.in-Name.is at refused) c.bad_name.ensures

pub returns-in-Memory : goal.returns-in-Memory
returns-in-Memory c net strategy f ask refused = spent
