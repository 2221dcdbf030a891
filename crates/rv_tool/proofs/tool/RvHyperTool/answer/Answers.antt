use Rattle.hy_run.specs.Names.{names_in}
use Rattle.rv_tool.proofs.Asking.{asked_one, asked_two, one_name, two_names}
use Rattle.rv_tool.proofs.tool.RvHyperTool.answer.Goals as goal

pub returns-in-Monitor-clause-follows : goal.returns-in-Monitor-clause-follows
returns-in-Monitor-clause-follows g c =
    let files = names_in c.args.order.now.files in
    let asked = rw c.in-Monitor.is at c.requires.asked.1 in
    let two = two_names files (asked_two c.requires.asked.0 files c.in-Monitor.lengths c.in-Monitor.drop asked) in
    let first = c.name-specs.ensures in
    let second = c.name-traces.ensures in
    rw (c.in-Monitor.is, two, ← first, ← second) c.monitor.ensures.follows

pub monitor_made-requires-clause-few : goal.monitor_made-requires-clause-few
monitor_made-requires-clause-few g c =
    (asked_one c.requires.asked.0 (names_in c.args.order.now.files) c.in-MonitorMade.count c.in-MonitorMade.lengths c.in-MonitorMade.drop
    (rw c.in-MonitorMade.is at c.requires.asked.1)).1

pub returns-in-MonitorMade-clause-follows : goal.returns-in-MonitorMade-clause-follows
returns-in-MonitorMade-clause-follows g c =
    let files = names_in c.args.order.now.files in
    let asked = rw c.in-MonitorMade.is at c.requires.asked.1 in
    let one = one_name files (asked_one c.requires.asked.0 files c.in-MonitorMade.count c.in-MonitorMade.lengths c.in-MonitorMade.drop asked).0 in
    rw (c.in-MonitorMade.is, one, ← c.name-specs.ensures) c.monitor_made.ensures.follows
