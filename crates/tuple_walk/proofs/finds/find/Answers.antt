use Rattle.std.proofs.Common.{◌-◌, arith}
use Rattle.trace_trie.specs.Numbered.{Numbered}
use Rattle.tuple_walk.specs.Counted.{machine_on}
use Rattle.tuple_walk.specs.Serving.{sought_of}
use Rattle.tuple_walk.proofs.Starting.{copies-ready, found-violating, found-given, none-meets, joint-most}
use Rattle.tuple_walk.proofs.finds.find.Goals as goal

pub search_version-requires-clause-ready : goal.search_version-requires-clause-ready
search_version-requires-clause-ready g c =
    let x : Numbered = (c.args.number, c.args.trace.now) in
    copies-ready (sought_of c.first-given.result) c.args.version.now x (machine_on c.args.monitor).variables
    c.first-given.ensures.given c.requires.member c.requires.some
    (c.first-given.ensures.all 0 (omega (arith, c.vars.ensures.vars, c.requires.some)) (omega arith))

pub returns-clause-found : goal.returns-clause-found
returns-clause-found g c =
    let x : Numbered = (c.args.number, c.args.trace.now) in
    found-violating (machine_on c.args.monitor) c.args.monitor.monitor.now.right c.requires.some
    c.args.lengths c.args.version.now c.numbers_ascend.ensures.traces (sought_of c.first-given.result) x
    c.first-given.ensures.given c.search_version.result c.search_version.ensures.searched

pub returns-clause-given : goal.returns-clause-given
returns-clause-given g c =
    let x : Numbered = (c.args.number, c.args.trace.now) in
    found-given (machine_on c.args.monitor) c.args.monitor.monitor.now.right c.requires.some
    c.args.lengths c.args.version.now c.numbers_ascend.ensures.traces (sought_of c.first-given.result) x
    c.first-given.ensures.given c.search_version.result c.search_version.ensures.searched

pub returns-clause-none : goal.returns-clause-none
returns-clause-none g c =
    let x : Numbered = (c.args.number, c.args.trace.now) in
    none-meets (machine_on c.args.monitor) c.args.monitor.monitor.now.right c.requires.some
    c.args.lengths c.args.version.now c.numbers_ascend.ensures.traces (sought_of c.first-given.result) x
    c.first-given.ensures.given
    (λ i lt. c.first-given.ensures.all i (omega (arith, lt, c.vars.ensures.vars))
    (omega (arith, lt, c.vars.ensures.vars, c.vars.ensures.few)))
    c.search_version.result c.search_version.ensures.searched

pub returns-clause-bounded : goal.returns-clause-bounded
returns-clause-bounded g c = λ prefixes all.
    let x : Numbered = (c.args.number, c.args.trace.now) in
    let most = joint-most (machine_on c.args.monitor) c.args.monitor.monitor.now.right c.requires.some
    c.args.lengths c.args.version.now c.numbers_ascend.ensures.traces (sought_of c.first-given.result) x
    c.first-given.ensures.given (c.search_version.new.steps - c.args.steps.now)
    c.search_version.ensures.counted prefixes all in
    omega (arith, most, c.search_version.ensures.steps)
