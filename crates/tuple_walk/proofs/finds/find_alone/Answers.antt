use Rattle.std.proofs.Common.{◌-◌, arith}
use Rattle.tuple_walk.specs.Counted.{machine_on}
use Rattle.trace_trie.specs.Numbered.{Numbered}
use Rattle.tuple_walk.proofs.Starting.{lone-search, lone-most}
use Rattle.tuple_walk.proofs.finds.find_alone.Goals as goal

pub returns-clause-found : goal.returns-clause-found
returns-clause-found g c =
    let x : Numbered = (c.args.number, c.args.trace.now) in
    (lone-search (machine_on c.args.monitor) c.args.monitor.monitor.now.right c.args.lengths x
    c.requires.some c.requires.short c.requires.one c.follow_trace.result
    c.follow_trace.ensures.searched).0

pub returns-clause-given : goal.returns-clause-given
returns-clause-given g c =
    let x : Numbered = (c.args.number, c.args.trace.now) in
    (lone-search (machine_on c.args.monitor) c.args.monitor.monitor.now.right c.args.lengths x
    c.requires.some c.requires.short c.requires.one c.follow_trace.result
    c.follow_trace.ensures.searched).1

pub returns-clause-none : goal.returns-clause-none
returns-clause-none g c =
    let x : Numbered = (c.args.number, c.args.trace.now) in
    (lone-search (machine_on c.args.monitor) c.args.monitor.monitor.now.right c.args.lengths x
    c.requires.some c.requires.short c.requires.one c.follow_trace.result
    c.follow_trace.ensures.searched).2

pub returns-clause-bounded : goal.returns-clause-bounded
returns-clause-bounded g c = λ prefixes all.
    let x : Numbered = (c.args.number, c.args.trace.now) in
    let most = lone-most (machine_on c.args.monitor) c.args.monitor.monitor.now.right c.args.lengths x
    c.requires.some c.requires.short c.requires.one
    (c.follow_trace.new.steps - c.args.steps.now) c.follow_trace.ensures.counted prefixes all in
    omega (arith, most, c.follow_trace.ensures.steps)
