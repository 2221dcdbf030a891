use Rattle.trace_trie.specs.Newests.{waiting}
use Rattle.trace_trie.proofs.Waiting.{with-list, with-others}
use Rattle.trace_trie.proofs.base.Base.get.Goals as goal

pub returns-in-Some-clause-some : goal.returns-in-Some-clause-some
returns-in-Some-clause-some c =
    with-list c.args.number c.self.inside.numbers (waiting c.self.inside.last) c.self.view_is c.in-Some.trace.now
    c.in-Some.ensures.some

pub returns-in-None-clause-some : goal.returns-in-None-clause-some
returns-in-None-clause-some c =
    let same = with-others c.args.number c.self.inside.numbers (waiting c.self.inside.last) c.self.view_is
    c.in-None.ensures.none in
    rw same c.get-in-None.ensures.some

pub returns-in-None-clause-none : goal.returns-in-None-clause-none
returns-in-None-clause-none c =
    let same = with-others c.args.number c.self.inside.numbers (waiting c.self.inside.last) c.self.view_is
    c.in-None.ensures.none in
    rw same c.get-in-None.ensures.none
