use Rattle.std.proofs.Common.{◌++◌, [], ap, ◌∙◌}
use Rattle.std.proofs.lemmas.Option.{IfSome_then}
use Rattle.trace_trie.specs.Newests.{waiting}
use Rattle.trace_trie.proofs.Waiting.{rest-list, rest-others}
use Rattle.trace_trie.proofs.version.Version.next.Goals as goal

pub returns-in-Some-clause-some : goal.returns-in-Some-clause-some
returns-in-Some-clause-some c =
    let (more, e) = c.in-Some.ensures.some in (
      more ++ waiting c.self.inside.newest,
      rest-list c.args.from c.deref.result.now (waiting c.self.inside.newest)
          (ap (λ l. l ++ waiting c.self.inside.newest) c.deref.ensures ∙ c.self.view_is)
          (c.in-Some.found.0, c.in-Some.found.1.now) more e,
    )

pub returns-in-None-clause-some : goal.returns-in-None-clause-some
returns-in-None-clause-some c =
    let same = rest-others c.args.from c.deref.result.now (waiting c.self.inside.newest)
    (ap (λ l. l ++ waiting c.self.inside.newest) c.deref.ensures ∙ c.self.view_is)
    c.in-None.ensures.none in
    IfSome_then c.next-in-None.result c.next-in-None.ensures.some (λ p e. ([], same ∙ e))

pub returns-in-None-clause-none : goal.returns-in-None-clause-none
returns-in-None-clause-none c =
    let same = rest-others c.args.from c.deref.result.now (waiting c.self.inside.newest)
    (ap (λ l. l ++ waiting c.self.inside.newest) c.deref.ensures ∙ c.self.view_is)
    c.in-None.ensures.none in
    rw same c.next-in-None.ensures.none
