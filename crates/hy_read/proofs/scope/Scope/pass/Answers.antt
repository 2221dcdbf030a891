use Rattle.std.proofs.Common.{not, sym, ap, ◌∙◌}
use Rattle.hy_read.specs.Scans.{plain, span_of}
use Rattle.hy_read.specs.Scopes.{variables_of}
use Rattle.hy_read.proofs.Passing.{pass_free}
use Rattle.hy_read.proofs.scope.Scope.pass.Goals as goal

pub returns-then-not-binds : goal.returns-then-not-binds
returns-then-not-binds c = λ front before.
    pass_free front (span_of c.args.next) (variables_of c.args.self.now) c.args.self.now.unbound c.in-Atom.name.now c.in-Atom.variable.now (ap plain c.in-Atom.is) (ap not c.if-is_none.ensures) (sym c.binds.ensures ∙ c.if-not-binds.true) before
