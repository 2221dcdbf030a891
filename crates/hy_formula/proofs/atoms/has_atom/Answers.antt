use Rattle.std.proofs.Common.{sym, ◌∙◌}
use Rattle.hy_formula.proofs.AtomLists.{atom-known}
use Rattle.hy_formula.proofs.atoms.has_atom.Goals as goal

pub returns-then-eq : goal.returns-then-eq
returns-then-eq c = sym (atom-known c.args.atoms.now c.args.a c.loop-known.known-index c.known-item.result c.loop-known-test.true c.known-item.is (sym c.eq.ensures ∙ c.if-eq.true))
