use Rattle.std.proofs.Common.{List, map, ap, subst, arith}
use Rattle.std.proofs.lemmas.List.{take_all}
use Rattle.hy_formula.specs.declared.atom.Atom.{Atom}
use Rattle.hy_formula.specs.Atoms.{plain_atom}
use Rattle.fin_monitor.specs.Parts.{bits_of, AreNamesOf}
use Rattle.fin_monitor.proofs.Naming.{names-more}
use Rattle.fin_monitor.proofs.parts.names_of.Goals as goal

pub loop-i-init : goal.loop-i-init
loop-i-init c letter = ap (λ l. bits_of l letter) c.new-names.ensures

pub loop-i-preserved : goal.loop-i-preserved
loop-i-preserved c = names-more c.args.atoms.now c.loop-i.i c.args.var c.index-atoms-i.result c.loop-i.names c.add_name.new.names c.loop-i-test.true c.index-atoms-i.is c.loop-i.invariant c.in_ok-add_name.ensures

pub returns : goal.returns
returns c =
    let P : List Atom → Type 0 = λ l. AreNamesOf c.loop-i.names (map plain_atom l) c.args.var in
    subst P (take_all c.loop-i.i c.args.atoms.now (omega arith)) c.loop-i.invariant
