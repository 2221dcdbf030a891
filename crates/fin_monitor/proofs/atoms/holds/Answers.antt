use Rattle.std.proofs.Common.{◌≡◌, map, sym, ap, ◌∙◌, nat_eq, false, List, subst, arith}
use Rattle.std.specs.List.{list_any}
use Rattle.std.proofs.lemmas.List.{take_all}
use Rattle.std.proofs.lemmas.Nat.Bits.{shr_and_one}
use Rattle.hy_formula.specs.declared.atom.Atom.{Atom}
use Rattle.hy_formula.specs.Atoms.{plain_atom, is_atom}
use Rattle.fin_monitor.proofs.CodeBits.{letter-past}
use Rattle.fin_monitor.proofs.AtomLists.{atom-bit}
use Rattle.fin_monitor.proofs.atoms.holds.Goals as goal

pub returns-then-eq : goal.returns-then-eq
returns-then-eq c =
    ap (λ x. nat_eq x 1) (shr_and_one c.args.code c.loop-i.i)
    ∙ sym (atom-bit c.args.atoms.now c.args.a c.loop-i.i c.index-atoms-i.result c.loop-i-test.true c.index-atoms-i.is (sym c.eq.ensures ∙ c.if-eq.true) c.loop-i.invariant c.args.code)

pub returns : goal.returns
returns c =
    let P : List Atom → Type 0 = λ l. list_any (is_atom c.args.a.name c.args.a.var) (map plain_atom l) ≡ false in
    sym (letter-past 0 (map plain_atom c.args.atoms.now) c.args.code c.args.a.name c.args.a.var (subst P (take_all c.loop-i.i c.args.atoms.now (omega arith)) c.loop-i.invariant))
