use Rattle.std.proofs.Common.{◌≡◌, map, sym, ◌∙◌, ℕ, false, List, subst, arith}
use Rattle.std.specs.List.{list_any}
use Rattle.std.proofs.lemmas.List.{take_all}
use Rattle.hy_formula.specs.declared.atom.Atom.{Atom}
use Rattle.hy_formula.specs.Atoms.{plain_atom, is_atom}
use Rattle.fin_monitor.specs.Lefts.{IsAtomMask}
use Rattle.fin_monitor.proofs.CodeBits.{mask-past, small-power}
use Rattle.fin_monitor.proofs.AtomLists.{atom-mask}
use Rattle.fin_monitor.proofs.atoms.mask_of.Goals as goal

pub returns-then-eq : goal.returns-then-eq
returns-then-eq c =
    let P : ℕ → Type 0 = IsAtomMask (map plain_atom c.args.atoms.now) c.args.a.name c.args.a.var in
    subst P (sym (small-power c.loop-i.i (omega arith)))
    (atom-mask c.args.atoms.now c.args.a c.loop-i.i c.index-atoms-i.result c.loop-i-test.true c.index-atoms-i.is (sym c.eq.ensures ∙ c.if-eq.true) c.loop-i.invariant)

pub returns : goal.returns
returns c =
    let P : List Atom → Type 0 = λ l. list_any (is_atom c.args.a.name c.args.a.var) (map plain_atom l) ≡ false in
    mask-past (map plain_atom c.args.atoms.now) c.args.a.name c.args.a.var 0 (subst P (take_all c.loop-i.i c.args.atoms.now (omega arith)) c.loop-i.invariant)
