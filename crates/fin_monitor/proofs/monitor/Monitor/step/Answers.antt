use Rattle.std.proofs.Common.{◌≡◌, length, sym, ◌∙◌, map, arith}
use Rattle.std.proofs.lemmas.List.{length-map}
use Rattle.hy_formula.specs.Atoms.{plain_atom}
use Rattle.fin_monitor.specs.Seen.{machine_of}
use Rattle.fin_monitor.proofs.Places.{shifted-fits, shifted-inside, entry-is, entry-within}
use Rattle.fin_monitor.proofs.monitor.Monitor.step.Goals as goal

pub overflow_shl-q : goal.overflow_shl-q
overflow_shl-q g c = omega (arith, c.len.ensures, length-map c.args.self.now.atoms plain_atom, c.args.self.now.right.few_atoms)

pub overflow_add-q : goal.overflow_add-q
overflow_add-q g c =
    let bits : c.len.result ≡ length (map plain_atom c.args.self.now.atoms) = c.len.ensures ∙ sym (length-map c.args.self.now.atoms plain_atom) in
    omega (arith, shifted-fits (machine_of c.args.self.now) c.args.self.now.right c.args.q c.args.joint c.len.result bits c.requires.state c.requires.code)

pub at-requires : goal.at-requires
at-requires g c =
    let bits : c.len.result ≡ length (map plain_atom c.args.self.now.atoms) = c.len.ensures ∙ sym (length-map c.args.self.now.atoms plain_atom) in
    shifted-inside (machine_of c.args.self.now) c.args.self.now.right c.args.q c.args.joint c.len.result bits c.requires.state c.requires.code

pub returns-clause-next : goal.returns-clause-next
returns-clause-next g c =
    let bits : c.len.result ≡ length (map plain_atom c.args.self.now.atoms) = c.len.ensures ∙ sym (length-map c.args.self.now.atoms plain_atom) in
    entry-is (machine_of c.args.self.now) c.args.self.now.right c.args.q c.args.joint c.len.result bits c.requires.state c.requires.code c.at.result.now c.at.ensures

pub returns-clause-within : goal.returns-clause-within
returns-clause-within g c =
    let bits : c.len.result ≡ length (map plain_atom c.args.self.now.atoms) = c.len.ensures ∙ sym (length-map c.args.self.now.atoms plain_atom) in
    entry-within (machine_of c.args.self.now) c.args.self.now.right c.args.q c.args.joint c.len.result bits c.requires.state c.requires.code c.at.result.now c.at.ensures
