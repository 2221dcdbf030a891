use Rattle.std.proofs.Common.{◌<◌, ◌^◌, ◌&&◌, ℕ, nat_eq, length, map, sym, ◌∙◌, subst, arith}
use Rattle.std.specs.FinSet.{contains}
use Rattle.hy_formula.specs.Atoms.{plain_atom}
use Rattle.fin_monitor.specs.Seen.{machine_of}
use Rattle.fin_monitor.proofs.CodeBits.{code-lt, small-code}
use Rattle.fin_monitor.proofs.Naming.{past-none}
use Rattle.fin_monitor.proofs.monitor.Monitor.part.Goals as goal

pub returns-then-var-self : goal.returns-then-var-self
returns-then-var-self c =
    let none = past-none (machine_of c.args.self.now) c.args.self.now.right c.args.var (omega arith) c.args.letter in
    let P : ℕ → Type 0 = λ n. n < 2 ^ length (map plain_atom c.args.self.now.atoms) in
    record { part = none; within = subst P (sym none) (code-lt (λ n v. nat_eq v c.args.var && contains c.args.letter n) (map plain_atom c.args.self.now.atoms)) }

pub of-requires : goal.of-requires
of-requires c =
    let is = c.args.self.now.by_variable.each c.args.var c.at.result.now c.at.ensures c.args.letter in
    omega (arith, is, small-code (λ n v. nat_eq v c.args.var && contains c.args.letter n) (map plain_atom c.args.self.now.atoms) 0 c.args.self.now.right.few_atoms)

pub returns : goal.returns
returns c =
    let made = c.of.ensures ∙ c.args.self.now.by_variable.each c.args.var c.at.result.now c.at.ensures c.args.letter in
    let P : ℕ → Type 0 = λ n. n < 2 ^ length (map plain_atom c.args.self.now.atoms) in
    record { part = made; within = subst P (sym made) (code-lt (λ n v. nat_eq v c.args.var && contains c.args.letter n) (map plain_atom c.args.self.now.atoms)) }
