use Rattle.std.proofs.Common.{◌≡◌, ◌^◌, ℕ, List, map, sym, ap, ◌∙◌, subst, slice_index, true}
use Rattle.hy_formula.specs.Trees.{tree_of}
use Rattle.hy_formula.specs.declared.atom.Atom.{Atom}
use Rattle.hy_formula.specs.Atoms.{plain_atom}
use Rattle.ltl_closure.specs.Bodies.{body_root}
use Rattle.fin_monitor.specs.Limits.{IsRefusal}
use Rattle.fin_monitor.specs.Machines.{Machine}
use Rattle.fin_monitor.specs.Parts.{AreParts}
use Rattle.fin_monitor.specs.Tables.{IsTableOf, IsSettling}
use Rattle.fin_monitor.proofs.Making.{table-on, table-is, is-taken, made-monitor}
use Rattle.fin_monitor.proofs.Refusals.{err-on, closure-refused, atoms-refused}
use Rattle.fin_monitor.proofs.monitor.Monitor.build.Goals as goal

pub returns-in_err-closure-clause-refused : goal.returns-in_err-closure-clause-refused
returns-in_err-closure-clause-refused c =
    let body = tree_of c.args.body.now in
    err-on (IsRefusal body) c.from_residual.result c.in_err-closure.field-0.0 c.from_residual.ensures.1 (closure-refused body c.in_err-closure.field-0.0 c.in_err-closure.ensures.refused)

pub returns-in_err-atoms-clause-refused : goal.returns-in_err-atoms-clause-refused
returns-in_err-atoms-clause-refused c =
    let body = tree_of c.args.body.now in
    err-on (IsRefusal body) c.from_residual-in_err-atoms.result c.in_err-atoms.field-0.0 c.from_residual-in_err-atoms.ensures.1 (atoms-refused body c.in_ok-closure.ensures.few c.in_err-atoms.field-0.0 c.in_err-atoms.ensures.refused)

pub returns-in_err-found-clause-refused : goal.returns-in_err-found-clause-refused
returns-in_err-found-clause-refused c =
    let body = tree_of c.args.body.now in
    let root : c.root_of.result ≡ body_root body true = c.root_of.ensures.root ∙ ap (λ (l : List ℕ). slice_index l 0) c.in_ok-closure.ensures.roots in
    err-on (IsRefusal body) c.from_residual-in_err-found.result c.in_err-found.field-0.0 c.from_residual-in_err-found.ensures.1
    (table-on body c.in_ok-closure.closure.nodes c.root_of.result c.in_ok-atoms.atoms c.in_ok-closure.ensures.nodes root c.in_ok-atoms.ensures.atoms c.in_ok-atoms.ensures.few c.in_ok-closure.ensures.few c.in_err-found.field-0.0 c.in_err-found.ensures.refused)

pub settle-requires-clause-table : goal.settle-requires-clause-table
settle-requires-clause-table c =
    let body = tree_of c.args.body.now in
    let root : c.root_of.result ≡ body_root body true = c.root_of.ensures.root ∙ ap (λ (l : List ℕ). slice_index l 0) c.in_ok-closure.ensures.roots in
    let P : ℕ → Type 0 = λ n. IsTableOf c.in_ok-found.found (2 ^ n) in
    subst P (sym c.len.ensures) (table-is body c.in_ok-closure.closure.nodes c.root_of.result c.in_ok-atoms.atoms c.in_ok-closure.ensures.nodes root c.in_ok-atoms.ensures.atoms c.in_ok-atoms.ensures.few c.in_ok-found.found c.in_ok-found.ensures.automaton)

pub made-requires-clause-parts : goal.made-requires-clause-parts
made-requires-clause-parts c =
    let P : List Atom → Type 0 = λ l. AreParts c.in_ok-parts.parts (map plain_atom l) c.args.vars in
    subst P c.as_slice.ensures c.in_ok-parts.ensures

pub made-requires-clause-right : goal.made-requires-clause-right
made-requires-clause-right c =
    let body = tree_of c.args.body.now in
    let root : c.root_of.result ≡ body_root body true = c.root_of.ensures.root ∙ ap (λ (l : List ℕ). slice_index l 0) c.in_ok-closure.ensures.roots in
    let P : ℕ → Type 0 = λ n. IsSettling c.in_ok-found.found (2 ^ n) c.in_ok-automaton.automaton in
    made-monitor body c.in_ok-closure.closure.nodes c.root_of.result c.in_ok-atoms.atoms c.in_ok-closure.ensures.nodes root c.in_ok-atoms.ensures.atoms c.in_ok-atoms.ensures.few c.in_ok-found.found c.in_ok-found.ensures.automaton
    c.args.vars c.in_ok-automaton.automaton (tree_of c.in_ok-copy.field-0) c.requires.bound c.requires.few (subst P c.len.ensures c.in_ok-automaton.ensures) c.in_ok-copy.ensures

pub returns : goal.returns
returns c =
    let body = tree_of c.args.body.now in
    let root : c.root_of.result ≡ body_root body true = c.root_of.ensures.root ∙ ap (λ (l : List ℕ). slice_index l 0) c.in_ok-closure.ensures.roots in
    record {
      body = ap (λ (m : Machine). m.body) c.made.ensures ∙ c.in_ok-copy.ensures;
      vars = ap (λ (m : Machine). m.variables) c.made.ensures;
      right = c.made.result.right;
      taken = is-taken body c.in_ok-closure.closure.nodes c.root_of.result c.in_ok-atoms.atoms c.in_ok-closure.ensures.nodes root c.in_ok-atoms.ensures.atoms c.in_ok-atoms.ensures.few c.in_ok-found.found c.in_ok-found.ensures.automaton c.in_ok-closure.ensures.few;
      refused = tt;
    }
