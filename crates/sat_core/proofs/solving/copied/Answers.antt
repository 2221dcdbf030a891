use Rattle.std.proofs.Common.{◌≡◌, List, length, sym, ap, subst, arith}
use Rattle.chain_check.specs.Clauses.{Clause, AreClauses}
use Rattle.sat_core.proofs.solving.copied.Goals as goal

pub invariant_of-result : goal.invariant_of-result
invariant_of-result c =
    let same : c.in_ok-copy.field-0 ≡ c.args.cnf.now.clauses = c.in_ok-copy.ensures in
    let P : List Clause → Type 0 = AreClauses c.args.cnf.now.variables in
    record {
      few_variables = c.args.cnf.now.few_variables;
      few_clauses = omega (arith, c.args.cnf.now.few_clauses, ap length same);
      right = subst P (sym same) c.args.cnf.now.right;
    }
