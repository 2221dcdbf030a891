use Rattle.std.proofs.Common.{◌≡◌, rules}
use Rattle.hy_lasso.specs.Equal.{is_equal}
use Rattle.hy_lasso.proofs.Equality.{finds_equal}
use Rattle.hy_lasso.proofs.lasso.LassoPartialEq.eq.Goals as goal

pub returns-then-eq-clause-equal : goal.returns-then-eq-clause-equal
returns-then-eq-clause-equal c =
    let computed : c.eq-then-eq.result ≡ is_equal c.args.self.now c.args.other.now = search rules in
    finds_equal c.args.self.now c.args.other.now c.eq-then-eq.result computed

pub returns-else-eq-clause-equal : goal.returns-else-eq-clause-equal
returns-else-eq-clause-equal c =
    let computed : c.eq.result ≡ is_equal c.args.self.now c.args.other.now = search rules in
    finds_equal c.args.self.now c.args.other.now c.eq.result computed
