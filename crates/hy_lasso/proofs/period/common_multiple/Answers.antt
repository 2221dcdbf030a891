use Rattle.std.proofs.Common.{◌≡◌, suc, ◌%◌, arith}
use Rattle.hy_lasso.proofs.Periods.{multiple-zero, multiple-next}
use Rattle.hy_lasso.proofs.period.common_multiple.Goals as goal

pub returns-then-multiple-n-eq0 : goal.returns-then-multiple-n-eq0
returns-then-multiple-n-eq0 c =
    let (k, e) = c.loop-multiple.invariant.0 in
    let here : c.loop-multiple.multiple % c.args.n ≡ 0 = omega (arith, c.if-multiple-n-eq0.true) in (
      record {
        common = record { some = omega (arith, e, c.requires.first); first = (suc k, e); second = multiple-zero _ _ here };
        least = c.loop-multiple.invariant.1;
      },
      omega (arith, c.loop-multiple-test.true),
    )

pub loop-multiple-preserved : goal.loop-multiple-preserved
loop-multiple-preserved c =
    let (k, e) = c.loop-multiple.invariant.0 in (
      (suc k, omega (arith, e)),
      λ d common. multiple-next _ _ _ k d e (c.loop-multiple.invariant.1 d common) (λ zero. c.if-multiple-n-eq0.false zero) c.requires.second common,
    )

pub returns : goal.returns
returns c d common = let le = c.loop-multiple.invariant.1 d common in omega (arith, le, c.loop-multiple-test.false)
