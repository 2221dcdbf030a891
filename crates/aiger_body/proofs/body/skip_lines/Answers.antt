use Rattle.std.proofs.Common.{◌≡◌, ◌+◌, ℕ, suc, length, subst, arith}
use Rattle.aiger_body.specs.Words.{IsPlace}
use Rattle.aiger_body.proofs.body.skip_lines.Goals as goal

pub loop-preserved : goal.loop-preserved
loop-preserved c =
    let q : suc c.loop.counter ≡ c.loop.counter + 1 = omega arith in
    let P : ℕ → Type 0 = λ k. IsPlace c.args.bytes.now k (c.loop.at + length c.line_at.result.now) in
    record { place = subst P q (c.line_at.ensures.next c.loop.counter c.loop.invariant.place); within = c.line_at.ensures.within }
