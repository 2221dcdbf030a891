use Rattle.std.proofs.Common.{◌≡◌, ◌+◌, ℕ, List, length, sym, ap, subst, arith}
use Rattle.ltl_closure.specs.Jobs.{IsIdentity}
use Rattle.ltl_closure.proofs.OneBody.{identity-more}
use Rattle.ltl_closure.proofs.closure.identity.Goals as goal

pub loop-variable-init : goal.loop-variable-init
loop-variable-init c =
    record { long = ap length c.new-map.ensures; same = λ v lt. absurd (omega arith) }

pub loop-variable-preserved : goal.loop-variable-preserved
loop-variable-preserved c =
    let P : List ℕ → Type 0 = λ l. IsIdentity l (c.loop-variable.variable + 1) in
    subst P (sym c.in_ok-push.ensures.added)
    (identity-more c.loop-variable.map c.loop-variable.variable c.loop-variable.invariant)

pub returns : goal.returns
returns c =
    let end : c.loop-variable.variable ≡ c.args.variables =
    omega (arith, c.loop-variable-test.false, c.loop-variable.auto.variable-end) in
    let P : ℕ → Type 0 = IsIdentity c.loop-variable.map in
    subst P end c.loop-variable.invariant
