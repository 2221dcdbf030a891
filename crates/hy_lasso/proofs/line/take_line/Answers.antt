use Rattle.std.proofs.Common.{◌≡◌, Option, true, false, IsTrue, subst}
use Rattle.hy_bits.specs.Letter.{Letter}
use Rattle.hy_formula.specs.Lassos.{Lasso}
use Rattle.hy_lasso.specs.LassoLines.{IsLassoSaid}
use Rattle.hy_lasso.proofs.line.take_line.Goals as goal

-- no text
pub returns-in_default : goal.returns-in_default
returns-in_default c =
    let P : Option (Lasso Letter) → Type 0 = IsLassoSaid c.args.names.now c.args.line.now in
    record {
      speaks = λ nothing.
          let clash : false ≡ true = subst IsTrue c.if-says_nothing.false
          (c.says_nothing.ensures.1 nothing) in
          cc;
      none = subst P c.in_default.is c.in_ok-lasso.ensures;
    }
