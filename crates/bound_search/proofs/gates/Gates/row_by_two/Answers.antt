use Rattle.std.proofs.lemmas.Result.{IfOk-weaker}
use Rattle.bound_search.proofs.Making.{weak-drawn}
use Rattle.bound_search.proofs.gates.Gates.row_by_two.Goals as goal

pub returns-in_ok-one-in-Weak-clause-drawn : goal.returns-in_ok-one-in-Weak-clause-drawn
returns-in_ok-one-in-Weak-clause-drawn c =
    rw c.in-Weak.is (IfOk-weaker c.release_row-in-Weak.result _ _ (λ row h.
    weak-drawn c.args.s _ _ _ row _ _ _ c.in_ok-one-in-Weak.ensures.drawn h)
    c.release_row-in-Weak.ensures.drawn)
