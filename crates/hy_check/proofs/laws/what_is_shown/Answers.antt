use Rattle.std.proofs.Common.{[], ◌∷◌, false, arith}
use Rattle.hy_check.proofs.Showing.{is_accepted, is_rejected}
use Rattle.hy_check.proofs.laws.what_is_shown.Goals as goal

pub returns-clause-accepted : goal.returns-clause-accepted
returns-clause-accepted g c words old new text comes =
    is_accepted c.text_is_net.ensures
    (λ quantifiers names bytes f table is.
    c.formulas_are_over_names.ensures false quantifiers names bytes (f ∷ []) table is 0 f (omega arith))
    c.truth_of_formulas.ensures.formula c.truth_of_formulas.ensures.implication
    c.truth_of_formulas.ensures.equivalence c.truth_of_circuits.ensures g.S.Shelf words old new text comes

pub returns-clause-rejected : goal.returns-clause-rejected
returns-clause-rejected g c words old new text comes = is_rejected g.S.Shelf words old new text comes
