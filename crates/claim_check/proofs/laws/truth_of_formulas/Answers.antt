use Rattle.std.proofs.Common.{inl, inr, refl}
use Rattle.rank_proofs.specs.Proofs.{plain_proof}
use Rattle.claim_check.specs.Good.{plan_against, reduction}
use Rattle.claim_check.proofs.TrueFormulas.{equivalence-true, formula-true, implication-true, refuting}
use Rattle.claim_check.proofs.laws.truth_of_formulas.Goals as goal

pub returns-clause-formula : goal.returns-clause-formula
returns-clause-formula c names f cert bound taken good =
    let plan = reduction f in
    let reduced = c.formulas_are_reduced.ensures plan (inl (f.prefix, f.body, refl)) in
    formula-true names f (c.reducing.ensures.exactly f.prefix f.body bound taken)
    (refuting plan reduced c.paths_are_lassos.ensures.latches
    (c.paths_fulfil.ensures.exactly plan reduced).0 c.induction_proof.ensures
    (λ proof. c.refuting.ensures.plans plan (plain_proof proof))) cert good

pub returns-clause-implication : goal.returns-clause-implication
returns-clause-implication c names f g cert bound below one two good =
    let plan = plan_against f g in
    let reduced =
    c.formulas_are_reduced.ensures plan (inr (f.prefix, f.body, g.prefix, g.body, refl)) in
    implication-true names f g
    (λ h list are. c.negating.ensures.decided list are h.prefix h.body)
    (c.implying.ensures.exactly f.prefix f.body g.prefix g.body bound below one two)
    (refuting plan reduced c.paths_are_lassos.ensures.latches
    (c.paths_fulfil.ensures.exactly plan reduced).0 c.induction_proof.ensures
    (λ proof. c.refuting.ensures.plans plan (plain_proof proof))) cert good

pub returns-clause-equivalence : goal.returns-clause-equivalence
returns-clause-equivalence c names f g cert bound below one two good =
    let there = plan_against f g in
    let back = plan_against g f in
    let reduced =
    c.formulas_are_reduced.ensures there (inr (f.prefix, f.body, g.prefix, g.body, refl)) in
    let also =
    c.formulas_are_reduced.ensures back (inr (g.prefix, g.body, f.prefix, f.body, refl)) in
    equivalence-true names f g
    (λ h list are. c.negating.ensures.decided list are h.prefix h.body)
    (c.implying.ensures.exactly f.prefix f.body g.prefix g.body bound below one two)
    (refuting there reduced c.paths_are_lassos.ensures.latches
    (c.paths_fulfil.ensures.exactly there reduced).0 c.induction_proof.ensures
    (λ proof. c.refuting.ensures.plans there (plain_proof proof)))
    (c.implying.ensures.exactly g.prefix g.body f.prefix f.body below bound two one)
    (refuting back also c.paths_are_lassos.ensures.latches
    (c.paths_fulfil.ensures.exactly back also).0 c.induction_proof.ensures
    (λ proof. c.refuting.ensures.plans back (plain_proof proof))) cert good
