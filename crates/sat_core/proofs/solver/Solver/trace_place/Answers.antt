use Rattle.std.proofs.Common.{◌≡◌, ◌-◌, ℕ, [], get_or, arith, ◌∙◌, subst}
use Rattle.std.proofs.lemmas.List.{get_or_default}
use Rattle.sat_core.specs.Analyses.{AreMarked}
use Rattle.sat_core.proofs.Forcing.{traced-caused}
use Rattle.sat_core.proofs.solver.Solver.trace_place.Goals as goal

pub returns-then-number-gt0-clause-traced : goal.returns-then-number-gt0-clause-traced
returns-then-number-gt0-clause-traced c l =
    let its : c.index-number.result.now ≡ get_or c.args.self.now.reasons.items c.args.p 0 =
    c.index-number.ensures ∙ get_or_default c.args.self.now.reasons.items c.args.p
    c.index-number.result.now 0 (omega (arith, c.requires.inside, c.requires.ready.trail.long)) in
    let P : ℕ → Type 0 = λ k. AreMarked c.args.self.now.partial.literals c.args.p
    c.mark_reason.new.seen (get_or c.args.self.now.clauses (k - 1) []) in
    traced-caused c.args.self.now c.args.seen.now c.mark_reason.new.seen c.args.p l
    c.requires.ready c.requires.inside (omega (arith, its, c.if-number-gt0.true))
    c.mark_reason.ensures.more (subst P its c.mark_reason.ensures.marked)
