use Rattle.std.proofs.Common.{◌≡◌, ◌<◌, length, get_or, ◌++◌, ◌∷◌, [], ap, ◌∙◌, arith}
use Rattle.std.proofs.lemmas.List.{get_or_default}
use Rattle.sat_core.proofs.Resolving.{reason-refutes}
use Rattle.sat_core.proofs.solver.Solver.resolve.Goals as goal

pub returns-clause-refuting : goal.returns-clause-refuting
returns-clause-refuting c kept before =
    let inside : c.args.p < length c.args.self.now.partial.literals =
    omega (arith, c.requires.is.below_end) in
    let its : c.index-number.result.now ≡ get_or c.args.self.now.reasons.items c.args.p 0 =
    c.index-number.ensures ∙ get_or_default c.args.self.now.reasons.items c.args.p
    c.index-number.result.now 0 (omega (arith, inside, c.requires.ready.trail.long)) in
    reason-refutes c.args.self.now c.args.p c.index-number.result.now kept
    c.args.analysis.now.seen c.mark.new.analysis.seen c.args.analysis.now.chain.items c.push.new.self.items
    c.requires.ready inside its (omega (arith, its, c.requires.implied))
    c.in_ok-mark.ensures.more c.in_ok-mark.ensures.marked
    (c.in_ok-push.ensures.items ∙ ap (λ xs. xs ++ c.index-number.result.now ∷ [])
    c.in_ok-mark.ensures.chain) before
