use Rattle.std.proofs.Common.{◌<◌, not, List, [], length, Some, None, ap, ◌∙◌, subst, arith}
use Rattle.hy_bits.specs.Letter.{Letter}
use Rattle.hy_formula.specs.Lassos as letters
use Rattle.hy_formula.specs.Trees.{tree_of}
use Rattle.aig_net.specs.declared.run.Run.{Run}
use Rattle.live_safe.specs.declared.safe_net.SafeNet.{SafeNet}
use Rattle.live_safe.specs.Paths.{IsBadPath}
use Rattle.formula_nets.specs.Posed.{is_existential}
use Rattle.mc_core.specs.Answers.{IsProved, answered}
use Rattle.mc_core.specs.Decisions.{HasNoBadPath, IsDecision}
use Rattle.mc_core.specs.declared.decision.Decision.{Decision}
use Rattle.mc_core.proofs.Verdicts.{goes-to-bad, met, path-answer, proof-answer}
use Rattle.mc_core.proofs.judging.judge.Goals as goal

pub returns-in-Safe-clause-checked : goal.returns-in-Safe-clause-checked
returns-in-Safe-clause-checked c =
    let some : 0 < length c.args.formula.now.prefix =
    (let a = c.len.ensures.len in let b = c.len.ensures.some in omega (arith, a, b)) in
    let D : Decision → Type 0 = IsDecision c.args.safe.now c.args.ask.now in
    let (is, good) = subst D c.in-Safe.is c.in_ok-proof.ensures.decided in
    let N : SafeNet → Type 0 = HasNoBadPath in
    let P : SafeNet → Type 0 = λ s. IsProved s c.args.ask.now c.in-Safe.proof in
    proof-answer c.args.net.now c.args.signals.now c.args.formula.now.prefix
    (tree_of c.args.formula.now.body) c.args.ask.now c.in-Safe.proof
    (c.paths_decide.ensures.none c.args.net.now c.args.signals.now c.args.formula.now.prefix
    (tree_of c.args.formula.now.body) c.variables.ensures.net c.requires.own some c.requires.small
    c.requires.taken (subst N c.requires.safe good))
    (subst P c.requires.safe is) c.answer.result
    (c.answer.ensures
    ∙ ap (λ b. answered (not b) c.new.result c.new-in-Safe.result (Some c.in-Safe.proof)) c.requires.kind
    ∙ ap (λ (t : List (letters.Lasso Letter)). answered (not (is_existential c.args.formula.now.prefix)) t
    c.new-in-Safe.result (Some c.in-Safe.proof)) c.new.ensures
    ∙ ap (λ (r : List Run). answered (not (is_existential c.args.formula.now.prefix)) [] r
    (Some c.in-Safe.proof)) c.new-in-Safe.ensures)

pub find_witnesses-requires-clause-path : goal.find_witnesses-requires-clause-path
find_witnesses-requires-clause-path c =
    goes-to-bad c.args.safe.now c.in-Path.path
    (met c.args.safe.now c.args.ask.now c.in_ok-proof.field-0 c.in-Path.path
    c.in_ok-proof.ensures.decided c.in-Path.is)

pub returns-in_ok-found-in-Path-clause-checked : goal.returns-in_ok-found-in-Path-clause-checked
returns-in_ok-found-in-Path-clause-checked c =
    let some : 0 < length c.args.formula.now.prefix =
    (let a = c.len.ensures.len in let b = c.len.ensures.some in omega (arith, a, b)) in
    let (word, bad, _, _) = met c.args.safe.now c.args.ask.now c.in_ok-proof.field-0 c.in-Path.path
    c.in_ok-proof.ensures.decided c.in-Path.is in
    let P : SafeNet → Type 0 = λ s. IsBadPath s (length c.in-Path.path.inputs) word in
    path-answer c.args.net.now c.args.signals.now c.args.formula.now.prefix
    (tree_of c.args.formula.now.body) c.args.ask.now
    (c.paths_decide.ensures.some c.args.net.now c.args.signals.now c.args.formula.now.prefix
    (tree_of c.args.formula.now.body) c.variables.ensures.net c.requires.own some c.requires.small
    c.requires.taken (length c.in-Path.path.inputs) word (subst P c.requires.safe bad))
    c.in_ok-found-in-Path.found.traces
    c.in_ok-found-in-Path.found.runs c.in_ok-found-in-Path.ensures
    c.answer-in-Path.result
    (c.answer-in-Path.ensures
    ∙ ap (λ b. answered b c.in_ok-found-in-Path.found.traces
    c.in_ok-found-in-Path.found.runs None) c.requires.kind)
