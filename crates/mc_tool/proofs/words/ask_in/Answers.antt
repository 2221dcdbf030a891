use Rattle.std.proofs.Common.{rules}
use Rattle.mc_tool.proofs.Asking.{no_calls, no_conflicts, no_depth, tries_of}
use Rattle.mc_tool.proofs.words.ask_in.Goals as goal

pub returns-in_err-calls-clause-none : goal.returns-in_err-calls-clause-none
returns-in_err-calls-clause-none c =
    rw c.from_residual.ensures
    (λ items ask tells. no_calls items c.args.found.now tells c.value.result c.value.ensures c.in_err-calls.ensures.none ask)

pub returns-in_err-depth-clause-none : goal.returns-in_err-depth-clause-none
returns-in_err-depth-clause-none c =
    rw c.from_residual-in_err-depth.ensures
    (λ items ask tells. no_depth items c.args.found.now tells c.value.result c.value.ensures c.in_ok-calls.calls c.in_ok-calls.ensures.some
    c.value-2.result c.value-2.ensures _ c.usual_depth.ensures c.in_err-depth.ensures.none ask)

pub returns-in_err-conflicts-clause-none : goal.returns-in_err-conflicts-clause-none
returns-in_err-conflicts-clause-none c =
    rw c.from_residual-in_err-conflicts.ensures
    (λ items ask tells. no_conflicts items c.args.found.now tells c.value-3.result c.value-3.ensures c.in_err-conflicts.ensures.none ask)

pub returns-clause-some : goal.returns-clause-some
returns-clause-some c =
    λ items tells. tries_of items c.args.found.now tells c.value.result c.value.ensures c.in_ok-calls.calls c.in_ok-calls.ensures.some c.value-2.result c.value-2.ensures
    _ c.usual_depth.ensures c.in_ok-depth.depth c.in_ok-depth.ensures.some c.value-3.result c.value-3.ensures c.in_ok-conflicts.conflicts c.in_ok-conflicts.ensures.some
    c.has-plain.result c.has-plain.ensures (search rules)
