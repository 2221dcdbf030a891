use Rattle.ea_tool.specs.declared.verdict.Question.TheVariants.{Find}
use Rattle.ea_tool.proofs.Asking.{finds_of, named}
use Rattle.ea_tool.proofs.words.finding.Goals as goal

pub returns-in-None-None-None-None-None-None-false-clause-some : goal.returns-in-None-None-None-None-None-None-false-clause-some
returns-in-None-None-None-None-None-None-false-clause-some c = λ items tells.
    let w = c.in-None-None-None-None-None-None-false in
    named items (Find c.args.bound c.in_ok-conflicts.conflicts) _ _ c.one.ensures
    (finds_of items c.args.found.now tells c.args.formula.now c.requires.file c.args.bound c.requires.bounded c.requires.range
    c.value-on.result c.value-implies.result c.value-equivalent.result c.value-states.result c.value-ic3.result c.value-depth.result c.value.result
    c.value-on.ensures w.is-0 c.value-implies.ensures w.is-1 c.value-equivalent.ensures w.is-2 c.value-states.ensures w.is-3
    c.value-ic3.ensures w.is-4 c.value-depth.ensures w.is-5 c.value.ensures _ c.in_ok-conflicts.ensures.some w.ensures)
