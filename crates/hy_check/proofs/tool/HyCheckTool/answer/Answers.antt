use Rattle.std.proofs.Common.{ap}
use Rattle.hy_run.specs.Names.{names_in}
use Rattle.hy_check.specs.Words.{file_count}
use Rattle.hy_check.proofs.Named.{of_files, three_named, two_named}
use Rattle.hy_check.proofs.tool.HyCheckTool.answer.Goals as goal

pub returns-in-Formula-clause-follows : goal.returns-in-Formula-clause-follows
returns-in-Formula-clause-follows g c =
    let order = c.args.order.now in
    of_files g.S.Shelf _ _ _ order.question _ (names_in order.files) _ _ c.in-Formula.is
    (two_named c.requires.asked.0 (names_in order.files) order.question c.requires.asked.1 (ap file_count c.in-Formula.is)
    c.name-first.result.now c.name-second.result.now c.name-first.ensures c.name-second.ensures)
    c.judge_formula.ensures.follows

pub returns-in-Implication-clause-follows : goal.returns-in-Implication-clause-follows
returns-in-Implication-clause-follows g c =
    let order = c.args.order.now in
    of_files g.S.Shelf _ _ _ order.question _ (names_in order.files) _ _ c.in-Implication.is
    (three_named c.requires.asked.0 (names_in order.files) order.question c.requires.asked.1 (ap file_count c.in-Implication.is)
    c.name-first.result.now c.name-second.result.now c.name-third.result.now c.name-first.ensures c.name-second.ensures c.name-third.ensures)
    c.judge_two.ensures.follows

pub returns-in-Equivalence-clause-follows : goal.returns-in-Equivalence-clause-follows
returns-in-Equivalence-clause-follows g c =
    let order = c.args.order.now in
    of_files g.S.Shelf _ _ _ order.question _ (names_in order.files) _ _ c.in-Equivalence.is
    (three_named c.requires.asked.0 (names_in order.files) order.question c.requires.asked.1 (ap file_count c.in-Equivalence.is)
    c.name-first.result.now c.name-second.result.now c.name-third.result.now c.name-first.ensures c.name-second.ensures c.name-third.ensures)
    c.judge_two-in-Equivalence.ensures.follows

pub returns-in-Circuit-clause-follows : goal.returns-in-Circuit-clause-follows
returns-in-Circuit-clause-follows g c =
    let order = c.args.order.now in
    of_files g.S.Shelf _ _ _ order.question _ (names_in order.files) _ _ c.in-Circuit.is
    (three_named c.requires.asked.0 (names_in order.files) order.question c.requires.asked.1 (ap file_count c.in-Circuit.is)
    c.name-first.result.now c.name-second.result.now c.name-third.result.now c.name-first.ensures c.name-second.ensures c.name-third.ensures)
    c.judge_circuit.ensures.follows
