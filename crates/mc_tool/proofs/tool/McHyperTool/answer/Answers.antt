use Rattle.std.proofs.Common.{refl}
use Rattle.hy_files.specs.ErrorLines.{name_of_file}
use Rattle.hy_run.specs.Names.{names_in}
use Rattle.mc_tool.proofs.Asking.{few_conflicts, files_named}
use Rattle.mc_tool.proofs.Checking.{few_quantifiers}
use Rattle.mc_tool.proofs.Following.{check_follows, drive_follows, ends_at_circuit, ends_at_formula, ends_at_strategy}
use Rattle.mc_tool.proofs.tool.McHyperTool.answer.Goals as goal

pub returns-in-Err-clause-follows : goal.returns-in-Err-clause-follows
returns-in-Err-clause-follows g c =
    let files = names_in c.args.order.now.files in
    let are = files_named c.requires.asked.0 c.args.order.now.question files c.requires.asked.1 c.name.result.now (name_of_file files 1) c.name.ensures refl in
    rw c.file_refusal.ensures (ends_at_circuit g.S.Shelf _ _ _ _ _ files are _ _ c.in-Err.fault c.in-Err.ensures.failed)

pub returns-in-Err-formula_in-clause-follows : goal.returns-in-Err-formula_in-clause-follows
returns-in-Err-formula_in-clause-follows g c =
    let files = names_in c.args.order.now.files in
    let are = files_named c.requires.asked.0 c.args.order.now.question files c.requires.asked.1 c.name.result.now c.name-2.result.now c.name.ensures c.name-2.ensures in
    rw c.file_refusal-in-Err-formula_in.ensures
    (ends_at_formula g.S.Shelf _ _ _ _ _ _ c.in-Ok.net c.in-Ok.ensures.taken files are _ _ c.in-Err-formula_in.fault
    (rw c.requires.empty at c.in-Err-formula_in.ensures.failed))

pub check-requires-clause-conflicts : goal.check-requires-clause-conflicts
check-requires-clause-conflicts g c =
    rw c.in-Check.is at (few_conflicts c.requires.asked.0 c.args.order.now.question (names_in c.args.order.now.files) c.requires.asked.1)

pub check-requires-clause-quantifiers : goal.check-requires-clause-quantifiers
check-requires-clause-quantifiers g c = few_quantifiers _ _ _ _ c.in-Ok-formula_in.ensures.taken.is

pub returns-in-Check-clause-follows : goal.returns-in-Check-clause-follows
returns-in-Check-clause-follows g c =
    let files = names_in c.args.order.now.files in
    let are = files_named c.requires.asked.0 c.args.order.now.question files c.requires.asked.1 c.name.result.now c.name-2.result.now c.name.ensures c.name-2.ensures in
    rw c.in-Check.is
    (check_follows g.S.Shelf _ _ _ _ _ c.in-Ok.net c.in-Ok.ensures.taken _ _ (rw c.requires.empty at c.in-Ok-formula_in.ensures.taken) c.in-Check.ask _
    files (rw c.in-Check.is at are) _ c.check.ensures)

pub check_by_strategy-requires-clause-conflicts : goal.check_by_strategy-requires-clause-conflicts
check_by_strategy-requires-clause-conflicts g c =
    rw c.in-CheckByStrategy.is at (few_conflicts c.requires.asked.0 c.args.order.now.question (names_in c.args.order.now.files) c.requires.asked.1)

pub check_by_strategy-requires-clause-quantifiers : goal.check_by_strategy-requires-clause-quantifiers
check_by_strategy-requires-clause-quantifiers g c = few_quantifiers _ _ _ _ c.in-Ok-formula_in.ensures.taken.is

pub returns-in-Ok-circuit_in-clause-follows : goal.returns-in-Ok-circuit_in-clause-follows
returns-in-Ok-circuit_in-clause-follows g c =
    let files = names_in c.args.order.now.files in
    let are = files_named c.requires.asked.0 c.args.order.now.question files c.requires.asked.1 c.name.result.now c.name-2.result.now c.name.ensures c.name-2.ensures in
    rw c.in-CheckByStrategy.is
    (drive_follows g.S.Shelf _ _ _ _ _ c.in-Ok.net c.in-Ok.ensures.taken _ _ (rw c.requires.empty at c.in-Ok-formula_in.ensures.taken) c.in-CheckByStrategy.ask
    _ c.name-in-CheckByStrategy.result.now files (rw c.name-in-CheckByStrategy.ensures (rw c.in-CheckByStrategy.is at are)) c.in-Ok-circuit_in.strategy c.in-Ok-circuit_in.ensures.taken _
    c.check_by_strategy.ensures)

pub returns-clause-follows : goal.returns-clause-follows
returns-clause-follows g c =
    let files = names_in c.args.order.now.files in
    let are = files_named c.requires.asked.0 c.args.order.now.question files c.requires.asked.1 c.name.result.now c.name-2.result.now c.name.ensures c.name-2.ensures in
    rw (c.in-CheckByStrategy.is, c.file_refusal-in-Err-circuit_in.ensures)
    (ends_at_strategy g.S.Shelf _ _ _ _ _ c.in-Ok.net c.in-Ok.ensures.taken _ _ (rw c.requires.empty at c.in-Ok-formula_in.ensures.taken) c.in-CheckByStrategy.ask
    _ c.name-in-CheckByStrategy.result.now files (rw c.name-in-CheckByStrategy.ensures (rw c.in-CheckByStrategy.is at are)) _ c.in-Err-circuit_in.fault c.in-Err-circuit_in.ensures.failed)
