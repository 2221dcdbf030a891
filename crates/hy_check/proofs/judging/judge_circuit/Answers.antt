use Rattle.std.proofs.Common.{[], ◌∷◌, false, refl, arith}
use Rattle.hy_formula.specs.Formulas.{plain_formula}
use Rattle.hy_formula.specs.Trees.{tree_of}
use Rattle.cert_text.specs.declared.question.Question.TheVariants.{Circuit}
use Rattle.claim_check.specs.Claims.{circuit}
use Rattle.hy_run.proofs.Steps.{begin}
use Rattle.hy_check.specs.Rules.{check_rules}
use Rattle.hy_check.proofs.Following.{circuit_fails, circuit_passes, formula_fails, formula_passes, judged_ends, unread_ends}
use Rattle.hy_check.proofs.judging.judge_circuit.Goals as goal

pub returns-in-Err-clause-follows : goal.returns-in-Err-clause-follows
returns-in-Err-clause-follows g c =
    let one = c.args.circuit.now in
    let two = c.args.formula.now in
    let files = one ∷ two ∷ c.args.out.now ∷ [] in
    rw c.file_refusal.ensures
    (circuit_fails Circuit files g.S.Shelf _ _ one (two ∷ c.args.out.now ∷ []) [] [] (begin check_rules Circuit files g.S.Shelf _)
    refl _ _ c.in-Err.fault c.in-Err.ensures.failed)

pub returns-in-Err-formula_in-clause-follows : goal.returns-in-Err-formula_in-clause-follows
returns-in-Err-formula_in-clause-follows g c =
    let one = c.args.circuit.now in
    let two = c.args.formula.now in
    let files = one ∷ two ∷ c.args.out.now ∷ [] in
    let takes = c.in-Ok.ensures.taken in
    rw c.file_refusal-in-Err-formula_in.ensures
    (formula_fails Circuit files g.S.Shelf _ _ two (c.args.out.now ∷ []) (takes.bytes ∷ []) []
    (circuit_passes Circuit files g.S.Shelf _ _ one (two ∷ c.args.out.now ∷ []) [] [] (begin check_rules Circuit files g.S.Shelf _)
    refl _ c.in-Ok.net takes)
    4 refl _ _ c.in-Err-formula_in.fault (rw c.requires at c.in-Err-formula_in.ensures.failed))

pub judge-requires-clause-room : goal.judge-requires-clause-room
judge-requires-clause-room g c =
    let next = rw c.requires at c.in-Ok-formula_in.ensures.taken in
    let read = c.formulas_are_over_names.ensures false 4 [] next.bytes (plain_formula c.in-Ok-formula_in.formula ∷ []) c.formula_in.new.names next.is 0
    (plain_formula c.in-Ok-formula_in.formula) (omega arith) in
    c.circuits_have_room.ensures c.in-Ok.net c.formula_in.new.names c.in-Ok-formula_in.formula.prefix (tree_of c.in-Ok-formula_in.formula.body)
    c.in-Ok.ensures.variables c.in-Ok.ensures.literals (omega (arith, read.some)) read.few

pub returns-in-Ok-bytes_in-clause-follows : goal.returns-in-Ok-bytes_in-clause-follows
returns-in-Ok-bytes_in-clause-follows g c =
    let one = c.args.circuit.now in
    let two = c.args.formula.now in
    let files = one ∷ two ∷ c.args.out.now ∷ [] in
    let takes = c.in-Ok.ensures.taken in
    let next = rw c.requires at c.in-Ok-formula_in.ensures.taken in
    judged_ends Circuit files g.S.Shelf _ _ c.args.out.now (takes.bytes ∷ next.bytes ∷ []) _
    (formula_passes Circuit files g.S.Shelf _ _ two (c.args.out.now ∷ []) (takes.bytes ∷ []) []
    (circuit_passes Circuit files g.S.Shelf _ _ one (two ∷ c.args.out.now ∷ []) [] [] (begin check_rules Circuit files g.S.Shelf _)
    refl _ c.in-Ok.net takes)
    4 refl _ (plain_formula c.in-Ok-formula_in.formula) _ next)
    refl _ _ _ c.as_slice.ensures c.in-Ok-bytes_in.ensures.read (circuit c.in-Ok.net (plain_formula c.in-Ok-formula_in.formula))
    (takes.is, next.is) _ c.judge.ensures

pub returns-clause-follows : goal.returns-clause-follows
returns-clause-follows g c =
    let one = c.args.circuit.now in
    let two = c.args.formula.now in
    let files = one ∷ two ∷ c.args.out.now ∷ [] in
    let takes = c.in-Ok.ensures.taken in
    let next = rw c.requires at c.in-Ok-formula_in.ensures.taken in
    let (error, came, e) = c.in-Err-bytes_in.ensures.failed in
    rw c.file_refusal-in-Err-bytes_in.ensures
    (unread_ends Circuit files g.S.Shelf _ _ c.args.out.now [] (takes.bytes ∷ next.bytes ∷ []) _
    (formula_passes Circuit files g.S.Shelf _ _ two (c.args.out.now ∷ []) (takes.bytes ∷ []) []
    (circuit_passes Circuit files g.S.Shelf _ _ one (two ∷ c.args.out.now ∷ []) [] [] (begin check_rules Circuit files g.S.Shelf _)
    refl _ c.in-Ok.net takes)
    4 refl _ (plain_formula c.in-Ok-formula_in.formula) _ next)
    _ _ c.in-Err-bytes_in.fault error came e)
