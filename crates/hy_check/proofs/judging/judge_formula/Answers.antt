use Rattle.std.proofs.Common.{[], ◌∷◌, refl}
use Rattle.hy_formula.specs.Formulas.{plain_formula}
use Rattle.cert_text.specs.declared.question.Question.TheVariants.{Formula}
use Rattle.claim_check.specs.Claims.{formula}
use Rattle.hy_run.proofs.Steps.{begin}
use Rattle.hy_check.specs.Rules.{check_rules}
use Rattle.hy_check.proofs.Following.{formula_fails, formula_passes, judged_ends, unread_ends}
use Rattle.hy_check.proofs.judging.judge_formula.Goals as goal

pub returns-in-Err-clause-follows : goal.returns-in-Err-clause-follows
returns-in-Err-clause-follows g c =
    let files = c.args.formula.now ∷ c.args.out.now ∷ [] in
    rw c.file_refusal.ensures
    (formula_fails Formula files g.S.Shelf _ _ c.args.formula.now (c.args.out.now ∷ []) [] [] (begin check_rules Formula files g.S.Shelf _)
    8 refl _ _ c.in-Err.fault (rw c.requires at c.in-Err.ensures.failed))

pub returns-in-Ok-bytes_in-clause-follows : goal.returns-in-Ok-bytes_in-clause-follows
returns-in-Ok-bytes_in-clause-follows g c =
    let files = c.args.formula.now ∷ c.args.out.now ∷ [] in
    let takes = rw c.requires at c.in-Ok.ensures.taken in
    judged_ends Formula files g.S.Shelf _ _ c.args.out.now (takes.bytes ∷ []) _
    (formula_passes Formula files g.S.Shelf _ _ c.args.formula.now (c.args.out.now ∷ []) [] [] (begin check_rules Formula files g.S.Shelf _)
    8 refl _ (plain_formula c.in-Ok.formula) _ takes)
    refl _ _ _ c.as_slice.ensures c.in-Ok-bytes_in.ensures.read (formula (plain_formula c.in-Ok.formula)) takes.is _ c.judge.ensures

pub returns-clause-follows : goal.returns-clause-follows
returns-clause-follows g c =
    let files = c.args.formula.now ∷ c.args.out.now ∷ [] in
    let takes = rw c.requires at c.in-Ok.ensures.taken in
    let (error, came, e) = c.in-Err-bytes_in.ensures.failed in
    rw c.file_refusal-in-Err-bytes_in.ensures
    (unread_ends Formula files g.S.Shelf _ _ c.args.out.now [] (takes.bytes ∷ []) _
    (formula_passes Formula files g.S.Shelf _ _ c.args.formula.now (c.args.out.now ∷ []) [] [] (begin check_rules Formula files g.S.Shelf _)
    8 refl _ (plain_formula c.in-Ok.formula) _ takes)
    _ _ c.in-Err-bytes_in.fault error came e)
