use Rattle.std.proofs.Common.{[], ◌∷◌}
use Rattle.hy_formula.specs.Formulas.{plain_formula}
use Rattle.hy_run.proofs.Steps.{begin}
use Rattle.hy_check.specs.Rules.{check_rules}
use Rattle.hy_check.proofs.Following.{first_content, formula_fails, formula_passes, judged_ends, relation, second_content, third_content, two_make, unread_ends}
use Rattle.hy_check.proofs.judging.judge_two.Goals as goal

pub returns-in-Err-clause-follows : goal.returns-in-Err-clause-follows
returns-in-Err-clause-follows g c =
    let asked = relation c.args.both in
    let one = c.args.formulas.0.now in
    let two = c.args.formulas.1.now in
    let files = one ∷ two ∷ c.args.out.now ∷ [] in
    rw c.file_refusal.ensures
    (formula_fails asked files g.S.Shelf _ _ one (two ∷ c.args.out.now ∷ []) [] [] (begin check_rules asked files g.S.Shelf _)
    8 (first_content c.args.both) _ _ c.in-Err.fault (rw c.requires at c.in-Err.ensures.failed))

pub returns-in-Err-formula_in-clause-follows : goal.returns-in-Err-formula_in-clause-follows
returns-in-Err-formula_in-clause-follows g c =
    let asked = relation c.args.both in
    let one = c.args.formulas.0.now in
    let two = c.args.formulas.1.now in
    let files = one ∷ two ∷ c.args.out.now ∷ [] in
    let takes = rw c.requires at c.in-Ok.ensures.taken in
    rw c.file_refusal-in-Err-formula_in.ensures
    (formula_fails asked files g.S.Shelf _ _ two (c.args.out.now ∷ []) (takes.bytes ∷ []) _
    (formula_passes asked files g.S.Shelf _ _ one (two ∷ c.args.out.now ∷ []) [] [] (begin check_rules asked files g.S.Shelf _)
    8 (first_content c.args.both) _ (plain_formula c.in-Ok.formula) _ takes)
    8 (second_content c.args.both) _ _ c.in-Err-formula_in.fault c.in-Err-formula_in.ensures.failed)

pub returns-in-Ok-bytes_in-clause-follows : goal.returns-in-Ok-bytes_in-clause-follows
returns-in-Ok-bytes_in-clause-follows g c =
    let asked = relation c.args.both in
    let one = c.args.formulas.0.now in
    let two = c.args.formulas.1.now in
    let files = one ∷ two ∷ c.args.out.now ∷ [] in
    let takes = rw c.requires at c.in-Ok.ensures.taken in
    let next = c.in-Ok-formula_in.ensures.taken in
    judged_ends asked files g.S.Shelf _ _ c.args.out.now (takes.bytes ∷ next.bytes ∷ []) _
    (formula_passes asked files g.S.Shelf _ _ two (c.args.out.now ∷ []) (takes.bytes ∷ []) _
    (formula_passes asked files g.S.Shelf _ _ one (two ∷ c.args.out.now ∷ []) [] [] (begin check_rules asked files g.S.Shelf _)
    8 (first_content c.args.both) _ (plain_formula c.in-Ok.formula) _ takes)
    8 (second_content c.args.both) _ (plain_formula c.in-Ok-formula_in.formula) _ next)
    (third_content c.args.both) _ _ _ c.as_slice.ensures c.in-Ok-bytes_in.ensures.read _
    (two_make c.args.both takes.bytes next.bytes _ (plain_formula c.in-Ok.formula) (plain_formula c.in-Ok-formula_in.formula) _
    (_, takes.is, next.is))
    _ c.judge_relation.ensures

pub returns-clause-follows : goal.returns-clause-follows
returns-clause-follows g c =
    let asked = relation c.args.both in
    let one = c.args.formulas.0.now in
    let two = c.args.formulas.1.now in
    let files = one ∷ two ∷ c.args.out.now ∷ [] in
    let takes = rw c.requires at c.in-Ok.ensures.taken in
    let next = c.in-Ok-formula_in.ensures.taken in
    let (error, came, e) = c.in-Err-bytes_in.ensures.failed in
    rw c.file_refusal-in-Err-bytes_in.ensures
    (unread_ends asked files g.S.Shelf _ _ c.args.out.now [] (takes.bytes ∷ next.bytes ∷ []) _
    (formula_passes asked files g.S.Shelf _ _ two (c.args.out.now ∷ []) (takes.bytes ∷ []) _
    (formula_passes asked files g.S.Shelf _ _ one (two ∷ c.args.out.now ∷ []) [] [] (begin check_rules asked files g.S.Shelf _)
    8 (first_content c.args.both) _ (plain_formula c.in-Ok.formula) _ takes)
    8 (second_content c.args.both) _ (plain_formula c.in-Ok-formula_in.formula) _ next)
    _ _ c.in-Err-bytes_in.fault error came e)
