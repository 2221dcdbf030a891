use Rattle.std.proofs.Common.{◌≢◌, [], ◌∷◌, subst}
use Rattle.std.proofs.lemmas.Result.{IfOk-weaker}
use Rattle.ltl_closure.specs.Jobs.{Rooted}
use Rattle.ltl_tableau.specs.Tasks.{set_of}
use Rattle.rank_judge.specs.Judged.{IsJudgedAt}
use Rattle.rank_judge.proofs.judge.judge_ranks.Goals as goal

pub returns-clause-judged : goal.returns-clause-judged
returns-clause-judged c =
    IfOk-weaker c.judge.result _ _ (λ left judged proof front line more parts said.
    let some : line ∷ more ≢ [] = λ e. cc in
    let P : Rooted → Type 0 =
    λ r. IsJudgedAt r.nodes (set_of r.roots) proof (line ∷ more) left in
    subst P c.requires.closure
    (judged proof (line ∷ more) some (record { lines = front; parts = parts; said = said })))
    c.judge.ensures.judged
