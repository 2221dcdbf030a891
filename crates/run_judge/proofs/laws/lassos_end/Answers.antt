use Rattle.std.proofs.Common.{[], ◌∷◌}
use Rattle.std.specs.Prelude.{codes}
use Rattle.cert_text.specs.InductionLines.{free_word, kind_word}
use Rattle.cert_text.proofs.Stepping.{proof_no_lasso}
use Rattle.run_judge.proofs.FrontLassos.{empty_no_lasso}
use Rattle.run_judge.proofs.laws.lassos_end.Goals as goal

pub returns-clause-ranks : goal.returns-clause-ranks
returns-clause-ranks c line b r said (one, two, words, first, second) says =
    proof_no_lasso line (codes "rank" ∷ one ∷ two ∷ []) words (said, says)

pub returns-clause-induction : goal.returns-clause-induction
returns-clause-induction c clauses line k f said (one, two, words, first, second) says =
    proof_no_lasso line (kind_word clauses ∷ one ∷ two ∷ []) words (said, says)

pub returns-clause-free : goal.returns-clause-free
returns-clause-free c line k f said (one, two, words, first, second) says =
    proof_no_lasso line (free_word ∷ one ∷ two ∷ []) words (said, says)

pub returns-clause-runs : goal.returns-clause-runs
returns-clause-runs c line n said (word, words, says_number) says =
    proof_no_lasso line (codes "runs" ∷ word ∷ []) words (said, says)

pub returns-clause-empty : goal.returns-clause-empty
returns-clause-empty c = empty_no_lasso
