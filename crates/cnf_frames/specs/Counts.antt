-- How many literals the clauses of queries have, by the sizes of a net.
use Rattle.std.specs.Prelude.{ℕ, zero, suc, ◌+◌, ◌*◌, ◌/◌, min, List, length}
use Rattle.hy_base.specs.declared.limit.Kind.TheVariants.{CnfLiterals}
use Rattle.hy_base.specs.Limits.{most}
use Rattle.aig_net.specs.Nets.{Net}
use Rattle.cnf_frames.specs.declared.facts.Fact.{Fact}
use Rattle.cnf_frames.specs.declared.facts.Fact.TheVariants.{Zero, One, Same, Differ, AnyOf}
use Rattle.cnf_frames.specs.Facts.{fact_at}

-- the sum of the numbers of 0 to n - 1
abbrev pub sum_for : (ℕ → ℕ) → ℕ → ℕ
sum_for f zero = 0
sum_for f (suc n) = sum_for f n + f n

-- how many pairs there are of frames up to k
abbrev pub pairs : ℕ → ℕ
pairs k = k * (k + 1) / 2

-- of the frames of a path of k steps
abbrev pub frames_literals : Net → ℕ → ℕ
frames_literals net k =
    (k + 1) * (1 + 7 * length net.ands)
    + k * (length net.constraints + 4 * length net.latches)

-- Facts are counted up to one literal past the limit.
abbrev pub capped : ℕ → ℕ
capped n = min n (most CnfLiterals + 1)

abbrev pub fact_literals : Fact → ℕ
fact_literals (Zero a) = 1
fact_literals (One a) = 1
fact_literals (Same a b) = 4
fact_literals (Differ a b) = 4
fact_literals (AnyOf ls) = length ls

abbrev pub facts_literals : List Fact → ℕ
facts_literals facts = sum_for (λ i. fact_literals (fact_at facts i)) (length facts)

-- of the clauses that say where the fact fails
abbrev pub one_failing : Fact → ℕ
one_failing (Zero a) = 2
one_failing (One a) = 2
one_failing (Same a b) = 6
one_failing (Differ a b) = 6
one_failing (AnyOf ls) = 2 * length ls

abbrev pub failing_literals : List Fact → ℕ
failing_literals facts = sum_for (λ i. one_failing (fact_at facts i)) (length facts)

abbrev pub base_literals : Net → ℕ → ℕ
base_literals net k = frames_literals net k + (length net.latches + 1)

abbrev pub step_literals : Net → List Fact → ℕ → ℕ
step_literals net facts k =
    frames_literals net (k + 1)
    + ((k + 1) * (capped (facts_literals facts) + 1) + (1 + pairs k * (7 * length net.latches)))

-- of the clauses that all keep queries of facts begin with
abbrev pub front_literals : Net → List Fact → ℕ
front_literals net facts = frames_literals net 1 + capped (facts_literals facts)

-- of those behind them
abbrev pub rest_literals : List Fact → ℕ
rest_literals group = capped (failing_literals group) + length group

abbrev pub keep_literals : Net → List Fact → List Fact → ℕ
keep_literals net facts group = front_literals net facts + rest_literals group
