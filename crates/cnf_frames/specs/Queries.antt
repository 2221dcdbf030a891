-- The clauses of a query about paths of a safe net.
-- The variables of the net, V with the constant, have numbers in each frame: variable v in frame j
-- has the number j * V + v + 1. Further variables are numbered after those of all frames.
use Rattle.std.specs.Prelude.{◌≡◌, ℕ, zero, suc, ◌+◌, ◌-◌, ◌*◌, ◌/◌, ◌%◌, ◌<◌, ◌≤◌, cond, List, [], ◌∷◌, ◌++◌, map, take, drop, length, ℤ, pos, negsuc, neg_ℤ}
use Rattle.hy_base.specs.declared.limit.Kind.{Kind}
use Rattle.hy_base.specs.declared.limit.Kind.TheVariants.{CnfVariables, CnfLiterals}
use Rattle.hy_base.specs.Limits.{most}
use Rattle.aig_net.specs.Nets.{Net, is_even, and_at, literal_at, first_and, latch_variable, variables}
use Rattle.chain_check.specs.Clauses.{Clause}
use Rattle.chain_check.specs.FewClauses.{for_each, further, alone, and_clauses, next_clauses, same_clauses, differ_clauses, guarded, some_further, literals_in}
use Rattle.live_safe.specs.declared.safe_net.SafeNet.{SafeNet}
use Rattle.cnf_frames.specs.declared.facts.Fact.{Fact}
use Rattle.cnf_frames.specs.declared.facts.Fact.TheVariants.{Zero, One, Same, Differ, AnyOf}
use Rattle.cnf_frames.specs.declared.queries.Asked.{Asked}
use Rattle.cnf_frames.specs.declared.queries.Asked.TheVariants.{Base, Step, Keep}
use Rattle.cnf_frames.specs.declared.queries.Query.{Query}
use Rattle.cnf_frames.specs.declared.queries.FrameError.{FrameError}
use Rattle.cnf_frames.specs.declared.queries.FrameError.TheVariants.{Limit, Memory}
use Rattle.cnf_frames.specs.Facts.{fact_at}

-- a literal of the net in frame j
abbrev pub in_frame : ℕ → ℕ → ℕ → ℤ
in_frame V j l = cond (is_even l) (pos (suc (j * V + l / 2))) (negsuc (j * V + l / 2))

-- ---- frames

abbrev pub latch_literal : Net → ℕ → ℕ
latch_literal net i = 2 * latch_variable net i

-- latch i in frame j
abbrev pub latch_in : Net → ℕ → ℕ → ℤ
latch_in net j i = in_frame (variables net) j (latch_literal net i)

-- a literal of latches, by their places, in frame j
abbrev pub literal_in : Net → ℕ → ℕ → ℤ
literal_in net j l = in_frame (variables net) j (latch_literal net (l / 2) + l % 2)

-- and i in frame j
abbrev pub gate_clauses : Net → ℕ → ℕ → List Clause
gate_clauses net j i =
    and_clauses (in_frame (variables net) j (2 * (first_and net + i)))
    (in_frame (variables net) j (and_at net.ands i).left)
    (in_frame (variables net) j (and_at net.ands i).right)

-- The constant is false, and the ands are right.
abbrev pub frame_gates : Net → ℕ → List Clause
frame_gates net j =
    alone (in_frame (variables net) j 1) ++ for_each (gate_clauses net j) (length net.ands)

abbrev pub constraint_clauses : Net → ℕ → ℕ → List Clause
constraint_clauses net j i = alone (in_frame (variables net) j (literal_at net.constraints i))

-- latch i after frame j
abbrev pub latch_clauses : Net → ℕ → ℕ → List Clause
latch_clauses net j i =
    next_clauses (latch_in net (suc j) i)
    (in_frame (variables net) j (literal_at net.latches i))

-- a frame that a step leaves
abbrev pub frame_step : Net → ℕ → List Clause
frame_step net j =
    frame_gates net j
    ++ (for_each (constraint_clauses net j) (length net.constraints)
    ++ for_each (latch_clauses net j) (length net.latches))

-- a path of k steps
abbrev pub frames : Net → ℕ → List Clause
frames net k = for_each (frame_step net) k ++ frame_gates net k

-- ---- base queries

abbrev pub start_clauses : Net → List Clause
start_clauses net = for_each (λ i. alone (neg_ℤ (latch_in net 0 i))) (length net.latches)

abbrev pub bad_in : SafeNet → ℕ → ℤ
bad_in safe j = in_frame (variables safe.net) j safe.bad

-- a path of k steps from the start to bad
abbrev pub base_clauses : SafeNet → ℕ → List Clause
base_clauses safe k = frames safe.net k ++ (start_clauses safe.net ++ alone (bad_in safe k))

-- ---- step queries

-- The fact holds in frame j.
abbrev pub fact_clauses : Net → ℕ → Fact → List Clause
fact_clauses net j (Zero a) = alone (neg_ℤ (latch_in net j a))
fact_clauses net j (One a) = alone (latch_in net j a)
fact_clauses net j (Same a b) = same_clauses (latch_in net j a) (latch_in net j b)
fact_clauses net j (Differ a b) = differ_clauses (latch_in net j a) (latch_in net j b)
fact_clauses net j (AnyOf ls) = map (literal_in net j) ls ∷ []

-- The fact fails in frame j.
abbrev pub failing_clauses : Net → ℕ → Fact → List Clause
failing_clauses net j (Zero a) = alone (latch_in net j a)
failing_clauses net j (One a) = alone (neg_ℤ (latch_in net j a))
failing_clauses net j (Same a b) = differ_clauses (latch_in net j a) (latch_in net j b)
failing_clauses net j (Differ a b) = same_clauses (latch_in net j a) (latch_in net j b)
failing_clauses net j (AnyOf ls) = map (λ l. neg_ℤ (literal_in net j l) ∷ []) ls

abbrev pub facts_clauses : Net → ℕ → List Fact → List Clause
facts_clauses net j facts =
    for_each (λ i. fact_clauses net j (fact_at facts i)) (length facts)

-- The state of frame j is good and has all facts.
abbrev pub good_clauses : SafeNet → List Fact → ℕ → List Clause
good_clauses safe facts j = facts_clauses safe.net j facts ++ alone (neg_ℤ (bad_in safe j))

-- where the further variable d is true, latch i differs in frames j and m
abbrev pub latch_differs : Net → ℕ → ℕ → ℕ → ℕ → List Clause
latch_differs net j m d i =
    guarded (further (d + i)) (differ_clauses (latch_in net j i) (latch_in net m i))

-- The states of frames j and m differ; the further variables stand from d on.
abbrev pub apart_clauses : Net → ℕ → ℕ → ℕ → List Clause
apart_clauses net j m d =
    for_each (latch_differs net j m d) (length net.latches) ++ some_further d (length net.latches)

-- how many pairs of frames up to k have their first below i
abbrev pub pairs_before : ℕ → ℕ → ℕ
pairs_before k zero = 0
pairs_before k (suc i) = pairs_before k i + (k - i)

-- the first further variable of the pair of frames i and i + 1 + q
abbrev pub pair_start : Net → ℕ → ℕ → ℕ → ℕ
pair_start net k i q = (k + 2) * variables net + (pairs_before k i + q) * length net.latches

-- frame i and each later one up to k
abbrev pub apart_from : Net → ℕ → ℕ → List Clause
apart_from net k i =
    for_each (λ q. apart_clauses net i (suc i + q) (pair_start net k i q)) (k - i)

-- k + 1 pairwise distinct good states with all facts, and a step from the last to a bad one
abbrev pub step_clauses : SafeNet → List Fact → ℕ → List Clause
step_clauses safe facts k =
    frames safe.net (suc k)
    ++ (for_each (good_clauses safe facts) (suc k)
    ++ (alone (bad_in safe (suc k)) ++ for_each (apart_from safe.net k) (suc k)))

-- ---- keep queries

-- the facts of a group
abbrev pub group_of : List Fact → ℕ → List Fact
group_of facts g = take 64 (drop (64 * g) facts)

-- how many groups there are
abbrev pub groups : List Fact → ℕ
groups facts = (length facts + 63) / 64

-- where further variable i is true, the fact at this place of the group fails in frame 1
abbrev pub fails_clauses : Net → List Fact → ℕ → List Clause
fails_clauses net group i =
    guarded (further (2 * variables net + i)) (failing_clauses net 1 (fact_at group i))

-- a step from a state with all facts to one where a fact of the group fails
abbrev pub keep_clauses : Net → List Fact → List Fact → List Clause
keep_clauses net facts group =
    frames net 1
    ++ (facts_clauses net 0 facts
    ++ (for_each (fails_clauses net group) (length group)
    ++ some_further (2 * variables net) (length group)))

-- ---- all queries

unfoldable pub clauses_of : SafeNet → Asked → List Clause
clauses_of safe (Base k) = base_clauses safe k
clauses_of safe (Step inv k) = step_clauses safe inv k
clauses_of safe (Keep inv group) = keep_clauses safe.net inv (group_of inv group)

-- how many variables a query has
abbrev pub variables_of : SafeNet → Asked → ℕ
variables_of safe (Base k) = (k + 1) * variables safe.net
variables_of safe (Step inv k) =
    (k + 2) * variables safe.net + pairs_before k (k + 1) * length safe.net.latches
variables_of safe (Keep inv group) = 2 * variables safe.net + length (group_of inv group)

-- Which of two counts is past its limit; variables come first.
abbrev pub IsPastBy : ℕ → ℕ → Kind → Type 0
IsPastBy variables literals CnfVariables = most CnfVariables < variables
IsPastBy variables literals CnfLiterals =
    (variables ≤ most CnfVariables) × (most CnfLiterals < literals)
IsPastBy variables literals _ = ⊥

-- why no query has so many variables and literals; want of memory needs no cause
abbrev pub IsRefusalBy : ℕ → ℕ → FrameError → Type 0
IsRefusalBy variables literals (Limit limit) =
    IsPastBy variables literals limit.kind × (limit.limit ≡ most limit.kind)
IsRefusalBy variables literals Memory = Unit {0}

abbrev pub IsPast : SafeNet → Asked → Kind → Type 0
IsPast safe asked kind =
    IsPastBy (variables_of safe asked) (literals_in (clauses_of safe asked)) kind

-- Both counts are within their limits.
pub record IsWithin (safe : SafeNet) (asked : Asked) : Type 0 where
  pub few_variables : variables_of safe asked ≤ most CnfVariables
  pub few_literals : literals_in (clauses_of safe asked) ≤ most CnfLiterals

pub record IsQuery (safe : SafeNet) (asked : Asked) (query : Query) : Type 0 where
  pub same : query.asked ≡ asked
  pub clauses : query.cnf.clauses ≡ clauses_of safe asked
  pub variables : query.cnf.variables ≡ variables_of safe asked
  pub within : IsWithin safe asked

-- why there is no query
abbrev pub IsRefusal : SafeNet → Asked → FrameError → Type 0
IsRefusal safe asked e = IsRefusalBy (variables_of safe asked) (literals_in (clauses_of safe asked)) e
