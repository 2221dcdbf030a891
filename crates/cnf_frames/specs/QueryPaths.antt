-- The paths that answer queries.
use Rattle.std.specs.Prelude.{◌≡◌, ℕ, suc, ◌+◌, ◌*◌, ◌<◌, ◌≤◌, Bool, false, IsTrue, List, [], length, slice_index_or, Contains}
use Rattle.aig_net.specs.Nets.{Net, Valuation, literal_value, latch_variable, variables}
use Rattle.aig_net.specs.Executions.{Word}
use Rattle.live_safe.specs.declared.safe_net.SafeNet.{SafeNet}
use Rattle.live_safe.specs.declared.safe_net.Path.{Path}
use Rattle.live_safe.specs.Paths.{IsPath, IsBadPath}
use Rattle.cnf_frames.specs.declared.facts.Fact.{Fact}
use Rattle.cnf_frames.specs.declared.queries.Asked.{Asked}
use Rattle.cnf_frames.specs.declared.queries.Asked.TheVariants.{Base, Step, Keep}
use Rattle.cnf_frames.specs.Facts.{FactHolds, AllHold, AllIn}
use Rattle.cnf_frames.specs.Queries.{group_of, groups}

abbrev pub SameState : Net → Valuation → Valuation → Type 0
SameState net v w =
    (j : ℕ) → j < length net.latches → v (latch_variable net j) ≡ w (latch_variable net j)

-- k + 1 pairwise distinct good states with all facts, and a step from the last to a bad one
pub record IsStepPath (safe : SafeNet) (facts : List Fact) (k : ℕ) (word : Word) : Type 0 where
  pub along : IsPath safe.net (suc k) word
  pub known : (i : ℕ) → i ≤ k → AllHold safe.net facts (word i)
  pub good : (i : ℕ) → i ≤ k → literal_value (word i) safe.bad ≡ false
  pub apart : (i j : ℕ) → i < j → j ≤ k → ¬ SameState safe.net (word i) (word j)
  pub ends : IsTrue (literal_value (word (suc k)) safe.bad)

-- a step from a state with all facts to one where a fact of the group fails
pub record IsKeepPath (net : Net) (facts group : List Fact) (word : Word) : Type 0 where
  pub along : IsPath net 1 word
  pub known : AllHold net facts (word 0)
  pub fails : (f : Fact) × Contains group f × (¬ FactHolds net (word 1) f)

abbrev pub Answers : SafeNet → Asked → Word → Type 0
Answers safe (Base k) word = IsBadPath safe k word
Answers safe (Step inv k) word = IsStepPath safe inv k word
Answers safe (Keep inv group) word = IsKeepPath safe.net inv (group_of inv group) word

-- Facts of a query name latches, and a group has a fact.
abbrev pub CanAsk : SafeNet → Asked → Type 0
CanAsk safe (Base k) = Unit {0}
CanAsk safe (Step inv k) = AllIn (length safe.net.latches) inv
CanAsk safe (Keep inv group) = AllIn (length safe.net.latches) inv × (group < groups inv)

-- how many steps the paths of a query have
abbrev pub steps_of : Asked → ℕ
steps_of (Base k) = k
steps_of (Step inv k) = k + 1
steps_of (Keep inv group) = 1

-- the word of an assignment; a variable without a value is false
abbrev pub word_of : SafeNet → List Bool → Word
word_of safe values j v = slice_index_or values (j * variables safe.net + v) false

abbrev pub row_at : List (List Bool) → ℕ → List Bool
row_at rows i = slice_index_or rows i []

-- The path has the latches of the word's first valuation, and the inputs of so many as it has rows.
pub record Shows (safe : SafeNet) (path : Path) (word : Word) : Type 0 where
  pub latches : length path.first ≡ length safe.net.latches
  pub first : (j : ℕ) → j < length safe.net.latches →
      slice_index_or path.first j false ≡ word 0 (latch_variable safe.net j)
  pub inputs : (i : ℕ) → i < length path.inputs →
      length (row_at path.inputs i) ≡ safe.net.inputs
  pub rows : (i v : ℕ) → i < length path.inputs → v < safe.net.inputs →
      slice_index_or (row_at path.inputs i) v false ≡ word i (suc v)

-- No path of fewer than k steps from the start is bad, and the step query before k has an answer.
pub record IsReached (safe : SafeNet) (facts : List Fact) (k : ℕ) : Type 0 where
  pub before : (i : ℕ) → i < k → (word : Word) → ¬ IsBadPath safe i word
  pub stepped : (j : ℕ) → k ≡ suc j → (word : Word) × IsStepPath safe facts j word
