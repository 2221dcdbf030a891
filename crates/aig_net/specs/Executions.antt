-- Executions of a net: valuations one after the other, for ever, and the lassos that stand for them.
use Rattle.std.specs.Prelude.{◌≡◌, ℕ, zero, suc, ◌+◌, ◌-◌, ◌%◌, ◌<◌, ◌≤◌, nat_lt, cond, false, IsTrue, List, [], ◌∷◌, ◌++◌, length, slice_index_or}
use Rattle.aig_net.specs.Nets.{Net, Valuation, literal_value, literal_at, IsRight, IsStart, IsStep, AllTrue}

-- a valuation for each position
abbrev pub Word : Type 0
Word = ℕ → Valuation

pub record IsRun (net : Net) (word : Word) : Type 0 where
  pub starts : IsStart net (word 0)
  pub right : (i : ℕ) → IsRight net (word i)
  pub goes : (i : ℕ) → IsStep net (word i) (word (suc i))
  pub kept : (i : ℕ) → AllTrue net.constraints (word i)

-- Each fairness literal is true again and again.
abbrev pub IsFair : Net → Word → Type 0
IsFair net word =
    (j : ℕ) → j < length net.fairs → (i : ℕ) →
    (k : ℕ) × (i ≤ k) × IsTrue (literal_value (word k) (literal_at net.fairs j))

pub record IsExecution (net : Net) (word : Word) : Type 0 where
  pub run : IsRun net word
  pub fair : IsFair net word

-- ---- lassos

pub record Lasso : Type 0 where
  pub stem : List Valuation
  pub cycle : List Valuation

abbrev pub no_values : Valuation
no_values _ = false

abbrev pub no_lasso : Lasso
no_lasso = record { stem = []; cycle = [] }

abbrev pub value_in : List Valuation → ℕ → Valuation
value_in list i = slice_index_or list i no_values

-- how many steps the stem and the cycle have together
abbrev pub steps : Lasso → ℕ
steps lasso = length lasso.stem + length lasso.cycle

abbrev pub step_at : Lasso → ℕ → Valuation
step_at lasso i = value_in (lasso.stem ++ lasso.cycle) i

-- Stem and cycle start, go and come back as the net says, and each fairness literal is true in the cycle.
pub record IsLassoExecution (net : Net) (lasso : Lasso) : Type 0 where
  pub some : 0 < length lasso.cycle
  pub starts : IsStart net (step_at lasso 0)
  pub right : (i : ℕ) → i < steps lasso → IsRight net (step_at lasso i)
  pub kept : (i : ℕ) → i < steps lasso → AllTrue net.constraints (step_at lasso i)
  pub goes : (i : ℕ) → suc i < steps lasso → IsStep net (step_at lasso i) (step_at lasso (suc i))
  pub back : IsStep net (step_at lasso (steps lasso - 1)) (step_at lasso (length lasso.stem))
  pub fair : (j : ℕ) → j < length net.fairs →
      (k : ℕ) × (k < length lasso.cycle)
      × IsTrue (literal_value (value_in lasso.cycle k) (literal_at net.fairs j))

-- the lasso gone round for ever
abbrev pub gone : Lasso → Word
gone lasso i =
    cond (nat_lt i (length lasso.stem)) (value_in lasso.stem i)
    (value_in lasso.cycle ((i - length lasso.stem) % length lasso.cycle))

-- the word from s on for n places
abbrev pub part : Word → ℕ → ℕ → List Valuation
part word s zero = []
part word s (suc n) = word s ∷ part word (suc s) n

-- the first s valuations of a word as a stem, and the next c as a cycle
abbrev pub lasso_of : Word → ℕ → ℕ → Lasso
lasso_of word s c = record { stem = part word 0 s; cycle = part word s c }

-- From s on the word repeats after c positions.
pub record Recurs (word : Word) (s c : ℕ) : Type 0 where
  pub some : 0 < c
  pub same : (i v : ℕ) → s ≤ i → word (i + c) v ≡ word i v
