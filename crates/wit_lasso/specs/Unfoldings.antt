-- The lassos of the copies of a net for which a path of a safe net stands, and their runs.
use Rattle.std.specs.Prelude.{◌≡◌, ℕ, suc, ◌-◌, ◌<◌, ◌≤◌, true, false, List, [], length, slice_index_or}
use Rattle.aig_net.specs.declared.run.Run.{Run}
use Rattle.aig_net.specs.Nets.{Net, literal_value}
use Rattle.aig_net.specs.Executions.{Word, Lasso, IsLassoExecution, lasso_of}
use Rattle.aig_net.specs.Following.{row_at}
use Rattle.aig_net.specs.Simulations.{IsRunOf}
use Rattle.self_compose.specs.Copies.{compose, copy}
use Rattle.sym_tableau.specs.Oracles.{unmoved}
use Rattle.live_safe.specs.declared.safe_net.Path.{Path}
use Rattle.live_safe.specs.declared.safe_net.SafeNet.{SafeNet}
use Rattle.live_safe.specs.Paths.{IsBadPath}
use Rattle.live_safe.specs.Safe.{saved, shown_word, to_safe}
use Rattle.wit_lasso.specs.FormulaNets.{Tableau, tableau_net}

-- The safe net is that of copies of the net with the oracles of some closure.
abbrev pub IsSafeOf : Net → ℕ → SafeNet → Type 0
IsSafeOf net n safe = (t : Tableau) × (safe ≡ to_safe (tableau_net net n t))

-- The rows of the path are the inputs of the word.
pub record ShowsInputs (safe : SafeNet) (path : Path) (word : Word) : Type 0 where
  pub inputs : (i : ℕ) → i < length path.inputs →
      length (row_at path.inputs i) ≡ safe.net.inputs
  pub rows : (i v : ℕ) → i < length path.inputs → v < safe.net.inputs →
      slice_index_or (row_at path.inputs i) v false ≡ word i (suc v)

-- The path goes from the start to bad, with as many steps as it has rows.
abbrev pub GoesToBad : SafeNet → Path → Type 0
GoesToBad safe path =
    (word : Word) × ShowsInputs safe path word × IsBadPath safe (length path.inputs) word

-- what a word of the safe net says of copy c
abbrev pub copy_word : Net → ℕ → Tableau → Word → ℕ → Word
copy_word net n t word c =
    copy n c (unmoved (compose net n) t.nodes (shown_word (tableau_net net n t) word))

-- the lasso of copy c, where the word goes to bad in k steps and step `save` saves
abbrev pub copy_lasso : Net → ℕ → Tableau → Word → ℕ → ℕ → ℕ → Lasso
copy_lasso net n t word k save c = lasso_of (copy_word net n t word c) save (k - save)

abbrev pub no_run : Run
no_run = record { first = []; stem = []; cycle = [] }

abbrev pub run_at : List Run → ℕ → Run
run_at runs c = slice_index_or runs c no_run

-- The step is the one that saves.
pub record Saves (net : Net) (k : ℕ) (word : Word) (save : ℕ) : Type 0 where
  pub within : save < k
  pub before : literal_value (word save) (saved net) ≡ false
  pub later : (i : ℕ) → save < i → i ≤ k → literal_value (word i) (saved net) ≡ true

-- The runs are those of the parts in the copies of the lasso for which the path stands: its stem
-- are the steps before the one that saves, its cycle that one and all later ones.
pub record AreUnfolded (net : Net) (n : ℕ) (t : Tableau) (k : ℕ) (word : Word)
    (runs : List Run) : Type 0 where
  pub save : ℕ
  pub saves : Saves (tableau_net net n t) k word save
  pub many : length runs ≡ n
  pub executions : (c : ℕ) → c < n →
      IsLassoExecution net (copy_lasso net n t word k save c)
  pub runs_are : (c : ℕ) → c < n →
      IsRunOf net (copy_lasso net n t word k save c) (run_at runs c)

-- What `unfold` gives for a path: it is unfolded by whatever closure the safe net is made of, and
-- whatever word the path shows.
abbrev pub IsUnfolding : Net → ℕ → SafeNet → Path → List Run → Type 0
IsUnfolding net n safe path runs =
    (t : Tableau) (word : Word) → safe ≡ to_safe (tableau_net net n t) →
    ShowsInputs safe path word → IsBadPath safe (length path.inputs) word →
    AreUnfolded net n t (length path.inputs) word runs
