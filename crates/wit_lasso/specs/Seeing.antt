-- What is seen of a run: the normal form of its visible trace.
use Rattle.std.specs.Prelude.{◌≡◌, ℕ, ◌<◌, Bool, cond, List, length, slice_index_or}
use Rattle.std.specs.FinSet.{contains, empty}
use Rattle.hy_bits.specs.Letter.{Letter}
use Rattle.hy_formula.specs.Lassos as letters
use Rattle.hy_lasso.specs.NormalForms.{IsNormal}
use Rattle.hy_lasso.specs.Words.{letter_at}
use Rattle.aig_net.specs.declared.run.Run.{Run}
use Rattle.aig_net.specs.declared.run.ValueLasso.{ValueLasso}
use Rattle.aig_net.specs.declared.signals.Signal.{Signal}
use Rattle.aig_net.specs.Nets.{Net, Valuation, literal_value, variables}
use Rattle.hy_base.specs.Rows.{row}
use Rattle.aig_net.specs.Executions.{Word, gone}
use Rattle.aig_net.specs.Following.{row_at}
use Rattle.aig_net.specs.Signals.{is_for, shown, visible}
use Rattle.aig_net.specs.Simulations.{IsExecutionOf, valuations}
use Rattle.sym_tableau.specs.Places.{AreWithin}

-- The letter has the names that are seen of the valuation.
abbrev pub IsSeen : List Signal → Valuation → Letter → Type 0
IsSeen signals v letter = (name : ℕ) → contains letter name ≡ shown signals v name 0

-- The letter that is next has the name of the signal where its literal is true, if it is one of
-- variable 0.
abbrev pub Counts : Signal → Valuation → Letter → Letter → Type 0
Counts s v letter later =
    (name : ℕ) → contains later name ≡ cond (is_for name 0 s) (literal_value v s.literal)
    (contains letter name)

-- A letter for each row of values.
pub record AreSeen (signals : List Signal) (rows : List (List Bool)) (seen : List Letter)
    : Type 0 where
  pub many : length seen ≡ length rows
  pub each : (i : ℕ) → i < length rows →
      IsSeen signals (row (row_at rows i)) (slice_index_or seen i empty)

-- The lasso has at each position the names that are seen of the word.
abbrev pub ShowsTrace : List Signal → Word → letters.Lasso Letter → Type 0
ShowsTrace signals word trace =
    (i name : ℕ) → contains (letter_at trace i) name ≡ visible signals word name i

-- The values are those of a run of some net, which has the literals of the signals.
abbrev pub AreRunValues : List Signal → ValueLasso → Type 0
AreRunValues signals values =
    (net : Net) × (run : Run) × IsExecutionOf net run values × AreWithin (variables net) signals

-- The trace is the normal form of what is seen of the run, which is that of a lasso execution.
pub record IsTraceOf (net : Net) (signals : List Signal) (run : Run)
    (trace : letters.Lasso Letter) : Type 0 where
  pub values : ValueLasso
  pub execution : IsExecutionOf net run values
  pub normal : IsNormal trace
  pub shows : ShowsTrace signals (gone (valuations values)) trace
