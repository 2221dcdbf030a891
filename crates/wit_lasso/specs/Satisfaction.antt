-- When a circuit satisfies a formula: its quantifiers go over the visible traces of the lasso
-- executions of the circuit, and the body is judged at the first position.
use Rattle.std.specs.Prelude.{◌≡◌, ℕ, Bool, false, List, slice_index_or}
use Rattle.hy_formula.specs.declared.prefix.Quant.{Quant}
use Rattle.hy_formula.specs.Trees.{Tree}
use Rattle.hy_formula.specs.Temporal.{endless, Words, SatisfiesAt}
use Rattle.hy_formula.specs.Quantifiers.{Quantified}
use Rattle.aig_net.specs.declared.signals.Signal.{Signal}
use Rattle.aig_net.specs.Nets.{Net}
use Rattle.aig_net.specs.Executions.{Lasso, IsLassoExecution, gone}
use Rattle.aig_net.specs.Signals.{visible}

-- whether a name, by its number, is seen at a position
abbrev pub Trace : Type 0
Trace = ℕ → ℕ → Bool

abbrev pub no_trace : Trace
no_trace name i = false

-- The trace is what is seen of a lasso execution, gone round for ever.
pub record IsVisible (net : Net) (signals : List Signal) (trace : Trace) : Type 0 where
  pub lasso : Lasso
  pub execution : IsLassoExecution net lasso
  pub seen : trace ≡ visible signals (gone lasso)

-- the words of a tuple of traces, one for each variable
abbrev pub trace_words : List Trace → Words
trace_words tuple name variable i = slice_index_or tuple variable no_trace name i

-- A tuple satisfies the body: at its first position.
abbrev pub Meets : Tree → List Trace → Type 0
Meets body tuple = SatisfiesAt endless (trace_words tuple) body 0

-- A circuit satisfies a formula, given by its quantifiers and its body.
abbrev pub Satisfies : Net → List Signal → List Quant → Tree → Type 0
Satisfies net signals prefix body = Quantified (IsVisible net signals) (Meets body) prefix
