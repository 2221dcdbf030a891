use Rattle.std.proofs.Common.{◌≡◌, ◌++◌, take}
use Rattle.hy_base.specs.Rows.{listed}
use Rattle.wit_lasso.specs.FormulaNets.{copy_signal, copy_signals}
use Rattle.formula_nets.proofs.safe_nets.copy_signals.Given as goal

-- the copies of the signals so far
abbrev pub invariant-loop-i : goal.invariant-loop-i
invariant-loop-i l = l.made ≡ copy_signals l.n (take l.i l.signals)

-- and of this signal in the copies so far
abbrev pub invariant-loop-c : goal.invariant-loop-c
invariant-loop-c l = l.made ≡ copy_signals l.n (take l.i l.signals)
    ++ listed 0 l.c (λ c. copy_signal l.n c l.signal)
