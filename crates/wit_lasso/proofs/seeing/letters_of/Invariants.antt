use Rattle.std.proofs.Common.{take}
use Rattle.wit_lasso.specs.Seeing.{AreSeen}
use Rattle.wit_lasso.proofs.seeing.letters_of.Given as goal

abbrev pub invariant-loop-values : goal.invariant-loop-values
invariant-loop-values l = AreSeen l.signals (take l.values-index l.rows) l.letters
