use Rattle.hy_lasso.proofs.Bodies.{IsAtomFront}
use Rattle.hy_lasso.proofs.meaning.Picked.atom_row.Given as goal

-- what the letters so far say
abbrev pub invariant-loop-i : goal.invariant-loop-i
invariant-loop-i l = IsAtomFront l.lasso l.a.name l.i l.row
