use Rattle.std.proofs.Common.{◌≡◌, None, take}
use Rattle.rv_core.specs.Built.{IsCause, AreFresh}
use Rattle.rv_core.specs.Seen.{watched_by}
use Rattle.rv_core.proofs.build.watches_of.Given as goal

-- what is known of the formulas before, and their watches where none is too large
abbrev pub invariant-loop-formula : goal.invariant-loop-formula
invariant-loop-formula l = record {
  cause : IsCause (take l.formula-index l.formulas) l.refused;
  fresh : l.refused ≡ None
      → AreFresh (take l.formula-index l.formulas) (watched_by l.watches);
}
