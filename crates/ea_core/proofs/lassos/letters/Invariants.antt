use Rattle.std.proofs.Common.{◌≡◌, ℕ, ◌<◌, length, get_or}
use Rattle.std.specs.FinSet.{empty}
use Rattle.ltl_tableau.specs.WalkWords.{letter_below}
use Rattle.ea_core.proofs.lassos.letters.Given as goal

abbrev pub invariant-loop-k : goal.invariant-loop-k
invariant-loop-k g l = record {
  long : length l.row ≡ l.vars;
  letters : (v : ℕ) → v < l.vars → get_or l.row v empty ≡ letter_below l.c.nodes l.branch.now v l.k;
}
