use Rattle.std.proofs.Common.{◌<◌, true, length}
use Rattle.hy_formula.specs.Quantifiers.{Each}
use Rattle.trace_trie.specs.Numbered.{Numbered, rest_from}
use Rattle.rv_core.specs.Seen.{watched}
use Rattle.rv_core.proofs.Sifting.{IsSifted}
use Rattle.rv_core.proofs.watch.Watch.leaders.Given as goal

abbrev pub invariant-loop-other : goal.invariant-loop-other
invariant-loop-other l = record {
  sifted : IsSifted l.rule true (watched l.self) l.trace l.kept l.from l.left;
  below : Each (λ (p : Numbered). p.0 < l.number) l.left;
}

abbrev pub decreases-loop-other : goal.decreases-loop-other
decreases-loop-other l = length (rest_from l.from l.kept)
