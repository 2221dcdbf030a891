use Rattle.std.proofs.Common.{◌≡◌, length, map}
use Rattle.hy_formula.specs.Atoms.{plain_atom}
use Rattle.fin_monitor.specs.Lefts.{kept_lists}
use Rattle.fin_monitor.proofs.Stepping.{AreTurned}
use Rattle.fin_monitor.proofs.lefts.Lefts.turn.Given as goal

abbrev pub invariant-loop-k : goal.invariant-loop-k
invariant-loop-k g l =
    record {
      long : length l.self.lists ≡ length l.initial.self.lists;
      code : l.self.code ≡ l.initial.self.code;
      turned : AreTurned l.judge.closure.now.nodes (map plain_atom l.judge.atoms.now) l.initial.self.code l.code (kept_lists l.self.lists) l.k;
    }
