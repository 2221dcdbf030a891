use Rattle.std.proofs.Common.{◌≡◌, length, map}
use Rattle.hy_formula.specs.Atoms.{plain_atom}
use Rattle.fin_monitor.specs.Lefts.{AreLefts, kept_lists}
use Rattle.fin_monitor.proofs.lefts.Lefts.new.Given as goal

abbrev pub invariant-loop-k : goal.invariant-loop-k
invariant-loop-k g l =
    record {
      long : length l.lists ≡ l.k;
      lefts : AreLefts l.judge.closure.now.nodes (map plain_atom l.judge.atoms.now) 0 (kept_lists l.lists) l.k;
    }
