use Rattle.std.proofs.Common.{◌≡◌, length, map}
use Rattle.hy_formula.specs.Atoms.{plain_atom}
use Rattle.fin_monitor.specs.Lefts.{AreAsked}
use Rattle.fin_monitor.proofs.members.asked_masks.Given as goal

abbrev pub invariant-loop-k : goal.invariant-loop-k
invariant-loop-k l =
    record {
      long : length l.masks ≡ l.k;
      asked : AreAsked l.closure.nodes (map plain_atom l.atoms) l.masks l.k;
    }
