use Rattle.std.proofs.Common.{◌≡◌, ◌+◌, ◌*◌, ◌^◌, length, map}
use Rattle.hy_formula.specs.Atoms.{plain_atom}
use Rattle.fin_monitor.specs.Lefts.{kept_lists}
use Rattle.fin_monitor.specs.Tables.{IsExplored}
use Rattle.fin_monitor.proofs.explore.Explored.copy_row.Given as goal

abbrev pub invariant-loop-code : goal.invariant-loop-code
invariant-loop-code g l =
    record {
      explored : IsExplored l.judge.closure.now.nodes l.root (map plain_atom l.judge.atoms.now) (kept_lists l.initial.self.residuals.keys) l.self.table;
      long : length l.self.table ≡ l.row * 2 ^ length l.judge.atoms.now + l.code;
      residuals : l.self.residuals ≡ l.initial.self.residuals;
      lefts : l.self.lefts ≡ l.initial.self.lefts;
    }
