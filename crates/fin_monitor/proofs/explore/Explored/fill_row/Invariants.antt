use Rattle.std.proofs.Common.{◌≡◌, ◌+◌, ◌*◌, ◌^◌, ◌<◌, ◌≤◌, ℕ, length, map}
use Rattle.hy_formula.specs.Quantifiers.{Each}
use Rattle.hy_formula.specs.Atoms.{plain_atom}
use Rattle.fin_monitor.specs.Duties.{residual_at}
use Rattle.fin_monitor.specs.Lefts.{kept_lists}
use Rattle.fin_monitor.specs.Reductions.{LeaveAlike}
use Rattle.fin_monitor.specs.Tables.{AreAllLefts, IsExplored}
use Rattle.fin_monitor.proofs.explore.Explored.fill_row.Given as goal

abbrev pub invariant-loop-code : goal.invariant-loop-code
invariant-loop-code g l =
    record {
      explored : IsExplored l.judge.closure.now.nodes l.root (map plain_atom l.judge.atoms.now) (kept_lists l.self.residuals.keys) l.self.table;
      long : length l.self.table ≡ l.row * 2 ^ length l.judge.atoms.now + l.code;
      there : l.row < length l.self.residuals.keys;
      same : LeaveAlike l.judge.closure.now.nodes l.residual (residual_at (kept_lists l.self.residuals.keys) l.row);
      grows : length (kept_lists l.initial.self.residuals.keys) ≤ length (kept_lists l.self.residuals.keys);
      stays : (q : ℕ) → q < length l.initial.self.residuals.keys → residual_at (kept_lists l.self.residuals.keys) q ≡ residual_at (kept_lists l.initial.self.residuals.keys) q;
      some : 0 < length l.self.lefts.kept.items;
      lefts : Each (λ k. AreAllLefts l.judge.closure.now.nodes (map plain_atom l.judge.atoms.now) k.code (kept_lists k.lists)) l.self.lefts.kept.items;
    }
