use Rattle.std.proofs.Common.{◌≡◌, ◌-◌, ◌*◌, ◌^◌, ◌<◌, ◌≤◌, length, map}
use Rattle.hy_formula.specs.Quantifiers.{Each}
use Rattle.hy_formula.specs.Atoms.{plain_atom}
use Rattle.fin_monitor.specs.Lefts.{kept_lists}
use Rattle.fin_monitor.specs.Reductions.{AreFirsts}
use Rattle.fin_monitor.specs.Tables.{AreAllLefts, IsExplored}
use Rattle.fin_monitor.proofs.explore.explore.Given as goal

abbrev pub invariant-loop-rows : goal.invariant-loop-rows
invariant-loop-rows g l =
    record {
      explored : IsExplored l.judge.closure.now.nodes l.root (map plain_atom l.judge.atoms.now) (kept_lists l.explored.residuals.keys) l.explored.table;
      rows : length l.explored.table ≡ l.rows * 2 ^ length l.judge.atoms.now;
      within : l.rows ≤ length l.explored.residuals.keys;
      repeats : AreFirsts l.judge.closure.now.nodes (kept_lists l.explored.residuals.keys) (kept_lists l.repeats.reduced.keys) l.repeats.firsts l.rows;
      some : 0 < length l.explored.lefts.kept.items;
      lefts : Each (λ k. AreAllLefts l.judge.closure.now.nodes (map plain_atom l.judge.atoms.now) k.code (kept_lists k.lists)) l.explored.lefts.kept.items;
    }

abbrev pub decreases-loop-rows : goal.decreases-loop-rows
decreases-loop-rows g l = 4194304 - l.rows
