use Rattle.std.proofs.Common.{◌<◌, length, map}
use Rattle.hy_formula.specs.Quantifiers.{Each}
use Rattle.hy_formula.specs.Atoms.{plain_atom}
use Rattle.fin_monitor.specs.Lefts.{kept_lists}
use Rattle.fin_monitor.specs.Tables.{AreAllLefts}
use Rattle.fin_monitor.proofs.lefts_by_code.LeftsByCode.new.Given as goal

abbrev pub invariant-loop-code : goal.invariant-loop-code
invariant-loop-code g l =
    record {
      some : 0 < length l.kept.items;
      each : Each (λ k. AreAllLefts l.judge.closure.now.nodes (map plain_atom l.judge.atoms.now) k.code (kept_lists k.lists)) l.kept.items;
    }
