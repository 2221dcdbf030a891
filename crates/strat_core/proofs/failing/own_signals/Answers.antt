use Rattle.std.proofs.Common.{subst}
use Rattle.hy_formula.specs.Trees.{tree_of}
use Rattle.net_names.specs.declared.name_error.NameError.{NameError}
use Rattle.net_names.specs.Names.{IsNameRefusal}
use Rattle.strat_core.proofs.Readings.{no-bad}
use Rattle.strat_core.proofs.failing.own_signals.Goals as goal

pub unreachable-requires : goal.unreachable-requires
unreachable-requires c =
    let (signals, are) = c.requires in
    let R : NameError → Type 0 =
    IsNameRefusal c.args.net.now c.args.names.now (tree_of c.args.body.now) in
    no-bad c.args.net.now c.args.names.now (tree_of c.args.body.now) signals are
    c.in-Err-Bad.field-0-0 c.in-Err-Bad.field-0-1
    (subst R c.in-Err-Bad.field-0-is c.in-Err-Bad.ensures.refused)
