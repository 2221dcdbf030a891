-- Why `add_fresh` keeps its contract.
use Rattle.std.proofs.Common.{Err, length, ◌∙◌, ap, arith}
use Rattle.hy_formula.specs.Names.{with_name}
use Rattle.hy_base.proofs.Listed.{length-listed}
use Rattle.strat_compose.specs.Driving.{fresh_name}
use Rattle.strat_compose.proofs.FreshNames.{fresh-more}
use Rattle.strat_compose.proofs.fresh.add_fresh.Goals as goal

pub unreachable-requires : goal.unreachable-requires
unreachable-requires c =
    let full = (c.add.ensures.limit.0 (c.in-Err-Limit.is
    ∙ ap (λ e. Err e) c.in-Err-Limit.field-0-is)).1 in
    omega (
      arith,
      full,
      ap length c.requires.names,
      length-listed 0 c.args.k fresh_name,
      c.requires.few,
    )

pub returns-in-Ok : goal.returns-in-Ok
returns-in-Ok c =
    c.in-Ok.ensures.added ∙ ap (with_name (fresh_name c.args.k)) c.requires.names
    ∙ fresh-more c.args.k
