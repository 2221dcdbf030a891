use Rattle.std.proofs.Common.{◌≡◌, true, is_some, rules, refl}
use Rattle.ea_reduce.proofs.Maps.{maps-mapped, few-maps, many-maps}
use Rattle.ea_reduce.proofs.Jobs.{maps-below}
use Rattle.ea_reduce.proofs.instances.job.Goals as goal

pub returns-clause-mapped : goal.returns-clause-mapped
returns-clause-mapped c =
    maps-mapped c.args.vars c.args.next c.args.quants.now _ _ _ c.requires.bound c.in_ok-maps_of.ensures c.in_ok-copy.ensures

pub returns-clause-below : goal.returns-clause-below
returns-clause-below c = λ le. maps-below c.args.vars c.args.next c.args.quants.now _ _ _ c.requires.some le c.in_ok-maps_of.ensures

pub returns-clause-few : goal.returns-clause-few
returns-clause-few c =
    let some : is_some c.instances.result ≡ true = search rules in
    few-maps c.args.vars c.args.next c.args.quants.now c.instances.result c.instances.ensures some

pub returns-then-is_none-clause-refused : goal.returns-then-is_none-clause-refused
returns-then-is_none-clause-refused c =
    (refl, many-maps c.args.vars c.args.next c.args.quants.now c.instances.result c.instances.ensures c.if-is_none.ensures)
