use Rattle.std.proofs.Common.{◌-◌, List, length, drop, subst, arith}
use Rattle.std.specs.Prelude.{ℤ}
use Rattle.std.proofs.lemmas.List.{take_all, length-drop}
use Rattle.sat_core.specs.Watches.{AllFalseBut}
use Rattle.sat_core.proofs.Covering.{found-in-front}
use Rattle.sat_core.proofs.watches.Watches.find.Goals as goal

pub returns : goal.returns
returns c =
    let P : List ℤ → Type 0 = λ d. AllFalseBut c.args.partial.now.literals d c.args.other in
    found-in-front c.args.partial.now.literals c.args.clause.now c.min-from.result c.args.other
    c.search-2.result
    (subst P (take_all (length c.args.clause.now - c.min-from.result)
    (drop c.min-from.result c.args.clause.now)
    (omega (arith, length-drop c.min-from.result c.args.clause.now))) c.in_default.ensures)
    c.search-2.ensures
