use Rattle.std.proofs.Common.{true, map, set, nat_eq, ap, ◌∙◌, arith}
use Rattle.std.proofs.lemmas.List.{map-set}
use Rattle.std.proofs.lemmas.Bool.{eq-eqb}
use Rattle.sat_core.proofs.marks.Marks.mark.Goals as goal

pub returns : goal.returns
returns c =
    map-set (λ s. nat_eq s c.self.inside.today) c.self.inside.stamps.items c.args.place
    c.self.inside.today ∙
    ap (λ b. set (map (λ s. nat_eq s c.self.inside.today) c.self.inside.stamps.items) c.args.place
    b) (eq-eqb c.self.inside.today c.self.inside.today (omega arith)) ∙
    ap (λ xs. set xs c.args.place true) c.self.view_is
