use Rattle.std.proofs.Common.{◌≡◌, ◌^◌, ◌<◌, get_or, sym, subst, ap, ◌∙◌, arith}
use Rattle.std.specs.Prelude.{ℤ, pos, neg_ℤ, unsigned_abs}
use Rattle.std.proofs.lemmas.Option.{get_or_from_slice_get}
use Rattle.sat_core.proofs.solver.Solver.opposite_at.Goals as goal

pub opposite-requires : goal.opposite-requires
opposite-requires c =
    let at : get_or c.args.self.now.partial.literals c.args.place (pos 0) ≡ c.at.result =
    get_or_from_slice_get c.args.self.now.partial.literals c.args.place c.at.result
    (pos 0) c.at.ensures in
    let P : ℤ → Type 0 = λ z. unsigned_abs z < 2 ^ 31 in
    let right = (c.requires.ready.trail.steps c.args.place c.requires.inside).right in
    subst P at (omega (arith, right.1, c.requires.ready.few_variables))

pub returns : goal.returns
returns c = c.opposite.ensures ∙ ap neg_ℤ (sym
    (get_or_from_slice_get c.args.self.now.partial.literals c.args.place c.at.result
    (pos 0) c.at.ensures))
