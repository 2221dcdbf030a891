use Rattle.std.proofs.Common.{◌≡◌, None, Some, IsTrue, ap, sym, subst, ◌∙◌}
use Rattle.hy_formula.specs.Names.{place_of, are_distinct}
use Rattle.hy_formula.proofs.Names.{place_of-push, are_distinct-push}
use Rattle.hy_formula.proofs.name_table.NameTable.add.Goals as goal

-- the name was not there
is_new : (c : goal.In_ok-push) → place_of c.args.name.now c.args.self.now ≡ None
is_new c = sym c.find.ensures.place ∙ c.in_default.is

pub returns-clause-place : goal.returns-clause-place
returns-clause-place c =
    ap (place_of c.args.name.now) c.in_ok-push.ensures.added
    ∙ place_of-push c.args.name.now c.args.self.now (is_new c)
    ∙ ap Some (sym c.len-place.ensures.len)

pub returns-clause-distinct : goal.returns-clause-distinct
returns-clause-distinct c =
    subst (λ names. IsTrue (are_distinct names)) (sym c.in_ok-push.ensures.added)
    (are_distinct-push c.args.name.now c.args.self.now (is_new c) c.len-place.ensures.distinct)
