use Rattle.std.proofs.Common.{◌≡◌, ◌<◌, ◌++◌, ◌∷◌, [], None, length, ap, ◌∙◌}
use Rattle.hy_formula.specs.Names.{place_of}
use Rattle.hy_formula.specs.KeptNames.{kept_names}
use Rattle.hy_formula.proofs.KeptNames.{kept-push, IsTable-push}
use Rattle.hy_formula.proofs.name_table.NameTable.push.Goals as goal

-- the names are those of before and the new one
names_are : (c : goal.In_ok-insert) → kept_names c.insert.new.self.keys ≡ kept_names c.self.inside.names.keys ++ c.args.name.now ∷ []
names_are c =
    kept-push _ _ c.extend_from_slice.new.self c.insert.new.self.keys
    (c.in_ok-extend_from_slice.ensures.items ∙ ap (λ xs. xs ++ c.args.name.now) c.new-owned.ensures.items)
    (ap (place_of c.args.name.now) c.self.view_is ∙ c.requires.new)
    c.in_ok-insert.ensures.keys

pub invariant_of-self-2 : goal.invariant_of-self-2
invariant_of-self-2 c =
    let none : place_of c.args.name.now (kept_names c.self.inside.names.keys) ≡ None = ap (place_of c.args.name.now) c.self.view_is ∙ c.requires.new in
    let room : length (kept_names c.self.inside.names.keys) < 64 = rw c.self.view_is c.requires.room in
    IsTable-push c.args.name.now _ _ (names_are c) none room c.self.invariant

pub returns-clause-added : goal.returns-clause-added
returns-clause-added c = names_are c ∙ ap (λ names. names ++ c.args.name.now ∷ []) c.self.view_is
