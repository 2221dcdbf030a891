use Rattle.std.proofs.Common.{◌↔◌, IsTrue, sym, ◌∙◌, subst}
use Rattle.tuple_walk.specs.declared.place.Taken.{Taken}
use Rattle.tuple_walk.specs.Serving.{Agrees}
use Rattle.tuple_walk.proofs.Coming.{same-first}
use Rattle.tuple_walk.proofs.place.Place.agrees.Goals as goal

pub returns-then-not-is_empty : goal.returns-then-not-is_empty
returns-then-not-is_empty c =
    let P : Taken → Type 0 = λ k. IsTrue c.same.result ↔ Agrees k c.args.rest.now in
    subst P (sym c.in-Letter.is)
    (same-first c.in-Letter.letter c.index-rest-0.result c.args.rest.now c.same.result
    c.same.ensures c.index-rest-0.is (sym c.is_empty.ensures ∙ c.if-not-is_empty.true))
