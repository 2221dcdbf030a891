use Rattle.std.proofs.Common.{◌++◌, List, [], ◌∷◌, ℕ, sym, ap, ◌∙◌, subst}
use Rattle.hy_formula.specs.Trees.{tree_of}
use Rattle.ltl_closure.specs.Jobs.{IsIdentity}
use Rattle.ltl_closure.proofs.OneBody.{few, is-closure, made, too-many}
use Rattle.ltl_closure.proofs.closure.Closure.of_body.Goals as goal

pub returns-then-numbering-clause-limit : goal.returns-then-numbering-clause-limit
returns-then-numbering-clause-limit c _ =
    let P : List ℕ → Type 0 = λ m. IsIdentity m c.args.variables in
    too-many (tree_of c.args.body.now) c.args.positive c.args.variables c.requires
    c.as_slice.result.now (subst P (sym c.as_slice.ensures) c.in_ok-map.ensures)
    c.new-numbering.result c.visit.new.self c.in_ok-root.root c.new-numbering.ensures.none
    c.new-numbering.ensures.room c.in_ok-root.ensures.visited c.if-numbering.true

pub invariant_of-result : goal.invariant_of-result
invariant_of-result c =
    let P : List ℕ → Type 0 = λ m. IsIdentity m c.args.variables in
    is-closure (tree_of c.args.body.now) c.args.positive c.args.variables c.requires
    c.as_slice.result.now (subst P (sym c.as_slice.ensures) c.in_ok-map.ensures)
    c.new-numbering.result c.visit.new.self c.in_ok-root.root c.new-numbering.ensures.none
    c.new-numbering.ensures.room c.in_ok-root.ensures.visited c.if-numbering.false
    c.visit.ensures.few c.push.new.self
    (c.in_ok-push.ensures.added ∙ ap (λ (l : List ℕ). l ++ c.from.result ∷ []) c.new-roots.ensures
    ∙ ap (λ x. x ∷ []) c.from.ensures)

pub returns-clause-closure : goal.returns-clause-closure
returns-clause-closure c =
    let P : List ℕ → Type 0 = λ m. IsIdentity m c.args.variables in
    made (tree_of c.args.body.now) c.args.positive c.args.variables c.requires
    c.as_slice.result.now (subst P (sym c.as_slice.ensures) c.in_ok-map.ensures)
    c.new-numbering.result c.visit.new.self c.in_ok-root.root c.new-numbering.ensures.none
    c.new-numbering.ensures.room c.in_ok-root.ensures.visited c.if-numbering.false c.push.new.self
    (c.in_ok-push.ensures.added ∙ ap (λ (l : List ℕ). l ++ c.from.result ∷ []) c.new-roots.ensures
    ∙ ap (λ x. x ∷ []) c.from.ensures)

pub returns-clause-few : goal.returns-clause-few
returns-clause-few c =
    let P : List ℕ → Type 0 = λ m. IsIdentity m c.args.variables in
    few (tree_of c.args.body.now) c.args.positive c.args.variables c.requires
    c.as_slice.result.now (subst P (sym c.as_slice.ensures) c.in_ok-map.ensures)
    c.new-numbering.result c.visit.new.self c.in_ok-root.root c.new-numbering.ensures.none
    c.new-numbering.ensures.room c.in_ok-root.ensures.visited c.if-numbering.false
    c.visit.ensures.few
