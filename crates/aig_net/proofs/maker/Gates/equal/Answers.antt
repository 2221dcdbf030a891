use Rattle.std.proofs.Common.{ℕ, List, ap, ◌∙◌}
use Rattle.std.proofs.lemmas.Result.{err_from_is_err_and}
use Rattle.aig_net.specs.declared.parts.And.{And}
use Rattle.aig_net.specs.Wires.{Wire, literal, opposed, both, equal, made}
use Rattle.aig_net.proofs.Making.{begins-both, begins-left, begins-none}
use Rattle.aig_net.proofs.maker.Gates.equal.Goals as goal

pub returns-in_err-only_first-clause-refused : goal.returns-in_err-only_first-clause-refused
returns-in_err-only_first-clause-refused c =
    let p = err_from_is_err_and c.from_residual.result c.from_residual.ensures.1 in
    rw p.1
    (begins-none c.args.self.now.first c.args.self.now.ands
    (equal (literal c.args.a) (literal c.args.b)) _
    (ap (λ g. g.ands) c.in_err-only_first.ensures.refused))

pub returns-in_err-only_second-clause-refused : goal.returns-in_err-only_second-clause-refused
returns-in_err-only_second-clause-refused c =
    let p = err_from_is_err_and c.from_residual-in_err-only_second.result
    c.from_residual-in_err-only_second.ensures.1 in
    let first : ℕ = c.args.self.now.first in
    let old : List And = c.args.self.now.ands in
    rw p.1
    (begins-left first old (opposed (both (literal c.args.a) (opposed (literal c.args.b))))
    (opposed (both (opposed (literal c.args.a)) (literal c.args.b))) _
    (ap (λ g. g.ands) c.in_err-only_second.ensures.refused ∙ c.in_ok-only_first.ensures.made.ands
    ∙ ap (λ l. (made first old (both (literal c.args.a) (literal l))).ands) c.opposite_of.ensures))

pub returns-in_err-differ-clause-refused : goal.returns-in_err-differ-clause-refused
returns-in_err-differ-clause-refused c =
    let p = err_from_is_err_and c.from_residual-in_err-differ.result
    c.from_residual-in_err-differ.ensures.1 in
    let first : ℕ = c.args.self.now.first in
    let old : List And = c.args.self.now.ands in
    let x : Wire = opposed (both (literal c.args.a) (opposed (literal c.args.b))) in
    let then : ℕ → List And → ℕ → List And = λ f ands l.
    (made f ands (both (literal l) (literal c.args.b))).ands in
    rw p.1
    (begins-both first old x (opposed (both (opposed (literal c.args.a)) (literal c.args.b))) _
    (ap (λ g. g.ands) c.in_err-differ.ensures.refused ∙ c.in_ok-only_second.ensures.made.ands
    ∙ ap (λ f. then f c.both.new.self.ands c.opposite_of-2.result) c.in_ok-only_first.ensures.first
    ∙ ap (λ ands. then first ands c.opposite_of-2.result)
    (c.in_ok-only_first.ensures.made.ands
    ∙ ap (λ l. (made first old (both (literal c.args.a) (literal l))).ands) c.opposite_of.ensures)
    ∙ ap (then first (made first old x).ands) c.opposite_of-2.ensures))
