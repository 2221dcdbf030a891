use Rattle.std.proofs.Common.{ℕ, List, ap, ◌∙◌}
use Rattle.std.proofs.lemmas.Result.{err_from_is_err_and}
use Rattle.aig_net.specs.declared.parts.And.{And}
use Rattle.aig_net.specs.Wires.{Wire, literal, opposed, both, choice, made}
use Rattle.aig_net.proofs.Making.{begins-both, begins-left, begins-none, on-refusal}
use Rattle.aig_net.proofs.maker.Gates.choose.Goals as goal

pub returns-in_err-on_true-clause-refused : goal.returns-in_err-on_true-clause-refused
returns-in_err-on_true-clause-refused c =
    let p = err_from_is_err_and c.from_residual.result c.from_residual.ensures.1 in
    rw p.1
    (begins-none c.args.self.now.first c.args.self.now.ands (choice c.args.test c.args.a c.args.b) _
    (ap (λ g. g.ands) c.in_err-on_true.ensures.refused))

pub returns-in_err-on_false-clause-refused : goal.returns-in_err-on_false-clause-refused
returns-in_err-on_false-clause-refused c =
    let p = err_from_is_err_and c.from_residual-in_err-on_false.result
    c.from_residual-in_err-on_false.ensures.1 in
    rw p.1
    (begins-left c.args.self.now.first c.args.self.now.ands
    (opposed (both (literal c.args.test) (literal c.args.a)))
    (opposed (both (opposed (literal c.args.test)) (literal c.args.b))) _
    (ap (λ g. g.ands) c.in_err-on_false.ensures.refused ∙ c.in_ok-on_true.ensures.made.ands))

pub returns-clause-refused : goal.returns-clause-refused
returns-clause-refused c =
    let first : ℕ = c.args.self.now.first in
    let x : Wire = opposed (both (literal c.args.test) (literal c.args.a)) in
    let then : ℕ → List And → ℕ → List And = λ f ands l.
    (made f ands (both (literal l) (literal c.args.b))).ands in
    on-refusal c.either.result (λ same.
    begins-both first c.args.self.now.ands x
    (opposed (both (opposed (literal c.args.test)) (literal c.args.b))) _
    (ap (λ g. g.ands) same ∙ c.in_ok-on_false.ensures.made.ands
    ∙ ap (λ f. then f c.both.new.self.ands c.opposite_of.result) c.in_ok-on_true.ensures.first
    ∙ ap (λ ands. then first ands c.opposite_of.result) c.in_ok-on_true.ensures.made.ands
    ∙ ap (then first (made first c.args.self.now.ands x).ands) c.opposite_of.ensures))
    c.either.ensures.refused
