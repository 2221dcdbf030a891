use Rattle.std.proofs.Common.{◌≡◌, [], ◌∷◌, ◌++◌, get_or, take, sym, ap, ◌∙◌, subst, rules, arith}
use Rattle.std.proofs.lemmas.List.{take_more, take_all}
use Rattle.std.proofs.lemmas.Bool.{both_ways, ltb-true, lt-ltb}
use Rattle.chain_check.specs.Clauses.{Clause, IsLiteral, AreLiterals}
use Rattle.chain_check.proofs.Marking.{literals-more}
use Rattle.chain_check.proofs.clauses.Cnf.takes.Goals as goal

pub loop-number-preserved : goal.loop-number-preserved
loop-number-preserved c =
    let at : get_or c.args.clause.now c.loop-number.number-index c.new.result ≡ c.new.result =
    search rules in
    let right : IsLiteral c.args.self.now.variables c.new.result =
    c.is_of.ensures.0 c.if-not-is_of.false in
    let P : Clause → Type 0 = AreLiterals c.args.self.now.variables in
    subst P (sym (take_more c.args.clause.now c.loop-number.number-index c.new.result
    c.loop-number-test.true ∙ ap (λ z. take c.loop-number.number-index c.args.clause.now ++ z ∷
    []) at))
    (literals-more c.args.self.now.variables (take c.loop-number.number-index c.args.clause.now)
    c.new.result c.loop-number.invariant right)

pub returns-then-not-is_of : goal.returns-then-not-is_of
returns-then-not-is_of c =
    let at : get_or c.args.clause.now c.loop-number.number-index c.new.result ≡ c.new.result =
    search rules in (
      λ e. absurd (cc),
      λ both. absurd (both_ways c.is_of.result c.if-not-is_of.true
          (c.is_of.ensures.1 (both.0 c.new.result
          (c.loop-number.number-index, c.loop-number-test.true, at)))),
    )

pub returns : goal.returns
returns c =
    let P : Clause → Type 0 = AreLiterals c.args.self.now.variables in
    let all : P c.args.clause.now = subst P (take_all c.loop-number.number-index c.args.clause.now
    c.loop-number-test.false) c.loop-number.invariant in (
      λ e. (all, omega (arith, ltb-true c.len.result 2147483647 e, c.len.ensures)),
      λ both. lt-ltb c.len.result 2147483647 (omega (arith, both.1, c.len.ensures)),
    )
