use Rattle.std.proofs.Common.{◌≡◌, ◌+◌, ℕ, List, [], ◌∷◌, ◌++◌, get_or, take, arith, rules, sym, subst, ◌∙◌, ap}
use Rattle.std.specs.Prelude.{ℤ, neg_ℤ}
use Rattle.std.specs.List.{Contains}
use Rattle.std.proofs.lemmas.List.{take_more, take_all}
use Rattle.std.proofs.lemmas.Bool.{both_ways}
use Rattle.chain_check.specs.Clauses.{IsLiteral}
use Rattle.chain_check.specs.Store.{Trues}
use Rattle.chain_check.proofs.Opposing.{IsOpposed, opposed-more, clash}
use Rattle.chain_check.proofs.following.oppose.Goals as goal

pub returns-then-is_true-clause-refused : goal.returns-then-is_true-clause-refused
returns-then-is_true-clause-refused c =
    let at : get_or c.args.clause.now c.loop-number.number-index c.new-l.result ≡ c.new-l.result =
    search rules in
    let there : Contains c.loop-number.partial.literals c.new-l.result =
    c.is_true.ensures.0 c.if-is_true.true in
    let here : Contains c.args.clause.now c.new-l.result =
    (c.loop-number.number-index, c.loop-number-test.true, at) in
    λ right apart. absurd (clash c.loop-number.partial.variables c.loop-number.partial.literals
    c.args.clause.now c.loop-number.number-index c.new-l.result c.loop-number.invariant.1 there
    here apart)

pub opposite-requires : goal.opposite-requires
opposite-requires c =
    let right : IsLiteral c.variables-variables.result c.new-l.result =
    c.is_of.ensures.0 c.if-not-is_of.false in
    omega (arith, right.1, c.variables-variables.ensures.few)

pub loop-number-preserved : goal.loop-number-preserved
loop-number-preserved c =
    let made : Trues = record {
      variables = c.loop-number.partial.variables;
      literals =
          c.loop-number.partial.literals ++ neg_ℤ c.new-l.result ∷ [];
    } in
    let opp : c.opposite.result ≡ neg_ℤ c.new-l.result = c.opposite.ensures in
    let new : c.make_true.new.self ≡ made = c.in_ok-make_true.ensures.made ∙
    ap (λ z. let t : Trues = record {
      variables = c.loop-number.partial.variables;
      literals =
          c.loop-number.partial.literals ++ z ∷ [];
    } in t) opp in
    let P : ℕ → Type 0 = λ n. IsLiteral n c.new-l.result in
    let right : P c.loop-number.partial.variables =
    subst P (c.variables-variables.ensures.value ∙ sym c.loop-number.invariant.0)
    (c.is_of.ensures.0 c.if-not-is_of.false) in
    let none : ¬ Contains c.loop-number.partial.literals c.new-l.result =
    λ h. both_ways c.is_true.result c.if-is_true.false (c.is_true.ensures.1 h) in
    let at : get_or c.args.clause.now c.loop-number.number-index c.new-l.result ≡ c.new-l.result =
    search rules in
    let more : take (c.loop-number.number-index + 1) c.args.clause.now ≡ take
    c.loop-number.number-index c.args.clause.now ++ c.new-l.result ∷ [] =
    take_more c.args.clause.now c.loop-number.number-index c.new-l.result c.loop-number-test.true ∙
    ap (λ z. take c.loop-number.number-index c.args.clause.now ++ z ∷ []) at in
    let Q : List ℤ → Type 0 = λ d. IsOpposed c.loop-number.partial.variables
    (c.loop-number.partial.literals ++ neg_ℤ c.new-l.result ∷ []) d in
    let R : Trues → Type 0 = λ t. IsOpposed t.variables t.literals
    (take (c.loop-number.number-index + 1) c.args.clause.now) in (
      ap (λ t. t.variables) new ∙ c.loop-number.invariant.0,
      subst R (sym new) (subst Q (sym more)
          (opposed-more c.loop-number.partial.variables c.loop-number.partial.literals
          (take c.loop-number.number-index c.args.clause.now) c.new-l.result
          c.loop-number.invariant.1
          right none)),
    )

pub returns-clause-made : goal.returns-clause-made
returns-clause-made c yes' =
    let P : List ℤ → Type 0 = λ d. IsOpposed c.loop-number.partial.variables
    c.loop-number.partial.literals d in
    let all : P c.args.clause.now = subst P (take_all c.loop-number.number-index c.args.clause.now
    c.loop-number-test.false) c.loop-number.invariant.1 in
    (all.listed, all.right, all.apart)
