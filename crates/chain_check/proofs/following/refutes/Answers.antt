use Rattle.std.proofs.Common.{◌≡◌, ◌+◌, ℕ, List, [], ◌∷◌, ◌++◌, drop, sym, subst, ◌∙◌, ap}
use Rattle.chain_check.specs.Clauses.{Clause, AreLiterals}
use Rattle.chain_check.specs.Store.{Trues}
use Rattle.chain_check.specs.Chains.{Refutes}
use Rattle.chain_check.proofs.Passing.{numbered-there}
use Rattle.chain_check.proofs.Stepping.{stopped, at-end, onward, never, not-numbered, two-open}
use Rattle.chain_check.proofs.following.refutes.Goals as goal

pub returns-in_default-clause-exact : goal.returns-in_default-clause-exact
returns-in_default-clause-exact c =
    let all : List Clause = c.args.given.now ++ c.args.learned.now in (
      λ e. absurd (cc),
      λ h. absurd (stopped all c.args.partial.now.literals
          c.loop-i.partial.literals c.args.chain.now c.loop-i.i c.loop-i-test.true
          c.loop-i.invariant.1 (not-numbered all c.in_default.ensures) h),
    )

pub openness-requires : goal.openness-requires
openness-requires c =
    let P : ℕ → Type 0 = λ n. AreLiterals n c.in-Some.clause.now in
    subst P (sym c.loop-i.invariant.0) (c.requires c.in-Some.clause.now
    (numbered-there (c.args.given.now ++ c.args.learned.now) _ c.in-Some.clause.now
    c.in-Some.ensures))

pub returns-in-Nothing-clause-exact : goal.returns-in-Nothing-clause-exact
returns-in-Nothing-clause-exact c =
    at-end (c.args.given.now ++ c.args.learned.now) c.args.partial.now.literals
    c.loop-i.partial.literals c.args.chain.now c.loop-i.i c.loop-i-test.true
    c.loop-i.invariant.1 c.in-Some.clause.now c.in-Some.ensures c.in-Nothing.ensures

pub make_true-requires-clause-right : goal.make_true-requires-clause-right
make_true-requires-clause-right c =
    let P : ℕ → Type 0 = λ n. AreLiterals n c.in-Some.clause.now in
    let right : P c.loop-i.partial.variables =
    subst P (sym c.loop-i.invariant.0) (c.requires c.in-Some.clause.now
    (numbered-there (c.args.given.now ++ c.args.learned.now) _ c.in-Some.clause.now
    c.in-Some.ensures)) in
    right c.in-One.l c.in-One.ensures.there

pub returns-in-More-clause-exact : goal.returns-in-More-clause-exact
returns-in-More-clause-exact c =
    let all : List Clause = c.args.given.now ++ c.args.learned.now in
    let (l, m, two) = c.in-More.ensures in (
      λ e. absurd (cc),
      λ h. absurd (stopped all c.args.partial.now.literals
          c.loop-i.partial.literals c.args.chain.now c.loop-i.i c.loop-i-test.true
          c.loop-i.invariant.1 (two-open all c.in-Some.clause.now l m c.in-Some.ensures two) h),
    )

pub loop-i-preserved : goal.loop-i-preserved
loop-i-preserved c =
    let all : List Clause = c.args.given.now ++ c.args.learned.now in
    let made : Trues = record {
      variables = c.loop-i.partial.variables;
      literals =
          c.loop-i.partial.literals ++ c.in-One.l ∷ [];
    } in
    let new : c.make_true.new.self ≡ made = c.in_ok-make_true-in-One.ensures.made in
    let next = onward all c.args.partial.now.literals c.loop-i.partial.literals c.args.chain.now
    c.loop-i.i c.loop-i-test.true c.loop-i.invariant.1 c.in-Some.clause.now c.in-One.l
    c.in-Some.ensures c.in-One.ensures in
    let P : Trues → Type 0 = λ t. Refutes all t.literals (drop (c.loop-i.i + 1) c.args.chain.now) in (
      ap (λ t. t.variables) new ∙ c.loop-i.invariant.0,
      (λ h. next.0 (subst P new h), λ h. subst P (sym new) (next.1 h)),
    )

pub returns-clause-exact : goal.returns-clause-exact
returns-clause-exact c = (
  λ e. absurd (cc),
  λ h. absurd (never (c.args.given.now ++ c.args.learned.now)
      c.args.partial.now.literals c.loop-i.partial.literals c.args.chain.now c.loop-i.i
      c.loop-i-test.false c.loop-i.invariant.1 h),
)
