use Rattle.std.proofs.Common.{ap, subst}
use Rattle.hy_words.specs.Found.{listed_slice}
use Rattle.ea_tool.specs.declared.verdict.Question.TheVariants.{Judge, Decide, Relate}
use Rattle.ea_tool.specs.declared.verdict.Relation.TheVariants.{Implication, Equivalence}
use Rattle.ea_tool.specs.Words.{IsEngine}
use Rattle.ea_tool.proofs.Asking.{asks_of, named, no_engine}
use Rattle.ea_tool.proofs.words.asking.Goals as goal

pub returns-in-None-None-None-default-clause-some : goal.returns-in-None-None-None-default-clause-some
returns-in-None-None-None-default-clause-some c = λ items tells.
    let w = c.in-None-None-None-default in
    named items (Decide c.in_ok-engine.engine c.has-proof.result) _ _ c.one.ensures
    (asks_of items c.args.found.now tells c.args.formula.now c.requires.file c.value-on.result c.value-implies.result c.value-equivalent.result
    c.value-on.ensures c.value-implies.ensures c.value-equivalent.ensures _ (c.in_ok-engine.ensures.some items tells)
    _ c.has-proof.ensures c.requires.unbounded _ _ _ (ap listed_slice w.is-0) (ap listed_slice w.is-1) (ap listed_slice w.is-2))

pub returns-in-Some-None-None-Branches-clause-some : goal.returns-in-Some-None-None-Branches-clause-some
returns-in-Some-None-None-Branches-clause-some c = λ items tells.
    let w = c.in-Some-None-None-Branches in
    named items Judge _ _ c.two-in-Some-None-None-Branches.ensures (
      w.states-3,
      c.has-proof.result,
      asks_of items c.args.found.now tells c.args.formula.now c.requires.file c.value-on.result c.value-implies.result c.value-equivalent.result
          c.value-on.ensures c.value-implies.ensures c.value-equivalent.ensures _ (subst (IsEngine items) w.is-3 (c.in_ok-engine.ensures.some items tells))
          _ c.has-proof.ensures c.requires.unbounded _ _ _ (ap listed_slice w.is-0) (ap listed_slice w.is-1) (ap listed_slice w.is-2),
    )

pub returns-in-None-Some-None-default-clause-some : goal.returns-in-None-Some-None-default-clause-some
returns-in-None-Some-None-default-clause-some c = λ items tells.
    let w = c.in-None-Some-None-default in
    named items (Relate Implication c.in_ok-engine.engine c.has-proof.result) _ _ c.two-in-None-Some-None-default.ensures
    (asks_of items c.args.found.now tells c.args.formula.now c.requires.file c.value-on.result c.value-implies.result c.value-equivalent.result
    c.value-on.ensures c.value-implies.ensures c.value-equivalent.ensures _ (c.in_ok-engine.ensures.some items tells)
    _ c.has-proof.ensures c.requires.unbounded _ _ _ (ap listed_slice w.is-0) (ap listed_slice w.is-1) (ap listed_slice w.is-2))

pub returns-in-None-None-Some-default-clause-some : goal.returns-in-None-None-Some-default-clause-some
returns-in-None-None-Some-default-clause-some c = λ items tells.
    let w = c.in-None-None-Some-default in
    named items (Relate Equivalence c.in_ok-engine.engine c.has-proof.result) _ _ c.two.ensures
    (asks_of items c.args.found.now tells c.args.formula.now c.requires.file c.value-on.result c.value-implies.result c.value-equivalent.result
    c.value-on.ensures c.value-implies.ensures c.value-equivalent.ensures _ (c.in_ok-engine.ensures.some items tells)
    _ c.has-proof.ensures c.requires.unbounded _ _ _ (ap listed_slice w.is-0) (ap listed_slice w.is-1) (ap listed_slice w.is-2))

pub returns-in_err-engine-clause-none : goal.returns-in_err-engine-clause-none
returns-in_err-engine-clause-none c =
    rw c.from_residual.ensures
    (λ items question files tells. no_engine items c.args.found.now tells c.requires.unbounded c.in_err-engine.ensures.none question files)
