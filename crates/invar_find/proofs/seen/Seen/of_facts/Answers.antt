use Rattle.std.proofs.Common.{ℕ, List, sym, subst}
use Rattle.cnf_frames.specs.declared.facts.Fact.{Fact}
use Rattle.cnf_frames.specs.Facts.{AllIn}
use Rattle.invar_find.specs.Standing.{HasAdded}
use Rattle.invar_find.proofs.Standings.{added-more}
use Rattle.invar_find.proofs.seen.Seen.of_facts.Goals as goal

pub loop-fact-preserved : goal.loop-fact-preserved
loop-fact-preserved c =
    let A : List Fact → Type 0 = AllIn c.args.latches in
    let N : ℕ → Type 0 = λ n. HasAdded n c.loop-fact.seen c.add.new.self c.fact-item.result in
    let added : HasAdded c.args.latches c.loop-fact.seen c.add.new.self c.fact-item.result =
    subst N c.loop-fact.invariant.of.ones c.in_ok-add.ensures in
    let more = added-more c.args.latches c.loop-fact.fact-index c.as_slice-fact-items.result.now
    c.fact-item.result c.loop-fact.seen c.add.new.self
    (subst A (sym c.as_slice-fact-items.ensures) c.requires.inside) c.loop-fact-test.true
    c.fact-item.is c.loop-fact.invariant.others c.loop-fact.invariant.stand added in
    record { of = added.still; others = more.0; stand = more.1 }
