use Rattle.std.proofs.Common.{◌≡◌, List, Bool, sym, ◌∙◌, subst}
use Rattle.std.proofs.lemmas.Bool.{eqb-true}
use Rattle.fin_monitor.specs.Machines.{Machine}
use Rattle.rv_core.specs.Held.{spec_of}
use Rattle.rv_core.proofs.Keepings.{not-dropping}
use Rattle.rv_core.proofs.Seeing.{same-watched}
use Rattle.std.specs.List.{Contains}
use Rattle.std.proofs.lemmas.List.Elements.{Contains-push}
use Rattle.hy_finite.specs.Traces.{Trace}
use Rattle.trace_trie.specs.Numbered.{Numbered}
use Rattle.tuple_walk.specs.Finds.{AreViolating, AllMeet, traces_of}
use Rattle.rv_core.specs.declared.arrival.Outcome.TheVariants.{Passes, Violates}
use Rattle.rv_core.specs.Arrivals.{IsOutcome}
use Rattle.rv_core.specs.Seen.{watched}
use Rattle.rv_core.proofs.Outcomes.{numbers-below, leaders-pass, all-pass, walk-at, outcome-at}
use Rattle.rv_core.proofs.rv.Rv.new_outcome.Goals as goal

pub insert-requires : goal.insert-requires
insert-requires g c = numbers-below c.args.self.now c.args.spec _ c.at-kept.ensures

pub leaders-requires : goal.leaders-requires
leaders-requires g c = numbers-below c.args.self.now c.args.spec _ c.at-kept.ensures

pub find-requires : goal.find-requires
find-requires g c =
    let n = c.args.self.now.traces in
    let P : Trace → Type 0 = λ t. Contains c.in_ok-all.all (n, t) in
    let Q : List Numbered → Type 0 = λ ps. Contains ps (n, c.args.trace.now) in
    subst P (sym c.as_slice-letters.ensures)
    (subst Q (sym c.in_ok-all.ensures) (Contains-push c.at-kept.result.now (n, c.args.trace.now)))

pub returns-in-Some-clause-outcome : goal.returns-in-Some-clause-outcome
returns-in-Some-clause-outcome g c m there =
    let P : List Numbered → Type 0 =
    λ ps. AreViolating (watched c.at-watch.result.now) c.args.self.now.rule ps c.in-Some.tuple in
    outcome-at c.args.self.now c.args.trace.now c.args.spec _ _ c.at-watch.ensures c.at-kept.ensures
    m there (Violates c.in-Some.tuple) (subst P c.in_ok-all.ensures c.in-Some.ensures.found)

pub returns-in_ok-left-in-None-clause-outcome : goal.returns-in_ok-left-in-None-clause-outcome
returns-in_ok-left-in-None-clause-outcome g c m there =
    let rv = c.args.self.now in
    let t = c.args.trace.now in
    let w = c.at-watch.result.now in
    let old = c.at-kept.result.now in
    let made = c.in_ok-left-in-None.left in
    let P : Trace → Type 0 = AllMeet (watched w) rv.rule (traces_of c.in_ok-all.all) in
    let Q : Bool → Type 0 = λ b. IsOutcome rv.rule b (watched w) t rv.traces old (Passes made) in
    outcome-at rv t c.args.spec w old c.at-watch.ensures c.at-kept.ensures m there (Passes made)
    (subst Q (sym c.if-self.true)
    (leaders-pass rv.rule (watched w) rv.traces t old c.in_ok-all.all made
    (subst P c.as_slice-letters.ensures c.in-None.ensures.none) c.in_ok-all.ensures
    c.in_ok-left-in-None.ensures))

pub returns-in-None-2-clause-outcome : goal.returns-in-None-2-clause-outcome
returns-in-None-2-clause-outcome g c m there =
    let rv = c.args.self.now in
    let w = c.at-watch.result.now in
    let made = c.in_ok-all.all in
    let P : Trace → Type 0 = AllMeet (watched w) rv.rule (traces_of made) in
    let absent = c.requires.absent c.at-kept.result.now c.at-kept.ensures in
    let equal = not-dropping rv.drop_dominated (spec_of (watched w)) c.if-self.false
    (sym c.has_one_variable.ensures ∙ c.if-has_one_variable.false) in
    outcome-at c.args.self.now c.args.trace.now c.args.spec _ _ c.at-watch.ensures c.at-kept.ensures
    m there (Passes made)
    (all-pass rv.rule (watched w) rv.traces c.args.trace.now c.at-kept.result.now absent
    rv.drop_dominated equal made (subst P c.as_slice-letters.ensures c.in-None.ensures.none)
    c.in_ok-all.ensures)

pub returns-in-Some-clause-bounded : goal.returns-in-Some-clause-bounded
returns-in-Some-clause-bounded g c =
    walk-at c.args.self.now c.args.trace.now c.args.spec _ _ c.at-watch.ensures c.at-kept.ensures
    c.requires.absent _ _ c.args.steps.now c.find.new.steps c.in_ok-all.ensures
    c.as_slice-letters.ensures c.find.ensures.bounded

pub returns-in_err-left-in-None-clause-bounded : goal.returns-in_err-left-in-None-clause-bounded
returns-in_err-left-in-None-clause-bounded g c =
    walk-at c.args.self.now c.args.trace.now c.args.spec _ _ c.at-watch.ensures c.at-kept.ensures
    c.requires.absent _ _ c.args.steps.now c.find.new.steps c.in_ok-all.ensures
    c.as_slice-letters.ensures c.find.ensures.bounded

pub returns-in_ok-left-in-None-clause-bounded : goal.returns-in_ok-left-in-None-clause-bounded
returns-in_ok-left-in-None-clause-bounded g c =
    walk-at c.args.self.now c.args.trace.now c.args.spec _ _ c.at-watch.ensures c.at-kept.ensures
    c.requires.absent _ _ c.args.steps.now c.find.new.steps c.in_ok-all.ensures
    c.as_slice-letters.ensures c.find.ensures.bounded

pub returns-in-None-2-clause-bounded : goal.returns-in-None-2-clause-bounded
returns-in-None-2-clause-bounded g c =
    walk-at c.args.self.now c.args.trace.now c.args.spec _ _ c.at-watch.ensures c.at-kept.ensures
    c.requires.absent _ _ c.args.steps.now c.find.new.steps c.in_ok-all.ensures
    c.as_slice-letters.ensures c.find.ensures.bounded

pub lone_outcome-requires-clause-one : goal.lone_outcome-requires-clause-one
lone_outcome-requires-clause-one g c m there =
    let rv = c.args.self.now in
    let w = c.at-watch.result.now in
    let P : Machine → Type 0 = λ q. q.variables ≡ 1 in
    subst P (same-watched rv.watches c.args.spec w m c.at-watch.ensures there)
    (eqb-true (watched w).variables 1 (sym c.has_one_variable.ensures ∙ c.if-has_one_variable.true))
