use Rattle.std.proofs.Common.{◌+◌, ◌≤◌, List, length, IfSome, IfNone, sym, subst}
use Rattle.std.specs.List.{Contains}
use Rattle.fin_monitor.specs.Machines.{Machine}
use Rattle.tuple_walk.specs.Finds.{AreViolating, AllMeet, FirstMeet, traces_of}
use Rattle.tuple_walk.specs.JointPrefixes.{Row, IsJointPrefix, IsFirstPrefix}
use Rattle.rv_core.specs.Seen.{watched}
use Rattle.rv_core.proofs.Turning.{all-meet}
use Rattle.rv_core.proofs.Places.{none-more}
use Rattle.rv_core.proofs.Bounding.{first-bound, joint-bound}
use Rattle.rv_core.proofs.watch.Watch.find.Goals as goal

pub find_first-requires-clause-some : goal.find_first-requires-clause-some
find_first-requires-clause-some g c =
    let P : Machine → Type 0 = λ m. 1 ≤ m.variables in
    subst P (sym c.new-monitor.ensures) c.args.self.now.some

pub find-requires-clause-some : goal.find-requires-clause-some
find-requires-clause-some g c =
    let P : Machine → Type 0 = λ m. 1 ≤ m.variables in
    subst P (sym c.new-monitor.ensures) c.args.self.now.some

pub returns-then-self-clause-found : goal.returns-then-self-clause-found
returns-then-self-clause-found g c =
    let P : Machine → Type 0 =
    λ m. IfSome c.find_first.result (AreViolating m c.args.rule c.args.kept.now) in
    subst P c.new-monitor.ensures c.find_first.ensures.found

pub returns-then-self-clause-none : goal.returns-then-self-clause-none
returns-then-self-clause-none g c =
    let P : Machine → Type 0 = λ m. IfNone c.find_first.result
    (FirstMeet m c.args.rule (traces_of c.args.kept.now) c.args.trace.now) in
    none-more c.find_first.result
    (all-meet (watched c.args.self.now) c.args.rule c.args.kept.now c.args.trace.now
    (c.args.self.now.turns c.if-self.true) c.numbers_ascend.ensures.traces)
    (subst P c.new-monitor.ensures c.find_first.ensures.none)

pub returns-then-self-clause-bounded : goal.returns-then-self-clause-bounded
returns-then-self-clause-bounded g c bound is =
    let P : Machine → Type 0 = λ m. (prefixes : List (List Row)) → ((rows : List Row)
    → IsFirstPrefix c.args.rule (traces_of c.args.kept.now) c.args.trace.now m.variables rows
    → Contains prefixes rows) → c.find_first.new.steps ≤ c.args.steps.now + length prefixes in
    first-bound c.args.rule (watched c.args.self.now) (traces_of c.args.kept.now)
    c.args.trace.now c.args.steps.now c.find_first.new.steps c.args.self.now.some
    (subst P c.new-monitor.ensures c.find_first.ensures.bounded) bound is

pub returns-else-self-clause-found : goal.returns-else-self-clause-found
returns-else-self-clause-found g c =
    let P : Machine → Type 0 =
    λ m. IfSome c.find.result (AreViolating m c.args.rule c.args.kept.now) in
    subst P c.new-monitor.ensures c.find.ensures.found

pub returns-else-self-clause-none : goal.returns-else-self-clause-none
returns-else-self-clause-none g c =
    let P : Machine → Type 0 = λ m. IfNone c.find.result
    (AllMeet m c.args.rule (traces_of c.args.kept.now) c.args.trace.now) in
    subst P c.new-monitor.ensures c.find.ensures.none

pub returns-else-self-clause-bounded : goal.returns-else-self-clause-bounded
returns-else-self-clause-bounded g c bound is =
    let P : Machine → Type 0 = λ m. (prefixes : List (List Row)) → ((rows : List Row)
    → IsJointPrefix c.args.rule (traces_of c.args.kept.now) c.args.trace.now m.variables rows
    → Contains prefixes rows) → c.find.new.steps ≤ c.args.steps.now + length prefixes in
    joint-bound c.args.self.now.symmetric c.args.rule (watched c.args.self.now)
    (traces_of c.args.kept.now) c.args.trace.now c.args.steps.now c.find.new.steps
    c.args.self.now.some c.if-self.false c.args.self.now.exact
    (subst P c.new-monitor.ensures c.find.ensures.bounded) bound is
