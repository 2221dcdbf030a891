use Rattle.std.proofs.Common.{◌≡◌, ◌+◌, ◌≤◌, ◌∷◌, List, [], length, IfSome, IfNone, sym, subst}
use Rattle.std.specs.List.{Contains}
use Rattle.fin_monitor.specs.Machines.{Machine}
use Rattle.tuple_walk.specs.Finds.{AreViolating, AllMeet}
use Rattle.tuple_walk.specs.JointPrefixes.{Row, IsJointPrefix}
use Rattle.rv_core.specs.Seen.{watched}
use Rattle.rv_core.proofs.Lone.{lone-steps}
use Rattle.rv_core.proofs.watch.Watch.find_alone.Goals as goal

pub find_alone-requires-clause-one : goal.find_alone-requires-clause-one
find_alone-requires-clause-one g c =
    let P : Machine → Type 0 = λ m. m.variables ≡ 1 in
    subst P (sym c.new-monitor.ensures) c.requires.one

pub returns-clause-found : goal.returns-clause-found
returns-clause-found g c =
    let P : Machine → Type 0 = λ m. IfSome c.find_alone.result
    (AreViolating m c.args.rule ((c.args.number, c.args.trace.now) ∷ [])) in
    subst P c.new-monitor.ensures c.find_alone.ensures.found

pub returns-clause-none : goal.returns-clause-none
returns-clause-none g c =
    let P : Machine → Type 0 = λ m. IfNone c.find_alone.result
    (AllMeet m c.args.rule (c.args.trace.now ∷ []) c.args.trace.now) in
    subst P c.new-monitor.ensures c.find_alone.ensures.none

pub returns-clause-bounded : goal.returns-clause-bounded
returns-clause-bounded g c bound is =
    let P : Machine → Type 0 = λ m. (prefixes : List (List Row)) → ((rows : List Row)
    → IsJointPrefix c.args.rule (c.args.trace.now ∷ []) c.args.trace.now m.variables rows
    → Contains prefixes rows) → c.find_alone.new.steps ≤ c.args.steps.now + length prefixes in
    lone-steps c.args.rule (watched c.args.self.now) c.args.trace.now c.requires.one
    (c.args.trace.now ∷ []) c.args.steps.now c.find_alone.new.steps
    (subst P c.new-monitor.ensures c.find_alone.ensures.bounded) bound is
