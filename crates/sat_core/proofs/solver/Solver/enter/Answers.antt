use Rattle.std.proofs.Common.{List, sym, ap, subst}
use Rattle.std.specs.Prelude.{ℤ}
use Rattle.std.specs.List.{Contains}
use Rattle.std.proofs.lemmas.Bool.{both_ways}
use Rattle.std.proofs.lemmas.List.Elements.{Contains-push}
use Rattle.chain_check.specs.Clauses.{Clause}
use Rattle.chain_check.specs.Chains.{AllFalseIn}
use Rattle.sat_core.proofs.Covering.{left-unit}
use Rattle.sat_core.proofs.Propagating.{unit-step, goes-nowhere}
use Rattle.sat_core.proofs.Rewinding.{all-false, entered-place, entered-small, entered-two, entered-one}
use Rattle.sat_core.proofs.Visiting.{literals-read, clause-is, conflict-at}
use Rattle.sat_core.proofs.solver.Solver.enter.Goals as goal

pub replacement-requires : goal.replacement-requires
replacement-requires c = literals-read c.args.self.now c.requires.ready c.args.place
    c.requires.place c.clause-clause.result.now c.clause-clause.ensures

pub returns-in_default-clause-watching : goal.returns-in_default-clause-watching
returns-in_default-clause-watching c =
    let P : Clause → Type 0 = AllFalseIn c.args.self.now.partial.literals in
    conflict-at c.args.self.now c.args.place c.requires.place
    (subst P (sym (clause-is c.args.self.now.clauses c.args.place c.clause-clause.result.now
    c.clause-clause.ensures)) (all-false c.args.self.now.partial.variables
    c.args.self.now.partial.literals c.clause-clause.result.now c.new.result c.new.ensures
    (literals-read c.args.self.now c.requires.ready c.args.place c.requires.place
    c.clause-clause.result.now c.clause-clause.ensures) c.in_default.ensures))

pub replacement-requires-2 : goal.replacement-requires-2
replacement-requires-2 c = literals-read c.args.self.now c.requires.ready c.args.place
    c.requires.place c.clause-clause.result.now c.clause-clause.ensures

pub add-requires-clause-first : goal.add-requires-clause-first
add-requires-clause-first c = entered-small c.args.self.now c.args.watches.now c.args.place
    c.requires.ready c.requires.place c.requires.watching c.requires.next
    c.clause-clause.result.now c.clause-clause.ensures c.new.result c.in-Some.first
    c.in-Some.ensures c.in-Some.first c.in-Some.ensures.there

pub add-requires-clause-first_inside : goal.add-requires-clause-first_inside
add-requires-clause-first_inside c = entered-place c.args.self.now c.args.watches.now c.args.place
    c.requires.ready c.requires.place c.requires.watching c.requires.next
    c.clause-clause.result.now c.clause-clause.ensures c.new.result c.in-Some.first
    c.in-Some.ensures c.in-Some.first c.in-Some.ensures.there

pub add-requires-clause-second : goal.add-requires-clause-second
add-requires-clause-second c = entered-small c.args.self.now c.args.watches.now c.args.place
    c.requires.ready c.requires.place c.requires.watching c.requires.next
    c.clause-clause.result.now c.clause-clause.ensures c.new.result c.in-Some.first
    c.in-Some.ensures c.in-Some-replacement.second c.in-Some-replacement.ensures.there

pub add-requires-clause-second_inside : goal.add-requires-clause-second_inside
add-requires-clause-second_inside c = entered-place c.args.self.now c.args.watches.now c.args.place
    c.requires.ready c.requires.place c.requires.watching c.requires.next
    c.clause-clause.result.now c.clause-clause.ensures c.new.result c.in-Some.first
    c.in-Some.ensures c.in-Some-replacement.second c.in-Some-replacement.ensures.there

pub returns-in-Some-replacement-clause-watching : goal.returns-in-Some-replacement-clause-watching
returns-in-Some-replacement-clause-watching c =
    entered-two c.args.self.now c.args.watches.now c.args.place c.requires.ready c.requires.place
    c.requires.watching c.requires.next c.clause-clause.result.now c.clause-clause.ensures
    c.new.result c.in-Some.first c.in-Some.ensures c.add.new.self c.in-Some-replacement.second
    c.in-Some-replacement.ensures c.in_ok-add.ensures.done c.in_ok-add.ensures.pairs
    c.in_ok-add.ensures.lists

pub is_true-requires : goal.is_true-requires
is_true-requires c = literals-read c.args.self.now c.requires.ready c.args.place c.requires.place
    c.clause-clause.result.now c.clause-clause.ensures c.in-Some.first c.in-Some.ensures.there

pub imply-requires-clause-step : goal.imply-requires-clause-step
imply-requires-clause-step c =
    unit-step c.args.self.now c.args.place c.clause-clause.result.now c.in-Some.first
    c.requires.ready c.clause-clause.ensures
    (left-unit c.args.self.now.partial.literals c.clause-clause.result.now c.in-Some.first
    c.in_default-replacement.ensures c.in-Some.ensures.there c.in-Some.ensures.open_yet)
    (λ h. both_ways c.is_true.result c.if-not-is_true.true (c.is_true.ensures.1 h))

pub returns-in_ok-imply-clause-watching : goal.returns-in_ok-imply-clause-watching
returns-in_ok-imply-clause-watching c =
    let Q : List ℤ → Type 0 = λ xs. Contains xs c.in-Some.first in
    entered-one c.args.self.now c.args.watches.now c.args.place c.requires.ready c.requires.place
    c.requires.watching c.requires.next c.clause-clause.result.now c.clause-clause.ensures
    c.new.result c.in-Some.first c.in-Some.ensures c.imply.new.self c.add_fixed.new.self
    c.in_ok-imply.ensures.goes_on
    (subst Q (sym (ap (λ q. q.literals) c.in_ok-imply.ensures.pushed))
    (Contains-push c.args.self.now.partial.literals c.in-Some.first)) c.requires.no_limits
    c.in_ok-add_fixed.ensures.done c.in_ok-add_fixed.ensures.pairs
    c.in_ok-add_fixed.ensures.lists

pub returns-else-not-is_true-clause-watching : goal.returns-else-not-is_true-clause-watching
returns-else-not-is_true-clause-watching c =
    entered-one c.args.self.now c.args.watches.now c.args.place c.requires.ready c.requires.place
    c.requires.watching c.requires.next c.clause-clause.result.now c.clause-clause.ensures
    c.new.result c.in-Some.first c.in-Some.ensures c.args.self.now c.add_fixed.new.self
    (goes-nowhere c.args.self.now) (c.is_true.ensures.0 c.if-not-is_true.false)
    c.requires.no_limits c.in_ok-add_fixed.ensures.done c.in_ok-add_fixed.ensures.pairs
    c.in_ok-add_fixed.ensures.lists
