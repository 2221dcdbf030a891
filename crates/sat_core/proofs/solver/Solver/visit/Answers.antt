use Rattle.std.proofs.Common.{List, [], get_or, refl, sym, ap, subst, arith}
use Rattle.std.specs.Prelude.{ℤ}
use Rattle.std.specs.List.{Contains}
use Rattle.std.proofs.lemmas.Bool.{both_ways}
use Rattle.std.proofs.lemmas.List.Elements.{Contains-push}
use Rattle.chain_check.specs.Clauses.{Clause, IsLiteral}
use Rattle.chain_check.specs.Chains.{AllFalseIn}
use Rattle.sat_core.specs.Watches.{IsReplacement}
use Rattle.sat_core.specs.Visits.{IsMoved}
use Rattle.sat_core.proofs.Propagating.{unit-step}
use Rattle.sat_core.proofs.Covering.{left-unit, left-false}
use Rattle.sat_core.proofs.Holding.{place-inside}
use Rattle.sat_core.proofs.Visiting.{other-there, literal-there, literals-read, clause-is}
use Rattle.sat_core.proofs.solver.Solver.visit.Goals as goal

pub is_true-requires : goal.is_true-requires
is_true-requires c = literal-there c.args.self.now c.requires.ready c.args.place c.requires.place
    c.other-other.result (other-there _ _ c.args.l c.other-other.result c.requires.first
    c.requires.second c.other-other.ensures)

pub find-requires : goal.find-requires
find-requires c = literals-read c.args.self.now c.requires.ready c.args.place
    c.requires.place c.clause.result.now c.clause.ensures

pub replace-requires-clause-few : goal.replace-requires-clause-few
replace-requires-clause-few c =
    let right : IsLiteral c.args.self.now.partial.variables c.in-Some.found.literal =
    literals-read c.args.self.now c.requires.ready c.args.place c.requires.place
    c.clause.result.now c.clause.ensures c.in-Some.found.literal c.in-Some.ensures.there in
    omega (arith, right.1, c.requires.ready.few_variables)

pub replace-requires-clause-inside : goal.replace-requires-clause-inside
replace-requires-clause-inside c = place-inside c.args.self.now.partial.variables c.in-Some.found.literal
    c.args.watches.now.lists (literals-read c.args.self.now c.requires.ready c.args.place
    c.requires.place c.clause.result.now c.clause.ensures c.in-Some.found.literal c.in-Some.ensures.there)
    c.requires.sized

pub returns-in_ok-replace-in-Some-clause-visit : goal.returns-in_ok-replace-in-Some-clause-visit
returns-in_ok-replace-in-Some-clause-visit c =
    let P : Clause → Type 0 = λ d. IsReplacement c.args.self.now.partial.literals d
    c.other-other.result c.in-Some.found.literal in
    let moved : IsMoved c.args.self.now c.args.self.now c.args.watches.now c.replace.new.self
    c.args.place c.args.l c.other-other.result c.in-Some.found.literal = record {
      same = refl;
      is_other = c.other-other.ensures;
      found = subst P (sym (clause-is c.args.self.now.clauses c.args.place c.clause.result.now
          c.clause.ensures)) c.in-Some.ensures;
      pairs = c.in_ok-replace-in-Some.ensures.pairs;
      lists = c.in_ok-replace-in-Some.ensures.lists;
    } in
    (c.other-other.result, c.in-Some.found.literal, moved)

pub is_false-requires : goal.is_false-requires
is_false-requires c = literal-there c.args.self.now c.requires.ready c.args.place c.requires.place
    c.other-other.result (other-there _ _ c.args.l c.other-other.result c.requires.first
    c.requires.second c.other-other.ensures)

pub returns-then-is_false-clause-visit : goal.returns-then-is_false-clause-visit
returns-then-is_false-clause-visit c =
    let P : Clause → Type 0 = λ d. AllFalseIn c.args.self.now.partial.literals d in (
      (refl, refl),
      subst P (sym (clause-is c.args.self.now.clauses c.args.place c.clause.result.now
          c.clause.ensures)) (left-false c.args.self.now.partial.literals c.clause.result.now
          c.other-other.result c.in-None.ensures (c.is_false.ensures.0 c.if-is_false.true)),
    )

pub imply-requires-clause-step : goal.imply-requires-clause-step
imply-requires-clause-step c =
    let P : Clause → Type 0 = λ d. Contains d c.other-other.result in
    let there : P c.clause.result.now = subst P
    (clause-is c.args.self.now.clauses c.args.place c.clause.result.now c.clause.ensures)
    (other-there _ _ c.args.l c.other-other.result c.requires.first c.requires.second
    c.other-other.ensures) in
    unit-step c.args.self.now c.args.place c.clause.result.now c.other-other.result c.requires.ready
    c.clause.ensures
    (left-unit c.args.self.now.partial.literals c.clause.result.now c.other-other.result
    c.in-None.ensures there (λ h. both_ways c.is_false.result c.if-is_false.false
    (c.is_false.ensures.1 h)))
    (λ h. both_ways c.is_true.result c.if-is_true.false (c.is_true.ensures.1 h))

pub returns-in_ok-imply-in-None-clause-visit : goal.returns-in_ok-imply-in-None-clause-visit
returns-in_ok-imply-in-None-clause-visit c =
    let P : List Clause → Type 0 = λ cs. Contains
    (get_or cs c.args.place []) c.other-other.result in
    let Q : List ℤ → Type 0 = λ xs. Contains xs c.other-other.result in (
      (refl, refl),
      (
        c.other-other.result,
        subst P
            (sym c.in_ok-imply-in-None.ensures.goes_on.clauses)
            (other-there _ _ c.args.l c.other-other.result c.requires.first c.requires.second
            c.other-other.ensures),
        subst Q (sym (ap
            (λ q. q.literals) c.in_ok-imply-in-None.ensures.pushed))
            (Contains-push c.args.self.now.partial.literals c.other-other.result),
      ),
    )
