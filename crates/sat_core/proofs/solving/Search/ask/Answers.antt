use Rattle.std.proofs.Common.{◌≡◌, ℕ, ◌+◌, ◌-◌, ◌*◌, [], ◌∷◌, ◌∙◌, sym, ap, subst, arith, length}
use Rattle.std.specs.Prelude.{MatchOption, Option}
use Rattle.sat_core.specs.declared.asking.Step.{Step}
use Rattle.sat_core.specs.declared.asking.Step.TheVariants.{Decided, Full, False}
use Rattle.sat_core.specs.declared.solver.Solver.{Solver}
use Rattle.sat_core.specs.Sessions.{IsStepOf, AreAssumed}
use Rattle.sat_core.specs.Solvers.{IsConflict}
use Rattle.sat_core.specs.Trails.{AreSettled}
use Rattle.sat_core.proofs.Assuming.{learned-more, learned-same, first-longer, first-on, values-reply, decided-smaller, assumed-on, assumed-decided, assumed-taught, decided-all}
use Rattle.sat_core.proofs.Forcing.{none-core, conflict-unmet}
use Rattle.sat_core.proofs.solving.Search.ask.Goals as goal

pub asking-preserved-in-Some : goal.asking-preserved-in-Some
asking-preserved-in-Some c =
    let on = c.in_ok-number.ensures.goes_on in
    let (top, second, level, taught) = c.in_ok-learn-in-Some.ensures.taught in
    record {
      sound = c.in_ok-learn-in-Some.ensures.sound;
      same = c.in_ok-learn-in-Some.ensures.variables ∙ on.variables ∙ c.asking.invariant.same;
      learned = learned-more c.args.self.now.solver.clauses c.propagate.new.self.solver
          c.learn.new.self.solver c.in_ok-learn-in-Some.field-0 c.in_ok-number.ensures.sound.ready
          (learned-same c.args.self.now.solver.clauses c.asking.self.solver.clauses
          c.propagate.new.self.solver.clauses on.clauses c.asking.invariant.learned)
          c.in_ok-learn-in-Some.ensures.clauses c.in_ok-learn-in-Some.ensures.follows;
      few = omega (arith, c.asking.invariant.few, c.if-learned-conflicts.false);
      passed = omega arith;
      assumed = assumed-taught c.propagate.new.self.solver c.learn.new.self.solver
          c.args.assumptions.now c.in_ok-learn-in-Some.field-0.clause top second level
          c.in_ok-number.ensures.sound.ready taught
          (assumed-on c.asking.self.solver c.propagate.new.self.solver c.args.assumptions.now
          c.asking.invariant.sound.ready on c.asking.invariant.assumed);
      first = λ i lt. absurd (omega arith);
    }

pub next_place-passed-requires-clause-first : goal.next_place-passed-requires-clause-first
next_place-passed-requires-clause-first c =
    first-on c.asking.self.solver c.propagate.new.self.solver c.args.assumptions.now
    c.asking.passed c.in_ok-number.ensures.goes_on c.asking.invariant.first

pub asking-smaller : goal.asking-smaller
asking-smaller c =
    let n : ℕ = c.args.self.now.solver.partial.variables in
    let S : Step → Type 0 = IsStepOf c.propagate.new.self c.step.new.self c.args.assumptions.now in
    let decided : S Decided = subst S c.in-Decided.is c.in_ok-step-in-None.ensures in
    let (l, is) = decided in
    decided-smaller c.asking.self.solver c.propagate.new.self.solver c.step.new.self.solver n
    ((c.args.conflicts - c.asking.learned) * (n + 1)) l c.asking.invariant.same
    c.in_ok-number.ensures.goes_on is.sound.ready is.pushed

pub asking-preserved : goal.asking-preserved
asking-preserved c =
    let on = c.in_ok-number.ensures.goes_on in
    let S : Step → Type 0 = IsStepOf c.propagate.new.self c.step.new.self c.args.assumptions.now in
    let decided : S Decided = subst S c.in-Decided.is c.in_ok-step-in-None.ensures in
    let (l, is) = decided in
    record {
      sound = is.sound;
      same = ap (λ q. q.variables) is.pushed ∙ on.variables ∙ c.asking.invariant.same;
      learned = learned-same c.args.self.now.solver.clauses c.asking.self.solver.clauses
          c.step.new.self.solver.clauses (is.clauses ∙ on.clauses) c.asking.invariant.learned;
      few = c.asking.invariant.few;
      passed = c.next_place-passed.ensures.inside;
      assumed = assumed-decided c.propagate.new.self c.step.new.self c.args.assumptions.now l
          c.in_ok-number.ensures.sound.ready is
          (assumed-on c.asking.self.solver c.propagate.new.self.solver c.args.assumptions.now
          c.asking.invariant.sound.ready on c.asking.invariant.assumed);
      first = first-longer c.propagate.new.self.solver.partial.literals
          c.step.new.self.solver.partial.literals (l ∷ []) c.args.assumptions.now
          c.next_place-passed.result (ap (λ q. q.literals) is.pushed)
          c.next_place-passed.ensures.first;
    }

pub returns-in-Full-clause-reply : goal.returns-in-Full-clause-reply
returns-in-Full-clause-reply c =
    let on = c.in_ok-number.ensures.goes_on in
    let S : Step → Type 0 = IsStepOf c.propagate.new.self c.step.new.self c.args.assumptions.now in
    let full : S Full = subst S c.in-Full.is c.in_ok-step-in-None.ensures in
    let O : Option ℕ → Type 0 = λ o. MatchOption o
    (AreSettled c.propagate.new.self.solver.clauses
    c.propagate.new.self.solver.partial.literals)
    (λ k. IsConflict c.propagate.new.self.solver k) in
    let Q : Solver → Type 0 = λ s. AreSettled s.clauses s.partial.literals in
    values-reply c.step.new.self.solver c.args.self.now.solver.partial.variables
    c.args.assumptions.now c.in_ok-values-in-Full.field-0 full.0.ready
    (ap (λ s. s.partial.variables) full.1 ∙ on.variables ∙ c.asking.invariant.same)
    c.requires.right (subst Q (sym full.1) (subst O c.in-None.is c.in_ok-number.ensures.found))
    full.2 full.3 c.in_ok-values-in-Full.ensures

pub core_of-requires-clause-decided : goal.core_of-requires-clause-decided
core_of-requires-clause-decided c =
    let S : Step → Type 0 = IsStepOf c.propagate.new.self c.step.new.self c.args.assumptions.now in
    let false' : S (False c.in-False.l) = subst S c.in-False.is c.in_ok-step-in-None.ensures in
    let P : Solver → Type 0 = λ s. AreAssumed s c.args.assumptions.now in
    decided-all c.step.new.self.solver c.args.assumptions.now c.in-False.l false'.0.ready
    (subst P (sym false'.1) (assumed-on c.asking.self.solver c.propagate.new.self.solver
    c.args.assumptions.now c.asking.invariant.sound.ready c.in_ok-number.ensures.goes_on
    c.asking.invariant.assumed)) false'.2 false'.3

pub returns-then-is_empty-clause-reply : goal.returns-then-is_empty-clause-reply
returns-then-is_empty-clause-reply c =
    let O : Option ℕ → Type 0 = λ o. MatchOption o
    (AreSettled c.propagate.new.self.solver.clauses
    c.propagate.new.self.solver.partial.literals)
    (λ k. IsConflict c.propagate.new.self.solver k) in
    let none : length c.propagate.new.self.solver.limits.items ≡ 0 =
    grind (arith, c.is_empty.ensures, c.if-is_empty.true) in
    none-core c.propagate.new.self.solver.clauses c.new.result c.args.assumptions.now
    c.new.ensures (λ values all given. conflict-unmet c.propagate.new.self.solver c.in-Some.number
    c.in_ok-number.ensures.sound.ready none
    (subst O c.in-Some.is c.in_ok-number.ensures.found) values all)
