use Rattle.std.proofs.Common.{ℕ, ◌∙◌, sym, subst}
use Rattle.std.specs.Prelude.{MatchOption, Option}
use Rattle.sat_core.specs.declared.solver.Solver.{Solver}
use Rattle.sat_core.specs.Trails.{AreSettled}
use Rattle.sat_core.specs.Solvers.{IsConflict}
use Rattle.sat_core.specs.Searches.{IsSearching}
use Rattle.sat_core.proofs.Searching.{when-true, when-false, searching-on, spent-outcome, searching-learned, satisfied-outcome, searching-decided}
use Rattle.sat_core.proofs.solving.Search.run.Goals as goal

pub returns-then-len-conflicts : goal.returns-then-len-conflicts
returns-then-len-conflicts c = spent-outcome c.args.self.now.solver.partial.variables
    c.args.self.now.solver.clauses c.args.conflicts c.searching.self.solver c.searching.log
    c.searching.invariant.is (sym c.len.ensures ∙ c.if-len-conflicts.true)

pub searching-preserved-in_ok-push-in-Some-2 : goal.searching-preserved-in_ok-push-in-Some-2
searching-preserved-in_ok-push-in-Some-2 c =
    let is = searching-on c.args.self.now.solver.partial.variables
    c.args.self.now.solver.clauses c.args.conflicts c.searching.self.solver
    c.propagate.new.self.solver c.searching.log c.searching.invariant.is
    c.in_ok-number-2.ensures.sound.ready c.in_ok-number-2.ensures.goes_on in
    record {
      sound = c.in_ok-entry-in-Some-2.ensures.sound;
      is = searching-learned c.args.self.now.solver.partial.variables
          c.args.self.now.solver.clauses c.args.conflicts c.propagate.new.self.solver
          c.learn.new.self.solver c.searching.log c.push.new.self c.in_ok-entry-in-Some-2.entry is
          (λ e. c.if-len-conflicts.false (c.len.ensures ∙ e))
          c.in_ok-entry-in-Some-2.ensures.sound.ready c.in_ok-entry-in-Some-2.ensures.variables
          c.in_ok-entry-in-Some-2.ensures.clauses c.in_ok-entry-in-Some-2.ensures.follows
          c.in_ok-entry-in-Some-2.ensures.is_new c.in_ok-entry-in-Some-2.ensures.not_empty
          c.in_ok-push-in-Some-2.ensures.added;
    }

pub returns-then-not-branch : goal.returns-then-not-branch
returns-then-not-branch c =
    let n : ℕ = c.args.self.now.solver.partial.variables in
    let is = searching-on n c.args.self.now.solver.clauses c.args.conflicts
    c.searching.self.solver c.propagate.new.self.solver c.searching.log
    c.searching.invariant.is c.in_ok-number-2.ensures.sound.ready
    c.in_ok-number-2.ensures.goes_on in
    let full = when-false _ _ c.in_ok-decide-in-None.field-0 c.if-not-branch.true
    c.in_ok-decide-in-None.ensures.sound in
    let O : Option ℕ → Type 0 = λ o. MatchOption o
    (AreSettled c.propagate.new.self.solver.clauses
    c.propagate.new.self.solver.partial.literals)
    (λ k. IsConflict c.propagate.new.self.solver k) in
    let P : Solver → Type 0 = λ s. IsSearching n c.args.self.now.solver.clauses c.args.conflicts s
    c.searching.log in
    let Q : Solver → Type 0 = λ s. AreSettled s.clauses s.partial.literals in
    satisfied-outcome n c.args.self.now.solver.clauses c.args.conflicts c.decide.new.self.solver
    c.searching.log c.in_ok-values-in-None.field-0 (subst P (sym full.1) is)
    (subst Q (sym full.1) (subst O c.in-None.is c.in_ok-number-2.ensures.found)) full.2
    c.in_ok-values-in-None.ensures

pub searching-smaller : goal.searching-smaller
searching-smaller c =
    let decided = when-true _ _ c.in_ok-decide-in-None.field-0 c.if-not-branch.false
    c.in_ok-decide-in-None.ensures.sound in
    let (l, pushed) = decided.2 in
    searching-decided c.args.self.now.solver.partial.variables c.args.self.now.solver.clauses
    c.args.conflicts c.searching.self.solver c.propagate.new.self.solver c.decide.new.self.solver
    c.searching.log l c.searching.invariant.is c.in_ok-number-2.ensures.goes_on decided.0.ready
    pushed
