use Rattle.std.proofs.Common.{List, ℕ, sym, subst, ◌∙◌}
use Rattle.std.specs.List.{All}
use Rattle.std.proofs.lemmas.List.Elements.{All-push}
use Rattle.cnf_frames.specs.declared.facts.Fact.{Fact}
use Rattle.ic3_search.specs.LatchClauses.{IsLatchClause, IsLatchFact}
use Rattle.ic3_search.proofs.Inside.{facts-inside}
use Rattle.ic3_search.proofs.clauses.clauses_of.Goals as goal
use Rattle.ic3_search.proofs.clauses.clauses_of.Goals.{then-is_latch_clause+in_ok-push, else-is_latch_clause}

pub loop-cube-preserved : goal.loop-cube-preserved
loop-cube-preserved c =
    let P : List ℕ → Type 0 = IsLatchClause c.args.latches in
    let Q : Fact → Type 0 = IsLatchFact c.args.latches in
    let A : List Fact → Type 0 = All Q in
    elim c.if-is_latch_clause.branch [
      | then-is_latch_clause+in_ok-push w ↦
          subst A (sym (w.clauses-is ∙ w.in_ok-push.ensures.added))
          (All-push Q c.loop-cube.clauses _ c.loop-cube.invariant
          (subst P c.as_slice-in-loop-cube.ensures (c.is_latch_clause.ensures w.if-is_latch_clause.true)))
      | else-is_latch_clause w ↦ subst A (sym w.clauses-is) c.loop-cube.invariant
    ]

pub returns-clause-inside : goal.returns-clause-inside
returns-clause-inside c = facts-inside c.args.latches _ c.loop-cube.invariant
