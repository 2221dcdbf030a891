use Rattle.std.proofs.Common.{◌≡◌, ◌+◌, ◌-◌, ℕ, List, [], ◌∷◌, ◌++◌, take, get_or, arith, sym, subst, ap, ◌∙◌, true, false}
use Rattle.std.specs.Prelude.{ℤ, unsigned_abs}
use Rattle.std.proofs.lemmas.List.{take_more, take_all}
use Rattle.chain_check.specs.Clauses.{Clause}
use Rattle.sat_core.specs.Analyses.{AreMarked}
use Rattle.sat_core.proofs.Propagating.{no-more-than}
use Rattle.sat_core.proofs.Visiting.{clause-is, literal-read, place-read}
use Rattle.sat_core.proofs.Analysing.{IsMarking, marking-skips, marking-sees, count-few}
use Rattle.sat_core.specs.declared.analysis.Analysis.{Analysis}
use Rattle.sat_core.proofs.solver.Solver.mark.Goals as goal
use Rattle.sat_core.proofs.solver.Solver.mark.Goals.{then-place-p+in_ok-see, else-place-p}

pub index-requires : goal.index-requires
index-requires c =
    let right = literal-read c.args.self.now c.requires.ready c.args.number c.requires.counted
    c.requires.within c.clause-l-items.result.now c.clause-l-items.ensures c.loop-l.l-index
    c.loop-l-test.true c.l-item.result c.l-item.is in
    omega (arith, right.1, c.variable.ensures, c.requires.ready.sized)

pub see-requires-clause-room : goal.see-requires-clause-room
see-requires-clause-room c = omega (
  arith,
  c.loop-l.invariant.is.counted,
  count-few c.loop-l.analysis.seen c.args.start c.args.p,
  c.loop-l.invariant.is.below_end,
  no-more-than c.args.self.now c.requires.ready,
  c.requires.ready.few_variables,
)

pub loop-l-preserved : goal.loop-l-preserved
loop-l-preserved c =
    let trail : List ℤ = c.args.self.now.partial.literals in
    let places : List ℕ = c.args.self.now.places.items in
    let clause : Clause = c.clause-l-items.result.now in
    let place : c.index.result.now ≡ get_or places (unsigned_abs c.l-item.result) 0 =
    place-read c.args.self.now c.requires.ready c.l-item.result
    (literal-read c.args.self.now c.requires.ready c.args.number c.requires.counted
    c.requires.within c.clause-l-items.result.now c.clause-l-items.ensures c.loop-l.l-index
    c.loop-l-test.true c.l-item.result c.l-item.is)
    c.variable.result c.index.result.now c.variable.ensures c.index.ensures in
    let more : take (c.loop-l.l-index + 1) clause ≡ take c.loop-l.l-index clause ++ c.l-item.result
    ∷ [] =
    take_more clause c.loop-l.l-index c.l-item.result c.loop-l-test.true ∙
    ap (λ z. take c.loop-l.l-index clause ++ z ∷ []) (sym c.l-item.is) in
    let P : Clause → Type 0 = λ d. IsMarking trail c.args.start c.args.p c.args.analysis.now d
    c.if-place-p.analysis in
    let Q : Analysis → Type 0 = IsMarking trail c.args.start c.args.p c.args.analysis.now
    (take c.loop-l.l-index clause ++ c.l-item.result ∷ []) in
    subst P (sym more)
    (elim c.if-place-p.branch [
      | then-place-p+in_ok-see w ↦
          let S : ℕ → Type 0 = λ k. get_or w.see.new.self.seen k false ≡ true in
          subst Q (sym w.analysis-is) (marking-sees trail places c.args.start c.args.p
          c.args.analysis.now c.loop-l.analysis w.see.new.self
          (take c.loop-l.l-index clause) c.l-item.result c.requires.ready.placed
          c.loop-l.invariant
          (w.in_ok-see.ensures.kept trail c.args.p c.loop-l.invariant.is w.if-place-p.true)
          w.in_ok-see.ensures.more
          (subst S place w.in_ok-see.ensures.seen) w.in_ok-see.ensures.chain)
      | else-place-p w ↦
          subst Q (sym w.analysis-is) (marking-skips trail places c.args.start c.args.p
          c.args.analysis.now c.loop-l.analysis
          (take c.loop-l.l-index clause) c.l-item.result c.requires.ready.placed
          (omega (arith, w.if-place-p.false, place)) c.loop-l.invariant)
    ])

pub returns-clause-marked : goal.returns-clause-marked
returns-clause-marked c =
    let P : Clause → Type 0 = AreMarked c.args.self.now.partial.literals c.args.p
    c.loop-l.analysis.seen in
    subst P (take_all c.loop-l.l-index c.clause-l-items.result.now c.loop-l-test.false ∙ sym (clause-is c.args.self.now.clauses
    (c.args.number - 1) c.clause-l-items.result.now c.clause-l-items.ensures))
    c.loop-l.invariant.marked
