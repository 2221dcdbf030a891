use Rattle.std.proofs.Common.{◌≡◌, ◌-◌, ◌+◌, List, Bool, true, [], ◌∷◌, ◌++◌, take, length, arith, sym, ap, ◌∙◌, subst}
use Rattle.std.proofs.lemmas.List.{take_more, take_all, length-set}
use Rattle.chain_check.specs.Clauses.{Clause}
use Rattle.sat_core.specs.Analyses.{AreMarked, AreMore}
use Rattle.sat_core.proofs.Visiting.{clause-is, literal-read, place-read}
use Rattle.sat_core.proofs.Forcing.{reason-marked, reason-passed}
use Rattle.sat_core.proofs.solver.Solver.mark_reason.Goals as goal
use Rattle.sat_core.proofs.solver.Solver.mark_reason.Goals.{then-place-p, else-place-p}

pub index-requires : goal.index-requires
index-requires c =
    let right = literal-read c.args.self.now c.requires.ready c.args.number c.requires.counted
    c.requires.within c.clause-l-items.result.now c.clause-l-items.ensures c.loop-l.l-index
    c.loop-l-test.true c.l-item.result c.l-item.is in
    omega (arith, right.1, c.variable.ensures, c.requires.ready.sized)

pub loop-l-preserved : goal.loop-l-preserved
loop-l-preserved c =
    let clause : Clause = c.clause-l-items.result.now in
    let front : Clause = take c.loop-l.l-index clause in
    let place = place-read c.args.self.now c.requires.ready c.l-item.result
    (literal-read c.args.self.now c.requires.ready c.args.number c.requires.counted
    c.requires.within c.clause-l-items.result.now c.clause-l-items.ensures c.loop-l.l-index
    c.loop-l-test.true c.l-item.result c.l-item.is)
    c.variable.result c.index.result.now c.variable.ensures c.index.ensures in
    let more : take (c.loop-l.l-index + 1) clause ≡ front ++ c.l-item.result ∷ [] =
    take_more clause c.loop-l.l-index c.l-item.result c.loop-l-test.true ∙
    ap (λ z. take c.loop-l.l-index clause ++ z ∷ []) (sym c.l-item.is) in
    let P : Clause → Type 0 = AreMarked c.args.self.now.partial.literals c.args.p
    c.if-place-p.seen in
    let S : List Bool → Type 0 = λ xs. (length xs ≡ length c.args.seen.now) ×
    AreMore c.args.seen.now xs × AreMarked c.args.self.now.partial.literals c.args.p xs
    (front ++ c.l-item.result ∷ []) in
    let all : S c.if-place-p.seen = elim c.if-place-p.branch [
      | then-place-p w ↦
          let both = reason-marked c.args.self.now c.args.seen.now c.loop-l.seen c.args.p
          c.index.result.now front c.l-item.result c.requires.ready c.requires.below place
          (omega (arith, w.if-place-p.true, c.requires.long, c.loop-l.invariant.long))
          c.loop-l.invariant.more c.loop-l.invariant.marked in
          subst S (sym (w.seen-is ∙ w.mark.ensures)) (
            length-set c.loop-l.seen c.index.result.now true ∙ c.loop-l.invariant.long,
            both.0,
            both.1,
          )
      | else-place-p w ↦
          subst S (sym w.seen-is) (
            c.loop-l.invariant.long,
            c.loop-l.invariant.more,
            reason-passed c.args.self.now c.loop-l.seen c.args.p c.index.result.now front
                c.l-item.result c.requires.ready c.requires.below place w.if-place-p.false
                c.loop-l.invariant.marked,
          )
    ] in
    record { long = all.0; more = all.1; marked = subst P (sym more) all.2 }

pub returns-clause-marked : goal.returns-clause-marked
returns-clause-marked c =
    let P : Clause → Type 0 = AreMarked c.args.self.now.partial.literals c.args.p c.loop-l.seen in
    subst P (take_all c.loop-l.l-index c.clause-l-items.result.now c.loop-l-test.false ∙ sym (clause-is c.args.self.now.clauses
    (c.args.number - 1) c.clause-l-items.result.now c.clause-l-items.ensures))
    c.loop-l.invariant.marked
