use Rattle.std.proofs.Common.{◌≡◌, ◌+◌, true, false, List, [], ◌∷◌, ◌++◌, get_or, sym, ap, ◌∙◌, subst, arith, get_or-set_same}
use Rattle.std.specs.Prelude.{ℤ, pos, neg_ℤ}
use Rattle.std.proofs.lemmas.Bool.{both_ways}
use Rattle.std.proofs.lemmas.List.{get_or_default}
use Rattle.std.proofs.lemmas.List.Elements.{Contains-append_left, Contains-push}
use Rattle.chain_check.specs.Clauses.{Clause, IsSubset}
use Rattle.sat_core.specs.Sessions.{Excludes, IsTraced}
use Rattle.sat_core.proofs.Assuming.{subset-more}
use Rattle.sat_core.proofs.Visiting.{place-read}
use Rattle.sat_core.proofs.Forcing.{AreFound, found-more, core-excludes, false-place, traced-begins}
use Rattle.sat_core.proofs.solver.Solver.core_of.Goals as goal
use Rattle.sat_core.proofs.solver.Solver.core_of.Goals.{then-is_traced+in_ok-push_literal, else-is_traced}

pub loop-m-preserved : goal.loop-m-preserved
loop-m-preserved c =
    let assumptions : List ℤ = c.args.assumptions.now in
    let at : get_or assumptions c.loop-m.m-index (pos 0) ≡ c.m-item.result =
    get_or_default assumptions c.loop-m.m-index (pos 0) c.m-item.result c.loop-m-test.true
    ∙ sym c.m-item.is in
    let S : Clause → Type 0 = λ d. IsSubset d assumptions ×
    AreFound c.args.self.now c.trace.new.seen assumptions (c.loop-m.m-index + 1) d in
    let all : S c.if-is_traced.core = elim c.if-is_traced.branch [
      | then-is_traced+in_ok-push_literal w ↦
          subst S (sym (w.core-is ∙ w.in_ok-push_literal.ensures)) (
            subset-more c.loop-m.core assumptions c.m-item.result c.loop-m.invariant.within
                (c.loop-m.m-index, c.loop-m-test.true, sym c.m-item.is),
            found-more c.args.self.now c.trace.new.seen assumptions c.loop-m.core
                (c.loop-m.core ++ c.m-item.result ∷ []) c.loop-m.m-index c.m-item.result at
                c.loop-m.invariant.found
                (λ l h. Contains-append_left c.loop-m.core (c.m-item.result ∷ []) l h)
                (λ i stands marked none. Contains-push c.loop-m.core c.m-item.result),
          )
      | else-is_traced w ↦
          subst S (sym w.core-is) (
            c.loop-m.invariant.within,
            found-more c.args.self.now c.trace.new.seen assumptions c.loop-m.core c.loop-m.core
                c.loop-m.m-index c.m-item.result at c.loop-m.invariant.found (λ l h. h)
                (λ i stands marked none. absurd (both_ways c.is_traced.result
                w.if-is_traced.false (c.is_traced.ensures i stands marked none))),
          )
    ] in
    record { within = all.0; found = all.1 }

pub returns-clause-excluded : goal.returns-clause-excluded
returns-clause-excluded c =
    let right = c.requires.right c.args.l c.requires.there in
    let its = place-read c.args.self.now c.requires.ready c.args.l right c.variable.result
    c.index.result.now c.variable.ensures c.index.ensures in
    let place = false-place c.args.self.now c.args.l c.index.result.now c.requires.ready
    c.requires.is_false its in
    let marked : get_or c.mark.new.self c.index.result.now false ≡ true =
    ap (λ xs. get_or xs c.index.result.now false) c.mark.ensures ∙
    get_or-set_same c.clear.new.self c.index.result.now true false
    (omega (arith, place.0, c.in_ok-clear.ensures.room, c.len.ensures)) in
    let T : ℤ → Type 0 = IsTraced c.args.self.now c.mark.new.self
    (c.index.result.now + 1) in
    let E : Clause → Type 0 = Excludes c.args.self.now.clauses in
    subst E (sym c.in_ok-push_literal-2.ensures) (core-excludes c.args.self.now c.trace.new.seen
    c.args.assumptions.now c.loop-m.core c.args.l c.loop-m.m-index c.requires.ready right.0
    c.loop-m-test.false
    (c.trace.ensures.traced (neg_ℤ c.args.l) (subst T place.1
    (traced-begins c.args.self.now c.mark.new.self c.index.result.now place.0 marked)))
    c.requires.decided c.loop-m.invariant.found)
