use Rattle.std.proofs.Common.{suc, ◌<◌, ℕ, List, [], length, set, refl, sym, ap, ◌∙◌, subst, arith}
use Rattle.std.proofs.lemmas.List.{length-set}
use Rattle.sat_core.specs.declared.watching.Visit.{Visit}
use Rattle.sat_core.specs.declared.watching.Visit.TheVariants.{Kept}
use Rattle.sat_core.specs.Lists.{place_of}
use Rattle.sat_core.specs.Watches.{IsWatching}
use Rattle.sat_core.specs.Visits.{IsVisit}
use Rattle.sat_core.proofs.Propagating.{goes-nowhere, goes-further}
use Rattle.sat_core.proofs.Rounds.{IsPassing, passing-starts, passing-ends}
use Rattle.sat_core.proofs.Visiting.{visited-pair, visited-clause, visited-first, visited-second, visited-kept, visited-conflict, visited-moved, the-moved, moved-inside}
use Rattle.sat_core.proofs.solver.Solver.pass.Goals as goal

pub visits-init : goal.visits-init
visits-init c =
    let P : List (List ℕ) → Type 0 = λ ls. IsPassing c.args.self.now c.args.watches.now.done
    c.args.watches.now.pairs.items ls c.args.l c.take-list.result 0 in
    let Q : List ℕ → Type 0 = λ xs. IsPassing c.args.self.now c.args.watches.now.done
    c.args.watches.now.pairs.items (set c.args.watches.now.lists (place_of c.args.l) [])
    c.args.l xs 0 in
    record {
      ready = c.requires.ready;
      goes_on = goes-nowhere c.args.self.now;
      done = refl;
      long = refl;
      passing = subst P (sym c.take-list.ensures.left)
          (subst Q (sym c.take-list.ensures.taken)
          (passing-starts c.args.self.now c.args.watches.now.done c.args.watches.now.pairs.items
          c.args.watches.now.lists c.args.l c.requires.right c.requires.at c.requires.watching));
    }

pub visit-requires-clause-place : goal.visit-requires-clause-place
visit-requires-clause-place c = visited-clause c.visits.self c.args.watches.now.done
    c.visits.watches c.args.l c.visits.list c.visits.i c.at-place.result.now
    c.visits.invariant.passing (omega (arith, c.visits-test.true, c.len.ensures)) c.at-place.ensures

pub visit-requires-clause-long : goal.visit-requires-clause-long
visit-requires-clause-long c = visited-pair c.visits.self c.args.watches.now.done c.visits.watches
    c.args.l c.visits.list c.visits.i c.at-place.result.now c.visits.invariant.passing
    (omega (arith, c.visits-test.true, c.len.ensures)) c.at-place.ensures

pub visit-requires-clause-first : goal.visit-requires-clause-first
visit-requires-clause-first c = visited-first c.visits.self c.args.watches.now.done c.visits.watches
    c.args.l c.visits.list c.visits.i c.at-place.result.now c.visits.invariant.passing
    (omega (arith, c.visits-test.true, c.len.ensures)) c.at-place.ensures

pub visit-requires-clause-second : goal.visit-requires-clause-second
visit-requires-clause-second c = visited-second c.visits.self c.args.watches.now.done
    c.visits.watches c.args.l c.visits.list c.visits.i c.at-place.result.now
    c.visits.invariant.passing (omega (arith, c.visits-test.true, c.len.ensures)) c.at-place.ensures

pub visits-preserved-in-Kept : goal.visits-preserved-in-Kept
visits-preserved-in-Kept c =
    let P : Visit → Type 0 = IsVisit c.visits.self c.visit.new.self c.visits.watches
    c.visit.new.watches c.at-place.result.now c.args.l in
    let kept : P Kept = subst P c.in-Kept.is c.in_ok-visit.ensures.visit in
    record {
      ready = c.in_ok-visit.ensures.ready;
      goes_on = goes-further c.args.self.now c.visits.self c.visit.new.self
          c.visits.invariant.goes_on c.in_ok-visit.ensures.goes_on;
      done = c.in_ok-visit.ensures.done ∙ c.visits.invariant.done;
      long = ap length kept.0.0 ∙ c.visits.invariant.long;
      passing = visited-kept c.visits.self c.args.watches.now.done c.visits.watches c.args.l
          c.visits.list c.visits.i c.at-place.result.now c.visits.invariant.passing
          (omega (arith, c.visits-test.true, c.len.ensures)) c.at-place.ensures c.visit.new.self
          c.visit.new.watches c.in_ok-visit.ensures.goes_on kept;
    }

pub visits-preserved : goal.visits-preserved
visits-preserved c =
    let P : Visit → Type 0 = IsVisit c.visits.self c.visit.new.self c.visits.watches
    c.visit.new.watches c.at-place.result.now c.args.l in
    let (other, m, moved) = the-moved c.visits.self c.visit.new.self c.visits.watches
    c.visit.new.watches c.at-place.result.now c.args.l
    (subst P c.in-Moved.is c.in_ok-visit.ensures.visit) in
    let inside : c.at-place.result.now < length c.visits.self.clauses =
    visited-clause c.visits.self c.args.watches.now.done c.visits.watches c.args.l c.visits.list
    c.visits.i c.at-place.result.now c.visits.invariant.passing
    (omega (arith, c.visits-test.true, c.len.ensures)) c.at-place.ensures in
    record {
      ready = c.in_ok-visit.ensures.ready;
      goes_on = goes-further c.args.self.now c.visits.self c.visit.new.self
          c.visits.invariant.goes_on c.in_ok-visit.ensures.goes_on;
      done = c.in_ok-visit.ensures.done ∙ c.visits.invariant.done;
      long = ap length moved.pairs ∙ length-set c.visits.watches.pairs.items c.at-place.result.now
          (record { first = other; second = m }) ∙ c.visits.invariant.long;
      passing = visited-moved c.visits.self c.args.watches.now.done c.visits.watches c.args.l
          c.visits.list c.visits.i c.at-place.result.now c.visits.invariant.passing
          (omega (arith, c.visits-test.true, c.len.ensures)) c.at-place.ensures c.visit.new.self
          c.visit.new.watches c.remove_at.new.list other m
          (moved-inside c.visits.self c.visit.new.self c.visits.watches c.visit.new.watches
          c.at-place.result.now c.args.l other m c.visits.invariant.ready inside
          (omega (
            arith,
            c.visits.invariant.passing.watching.sized,
            length-set c.visits.watches.lists (place_of c.args.l) c.visits.list,
          )) moved)
          c.remove_at.ensures moved;
    }

pub overflow_add-result : goal.overflow_add-result
overflow_add-result c =
    let inside : c.at-place.result.now < length c.visits.self.clauses =
    visited-clause c.visits.self c.args.watches.now.done c.visits.watches c.args.l c.visits.list
    c.visits.i c.at-place.result.now c.visits.invariant.passing
    (omega (arith, c.visits-test.true, c.len.ensures)) c.at-place.ensures in
    omega (arith, inside, c.visits.invariant.ready.few_clauses)

pub returns-in-Conflict-clause-watching : goal.returns-in-Conflict-clause-watching
returns-in-Conflict-clause-watching c =
    let P : Visit → Type 0 = IsVisit c.visits.self c.visit.new.self c.visits.watches
    c.visit.new.watches c.at-place.result.now c.args.l in
    let Q : List (List ℕ) → Type 0 = IsWatching c.visit.new.self c.args.watches.now.done
    c.visit.new.watches.pairs.items in
    let both = visited-conflict c.visits.self c.args.watches.now.done c.visits.watches c.args.l
    c.visits.list c.visits.i c.at-place.result.now c.visits.invariant.passing
    (omega (arith, c.visits-test.true, c.len.ensures)) c.at-place.ensures c.visit.new.self
    c.visit.new.watches c.in_ok-visit.ensures.goes_on
    (subst P c.in-Conflict.is c.in_ok-visit.ensures.visit) in
    (both.0, subst Q (sym c.put.ensures) both.1)

pub returns-clause-watching : goal.returns-clause-watching
returns-clause-watching c =
    let Q : List (List ℕ) → Type 0 = IsWatching c.visits.self
    (suc c.args.watches.now.done) c.visits.watches.pairs.items in
    subst Q (sym c.put-2.ensures) (passing-ends c.visits.self c.args.watches.now.done
    c.visits.watches.pairs.items c.visits.watches.lists c.args.l c.visits.list c.visits.i
    c.visits.invariant.passing (omega (arith, c.visits-test.false, c.len.ensures)))
