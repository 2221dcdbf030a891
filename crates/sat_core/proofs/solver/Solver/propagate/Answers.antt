use Rattle.std.proofs.Common.{◌≡◌, length, suc, ◌+◌, ℕ, sym, ap, ◌∙◌, subst, arith}
use Rattle.std.specs.Prelude.{MatchOption, Option}
use Rattle.sat_core.specs.Solvers.{IsConflict}
use Rattle.sat_core.specs.Watches.{IsWatching}
use Rattle.sat_core.proofs.Propagating.{goes-further, no-more-than}
use Rattle.sat_core.proofs.Holding.{watching-settled}
use Rattle.sat_core.proofs.solver.Solver.propagate.Goals as goal

pub places-smaller : goal.places-smaller
places-smaller c = omega (
  arith,
  c.places-test.true,
  c.len.ensures,
  no-more-than c.places.self c.places.invariant.ready,
  c.places.invariant.goes_on.variables,
  c.in_ok-number.ensures.done,
)

pub places-preserved : goal.places-preserved
places-preserved c =
    let P : Option ℕ → Type 0 = λ o. MatchOption o
    (IsWatching c.pass.new.self (suc c.places.watches.done) c.pass.new.watches.pairs.items
    c.pass.new.watches.lists) (λ k. IsConflict c.pass.new.self k ×
    IsWatching c.pass.new.self c.places.watches.done c.pass.new.watches.pairs.items
    c.pass.new.watches.lists) in
    let Q : ℕ → Type 0 = λ n. IsWatching c.pass.new.self n c.pass.new.watches.pairs.items
    c.pass.new.watches.lists in
    let next : suc c.places.watches.done ≡ c.pass.new.watches.done + 1 =
    omega (arith, c.in_ok-number.ensures.done) in
    record {
      ready = c.in_ok-number.ensures.ready;
      goes_on = goes-further c.args.self.now c.places.self c.pass.new.self
          c.places.invariant.goes_on c.in_ok-number.ensures.goes_on;
      long = c.in_ok-number.ensures.long ∙ c.places.invariant.long;
      watching = subst Q next (subst P c.in-None.is c.in_ok-number.ensures.watching);
    }

pub returns-clause-found : goal.returns-clause-found
returns-clause-found c = watching-settled c.places.self c.places.watches.done
    c.places.watches.pairs.items c.places.watches.lists c.places.invariant.watching
    (c.places.invariant.long ∙ c.requires.long ∙ sym (ap length c.places.invariant.goes_on.clauses))
    (omega (arith, c.places-test.false, c.len.ensures, c.places.invariant.watching.reached))
