use Rattle.std.proofs.Common.{ℕ, length, refl, sym, ap, subst, arith}
use Rattle.std.proofs.lemmas.List.{length_push}
use Rattle.chain_check.specs.Clauses.{AreLiterals}
use Rattle.sat_core.proofs.Backing.{ready-learned}
use Rattle.sat_core.proofs.Rewinding.{watching-clause, sound-added}
use Rattle.sat_core.proofs.solving.Search.add.Goals as goal

pub enter-requires-clause-ready : goal.enter-requires-clause-ready
enter-requires-clause-ready c =
    let P : ℕ → Type 0 = λ n. AreLiterals n c.args.clause.now in
    ready-learned c.rewind.new.self.solver _ c.args.clause.now c.rewind.ensures.sound.ready
    (omega (arith, c.requires.room, ap length c.rewind.ensures.clauses))
    (subst P (sym c.rewind.ensures.variables) c.requires.right)
    (λ j lt. absurd (omega (arith, lt, ap length c.rewind.ensures.no_limits)))
    c.in_ok-add.ensures.added refl refl refl refl

pub enter-requires-clause-watching : goal.enter-requires-clause-watching
enter-requires-clause-watching c =
    watching-clause c.rewind.new.self.solver _ c.args.clause.now c.rewind.new.self.watches.done
    c.rewind.new.self.watches.pairs.items c.rewind.new.self.watches.lists
    c.rewind.ensures.sound.watching c.in_ok-add.ensures.added refl refl

pub returns-clause-sound : goal.returns-clause-sound
returns-clause-sound c =
    sound-added _ _ c.len-place.result c.enter.result c.enter.ensures.ready c.enter.ensures.goes_on
    c.rewind.ensures.no_limits
    (omega (
      arith,
      c.len-place.ensures,
      ap length c.in_ok-add.ensures.added,
      length_push c.rewind.new.self.solver.clauses c.args.clause.now,
    )) c.enter.ensures.watching
