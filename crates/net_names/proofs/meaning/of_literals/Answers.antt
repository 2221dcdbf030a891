use Rattle.std.proofs.Common.{◌≡◌, ℕ, length, refl, subst, arith}
use Rattle.aig_net.specs.Nets.{literal_at}
use Rattle.net_names.specs.Meanings.{Means}
use Rattle.net_names.proofs.MeaningLemmas.{Below, below-none, next-other, next-same, literals-mean}
use Rattle.net_names.proofs.meaning.of_literals.Goals as goal
use Rattle.net_names.proofs.meaning.of_literals.Goals.{then-eq, else-eq}

pub loop-j-init : goal.loop-j-init
loop-j-init c = below-none _ _ _

pub loop-j-preserved : goal.loop-j-preserved
loop-j-preserved c =
    elim c.if-eq.branch [
      | then-eq w ↦ next-same c.args.names.now c.args.name.now _ _ (literal_at c.args.literals.now)
          c.loop-j.j _ _ c.loop-j.found _ _ c.eq.ensures w.if-eq.true c.as_slice.ensures
          c.index-names-j.is c.loop-j-test.true refl c.loop-j.invariant w.with-found.ensures
          w.found-is
      | else-eq w ↦ next-other c.args.names.now c.args.name.now _ _ (literal_at c.args.literals.now)
          c.loop-j.j _ c.loop-j.found _ c.eq.ensures w.if-eq.false c.as_slice.ensures
          c.index-names-j.is c.loop-j-test.true c.loop-j.invariant w.found-is
    ]

pub returns : goal.returns
returns c =
    let e : c.loop-j.j ≡ length c.args.names.now =
    omega (arith, c.loop-j-test.false, c.loop-j.auto.j-end) in
    let P : ℕ → Type 0 = λ n. Means (Below c.args.names.now c.args.name.now
    (literal_at c.args.literals.now) n) c.loop-j.found in
    literals-mean c.args.names.now c.args.name.now c.args.literals.now c.loop-j.found
    (subst P e c.loop-j.invariant)
