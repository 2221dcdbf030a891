use Rattle.std.proofs.Common.{◌≡◌, ℕ, List, [], ◌∷◌, ◌++◌, length, ◌∙◌, ap}
use Rattle.aig_net.specs.declared.parts.And.{And}
use Rattle.aig_net.specs.Nets.{literal_at}
use Rattle.aig_net.specs.Wires.{Makes, Wire, either, literal}
use Rattle.sym_tableau.specs.declared.places.Places.{Places}
use Rattle.sym_tableau.specs.Places.{Adds, beginning_at, started_of}
use Rattle.sym_tableau.proofs.Stepping.{adds-next, adds-room}
use Rattle.sym_tableau.proofs.promises.add_beginnings.Goals as goal

beginning-is : (p : Places) (lit : ℕ → ℕ) (roots : List ℕ) (r s : ℕ) → s ≡ started_of p →
    either (literal s) (literal (lit (literal_at roots r))) ∷ [] ≡ beginning_at p lit roots r
beginning-is p lit roots r s e =
    ap (λ s. either (literal s) (literal (lit (literal_at roots r))) ∷ []) e

added-one : (first : ℕ) (old new : List And) (w : Wire) (l : ℕ) (before after : List ℕ) →
    Makes first old w new l → after ≡ before ++ l ∷ [] →
    Adds first old (w ∷ []) new before after
added-one first old new w l before after one e = record {
  ands = one.ands;
  literals = e ∙ ap (λ l. before ++ l ∷ []) one.literal;
}

pub either-requires : goal.either-requires
either-requires c =
    adds-room c.args.gates.now.first _ c.args.gates.now.ands _
    (beginning_at c.args.places.now (literal_at c.args.values.now) c.args.roots.now) c.loop-r.r
    _ _ _ c.loop-r.invariant.0 c.loop-r.invariant.1
    (beginning-is c.args.places.now (literal_at c.args.values.now) c.args.roots.now c.loop-r.r _
    c.started.ensures) (length c.args.roots.now) c.loop-r-test.true c.requires.room

pub loop-r-preserved : goal.loop-r-preserved
loop-r-preserved c = (
  adds-next c.args.gates.now.first _ c.args.gates.now.ands _
      (beginning_at c.args.places.now (literal_at c.args.values.now) c.args.roots.now)
      c.loop-r.r _ c.loop-r.constraints _ c.loop-r.invariant.0 c.loop-r.invariant.1
      (beginning-is c.args.places.now (literal_at c.args.values.now) c.args.roots.now c.loop-r.r _
      c.started.ensures) _ _
      (added-one c.loop-r.gates.first c.loop-r.gates.ands _ _ _ _ _ c.in_ok-begun.ensures.made
      c.in_ok-push.ensures.added),
  c.in_ok-begun.ensures.first ∙ c.loop-r.invariant.1,
)
