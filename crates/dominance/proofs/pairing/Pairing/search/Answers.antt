use Rattle.std.proofs.Common.{ℕ, ◌≤◌, subst, arith}
use Rattle.dominance.specs.declared.reached.Node.{Node}
use Rattle.dominance.specs.Runs.{Pairing, Stands, Differ, first_told}
use Rattle.dominance.specs.Seen.{pairing_of}
use Rattle.dominance.proofs.Searching.{done-more, none-found, path-found}
use Rattle.dominance.proofs.pairing.Pairing.search.Goals as goal

pub loop-k-init : goal.loop-k-init
loop-k-init g c =
    record {
      linked = c.in_ok-reached.ensures.linked;
      reached = c.in_ok-reached.ensures.reached (pairing_of c.args.self.now) c.start.ensures.inside;
      ends = c.in_ok-ends.ensures;
      done = λ j lt. absurd (omega arith);
    }

pub returns-in_default : goal.returns-in_default
returns-in_default g c =
    let inv = c.loop-k.invariant in
    let past = c.in_default.ensures.none in
    none-found (pairing_of c.args.self.now) (Differ (pairing_of c.args.self.now)) c.loop-k.reached.nodes.keys c.loop-k.reached.links
    inv.reached inv.linked.some (λ j lt. inv.done j (omega (arith, lt, past)))

pub returns-then-differ : goal.returns-then-differ
returns-then-differ g c =
    let s : Pairing = pairing_of c.args.self.now in
    let inv = c.loop-k.invariant in
    let P : Node → Type 0 = λ x. (choice : ℕ → ℕ) (n : ℕ) → Stands s choice n x → (first_told s ≤ n)
    × Differ s choice n in
    path-found s (Differ s) c.loop-k.reached.nodes.keys c.loop-k.reached.links inv.reached c.loop-k.k
    c.in_ok-path.field-0 (c.in_ok-path.ensures.path s inv.reached)
    (subst P c.in-Some.ensures.node c.if-differ.ensures.differ)

pub loop-k-preserved : goal.loop-k-preserved
loop-k-preserved g c =
    let s : Pairing = pairing_of c.args.self.now in
    let inv = c.loop-k.invariant in
    let P : Node → Type 0 = λ x. (choice : ℕ → ℕ) (n : ℕ) → Stands s choice n x → first_told s ≤ n
    → ¬ Differ s choice n in
    let e = c.in_ok-follow.ensures in
    record {
      linked = e.linked;
      reached = e.reached;
      ends = c.if-differ.ensures.ends;
      done = done-more s (Differ s) c.loop-k.reached.nodes.keys c.follow.new.reached.nodes.keys e.grown
          c.loop-k.k inv.done c.in-Some.ensures.there e.followed
          (subst P c.in-Some.ensures.node c.if-differ.ensures.same);
    }
