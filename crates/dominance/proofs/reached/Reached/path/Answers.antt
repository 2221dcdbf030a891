use Rattle.std.proofs.Common.{◌≡◌, ℕ, ◌<◌, List, sym, ap, ◌∙◌, subst, arith}
use Rattle.std.specs.Prelude.{reverse}
use Rattle.std.proofs.lemmas.Option.{get_or_from_slice_get}
use Rattle.dominance.specs.declared.reached.Link.{Link}
use Rattle.dominance.specs.declared.reached.Node.{Node}
use Rattle.dominance.specs.Trails.{link_at, led}
use Rattle.dominance.proofs.Reaching.{Leads, path-back}
use Rattle.dominance.proofs.reached.Reached.path.Goals as goal

pub loop-at-preserved : goal.loop-at-preserved
loop-at-preserved c =
    let nodes : List Node = c.args.self.now.nodes.keys in
    let links : List Link = c.args.self.now.links in
    let link : Link = c.at-link.result.now in
    let is : link_at links c.loop-at.at ≡ link =
    get_or_from_slice_get links c.loop-at.at link
    (record { from = 0; choice = 0 }) c.at-link.ensures in
    let inv = c.loop-at.invariant in
    let some : 0 < c.loop-at.at = c.loop-at-test.true in
    let back = c.requires.linked.back c.loop-at.at some inv.inside in
    let from = ap (λ (l : Link). l.from) is in
    record {
      inside = omega (arith, back, from, inv.inside);
      path = λ s are.
          let P : List ℕ → Type 0 = λ p. Leads s nodes link.from c.args.k (reverse p) in
          subst P (sym c.in_ok-push.ensures.added)
          (path-back s nodes links c.loop-at.at c.args.k c.loop-at.path link are some inv.inside
          is (inv.path s are));
    }

pub returns : goal.returns
returns c = record {
  path = λ s are.
      let nodes : List Node = c.args.self.now.nodes.keys in
      let same : c.loop-at.at ≡ 0 = omega (arith, c.loop-at-test.false) in
      let P : ℕ → Type 0 = λ k. Leads s nodes k c.args.k (reverse c.loop-at.path) in
      let (each, leads) = subst P same (c.loop-at.invariant.path s are) in
      let Q : List ℕ → Type 0 = λ p. Leads s nodes 0 c.args.k p in
      let (each, leads) = subst Q (sym c.reverse.ensures) (each, leads) in
      (each, ap (λ y. led s y c.reverse.new.self) (sym are.first) ∙ leads);
}
