use Rattle.std.proofs.Common.{List, ◌++◌, ◌∷◌, [], subst, sym}
use Rattle.std.specs.List.{Contains}
use Rattle.indexmap.proofs.CallerLemmas.{Contains-insert_key}
use Rattle.dominance.specs.declared.reached.Node.{Node}
use Rattle.dominance.specs.declared.reached.Link.{Link}
use Rattle.dominance.specs.contracts.reached.NodePartialEq.TheImpl.{ghosts}
use Rattle.dominance.specs.Trails.{AreReached}
use Rattle.dominance.proofs.Reaching.{equal-nodes, reached-more, inserted-new}
use Rattle.dominance.proofs.reached.Reached.add.Goals as goal

pub returns-in_ok-push-clause-reached : goal.returns-in_ok-push-clause-reached
returns-in_ok-push-clause-reached c = λ s are inside below is.
    let nodes = inserted-new c.args.self.now.nodes.keys c.insert_full.new.self.keys c.args.node _
    c.in_ok-_place.is_new c.in_ok-_place.ensures.added c.if-is_new.true
    c.in_ok-_place.ensures.keys in
    let link : Link = record { from = c.args.from; choice = c.args.choice } in
    let P : List Node → Type 0 = λ l. AreReached s l c.push.new.self in
    let Q : List Link → Type 0 = AreReached s (c.args.self.now.nodes.keys ++ c.args.node ∷ []) in
    subst P (sym nodes) (subst Q (sym c.in_ok-push.ensures.added)
    (reached-more s c.args.self.now.nodes.keys c.args.self.now.links c.args.node link
    c.requires.linked are inside c.requires.from below is))

pub returns-else-is_new-clause-there : goal.returns-else-is_new-clause-there
returns-else-is_new-clause-there c =
    let P : List Node → Type 0 = λ l. Contains l c.args.node in
    subst P (sym c.in_ok-_place.ensures.keys)
    (Contains-insert_key ghosts.eq equal-nodes c.args.self.now.nodes.keys c.args.node)
