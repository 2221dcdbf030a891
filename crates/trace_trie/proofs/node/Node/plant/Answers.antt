use Rattle.std.proofs.Common.{◌<◌}
use Rattle.std.proofs.lemmas.Result.{on_ok_weaker}
use Rattle.hy_formula.proofs.Each.{each-right}
use Rattle.trace_trie.specs.Numbered.{Numbered, ended}
use Rattle.trace_trie.specs.Kids.{spread}
use Rattle.trace_trie.proofs.Ordering.{in-order-more}
use Rattle.trace_trie.proofs.Planting.{more-passing}
use Rattle.trace_trie.proofs.node.Node.plant.Goals as goal

pub plant-requires-clause-above : goal.plant-requires-clause-above
plant-requires-clause-above c =
    each-right (λ (p : Numbered). p.0 < c.args.number) (ended c.args.self.now.ends)
    (spread c.args.self.now.children) c.requires.above

pub returns-clause-planted : goal.returns-clause-planted
returns-clause-planted c =
    on_ok_weaker c.plant.result
    (λ m. in-order-more (more-passing c.args.self.now.children c.plant.new.self m c.args.self.now.ends)
    c.requires.above) c.plant.ensures.planted
