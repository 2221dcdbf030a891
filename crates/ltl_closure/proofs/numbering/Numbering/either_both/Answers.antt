use Rattle.std.proofs.Common.{refl}
use Rattle.ltl_closure.specs.declared.node.Node.TheVariants.{And, Or}
use Rattle.ltl_closure.proofs.Visiting.{sides-visited}
use Rattle.ltl_closure.proofs.numbering.Numbering.either_both.Goals as goal

pub returns-clause-visited : goal.returns-clause-visited
returns-clause-visited c =
    sides-visited c.args.self.now _ _ c.insert-3.new.self c.args.left c.args.right _ _ (And c.args.left.0 c.args.left.1) (And c.args.right.0 c.args.right.1) (Or c.in_ok-left.left c.in_ok-right.right) c.insert-3.result c.insert.ensures.keeps c.insert-2.ensures.keeps
    c.in_ok-left.ensures.inserted c.in_ok-right.ensures.inserted c.insert-3.ensures.inserted refl refl refl
