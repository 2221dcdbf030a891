use Rattle.std.proofs.Common.{◌≡◌, sym, ◌∙◌, subst}
use Rattle.std.specs.FinSet.{intersection}
use Rattle.hy_bits.specs.Letter.{Letter}
use Rattle.rv_core.proofs.Naming.{within}
use Rattle.rv_core.proofs.names.Names.have.Goals as goal

pub returns : goal.returns
returns c is =
    let P : Letter → Type 0 = λ all. intersection c.args.letter all ≡ c.args.letter in
    subst P c.self.view_is
    (within c.args.letter c.self.inside.all (sym c.is_subset.ensures ∙ is))
