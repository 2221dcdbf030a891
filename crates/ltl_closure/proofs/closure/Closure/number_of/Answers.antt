use Rattle.std.proofs.Common.{Some, None, sym, subst}
use Rattle.ltl_closure.specs.Jobs.{Rooted}
use Rattle.ltl_closure.specs.Numbered.{IsNumberOf}
use Rattle.ltl_closure.specs.Plain.{plain_node}
use Rattle.ltl_closure.proofs.Finding.{number-some, number-none}
use Rattle.ltl_closure.proofs.closure.Closure.number_of.Goals as goal

pub returns-in-Some : goal.returns-in-Some
returns-in-Some c =
    let P : Rooted → Type 0 =
    λ r. IsNumberOf r.nodes (plain_node c.args.node) (Some c.in-Some.place) in
    subst P c.self.view_is
    (number-some c.self.inside.members.keys c.len-different.ensures.unique c.args.node c.in-Some.place (sym c.in-Some.ensures.index))

pub returns-in-None : goal.returns-in-None
returns-in-None c =
    let P : Rooted → Type 0 = λ r. IsNumberOf r.nodes (plain_node c.args.node) None in
    subst P c.self.view_is
    (number-none c.self.inside.members.keys c.len-different.ensures.unique c.args.node
    (sym c.in-None.ensures.found))
