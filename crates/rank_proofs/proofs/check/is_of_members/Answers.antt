use Rattle.std.proofs.Common.{◌↔◌, IsTrue, sym, ◌∙◌, subst}
use Rattle.std.proofs.lemmas.Bool.{false≢true}
use Rattle.ltl_tableau.specs.Branches.{Branch}
use Rattle.ltl_tableau.specs.Ranks.{IsOfMembers}
use Rattle.rank_proofs.proofs.check.is_of_members.Goals as goal

pub returns-then-are_members : goal.returns-then-are_members
returns-then-are_members g c =
    let last = c.are_members-then-are_members in
    let now = c.are_members.ensures.0 c.if-are_members.true in
    let P : Branch → Type 0 = λ b. IsTrue last.result ↔ IsOfMembers c.args.c.now.nodes b in
    subst P c.branch.view_is
    ((λ so. (now, last.ensures.0 so)), (λ (_, later). last.ensures.1 later))

pub returns-else-are_members : goal.returns-else-are_members
returns-else-are_members g c =
    let b = c.are_members.result in
    let P : Branch → Type 0 = λ branch. IsTrue b ↔ IsOfMembers c.args.c.now.nodes branch in
    subst P c.branch.view_is (
      (λ so. absurd (false≢true (sym c.if-are_members.false ∙ so))),
      (λ (now, _). c.are_members.ensures.1 now),
    )
