use Rattle.std.proofs.Common.{◌∙◌, subst, ℕ, List}
use Rattle.hy_text.specs.Found.{IsMembersFound}
use Rattle.hy_text.proofs.ReadingSets.{set_found}
use Rattle.hy_text.proofs.sets.read_set.Goals as goal

pub returns-clause-found : goal.returns-clause-found
returns-clause-found c =
    let members : List ℕ → Type 0 = λ t. IsMembersFound c.args.names.now t c.read_members.result in
    set_found c.args.names.now c.args.text.now c.in-Some.inner.now c.read_members.result c.in-Some.ensures.found
    (λ rest e. c.in_default-past_byte.ensures.found rest (c.past_blanks-members.ensures.behind ∙ e))
    (subst members c.past_blanks-members.ensures.behind c.read_members.ensures.found)
