use Rattle.std.proofs.Common.{ℕ, List, ◌<◌, subst, sym}
use Rattle.std.proofs.lemmas.Result.{IfOk-weaker}
use Rattle.hy_base.specs.Rows.{row}
use Rattle.hy_formula.specs.Trees.{tree_of}
use Rattle.chain_check.specs.Values.{AllMet}
use Rattle.bound_search.specs.Queries.{member_clauses}
use Rattle.bound_search.specs.Spelling.{AreMembersRead}
use Rattle.bound_search.proofs.FoundLists.{members-met, found}
use Rattle.bound_search.proofs.search.read_list.Goals as goal

pub members-requires-clause-met : goal.members-requires-clause-met
members-requires-clause-met c =
    let P : List ℕ → Type 0 = λ names. (t : ℕ) → t < c.args.bound.traces →
    AllMet (row c.args.values.now) (member_clauses names c.args.bound t) in
    subst P (sym c.in_ok-names.ensures.names)
    (members-met c.args.bound c.requires.bound c.args.f.now.prefix (tree_of c.args.f.now.body)
    c.args.f.now.bound c.args.values.now c.requires.met)

pub returns : goal.returns
returns c =
    let P : List ℕ → Type 0 = λ names.
    AreMembersRead (row c.args.values.now) names c.args.bound c.in_ok-members.members in
    IfOk-weaker c.each_once.result _ _
    (λ list each. found c.args.bound c.requires.bound c.args.f.now.prefix
    (tree_of c.args.f.now.body) c.args.f.now.bound c.args.values.now c.requires.met
    c.in_ok-members.members list
    (subst P c.in_ok-names.ensures.names c.in_ok-members.ensures) each)
    c.each_once.ensures
