use Rattle.std.proofs.Common.{◌≡◌, ◌≤◌, length, slice_get, Option, ℕ, Some, refl, sym, ◌∙◌, subst, arith}
use Rattle.std.proofs.lemmas.Bool.{false≢true}
use Rattle.ltl_tableau.specs.Branches.{Members, branches}
use Rattle.ltl_tableau.specs.Ranks.{Ranked, IsOfMembers, HasAll}
use Rattle.rank_proofs.specs.Edges.{IsTop}
use Rattle.rank_proofs.specs.Tops.{IsTopFound}
use Rattle.rank_proofs.proofs.Checking.{refused, rank-past, placed-by}
use Rattle.rank_proofs.proofs.check.is_placed.Goals as goal
use Rattle.rank_proofs.proofs.check.is_placed.Goals.{then-rank-len-via-then-rank-len, then-rank-len-via-else-rank-len+then-not-is_of_members}

pub returns-then-rank-len-clause-placed : goal.returns-then-rank-len-clause-placed
returns-then-rank-len-clause-placed g c =
    let proof = c.args.proof.now in
    let d = c.args.entry.now in
    elim c.then-rank-len.branch [
      | then-rank-len-via-then-rank-len w ↦
          let count : length c.proof.inside.reasons ≡ length proof.reasons =
          λ i. length (c.proof.view_is i).reasons in
          let rank : c.entry.inside.rank ≡ d.rank = λ i. (c.entry.view_is i).rank in
          let past : length proof.reasons ≤ d.rank =
          omega (arith, w.if-rank-len.true, c.len.ensures) in
          refused _ refl (rank-past c.args.c.now.nodes proof d past)
      | then-rank-len-via-else-rank-len+then-not-is_of_members w ↦
          let P : Ranked → Type 0 = λ e. IsOfMembers c.args.c.now.nodes e.branch in
          refused _ refl (λ is. false≢true (sym w.if-not-is_of_members.true
          ∙ w.is_of_members.ensures.1 (subst P (sym c.entry.view_is) is.members)))
    ]

pub returns-in-Some-clause-placed : goal.returns-in-Some-clause-placed
returns-in-Some-clause-placed g c =
    let nodes = c.args.c.now.nodes in
    let proof = c.args.proof.now in
    let d = c.args.entry.now in
    let at : slice_get proof.reasons d.rank ≡ Some c.at.result.now =
    sym (λ i. slice_get (c.proof.view_is i).reasons (c.entry.view_is i).rank) ∙ c.at.ensures in
    let set : c.branch.inside.next ≡ d.branch.later =
    (λ i. (c.branch.view_is i).later) ∙ (λ i. (c.entry.view_is i).branch.later) in
    let P : Ranked → Type 0 = λ e. IsOfMembers nodes e.branch in
    let Q : Option (Option ℕ) → Type 0 = IsTopFound nodes proof.entries c.branch.inside.next in
    let R : Members → Type 0 = λ s. IsTop proof.entries (branches nodes s) c.in-Some.top in
    let answers = c.in_ok-top.ensures proof.entries c.requires.knows in
    placed-by nodes proof d c.in-Some.top c.at.result.now c.allows.result at
    (subst P c.entry.view_is (c.is_of_members.ensures.0 c.if-not-is_of_members.false))
    (subst R set (subst Q c.in-Some.is answers.top)) c.allows.ensures

pub returns-in-Some-clause-knows : goal.returns-in-Some-clause-knows
returns-in-Some-clause-knows g c =
    (c.in_ok-top.ensures c.args.proof.now.entries c.requires.knows).knows

pub returns-in-None-clause-placed : goal.returns-in-None-clause-placed
returns-in-None-clause-placed g c =
    let nodes = c.args.c.now.nodes in
    let entries = c.args.proof.now.entries in
    let set : c.branch.inside.next ≡ c.args.entry.now.branch.later =
    (λ i. (c.branch.view_is i).later) ∙ (λ i. (c.entry.view_is i).branch.later) in
    let Q : Option (Option ℕ) → Type 0 = IsTopFound nodes entries c.branch.inside.next in
    let R : Members → Type 0 = λ s. ¬ HasAll nodes entries s in
    let answers = c.in_ok-top.ensures entries c.requires.knows in
    let missing : ¬ HasAll nodes entries c.args.entry.now.branch.later =
    subst R set (subst Q c.in-None.is answers.top) in
    refused _ refl (λ is. missing is.closed)

pub returns-in-None-clause-knows : goal.returns-in-None-clause-knows
returns-in-None-clause-knows g c =
    (c.in_ok-top.ensures c.args.proof.now.entries c.requires.knows).knows
