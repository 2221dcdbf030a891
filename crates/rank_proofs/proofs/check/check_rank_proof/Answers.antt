use Rattle.std.proofs.Common.{◌≡◌, ◌↔◌, Bool, List, Option, ℕ, IsTrue, ◌∙◌, subst}
use Rattle.std.specs.List.{All}
use Rattle.std.specs.Option.{ForSome}
use Rattle.std.proofs.lemmas.Result.{IfOk-weaker}
use Rattle.ltl_tableau.specs.Ranks.{IsUntilNode, IsRankProof}
use Rattle.rank_proofs.specs.Edges.{ArePlaced}
use Rattle.rank_proofs.proofs.Rules.{placed-all, from-placed}
use Rattle.rank_proofs.proofs.check.check_rank_proof.Goals as goal

pub returns : goal.returns
returns g c =
    let nodes = c.args.c.now.nodes in
    let roots = c.args.roots.now in
    let proof = c.args.proof.now in
    let reasons : c.as_slice.result.now ≡ proof.reasons =
    c.as_slice.ensures ∙ (λ j. (c.proof.view_is j).reasons) in
    let Q : List (Option ℕ) → Type 0 = All (λ reason. ForSome reason (IsUntilNode nodes)) in
    let untils : Q proof.reasons =
    subst Q reasons (c.are_untils.ensures.0 c.if-not-are_untils.false) in
    let P : Bool → Type 0 = λ b. IsTrue b ↔ ArePlaced nodes roots proof in
    let R : Bool → Type 0 = λ b. IsTrue b ↔ IsRankProof nodes roots proof in
    IfOk-weaker c.are_placed.result P R (λ b found. (
      (λ so. from-placed nodes roots proof untils (found.0 so)),
      (λ is. found.1 (placed-all nodes roots proof is)),
    )) c.are_placed.ensures
