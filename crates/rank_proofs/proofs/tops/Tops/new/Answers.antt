use Rattle.std.proofs.Common.{List, ◌∙◌, subst, arith}
use Rattle.std.proofs.lemmas.Grind.{common_steps}
use Rattle.indexmap.specs.IndexMap.{get}
use Rattle.ltl_tableau.specs.Ranks.{Ranked}
use Rattle.rank_proofs.specs.Tops.{same_branch, AreGreatest}
use Rattle.rank_proofs.proofs.tops.Tops.new.Goals as goal

pub returns : goal.returns
returns g c =
    let ranks = c.in_ok-greatest_ranks.field-0 in
    let P : List Ranked → Type 0 = λ es. AreGreatest es (get same_branch ranks) in
    record {
      brancher = c.in_ok-new.ensures;
      ranks =
          subst P (c.as_slice.ensures.keys ∙ (λ j. (c.proof.view_is j).entries))
          c.in_ok-greatest_ranks.ensures;
      known = grind (arith, common_steps);
    }
