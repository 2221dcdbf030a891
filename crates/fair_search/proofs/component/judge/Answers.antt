use Rattle.std.proofs.Common.{ℕ, ◌≡◌, ◌∙◌, List, length, get_or, ap, subst, below_more, arith}
use Rattle.std.specs.List.{Contains}
use Rattle.std.proofs.lemmas.List.{get_or_default}
use Rattle.rank_check.specs.Graphs.{Postpones, node_of}
use Rattle.fair_search.proofs.component.judge.Goals as goal
use Rattle.fair_search.proofs.component.judge.Goals.{else-nodes-eq1-via-then-nodes-eq1+else-not-looped, else-nodes-eq1-via-else-nodes-eq1}

pub loop-until-preserved : goal.loop-until-preserved
loop-until-preserved c =
    let e = c.as_slice-until-items.ensures ∙ c.postponed.ensures in
    let P : List ℕ → Type 0 = λ xs. ¬ Postpones c.args.g.now c.in-Some._free
    (get_or xs c.loop-until.until-index 0) in
    below_more _ _ c.loop-until.invariant (
      c.in-Some._free,
      c.in-Some.ensures.0,
      subst P e c.in-Some.ensures.1,
    )

pub returns : goal.returns
returns c = record {
  inner = λ one.
      elim c.else-nodes-eq1.branch [
        | else-nodes-eq1-via-then-nodes-eq1+else-not-looped w ↦ c.requires.loop_there
            w.if-not-looped.false
        | else-nodes-eq1-via-else-nodes-eq1 w ↦ absurd (w.if-nodes-eq1.false one)
      ];
  free = λ until there.
      let (k, lt, at) = there in
      let untils = (node_of c.args.g.now (get_or c.args.nodes.now 0 0)).postponed in
      let e : c.as_slice-until-items.result.now ≡ untils = c.as_slice-until-items.ensures
      ∙ c.postponed.ensures in
      let P : ℕ → Type 0 = λ u. (v : ℕ) × Contains c.args.nodes.now v × ¬ Postpones c.args.g.now v u
      in
      subst P (get_or_default untils k 0 until lt ∙ at)
      (c.loop-until.invariant k (omega (arith, lt, ap length e)));
}
