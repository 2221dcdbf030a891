use Rattle.std.proofs.Common.{◌≡◌, ℕ, [], ◌∷◌, List, ◌∙◌, subst, sym, arith}
use Rattle.cnf_frames.specs.declared.facts.Fact.TheVariants.{Same, Differ}
use Rattle.chain_check.specs.FewClauses.{for_each}
use Rattle.invar_find.specs.Standing.{AddsThose, Stands}
use Rattle.std.specs.Prelude.{slice_index}
use Rattle.invar_find.proofs.Choosing.{pair-gone, pair-left, pairs-none}
use Rattle.invar_find.proofs.candidates.add_pairs.Goals as goal
use Rattle.invar_find.proofs.candidates.add_pairs.Goals.{then-other-class+in_ok-push, else-other-class}

pub loop-i-init : goal.loop-i-init
loop-i-init c = pairs-none _ _

pub loop-i-preserved : goal.loop-i-preserved
loop-i-preserved c =
    let K : List ℕ → Type 0 = λ xs. slice_index xs c.loop-i.i ≡ slice_index xs c.args.j in
    elim c.if-other-class.branch [
      | then-other-class+in_ok-push w ↦
          pair-left c.args.seen.now c.requires.none c.loop-i.i c.args.j _ _ _
          (subst K c.as_slice-classes.ensures w.if-other-class.true) c.loop-i.invariant
          (w.made-is ∙ w.in_ok-push.ensures.added)
      | else-other-class w ↦
          pair-gone c.args.seen.now c.requires.none c.loop-i.i c.args.j _ _ _
          (λ same. w.if-other-class.false (subst K (sym c.as_slice-classes.ensures) same))
          c.loop-i.invariant w.made-is
    ]

pub returns : goal.returns
returns c =
    let N : ℕ → Type 0 = λ n. AddsThose (Stands c.args.seen.now)
    (for_each (λ i. Same i c.args.j ∷ Differ i c.args.j ∷ []) n) c.args.made.now c.loop-i.made in
    let all : c.loop-i.i ≡ c.args.j = omega arith in
    subst N all c.loop-i.invariant
