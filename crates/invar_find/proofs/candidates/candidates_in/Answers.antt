use Rattle.std.proofs.Common.{◌≡◌, ℕ, min, Bool, true, false, ◌++◌, [], List, length, sym, subst, arith, ◌∙◌}
use Rattle.std.proofs.lemmas.List.{append-nil}
use Rattle.hy_base.specs.Rows.{row}
use Rattle.cnf_frames.specs.declared.facts.Fact.{Fact}
use Rattle.chain_check.specs.FewClauses.{for_each}
use Rattle.invar_find.specs.Candidates.{pairs_with, single_facts}
use Rattle.invar_find.specs.Parts.{AreThose}
use Rattle.invar_find.specs.Standing.{Stands}
use Rattle.invar_find.proofs.Choosing.{pairs-more, zero-gone, zero-left}
use Rattle.invar_find.proofs.Sublists.{those-none}
use Rattle.invar_find.proofs.candidates.candidates_in.Goals as goal
use Rattle.invar_find.proofs.candidates.candidates_in.Goals.{then-not-one+in_ok-push, else-not-one}

pub loop-j-init : goal.loop-j-init
loop-j-init c =
    let A : List Fact → Type 0 = AreThose (Stands c.args.seen.now) [] in
    subst A (sym c.new-made.ensures) (those-none _)

pub loop-j-preserved : goal.loop-j-preserved
loop-j-preserved c =
    let Z : List Bool → Type 0 = λ ones. row ones c.loop-j.j ≡ false in
    let O : List Bool → Type 0 = λ ones. row ones c.loop-j.j ≡ true in
    elim c.if-not-one.branch [
      | then-not-one+in_ok-push w ↦
          zero-left c.args.seen.now c.requires.none c.loop-j.j _ _
          (subst Z c.as_slice.ensures w.if-not-one.true) c.loop-j.invariant
          (w.made-is ∙ w.in_ok-push.ensures.added)
      | else-not-one w ↦
          zero-gone c.args.seen.now c.requires.none c.loop-j.j _ _
          (λ zero. let clash : false ≡ true =
          sym zero ∙ subst O c.as_slice.ensures w.if-not-one.false in (cc))
          c.loop-j.invariant w.made-is
    ]

pub loop-j-2-init : goal.loop-j-2-init
loop-j-2-init c =
    let N : ℕ → Type 0 = λ n. AreThose (Stands c.args.seen.now) (single_facts n) c.loop-j.made in
    let A : List Fact → Type 0 = λ all. AreThose (Stands c.args.seen.now) all c.loop-j.made in
    let all : c.loop-j.j ≡ length c.args.seen.now.ones = omega arith in
    subst A (sym (append-nil (single_facts (length c.args.seen.now.ones))))
    (subst N all c.loop-j.invariant)

pub loop-j-2-preserved : goal.loop-j-2-preserved
loop-j-2-preserved c =
    pairs-more (Stands c.args.seen.now) (single_facts (length c.args.seen.now.ones)) _ _ c.loop-j-2.j
    c.loop-j-2.invariant c.in_ok-add_pairs.ensures

pub returns : goal.returns
returns c =
    let N : ℕ → Type 0 = λ n. AreThose (Stands c.args.seen.now)
    (single_facts (length c.args.seen.now.ones) ++ for_each pairs_with n) c.loop-j-2.made in
    let all : c.loop-j-2.j ≡ min (length c.args.seen.now.ones) 512 = omega arith in
    subst N all c.loop-j-2.invariant
