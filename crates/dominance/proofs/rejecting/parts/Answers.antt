use Rattle.std.proofs.Common.{◌≡◌, ℕ, List, [], ◌∷◌, ◌++◌, length, take, inl, inr, sym, ap, ◌∙◌, subst, arith, get_or}
use Rattle.std.specs.List.{Contains}
use Rattle.std.specs.FinSet.{empty}
use Rattle.std.proofs.lemmas.Bool.{cases_lt}
use Rattle.std.proofs.lemmas.List.{get_or_default}
use Rattle.std.proofs.lemmas.List.Elements.{Contains-append_left, Contains-append_right}
use Rattle.hy_base.proofs.Members.{contains-here}
use Rattle.fin_monitor.specs.Codes.{code_of, joint_letter, part_of}
use Rattle.fin_monitor.specs.Machines.{Machine}
use Rattle.fin_monitor.specs.Seen.{machine_of}
use Rattle.dominance.specs.Choices.{Row, AreRows, row_code}
use Rattle.dominance.specs.Runs.{AreCodesOf}
use Rattle.dominance.proofs.Staying.{codes-more, part-given}
use Rattle.dominance.proofs.rejecting.parts.Goals as goal
use Rattle.dominance.proofs.rejecting.parts.Goals.{then-part-joint+in_ok-push, else-part-joint}

pub loop-row-preserved : goal.loop-row-preserved
loop-row-preserved c =
    let m : Machine = machine_of c.args.m.now in
    let place = c.args.place in
    let k : ℕ = c.loop-row.row-index in
    let rows : List Row = c.as_slice-row-items.result.now in
    let inv = c.loop-row.invariant in
    let lt = c.loop-row-test.true in
    let P : List Row → Type 0 = λ l. (row : Row) → Contains l row → length row ≡ 4 in
    let long = subst P (sym c.as_slice-row-items.ensures) c.in_ok-rows.ensures.long
    c.row-item.result (k, lt, sym c.row-item.is) in
    let row_is : c.row-item.result ≡ get_or rows k [] =
    c.row-item.is ∙ get_or_default rows k c.row-item.result [] lt in
    let few = c.vars.ensures.few in
    let vars = c.vars.ensures.vars in
    let below = c.requires in
    let part_is : c.part-part.result
    ≡ part_of m.atoms place (get_or (get_or rows k []) place empty) =
    c.part-part.ensures.part
    ∙ ap (part_of m.atoms place)
    (get_or_default c.row-item.result place c.index-row-place.result empty (omega arith))
    ∙ ap (λ (r : Row). part_of m.atoms place (get_or r place empty)) row_is in
    let joint_is : c.joint.result ≡ row_code m (get_or rows k []) =
    c.joint.ensures.joint
    ∙ ap (λ n. code_of (joint_letter (take n c.row-item.result)) m.atoms)
    c.vars-in-loop-row.ensures.vars
    ∙ ap (row_code m) row_is in
    elim c.if-part-joint.branch [
      | then-part-joint+in_ok-push w ↦
          let more = w.parts-is ∙ w.in_ok-push.ensures.added in
          let Q : List ℕ → Type 0 = AreCodesOf m in
          record {
            all = λ j less same. let R : List ℕ → Type 0 =
                λ l. Contains l (row_code m (get_or rows j [])) in
                subst R (sym more) (elim (cases_lt j k) [
                  | inl old ↦ Contains-append_left c.loop-row.parts (c.part-part.result ∷ []) _
                      (inv.all j old same)
                  | inr ge ↦
                      let now : k ≡ j = omega arith in
                      let S : ℕ → Type 0 =
                      λ x. Contains (c.loop-row.parts ++ c.part-part.result ∷ []) x in
                      let T : ℕ → Type 0 = λ q. S (row_code m (get_or rows q [])) in
                      subst T now (subst S (w.if-part-joint.true ∙ joint_is)
                      (Contains-append_right c.loop-row.parts (c.part-part.result ∷ []) _
                      (contains-here c.part-part.result [])))
                ]);
            below = subst Q (sym more) (codes-more m c.loop-row.parts c.part-part.result inv.below
                c.part-part.ensures.within);
          }
      | else-part-joint w ↦
          let Q : List ℕ → Type 0 = AreCodesOf m in
          record {
            all = λ j less same. let R : List ℕ → Type 0 =
                λ l. Contains l (row_code m (get_or rows j [])) in
                subst R (sym w.parts-is) (elim (cases_lt j k) [
                  | inl old ↦ inv.all j old same
                  | inr ge ↦
                      let now : k ≡ j = omega arith in
                      let T : ℕ → Type 0 = λ q.
                      ¬ (part_of m.atoms place (get_or (get_or rows q []) place empty)
                      ≡ row_code m (get_or rows q [])) in
                      absurd (subst T now (λ e. w.if-part-joint.false
                      (part_is ∙ e ∙ sym joint_is)) same)
                ]);
            below = subst Q (sym w.parts-is) inv.below;
          }
    ]

pub returns-clause-all : goal.returns-clause-all
returns-clause-all c = λ letter.
    let m : Machine = machine_of c.args.m.now in
    let rows : List Row = c.as_slice-row-items.result.now in
    let P : List Row → Type 0 = λ l. AreRows m.atoms m.variables l in
    let Q : ℕ → Type 0 = λ n. AreRows m.atoms n c.in_ok-rows.rows in
    part-given m c.args.m.now.right c.args.place letter rows
    (subst P (sym c.as_slice-row-items.ensures)
    (subst Q c.vars.ensures.vars c.in_ok-rows.ensures))
    c.loop-row.parts
    (λ k lt. c.loop-row.invariant.all k (omega (arith, lt, c.loop-row-test.false)))
