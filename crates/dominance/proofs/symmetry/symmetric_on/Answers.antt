use Rattle.std.proofs.Common.{refl, ◌≡◌, ℕ, Bool, true, false, List, not, ◌&&◌, length, map, sym, ap, ◌∙◌, subst}
use Rattle.std.proofs.lemmas.Nat.{pow_pos}
use Rattle.fin_monitor.specs.Machines.{Machine, codes}
use Rattle.fin_monitor.specs.Seen.{machine_of}
use Rattle.fin_monitor.proofs.CodeBits.{code-lt}
use Rattle.dominance.specs.Choices.{Row, row_code, turned_code}
use Rattle.dominance.specs.Runs.{AreCodesOf}
use Rattle.dominance.proofs.Exchanging.{symmetric-answer}
use Rattle.dominance.proofs.Meaning.{codes-of}
use Rattle.dominance.proofs.symmetry.symmetric_on.Goals as goal
use Rattle.dominance.proofs.symmetry.symmetric_on.Goals.{then-not-there, else-not-there}

rows-below : (m : Machine) (rows : List Row) (list : List ℕ) → list ≡ map (row_code m) rows
    → AreCodesOf m list
rows-below m rows list is = let P : List ℕ → Type 0 = AreCodesOf m in
    subst P (sym is) (codes-of (row_code m) (codes m) (pow_pos (length m.atoms))
    (λ row. code-lt _ m.atoms) rows)

turned-below : (m : Machine) (rows : List Row) (list : List ℕ) → list ≡ map (turned_code m) rows
    → AreCodesOf m list
turned-below m rows list is = let P : List ℕ → Type 0 = AreCodesOf m in
    subst P (sym is) (codes-of (turned_code m) (codes m) (pow_pos (length m.atoms))
    (λ row. code-lt _ m.atoms) rows)

pub apart-requires-clause-upper : goal.apart-requires-clause-upper
apart-requires-clause-upper g c =
    rows-below (machine_of c.args.m.now) c.as_slice.result.now c.as_slice-3.result.now
    (c.as_slice-3.ensures ∙ c.in_ok-codes.ensures)

pub apart-requires-clause-lower : goal.apart-requires-clause-lower
apart-requires-clause-lower g c =
    turned-below (machine_of c.args.m.now) c.as_slice-2.result.now c.as_slice-4.result.now
    (c.as_slice-4.ensures ∙ c.in_ok-turned.ensures)

pub apart-requires-2-clause-upper : goal.apart-requires-2-clause-upper
apart-requires-2-clause-upper g c =
    turned-below (machine_of c.args.m.now) c.as_slice-2.result.now c.as_slice-5.result.now
    (c.as_slice-5.ensures ∙ c.in_ok-turned.ensures)

pub apart-requires-2-clause-lower : goal.apart-requires-2-clause-lower
apart-requires-2-clause-lower g c =
    rows-below (machine_of c.args.m.now) c.as_slice.result.now c.as_slice-6.result.now
    (c.as_slice-6.ensures ∙ c.in_ok-codes.ensures)

absorbs : (a b : Bool) → a ≡ true → not a ≡ (not a && b)
absorbs true b e = refl
absorbs false b e = absurd (cc)

pub returns : goal.returns
returns g c =
    let there : Bool = c.in_ok-there.there in
    let back : Bool = c.in_ok-back.back in
    let is : c.if-not-there.result ≡ (not c.in_ok-there.there && not c.in_ok-back.back) =
    elim c.if-not-there.branch [
      | then-not-there w ↦ w.result-is
          ∙ sym (ap (λ b. not b && not c.in_ok-back.back) w.if-not-there.true)
      | else-not-there w ↦ w.result-is
          ∙ absorbs c.in_ok-there.there (not c.in_ok-back.back) w.if-not-there.false
    ] in
    let rows : List Row = c.in_ok-rows.rows in
    let codes_are = c.in_ok-codes.ensures
    ∙ ap (λ (l : List Row). map (row_code (machine_of c.args.m.now)) l) c.as_slice.ensures in
    let turned_are = c.in_ok-turned.ensures
    ∙ ap (λ (l : List Row). map
    (turned_code (machine_of c.args.m.now)) l) c.as_slice-2.ensures in
    symmetric-answer (machine_of c.args.m.now) c.args.m.now.right
    (sym c.vars.ensures.vars ∙ c.if-vars-ne2.false) rows c.in_ok-rows.ensures
    c.as_slice-3.result.now c.as_slice-4.result.now c.as_slice-5.result.now c.as_slice-6.result.now
    (c.as_slice-3.ensures ∙ codes_are) (c.as_slice-4.ensures ∙ turned_are)
    (c.as_slice-5.ensures ∙ turned_are) (c.as_slice-6.ensures ∙ codes_are)
    there back c.if-not-there.result c.in_ok-there.ensures c.in_ok-back.ensures is
