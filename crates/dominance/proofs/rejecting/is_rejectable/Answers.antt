use Rattle.std.proofs.Common.{ℕ, List, map, sym, ap, ◌∙◌, subst}
use Rattle.fin_monitor.specs.Machines.{Machine}
use Rattle.fin_monitor.specs.Seen.{machine_of}
use Rattle.fin_monitor.proofs.CodeBits.{code-lt}
use Rattle.dominance.specs.Choices.{Row, row_code}
use Rattle.dominance.specs.Telling.{AreClosed, HasParts, MayStay}
use Rattle.dominance.proofs.Meaning.{codes-below}
use Rattle.dominance.proofs.Staying.{rejectable}
use Rattle.dominance.proofs.rejecting.is_rejectable.Goals as goal

pub are_closed-requires-clause-codes : goal.are_closed-requires-clause-codes
are_closed-requires-clause-codes g c =
    let m : Machine = machine_of c.args.m.now in
    codes-below m (row_code m) (λ x. code-lt _ m.atoms) c.as_slice.result.now
    c.as_slice-3.result.now (c.as_slice-3.ensures ∙ c.in_ok-codes.ensures)

pub may_stay-requires-clause-codes : goal.may_stay-requires-clause-codes
may_stay-requires-clause-codes g c =
    let m : Machine = machine_of c.args.m.now in
    codes-below m (row_code m) (λ x. code-lt _ m.atoms) c.as_slice.result.now
    c.as_slice-3.result.now (c.as_slice-3.ensures ∙ c.in_ok-codes.ensures)

pub shrink-requires-clause-codes : goal.shrink-requires-clause-codes
shrink-requires-clause-codes g c =
    let m : Machine = machine_of c.args.m.now in
    codes-below m (row_code m) (λ x. code-lt _ m.atoms) c.as_slice.result.now
    c.as_slice-3.result.now (c.as_slice-3.ensures ∙ c.in_ok-codes.ensures)

pub returns-then-are_closed : goal.returns-then-are_closed
returns-then-are_closed g c = λ may.
    let m : Machine = machine_of c.args.m.now in
    let rows : List Row = c.in_ok-rows.rows in
    let parts : List ℕ = c.as_slice-2.result.now in
    let P : List ℕ → Type 0 = HasParts m c.args.place in
    let codes_are = c.as_slice-3.ensures ∙ c.in_ok-codes.ensures
    ∙ ap (λ (l : List Row). map (row_code m) l) c.as_slice.ensures in
    let Q : List ℕ → Type 0 = λ choices. AreClosed m parts choices c.loop-pass.rejecting in
    let R : List ℕ → Type 0 = λ choices. MayStay m parts choices c.loop-pass.rejecting 0 in
    let S : ℕ → Type 0 = MayStay m parts c.as_slice-3.result.now c.loop-pass.rejecting in
    rejectable m c.args.place rows parts c.loop-pass.rejecting c.loop-pass.invariant
    (subst P (sym c.as_slice-2.ensures) c.in_ok-parts.ensures.all)
    (subst Q codes_are (c.are_closed.ensures c.if-are_closed.true))
    (subst R codes_are (subst S c.start.ensures.start (c.may_stay.ensures may)))
    c.in_ok-rows.ensures
