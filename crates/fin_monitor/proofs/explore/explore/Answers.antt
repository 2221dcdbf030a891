use Rattle.std.proofs.Common.{◌≡◌, ◌+◌, ◌-◌, ◌*◌, ◌^◌, ◌<◌, List, ℕ, map, length, sym, ap, ◌∙◌, subst, arith}
use Rattle.hy_formula.specs.Atoms.{plain_atom}
use Rattle.fin_monitor.specs.Duties.{Duty, accepts}
use Rattle.fin_monitor.specs.Lefts.{kept_lists}
use Rattle.fin_monitor.specs.Tables.{row_of}
use Rattle.fin_monitor.proofs.Exploring.{row-power, row-some, few-rows}
use Rattle.fin_monitor.proofs.Stepping.{kept-length}
use Rattle.fin_monitor.proofs.explore.explore.Goals as goal

pub returns-clause-automaton : goal.returns-clause-automaton
returns-clause-automaton g c =
    let inv = c.loop-rows.invariant in
    let list : List (List Duty) = kept_lists c.loop-rows.explored.residuals.keys in
    let rows : c.loop-rows.rows ≡ length list = omega (arith, inv.within, c.loop-rows-test.false, c.len.ensures.len, kept-length c.loop-rows.explored.residuals.keys) in
    let P : ℕ → Type 0 = λ w. length c.loop-rows.explored.table ≡ length list * w in
    record {
      list = list;
      explored = inv.explored;
      whole = subst P (sym (row-power c.args.judge.now.atoms.now)) (inv.rows ∙ ap (λ n. n * 2 ^ length c.args.judge.now.atoms.now) rows);
      accepting = c.in_ok-accepting.ensures ∙ ap (λ l. map accepts (kept_lists l)) c.as_slice.ensures.keys;
    }

pub loop-rows-smaller : goal.loop-rows-smaller
loop-rows-smaller g c =
    let atoms = map plain_atom c.args.judge.now.atoms.now in
    let few = few-rows (length (kept_lists c.loop-rows.explored.residuals.keys)) (row_of atoms) (row-some atoms) c.loop-rows.invariant.explored.few in
    let smaller : 4194304 - (c.loop-rows.rows + 1) < 4194304 - c.loop-rows.rows = omega (arith, few, c.loop-rows-test.true, c.len.ensures.len, kept-length c.loop-rows.explored.residuals.keys) in
    smaller
