use Rattle.std.proofs.Common.{◌≤◌, ◌∷◌, [], List, map, length, sym, ap, ◌∙◌, subst, arith}
use Rattle.hy_formula.specs.Atoms.{plain_atom}
use Rattle.fin_monitor.specs.Duties.{Duty}
use Rattle.fin_monitor.specs.Lefts.{kept_lists}
use Rattle.fin_monitor.specs.Tables.{row_of, IsExplored}
use Rattle.fin_monitor.proofs.Exploring.{explored-start, small-row}
use Rattle.fin_monitor.proofs.explore.Explored.new.Goals as goal

pub returns : goal.returns
returns g c =
    let atoms = map plain_atom c.args.judge.now.atoms.now in
    let nodes = c.args.judge.now.closure.now.nodes in
    let P : List (List Duty) → Type 0 = λ l. IsExplored nodes c.args.root atoms l c.new.result in
    let few : row_of atoms ≤ 4194304 = omega (arith, small-row c.args.judge.now.atoms.now c.requires.few) in
    record {
      explored = subst P (sym (ap (λ s. kept_lists s.keys) c.residuals-2.view_is))
          (explored-start nodes c.args.root atoms (kept_lists c.new-residuals.result.keys) (kept_lists c.put.new.residuals.keys) c.in_ok-start.start.items c.in_ok-put.field-0 c.new.result
          (ap (λ l. kept_lists l) c.new-residuals.ensures.empty) (c.in_ok-start.ensures ∙ ap (λ d. d ∷ []) c.strongly.ensures) c.in_ok-put.ensures (ap length c.new.ensures) few);
      none = ap length c.new.ensures;
      some = c.in_ok-new.ensures.some;
      lefts = c.in_ok-new.ensures.kept;
    }
