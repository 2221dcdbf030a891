use Rattle.std.proofs.Common.{◌<◌, ◌≤◌, ◌*◌, ℕ, map, length, sym, subst, arith}
use Rattle.std.proofs.lemmas.Result.{IfErr-weaker}
use Rattle.hy_formula.specs.Quantifiers.{Each}
use Rattle.hy_formula.specs.Atoms.{plain_atom}
use Rattle.fin_monitor.specs.Codes.{letter_of}
use Rattle.fin_monitor.specs.Duties.{residual_at, later}
use Rattle.fin_monitor.specs.Lefts.{kept_lists}
use Rattle.fin_monitor.specs.Tables.{row_of, AreAllLefts, Puts, Follows, IsPutRefusal, IsTableRefusal}
use Rattle.fin_monitor.proofs.Exploring.{same-back, follows-put, put-refusal, row-power, ok-both, on-ok}
use Rattle.fin_monitor.proofs.Outdoing.{step-alike}
use Rattle.fin_monitor.proofs.Stepping.{kept-length}
use Rattle.fin_monitor.proofs.explore.Explored.follow.Goals as goal

pub returns : goal.returns
returns g c =
    let atoms = map plain_atom c.args.judge.now.atoms.now in
    let nodes = c.args.judge.now.closure.now.nodes in
    let old = kept_lists c.args.self.now.residuals.keys in
    let new = kept_lists c.number.new.self.residuals.keys in
    let r = c.in_ok-left.left.items in
    let code = c.args.code in
    let same = step-alike nodes (letter_of atoms code) c.args.residual.now (residual_at old c.args.row) r c.in_ok-left.ensures.family c.requires.residual c.in_ok-left.ensures.same in
    let there : c.args.row < length old = omega (arith, kept-length c.args.self.now.residuals.keys, c.requires.there) in
    let reach = later {nodes = nodes} {root = c.args.root} (letter_of atoms code) (residual_at old c.args.row) (c.requires.explored.reached.only c.args.row there) (same-back r _ same) in
    record {
      table = c.number.ensures.table;
      some = on-ok _ c.number.result (subst (λ l. 0 < length l.kept.items) (sym c.number.ensures.lefts) c.in_ok-left.ensures.some);
      lefts = on-ok _ c.number.result (subst (λ l. Each (λ k. AreAllLefts nodes atoms k.code (kept_lists k.lists)) l.kept.items) (sym c.number.ensures.lefts) c.in_ok-left.ensures.kept);
      follows = ok-both (Puts old r new) (Follows nodes c.args.root atoms old new c.args.self.now.table c.args.row code) c.number.result c.number.ensures.few c.number.ensures.put
          (λ n few puts.
          let D : ℕ → Type 0 = λ k. k * row_of atoms ≤ 4194304 in
          let E : ℕ → Type 0 = λ w. length c.number.new.self.residuals.keys * w ≤ 4194304 in
          follows-put nodes c.args.root atoms old new r n c.args.self.now.table puts c.requires.explored c.in_ok-left.ensures.family reach c.args.row code there
          (subst D (sym (kept-length c.number.new.self.residuals.keys)) (subst E (sym (row-power c.args.judge.now.atoms.now)) few)) same);
      refused = IfErr-weaker c.number.result (IsPutRefusal old r (length c.args.judge.now.atoms.now)) (IsTableRefusal nodes c.args.root atoms) (put-refusal nodes c.args.root atoms old r c.args.self.now.table (length c.args.judge.now.atoms.now) (sym (row-power c.args.judge.now.atoms.now)) c.requires.explored c.in_ok-left.ensures.family reach) c.number.ensures.refused;
    }
