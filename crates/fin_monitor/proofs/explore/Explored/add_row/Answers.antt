use Rattle.std.proofs.Common.{rules, ◌+◌, List, sym, subst, arith}
use Rattle.fin_monitor.specs.Duties.{Duty, residual_at}
use Rattle.fin_monitor.specs.Lefts.{kept_lists}
use Rattle.fin_monitor.specs.Reductions.{LeaveAlike, AreFirsts}
use Rattle.fin_monitor.proofs.Exploring.{on-ok-map}
use Rattle.fin_monitor.proofs.Firsts.{known-row, new-row}
use Rattle.fin_monitor.proofs.Stepping.{kept-length}
use Rattle.fin_monitor.proofs.explore.Explored.add_row.Goals as goal

pub copy_row-requires : goal.copy_row-requires
copy_row-requires g c =
    let nodes = c.args.judge.now.closure.now.nodes in
    let list = kept_lists c.args.self.now.residuals.keys in
    let P : List Duty → Type 0 = λ l. LeaveAlike nodes l (residual_at list c.args.row) in
    let (before, alike, more) = known-row nodes list (kept_lists c.args.repeats.now.reduced.keys) (kept_lists c.first_row.new.self.reduced.keys) c.args.repeats.now.firsts c.first_row.new.self.firsts c.deref.result.now c.args.row c.in_ok-first.field-0
    c.requires.repeats c.in_ok-first.ensures (subst P (sym c.deref.ensures.value) c.in_ok-residual.ensures) c.in-Some.first c.in-Some.is in
    (search rules, (c.requires.few, (c.requires.there, (before, (c.requires.rows, (c.requires.explored, alike))))))

pub returns-in-Some-clause-repeats : goal.returns-in-Some-clause-repeats
returns-in-Some-clause-repeats g c =
    let nodes = c.args.judge.now.closure.now.nodes in
    let list = kept_lists c.args.self.now.residuals.keys in
    let P : List Duty → Type 0 = λ l. LeaveAlike nodes l (residual_at list c.args.row) in
    let (before, alike, more) = known-row nodes list (kept_lists c.args.repeats.now.reduced.keys) (kept_lists c.first_row.new.self.reduced.keys) c.args.repeats.now.firsts c.first_row.new.self.firsts c.deref.result.now c.args.row c.in_ok-first.field-0
    c.requires.repeats c.in_ok-first.ensures (subst P (sym c.deref.ensures.value) c.in_ok-residual.ensures) c.in-Some.first c.in-Some.is in
    subst (λ s. AreFirsts nodes (kept_lists s.keys) (kept_lists c.first_row.new.self.reduced.keys) c.first_row.new.self.firsts (c.args.row + 1)) (sym c.in_ok-copy_row.ensures.residuals) more

pub fill_row-requires : goal.fill_row-requires
fill_row-requires g c =
    let P : List Duty → Type 0 = λ l. LeaveAlike c.args.judge.now.closure.now.nodes l (residual_at (kept_lists c.args.self.now.residuals.keys) c.args.row) in
    let r = c.requires in
    (search rules, (search rules, (r.width, (r.members, (r.few, (r.masks, (r.there, (r.rows, (r.explored, (r.some, (r.lefts, subst P (sym c.deref-2.ensures.value) c.in_ok-residual.ensures)))))))))))

pub returns-clause-repeats : goal.returns-clause-repeats
returns-clause-repeats g c =
    let nodes = c.args.judge.now.closure.now.nodes in
    let list = kept_lists c.args.self.now.residuals.keys in
    let more = kept_lists c.fill_row.new.self.residuals.keys in
    let P : List Duty → Type 0 = λ l. LeaveAlike nodes l (residual_at list c.args.row) in
    let long = kept-length c.args.self.now.residuals.keys in
    on-ok-map c.fill_row.result c.fill_row.ensures.stays
    (λ stays. new-row nodes list (kept_lists c.args.repeats.now.reduced.keys) (kept_lists c.first_row.new.self.reduced.keys) c.args.repeats.now.firsts c.first_row.new.self.firsts c.deref.result.now c.args.row c.in_ok-first.field-0
    c.requires.repeats c.in_ok-first.ensures (subst P (sym c.deref.ensures.value) c.in_ok-residual.ensures) more c.in_default.not-Some (omega (arith, c.requires.there, long)) (λ q lt. stays q (omega (arith, lt, long))))
