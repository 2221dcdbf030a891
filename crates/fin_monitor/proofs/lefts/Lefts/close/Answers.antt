use Rattle.std.proofs.Common.{◌++◌, List, ℕ, sym, subst}
use Rattle.fin_monitor.specs.Duties.{Duty, joined, AreAlike}
use Rattle.fin_monitor.specs.Lefts.{kept_lists, IsUnionsBelow}
use Rattle.fin_monitor.proofs.Stepping.{joined-by, kept-length}
use Rattle.fin_monitor.proofs.lefts.Lefts.close.Goals as goal

pub returns-clause-joined : goal.returns-clause-joined
returns-clause-joined g c =
    let lists : List (List Duty) = kept_lists c.args.self.now.lists in
    let P : List Duty → List Duty → Type 0 = λ l m. AreAlike c.add_joined.new.family.items (c.args.next.now.items ++ joined l m) in
    let Q : ℕ → Type 0 = λ n. IsUnionsBelow lists c.args.self.now.code c.args.weak.now n c.in_ok-left.left.items in
    joined-by lists c.args.self.now.code c.args.next.now.items c.args.strong.now.items c.in_ok-left.left.items c.add_joined.new.family.items c.args.weak.now
    (subst (λ l. P l c.in_ok-left.left.items) c.deref.ensures.value (subst (P c.deref.result.now) c.deref-2.ensures.value c.in_ok-add_joined.ensures.added))
    (subst Q (sym (kept-length c.args.self.now.lists)) c.in_ok-left.ensures)
