use Rattle.std.proofs.Common.{◌++◌, List, ℕ, sym, subst}
use Rattle.std.proofs.lemmas.Bool.{eqb-true}
use Rattle.rv_watch.specs.At.{IsTaken}
use Rattle.rv_watch.proofs.Feeding.{no-bytes}
use Rattle.rv_watch.proofs.input.take_ended.Goals as goal

pub returns-then-is_empty-clause-taken : goal.returns-then-is_empty-clause-taken
returns-then-is_empty-clause-taken g c specs from course at =
    let empty = no-bytes c.args.front.now (eqb-true _ 0 (sym c.if-is_empty.ensures)) in
    let P : List ℕ → Type 0 = λ f. IsTaken c.args.terms.now specs g.E.Sink from c.take.new.err c.take.new.self (f ++ c.args.line.now) course c.take.result in
    subst P (sym empty) (c.take.ensures.taken specs from course at)

pub returns-clause-taken : goal.returns-clause-taken
returns-clause-taken g c specs from course at =
    rw (← c.in-Ok.ensures.added, ← c.as_slice.ensures) (c.take-stopped.ensures.taken specs from course at)
