use Rattle.std.proofs.Common.{List, refl, Ok, sym, subst, arith}
use Rattle.std.proofs.lemmas.Result.{err_from_is_err_and}
use Rattle.hy_finite.specs.declared.event.Event.TheVariants as event
use Rattle.trace_trie.specs.Numbered.{Numbered}
use Rattle.rv_core.specs.declared.arrival.Arrival.TheVariants.{Same}
use Rattle.rv_core.specs.Held.{Held}
use Rattle.rv_core.specs.Replies.{Answers}
use Rattle.rv_core.specs.Seen.{held}
use Rattle.rv_core.proofs.Answering.{whole-brings, answered-arrival, memory-kept}
use Rattle.rv_core.proofs.Outcomes.{all-known, not-known}
use Rattle.rv_core.proofs.rv.Rv.take_whole.Goals as goal

pub returns-then-all_hold-clause-answers : goal.returns-then-all_hold-clause-answers
returns-then-all_hold-clause-answers g c =
    let m = held c.args.self.now in
    let rv = c.args.self.now in
    let t = c.args.trace.now in
    let P : Held → Type 0 = λ new. Answers m new (event.Whole t) (Ok c.take_same.result) in
    subst P (sym c.take_same.ensures.held)
    (answered-arrival m (event.Whole t) t m.sessions (whole-brings m t) refl (omega arith) Same
    c.take_same.result c.take_same.ensures.reply
    (all-known rv t c.as_slice.result.now c.as_slice.ensures
    (c.all_hold.ensures.0 c.if-all_hold.true)))

pub arrival-requires-clause-not_all : goal.arrival-requires-clause-not_all
arrival-requires-clause-not_all g c =
    not-known _ c.args.trace.now c.as_slice.result.now _ _ c.all_hold.result c.all_hold.ensures
    c.if-all_hold.false c.as_slice.ensures c.settle.ensures

pub returns-in_err-settle-clause-answers : goal.returns-in_err-settle-clause-answers
returns-in_err-settle-clause-answers g c =
    let p = err_from_is_err_and c.from_residual.result c.from_residual.ensures.1 in
    rw (p.1, p.2) (memory-kept (held c.args.self.now) (event.Whole c.args.trace.now) c.settle.new.self refl c.settle.ensures)

pub returns-in_err-arrival-clause-answers : goal.returns-in_err-arrival-clause-answers
returns-in_err-arrival-clause-answers g c =
    let p = err_from_is_err_and c.from_residual-in_err-arrival.result c.from_residual-in_err-arrival.ensures.1 in
    rw (p.1, p.2) (memory-kept (held c.args.self.now) (event.Whole c.args.trace.now) c.settle.new.self refl c.settle.ensures)

pub returns-clause-answers : goal.returns-clause-answers
returns-clause-answers g c =
    let m = held c.args.self.now in
    let mid : Held = record m { kept = c.settle.new.self } in
    let P : Held → Type 0 =
    λ new. Answers mid new (event.Whole c.args.trace.now) (Ok c.take_arrival.result) in
    let Q : List (List Numbered) → Type 0 =
    λ kept. Answers (record m { kept = kept }) (held c.take_arrival.new.self)
    (event.Whole c.args.trace.now) (Ok c.take_arrival.result) in
    subst Q c.settle.ensures
    (subst P (sym c.take_arrival.ensures.held)
    (answered-arrival mid (event.Whole c.args.trace.now) c.args.trace.now m.sessions
    (whole-brings mid c.args.trace.now) refl (omega arith) c.in_ok-arrival.arrival
    c.take_arrival.result c.take_arrival.ensures.reply c.in_ok-arrival.ensures.arrival))
