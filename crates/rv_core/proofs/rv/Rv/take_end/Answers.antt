use Rattle.std.proofs.Common.{◌≡◌, ◌≤◌, ℕ, List, length, MatchOption, Option, refl, Ok, Err, Some, sym, ap, ◌∙◌, subst, arith}
use Rattle.std.proofs.lemmas.Option.{MatchOption-at_some}
use Rattle.std.proofs.lemmas.Result.{err_from_is_err_and}
use Rattle.hy_finite.specs.declared.event.Event.TheVariants as event
use Rattle.hy_finite.specs.Traces.{Trace}
use Rattle.dominance.specs.Dominance.{IsTrace}
use Rattle.trace_trie.specs.Numbered.{Numbered}
use Rattle.rv_core.specs.declared.arrival.Arrival.TheVariants.{Same}
use Rattle.rv_core.specs.Held.{Held}
use Rattle.rv_core.specs.declared.rv_error.RvError.TheVariants as error
use Rattle.rv_core.specs.Opened.{Open, letters_in}
use Rattle.rv_core.specs.Replies.{Answers}
use Rattle.rv_core.specs.Seen.{held}
use Rattle.rv_core.proofs.Answering.{end-brings, answered-arrival, memory-answer, memory-kept, no-end}
use Rattle.rv_core.proofs.Outcomes.{all-known, not-known}
use Rattle.rv_core.proofs.rv.Rv.take_end.Goals as goal

pub returns-in_default-clause-answers : goal.returns-in_default-clause-answers
returns-in_default-clause-answers g c =
    no-end (held c.args.self.now) c.args.session (sym c.in_default.ensures.letters)

pub returns-in_err-copy-clause-answers : goal.returns-in_err-copy-clause-answers
returns-in_err-copy-clause-answers g c =
    let p = err_from_is_err_and c.from_residual.result c.from_residual.ensures.1 in
    rw (p.1, p.2) (memory-answer (held c.args.self.now) (event.End c.args.session) refl)

pub returns-in_err-settle-clause-answers : goal.returns-in_err-settle-clause-answers
returns-in_err-settle-clause-answers g c =
    let p = err_from_is_err_and c.from_residual-in_err-settle.result c.from_residual-in_err-settle.ensures.1 in
    rw (p.1, p.2) (memory-kept (held c.args.self.now) (event.End c.args.session) c.settle.new.self refl c.settle.ensures)

pub returns-in_err-arrival-clause-answers : goal.returns-in_err-arrival-clause-answers
returns-in_err-arrival-clause-answers g c =
    let p = err_from_is_err_and c.from_residual-in_err-arrival.result c.from_residual-in_err-arrival.ensures.1 in
    rw (p.1, p.2) (memory-kept (held c.args.self.now) (event.End c.args.session) c.settle.new.self refl c.settle.ensures)

pub returns-in_err-close-clause-answers : goal.returns-in_err-close-clause-answers
returns-in_err-close-clause-answers g c =
    let m = held c.args.self.now in
    let p = err_from_is_err_and c.from_residual-in_err-close.result
    c.from_residual-in_err-close.ensures.1 in
    let P : Open → Type 0 =
    λ os. Answers m (record m { sessions = os }) (event.End c.args.session) (Err error.Memory) in
    rw (p.1, p.2)
    (subst P (sym c.in_err-close.ensures.unchanged)
    (memory-answer m (event.End c.args.session) refl))

pub returns-in_err-close-2-clause-answers : goal.returns-in_err-close-2-clause-answers
returns-in_err-close-2-clause-answers g c =
    let m = held c.args.self.now in
    let p = err_from_is_err_and c.from_residual-in_err-close-2.result
    c.from_residual-in_err-close-2.ensures.1 in
    let Q : Open → Type 0 =
    λ os. Answers m (record m { kept = c.settle.new.self; sessions = os }) (event.End c.args.session) (Err error.Memory) in
    rw (p.1, p.2)
    (subst Q (sym c.in_err-close-2.ensures.unchanged) (memory-kept m (event.End c.args.session) c.settle.new.self refl c.settle.ensures))

-- the letters of the session are those of the trace that is made of a copy
ended : {made : Option Trace} (P Q : Type 0) (os : Open) (n : ℕ) (t copied : Trace) → made ≡ Some t
    → MatchOption made P (λ x. x ≡ copied)
    → MatchOption made Q (λ x. (1 ≤ length copied) × (length copied ≤ 1024))
    → letters_in n os ≡ Some copied → (letters_in n os ≡ Some t) × IsTrace t
ended P Q os n t copied is equal short known =
    let same : t ≡ copied = MatchOption-at_some _ (λ x. x ≡ copied) t is equal in
    let (some, few) = MatchOption-at_some _ (λ x. (1 ≤ length copied) × (length copied ≤ 1024)) t is short in
    (known ∙ ap Some (sym same), omega (arith, some, ap length same))

pub returns-then-all_hold-clause-answers : goal.returns-then-all_hold-clause-answers
returns-then-all_hold-clause-answers g c =
    let rv = c.args.self.now in
    let m = held rv in
    let t = c.unwrap-trace.result in
    let (known, some) =
    ended _ _ m.sessions c.args.session t c.in_ok-copy.field-0 c.unwrap-trace.ensures c.new.ensures.made
    c.new.ensures.short (sym c.in-Some.ensures.letters ∙ ap Some (sym c.in_ok-copy.ensures)) in
    let P : Held → Type 0 = λ new. Answers m new (event.End c.args.session) (Ok c.take_same.result) in
    subst P (sym c.take_same.ensures.held)
    (answered-arrival m (event.End c.args.session) t c.close.new.self
    (end-brings m c.args.session t c.close.new.self known c.in_ok-close.ensures.closed) refl
    some Same c.take_same.result c.take_same.ensures.reply
    (all-known rv t c.as_slice.result.now c.as_slice.ensures
    (c.all_hold.ensures.0 c.if-all_hold.true)))

pub arrival-requires-clause-not_all : goal.arrival-requires-clause-not_all
arrival-requires-clause-not_all g c =
    not-known _ c.unwrap-trace.result c.as_slice.result.now _ _ c.all_hold.result c.all_hold.ensures
    c.if-all_hold.false c.as_slice.ensures c.settle.ensures

pub returns-clause-answers : goal.returns-clause-answers
returns-clause-answers g c =
    let m = held c.args.self.now in
    let t = c.unwrap-trace.result in
    let (known, some) =
    ended _ _ m.sessions c.args.session t c.in_ok-copy.field-0 c.unwrap-trace.ensures c.new.ensures.made
    c.new.ensures.short (sym c.in-Some.ensures.letters ∙ ap Some (sym c.in_ok-copy.ensures)) in
    let mid : Held = record m { kept = c.settle.new.self } in
    let P : Held → Type 0 =
    λ new. Answers mid new (event.End c.args.session) (Ok c.take_arrival.result) in
    let Q : List (List Numbered) → Type 0 =
    λ kept. Answers (record m { kept = kept }) (held c.take_arrival.new.self)
    (event.End c.args.session) (Ok c.take_arrival.result) in
    subst Q c.settle.ensures
    (subst P (sym c.take_arrival.ensures.held)
    (answered-arrival mid (event.End c.args.session) t c.close-2.new.self
    (end-brings mid c.args.session t c.close-2.new.self known c.in_ok-close-2.ensures.closed) refl
    some c.in_ok-arrival.arrival c.take_arrival.result
    c.take_arrival.ensures.reply c.in_ok-arrival.ensures.arrival))
