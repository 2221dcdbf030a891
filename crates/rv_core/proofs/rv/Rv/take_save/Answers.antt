use Rattle.std.proofs.Common.{refl, Ok, Err, ◌≡◌, ◌∷◌, List, reverse, sym, ap, subst, ◌∙◌, arith}
use Rattle.std.proofs.lemmas.List.{length-reverse}
use Rattle.std.proofs.lemmas.Result.{err_from_is_err_and}
use Rattle.hy_finite.specs.declared.event.Event.TheVariants as event
use Rattle.trace_trie.specs.Numbered.{Numbered}
use Rattle.rv_core.specs.declared.saved.Saved.{Saved}
use Rattle.rv_core.specs.declared.reply.Reply.TheVariants.{Quiet}
use Rattle.rv_core.specs.declared.rv_error.RvError.TheVariants as error
use Rattle.rv_core.specs.Opened.{Open}
use Rattle.rv_core.specs.Replies.{Answers}
use Rattle.rv_core.specs.Seen.{held}
use Rattle.rv_core.proofs.Standing.{with_saves, saved_with, saved_of}
use Rattle.rv_core.proofs.Answering.{memory-kept, answered-save, many-saves, reverse-push}
use Rattle.rv_core.proofs.rv.Rv.take_save.Goals as goal

pub returns-then-len-ge-MOST_SAVES-clause-answers :
    goal.returns-then-len-ge-MOST_SAVES-clause-answers
returns-then-len-ge-MOST_SAVES-clause-answers c =
    let long = length-reverse c.args.self.now.saves in
    many-saves (held c.args.self.now)
    (omega (arith, long, c.len.ensures, c.if-len-ge-MOST_SAVES.true))

pub returns-in_err-settle-clause-answers : goal.returns-in_err-settle-clause-answers
returns-in_err-settle-clause-answers c =
    let p = err_from_is_err_and c.from_residual.result c.from_residual.ensures.1 in
    rw (p.1, p.2) (memory-kept (held c.args.self.now) event.Save c.settle.new.self refl c.settle.ensures)

pub returns-in_err-kept-clause-answers : goal.returns-in_err-kept-clause-answers
returns-in_err-kept-clause-answers c =
    let p = err_from_is_err_and c.from_residual-in_err-kept.result c.from_residual-in_err-kept.ensures.1 in
    rw (p.1, p.2) (memory-kept (held c.args.self.now) event.Save c.settle.new.self refl c.settle.ensures)

pub returns-in_err-sessions-clause-answers : goal.returns-in_err-sessions-clause-answers
returns-in_err-sessions-clause-answers c =
    let p = err_from_is_err_and c.from_residual-in_err-sessions.result c.from_residual-in_err-sessions.ensures.1 in
    rw (p.1, p.2) (memory-kept (held c.args.self.now) event.Save c.settle.new.self refl c.settle.ensures)

pub returns-in_err-push-clause-answers : goal.returns-in_err-push-clause-answers
returns-in_err-push-clause-answers c =
    let m = held c.args.self.now in
    let p = err_from_is_err_and c.from_residual-in_err-push.result c.from_residual-in_err-push.ensures.1 in
    let Q : List Saved → Type 0 =
    λ saves. Answers m (record (with_saves m (reverse saves)) { kept = c.settle.new.self })
    event.Save (Err error.Memory) in
    rw (p.1, p.2)
    (subst Q (sym c.in_err-push.ensures.refused) (memory-kept m event.Save c.settle.new.self refl c.settle.ensures))

pub returns-clause-answers : goal.returns-clause-answers
returns-clause-answers c =
    let m = held c.args.self.now in
    let n = c.args.self.now.traces in
    let x : Saved = saved_with n c.in_ok-kept.kept c.in_ok-sessions.sessions in
    let same : x ≡ saved_of m =
    ap (λ (ks : List (List Numbered)). saved_with n ks c.in_ok-sessions.sessions)
    (c.in_ok-kept.ensures ∙ c.settle.ensures)
    ∙ ap (λ (os : Open). saved_with n c.args.self.now.kept os) c.in_ok-sessions.ensures in
    let back : reverse c.push.new.self ≡ saved_of m ∷ reverse c.args.self.now.saves =
    ap reverse c.in_ok-push.ensures.added ∙ reverse-push c.args.self.now.saves x
    ∙ ap (λ s. s ∷ reverse c.args.self.now.saves) same in
    let P : List Saved → Type 0 = λ saves. Answers m (with_saves m saves) event.Save (Ok Quiet) in
    let Q : List (List Numbered) → Type 0 =
    λ kept. Answers m (record (with_saves m (reverse c.push.new.self)) { kept = kept }) event.Save
    (Ok Quiet) in
    let long = length-reverse c.args.self.now.saves in
    subst Q (sym c.settle.ensures)
    (subst P (sym back)
    (answered-save m (omega (arith, long, c.len.ensures, c.if-len-ge-MOST_SAVES.false))))
