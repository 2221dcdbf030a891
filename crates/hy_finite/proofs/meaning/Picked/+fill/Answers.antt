use Rattle.std.proofs.Common.{Result, Ok, Err}
use Rattle.std.specs.Result.{OnOk}
use Rattle.hy_finite.specs.Traces.{picked, trace_words}
use Rattle.hy_finite.proofs.RowMeanings.{row-always, row-next, row-finally, row-globally, row-until, row-release, row-weak}
use Rattle.hy_finite.proofs.meaning.Picked.«+fill».Goals as goal

on-ok : {A E : Type 0} (r : Result A E) (P Q : Type 0) → (P → Q) → OnOk r P → OnOk r Q
on-ok (Ok x) P Q f h = f h
on-ok (Err e) P Q f h = tt

pub returns-in_ok-fill-in-Next : goal.returns-in_ok-fill-in-Next
returns-in_ok-fill-in-Next t c =
    let self = c.args.self.now in
    rw (c.in-Next.is, ← c.deref-in-Next.ensures)
    (row-next (trace_words (picked self.list.now self.pick.now)) self.positions self.width
    c.args.rows.now _ self.enough _ _ c.in_ok-fill-in-Next.ensures
    c.unary-in-Next.ensures.applied c.unary-in-Next.ensures.long)

pub returns-in_ok-fill-in-Finally : goal.returns-in_ok-fill-in-Finally
returns-in_ok-fill-in-Finally t c =
    let self = c.args.self.now in
    rw (c.in-Finally.is, ← c.deref-in-Finally.ensures)
    (row-finally (trace_words (picked self.list.now self.pick.now)) self.positions self.width
    c.args.rows.now _ self.enough _ _ c.in_ok-fill-in-Finally.ensures
    c.unary-in-Finally.ensures.applied c.unary-in-Finally.ensures.long)

pub returns-in_ok-fill-in-Globally : goal.returns-in_ok-fill-in-Globally
returns-in_ok-fill-in-Globally t c =
    let self = c.args.self.now in
    rw (c.in-Globally.is, ← c.deref-in-Globally.ensures)
    (row-globally (trace_words (picked self.list.now self.pick.now)) self.positions self.width
    c.args.rows.now _ self.enough _ _ c.in_ok-fill-in-Globally.ensures
    c.unary-in-Globally.ensures.applied c.unary-in-Globally.ensures.long)

pub returns-in_ok-fill-in-Until-2 : goal.returns-in_ok-fill-in-Until-2
returns-in_ok-fill-in-Until-2 t c =
    let self = c.args.self.now in
    rw (c.in-Until.is, ← c.deref-in-Until.ensures, ← c.deref-in-Until-2.ensures)
    (row-until (trace_words (picked self.list.now self.pick.now)) self.positions self.width
    c.args.rows.now _ _ self.enough _ _ _ c.in_ok-fill-in-Until.ensures
    c.in_ok-fill-in-Until-2.ensures c.binary-in-Until.ensures.applied
    c.binary-in-Until.ensures.long)

pub returns-in_ok-fill-in-Release-2 : goal.returns-in_ok-fill-in-Release-2
returns-in_ok-fill-in-Release-2 t c =
    let self = c.args.self.now in
    rw (c.in-Release.is, ← c.deref-in-Release.ensures, ← c.deref-in-Release-2.ensures)
    (row-release (trace_words (picked self.list.now self.pick.now)) self.positions self.width
    c.args.rows.now _ _ self.enough _ _ _ c.in_ok-fill-in-Release.ensures
    c.in_ok-fill-in-Release-2.ensures c.binary-in-Release.ensures.applied
    c.binary-in-Release.ensures.long)

pub returns-in_ok-fill-in-Weak-2 : goal.returns-in_ok-fill-in-Weak-2
returns-in_ok-fill-in-Weak-2 t c =
    let self = c.args.self.now in
    rw (c.in-Weak.is, ← c.deref-in-Weak.ensures, ← c.deref-in-Weak-2.ensures)
    (row-weak (trace_words (picked self.list.now self.pick.now)) self.positions self.width
    c.args.rows.now _ _ self.enough _ _ _ c.in_ok-fill-in-Weak.ensures
    c.in_ok-fill-in-Weak-2.ensures c.binary-in-Weak.ensures.applied
    c.binary-in-Weak.ensures.long)

pub returns-in-True : goal.returns-in-True
returns-in-True t c =
    let self = c.args.self.now in
    rw c.in-True.is
    (on-ok c.push_word.result _ _ (row-always (trace_words
    (picked self.list.now self.pick.now)) self.positions self.width c.args.rows.now self.enough
    c.push_word.new.rows) c.push_word.ensures)
