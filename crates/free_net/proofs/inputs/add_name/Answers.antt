use Rattle.std.proofs.Common.{◌≡◌, ℕ, suc, ◌+◌, ◌*◌, true, false, cond, List, [], ◌∷◌, ◌++◌, length, OnOk, Result, Ok, Err, sym, ap, ◌∙◌, arith}
use Rattle.aig_net.specs.declared.signals.Signal.{Signal}
use Rattle.aig_net.specs.Signals.{has_signal}
use Rattle.free_net.specs.FreeNets.{free_signals, is_among}
use Rattle.free_net.proofs.Naming.{has-input, signals-many, signals-more}
use Rattle.free_net.proofs.inputs.add_name.Goals as goal

on-ok : {A E P Q : Type 0} (r : Result A E) → OnOk r P → (P → Q) → OnOk r Q
on-ok (Ok x) h f = f h
on-ok (Err e) h f = tt

pub returns-then-is_some : goal.returns-then-is_some
returns-then-is_some c names e =
    let a = c.find.ensures in
    let b = c.is_some.ensures in
    let t = c.if-is_some.true in
    let seen : has_signal c.args.signals.now c.args.name 0 ≡ true = cc in
    let h : is_among names c.args.name ≡ true =
    sym (has-input 0 names c.args.name) ∙ sym (ap (λ l. has_signal l c.args.name 0) e) ∙ seen in
    e ∙ ap (λ b. free_signals 0 (cond b names (names ++ c.args.name ∷ []))) (sym h)

pub returns : goal.returns
returns c =
    on-ok c.push.result c.push.ensures.added (λ added names e.
    let a = c.find.ensures in
    let b = c.is_some.ensures in
    let t = c.if-is_some.false in
    let seen : has_signal c.args.signals.now c.args.name 0 ≡ false = cc in
    let h : is_among names c.args.name ≡ false =
    sym (has-input 0 names c.args.name) ∙ sym (ap (λ l. has_signal l c.args.name 0) e) ∙ seen in
    let many = c.len.ensures.len in
    let long = ap (λ (l : List Signal). length l) e in
    let same = signals-many 0 names in
    let literal : 2 * (c.len.result + 1) ≡ 2 * suc (0 + length names) = omega (arith, many, long, same) in
    let S : ℕ → Signal = λ l. record { name = c.args.name; var = 0; literal = l } in
    added
    ∙ ap (λ l. c.args.signals.now ++ S l ∷ []) literal
    ∙ ap (λ l. l ++ S (2 * suc (0 + length names)) ∷ []) e
    ∙ sym (signals-more 0 names c.args.name)
    ∙ ap (λ b. free_signals 0 (cond b names (names ++ c.args.name ∷ []))) (sym h))
