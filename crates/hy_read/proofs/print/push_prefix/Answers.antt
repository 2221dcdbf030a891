use Rattle.std.proofs.Common.{◌≤◌, ◌+◌, ◌++◌, drop, length, sym, ap, ◌∙◌, arith, add-one, append_assoc, append-nil}
use Rattle.std.proofs.lemmas.List.{drop_all}
use Rattle.hy_base.proofs.Places.{drop-at}
use Rattle.hy_read.specs.Printing.{printed_quantifier, printed_quantifiers}
use Rattle.hy_read.proofs.print.push_prefix.Goals as goal

pub loop-i-preserved : goal.loop-i-preserved
loop-i-preserved c =
    let left = drop-at c.args.prefix.now c.loop-i.i c.at.result c.at.ensures in
    ap (λ x. x ++ printed_quantifiers (c.loop-i.i + 1) (drop (c.loop-i.i + 1) c.args.prefix.now)) c.in_ok-push_quantifier.ensures
    ∙ append_assoc c.loop-i.out (printed_quantifier c.loop-i.i c.at.result) (printed_quantifiers (c.loop-i.i + 1) (drop (c.loop-i.i + 1) c.args.prefix.now))
    ∙ ap (λ n. c.loop-i.out ++ (printed_quantifier c.loop-i.i c.at.result ++ printed_quantifiers n (drop (c.loop-i.i + 1) c.args.prefix.now))) (add-one c.loop-i.i)
    ∙ ap (λ l. c.loop-i.out ++ printed_quantifiers c.loop-i.i l) (sym left) ∙ c.loop-i.invariant

pub returns : goal.returns
returns c =
    let past : length c.args.prefix.now ≤ c.loop-i.i = omega arith in
    sym (append-nil c.loop-i.out) ∙ ap (λ l. c.loop-i.out ++ printed_quantifiers c.loop-i.i l) (sym (drop_all c.loop-i.i c.args.prefix.now past)) ∙ c.loop-i.invariant
