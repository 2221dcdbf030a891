use Rattle.std.proofs.Common.{◌+◌, ◌^◌, sym, ap, ◌∙◌, cond, arith}
use Rattle.std.specs.FinSet.{contains}
use Rattle.std.proofs.lemmas.List.{take_all}
use Rattle.fin_monitor.specs.Parts.{bits_of}
use Rattle.fin_monitor.proofs.Naming.{bits-at, bits-up-to}
use Rattle.fin_monitor.proofs.letters.bits_in.Goals as goal

pub with_name-bits-requires : goal.with_name-bits-requires
with_name-bits-requires c =
    omega (arith, bits-at c.args.names.now c.loop-n.n-index c.n-item.result c.args.letter c.loop-n-test.true c.n-item.is, bits-up-to c.args.names.now (c.loop-n.n-index + 1) c.args.letter, c.loop-n.invariant)

pub loop-n-preserved : goal.loop-n-preserved
loop-n-preserved c =
    c.with_name-bits.ensures ∙ ap (λ k. k + cond (contains c.args.letter c.n-item.result.name) (2 ^ c.n-item.result.place) 0) c.loop-n.invariant
    ∙ sym (bits-at c.args.names.now c.loop-n.n-index c.n-item.result c.args.letter c.loop-n-test.true c.n-item.is)

pub returns : goal.returns
returns c = c.loop-n.invariant ∙ ap (λ l. bits_of l c.args.letter) (take_all c.loop-n.n-index c.args.names.now c.loop-n-test.false)
