use Rattle.std.proofs.Common.{◌≡◌, ◌+◌, ◌^◌, ◌&&◌, List, cond, ap, ◌∙◌, subst, arith}
use Rattle.std.specs.FinSet.{contains}
use Rattle.std.proofs.lemmas.Bool.{lt-ltb, le-ltb}
use Rattle.std.proofs.lemmas.List.{take_all}
use Rattle.fin_monitor.specs.declared.name_bit.NameBit.{NameBit}
use Rattle.fin_monitor.specs.Parts.{bits_of, bits_below}
use Rattle.fin_monitor.proofs.LowParts.{below-at}
use Rattle.fin_monitor.proofs.Naming.{bits-more, bits-at}
use Rattle.fin_monitor.proofs.parts.high_names.Goals.{then-n-ge-LOW_NAMES+in_ok-push, else-n-ge-LOW_NAMES}
use Rattle.fin_monitor.proofs.parts.high_names.Goals as goal

pub loop-n-init : goal.loop-n-init
loop-n-init c letter = omega (arith, ap (λ l. bits_of l letter) c.new-high.ensures)

pub loop-n-preserved : goal.loop-n-preserved
loop-n-preserved c letter =
    let n = c.n-item.result in
    let i = c.loop-n.n-index in
    let names = c.args.names.now in
    let below = below-at names i n 8 letter c.loop-n-test.true c.n-item.is in
    let all = bits-at names i n letter c.loop-n-test.true c.n-item.is in
    let was = c.loop-n.invariant letter in
    elim c.if-n-ge-LOW_NAMES.branch [
      | then-n-ge-LOW_NAMES+in_ok-push w ↦
          let none = ap (λ b. cond (b && contains letter n.name) (2 ^ n.place) 0) (le-ltb n.name 8 w.if-n-ge-LOW_NAMES.true) in
          let more = ap (λ l. bits_of l letter) (w.high-is ∙ w.in_ok-push.ensures.added) ∙ bits-more c.loop-n.high n letter in
          omega (arith, below, all, was, none, more)
      | else-n-ge-LOW_NAMES w ↦
          let some = ap (λ b. cond (b && contains letter n.name) (2 ^ n.place) 0) (lt-ltb n.name 8 w.if-n-ge-LOW_NAMES.false) in
          let same = ap (λ l. bits_of l letter) w.high-is in
          omega (arith, below, all, was, some, same)
    ]

pub returns : goal.returns
returns c letter =
    let P : List NameBit → Type 0 = λ l. bits_below 8 l letter + bits_of c.loop-n.high letter ≡ bits_of l letter in
    subst P (take_all c.loop-n.n-index c.args.names.now c.loop-n-test.false) (c.loop-n.invariant letter)
