use Rattle.std.proofs.Common.{◌<◌, ◌∷◌, [], length, sym, ap, ◌∙◌, arith}
use Rattle.fin_monitor.specs.Lefts.{kept_lists}
use Rattle.fin_monitor.proofs.Stepping.{list-there, unions-none, unions-has, unions-skip, kept-length}
use Rattle.fin_monitor.proofs.lefts.Lefts.unions.Goals as goal

pub loop-k-init : goal.loop-k-init
loop-k-init g c = (omega arith, unions-none (kept_lists c.args.self.now.lists) c.args.self.now.code c.args.set.now c.in_ok-made.made.items (c.in_ok-made.ensures ∙ ap (λ d. d ∷ []) c.none.ensures))

pub returns-then-k-len : goal.returns-then-k-len
returns-then-k-len g c =
    let (le, unions) = c.loop-k.invariant in
    let (_, _, none) = c.in-Some.ensures in
    unions-skip (kept_lists c.args.self.now.lists) c.args.self.now.code c.args.set.now c.loop-k.from (length c.args.self.now.lists) c.loop-k.made.items le (λ q ge lt. none q ge (omega (arith, c.if-k-len.true, c.len.ensures))) unions

pub loop-k-preserved : goal.loop-k-preserved
loop-k-preserved g c =
    let lists = kept_lists c.args.self.now.lists in
    let (_, unions) = c.loop-k.invariant in
    let (from, has, none) = c.in-Some.ensures in
    let inside : c.in-Some.k < length lists = omega (arith, kept-length c.args.self.now.lists, c.len.ensures, c.if-k-len.false) in (
      omega (arith, c.len.ensures, c.if-k-len.false),
      unions-has lists c.args.self.now.code c.args.set.now c.in-Some.k c.loop-k.made.items c.deref.result.now c.join.new.made.items inside
          (unions-skip lists c.args.self.now.code c.args.set.now c.loop-k.from c.in-Some.k c.loop-k.made.items from none unions) has
          (list-there c.args.self.now.lists c.in-Some.k _ c.at.ensures ∙ sym c.deref.ensures.value) c.in_ok-join.ensures,
    )

pub returns : goal.returns
returns g c =
    let (le, unions) = c.loop-k.invariant in
    unions-skip (kept_lists c.args.self.now.lists) c.args.self.now.code c.args.set.now c.loop-k.from (length c.args.self.now.lists) c.loop-k.made.items le (λ q ge _. c.in_default.ensures q ge) unions
