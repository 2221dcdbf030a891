use Rattle.std.proofs.Common.{◌≡◌, ℕ, ◌<◌, length, sym, ap, ◌∙◌, arith, get_or}
use Rattle.std.specs.FinSet.{empty, contains}
use Rattle.std.proofs.lemmas.List.{get_or_default}
use Rattle.hy_bits.specs.Letter.{Letter}
use Rattle.dominance.proofs.telling.are_apart.Goals as goal

pub returns-then-differ : goal.returns-then-differ
returns-then-differ c = λ _ rule.
    let i : ℕ = c.loop-i.i in
    let (name, has, apart) = c.differ.ensures c.if-differ.true in
    let short = c.min-i-end.ensures in
    let lt = c.loop-i-test.true in
    let in_t : i < length c.args.t.now = omega arith in
    let in_u : i < length c.args.u.now = omega arith in
    let one : c.index-t-i.result ≡ get_or c.args.t.now i empty =
    c.index-t-i.is ∙ get_or_default c.args.t.now i c.index-t-i.result empty in_t in
    let other : c.index-u-i.result ≡ get_or c.args.u.now i empty =
    c.index-u-i.is ∙ get_or_default c.args.u.now i c.index-u-i.result empty in_u in (
      c.requires.telling.tell name has rule c.args.t.now c.args.u.now c.requires.some_t c.requires.some_u (
        i,
        in_t,
        in_u,
        λ e. apart (ap (λ (l : Letter). contains l name) one ∙ e
            ∙ sym (ap (λ (l : Letter). contains l name) other)),
      ),
      c.requires.telling.tell name has rule c.args.u.now c.args.t.now c.requires.some_u c.requires.some_t (
        i,
        in_u,
        in_t,
        λ e. apart (ap (λ (l : Letter). contains l name) one ∙ sym e
            ∙ sym (ap (λ (l : Letter). contains l name) other)),
      ),
    )
