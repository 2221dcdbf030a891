use Rattle.std.proofs.Common.{rules, ◌∷◌, [], ◌+◌, ℕ, length, map, sym, ap, ◌∙◌, subst, arith, length-append}
use Rattle.hy_formula.specs.Atoms.{plain_atom}
use Rattle.fin_monitor.specs.Lefts.{kept_lists, AreLefts}
use Rattle.fin_monitor.proofs.Stepping.{lefts-more}
use Rattle.fin_monitor.proofs.lefts.Lefts.new.Goals as goal

pub put_left-requires : goal.put_left-requires
put_left-requires g c = (
  search rules,
  (
    c.requires.width,
    (
      c.requires.members,
      (
        c.requires.few,
        (
          omega (arith, c.len-k-end.ensures.len, c.loop-k-test.true),
          (
            omega (arith, c.loop-k.invariant.long),
            c.loop-k.invariant.lefts,
          ),
        ),
      ),
    ),
  ),
)

pub loop-k-preserved : goal.loop-k-preserved
loop-k-preserved g c =
    let inv = c.loop-k.invariant in
    let list = c.put_left.new.made in
    record {
      long = ap length c.in_ok-push.ensures.added ∙ length-append c.loop-k.lists (list ∷ []) ∙ ap (λ n. n + 1) inv.long;
      lefts = lefts-more c.args.judge.now.closure.now.nodes (map plain_atom c.args.judge.now.atoms.now) 0 c.loop-k.lists c.push.new.self list c.loop-k.k inv.long c.in_ok-push.ensures.added inv.lefts c.in_ok-put_left.ensures;
    }

pub returns : goal.returns
returns g c =
    let inv = c.loop-k.invariant in
    let P : ℕ → Type 0 = λ n. AreLefts c.args.judge.now.closure.now.nodes (map plain_atom c.args.judge.now.atoms.now) 0 (kept_lists c.loop-k.lists) n in
    record { long = omega (arith, inv.long, c.len-k-end.ensures.len, c.loop-k-test.false, c.loop-k.auto.k-end); lefts = subst P (sym inv.long) inv.lefts }
