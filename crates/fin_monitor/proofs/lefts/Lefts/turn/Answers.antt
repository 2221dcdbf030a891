use Rattle.std.proofs.Common.{rules, ◌≡◌, ◌+◌, ◌<◌, bit_and, List, ℕ, length, map, get_or, refl, sym, ap, ◌∙◌, subst, arith}
use Rattle.std.proofs.lemmas.List.{length-set}
use Rattle.std.proofs.lemmas.Option.{get_or_from_slice_get}
use Rattle.hy_formula.specs.Atoms.{plain_atom}
use Rattle.fin_monitor.specs.Duties.{Duty}
use Rattle.fin_monitor.specs.Lefts.{kept_lists, AreLefts, IsAsked}
use Rattle.fin_monitor.proofs.Stepping.{AreTurned, turned-start, turned-kept, turned-set, kept-length, kept-set}
use Rattle.fin_monitor.proofs.lefts.Lefts.turn.Goals as goal
use Rattle.fin_monitor.proofs.lefts.Lefts.turn.Goals.{then-code-mask+in_ok-put_left, else-code-mask}

pub put_left-requires : goal.put_left-requires
put_left-requires g c = (
  search rules,
  (
    c.requires.width,
    (
      c.requires.members,
      (
        c.requires.few,
        (
          omega (arith, c.len-k-end.ensures, c.loop-k-test.true, c.requires.masks.long),
          (
            omega (arith, c.len-k-end.ensures, c.loop-k-test.true, c.requires.masks.long, c.requires.long, c.loop-k.invariant.long),
            c.loop-k.invariant.turned.done,
          ),
        ),
      ),
    ),
  ),
)

pub loop-k-init : goal.loop-k-init
loop-k-init g c = record { long = refl; code = refl; turned = turned-start c.args.judge.now.closure.now.nodes (map plain_atom c.args.judge.now.atoms.now) c.args.self.now.code c.args.code c.args.self.now.lists c.requires.lefts }

pub loop-k-preserved : goal.loop-k-preserved
loop-k-preserved g c =
    let inv = c.loop-k.invariant in
    let inside : c.loop-k.k < length (kept_lists c.loop-k.self.lists) = omega (arith, kept-length c.loop-k.self.lists, inv.long, c.requires.long, c.requires.masks.long, c.len-k-end.ensures, c.loop-k-test.true) in
    let at : get_or c.args.masks.now c.loop-k.k 0 ≡ c.at-mask.result.now = get_or_from_slice_get c.args.masks.now c.loop-k.k _ 0 c.at-mask.ensures in
    let P : ℕ → Type 0 = IsAsked c.args.judge.now.closure.now.nodes (map plain_atom c.args.judge.now.atoms.now) c.loop-k.k in
    let asked = subst P at (c.requires.masks.asked c.loop-k.k (omega (arith, c.len-k-end.ensures, c.loop-k-test.true, c.requires.masks.long))) in
    elim c.if-code-mask.branch [
      | then-code-mask+in_ok-put_left w ↦
          let Q : List (List Duty) → Type 0 = λ l. AreTurned c.args.judge.now.closure.now.nodes (map plain_atom c.args.judge.now.atoms.now) c.args.self.now.code c.args.code l (c.loop-k.k + 1) in
          rw w.self-is
          (record {
            long = ap length w.replace-list.ensures.new ∙ length-set c.loop-k.self.lists c.loop-k.k w.put_left.new.made ∙ inv.long;
            code = inv.code;
            turned = subst Q (sym (ap kept_lists w.replace-list.ensures.new ∙ kept-set c.loop-k.self.lists c.loop-k.k w.put_left.new.made))
                (turned-set c.args.judge.now.closure.now.nodes (map plain_atom c.args.judge.now.atoms.now) c.args.self.now.code c.args.code (kept_lists c.loop-k.self.lists) c.loop-k.k w.put_left.new.made.items inside inv.turned w.in_ok-put_left.ensures);
          })
      | else-code-mask w ↦
          rw w.self-is
          (record {
            long = inv.long;
            code = inv.code;
            turned = turned-kept c.args.judge.now.closure.now.nodes (map plain_atom c.args.judge.now.atoms.now) c.args.self.now.code c.args.code (kept_lists c.loop-k.self.lists) c.loop-k.k c.at-mask.result.now inside inv.turned asked (w.if-code-mask.false ∙ ap (λ x. bit_and x c.at-mask.result.now) inv.code);
          })
    ]

pub returns : goal.returns
returns g c =
    let inv = c.loop-k.invariant in
    let P : ℕ → Type 0 = λ n. AreLefts c.args.judge.now.closure.now.nodes (map plain_atom c.args.judge.now.atoms.now) c.args.code (kept_lists c.loop-k.self.lists) n in
    let e : c.loop-k.k ≡ length c.loop-k.self.lists = omega (arith, inv.long, c.requires.long, c.requires.masks.long, c.len-k-end.ensures, c.loop-k-test.false, c.loop-k.auto.k-end) in
    record { long = inv.long ∙ c.requires.long; code = refl; lefts = subst P e inv.turned.done }
