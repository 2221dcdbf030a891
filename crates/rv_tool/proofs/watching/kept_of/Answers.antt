use Rattle.std.proofs.Common.{◌≡◌, ℕ, subst, sym, ◌∙◌, arith}
use Rattle.rv_core.specs.Endings.{spec_at}
use Rattle.rv_core.specs.Held.{specs_of}
use Rattle.rv_core.specs.Keeping.{IsKeptCount}
use Rattle.rv_core.specs.Seen.{held}
use Rattle.rv_tool.proofs.Counting.{counts-in-turn}
use Rattle.rv_tool.proofs.watching.kept_of.Goals as goal

pub returns : goal.returns
returns c h stands =
    let m = held c.args.rv.now in
    let made = c.loop-spec.invariant in
    let all : c.loop-spec.spec ≡ c.specs-spec-end.result = omega arith in
    counts-in-turn m.rule m.drop h.present.arrived (specs_of m) c.loop-spec.kept
    (made.long ∙ all ∙ c.specs-spec-end.ensures)
    (λ s lt.
    let P : ℕ → Type 0 = IsKeptCount m.rule m.drop (spec_at (specs_of m) s) h.present.arrived in
    let inside = c.specs-spec-end.ensures in
    subst P (sym (made.counts s (omega (arith, lt, inside, all)))) (c.keeping.ensures.counts m h s stands lt))
