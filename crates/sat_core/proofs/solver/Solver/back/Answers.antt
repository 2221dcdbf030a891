use Rattle.std.proofs.Common.{◌≡◌, ◌<◌, ◌-◌, ℕ, ◌⊎◌, inl, inr, refl, take, get_or, ap, ◌∙◌, arith}
use Rattle.std.proofs.lemmas.List.{get_or_default}
use Rattle.chain_check.specs.Store.{Trues}
use Rattle.sat_core.proofs.Backing.{ready-back, limits-below}
use Rattle.sat_core.proofs.solver.Solver.back.Goals as goal
use Rattle.sat_core.proofs.solver.Solver.back.Goals.{then-loop-level-test+else-highest-index, else-loop-level-test}

pub returns-clause-ready : goal.returns-clause-ready
returns-clause-ready c =
    let to : c.index-to.result.now ≡ get_or c.args.self.now.limits.items c.loop-level.level 0 =
    c.index-to.ensures ∙ get_or_default c.args.self.now.limits.items c.loop-level.level
    c.index-to.result.now 0 c.loop-level.invariant.0 in
    let cut : ℕ → Trues = λ n. record c.args.self.now.partial
    { literals = take n c.args.self.now.partial.literals } in
    ready-back c.args.self.now _ c.loop-level.level c.requires.ready c.loop-level.invariant.0 refl
    (c.truncate.ensures ∙ ap cut to) (c.truncate-2.ensures.items ∙
    ap (λ n. take n c.args.self.now.reasons.items) to) refl c.truncate-3.ensures.items

pub returns-clause-back : goal.returns-clause-back
returns-clause-back c =
    let to : c.index-to.result.now ≡ get_or c.args.self.now.limits.items c.loop-level.level 0 =
    c.index-to.ensures ∙ get_or_default c.args.self.now.limits.items c.loop-level.level
    c.index-to.result.now 0 c.loop-level.invariant.0 in
    let cut : ℕ → Trues = λ n. record c.args.self.now.partial
    { literals = take n c.args.self.now.partial.literals } in
    let low : (c.loop-level.level ≡ 0) ⊎ (get_or c.args.self.now.limits.items
    (c.loop-level.level - 1) 0 < c.args.highest) =
    elim c.loop-level-test.branch [
      | then-loop-level-test+else-highest-index w ↦
          inr (omega (
            arith,
            w.if-highest-index.false,
            w.index.ensures,
            get_or_default c.args.self.now.limits.items
                (c.loop-level.level - 1) w.index.result.now 0
                (omega (arith, c.loop-level.invariant.0)),
          ))
      | else-loop-level-test w ↦ inl (omega (arith, w.loop-level-test.false))
    ] in (
      c.loop-level.level,
      record {
        inside = c.loop-level.invariant.0;
        above = c.loop-level.invariant.1;
        clauses = refl;
        pushed = c.truncate.ensures ∙ ap cut to;
        limits = c.truncate-3.ensures.items;
        lower = limits-below c.args.self.now c.loop-level.level c.args.highest c.requires.ready
            c.loop-level.invariant.0 low;
      },
    )
