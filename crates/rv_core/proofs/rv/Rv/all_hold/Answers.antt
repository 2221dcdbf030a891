use Rattle.std.proofs.Common.{List, refl, sym, subst, arith}
use Rattle.std.proofs.lemmas.List.{length-map}
use Rattle.std.proofs.lemmas.Option.{slice_get_within}
use Rattle.fin_monitor.specs.Machines.{Machine}
use Rattle.trace_trie.specs.Numbered.{Numbered, IsHeld}
use Rattle.rv_core.specs.Held.{spec_of}
use Rattle.rv_core.specs.Keeping.{kept_at}
use Rattle.rv_core.specs.Masks.{masked}
use Rattle.rv_core.specs.Seen.{watched, watched_by}
use Rattle.rv_core.proofs.Making.{more-there}
use Rattle.rv_core.proofs.Seeing.{seen-at, kept-there}
use Rattle.rv_core.proofs.rv.Rv.all_hold.Goals as goal

pub returns-then-not-holds : goal.returns-then-not-holds
returns-then-not-holds c =
    let rv = c.args.self.now in
    let t = c.args.trace.now in
    let i = c.loop-spec.spec in
    let w = c.at.result.now in
    let P : List Numbered → Type 0 = IsHeld (masked (spec_of (watched w)) t) in (
      λ e. absurd (cc),
      λ all.
          let held = all i (watched w) (seen-at rv.watches i w c.at.ensures) in
          let yes = c.holds.ensures.1 (subst P (kept-there rv.kept i c.at-in-loop-spec.result.now c.at-in-loop-spec.ensures) held) in
          let no = c.if-not-holds.true in
          absurd (cc (yes, no)),
    )

pub loop-spec-preserved : goal.loop-spec-preserved
loop-spec-preserved c =
    let rv = c.args.self.now in
    let t = c.args.trace.now in
    let i = c.loop-spec.spec in
    let w = c.at.result.now in
    let P : List Numbered → Type 0 = IsHeld (masked (spec_of (watched w)) t) in
    more-there (λ s (q : Machine). IsHeld (masked (spec_of q) t) (kept_at rv.kept s))
    (watched_by rv.watches) i (watched w) (seen-at rv.watches i w c.at.ensures)
    (subst P (sym (kept-there rv.kept i c.at-in-loop-spec.result.now c.at-in-loop-spec.ensures))
    (c.holds.ensures.0 c.if-not-holds.false)) c.loop-spec.invariant

pub returns : goal.returns
returns c =
    let rv = c.args.self.now in (
      λ e s m there.
          let within = slice_get_within (watched_by rv.watches) s m there in
          let long = length-map rv.watches watched in
          c.loop-spec.invariant s m
          (omega (arith, within, long, c.loop-spec-test.false, c.len-spec-end.ensures)) there,
      λ all. refl,
    )
