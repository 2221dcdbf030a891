use Rattle.std.proofs.Common.{◌↔◌, List, IsTrue, sym, subst}
use Rattle.fin_monitor.specs.Machines.{Machine}
use Rattle.trace_trie.specs.Numbered.{Numbered, IsHeld}
use Rattle.rv_core.specs.Held.{spec_of}
use Rattle.rv_core.specs.Keeping.{kept_at}
use Rattle.rv_core.specs.Masks.{masked}
use Rattle.rv_core.specs.Seen.{watched}
use Rattle.rv_core.proofs.Seeing.{same-watched, kept-there}
use Rattle.rv_core.proofs.rv.Rv.is_held.Goals as goal

pub returns : goal.returns
returns c m there =
    let rv = c.args.self.now in
    let t = c.args.trace.now in
    let w = c.at.result.now in
    let old = c.at-2.result.now in
    let yes = c.holds.result in
    let P : Machine → Type 0 =
    λ q. IsTrue yes ↔ IsHeld (masked (spec_of q) t) (kept_at rv.kept c.args.spec) in
    let Q : List Numbered → Type 0 =
    λ ps. IsTrue yes ↔ IsHeld (masked (spec_of (watched w)) t) ps in
    subst P (same-watched rv.watches c.args.spec w m c.at.ensures there)
    (subst Q (sym (kept-there rv.kept c.args.spec old c.at-2.ensures)) c.holds.ensures)
