use Rattle.std.proofs.Common.{refl, ◌<◌, ◌^◌, ◌*◌, ℕ, sym, ◌∙◌, subst}
use Rattle.std.proofs.lemmas.Nat.{pow_pos}
use Rattle.fin_monitor.proofs.Exploring.{many-entries}
use Rattle.fin_monitor.proofs.Stepping.{kept-length}
use Rattle.fin_monitor.proofs.explore.Explored.number.Goals as goal

pub returns-then-len-bits-clause-refused : goal.returns-then-len-bits-clause-refused
returns-then-len-bits-clause-refused g c =
    let P : ℕ → Type 0 = λ n. 4194304 < n * 2 ^ c.args.bits in
    (refl, _, c.in_ok-place.place, c.in_ok-place.ensures, subst P (c.len.ensures.len ∙ sym (kept-length c.put.new.residuals.keys)) (many-entries 4194304 c.len.result (2 ^ c.args.bits) (pow_pos c.args.bits) c.if-len-bits.true))
