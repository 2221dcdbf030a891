use Rattle.std.proofs.Common.{ℕ, ◌-◌, ◌↔◌, true, ◌∷◌, sym, subst}
use Rattle.cert_text.specs.declared.want.Want.TheVariants.{Facts}
use Rattle.cert_text.specs.Wants.{FillProofs, Fills}
use Rattle.cert_text.proofs.Stepping.{free_step, no_proof, rank_step}
use Rattle.cert_text.proofs.take.take_proof.Goals as goal

pub returns-in-Some : goal.returns-in-Some
returns-in-Some c = λ rest.
    rank_step c.args.proofs c.in-Some.branches c.in-Some.ranks c.args.line.now rest
    c.if-proofs-eq0.false c.in-Some.ensures

pub returns-in-Some-free_head : goal.returns-in-Some-free_head
returns-in-Some-free_head c = λ rest.
    let P : ℕ → Type 0 =
    λ logs. FillProofs c.args.proofs (c.args.line.now ∷ rest)
    ↔ Fills (Facts true c.in-Some-free_head.facts logs (c.args.proofs - 1)) rest in
    subst P (sym c.logs_of.ensures)
    (free_step c.args.proofs c.in-Some-free_head.depth c.in-Some-free_head.facts c.args.line.now
    rest c.if-proofs-eq0.false c.in-Some-free_head.ensures.said)

pub returns-in-None : goal.returns-in-None
returns-in-None c = λ rest.
    no_proof c.args.proofs c.args.line.now rest c.if-proofs-eq0.false c.in_default.ensures
    c.in-None.ensures.said
