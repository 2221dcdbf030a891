use Rattle.std.proofs.Common.{◌≡◌, ℕ, ◌*◌, ap, ◌∙◌, arith}
use Rattle.aig_net.specs.Nets.{variables}
use Rattle.case_tools.proofs.circuit_report.copies.Goals as goal

same-product : (a b c d : ℕ) → a ≡ c → b ≡ d → a * b ≡ d * c
same-product a b c d e h = ap (λ a. a * b) e ∙ ap (λ b. c * b) h ∙ omega arith

pub compose-requires-clause-room : goal.compose-requires-clause-room
compose-requires-clause-room c =
    let same = same-product c.from.result c.from-2.result (variables c.args.net.now) c.args.n
    (c.from.ensures ∙ c.variables.ensures.count) c.from-2.ensures in
    omega (
      arith,
      same,
      c.copies_are_as_large.ensures.variables c.args.net.now c.args.n (omega arith),
    )
