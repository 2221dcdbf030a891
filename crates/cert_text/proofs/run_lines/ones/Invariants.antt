use Rattle.std.proofs.Common.{◌≡◌, map, nat_eq, take}
use Rattle.cert_text.proofs.run_lines.ones.Given as goal

abbrev pub invariant-loop-b : goal.invariant-loop-b
invariant-loop-b l = l.row ≡ map (λ b. nat_eq b 49) (take l.b-index l.word)
