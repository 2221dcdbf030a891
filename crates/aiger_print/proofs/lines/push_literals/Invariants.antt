use Rattle.std.proofs.Common.{◌≡◌, ◌∷◌, [], ◌++◌, flat_map, take}
use Rattle.aiger_body.specs.Spelled.{line_of}
use Rattle.aiger_print.proofs.lines.push_literals.Given as goal

abbrev pub invariant-loop-l : goal.invariant-loop-l
invariant-loop-l l = l.text ≡ l.fn.text ++ flat_map (λ x. line_of (x ∷ [])) (take l.l-index l.literals)
