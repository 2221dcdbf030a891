use Rattle.std.proofs.Common.{◌≡◌, ◌*◌, map, None}
use Rattle.std.specs.List.{range_with_len}
use Rattle.aig_order.specs.Firsts.{first_some}
use Rattle.aiger_body.specs.Files.{binary_gate}
use Rattle.aiger_body.specs.Outcomes.{of_number}
use Rattle.aiger_body.specs.Deltas.{IsNumberAt}
use Rattle.aiger_body.proofs.deltas.read_gates.Given as goal

-- the ands so far, none of whose numbers is at fault
abbrev pub invariant-loop-k : goal.invariant-loop-k
invariant-loop-k l = record {
  clear : first_some (2 * l.k) (of_number l.header l.bytes) ≡ None;
  are : l.gates ≡ map (binary_gate l.header l.bytes) (range_with_len 0 l.k);
  at : IsNumberAt l.header l.bytes (2 * l.k) l.at;
}
