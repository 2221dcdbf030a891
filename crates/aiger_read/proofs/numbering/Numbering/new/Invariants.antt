use Rattle.std.proofs.Common.{◌≡◌, ◌+◌, ◌-◌, ℕ, drop, length, nat_eq}
use Rattle.std.specs.Prelude.{slice_index_or}
use Rattle.std.specs.List.{position_or_len}
use Rattle.aiger_read.proofs.numbering.Numbering.new.Given as goal

-- the places of the last i variables
abbrev pub invariant-loop-i : goal.invariant-loop-i
invariant-loop-i l = record {
  long : length l.places ≡ l.most + 1;
  places : (v : ℕ) → slice_index_or l.places v l.count ≡ length l.variables - l.i + position_or_len (nat_eq v) (drop (length l.variables - l.i) l.variables);
}
