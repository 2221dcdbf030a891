-- Copies of a net side by side: item j of copy c of n stands at place j * n + c.
use Rattle.std.specs.Prelude.{ℕ, zero, suc, ◌+◌, ◌*◌, ◌/◌, ◌%◌, false, List, []}
use Rattle.aig_net.specs.declared.parts.And.{And}
use Rattle.aig_net.specs.declared.parts.Reset.{Reset}
use Rattle.aig_net.specs.Copies.{copied}
use Rattle.aig_net.specs.Nets.{Net, under}
use Rattle.aig_net.specs.Executions.{Word}

-- the variable of copy c of n
abbrev pub place : ℕ → ℕ → ℕ → ℕ
place n c zero = 0
place n c (suc v) = suc (v * n + c)

abbrev pub copy_literal : ℕ → ℕ → ℕ → ℕ
copy_literal n c l = under (λ v. 2 * place n c v) l

abbrev pub copy_and : ℕ → ℕ → And → And
copy_and n c a = record { left = copy_literal n c a.left; right = copy_literal n c a.right }

abbrev pub copy_reset : ℕ → ℕ → Reset → Reset
copy_reset n c reset = reset

-- The copies have no names.
abbrev pub copy_name : ℕ → ℕ → List ℕ → List ℕ
copy_name n c name = []

abbrev pub compose : Net → ℕ → Net
compose net n = record {
  inputs = net.inputs * n;
  latches = copied n (copy_literal n) net.latches;
  resets = copied n (copy_reset n) net.resets;
  ands = copied n (copy_and n) net.ands;
  outputs = copied n (copy_literal n) net.outputs;
  constraints = copied n (copy_literal n) net.constraints;
  fairs = copied n (copy_literal n) net.fairs;
  input_names = copied n (copy_name n) net.input_names;
  latch_names = copied n (copy_name n) net.latch_names;
  output_names = copied n (copy_name n) net.output_names;
}

-- the word of copy c
abbrev pub copy : ℕ → ℕ → Word → Word
copy n c word i v = word i (place n c v)

-- the word of the copies together
abbrev pub joined : ℕ → (ℕ → Word) → Word
joined n words i zero = false
joined n words i (suc u) = words (u % n) i (suc (u / n))
