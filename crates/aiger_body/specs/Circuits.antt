-- Which contents are circuits, and the net of a content.
use Rattle.std.specs.Prelude.{ℕ, ◌+◌, ◌*◌, ◌/◌, ◌%◌, ◌<◌, Bool, ◌||◌, nat_eq, max, min, List, ◌∷◌, ◌++◌, map, length, slice_index, slice_index_or, IsTrue}
use Rattle.std.specs.List.{position_or_len}
use Rattle.aig_net.specs.declared.parts.And.{And}
use Rattle.aig_net.specs.declared.parts.Reset.TheVariants.{Zero}
use Rattle.aig_net.specs.declared.parts.NetParts.{NetParts}
use Rattle.aig_order.specs.declared.gate.Gate.{Gate}
use Rattle.aiger_body.specs.declared.content.Latch.{Latch}
use Rattle.aiger_body.specs.declared.content.Content.{Content}
use Rattle.aig_order.specs.Firsts.{holds}
use Rattle.aiger_body.specs.Files.{own_variables, variables_of}
use Rattle.aig_order.specs.Gates.{gate_at, order, Depends}

-- The literal is constant, or its variable is defined.
abbrev pub is_defined : Content → ℕ → Bool
is_defined c l = nat_eq (l / 2) 0 || holds (l / 2) (variables_of c)

abbrev pub AllDefined : Content → List ℕ → Type 0
AllDefined c literals = (j : ℕ) → j < length literals → IsTrue (is_defined c (slice_index literals j))

abbrev pub no_latch : Latch
no_latch = record { own = 0; next = 0; reset = Zero }

-- What is used is defined, and no and depends on itself.
pub record IsCircuit (c : Content) : Type 0 where
  pub nexts : (j : ℕ) → j < length c.latches → IsTrue (is_defined c (slice_index_or c.latches j no_latch).next)
  pub gates : (k : ℕ) → k < length c.gates → IsTrue (is_defined c (gate_at c.gates k).left) × IsTrue (is_defined c (gate_at c.gates k).right)
  pub outputs : AllDefined c c.outputs
  pub constraints : AllDefined c c.constraints
  pub fairs : AllDefined c c.fairs
  pub acyclic : (k : ℕ) → k < length c.gates → ¬ Depends c.gates k k

-- the variables in the net's order: the constant, inputs, latches, ands
abbrev pub in_order : Content → List ℕ
in_order c = (0 ∷ own_variables c) ++ map (λ k. (gate_at c.gates k).lhs / 2) (order c.gates)

abbrev pub renumbered : Content → ℕ → ℕ
renumbered c l = 2 * position_or_len (nat_eq (l / 2)) (in_order c) + l % 2

-- the larger right side first
abbrev pub and_of : Content → Gate → And
and_of c g = record { left = max (renumbered c g.left) (renumbered c g.right); right = min (renumbered c g.left) (renumbered c g.right) }

-- names of the inputs, latches and outputs
pub record Names : Type 0 where
  pub inputs : List (List ℕ)
  pub latches : List (List ℕ)
  pub outputs : List (List ℕ)

abbrev pub net_of : Content → Names → NetParts
net_of c names = record {
  inputs = length c.inputs;
  latches = map (λ l. renumbered c l.next) c.latches;
  resets = map (λ l. l.reset) c.latches;
  ands = map (λ k. and_of c (gate_at c.gates k)) (order c.gates);
  outputs = map (renumbered c) c.outputs;
  constraints = map (renumbered c) c.constraints;
  fairs = map (renumbered c) c.fairs;
  input_names = names.inputs;
  latch_names = names.latches;
  output_names = names.outputs;
}
