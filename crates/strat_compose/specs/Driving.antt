-- The driven net: universal copies of a circuit, a strategy that reads their inputs, and
-- existential copies whose inputs are the strategy's outputs.
use Rattle.std.specs.Prelude.{◌≡◌, All, ℕ, unwrap_or, suc, ◌+◌, ◌-◌, ◌*◌, ◌<◌, ◌≤◌, nat_lt, cond, List, [], ◌∷◌, ◌++◌, map, length}
use Rattle.aig_net.specs.declared.parts.And.{And}
use Rattle.aig_net.specs.declared.parts.Reset.{Reset}
use Rattle.aig_net.specs.declared.parts.Reset.TheVariants.{Zero, One, Free}
use Rattle.aig_net.specs.declared.signals.Signal.{Signal}
use Rattle.aig_net.specs.Nets.{Below, Net, reset_at, variables}
use Rattle.aig_net.specs.Signals.{literal_of}
use Rattle.aig_net.specs.Wires.{Wire, literal, all_of, Made, made}
use Rattle.hy_base.specs.Rows.{listed}
use Rattle.aig_net.specs.Copies.{copied}
use Rattle.strat_compose.specs.declared.group.Group.{Group}
use Rattle.strat_compose.specs.declared.parts.Parts.{Parts}
use Rattle.strat_compose.specs.declared.driving.Kept.{Kept}
use Rattle.hy_formula.specs.Atoms.{IndexedAtom}
use Rattle.strat_compose.specs.Groups.{HasRoom, ands_in, literal_in, literals_in}

-- No latch is uninitialised.
abbrev pub AreSet : List Reset → Type 0
AreSet resets = (j : ℕ) → j < length resets → reset_at resets j ≡ Free → ⊥

-- The shape that a strategy must have for m universal and e existential copies.
pub record IsStrategy (net strategy : Net) (m e : ℕ) : Type 0 where
  pub inputs : strategy.inputs ≡ net.inputs * m
  pub outputs : length strategy.outputs ≡ net.inputs * e
  pub constraints : length strategy.constraints ≡ 0
  pub fairs : length strategy.fairs ≡ 0
  pub starts : AreSet strategy.resets

-- an uninitialised latch starts at 0
abbrev pub settled : Reset → Reset
settled Zero = Zero
settled One = One
settled Free = Zero

-- the circuit of the existential copies
abbrev pub settled_net : Net → Net
settled_net net = record net { resets = map settled net.resets }

abbrev pub same_reset : ℕ → Reset → Reset
same_reset c reset = reset

-- ---- places: inputs; latches of the universal copies, of the existential ones and of the
-- strategy; ands of the universal copies, of the strategy and of the existential ones

-- the literals of the driven net's own inputs: those of the universal copies and of the strategy
abbrev pub own_inputs : Net → ℕ → List ℕ
own_inputs net m = listed 0 (net.inputs * m) (λ i. 2 * suc i)

abbrev pub latch_count : Net → Net → ℕ → ℕ → ℕ
latch_count net strategy m e =
    length net.latches * m + length net.latches * e + length strategy.latches

-- the variable of the first and
abbrev pub first_gate : Net → Net → ℕ → ℕ → ℕ
first_gate net strategy m e = suc (net.inputs * m + latch_count net strategy m e)

abbrev pub universal_of : Net → Net → ℕ → ℕ → Group
universal_of net strategy m e = record {
  copies = m;
  inputs = own_inputs net m;
  latch = suc (net.inputs * m);
  gate = first_gate net strategy m e;
}

abbrev pub player_of : Net → Net → ℕ → ℕ → Group
player_of net strategy m e = record {
  copies = 1;
  inputs = own_inputs net m;
  latch = suc (net.inputs * m + (length net.latches * m + length net.latches * e));
  gate = first_gate net strategy m e + length net.ands * m;
}

-- An input of an existential copy is what the strategy puts out.
abbrev pub existential_of : Net → Net → ℕ → ℕ → Group
existential_of net strategy m e = record {
  copies = e;
  inputs = literals_in strategy (player_of net strategy m e) strategy.outputs;
  latch = suc (net.inputs * m + length net.latches * m);
  gate = first_gate net strategy m e + (length net.ands * m + length strategy.ands);
}

abbrev pub parts_of : Net → Net → ℕ → ℕ → Parts
parts_of net strategy m e = record {
  universal = universal_of net strategy m e;
  player = player_of net strategy m e;
  existential = existential_of net strategy m e;
}

-- ---- gates

abbrev pub conjunction : List ℕ → Wire
conjunction [] = literal 1
conjunction (l ∷ ls) = all_of (literal l) (map literal ls)

abbrev pub driven_ands : Net → Net → Parts → List And
driven_ands net strategy parts =
    (ands_in net parts.universal ++ ands_in strategy parts.player)
    ++ ands_in net parts.existential

-- the constraints of the existential copies
abbrev pub owed_literals : Net → Parts → List ℕ
owed_literals net parts = literals_in net parts.existential net.constraints

-- all ands, and the literal that says that the existential copies keep their constraints
abbrev pub kept : Net → Net → Parts → Made
kept net strategy parts =
    made parts.universal.gate (driven_ands net strategy parts)
    (conjunction (owed_literals net parts))

-- the literal of an atom, by the literal of its name in the circuit
abbrev pub atom_literal : Net → Parts → (ℕ → ℕ) → IndexedAtom → ℕ
atom_literal net parts signal a =
    cond (nat_lt a.variable parts.universal.copies)
    (literal_in net parts.universal a.variable (signal a.name))
    (literal_in net parts.existential (a.variable - parts.universal.copies) (signal a.name))

-- all ands and the literal were made
pub record AreKept (net strategy : Net) (parts : Parts) (made : Kept) : Type 0 where
  pub ands_are : made.ands ≡ (kept net strategy parts).ands
  pub literal_is : made.literal ≡ (kept net strategy parts).literal

-- ---- the net

abbrev pub driven_latches : Net → Net → Parts → List ℕ
driven_latches net strategy parts =
    (literals_in net parts.universal net.latches
    ++ literals_in net parts.existential net.latches)
    ++ literals_in strategy parts.player strategy.latches

abbrev pub driven_resets : Net → Net → Parts → List Reset
driven_resets net strategy parts =
    (copied parts.universal.copies same_reset net.resets
    ++ copied parts.existential.copies same_reset (map settled net.resets))
    ++ copied parts.player.copies same_reset strategy.resets

-- The atoms come first, then whether the constraints are kept, then the fairness literals of the
-- existential copies.
abbrev pub driven_outputs : Net → Net → Parts → (ℕ → ℕ) → List IndexedAtom → List ℕ
driven_outputs net strategy parts signal atoms =
    (map (atom_literal net parts signal) atoms ++ (kept net strategy parts).literal ∷ [])
    ++ literals_in net parts.existential net.fairs

abbrev pub no_names : ℕ → List (List ℕ)
no_names n = listed 0 n (λ _. [])

-- names of one byte each, from the digit 0 on
abbrev pub fresh_name : ℕ → List ℕ
fresh_name k = (48 + k) ∷ []

abbrev pub fresh_names : ℕ → List (List ℕ)
fresh_names n = listed 0 n fresh_name

-- how many names the outputs have
abbrev pub name_count : Net → ℕ → List IndexedAtom → ℕ
name_count net e atoms = length atoms + 1 + e * length net.fairs

abbrev pub driven : Net → Net → Parts → (ℕ → ℕ) → List IndexedAtom → Net
driven net strategy parts signal atoms = record {
  inputs = net.inputs * parts.universal.copies;
  latches = driven_latches net strategy parts;
  resets = driven_resets net strategy parts;
  ands = (kept net strategy parts).ands;
  outputs = driven_outputs net strategy parts signal atoms;
  constraints = literals_in net parts.universal net.constraints;
  fairs = literals_in net parts.universal net.fairs;
  input_names = no_names (net.inputs * parts.universal.copies);
  latch_names = no_names (length (driven_latches net strategy parts));
  output_names = fresh_names (length (driven_outputs net strategy parts signal atoms));
}

-- The signals are those of a body's names, each of the one variable 0.
abbrev pub signal_of : List Signal → ℕ → ℕ
signal_of signals name = unwrap_or (literal_of signals name 0) 0

-- ---- sizes

-- The literals of the signals are of the net's variables.
abbrev pub AreInside : Net → List Signal → Type 0
AreInside net signals = All (λ s. Below (variables net) s.literal) signals

-- There is room for each part.
pub record HaveRoom (net strategy : Net) (parts : Parts) : Type 0 where
  pub universal : HasRoom net parts.universal
  pub player : HasRoom strategy parts.player
  pub existential : HasRoom net parts.existential

-- The sizes of a circuit that was read: variables, and literals of its lists.
pub record IsSmall (net : Net) : Type 0 where
  pub variables : net.inputs + length net.latches + length net.ands ≤ 1048576
  pub literals : length net.outputs + length net.constraints + length net.fairs ≤ 67108864
