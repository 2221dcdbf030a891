-- A net with an oracle for each temporal member of a closure, on whose executions the roots hold.
use Rattle.std.specs.Prelude.{ℕ, zero, suc, ◌+◌, ◌*◌, Bool, true, false, nat_lt, cond, unwrap_or, List, [], ◌∷◌, ◌++◌, map, length}
use Rattle.hy_formula.specs.Temporal.{Words}
use Rattle.ltl_closure.specs.Nodes as node
use Rattle.ltl_closure.specs.Nodes.{Node, always, never, and, or, next, weak_next, until, release, node_at}
use Rattle.aig_net.specs.declared.parts.And.{And}
use Rattle.aig_net.specs.declared.parts.Reset.{Reset}
use Rattle.aig_net.specs.declared.parts.Reset.TheVariants.{Zero}
use Rattle.aig_net.specs.declared.signals.Signal.{Signal}
use Rattle.aig_net.specs.Nets.{Net, under, opposite, literal_value, literal_at}
use Rattle.aig_net.specs.Executions.{Word}
use Rattle.aig_net.specs.Signals.{literal_of}
use Rattle.aig_net.specs.Wires.{Wire, literal, opposed, both, either, MadeAll, made_all, made_each}
use Rattle.hy_base.specs.Rows.{listed}

-- the literal of a name and a variable; one that is missing is false
abbrev pub signal_in : List Signal → ℕ → ℕ → ℕ
signal_in signals name var = unwrap_or (literal_of signals name var) 0

-- the words of a word of valuations, where a signal is a literal for each name and variable
abbrev pub read : (ℕ → ℕ → ℕ) → Word → Words
read signals word name variable i = literal_value (word i) (signals name variable)

abbrev pub is_temporal : Node → Bool
is_temporal (next g) = true
is_temporal (weak_next g) = true
is_temporal (until g h) = true
is_temporal (release g h) = true
is_temporal _ = false

-- the member whose value at the next position the oracle of member k foretells
abbrev pub foretold : ℕ → Node → ℕ
foretold k (next g) = g
foretold k (weak_next g) = g
foretold k _ = k

-- how many members below k have oracles
abbrev pub oracles_below : List Node → ℕ → ℕ
oracles_below nodes zero = 0
oracles_below nodes (suc k) =
    cond (is_temporal (node_at nodes k)) (suc (oracles_below nodes k)) (oracles_below nodes k)

abbrev pub oracles : List Node → ℕ
oracles nodes = oracles_below nodes (length nodes)

-- ---- variables

-- Latches and ands stand after the oracles, their latches and `started`.
abbrev pub moved : Net → List Node → ℕ → ℕ
moved net nodes v = cond (nat_lt net.inputs v) (v + (oracles nodes + suc (oracles nodes))) v

abbrev pub moved_literal : Net → List Node → ℕ → ℕ
moved_literal net nodes l = under (λ v. 2 * moved net nodes v) l

abbrev pub moved_and : Net → List Node → And → And
moved_and net nodes a = record {
  left = moved_literal net nodes a.left;
  right = moved_literal net nodes a.right;
}

-- the input that is the oracle of member k
abbrev pub oracle : Net → List Node → ℕ → ℕ
oracle net nodes k = 2 * suc (net.inputs + oracles_below nodes k)

-- the latch that has what the oracle of member k foretold
abbrev pub owed : Net → List Node → ℕ → ℕ
owed net nodes k = 2 * suc (net.inputs + oracles nodes + oracles_below nodes k)

abbrev pub started : Net → List Node → ℕ
started net nodes = 2 * suc (net.inputs + oracles nodes + oracles nodes)

-- Each oracle has a latch that takes its value; `started` takes 1.
abbrev pub attached_latches : Net → List Node → List ℕ
attached_latches net nodes =
    listed 0 (oracles nodes) (λ o. 2 * suc (net.inputs + o)) ++ 1 ∷ map (moved_literal net nodes)
    net.latches

abbrev pub attached_resets : Net → List Node → List Reset
attached_resets net nodes = listed 0 (oracles nodes) (λ _. Zero) ++ Zero ∷ net.resets

abbrev pub attached_first : Net → List Node → ℕ
attached_first net nodes =
    suc (net.inputs + oracles nodes + length (attached_latches net nodes))

-- ---- gates

-- the value of a member, by the literals of its parts and its oracle
abbrev pub member_wire : (ℕ → ℕ → ℕ) → (ℕ → ℕ) → ℕ → Node → Wire
member_wire signals lit o always = literal 1
member_wire signals lit o never = literal 0
member_wire signals lit o (node.literal b name variable) =
    literal (cond b (signals name variable) (opposite (signals name variable)))
member_wire signals lit o (and g h) = both (literal (lit g)) (literal (lit h))
member_wire signals lit o (or g h) = either (literal (lit g)) (literal (lit h))
member_wire signals lit o (next g) = literal o
member_wire signals lit o (weak_next g) = literal o
member_wire signals lit o (until g h) =
    either (literal (lit h)) (both (literal (lit g)) (literal o))
member_wire signals lit o (release g h) =
    both (literal (lit h)) (either (literal (lit g)) (literal o))

-- the values of the members, in number order
abbrev pub members : Net → List Node → (ℕ → ℕ → ℕ) → MadeAll
members net nodes signals =
    made_each (attached_first net nodes) (map (moved_and net nodes) net.ands)
    (λ lit k. member_wire (λ n v. moved_literal net nodes (signals n v)) lit
    (oracle net nodes k) (node_at nodes k)) (length nodes)

-- the lists of 0 to n - 1, one after the other
abbrev pub gathered : (ℕ → List Wire) → ℕ → List Wire
gathered f zero = []
gathered f (suc k) = gathered f k ++ f k

abbrev pub optional : Bool → Wire → List Wire
optional true w = w ∷ []
optional false w = []

-- What was foretold holds.
abbrev pub promise : Net → List Node → (ℕ → ℕ) → ℕ → List Wire
promise net nodes lit k =
    optional (is_temporal (node_at nodes k))
    (either (opposed (literal (owed net nodes k)))
    (literal (lit (foretold k (node_at nodes k)))))

-- A root holds at the start.
abbrev pub beginning : Net → List Node → (ℕ → ℕ) → ℕ → Wire
beginning net nodes lit root = either (literal (started net nodes)) (literal (lit root))

-- An until does not hold, or its end does.
abbrev pub end_of : (ℕ → ℕ) → ℕ → Node → List Wire
end_of lit k (until g h) = either (opposed (literal (lit k))) (literal (lit h)) ∷ []
end_of lit k _ = []

abbrev pub promises : Net → List Node → (ℕ → ℕ) → List ℕ → List Wire
promises net nodes lit roots =
    gathered (promise net nodes lit) (length nodes) ++ map (beginning net nodes lit) roots

abbrev pub ends : List Node → (ℕ → ℕ) → List Wire
ends nodes lit = gathered (λ k. end_of lit k (node_at nodes k)) (length nodes)

abbrev pub kept_wires : Net → List Node → (ℕ → ℕ → ℕ) → List ℕ → MadeAll
kept_wires net nodes signals roots =
    made_all (attached_first net nodes) (members net nodes signals).ands
    (promises net nodes (literal_at (members net nodes signals).literals) roots)

abbrev pub fair_wires : Net → List Node → (ℕ → ℕ → ℕ) → List ℕ → MadeAll
fair_wires net nodes signals roots =
    made_all (attached_first net nodes) (kept_wires net nodes signals roots).ands
    (ends nodes (literal_at (members net nodes signals).literals))

abbrev pub no_names : ℕ → List (List ℕ)
no_names n = listed 0 n (λ _. [])

-- The variables have no names.
abbrev pub attach : Net → List Node → (ℕ → ℕ → ℕ) → List ℕ → Net
attach net nodes signals roots = record {
  inputs = net.inputs + oracles nodes;
  latches = attached_latches net nodes;
  resets = attached_resets net nodes;
  ands = (fair_wires net nodes signals roots).ands;
  outputs = map (moved_literal net nodes) net.outputs;
  constraints = map (moved_literal net nodes) net.constraints
      ++ (kept_wires net nodes signals roots).literals;
  fairs = map (moved_literal net nodes) net.fairs
      ++ (fair_wires net nodes signals roots).literals;
  input_names = no_names (net.inputs + oracles nodes);
  latch_names = no_names (length (attached_latches net nodes));
  output_names = no_names (length net.outputs);
}

-- the word of the net below
abbrev pub unmoved : Net → List Node → Word → Word
unmoved net nodes word i v = word i (moved net nodes v)
