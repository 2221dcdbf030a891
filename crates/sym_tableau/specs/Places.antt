-- A net with oracles by what its making knows: the inputs and oracles, and what was made before.
use Rattle.std.specs.Prelude.{◌≡◌, ℕ, suc, ◌+◌, ◌*◌, ◌/◌, ◌^◌, ◌<◌, ◌≤◌, List, [], ◌∷◌, ◌++◌, cond, nat_lt, map, length, All}
use Rattle.aig_net.specs.declared.parts.And.{And}
use Rattle.aig_net.specs.declared.parts.Reset.{Reset}
use Rattle.aig_net.specs.declared.parts.Reset.TheVariants.{Zero}
use Rattle.aig_net.specs.declared.signals.Signal.{Signal}
use Rattle.aig_net.specs.Nets.{Net, Below, under, literal_at, variables}
use Rattle.aig_net.specs.Wires.{Wire, literal, opposed, either, made_all, made_each}
use Rattle.hy_base.specs.Rows.{listed}
use Rattle.ltl_closure.specs.Nodes.{Node, node_at}
use Rattle.sym_tableau.specs.declared.attaching.Promised.{Promised}
use Rattle.sym_tableau.specs.declared.places.Places.{Places}
use Rattle.sym_tableau.specs.Oracles.{attach, end_of, fair_wires, foretold, gathered, is_temporal, kept_wires, member_wire, moved_literal, optional, oracles, oracles_below, signal_in}

abbrev pub places_of : Net → List Node → Places
places_of net nodes = record { inputs = net.inputs; oracles = oracles nodes }

-- There is room for the oracles and their latches.
abbrev pub HasRoom : Places → Type 0
HasRoom p = suc (p.inputs + p.oracles + p.oracles) < 2 ^ 31

-- ---- literals

abbrev pub moved_of : Places → ℕ → ℕ
moved_of p l = under (λ v. 2 * cond (nat_lt p.inputs v) (v + (p.oracles + suc p.oracles)) v) l

abbrev pub moved_and_of : Places → And → And
moved_and_of p a = record { left = moved_of p a.left; right = moved_of p a.right }

-- There is room for what stands for the literal.
abbrev pub Reaches : Places → ℕ → Type 0
Reaches p l = l / 2 + (p.oracles + suc p.oracles) < 2 ^ 31

abbrev pub ReachesAnd : Places → And → Type 0
ReachesAnd p a = Reaches p a.left × Reaches p a.right

-- oracle o, and its latch
abbrev pub oracle_of : Places → ℕ → ℕ
oracle_of p o = 2 * suc (p.inputs + o)

abbrev pub owed_of : Places → ℕ → ℕ
owed_of p o = 2 * suc (p.inputs + p.oracles + o)

abbrev pub started_of : Places → ℕ
started_of p = 2 * suc (p.inputs + p.oracles + p.oracles)

-- ---- wires

abbrev pub signal_of : Places → List Signal → ℕ → ℕ → ℕ
signal_of p signals name var = moved_of p (signal_in signals name var)

-- the value of member k, by the literals of those before
abbrev pub value_of : Places → List Node → List Signal → (ℕ → ℕ) → ℕ → Wire
value_of p nodes signals lit k =
    member_wire (signal_of p signals) lit (oracle_of p (oracles_below nodes k)) (node_at nodes k)

-- What member k foretold holds.
abbrev pub promise_of : Places → ℕ → (ℕ → ℕ) → ℕ → Node → List Wire
promise_of p o lit k node =
    optional (is_temporal node)
    (either (opposed (literal (owed_of p o))) (literal (lit (foretold k node))))

abbrev pub promise_at : Places → List Node → (ℕ → ℕ) → ℕ → List Wire
promise_at p nodes lit k = promise_of p (oracles_below nodes k) lit k (node_at nodes k)

-- Root r holds at the start.
abbrev pub beginning_at : Places → (ℕ → ℕ) → List ℕ → ℕ → List Wire
beginning_at p lit roots r =
    either (literal (started_of p)) (literal (lit (literal_at roots r))) ∷ []

abbrev pub end_at : List Node → (ℕ → ℕ) → ℕ → List Wire
end_at nodes lit k = end_of lit k (node_at nodes k)

-- the constraints of the members and of the roots
abbrev pub constraints_of : Places → List Node → (ℕ → ℕ) → List ℕ → List Wire
constraints_of p nodes lit roots =
    gathered (promise_at p nodes lit) (length nodes)
    ++ gathered (beginning_at p lit roots) (length roots)

-- ---- latches

-- the next literals and the resets of all latches, by those of the net's
abbrev pub nexts_of : Places → List ℕ → List ℕ
nexts_of p latches = listed 0 p.oracles (oracle_of p) ++ 1 ∷ map (moved_of p) latches

abbrev pub resets_of : Places → List Reset → List Reset
resets_of p resets = listed 0 p.oracles (λ _. Zero) ++ Zero ∷ resets

-- the variable of the first and, where the net has so many latches
abbrev pub first_of : Places → ℕ → ℕ
first_of p latches = suc (p.inputs + p.oracles + (p.oracles + suc latches))

-- ---- what was made

-- n wires were made, each with the literals of those before: the new ands, and the literals
pub record MakesEach (first : ℕ) (old : List And) (wire : (ℕ → ℕ) → ℕ → Wire) (n : ℕ)
    (new : List And) (ls : List ℕ) : Type 0 where
  pub ands : new ≡ (made_each first old wire n).ands
  pub literals : ls ≡ (made_each first old wire n).literals

-- There is room for their ands.
abbrev pub FitsEach : ℕ → List And → ((ℕ → ℕ) → ℕ → Wire) → ℕ → Type 0
FitsEach first old wire n = first + length (made_each first old wire n).ands ≤ 2 ^ 31

-- The wires were made after the old ands, and their literals were added to a list.
pub record Adds (first : ℕ) (old : List And) (ws : List Wire) (new : List And)
    (before after : List ℕ) : Type 0 where
  pub ands : new ≡ (made_all first old ws).ands
  pub literals : after ≡ before ++ (made_all first old ws).literals

-- There is room for the net with oracles.
abbrev pub AttachFits : Net → List Node → (ℕ → ℕ → ℕ) → List ℕ → Type 0
AttachFits net nodes signals roots = variables (attach net nodes signals roots) ≤ 2 ^ 31

-- all gates are made, and the literals that they give
pub record ArePromised (net : Net) (nodes : List Node) (signals : ℕ → ℕ → ℕ) (roots : List ℕ)
    (made : Promised) : Type 0 where
  pub ands_are : made.ands ≡ (fair_wires net nodes signals roots).ands
  pub constraints_are : made.constraints ≡ map (moved_literal net nodes) net.constraints
      ++ (kept_wires net nodes signals roots).literals
  pub fairs_are : made.fairs ≡ map (moved_literal net nodes) net.fairs
      ++ (fair_wires net nodes signals roots).literals

-- The literals of the signals are those of variables below a number.
abbrev pub AreWithin : ℕ → List Signal → Type 0
AreWithin n signals = All (λ s. Below n s.literal) signals
