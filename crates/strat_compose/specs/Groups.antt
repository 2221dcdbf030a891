-- Copies of a net in a larger one: the literals that stand there for those of each copy.
use Rattle.std.specs.Prelude.{ℕ, zero, suc, ◌+◌, ◌-◌, ◌*◌, ◌^◌, ◌≤◌, nat_lt, cond, List, length}
use Rattle.aig_net.specs.declared.parts.And.{And}
use Rattle.aig_net.specs.Nets.{Below, Net, literal_at, literal_value, under, variables}
use Rattle.aig_net.specs.Executions.{Word}
use Rattle.aig_net.specs.Wires.{and_of}
use Rattle.aig_net.specs.Copies.{copied}
use Rattle.strat_compose.specs.declared.group.Group.{Group}

-- what stands for a variable of copy c
abbrev pub placed : Net → Group → ℕ → ℕ → ℕ
placed net group c zero = 0
placed net group c (suc v) =
    cond (nat_lt v net.inputs) (literal_at group.inputs (v * group.copies + c))
    (cond (nat_lt v (net.inputs + length net.latches))
    (2 * (group.latch + ((v - net.inputs) * group.copies + c)))
    (2 * (group.gate + ((v - (net.inputs + length net.latches)) * group.copies + c))))

abbrev pub literal_in : Net → Group → ℕ → ℕ → ℕ
literal_in net group c l = under (placed net group c) l

-- The larger literal of each and stands first, also where its input is a negated one.
abbrev pub and_in : Net → Group → ℕ → And → And
and_in net group c a = and_of (literal_in net group c a.left) (literal_in net group c a.right)

-- literals of the net in all copies: that of item j in copy c at place j * copies + c
abbrev pub literals_in : Net → Group → List ℕ → List ℕ
literals_in net group literals = copied group.copies (literal_in net group) literals

abbrev pub ands_in : Net → Group → List And
ands_in net group = copied group.copies (and_in net group) net.ands

-- The literals of all inputs are there, and there is room for all variables.
pub record HasRoom (net : Net) (group : Group) : Type 0 where
  pub variables_fit : variables net ≤ 2 ^ 31
  pub few : net.inputs * group.copies ≤ 2 ^ 31
  pub inputs : net.inputs * group.copies ≤ length group.inputs
  pub latches : group.latch + length net.latches * group.copies ≤ 2 ^ 31
  pub gates : group.gate + length net.ands * group.copies ≤ 2 ^ 31

-- The literals of the and are of the net's variables.
abbrev pub AndBelow : Net → And → Type 0
AndBelow net a = Below (variables net) a.left × Below (variables net) a.right

-- what copy c does in a word of the larger net
abbrev pub part : Net → Group → ℕ → Word → Word
part net group c word i v = literal_value (word i) (placed net group c v)
