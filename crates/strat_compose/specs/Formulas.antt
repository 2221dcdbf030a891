-- The driven formula: the existential copies keep their constraints and are fair, and the body
-- holds.
-- Its atoms go by the numbers of the driven net's outputs.
use Rattle.std.specs.Prelude.{ℕ, zero, suc, ◌*◌, Bool, true, false, cond, nat_eq, List, length}
use Rattle.hy_formula.specs.Temporal.{Words}
use Rattle.hy_formula.specs.Trees.{Tree, always, atom, finally, globally, and}
use Rattle.aig_net.specs.Nets.{Net, literal_at, literal_value}
use Rattle.aig_net.specs.Executions.{Word}
use Rattle.strat_compose.specs.declared.parts.Parts.{Parts}
use Rattle.hy_formula.specs.Atoms.{IndexedAtom, atoms_of}
use Rattle.strat_compose.specs.AtomNumbers.{numbered}
use Rattle.strat_compose.specs.Driving.{driven_outputs}

-- ---- what stands behind the outermost conjunctions

abbrev pub is_always : Tree → Bool
is_always always = true
is_always _ = false

-- a conjunction, from which `true` is left out
abbrev pub both : Tree → Tree → Tree
both f g = cond (is_always f) g (cond (is_always g) f (and f g))

-- what the conjuncts that begin with G say at each position
abbrev pub lasting : Tree → Tree
lasting (and f g) = both (lasting f) (lasting g)
lasting (globally f) = f
lasting _ = always

-- the other conjuncts
abbrev pub passing : Tree → Tree
passing (and f g) = both (passing f) (passing g)
passing (globally f) = always
passing f = f

abbrev pub all_along : Tree → Tree
all_along f = cond (is_always f) always (globally f)

-- the tree with one G in front of all that begins with G
abbrev pub gathered : Tree → Tree
gathered f = both (all_along (lasting f)) (passing f)

-- ---- the driven body

-- The output of this number holds at each position.
abbrev pub is_kept : ℕ → Tree
is_kept name = globally (atom name 0)

-- Each of n outputs from this number on holds again and again.
abbrev pub are_fair : ℕ → ℕ → Tree
are_fair name zero = always
are_fair name (suc n) = and (globally (finally (atom name 0))) (are_fair (suc name) n)

-- Where the circuit has no constraints, nothing is said of them.
abbrev pub kept_part : Net → ℕ → Tree
kept_part net name = cond (nat_eq (length net.constraints) 0) always (is_kept name)

abbrev pub demanded : Net → ℕ → List IndexedAtom → Tree → Tree
demanded net e atoms body =
    and (kept_part net (length atoms))
    (and (are_fair (suc (length atoms)) (e * length net.fairs)) (numbered atoms body))

abbrev pub driven_body : Net → ℕ → Tree → Tree
driven_body net e body = gathered (demanded net e (atoms_of body) body)

-- ---- words

-- what the outputs of the driven net show
abbrev pub output_words : Net → Net → Parts → (ℕ → ℕ) → List IndexedAtom → Word → Words
output_words net strategy parts signal atoms word name variable i =
    literal_value (word i) (literal_at (driven_outputs net strategy parts signal atoms) name)
