-- The texts that are written for a net: all numbers are those of the net's variables and literals.
use Rattle.std.specs.Prelude.{ℕ, zero, suc, ◌+◌, ◌-◌, ◌*◌, ◌/◌, ◌%◌, Bool, true, false, cond, nat_lt, List, [], ◌∷◌, ◌++◌, length, slice_index_or, decimal, codes}
use Rattle.std.specs.List.{flat_map, range_with_len}
use Rattle.aig_net.specs.declared.parts.And.{And}
use Rattle.aig_net.specs.declared.parts.Reset.{Reset}
use Rattle.aig_net.specs.declared.parts.Reset.TheVariants.{Zero, One, Free}
use Rattle.aig_net.specs.Nets.{Net, latch_variable, first_and, and_at, literal_at, reset_at}
use Rattle.aiger_body.specs.Spelled.{line_of}

-- ---- rows of numbers

abbrev pub kept : ℕ → List ℕ → List ℕ
kept zero [] = []
kept (suc n) [] = suc n ∷ []
kept n (m ∷ more) = n ∷ m ∷ more

-- the numbers up to the last that is not 0
abbrev pub trimmed : List ℕ → List ℕ
trimmed [] = []
trimmed (n ∷ more) = kept n (trimmed more)

-- the greatest variable, and how many inputs, latches, outputs and ands there are; then bad literals,
-- constraints, justice properties and fairness literals, up to the last that is not 0
abbrev pub header_row : Net → List ℕ
header_row net =
    (net.inputs + length net.latches + length net.ands)
    ∷ net.inputs
    ∷ length net.latches
    ∷ length net.outputs
    ∷ length net.ands
    ∷ trimmed (0 ∷ length net.constraints ∷ 0 ∷ length net.fairs ∷ [])

-- how many numbers these are
abbrev pub header_len : ℕ → ℕ → ℕ
header_len constraints fairs = cond (nat_lt 0 fairs) 9 (cond (nat_lt 0 constraints) 7 5)

-- the literal of input j
abbrev pub input_row : ℕ → List ℕ
input_row j = 2 * suc j ∷ []

-- a reset is written where it is not 0; a latch's own literal says that it is uninitialised
abbrev pub reset_row : ℕ → Reset → List ℕ
reset_row own Zero = []
reset_row own One = 1 ∷ []
reset_row own Free = own ∷ []

-- the literal of latch j, which is left out in the binary form, its next literal and its reset
abbrev pub latch_row : Bool → Net → ℕ → List ℕ
latch_row binary net j =
    cond binary [] (2 * latch_variable net j ∷ []) ++ literal_at net.latches j ∷ reset_row (2 * latch_variable net j) (reset_at net.resets j)

-- the literal of and j, and its two right sides
abbrev pub and_row : Net → ℕ → List ℕ
and_row net j = 2 * (first_and net + j) ∷ (and_at net.ands j).left ∷ (and_at net.ands j).right ∷ []

-- ---- lines

-- n lines, each with its row
abbrev pub lines_of : (ℕ → List ℕ) → ℕ → List ℕ
lines_of row n = flat_map (λ j. line_of (row j)) (range_with_len 0 n)

-- a line for each literal
abbrev pub literal_lines : List ℕ → List ℕ
literal_lines literals = flat_map (λ l. line_of (l ∷ [])) literals

-- outputs, constraints, fairness literals
abbrev pub uses_text : Net → List ℕ
uses_text net = (literal_lines net.outputs ++ literal_lines net.constraints) ++ literal_lines net.fairs

-- ---- symbols

abbrev pub name_at : List (List ℕ) → ℕ → List ℕ
name_at names n = slice_index_or names n []

-- the letter, the number, a space and the name; nothing where there is none
abbrev pub symbol_line : ℕ → ℕ → List ℕ → List ℕ
symbol_line letter n [] = []
symbol_line letter n (b ∷ name) = letter ∷ decimal n ++ 32 ∷ b ∷ name ++ 10 ∷ []

abbrev pub symbols_text : ℕ → List (List ℕ) → List ℕ
symbols_text letter names = flat_map (λ n. symbol_line letter n (name_at names n)) (range_with_len 0 (length names))

-- inputs, latches, outputs
abbrev pub names_text : Net → List ℕ
names_text net = (symbols_text 105 net.input_names ++ symbols_text 108 net.latch_names) ++ symbols_text 111 net.output_names

-- ---- the ands of the binary form

-- the groups of 7 bits of a number below 128 to the power of one more than the first, least first
unfoldable pub groups_of : ℕ → ℕ → List ℕ
groups_of zero n = n ∷ []
groups_of (suc more) n = cond (nat_lt n 128) (n ∷ []) ((128 + n % 128) ∷ groups_of more (n / 128))

-- the differences of the literal, the left and the right side
abbrev pub and_groups : ℕ → And → List ℕ
and_groups lhs gate = groups_of 9 (lhs - gate.left) ++ groups_of 9 (gate.left - gate.right)

abbrev pub deltas_of : Net → ℕ → List ℕ
deltas_of net j = and_groups (2 * (first_and net + j)) (and_at net.ands j)

-- ---- the texts

abbrev pub aag_text : Net → List ℕ
aag_text net =
    codes "aag " ++ line_of (header_row net) ++ lines_of input_row net.inputs ++ lines_of (latch_row false net) (length net.latches) ++ uses_text net
    ++ lines_of (and_row net) (length net.ands) ++ names_text net

abbrev pub aig_text : Net → List ℕ
aig_text net =
    codes "aig " ++ line_of (header_row net) ++ lines_of (latch_row true net) (length net.latches) ++ uses_text net
    ++ flat_map (deltas_of net) (range_with_len 0 (length net.ands)) ++ names_text net
