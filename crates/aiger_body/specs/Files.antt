-- The header, the counted lines and the ands of a circuit text.
use Rattle.std.specs.Prelude.{ℕ, suc, ◌+◌, ◌-◌, ◌*◌, ◌/◌, ◌%◌, Bool, true, false, cond, ◌&&◌, ◌||◌, nat_eq, nat_le, nat_lt, List, [], ◌∷◌, ◌++◌, map, length, take, drop, slice_index, slice_index_or, codes, bytes_eq, Option, Some, None, sum}
use Rattle.std.specs.List.{concat, range_with_len}
use Rattle.aig_net.specs.declared.parts.Reset.{Reset}
use Rattle.aig_net.specs.declared.parts.Reset.TheVariants.{Zero, One, Free}
use Rattle.aiger_body.specs.declared.header.Header.{Header}
use Rattle.aiger_body.specs.declared.section.Section.{Section}
use Rattle.aiger_body.specs.declared.section.Section.TheVariants.{Inputs, Latches, Outputs, Bads, Constraints, Sizes, Justices, Fairs, Gates}
use Rattle.aiger_body.specs.declared.content.Latch.{Latch}
use Rattle.aig_order.specs.declared.gate.Gate.{Gate}
use Rattle.aiger_body.specs.declared.content.Content.{Content}
use Rattle.aiger_body.specs.Texts.{pieces, piece_at, place, is_feed, line_text, numbers_of}
use Rattle.aig_order.specs.Firsts.{any_below, holds}

-- A header has five to nine numbers; those left out are 0.
abbrev pub header_with : Bool → List ℕ → Option Header
header_with form (m ∷ i ∷ l ∷ o ∷ a ∷ more) =
    cond (nat_le (length more) 4)
    (Some (record { binary = form; top = m; inputs = i; latches = l; outputs = o; ands = a; bads = slice_index more 0; constraints = slice_index more 1; justices = slice_index more 2; fairs = slice_index more 3 }))
    None
header_with form _ = None

-- whether a text that begins so is in the binary form
abbrev pub form_of : List ℕ → Option Bool
form_of word = cond (bytes_eq word (codes "aag ")) (Some false) (cond (bytes_eq word (codes "aig ")) (Some true) None)

abbrev pub header_in : Option Bool → List ℕ → Option Header
header_in (Some form) numbers = header_with form numbers
header_in None numbers = None

abbrev pub header_of : List ℕ → Option Header
header_of text = header_in (form_of (take 4 text)) (numbers_of (drop 4 text))

-- The greatest variable is large enough, or in the binary form right.
abbrev pub is_header : Header → Bool
is_header h = cond h.binary (nat_eq h.top (h.inputs + h.latches + h.ands)) (nat_le (h.inputs + h.latches + h.ands) h.top)

abbrev pub number_in : Section → ℕ
number_in Inputs = 0
number_in Latches = 1
number_in Outputs = 2
number_in Bads = 3
number_in Constraints = 4
number_in Sizes = 5
number_in Justices = 6
number_in Fairs = 7
number_in Gates = 8

-- how many lines each section has, where the justice properties have this many literals
abbrev pub counts : Header → ℕ → List ℕ
counts h literals =
    (cond h.binary 0 h.inputs) ∷ h.latches ∷ h.outputs ∷ h.bads ∷ h.constraints ∷ h.justices ∷ literals ∷ h.fairs ∷ (cond h.binary 0 h.ands) ∷ []

-- the lines before the section
abbrev pub before : List ℕ → Section → ℕ
before counts s = sum (take (number_in s) counts)

abbrev pub of_section : {A : Type 0} → List ℕ → Section → List A → List A
of_section counts s rows = take (slice_index counts (number_in s)) (drop (before counts s) rows)

abbrev pub lines : List ℕ → List (List ℕ)
lines bytes = pieces is_feed bytes

-- the numbers of each line after the header
abbrev pub rows : List ℕ → List (List ℕ)
rows bytes = map (λ line. numbers_of (line_text line)) (drop 1 (lines bytes))

abbrev pub first_number : List ℕ → ℕ
first_number row = slice_index row 0

-- how many literals all justice properties have
abbrev pub literals : Header → List ℕ → ℕ
literals h bytes = sum (map first_number (of_section (counts h 0) Sizes (rows bytes)))

abbrev pub plan : Header → List ℕ → List ℕ
plan h bytes = counts h (literals h bytes)

-- how many lines are counted
abbrev pub counted : Header → List ℕ → ℕ
counted h bytes = sum (plan h bytes)

abbrev pub section_from : List ℕ → List Section → ℕ → Section
section_from (n ∷ counts) (s ∷ sections) k = cond (nat_lt k n) s (section_from counts sections (k - n))
section_from _ _ k = Gates

abbrev pub all_sections : List Section
all_sections = Inputs ∷ Latches ∷ Outputs ∷ Bads ∷ Constraints ∷ Sizes ∷ Justices ∷ Fairs ∷ Gates ∷ []

abbrev pub section : Header → List ℕ → ℕ → Section
section h bytes k = section_from (plan h bytes) all_sections k

-- In the binary form latch k has this literal, and in the other its line begins with it.
abbrev pub with_own : Header → ℕ → Section → List ℕ → List ℕ
with_own h k Latches row = cond h.binary (2 * (1 + h.inputs + k) ∷ row) row
with_own h k _ row = row

-- the numbers of counted line k
abbrev pub row : Header → List ℕ → ℕ → List ℕ
row h bytes k = with_own h k (section h bytes k) (slice_index_or (rows bytes) k [])

abbrev pub line : List ℕ → ℕ → List ℕ
line bytes k = piece_at (lines bytes) (suc k)

abbrev pub line_start : List ℕ → ℕ → ℕ
line_start bytes k = place (lines bytes) (suc k)

-- ---- what a line is to say

abbrev pub is_literal : Header → ℕ → Bool
is_literal h l = nat_le l (2 * h.top + 1)

-- The literal stands for a variable.
abbrev pub is_plain : Header → ℕ → Bool
is_plain h l = is_literal h l && (nat_lt 0 l && nat_eq (l % 2) 0)

abbrev pub is_reset : ℕ → ℕ → Bool
is_reset l reset = nat_eq reset 0 || (nat_eq reset 1 || nat_eq reset l)

abbrev pub is_input : Header → List ℕ → Bool
is_input h (l ∷ []) = is_plain h l
is_input h _ = false

abbrev pub is_latch : Header → List ℕ → Bool
is_latch h (l ∷ next ∷ []) = is_plain h l && is_literal h next
is_latch h (l ∷ next ∷ reset ∷ []) = is_plain h l && (is_literal h next && is_reset l reset)
is_latch h _ = false

abbrev pub is_use : Header → List ℕ → Bool
is_use h (l ∷ []) = is_literal h l
is_use h _ = false

abbrev pub is_size : List ℕ → Bool
is_size (n ∷ []) = true
is_size _ = false

abbrev pub is_gate : Header → List ℕ → Bool
is_gate h (l ∷ a ∷ b ∷ []) = is_plain h l && (is_literal h a && is_literal h b)
is_gate h _ = false

abbrev pub is_right : Header → Section → List ℕ → Bool
is_right h Inputs row = is_input h row
is_right h Latches row = is_latch h row
is_right h Outputs row = is_use h row
is_right h Bads row = is_use h row
is_right h Constraints row = is_use h row
is_right h Sizes row = is_size row
is_right h Justices row = is_use h row
is_right h Fairs row = is_use h row
is_right h Gates row = is_gate h row

-- the variable that a line defines
abbrev pub defined : Section → List ℕ → List ℕ
defined Inputs row = first_number row / 2 ∷ []
defined Latches row = first_number row / 2 ∷ []
defined Gates row = first_number row / 2 ∷ []
defined _ row = []

-- the literals that a line uses
abbrev pub used : Section → List ℕ → List ℕ
used Inputs row = []
used Latches row = take 1 (drop 1 row)
used Sizes row = []
used Gates row = drop 1 row
used _ row = row

-- Some line before this one defines the variable.
abbrev pub defined_before : Header → List ℕ → ℕ → ℕ → Bool
defined_before h bytes k v = any_below k (λ j. holds v (defined (section h bytes j) (row h bytes j)))

-- ---- the ands of the binary form

abbrev pub ends_number : ℕ → Bool
ends_number b = nat_lt b 128

-- what stands behind the counted lines
abbrev pub behind : Header → List ℕ → List ℕ
behind h bytes = concat (drop (suc (counted h bytes)) (lines bytes))

abbrev pub groups : Header → List ℕ → List (List ℕ)
groups h bytes = pieces ends_number (behind h bytes)

abbrev pub group_start : Header → List ℕ → ℕ → ℕ
group_start h bytes j = line_start bytes (counted h bytes) + place (groups h bytes) j

abbrev pub value_of : List ℕ → ℕ
value_of [] = 0
value_of (b ∷ bytes) = b % 128 + 128 * value_of bytes

abbrev pub delta : Header → List ℕ → ℕ → ℕ
delta h bytes j = value_of (piece_at (groups h bytes) j)

abbrev pub gate_of : List ℕ → Gate
gate_of row = record { lhs = slice_index row 0; left = slice_index row 1; right = slice_index row 2 }

abbrev pub binary_lhs : Header → ℕ → ℕ
binary_lhs h k = 2 * (1 + h.inputs + h.latches + k)

abbrev pub binary_gate : Header → List ℕ → ℕ → Gate
binary_gate h bytes k =
    record { lhs = binary_lhs h k; left = binary_lhs h k - delta h bytes (2 * k); right = binary_lhs h k - delta h bytes (2 * k) - delta h bytes (2 * k + 1) }

-- ---- the content

-- A latch starts at 0 where its line says nothing else.
abbrev pub reset_of : List ℕ → Reset
reset_of (l ∷ next ∷ reset ∷ []) = cond (nat_eq reset 0) Zero (cond (nat_eq reset 1) One Free)
reset_of _ = Zero

abbrev pub latch_of : List ℕ → Latch
latch_of row = record { own = slice_index row 0; next = slice_index row 1; reset = reset_of row }

abbrev pub own_literal : Latch → ℕ
own_literal l = l.own

abbrev pub section_rows : Header → List ℕ → Section → List (List ℕ)
section_rows h bytes s = map (λ k. row h bytes k) (range_with_len (before (plan h bytes) s) (slice_index (plan h bytes) (number_in s)))

abbrev pub content : Header → List ℕ → Content
content h bytes = record {
  inputs = cond h.binary (map (λ k. 2 * k) (range_with_len 1 h.inputs)) (map first_number (section_rows h bytes Inputs));
  latches = map latch_of (section_rows h bytes Latches);
  outputs = map first_number (section_rows h bytes Outputs);
  constraints = map first_number (section_rows h bytes Constraints);
  justice = literals h bytes;
  fairs = map first_number (section_rows h bytes Fairs);
  gates = cond h.binary (map (λ k. binary_gate h bytes k) (range_with_len 0 h.ands)) (map gate_of (section_rows h bytes Gates));
}

-- the variables of the inputs and latches
abbrev pub own_variables : Content → List ℕ
own_variables c = map (λ l. l / 2) (c.inputs ++ map own_literal c.latches)

-- the variables that the content defines
abbrev pub variables_of : Content → List ℕ
variables_of c = own_variables c ++ map (λ g. g.lhs / 2) c.gates

-- what stands behind the ands
abbrev pub tail : Header → List ℕ → List ℕ
tail h bytes = cond h.binary (concat (drop (2 * h.ands) (groups h bytes))) (behind h bytes)

abbrev pub tail_start : Header → List ℕ → ℕ
tail_start h bytes = length bytes - length (tail h bytes)
