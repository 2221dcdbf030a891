-- What a text of bytes is: a net, past the limit, or at fault.
use Rattle.std.specs.Prelude.{ℕ, ◌+◌, ◌-◌, ◌*◌, ◌/◌, ◌%◌, Bool, cond, not, ◌&&◌, nat_le, nat_lt, List, map, length, slice_index, Option, Some, None}
use Rattle.std.specs.List.{range_with_len, list_any}
use Rattle.aig_net.specs.declared.parts.NetParts.{NetParts}
use Rattle.aig_kind.specs.declared.kind.AigKind.{AigKind}
use Rattle.aig_kind.specs.declared.kind.AigKind.TheVariants.{Header as HeaderFault, Literal, Redefined, Delta, Truncated, Undefined, Cycle, Symbol as SymbolFault}
use Rattle.aiger_body.specs.declared.header.Header.{Header}
use Rattle.aiger_body.specs.declared.section.Section.TheVariants.{Gates}
use Rattle.aiger_body.specs.Texts.{piece_at, place, is_ended, is_feed, line_text}
use Rattle.aig_order.specs.Firsts.{when, otherwise, first_some}
use Rattle.aiger_body.specs.Files.{header_of, is_header, before, plan, counted, section, lines, line, line_start, row, is_right, defined, used, defined_before, ends_number, groups, group_start, delta, binary_lhs, content, tail_start}
use Rattle.aig_order.specs.Gates.{depends}
use Rattle.aiger_body.specs.Circuits.{is_defined, Names, net_of}
use Rattle.aiger_body.specs.Symbols.{tail_lines, symbol_lines, is_good_symbol, name_of}

pub data Refusal : Type 0 where
  limit : Refusal
  fault : AigKind → ℕ → Refusal

pub data Outcome : Type 0 where
  read : NetParts → Outcome
  refused : Refusal → Outcome

-- ---- the table of faults

abbrev pub of_header : Header → Option Refusal
of_header h =
    otherwise (when (not (is_header h)) (fault HeaderFault 0))
    (when (nat_lt 1048576 h.top) limit)

-- what is wrong with counted line k
abbrev pub of_line : Header → List ℕ → ℕ → Option Refusal
of_line h bytes k =
    otherwise (when (not (is_ended is_feed (line bytes k))) (fault Truncated (length bytes)))
    (otherwise (when (not (is_right h (section h bytes k) (row h bytes k))) (fault Literal (line_start bytes k)))
    (when (not h.binary && list_any (defined_before h bytes k) (defined (section h bytes k) (row h bytes k))) (fault Redefined (line_start bytes k))))

-- the least and the greatest value of number j of the binary ands
abbrev pub least : ℕ → ℕ
least j = 1 - j % 2

abbrev pub greatest : Header → List ℕ → ℕ → ℕ
greatest h bytes j = binary_lhs h (j / 2) - (j % 2) * delta h bytes (j - 1)

-- what is wrong with number j of the binary ands
abbrev pub of_number : Header → List ℕ → ℕ → Option Refusal
of_number h bytes j =
    otherwise (when (nat_le 128 (slice_index (piece_at (groups h bytes) j) 9)) (fault Delta (group_start h bytes j)))
    (otherwise (when (not (is_ended ends_number (piece_at (groups h bytes) j))) (fault Truncated (length bytes)))
    (when (not (nat_le (least j) (delta h bytes j) && nat_le (delta h bytes j) (greatest h bytes j))) (fault Delta (group_start h bytes j))))

-- how many numbers the ands have in the binary form
abbrev pub numbers : Header → ℕ
numbers h = cond h.binary (2 * h.ands) 0

abbrev pub is_undefined : Header → List ℕ → ℕ → Bool
is_undefined h bytes l = not (is_defined (content h bytes) l)

abbrev pub of_uses : Header → List ℕ → ℕ → Option Refusal
of_uses h bytes k = when (list_any (is_undefined h bytes) (used (section h bytes k) (row h bytes k))) (fault Undefined (line_start bytes k))

abbrev pub of_cycle : Header → List ℕ → ℕ → Option Refusal
of_cycle h bytes k =
    when (depends (content h bytes).gates (length (content h bytes).gates) k k) (fault Cycle (line_start bytes (before (plan h bytes) Gates + k)))

abbrev pub of_symbol : Header → List ℕ → ℕ → Option Refusal
of_symbol h bytes k = when (not (is_good_symbol h bytes k)) (fault SymbolFault (tail_start h bytes + place (tail_lines h bytes) k))

-- what is found first: in the header, in the counted lines, in the binary ands, in what lines use,
-- in what ands depend on, in the symbols

abbrev pub after_uses : Header → List ℕ → Option Refusal
after_uses h bytes =
    otherwise (first_some (length (content h bytes).gates) (of_cycle h bytes)) (first_some (symbol_lines h bytes) (of_symbol h bytes))

abbrev pub after_numbers : Header → List ℕ → Option Refusal
after_numbers h bytes = otherwise (first_some (counted h bytes) (of_uses h bytes)) (after_uses h bytes)

abbrev pub after_lines : Header → List ℕ → Option Refusal
after_lines h bytes = otherwise (first_some (numbers h) (of_number h bytes)) (after_numbers h bytes)

abbrev pub after_header : Header → List ℕ → Option Refusal
after_header h bytes = otherwise (first_some (counted h bytes) (of_line h bytes)) (after_lines h bytes)

abbrev pub refusal : Header → List ℕ → Option Refusal
refusal h bytes = otherwise (of_header h) (after_header h bytes)

-- ---- the net

abbrev pub names_of : Header → List ℕ → ℕ → ℕ → List (List ℕ)
names_of h bytes kind count = map (λ n. name_of h bytes kind n) (range_with_len 0 count)

abbrev pub names : Header → List ℕ → Names
names h bytes = record {
  inputs = names_of h bytes 105 h.inputs;
  latches = names_of h bytes 108 h.latches;
  outputs = names_of h bytes 111 h.outputs;
}

abbrev pub circuit : Header → List ℕ → NetParts
circuit h bytes = net_of (content h bytes) (names h bytes)

abbrev pub judged : NetParts → Option Refusal → Outcome
judged c None = read c
judged c (Some r) = refused r

abbrev pub with_header : List ℕ → Option Header → Outcome
with_header bytes (Some h) = judged (circuit h bytes) (refusal h bytes)
with_header bytes None = refused (fault HeaderFault 0)

abbrev pub first_line : List ℕ → List ℕ
first_line bytes = piece_at (lines bytes) 0

abbrev pub outcome : List ℕ → Outcome
outcome bytes = cond (is_ended is_feed (first_line bytes)) (with_header bytes (header_of (line_text (first_line bytes)))) (refused (fault Truncated (length bytes)))
