-- Symbol lines and the comment.
use Rattle.std.specs.Prelude.{ℕ, zero, suc, Bool, false, cond, not, ◌&&◌, ◌||◌, nat_eq, nat_lt, List, [], ◌∷◌, length, slice_index, bytes_eq, codes, Option, Some, None, unwrap_or}
use Rattle.std.specs.List.{before_first, after_first, position_or_len}
use Rattle.hy_text.specs.Numbers.{number_of}
use Rattle.aiger_body.specs.Texts.{pieces, piece_at, is_ended, is_feed, is_return, is_space, line_text}
use Rattle.aig_order.specs.Firsts.{first_below, any_below}
use Rattle.aiger_body.specs.declared.header.Header.{Header}
use Rattle.aiger_body.specs.Files.{tail}

pub record Symbol : Type 0 where
  pub kind : ℕ  -- the letter
  pub number : ℕ
  pub name : List ℕ

-- the letters of inputs, latches, outputs, bad literals, constraints, justice properties, fairness literals
abbrev pub letters : List ℕ
letters = codes "ilobcjf"

-- the place of a letter among them, 7 where it is none
abbrev pub kind_number : ℕ → ℕ
kind_number letter = position_or_len (nat_eq letter) letters

-- how many there are of each kind
abbrev pub symbol_counts : Header → List ℕ
symbol_counts h = h.inputs ∷ h.latches ∷ h.outputs ∷ h.bads ∷ h.constraints ∷ h.justices ∷ h.fairs ∷ []

abbrev pub count_of : Header → ℕ → ℕ
count_of h letter = slice_index (symbol_counts h) (kind_number letter)

abbrev pub symbol_with : ℕ → Option ℕ → List ℕ → Option Symbol
symbol_with kind (Some n) name = Some (record { kind = kind; number = n; name = name })
symbol_with kind None name = None

-- a letter, a number, a space and the name
abbrev pub symbol_of : List ℕ → Option Symbol
symbol_of [] = None
symbol_of (kind ∷ text) = symbol_with kind (number_of (before_first is_space text)) (after_first is_space text)

abbrev pub is_name : List ℕ → Bool
is_name name = nat_lt 0 (length name) && not (is_ended is_return name)

abbrev pub is_symbol : Header → Option Symbol → Bool
is_symbol h (Some s) = nat_lt s.number (count_of h s.kind) && is_name s.name
is_symbol h None = false

abbrev pub names_same : Option Symbol → Option Symbol → Bool
names_same (Some s) (Some t) = nat_eq s.kind t.kind && nat_eq s.number t.number
names_same _ _ = false

abbrev pub tail_lines : Header → List ℕ → List (List ℕ)
tail_lines h bytes = pieces is_feed (tail h bytes)

-- A line `c` begins the comment; at the end of the file it may lack its end.
abbrev pub begins_comment : List ℕ → Bool
begins_comment line = (is_ended is_feed line && bytes_eq (line_text line) (codes "c")) || bytes_eq line (codes "c")

-- how many lines there are before the comment
abbrev pub symbol_lines : Header → List ℕ → ℕ
symbol_lines h bytes = unwrap_or (first_below (length (tail_lines h bytes)) (λ k. begins_comment (piece_at (tail_lines h bytes) k))) (length (tail_lines h bytes))

abbrev pub symbol : Header → List ℕ → ℕ → Option Symbol
symbol h bytes k = symbol_of (line_text (piece_at (tail_lines h bytes) k))

abbrev pub is_repeated : Header → List ℕ → ℕ → Bool
is_repeated h bytes k = any_below k (λ j. names_same (symbol h bytes j) (symbol h bytes k))

abbrev pub is_good_symbol : Header → List ℕ → ℕ → Bool
is_good_symbol h bytes k =
    is_ended is_feed (piece_at (tail_lines h bytes) k) && is_symbol h (symbol h bytes k) && not (is_repeated h bytes k)

abbrev pub name_in : ℕ → ℕ → Option Symbol → List ℕ → List ℕ
name_in kind n (Some s) other = cond (nat_eq s.kind kind && nat_eq s.number n) s.name other
name_in kind n None other = other

-- the name of the n-th of a kind in the first k lines, empty where it has none
abbrev pub name_below : Header → List ℕ → ℕ → ℕ → ℕ → List ℕ
name_below h bytes kind n zero = []
name_below h bytes kind n (suc k) = name_in kind n (symbol h bytes k) (name_below h bytes kind n k)

abbrev pub name_of : Header → List ℕ → ℕ → ℕ → List ℕ
name_of h bytes kind n = name_below h bytes kind n (symbol_lines h bytes)
