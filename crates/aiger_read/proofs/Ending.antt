-- Where the symbol lines end, and which names there are then.
use Rattle.std.proofs.Common.{◌≡◌, ℕ, suc, ◌+◌, ◌<◌, ◌≤◌, Bool, true, false, inl, inr, refl, sym, ◌∙◌, ap, arith, List, [], length, drop, Option, Some, None}
use Rattle.std.specs.Prelude.{unwrap_or}
use Rattle.std.proofs.lemmas.Bool.{cases_eq, cases_lt}
use Rattle.std.proofs.lemmas.List.{get_or_past, drop_all, length-drop}
use Rattle.std.proofs.lemmas.List.FromFn.{fill_by_all}
use Rattle.aiger_body.specs.declared.header.Header.{Header}
use Rattle.aig_order.specs.Firsts.{first_some, first_below}
use Rattle.aig_order.proofs.Firsts.{first-more, first-here, below-found}
use Rattle.aig_order.proofs.Sorted.{first-is, first-empty}
use Rattle.aiger_body.specs.Texts.{pieces, piece_at, place, is_feed}
use Rattle.aiger_body.specs.Files.{tail_start}
use Rattle.aiger_body.specs.Symbols.{tail_lines, symbol_lines, begins_comment, name_below, name_of}
use Rattle.aiger_body.specs.Outcomes.{Refusal, of_symbol, names_of}
use Rattle.aiger_body.specs.Bodies.{IsTail}
use Rattle.aiger_body.proofs.Places.{pieces-from}
use Rattle.aiger_read.specs.declared.names.Reading.{Reading}
use Rattle.aiger_read.specs.Naming.{AreNamed}
use Rattle.aiger_read.proofs.Marking.{AreRead, AreGiven}

-- where no byte is left no line is
pub no_line : (bytes : List ℕ) (k at : ℕ) → at ≡ place (pieces is_feed bytes) k → length bytes ≤ at → length (pieces is_feed bytes) ≤ k
no_line bytes k at is all =
    let none : drop k (pieces is_feed bytes) ≡ [] = sym (pieces-from is_feed k bytes) ∙ ap (λ n. pieces is_feed (drop n bytes)) (sym is) ∙ ap (pieces is_feed) (drop_all at bytes all) in
    omega (arith, ap length none, length-drop k (pieces is_feed bytes))

-- a byte that is left is one of a line
pub some_line : (ps : List (List ℕ)) (k : ℕ) → 0 < length (piece_at ps k) → k < length ps
some_line ps k some = elim (cases_lt k (length ps)) [
  | inl less ↦ less
  | inr past ↦ absurd (omega (arith, some, ap length (get_or_past ps k [] past)))
]

module _ (h : Header) (bytes : List ℕ) (k : ℕ) (r : Reading) (are : AreRead h bytes k r) where
  abbrev is_comment : ℕ → Bool
  is_comment j = begins_comment (piece_at (tail_lines h bytes) j)

  comment-inside : is_comment k ≡ true → k < length (tail_lines h bytes)
  comment-inside e = elim (cases_lt k (length (tail_lines h bytes))) [
    | inl less ↦ less
    | inr past ↦ absurd (let no_comment : is_comment k ≡ false = ap begins_comment (get_or_past (tail_lines h bytes) k [] past) in cc)
  ]

  pub lines_comment : is_comment k ≡ true → symbol_lines h bytes ≡ k
  lines_comment e = ap (λ o. unwrap_or o (length (tail_lines h bytes))) (first-is (length (tail_lines h bytes)) is_comment k (comment-inside e) e are.open_lines)

  pub lines_all : length (tail_lines h bytes) ≡ k → symbol_lines h bytes ≡ k
  lines_all e =
      ap (λ o. unwrap_or o (length (tail_lines h bytes))) (first-empty (length (tail_lines h bytes)) is_comment (λ j lt. are.open_lines j (omega (arith, e, lt)))) ∙ e

  -- a line that is there and no comment is among them
  pub line_among : k < length (tail_lines h bytes) → is_comment k ≡ false → k < symbol_lines h bytes
  line_among inside plain = step (first_below (length (tail_lines h bytes)) is_comment) refl
    where
      step : (o : Option ℕ) → first_below (length (tail_lines h bytes)) is_comment ≡ o → k < unwrap_or o (length (tail_lines h bytes))
      step None e = inside
      step (Some m) e =
          let (lt, yes_comment) = below-found (length (tail_lines h bytes)) is_comment m e in
          elim (cases_lt k m) [
            | inl less ↦ less
            | inr le ↦ elim (cases_eq m k) [
              | inl same ↦ absurd (let clash : is_comment m ≡ false = ap is_comment same ∙ plain in cc)
              | inr other ↦ absurd (let clash = are.open_lines m (omega arith) in cc)
            ]
          ]

  pub fault_first : (refusal : Refusal) → k < symbol_lines h bytes → of_symbol h bytes k ≡ Some refusal → first_some (symbol_lines h bytes) (of_symbol h bytes) ≡ Some refusal
  fault_first refusal lt is = first-more (of_symbol h bytes) (suc k) (symbol_lines h bytes) refusal (omega arith) (first-here (of_symbol h bytes) k are.clear ∙ is)

  all-names : (letter count : ℕ) (names : List (List ℕ)) → symbol_lines h bytes ≡ k → length names ≡ count → AreGiven h bytes letter count k names → names ≡ names_of h bytes letter count
  all-names letter count names end long given =
      fill_by_all (name_of h bytes letter) names count [] long (λ n lt. given n lt ∙ ap (name_below h bytes letter n) (sym end))

  pub named_all : symbol_lines h bytes ≡ k → AreNamed h bytes r.names
  named_all end = record {
    clear = ap (λ n. first_some n (of_symbol h bytes)) end ∙ are.clear;
    inputs = all-names 105 h.inputs r.names.inputs end are.long.inputs are.inputs;
    latches = all-names 108 h.latches r.names.latches end are.long.latches are.latches;
    outputs = all-names 111 h.outputs r.names.outputs end are.long.outputs are.outputs;
  }

-- the byte of line k
pub line_byte : (h : Header) (bytes : List ℕ) (k base at : ℕ) → IsTail h bytes base → at ≡ place (tail_lines h bytes) k → tail_start h bytes + place (tail_lines h bytes) k ≡ base + at
line_byte h bytes k base at is here = omega (arith, here, is.within, ap length is.rest, length-drop base bytes)
